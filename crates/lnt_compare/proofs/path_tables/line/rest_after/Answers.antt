use Rattle.std.proofs.Common.{◌∙◌, ◌-◌, ◌++◌, ℕ, List, ap, arith, drop, length, length-drop, refl, sym, true, take_all}
use Rattle.std.proofs.lemmas.Bool.Decides.{Decides-eqb}
use Rattle.std.proofs.lemmas.Slice.Eq.{starts_is}
use Rattle.lnt_compare.proofs.path_tables.line.rest_after.Goals as goal

pub returns : goal.returns
returns c =
    let text : List ℕ = c.args.text.now in
    let first : List ℕ = c.args.first.now in
    let begins = (starts_is Decides-eqb text first true c.if-not-starts_with.ensures.value).0 refl in
    begins ∙ ap (λ (t : List ℕ). first ++ t)
    (sym (take_all (length text - length first) (drop (length first) text) (omega (arith, length-drop (length first) text))))
