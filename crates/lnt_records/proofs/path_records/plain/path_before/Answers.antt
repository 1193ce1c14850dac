use Rattle.std.proofs.Common.{◌∙◌, ℕ, List, ap, drop, length, refl, subst, sym, take, true}
use Rattle.std.proofs.Math.Seq.{take-append_seam}
use Rattle.std.proofs.lemmas.Bool.Decides.{Decides-eqb}
use Rattle.std.proofs.lemmas.Slice.Eq.{starts_is}
use Rattle.lnt_records.specs.PathLines.{IsPathBefore}
use Rattle.lnt_records.proofs.PathLineLemmas.{path_again, path_at}
use Rattle.lnt_records.proofs.PathLineLaws.{rest_whole}
use Rattle.lnt_records.proofs.path_records.plain.path_before.Goals as goal

pub returns-in-Some : goal.returns-in-Some
returns-in-Some c =
    let again = (starts_is Decides-eqb _ c.args.last.now true c.if-starts_with.ensures.value).0 refl in
    subst (λ (path : List ℕ). IsPathBefore path (drop c.args.at c.args.table.now) (drop c.in-Some.next c.args.table.now))
    (sym (ap (λ (rest : List ℕ). take (length c.args.last.now) rest) again ∙ take-append_seam c.args.last.now _))
    (path_again c.args.table.now c.args.last.now _ c.args.at c.in-Some.next (rest_whole c.args.table.now c.args.at) again c.in-Some.ensures
    c.requires)

pub returns : goal.returns
returns c =
    path_at c.args.table.now c.in_ok-path.path.now _ c.args.at c.in_ok-path.length (rest_whole c.args.table.now c.args.at)
    c.in_ok-path.ensures.path
