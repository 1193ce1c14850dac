use Rattle.std.proofs.Common.{refl, sym, true}
use Rattle.std.proofs.lemmas.Bool.Decides.{Decides-eqb}
use Rattle.std.proofs.lemmas.Slice.Eq.{starts_is}
use Rattle.lnt_compare.proofs.WindowLaws.{text_passed}
use Rattle.lnt_compare.proofs.window.Window.pass_text.Goals as goal

pub returns-then-is_next : goal.returns-then-is_next
returns-then-is_next c =
    let begins = (starts_is Decides-eqb c.bytes.result.now c.args.text.now true c.if-is_next.ensures.value).0 refl in
    rw c.if-is_next.true (text_passed c.self.inside.block.items c.args.text.now c.args.self.now c.self.inside.at (sym c.self.view_is)
    (rw c.bytes.ensures at begins))
