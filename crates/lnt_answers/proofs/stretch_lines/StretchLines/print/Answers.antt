use Rattle.std.proofs.Common.{◌≡◌, ◌∙◌, ◌++◌, Bool, List, ℕ, ap, cond, false, subst, sym, true, []}
use Rattle.std.specs.Io.KnownBytes.{Appends}
use Rattle.std.proofs.KnownBytes.{Appends-nil}
use Rattle.lnt_io.specs.Prefixes.{AppendsPrefix}
use Rattle.lnt_io.proofs.PrefixLaws.{prefix_none, so_stopped}
use Rattle.lnt_answers.specs.Stepping.{counts_in}
use Rattle.lnt_answers.proofs.stretch_lines.StretchLines.print.Goals as goal

pub returns-then-not-is_in-clause-line : goal.returns-then-not-is_in-clause-line
returns-then-not-is_in-clause-line g c =
    let outside : counts_in c.args.self.now.scope (g.D.ShownStretch.answered c.args.difference.now) ≡ false = cc in
    subst (λ (counts : Bool). Appends (g.W.Write.contents c.args.out.now) (g.W.Write.contents c.args.out.now)
    (cond counts (g.D.ShownStretch.shown c.args.difference.now c.args.end) [])) (sym outside)
    (Appends-nil (g.W.Write.contents c.args.out.now))

pub returns-then-not-is_in-clause-right : goal.returns-then-not-is_in-clause-right
returns-then-not-is_in-clause-right g c =
    let outside : counts_in c.args.self.now.scope (g.D.ShownStretch.answered c.args.difference.now) ≡ false = cc in
    sym (ap (λ (counts : Bool). cond counts false c.args.self.now.is_right) outside)

pub returns-in_err-put_line-clause-prefix : goal.returns-in_err-put_line-clause-prefix
returns-in_err-put_line-clause-prefix g c =
    so_stopped c.from_residual.result _ (prefix_none (g.W.Write.contents c.args.out.now) _)

pub returns-in_err-write_whole-clause-prefix : goal.returns-in_err-write_whole-clause-prefix
returns-in_err-write_whole-clause-prefix g c =
    let inside : counts_in c.args.self.now.scope (g.D.ShownStretch.answered c.args.difference.now) ≡ true = cc in
    let shown = g.D.ShownStretch.shown c.args.difference.now c.args.end in
    so_stopped c.from_residual-in_err-write_whole.result _
    (subst (λ (counts : Bool). AppendsPrefix (g.W.Write.contents c.args.out.now) (g.W.Write.contents c.write_whole.new.out)
    (cond counts shown [])) (sym inside)
    (subst (AppendsPrefix (g.W.Write.contents c.args.out.now) (g.W.Write.contents c.write_whole.new.out))
    (c.as_slice.ensures.value ∙ c.in_ok-put_line.ensures ∙ ap (λ (items : List ℕ). items ++ shown) c.clear.ensures.items)
    c.in_err-write_whole.ensures.prefix))

pub returns-clause-line : goal.returns-clause-line
returns-clause-line g c =
    let inside : counts_in c.args.self.now.scope (g.D.ShownStretch.answered c.args.difference.now) ≡ true = cc in
    let shown = g.D.ShownStretch.shown c.args.difference.now c.args.end in
    subst (λ (counts : Bool). Appends (g.W.Write.contents c.args.out.now) (g.W.Write.contents c.write_whole.new.out)
    (cond counts shown [])) (sym inside)
    (subst (Appends (g.W.Write.contents c.args.out.now) (g.W.Write.contents c.write_whole.new.out))
    (c.as_slice.ensures.value ∙ c.in_ok-put_line.ensures ∙ ap (λ (items : List ℕ). items ++ shown) c.clear.ensures.items)
    c.in_ok-write_whole.ensures.whole)

pub returns-clause-right : goal.returns-clause-right
returns-clause-right g c =
    let inside : counts_in c.args.self.now.scope (g.D.ShownStretch.answered c.args.difference.now) ≡ true = cc in
    sym (ap (λ (counts : Bool). cond counts false c.args.self.now.is_right) inside)
