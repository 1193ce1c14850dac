use Rattle.std.proofs.Common.{◌∙◌, ap, sym, subst, ℕ, List}
use Rattle.lnt_io.proofs.WholeLemmas.{HasWritten, kept_written, left_from, more_written}
use Rattle.lnt_io.proofs.whole.write_whole.Goals as goal
use Rattle.lnt_io.proofs.whole.write_whole.Goals.{in-Ok, in-Err}

pub loop-preserved : goal.loop-preserved
loop-preserved g c =
    let IsSo : List ℕ → Type 0 =
    λ (z : List ℕ). HasWritten (g.W.Write.contents c.args.out.now) (g.W.Write.contents c.write.new.self) c.args.bytes.now z in
    elim c.match-write.branch [
      | in-Ok w ↦
          subst IsSo (left_from c.loop.rest.now w.in-Ok.count ∙ sym (ap (λ z. z.now) w.rest-is))
          (more_written (g.W.Write.contents c.args.out.now) (g.W.Write.contents c.loop.out) (g.W.Write.contents c.write.new.self)
          c.args.bytes.now c.loop.rest.now w.in-Ok.count c.loop.invariant w.in-Ok.ensures.bytes)
      | in-Err w ↦
          subst IsSo (sym (ap (λ z. z.now) w.rest-is))
          (kept_written (g.W.Write.contents c.args.out.now) (g.W.Write.contents c.loop.out) (g.W.Write.contents c.write.new.self)
          c.args.bytes.now c.loop.rest.now c.loop.invariant w.in-Err.ensures.bytes)
    ]
