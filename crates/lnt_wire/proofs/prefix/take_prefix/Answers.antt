use Rattle.std.proofs.Common.{refl, subst}
use Rattle.lnt_wire.specs.FrameBytes.{InitialBytes}
use Rattle.lnt_wire.specs.Reading.{At, Reads}
use Rattle.lnt_wire.proofs.FrameReadingLaws.{prefix_long}
use Rattle.lnt_wire.proofs.prefix.take_prefix.Goals as goal

pub returns-in_default-clause-err : goal.returns-in_default-clause-err
returns-in_default-clause-err c =
    let read =
    subst (λ (at : At). Reads (InitialBytes at.order) c.in-Ok.initial at c.initial_length.new.cursor) c.fork-ahead.ensures
    c.in-Ok.ensures.ok in
    prefix_long _ _ c.in-Ok.initial _ _ read c.in_default.ensures.err c.place-offset.ensures.value refl
