use Rattle.std.proofs.Common.{◌++◌, List, ℕ, subst}
use Rattle.lnt_symbols.specs.BreakpadLines.{lines_of}
use Rattle.lnt_symbols.specs.Stepping.{HasRead}
use Rattle.lnt_symbols.proofs.ReadingLemmas.{read_in_part, read_to_end}
use Rattle.lnt_symbols.proofs.breakpad.file.Reader.read.Goals as goal

pub returns-in-Ok-None-clause-read : goal.returns-in-Ok-None-clause-read
returns-in-Ok-None-clause-read c whole more h last =
    let inv = c.loop-rest.invariant in
    let left = rw c.in-Some.is at inv.read whole more h last in
    let part = rw c.in-Ok-None.field-0-is at c.in-Ok-None.ensures.some in
    let read = (rw c.in-Ok-None.field-0-is at c.in-Ok-None.ensures.read) whole more left last in
    read_in_part whole c.read_line.new.self _ c.args.is_last part
    (subst (λ (t : List ℕ). HasRead whole c.read_line.new.self (lines_of (t ++ more))) (rw c.in-Some.is at inv.at_end) read)

pub returns-in-Err-clause-stop : goal.returns-in-Err-clause-stop
returns-in-Err-clause-stop c whole more h last =
    c.in-Err.ensures.stop whole more (rw c.in-Some.is at c.loop-rest.invariant.read whole more h last) last

pub returns-clause-read : goal.returns-clause-read
returns-clause-read c whole more h last =
    read_to_end whole c.loop-rest.self _ c.args.is_last
    (λ part. (let some = (rw c.in_default.is at c.loop-rest.invariant.some) part in cc some))
    (rw c.in_default.is at c.loop-rest.invariant.read whole more h last)
