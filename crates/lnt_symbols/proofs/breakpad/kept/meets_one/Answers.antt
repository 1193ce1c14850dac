use Rattle.std.proofs.Common.{◌≡◌, ◌+◌, arith}
use Rattle.lnt_symbols.specs.BreakpadAnswers.{end_of}
use Rattle.lnt_symbols.proofs.TreeLemmas.{from_le_by, from_not_lt_by, le_by, meets_last, meets_nothing}
use Rattle.lnt_symbols.proofs.breakpad.kept.meets_one.Goals as goal

pub returns-in-Some : goal.returns-in-Some
returns-in-Some c = λ those h.
    let found = c.range.ensures.in_range tt in
    let last : c.last_of.result + 1 ≡ end_of c.args.range = c.last_of.ensures in
    let entry = found.3 _ _ c.in-Some.ensures.steps in
    let near = from_le_by _ c.last_of.result entry.0.1 in
    meets_last c.args.tree.now those c.args.range _ _ h entry.1 (omega (arith, near, last))
    (λ q below some. from_not_lt_by _ q
    (found.4 _ _ c.in-Some.ensures.steps q (tt, le_by q c.last_of.result (omega (arith, below, last))) some))

pub returns-in-None : goal.returns-in-None
returns-in-None c = λ those h.
    let found = c.range.ensures.in_range tt in
    let last : c.last_of.result + 1 ≡ end_of c.args.range = c.last_of.ensures in
    meets_nothing c.args.tree.now those c.args.range h
    (λ q below. found.5 c.in-None.ensures.steps.0 q (tt, le_by q c.last_of.result (omega (arith, below, last))))
