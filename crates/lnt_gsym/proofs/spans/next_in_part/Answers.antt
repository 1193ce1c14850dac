use Rattle.std.proofs.Common.{sym}
use Rattle.lnt_gsym.specs.GsymSpans.{tells}
use Rattle.lnt_gsym.specs.Walking.{named}
use Rattle.lnt_gsym.proofs.SpanLemmas.{none_given, one_given, one_skipped}
use Rattle.lnt_gsym.proofs.spans.next_in_part.Goals as goal

pub returns-in-None-clause-gives : goal.returns-in-None-clause-gives
returns-in-None-clause-gives c = none_given (tells (named c.args.names.now)) c.args.low c.args.high c.args.rows.now c.loop-row.rows
    c.take.new.self c.loop-row.invariant c.in-None.ensures.takes

pub returns-then-has_span-clause-gives : goal.returns-then-has_span-clause-gives
returns-then-has_span-clause-gives c = one_given (tells (named c.args.names.now)) c.args.low c.args.high c.later-begin.result
    c.begins-end.result c.args.rows.now c.loop-row.rows c.take.new.self c.in-Some.row c.span_of.result c.loop-row.invariant
    c.in-Some.ensures.takes c.later-begin.ensures c.begins-end.ensures (sym c.if-has_span.ensures) c.span_of.ensures

pub loop-row-preserved : goal.loop-row-preserved
loop-row-preserved c = one_skipped (tells (named c.args.names.now)) c.args.low c.args.high c.later-begin.result
    c.begins-end.result c.args.rows.now c.loop-row.rows c.take.new.self c.in-Some.row c.loop-row.invariant
    c.in-Some.ensures.takes c.in-Some.ensures.fewer c.later-begin.ensures c.begins-end.ensures (sym c.if-has_span.ensures)
