use Rattle.std.proofs.Common.{subst}
use Rattle.lnt_gsym.specs.Walking.{GivesEntry}
use Rattle.lnt_gsym.proofs.OpenLemmas.{never_open, one_open, one_stays}
use Rattle.lnt_gsym.proofs.spans.open_next.Goals as goal

pub returns-in-None-function_at-clause-opens : goal.returns-in-None-function_at-clause-opens
returns-in-None-function_at-clause-opens c = λ gsym files fs left.
    never_open files c.args.functions.now c.take.new.self c.args.above.now c.in-Some.entry.0 c.in-Some.entry.1 fs
    (subst (λ e. GivesEntry e c.take.new.self c.in-Some.entry.0 c.in-Some.entry.1) c.fork-entries.ensures c.in-Some.ensures.gives)
    c.in-None-function_at.ensures.function left

pub returns-then-opened-clause-opens : goal.returns-then-opened-clause-opens
returns-then-opened-clause-opens c = λ gsym files fs left.
    one_open gsym files c.args.functions.now c.take.new.self c.args.above.now c.next_above-next.new.above c.in-Some.entry.0
    c.in-Some.entry.1 c.next_above-next.result c.args.covered c.begin_of-address.result c.in-Some-function_at.function.size
    c.in-Some-function_at.function.name c.in-Some-function_at.function.last.gate c.in-Some-function_at.function.last.rows
    c.part_of-opened.result fs
    (subst (λ e. GivesEntry e c.take.new.self c.in-Some.entry.0 c.in-Some.entry.1) c.fork-entries.ensures c.in-Some.ensures.gives)
    c.next_above-next.ensures c.begin_of-address.ensures c.in-Some-function_at.ensures.function c.part_of-opened.ensures.part
    c.if-opened.true left

pub returns-clause-opens : goal.returns-clause-opens
returns-clause-opens c = λ gsym files fs left.
    one_stays gsym files c.args.functions.now c.take.new.self c.args.above.now c.next_above-next.new.above c.in-Some.entry.0
    c.in-Some.entry.1 c.next_above-next.result c.args.covered c.begin_of-address.result c.in-Some-function_at.function.size
    c.in-Some-function_at.function.name c.in-Some-function_at.function.last.gate c.in-Some-function_at.function.last.rows
    c.part_of-opened.result fs
    (subst (λ e. GivesEntry e c.take.new.self c.in-Some.entry.0 c.in-Some.entry.1) c.fork-entries.ensures c.in-Some.ensures.gives)
    c.next_above-next.ensures c.begin_of-address.ensures c.in-Some-function_at.ensures.function c.part_of-opened.ensures.part
    c.if-opened.false left
