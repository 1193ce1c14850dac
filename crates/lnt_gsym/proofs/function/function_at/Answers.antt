use Rattle.std.proofs.Common.{ap, ◌∙◌}
use Rattle.lnt_gsym.specs.GsymFiles.{at_place}
use Rattle.lnt_gsym.specs.GsymInfos.{function_of}
use Rattle.lnt_gsym.proofs.FunctionLemmas.{function_read, has_tables}
use Rattle.lnt_gsym.proofs.function.function_at.Goals as goal

pub returns-in-None-clause-function : goal.returns-in-None-clause-function
returns-in-None-clause-function c = λ files f e.
    let there = has_tables files c.args.start c.in-Ok.size c.in-Ok-number.name c.cursor_at-cursor.result c.number.new.cursor
    c.number-2.new.cursor f c.in-Ok.ensures.read c.in-Ok-number.ensures.read
    (ap (function_of files c.args.start) (c.cursor_at-cursor.ensures ∙ ap (at_place c.args.order c.args.bytes.now) c.from.ensures) ∙ e) in
    c.in-None.ensures.last files f.tables there.tables

pub returns-in-Some-clause-function : goal.returns-in-Some-clause-function
returns-in-Some-clause-function c = λ files f e.
    function_read files c.args.start c.args.address c.in-Ok.size c.in-Ok-number.name c.in-Some.last.gate c.in-Some.last.rows
    c.cursor_at-cursor.result c.number.new.cursor c.number-2.new.cursor f c.in-Ok.ensures.read c.in-Ok-number.ensures.read
    c.in-Some.ensures.last
    (ap (function_of files c.args.start) (c.cursor_at-cursor.ensures ∙ ap (at_place c.args.order c.args.bytes.now) c.from.ensures) ∙ e)
