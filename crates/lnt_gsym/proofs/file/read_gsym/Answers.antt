use Rattle.std.proofs.Common.{sym, ◌∙◌}
use Rattle.lnt_gsym.specs.Reading.{header_said}
use Rattle.lnt_gsym.proofs.FileLemmas.{read_whole}
use Rattle.lnt_gsym.proofs.JudgeLemmas.{functions_judged}
use Rattle.lnt_gsym.proofs.file.read_gsym.Goals as goal

pub returns-in-Ok : goal.returns-in-Ok
returns-in-Ok c = read_whole c.args.order c.args.bytes.now c.in_ok-header.header c.in_ok-tables.tables c.functions_of.result
    c.names_of.result c.in_ok-header.ensures.read c.in_ok-tables.ensures.read c.in_ok-tables.ensures.rise c.in-Ok.ensures
    c.functions_of.ensures.order c.functions_of.ensures.bytes c.functions_of.ensures.entries c.names_of.ensures

pub returns-in-Err : goal.returns-in-Err
returns-in-Err c = sym (functions_judged c.args.order c.args.bytes.now (header_said c.args.bytes.now c.in_ok-header.header)
    c.in_ok-tables.tables c.in_ok-header.ensures.read c.in_ok-tables.ensures.read) ∙ c.in-Err.ensures
