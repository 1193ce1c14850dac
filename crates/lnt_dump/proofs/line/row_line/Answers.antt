use Rattle.std.proofs.Common.{rules, ◌+◌, ap, drop, take}
use Rattle.std.proofs.lemmas.List.{drop_all}
use Rattle.lnt_text.proofs.WrittenLaws.{text_before}
use Rattle.lnt_dump.proofs.RowLemmas.{line_of}
use Rattle.lnt_dump.proofs.line.row_line.Goals as goal

pub returns-clause-line : goal.returns-clause-line
returns-clause-line c =
    line_of c.args.index c.args.row.now
    (drop c.address_before-at.result (take c.flag_before-at-3.result c.address_before-at.new.text)) (48 + c.from.result)
    (drop_all 192 c.args.room.now (search rules))
    c.number_before-at.ensures.written c.number_before-at-2.ensures.written c.flags_before-at.ensures.written
    c.flag_before-at.ensures.written c.flag_before-at-2.ensures.written (ap (λ digit. 48 + digit) c.from.ensures)
    c.number_before-at-3.ensures.written c.number_before-at-4.ensures.written c.number_before-at-5.ensures.written
    c.number_before-at-6.ensures.written c.flag_before-at-3.ensures.written c.address_before-at.ensures.written
    (text_before c.flag_before-at-3.new.room c.address_before-at.new.text c.address_before-at.result c.flag_before-at-3.result
    (search rules) c.address_before-at.ensures.after) c.number_before-at-7.ensures.written c.flag_before-at-4.ensures.written
    c.flag_before-at-5.ensures.written c.flag_before-at-6.ensures.written c.flag_before.ensures.written
