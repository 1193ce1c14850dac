use Rattle.std.proofs.Common.{rules, drop, take}
use Rattle.lnt_text.proofs.WrittenLaws.{text_before}
use Rattle.lnt_answers.proofs.AnswerLineLemmas.{position_of}
use Rattle.lnt_answers.proofs.answer_line.position_before.Goals as goal

pub returns-clause-written : goal.returns-clause-written
returns-clause-written c =
    position_of _ _ _ _ c.args.position (drop c.address_before.result (take c.word_before-at.result c.address_before.new.text))
    c.number_before-at.ensures.written c.word_before-at.ensures.written c.address_before.ensures.written
    (text_before c.word_before-at.new.room c.address_before.new.text c.address_before.result c.word_before-at.result (search rules)
    c.address_before.ensures.after)
