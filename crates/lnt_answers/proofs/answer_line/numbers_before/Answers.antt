use Rattle.std.proofs.Common.{rules}
use Rattle.std.proofs.lemmas.List.{drop_all}
use Rattle.lnt_answers.proofs.AnswerLineLemmas.{numbers_of}
use Rattle.lnt_answers.proofs.answer_line.numbers_before.Goals as goal

pub returns-clause-text : goal.returns-clause-text
returns-clause-text c =
    numbers_of c.args.answer.now c.from.result (drop_all 192 c.args.room.now (search rules)) c.from.ensures
    c.number_before-at.ensures.written c.word_before-at.ensures.written c.number_before-at-2.ensures.written
    c.word_before-at-2.ensures.written c.number_before-at-3.ensures.written c.word_before-at-3.ensures.written
    c.number_before-at-4.ensures.written c.word_before-at-4.ensures.written c.number_before-at-5.ensures.written
    c.word_before.ensures.written
