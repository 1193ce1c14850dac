use Rattle.lnt_records.proofs.LineLemmas.{answer_taken}
use Rattle.lnt_records.proofs.text.answer_before.Goals as goal

pub returns-clause-written : goal.returns-clause-written
returns-clause-written c version is =
    let place = c.place_before.ensures.written in
    answer_taken _ version c.args.answer.now _ _ _ _ _ _ _ place.unit_is place.file_is c.number_before-at-2.ensures.written
    c.number_before-at.ensures.written c.flag_before-at.ensures.written (c.more_before-at.ensures.written version is)
