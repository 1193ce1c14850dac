use Rattle.std.proofs.lemmas.Result.{IfOk-weaker, err_from_is_err_and}
use Rattle.lnt_cli.proofs.CauseLemmas.{of_stop, told_before, told_by_either}
use Rattle.lnt_cli.proofs.QuestionLemmas.{of_file}
use Rattle.lnt_cli.proofs.StopLemmas.{begun_of}
use Rattle.lnt_cli.proofs.question.answer_file.Goals as goal

pub returns-clause-answer : goal.returns-clause-answer
returns-clause-answer g c =
    IfOk-weaker c.answer_with-answered.result _ _
    (λ answered so.
    of_file (g.O.Files.finds c.args.opener.now) c.args.from.now c.args.file.now _ _ _ _ _ c.in_ok-files.ensures.texts
    c.in_ok-files.ensures.found (c.open_judged.ensures.later _ _ c.in_ok-other.ensures.found) so)
    c.answer_with-answered.ensures.answer

pub returns-clause-stopped : goal.returns-clause-stopped
returns-clause-stopped g c =
    begun_of _ _ _ c.answer_with-answered.result c.answer_with-answered.ensures.stopped
    (λ begun.
    of_file (g.O.Files.finds c.args.opener.now) c.args.from.now c.args.file.now _ _ _ _ _ c.in_ok-files.ensures.texts
    c.in_ok-files.ensures.found (c.open_judged.ensures.later _ _ c.in_ok-other.ensures.found) begun)

pub returns-in_err-other-clause-cause : goal.returns-in_err-other-clause-cause
returns-in_err-other-clause-cause g c =
    let stop = err_from_is_err_and c.from_residual-in_err-other.result c.from_residual-in_err-other.ensures.1 in
    rw (stop.1, stop.2) (told_before _ _ c.in_err-other.field-0.0 c.open_judged.ensures.later c.in_err-other.ensures.cause)

pub returns-clause-cause : goal.returns-clause-cause
returns-clause-cause g c =
    let files = c.in_ok-files.ensures in
    let other = c.in_ok-other.ensures in
    let earlier = c.open_judged.ensures.later in
    of_stop _ c.answer_with-answered.result c.answer_with-answered.ensures.cause
    (λ stop cause.
    told_by_either (g.O.Files.finds c.args.opener.now) c.args.from.now c.args.file.now _ _ _ _ _ _ stop cause (record {
      name = files.name;
      found = files.found;
      left = files.left;
      unread = λ failed. earlier _ _ (other.later _ _ (c.tell_unread.ensures.unread failed));
      too_long = λ found. earlier _ _ (other.later _ _ (c.tell_unread.ensures.too_long found));
    }) (record {
      name = other.name;
      found = earlier _ _ other.found;
      left = other.left;
      unread = λ failed. earlier _ _ (other.later _ _ (c.tell_unread.ensures.later _ _ (c.tell_unread-2.ensures.unread failed)));
      too_long = λ found. earlier _ _ (other.later _ _ (c.tell_unread.ensures.later _ _ (c.tell_unread-2.ensures.too_long found)));
    }))
