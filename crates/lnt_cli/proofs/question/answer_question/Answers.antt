use Rattle.std.proofs.lemmas.Result.{IfOk-weaker}
use Rattle.lnt_cli.proofs.CauseLemmas.{of_stop, told_by_source}
use Rattle.lnt_cli.proofs.QuestionLemmas.{judged_later, of_section}
use Rattle.lnt_cli.proofs.StopLemmas.{begun_of, judged_begun_later}
use Rattle.lnt_cli.proofs.question.answer_question.Goals as goal

pub returns-clause-answer : goal.returns-clause-answer
returns-clause-answer g c =
    IfOk-weaker c.answer_opened-answered.result _ _
    (λ answered so.
    of_section (g.O.Files.finds c.args.opener.now) c.args.from.now _ _ _ _ c.in_ok-files.ensures.texts c.in_ok-files.ensures.found (
      so.0,
      so.1,
      judged_later _ (g.O.Files.finds c.open_judged.new.opener) c.args.question.now _ _ _ so.0
          c.open_judged.ensures.later so.2,
    ))
    c.answer_opened-answered.ensures.answer

pub returns-clause-stopped : goal.returns-clause-stopped
returns-clause-stopped g c =
    begun_of _ _ _ c.answer_opened-answered.result c.answer_opened-answered.ensures.stopped
    (λ begun.
    of_section (g.O.Files.finds c.args.opener.now) c.args.from.now _ _ _ _ c.in_ok-files.ensures.texts c.in_ok-files.ensures.found (
      begun.0,
      begun.1,
      judged_begun_later _ (g.O.Files.finds c.open_judged.new.opener) c.args.question.now _ _ begun.0
          c.open_judged.ensures.later begun.2,
    ))

pub returns-clause-cause : goal.returns-clause-cause
returns-clause-cause g c =
    let files = c.in_ok-files.ensures in
    of_stop _ c.answer_opened-answered.result c.answer_opened-answered.ensures.cause
    (λ stop cause.
    told_by_source (g.O.Files.finds c.args.opener.now) c.args.from.now.section.now _ _ _ stop cause (record {
      name = files.name;
      found = files.found;
      left = files.left;
      unread = λ failed.
          c.open_judged.ensures.later _ _ (c.answer_opened-answered.ensures.later _ _ (c.tell_unread.ensures.unread failed));
      too_long = λ found.
          c.open_judged.ensures.later _ _ (c.answer_opened-answered.ensures.later _ _ (c.tell_unread.ensures.too_long found));
    }))
