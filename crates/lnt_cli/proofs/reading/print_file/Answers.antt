use Rattle.std.proofs.lemmas.Result.{IfOk-weaker}
use Rattle.lnt_cli.proofs.CauseLemmas.{found_too_long, read_failed}
use Rattle.lnt_cli.proofs.StopLemmas.{begun_of}
use Rattle.lnt_cli.proofs.reading.print_file.Goals as goal

pub returns-clause-answer : goal.returns-clause-answer
returns-clause-answer g c =
    IfOk-weaker c.print_source-printed.result _ _ (λ status so. record { bytes = _; is_found = c.in_ok-source.ensures.found; so = so })
    c.print_source-printed.ensures.printed

pub returns-clause-stopped : goal.returns-clause-stopped
returns-clause-stopped g c =
    begun_of _ _ _ c.print_source-printed.result c.print_source-printed.ensures.begun
    (λ begun. record { bytes = _; is_found = c.in_ok-source.ensures.found; so = begun })

pub returns-clause-unread : goal.returns-clause-unread
returns-clause-unread g c stop =
    let file = c.in_ok-source.ensures in
    read_failed (g.O.Files.finds c.args.opener.now) c.args.file.now _ _ _ _ _ c.print_source-printed.ensures.failures stop
    (record {
      name = file.name;
      found = file.found;
      left = file.left;
      unread = λ failed. c.open.ensures.later _ _ (c.tell_unread.ensures.unread failed);
      too_long = λ found. c.open.ensures.later _ _ (c.tell_unread.ensures.too_long found);
    })

pub returns-clause-too_long : goal.returns-clause-too_long
returns-clause-too_long g c stop =
    let file = c.in_ok-source.ensures in
    found_too_long (g.O.Files.finds c.args.opener.now) c.args.file.now _ _ _ _ _ c.print_source-printed.ensures.failures
    (c.print_source-printed.ensures.too_long stop) (record {
      name = file.name;
      found = file.found;
      left = file.left;
      unread = λ failed. c.open.ensures.later _ _ (c.tell_unread.ensures.unread failed);
      too_long = λ found. c.open.ensures.later _ _ (c.tell_unread.ensures.too_long found);
    })
