use Rattle.std.proofs.Common.{length, sym, arith, rules}
use Rattle.lnt_files.proofs.KeptLemmas.{end_is_after, path_is, no_path_is, within}
use Rattle.lnt_files.proofs.files.path_at.Goals as goal

pub split_at-requires : goal.split_at-requires
split_at-requires c =
    let bounds = end_is_after (length c.args.paths.now) 0 c.args.kept.now c.args.file c.in_ok-end.field-0.now c.requires
    (sym c.in_ok-end.ensures) in
    omega (arith, bounds.within)

pub split_at-requires-2 : goal.split_at-requires-2
split_at-requires-2 c =
    let bounds = end_is_after (length c.args.paths.now) 0 c.args.kept.now c.args.file c.in_ok-end.field-0.now c.requires
    (sym c.in_ok-end.ensures) in
    omega (arith, bounds.past, bounds.within, c.start_of-start.ensures)

pub returns : goal.returns
returns c = search (rules, path_is, no_path_is, within)

pub returns-in_err-end : goal.returns-in_err-end
returns-in_err-end c = search (rules, path_is, no_path_is, within)

pub start_of-start-requires : goal.start_of-start-requires
start_of-start-requires c = search (rules, path_is, no_path_is, within)
