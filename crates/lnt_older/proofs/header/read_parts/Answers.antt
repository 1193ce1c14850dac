use Rattle.std.proofs.lemmas.Result.{err_from_is_err_and}
use Rattle.lnt_older.proofs.FieldLemmas.{files_missing, lengths_missing}
use Rattle.lnt_older.proofs.HeaderLemmas.{parts_read}
use Rattle.lnt_older.proofs.header.read_parts.Goals as goal

pub returns-in_err-standard_lengths-clause-err : goal.returns-in_err-standard_lengths-clause-err
returns-in_err-standard_lengths-clause-err c =
    let p = err_from_is_err_and c.from_residual-in_err-standard_lengths.result c.from_residual-in_err-standard_lengths.ensures.1 in
    let old = c.args.cursor.now in
    let fault = c.in_err-standard_lengths.field-0.0 in
    rw (p.1, p.2) (lengths_missing c.args.version c.args.format c.in_ok-numbers.numbers old c.read_singles.new.cursor fault
    (rw (← c.has_max_ops.ensures) c.in_ok-numbers.ensures.ok) c.in_err-standard_lengths.ensures.err)

pub returns-in_err-files-clause-err : goal.returns-in_err-files-clause-err
returns-in_err-files-clause-err c =
    let p = err_from_is_err_and c.from_residual-in_err-files.result c.from_residual-in_err-files.ensures.1 in
    let old = c.args.cursor.now in
    let fault = c.in_err-files.field-0.0 in
    let directories = c.in_ok-directories.ensures.ok in
    rw (p.1, p.2) (files_missing c.args.version c.args.format c.in_ok-numbers.numbers c.in_ok-standard_lengths.standard_lengths.now
    directories.entries old c.read_singles.new.cursor c.read_lengths.new.cursor c.pass_listed.new.cursor fault
    (rw (← c.has_max_ops.ensures) c.in_ok-numbers.ensures.ok)
    c.in_ok-standard_lengths.ensures.ok directories.read c.in_err-files.ensures.err)

pub returns-clause-ok : goal.returns-clause-ok
returns-clause-ok c =
    parts_read c.args.version c.args.format _ c.args.cursor.now c.read_singles.new.cursor c.read_lengths.new.cursor c.pass_listed.new.cursor
    c.pass_listed-2.new.cursor (rw (← c.has_max_ops.ensures) c.in_ok-numbers.ensures.ok) c.in_ok-standard_lengths.ensures.ok
    c.in_ok-directories.ensures.ok
    c.in_ok-files.ensures.ok c.rest.ensures
