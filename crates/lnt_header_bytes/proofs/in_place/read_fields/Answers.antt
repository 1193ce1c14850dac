use Rattle.std.proofs.Common.{rules}
use Rattle.lnt_header_bytes.proofs.HeaderReaders.{refuses_directories, refuses_files, refuses_singles, refuses_lengths}
use Rattle.lnt_header_bytes.proofs.ViewLemmas.{fields_read}
use Rattle.lnt_header_bytes.proofs.in_place.read_fields.Goals as goal

pub returns-in_err-files-clause-err : goal.returns-in_err-files-clause-err
returns-in_err-files-clause-err c = search (rules, refuses_files, c.in_err-files.ensures.err)

pub returns-in_err-directories-clause-err : goal.returns-in_err-directories-clause-err
returns-in_err-directories-clause-err c = search (rules, refuses_directories, c.in_err-directories.ensures.err)

pub returns-clause-ok : goal.returns-clause-ok
returns-clause-ok c = search (rules, refuses_singles, refuses_lengths, refuses_directories, refuses_files, fields_read)

pub returns-in_err-lengths-clause-err : goal.returns-in_err-lengths-clause-err
returns-in_err-lengths-clause-err c = search (rules, refuses_singles, refuses_lengths, refuses_directories, refuses_files, fields_read)
