use Rattle.std.proofs.Common.{rules}
use Rattle.lnt_header_bytes.proofs.TableReaders.{reads_pair, refuses_pair_content, refuses_pair_form, refuses_unknown}
use Rattle.lnt_header_bytes.proofs.table.read_pair.Goals as goal

pub returns-in-None-clause-err : goal.returns-in-None-clause-err
returns-in-None-clause-err c = search (rules, reads_pair, refuses_pair_content, refuses_pair_form, refuses_unknown)

pub returns-in-Some-clause-ok : goal.returns-in-Some-clause-ok
returns-in-Some-clause-ok c = search (rules, reads_pair, refuses_pair_content, refuses_pair_form, refuses_unknown)

pub returns-in_err-code-clause-err : goal.returns-in_err-code-clause-err
returns-in_err-code-clause-err c = search (rules, reads_pair, refuses_pair_content, refuses_pair_form, refuses_unknown)

pub returns-in_err-content-clause-err : goal.returns-in_err-content-clause-err
returns-in_err-content-clause-err c = search (rules, reads_pair, refuses_pair_content, refuses_pair_form, refuses_unknown)
