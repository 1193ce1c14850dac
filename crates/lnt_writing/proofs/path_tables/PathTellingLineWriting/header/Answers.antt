use Rattle.std.proofs.Common.{◌∙◌}
use Rattle.lnt_records.proofs.PathLineLaws.{header_text}
use Rattle.lnt_writing.proofs.path_tables.PathTellingLineWriting.header.Goals as goal

pub returns : goal.returns
returns g c = c.header_line.ensures ∙ header_text c.args.self.now.version
