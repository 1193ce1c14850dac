use Rattle.lnt_files.proofs.AtLemmas.{some_is_not_none}
use Rattle.lnt_files.proofs.paths.add_path.Goals as goal

pub unreachable-requires : goal.unreachable-requires
unreachable-requires c = some_is_not_none _ c.requires.2 (c.in_default.ensures c.requires.0 c.requires.1)
