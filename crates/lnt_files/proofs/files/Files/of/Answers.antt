use Rattle.lnt_files.proofs.KeptLemmas.{are_files}
use Rattle.lnt_files.proofs.files.Files.of.Goals as goal

pub returns-in-Ok : goal.returns-in-Ok
returns-in-Ok c =
    rw c.shrink_to_fit.ensures.items (are_files _ _ c.args.header.now c.ends_of.new.paths.items c.in-Ok.kept.items c.in-Ok.ensures)
