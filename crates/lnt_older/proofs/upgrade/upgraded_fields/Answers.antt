use Rattle.lnt_older.proofs.UpgradeLemmas.{fields_upgraded}
use Rattle.lnt_older.proofs.upgrade.upgraded_fields.Goals as goal

pub returns : goal.returns
returns c =
    fields_upgraded c.args.unit.now c.args.directory.now c.file_zero-first.result.now c.new-out.result.items c.add_numbers.new.out.items
    c.add_directories.new.out.items c.add_files.new.out.items c.extend_from_slice.new.self.items c.requires.directory c.requires.unit
    c.file_zero-first.ensures c.new-out.ensures.items c.in_ok-add_numbers.ensures c.in_ok-add_directories.ensures
    c.in_ok-add_files.ensures c.in_ok-extend_from_slice.ensures.items
