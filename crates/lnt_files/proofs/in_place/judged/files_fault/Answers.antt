use Rattle.std.proofs.Common.{nat_lt, ◌+◌, sym, subst, arith}
use Rattle.std.proofs.lemmas.Bool.Decides.{Decides-ltb}
use Rattle.std.proofs.lemmas.Grind.{common_steps}
use Rattle.lnt_files.proofs.JudgedLemmas.{FilesSeen, files_begun, files_stepped}
use Rattle.lnt_files.proofs.in_place.judged.files_fault.Goals as goal

pub loop-index-init : goal.loop-index-init
loop-index-init c = files_begun _ _ _ _ _ c.of-entries.ensures

pub loop-index-preserved : goal.loop-index-preserved
loop-index-preserved c =
    let ends = c.args.ends.now in
    let below = nat_lt c.directory_number.result c.args.directories in
    subst (FilesSeen ends.line ends.general c.args.directories c.args.files.now c.next_entry.new.self (c.loop-index.index + 1))
    (sym c.first_missing-missing.ensures)
    (files_stepped c.loop-index.invariant c.has_path.result below c.directory_number.result c.in-Some.ensures c.has_path.ensures
    c.if-not-has_path.false c.directory_number.ensures (Decides-ltb c.directory_number.result c.args.directories))

pub returns-in_err-missing : goal.returns-in_err-missing
returns-in_err-missing c = grind (arith, common_steps)

pub returns : goal.returns
returns c = grind (arith, common_steps)
