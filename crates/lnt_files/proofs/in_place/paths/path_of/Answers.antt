use Rattle.std.proofs.Common.{refl, sym, arith}
use Rattle.std.proofs.lemmas.Grind.{elements}
use Rattle.lnt_files.proofs.AtLemmas.{file_there, path_made, within_files}
use Rattle.lnt_files.proofs.PathLemmas.{path_there}
use Rattle.lnt_files.proofs.in_place.paths.path_of.Goals as goal

pub add_path-requires : goal.add_path-requires
add_path-requires c =
    let h = c.args.header.now in
    let at = file_there h c.files.result.now c.args.file c.in-Some.entry c.files.ensures.pairs c.files.ensures.entries c.in-Some.ensures in
    (at.0, at.2, path_there c.args.strings.line.now c.args.strings.general.now h c.args.file at.0 c.requires (sym at.1))

pub returns-in-Ok-clause-path : goal.returns-in-Ok-clause-path
returns-in-Ok-clause-path c =
    let h = c.args.header.now in
    let at = file_there h c.files.result.now c.args.file c.in-Some.entry c.files.ensures.pairs c.files.ensures.entries c.in-Some.ensures in
    path_made c.args.strings.line.now c.args.strings.general.now h c.args.file at.0 _ _ c.new-path.ensures.items at.1
    (c.in-Ok.ensures at.0 at.2)

pub returns-in-Ok-clause-there : goal.returns-in-Ok-clause-there
returns-in-Ok-clause-there c =
    let lt = within_files c.args.header.now c.files.result.now c.args.file c.in-Some.entry c.files.ensures.pairs c.files.ensures.entries
    c.in-Some.ensures in
    ((λ t. lt), (λ h. refl))

pub returns-in_default-clause-there : goal.returns-in_default-clause-there
returns-in_default-clause-there c = grind (arith, elements)
