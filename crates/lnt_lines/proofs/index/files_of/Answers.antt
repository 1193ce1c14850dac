use Rattle.std.proofs.Common.{◌≡◌, ◌∙◌, ◌++◌, ◌∷◌, [], get_or, subst, sym, List, take, ◌+◌}
use Rattle.std.specs.List.{AllZip}
use Rattle.std.proofs.lemmas.List.{get_or_default, take_more}
use Rattle.std.proofs.lemmas.Slice.Zip.{all_zipped_more}
use Rattle.lnt_header.specs.Parts.{HeaderParts}
use Rattle.lnt_machine.specs.Walking.{KeptProgram}
use Rattle.lnt_files.specs.Files.{AreFilesOf, KeptFile}
use Rattle.lnt_lines.proofs.index.files_of.Goals as goal

pub loop-program-preserved : goal.loop-program-preserved
loop-program-preserved c =
    let programs = c.args.programs.now in
    let i = c.loop-program.program-index in
    let R : KeptProgram → List KeptFile → Type 0 =
    λ kept files. AreFilesOf c.args.strings.now.line.now c.args.strings.now.general.now kept.header files in
    let d : KeptProgram = c.program-item.result in
    let files = c.in_ok-of.field-0 in
    let item : get_or programs i d ≡ d = sym (c.program-item.is ∙ get_or_default programs i _ d c.loop-program-test.true) in
    subst (λ (all : List (List KeptFile)). AllZip R (take (i + 1) programs) all) (sym {A = List (List KeptFile)} c.in_ok-push.ensures.items)
    (subst (λ (ks : List KeptProgram). AllZip R ks (c.loop-program.all.items ++ files ∷ []))
    (sym (take_more programs i d c.loop-program-test.true))
    (all_zipped_more R (take i programs) c.loop-program.all.items (get_or programs i d) files c.loop-program.invariant
    (subst (λ (k : KeptProgram). R k files) (sym item)
    (subst (λ (h : HeaderParts). AreFilesOf c.args.strings.now.line.now c.args.strings.now.general.now h files) c.header.ensures
    c.in_ok-of.ensures))))
