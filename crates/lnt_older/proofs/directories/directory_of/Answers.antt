use Rattle.std.proofs.Common.{rules, ◌∙◌, sym}
use Rattle.std.proofs.lemmas.List.Sorted.{answers_always}
use Rattle.lnt_older.specs.declared.directories.Directory.{Directory}
use Rattle.lnt_older.proofs.DirectoryLemmas.{found_directory, no_directory}
use Rattle.lnt_older.proofs.directories.directory_of.Goals as goal

pub returns-in-Ok : goal.returns-in-Ok
returns-in-Ok c =
    let facts = c.in-Ok.ensures in
    let by_key = facts.position (λ (d : Directory). d.unit) (answers_always _ _ _ (λ f a r g called. search rules)) in
    c.as_slice.ensures.value
    ∙ found_directory c.args.directories.now c.args.offset c.in-Ok.i c.index-directories-i.result c.requires facts.bound by_key

pub returns-in-Err : goal.returns-in-Err
returns-in-Err c =
    let facts = c.in-Err.ensures in
    let by_key = facts.position (λ (d : Directory). d.unit) (answers_always _ _ _ (λ f a r g called. search rules)) in
    sym (no_directory c.args.directories.now c.args.offset c.in-Err.field-0 c.requires by_key)
