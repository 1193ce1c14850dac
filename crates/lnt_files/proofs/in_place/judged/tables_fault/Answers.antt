use Rattle.std.proofs.Common.{rules}
use Rattle.lnt_files.proofs.JudgedLemmas.{AreJudged, judged}
use Rattle.lnt_files.proofs.in_place.judged.tables_fault.Goals as goal

pub returns : goal.returns
returns c =
    let ends = c.args.ends.now in
    let h = c.args.header.now in
    let d = c.directories-directories.result.now in
    let f = c.files-files.result.now in
    let are : AreJudged ends.line ends.general h d f c.count.result = record {
      directory_pairs = c.directories-directories.ensures.pairs;
      directories = c.directories-directories.ensures.entries;
      file_pairs = c.files-files.ensures.pairs;
      files = c.files-files.ensures.entries;
      count_is = c.count.ensures;
      directory_format = c.has_usable_format.ensures.0 c.if-not-has_usable_format.false;
      file_format = c.has_usable_format-2.ensures.0 c.if-not-has_usable_format-2.false;
      paths = c.in_default.ensures;
    } in
    judged ends.line ends.general h d f c.count.result c.files_fault.result are c.files_fault.ensures

pub returns-then-not-has_usable_format : goal.returns-then-not-has_usable_format
returns-then-not-has_usable_format c = search rules
