-- What was judged of the bytes of a section is so of the section.
use Rattle.std.proofs.Common.{ℕ, List}
use Rattle.lnt_spans.specs.declared.scope.Scope.TheVariants.{All}
use Rattle.lnt_ffi.specs.declared.section.FlatSection.{FlatSection}
use Rattle.lnt_ffi.specs.declared.verdict.FlatVerdict.{FlatVerdict}
use Rattle.lnt_ffi.specs.Returns.{ReturnsVerdictByPath, ReturnsVerdict}

-- what is returned with the paths, less these
pub of_paths : (section : FlatSection) (text old_table new_table old_section new_section : List ℕ) (returned : FlatVerdict)
    → ReturnsVerdictByPath All section text old_table new_table old_section new_section returned → ReturnsVerdict section text returned
of_paths section text old_table new_table old_section new_section returned (ReturnsVerdictByPath.judged found is e first second) =
    ReturnsVerdict.judged found is e
of_paths section text old_table new_table old_section new_section returned (ReturnsVerdictByPath.stopped e first second) =
    ReturnsVerdict.stopped e
