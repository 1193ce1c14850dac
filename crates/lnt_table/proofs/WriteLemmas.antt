-- Canonical spans of lines, in a version, have only answers that the version can tell.
use Rattle.std.proofs.Common.{◌≡◌, List, [], ◌∷◌, All}
use Rattle.std.proofs.lemmas.List.Elements.{All-cons, All-nil}
use Rattle.lnt_spans.specs.declared.answer.Version.{Version}
use Rattle.lnt_spans.specs.declared.answer.Version.TheVariants.{Two}
use Rattle.lnt_spans.specs.declared.position.Position.{Position}
use Rattle.lnt_spans.specs.declared.span.Span.{Span}
use Rattle.lnt_spans.specs.Spans.{IsCanonical, span_answer, version_answer}
use Rattle.lnt_records.specs.Written.{IsOfVersion}
use Rattle.lnt_records.proofs.VersionLaws.{answers_of_version}
use Rattle.lnt_lines.specs.Contents.{AreWhole}

abbrev HasAllFields : Span → Type 0
HasAllFields span = IsOfVersion Two span.answer

all_told : (spans : List Span) → AreWhole spans → All HasAllFields spans
all_told [] h = All-nil HasAllFields
all_told (span ∷ spans) h = All-cons HasAllFields span spans h.0 (all_told spans h.1)

pub told_in_version : (version : Version) (spans joined : List Span) → AreWhole spans → IsCanonical joined
    → ((p : Position) → span_answer joined p ≡ version_answer version spans p)
    → All (λ (span : Span). IsOfVersion version span.answer) joined
told_in_version version spans joined whole canonical same =
    answers_of_version version spans joined canonical.in_order same (all_told spans whole)
