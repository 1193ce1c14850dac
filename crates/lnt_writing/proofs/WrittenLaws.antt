-- Canonical spans, and those whose numbers are of at most 64 bits can be written as a table.
use Rattle.std.proofs.Common.{◌≡◌, ◌∙◌, List, [], ◌∷◌, refl, sym, subst, ℕ, arith}
use Rattle.std.proofs.lemmas.Grind.{common_steps}
use Rattle.std.specs.List.{AllByRecursion}
use Rattle.lnt_spans.specs.declared.answer.Version.{Version}
use Rattle.lnt_spans.specs.declared.answer.Version.TheVariants.{One, Two}
use Rattle.lnt_spans.specs.declared.position.Position.{Position}
use Rattle.lnt_spans.specs.declared.span.Span.{Span}
use Rattle.lnt_spans.specs.Answers.{in_version}
use Rattle.lnt_spans.specs.Spans.{FitSpans, FitsSpan, AreInOrder, IsCanonical, span_answer, span_in_version, number_spans}
use Rattle.lnt_spans.specs.Spans.{version_answer}
use Rattle.lnt_spans.proofs.CanonicalLaws.{one_number_list}
use Rattle.lnt_spans.proofs.SameLaws.{same_answers}
use Rattle.lnt_spans.proofs.ToldLaws.{told, told_answer, told_order}
use Rattle.lnt_writing.specs.Canonical.{IsCanonicalTable, HasAllFields}
use Rattle.lnt_writing.specs.Joined.{AreJoined}
use Rattle.lnt_writing.proofs.CanonicalLemmas.{all_join, has_joined, IsKept, made_differ}
use Rattle.lnt_records.specs.Written.{IsOfVersion}
use Rattle.lnt_records.proofs.VersionLaws.{HasVersion}
use Rattle.lnt_records.proofs.WrittenLaws.{whole_table}

-- ---- canonical spans

-- the spans are canonical and answer as the given ones do, in the fields of the version
abbrev pub IsCanonicalOf : Version → List Span → List Span → Type 0
IsCanonicalOf version list spans = IsCanonical spans × ((p : Position) → span_answer spans p ≡ version_answer version list p)

pub told_canonical : (version : Version) (list joined : List Span) → AreJoined (in_version version) list joined
    → IsCanonicalOf version list (told version joined)
told_canonical version list joined j = (
  record {
    in_order = told_order version joined j.order;
    differ = made_differ number_spans (span_in_version version) (in_version version) (λ s t touch same. (touch, same)) joined j.apart;
  },
  λ p. told_answer version joined p ∙ j.same p,
)

-- ---- what holds of each canonical span

-- a property of a span as the version tells it
abbrev AsTold : (Span → Type 0) → Version → Span → Type 0
AsTold Is version span = Is (span_in_version version span)

each_told : (Is : Span → Type 0) (version : Version) (spans : List Span) → AllByRecursion (AsTold Is version) spans
    → AllByRecursion Is (told version spans)
each_told Is version [] h = tt
each_told Is version (span ∷ spans) h = (h.0, each_told Is version spans h.1)

-- What holds of each span given, as the version tells it, and is kept where a span grows, holds of each canonical span.
canonical_each : (Is : Span → Type 0) (version : Version) (given : List Span) → IsKept (AsTold Is version) → AreInOrder given
    → AllByRecursion (AsTold Is version) given → (spans : List Span) × IsCanonicalOf version given spans × AllByRecursion Is spans
canonical_each Is version given kept order each =
    let all = all_join (in_version version) same_answers (AsTold Is version) kept given each in (
      told version all.joined,
      told_canonical version given all.joined (has_joined (in_version version) (AsTold Is version) given order all),
      each_told Is version all.joined all.each,
    )

-- ---- a canonical table

tells_version : (version : Version) (given : List Span) → AllByRecursion HasAllFields given
    → AllByRecursion (AsTold (HasVersion version) version) given
tells_version version [] tells = tt
tells_version One (span ∷ given) tells = (refl, tells_version One given tells.1)
tells_version Two (span ∷ given) tells = (tells.0, tells_version Two given tells.1)

-- where each span given has an instruction set and a discriminator, each canonical span tells what the version does
pub canonical_is_of_version : (version : Version) (given spans : List Span) → AreInOrder given → AllByRecursion HasAllFields given
    → IsCanonical spans
    → ((p : Position) → span_answer spans p ≡ version_answer version given p)
    → AllByRecursion (λ (span : Span). IsOfVersion version span.answer) spans
canonical_is_of_version version given spans order tells canonical same =
    let has = canonical_each (HasVersion version) version given (λ last next h k. h) order (tells_version version given tells) in
    subst (AllByRecursion (HasVersion version)) (one_number_list has.0 spans has.1.0 canonical (λ p. has.1.1 p ∙ sym (same p))) has.2

fits_kept : (version : Version) → IsKept (AsTold FitsSpan version)
fits_kept version last next h k = record { low = h.low; high = k.high; answer = h.answer }

fits_told : (version : Version) (span : Span) → FitsSpan span → FitsSpan (span_in_version version span)
fits_told version span h = grind (arith, common_steps)

fit_told : (version : Version) (spans : List Span) → FitSpans spans → AllByRecursion (AsTold FitsSpan version) spans
fit_told version [] h = tt
fit_told version (span ∷ spans) h = (fits_told version span h.0, fit_told version spans h.1)

-- spans in order whose numbers fit, each with an instruction set and a discriminator, have a canonical table in each version
pub whole_canonical : (version : Version) (given : List Span) → AreInOrder given → AllByRecursion HasAllFields given → FitSpans given
    → (bytes : List ℕ) × IsCanonicalTable version given bytes
whole_canonical version given order tells fit =
    let has = canonical_each FitsSpan version given (fits_kept version) order (fit_told version given fit) in
    let of_version = canonical_is_of_version version given has.0 order tells has.1.0 has.1.1 in
    let table = whole_table version has.0 has.1.0.in_order has.2 of_version in
    (table.0, record { spans = has.0; canonical = has.1.0; same = has.1.1; written = table.1 })
