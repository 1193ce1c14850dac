-- Joined spans by number: they are canonical, and written as a table.
use Rattle.std.proofs.Common.{ℕ, List, [], ◌∷◌, ◌++◌, Option, sym}
use Rattle.std.specs.Io.KnownBytes.{Appends}
use Rattle.std.specs.List.{AllByRecursion}
use Rattle.std.proofs.lemmas.List.{map-append}
use Rattle.lnt_spans.specs.declared.answer.Version.{Version}
use Rattle.lnt_spans.specs.declared.span.Span.{Span}
use Rattle.lnt_spans.specs.Answers.{in_version}
use Rattle.lnt_spans.specs.Spans.{AreInOrder, span_in_version}
use Rattle.lnt_spans.proofs.SameLaws.{same_answers}
use Rattle.lnt_spans.proofs.ToldLaws.{told, told_order}
use Rattle.lnt_records.specs.Written.{IsOfVersion, plain_by_number}
use Rattle.lnt_records.specs.Progress.{HasBegunLines, HasWrittenLines}
use Rattle.lnt_records.proofs.WriteLaws.{begun, lines_done}
use Rattle.lnt_writing.specs.Canonical.{BeginsCanonicalTable, IsCanonicalTable, HasAllFields}
use Rattle.lnt_compare.specs.Joining.{LeaveOff}
use Rattle.lnt_writing.specs.Joined.{Any, AreJoined}
use Rattle.lnt_writing.proofs.BegunLaws.{canonical_begins}
use Rattle.lnt_writing.proofs.CanonicalLemmas.{all_left, joins_on}
use Rattle.lnt_writing.proofs.WrittenLaws.{canonical_is_of_version, told_canonical}

-- ---- answers of the version

-- What is known of the spans to come, so that every joined span has a line.
pub record AreTold (list : List Span) : Type 0 where
  pub order : AreInOrder list
  pub tells : AllByRecursion HasAllFields list

abbrev HasLine : Version → Span → Type 0
HasLine version span = IsOfVersion version (in_version version span.answer)

have_lines : (version : Version) (list joined : List Span) → AreTold list → AreJoined (in_version version) list joined
    → AllByRecursion (HasLine version) joined
have_lines version list joined known j =
    let all = told_canonical version list joined j in
    back joined (canonical_is_of_version version list (told version joined) known.order known.tells all.0 all.1)
  where
    back : (spans : List Span) → AllByRecursion (λ (span : Span). IsOfVersion version span.answer) (told version spans)
        → AllByRecursion (HasLine version) spans
    back [] h = tt
    back (span ∷ spans) h = (h.0, back spans h.1)

-- ---- a table

pub canonical_written : (version : Version) (known joined : List Span) (old new : Option (List ℕ)) (IsGiven : List Span → Type 0)
    → IsGiven known → AreTold known → ((list : List Span) → IsGiven list → AreInOrder list → AreJoined (in_version version) list joined)
    → (AllByRecursion (HasLine version) joined → HasWrittenLines plain_by_number version old new (told version joined))
    → (bytes : List ℕ) × Appends old new bytes × ((list : List Span) → IsGiven list → AreInOrder list → IsCanonicalTable version list bytes)
canonical_written version known joined old new IsGiven given told_all joins written =
    let j = joins known given told_all.order in
    let all = lines_done version old new (told version joined) (told_order version joined j.order)
    (written (have_lines version known joined told_all j)) in (
      all.0,
      all.1,
      λ list is order.
          let one = told_canonical version list joined (joins list is order) in
          record { spans = told version joined; canonical = one.0; same = one.1; written = all.2 },
    )

pub canonical_begun : (version : Version) (known first : List Span) (old new : Option (List ℕ)) (IsGiven : List Span → Type 0)
    → IsGiven known → AreTold known
    → ((list : List Span) → IsGiven list → AreInOrder list → LeaveOff (in_version version) Any list first)
    → (AllByRecursion (HasLine version) first → HasBegunLines plain_by_number version old new (told version first))
    → (list : List Span) → IsGiven list → AreInOrder list → BeginsCanonicalTable version list old new
canonical_begun version known first old new IsGiven given told_all leaves lines list is order =
    let whole = joins_on (in_version version) same_answers Any known first (leaves known given told_all.order) in
    let has = all_left (HasLine version) first whole.0 (have_lines version known (first ++ whole.0) told_all whole.1) in
    let all = joins_on (in_version version) same_answers Any list first (leaves list is order) in
    let spans : List Span = told version (first ++ all.0) in
    canonical_begins version list spans old new (told_canonical version list (first ++ all.0) all.1)
    (begun version old new (told version first) (told version all.0) spans (lines has)
    (sym (map-append (span_in_version version) first all.0)))
