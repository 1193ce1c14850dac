-- Whether there is a table of canonical spans by path, and that there is one.
use Rattle.std.proofs.Common.{ℕ, List, Option, refl, ◌≡◌, ◌∙◌, subst, sym, ◌≢◌, ◌⊎◌, ◌==◌, suc, [], ◌∷◌, map, inl, inr, eq-eqb, arith}
use Rattle.std.specs.List.{AllZip, AllByRecursion, Contains}
use Rattle.std.proofs.lemmas.Bool.{cases_Bool, eqb-true}
use Rattle.lnt_records.specs.Table.{Fields}
use Rattle.lnt_records.proofs.LineLaws.{one_plain_table, text_of, written_table}
use Rattle.lnt_spans.specs.declared.position.Position.{Position}
use Rattle.lnt_records.specs.declared.path_records.version.PathVersion.{PathVersion}
use Rattle.lnt_records.specs.PathSpans.{PathAnswer, path_answer, spans_by_path, AreCanonicalOf, PathSpan}
use Rattle.lnt_records.specs.PathTables.{by_path}
use Rattle.lnt_writing.specs.Canonical.{IsCanonicalPathTable}
use Rattle.lnt_records.specs.PathLines.{IsPlainPathRecord, IsPlainPathTable, plain_by_path}
use Rattle.lnt_records.proofs.PathLineLaws.{one_record, plain_paths}
use Rattle.lnt_writing.proofs.UniqueLemmas.{one_path_list}
use Rattle.lnt_text.proofs.WrittenLaws.{has_address, has_decimal}
use Rattle.lnt_spans.specs.declared.answer.Answer.{Answer}
use Rattle.lnt_spans.specs.declared.span.Span.{Span}
use Rattle.lnt_spans.specs.Spans.{FitSpans, FitsSpan, AreInOrder}
use Rattle.lnt_spans.specs.Positions.{IsAtMost}
use Rattle.lnt_spans.proofs.PositionLaws.{at_most_itself, at_most_trans, below_is_at_most, order_cases}
use Rattle.lnt_records.specs.declared.path_records.version.PathVersion.TheVariants.{Four, Three}
use Rattle.lnt_compare.specs.PathStretches.{IsLeastOperation, IsPathSpanOfInstructions, path_borders}
use Rattle.lnt_compare.specs.Joining.{tell_span}
use Rattle.lnt_compare.proofs.CompletionLaws.{same_path_answers}
use Rattle.lnt_writing.proofs.CanonicalLemmas.{all_join, has_joined, joined_canonical}

-- ---- plain records are records

pub plain_canonical : (version : PathVersion) (records : List Fields) {answers : Position → Option PathAnswer} {spans : List PathSpan}
    → AreCanonicalOf answers spans → AllZip (IsPlainPathRecord version) records spans
    → IsCanonicalPathTable version answers (text_of plain_by_path version records)
plain_canonical version records {answers} {spans} canonical each =
    let bytes : List ℕ = text_of plain_by_path version records in
    let plain : IsPlainPathTable version bytes spans = record { records = records; lines = refl; each = each } in
    let table = written_table by_path plain_by_path plain_paths version bytes spans plain canonical.canonical.in_order in
    record { spans = spans; canonical = canonical; table = table; plain = plain }

-- ---- one table

pub one_path_table : (version : PathVersion) (answers : Position → Option PathAnswer) (one other : List ℕ)
    → IsCanonicalPathTable version answers one → IsCanonicalPathTable version answers other → one ≡ other
one_path_table version answers one other a b =
    let same : a.spans ≡ b.spans =
    one_path_list a.spans b.spans a.canonical.canonical b.canonical.canonical (λ p. a.canonical.same p ∙ sym (b.canonical.same p)) in
    one_plain_table plain_by_path version (one_record version) one other b.spans
    (subst (IsPlainPathTable version one) same a.plain) b.plain

-- ---- each span has a plain record

has_record : (version : PathVersion) (path : ℕ → ℕ → List ℕ) (span : Span) → FitsSpan span
    → IsPathSpanOfInstructions (tell_span (path_answer version path) span)
    → (fields : Fields) × IsPlainPathRecord version fields (tell_span (path_answer version path) span)
has_record Three path span fits none =
    let low = has_address span.low.address fits.low.address in
    let high = has_address span.high.address fits.high.address in
    let line = has_decimal span.answer.line fits.answer.line in
    let column = has_decimal span.answer.column fits.answer.column in (
      low.0 ∷ high.0 ∷ path span.answer.unit span.answer.file ∷ line.0 ∷ column.0 ∷ [],
      record {
        says = record { count = refl; low_is = low.1; high_is = high.1; path = refl; line = line.1; column = column.1 };
        low_op = none.0;
        high_op = none.1;
      },
    )
has_record Four path span fits none =
    let low = has_address span.low.address fits.low.address in
    let high = has_address span.high.address fits.high.address in
    let line = has_decimal span.answer.line fits.answer.line in (
      low.0 ∷ high.0 ∷ path span.answer.unit span.answer.file ∷ line.0 ∷ [],
      record {
        says = record { count = refl; low_is = low.1; high_is = high.1; path = refl; line = line.1; column = refl };
        low_op = none.0;
        high_op = none.1;
      },
    )

has_records : (version : PathVersion) (path : ℕ → ℕ → List ℕ) (joined : List Span) → FitSpans joined
    → AllByRecursion IsPathSpanOfInstructions (map (tell_span (path_answer version path)) joined)
    → (records : List Fields) × AllZip (IsPlainPathRecord version) records (map (tell_span (path_answer version path)) joined)
has_records version path [] fit none = ([], tt)
has_records version path (span ∷ joined) fit none =
    let first = has_record version path span fit.0 none.0 in
    let rest = has_records version path joined fit.1 none.1 in
    (first.0 ∷ rest.0, (first.1, rest.1))

-- ---- the table

pub whole_or_none : (version : PathVersion) (path : ℕ → ℕ → List ℕ) (given : List Span) (spans : List PathSpan) → AreInOrder given
    → FitSpans given → AreCanonicalOf (spans_by_path version path given) spans → AllByRecursion IsPathSpanOfInstructions spans
    → (bytes : List ℕ) × IsCanonicalPathTable version (spans_by_path version path given) bytes
whole_or_none version path given spans order fit canonical none =
    let tell : Answer → PathAnswer = path_answer version path in
    let all = all_join tell same_path_answers FitsSpan
    (λ last next h k. record { low = h.low; high = k.high; answer = h.answer }) given fit in
    let joined = joined_canonical tell given all.joined (has_joined tell FitsSpan given order all) in
    let same : map (tell_span tell) all.joined ≡ spans =
    one_path_list (map (tell_span tell) all.joined) spans joined.canonical canonical.canonical
    (λ p. joined.same p ∙ sym (canonical.same p)) in
    let records = has_records version path all.joined all.each (subst (AllByRecursion IsPathSpanOfInstructions) (sym same) none) in
    let each = subst (AllZip (IsPlainPathRecord version) records.0) same records.1 in
    (text_of plain_by_path version records.0, plain_canonical version records.0 canonical each)

-- ---- a least border with another operation index

-- the least of some positions with an operation index other than 0
record IsLeast (borders : List Position) (position : Position) : Type 0 where
  border : Contains borders position
  op : position.op ≢ 0
  least : AllByRecursion (λ p. p.op ≢ 0 → IsAtMost position p) borders

further : (borders : List Position) (x p : Position) → Contains borders p → Contains (x ∷ borders) p
further borders x p (k, lt, same) = (suc k, omega (arith, lt), same)

-- none of them has such an operation index
none_less : (borders : List Position) (position : Position) → AllByRecursion (λ p. p.op ≡ 0) borders
    → AllByRecursion (λ p. p.op ≢ 0 → IsAtMost position p) borders
none_less [] position h = tt
none_less (x ∷ borders) position h = (λ op. absurd (op h.0), none_less borders position h.1)

-- what is at most the least is at most each of them
lesser : (borders : List Position) (position other : Position) → IsAtMost other position
    → AllByRecursion (λ p. p.op ≢ 0 → IsAtMost position p) borders
    → AllByRecursion (λ p. p.op ≢ 0 → IsAtMost other p) borders
lesser [] position other below h = tt
lesser (x ∷ borders) position other below h = (λ op. at_most_trans below (h.0 op), lesser borders position other below h.1)

zero_or_not : (n : ℕ) → (n ≡ 0) ⊎ (n ≢ 0)
zero_or_not n = elim (cases_Bool (n == 0)) [ inl e ↦ inl (eqb-true n 0 e) | inr e ↦ inr (λ same. let yes = eq-eqb n 0 same in cc) ]

none_or_least : (borders : List Position) → AllByRecursion (λ p. p.op ≡ 0) borders ⊎ ((position : Position) × IsLeast borders position)
none_or_least [] = inl tt
none_or_least (x ∷ borders) = elim (zero_or_not x.op) [
  | inl zero ↦ elim (none_or_least borders) [
    | inl none ↦ inl (zero, none)
    | inr some ↦ inr (
      some.0,
      record { border = further borders x some.0 some.1.border; op = some.1.op; least = (λ op. absurd (op zero), some.1.least) },
    )
  ]
  | inr other ↦ elim (none_or_least borders) [
    | inl none ↦ inr (
      x,
      record { border = (0, omega arith, refl); op = other; least = (λ op. at_most_itself x, none_less borders x none) },
    )
    | inr some ↦ elim (order_cases x some.0) [
      | inl below ↦ inr (
        x,
        record {
          border = (0, omega arith, refl);
          op = other;
          least = (λ op. at_most_itself x, lesser borders some.0 x (below_is_at_most below) some.1.least);
        },
      )
      | inr past ↦ inr (
        some.0,
        record { border = further borders x some.0 some.1.border; op = some.1.op; least = (λ op. past, some.1.least) },
      )
    ]
  ]
]

of_borders : (spans : List PathSpan) → AllByRecursion (λ p. p.op ≡ 0) (path_borders spans) → AllByRecursion IsPathSpanOfInstructions spans
of_borders [] h = tt
of_borders (span ∷ spans) h = ((h.0, h.1.0), of_borders spans h.1.1)

pub no_operation_or_least : (spans : List PathSpan)
    → AllByRecursion IsPathSpanOfInstructions spans ⊎ ((position : Position) × IsLeastOperation spans position)
no_operation_or_least spans = elim (none_or_least (path_borders spans)) [
  | inl none ↦ inl (of_borders spans none)
  | inr some ↦ inr (some.0, record { border = some.1.border; op = some.1.op; least = some.1.least })
]
