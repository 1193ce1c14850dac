-- What was written, and what came of a table.
use Rattle.std.proofs.Common.{◌≡◌, ◌∙◌, ◌⊎◌, ℕ, List, [], ◌∷◌, ◌++◌, map, inl, inr, Option, Some, None, refl, sym, ap, subst, option_map}
use Rattle.std.specs.Io.KnownBytes.{Appends, Keeps}
use Rattle.std.specs.List.{AllByRecursion}
use Rattle.std.proofs.lemmas.List.{map-append}
use Rattle.lnt_records.specs.Progress.{HasBegunLines, HasWrittenLines}
use Rattle.lnt_records.specs.Written.{BeginsTableIn}
use Rattle.lnt_records.proofs.LineLaws.{none_begun, table_begun, text_of}
use Rattle.lnt_spans.specs.declared.answer.Answer.{Answer}
use Rattle.lnt_spans.specs.declared.position.Position.{Position}
use Rattle.lnt_spans.specs.declared.span.Span.{Span}
use Rattle.lnt_spans.specs.Spans.{AreInOrder, span_answer, IsOfInstructions}
use Rattle.lnt_records.specs.declared.path_records.version.PathVersion.{PathVersion}
use Rattle.lnt_compare.specs.PathStretches.{IsPathSpanOfInstructions}
use Rattle.lnt_compare.specs.Joining.{LeaveOff, tell_span}
use Rattle.lnt_writing.specs.Joined.{Any, AreJoined, IsFirstOperation}
use Rattle.lnt_records.specs.PathSpans.{PathAnswer, AreCanonicalOf, PathSpan}
use Rattle.lnt_records.specs.PathLines.{IsPlainPathTable, plain_by_path}
use Rattle.lnt_spans.specs.Merged.{answer_told}
use Rattle.lnt_writing.specs.Canonical.{BeginsPathTable, HasOperationIndex, IsCanonicalPathTable}
use Rattle.lnt_writing.proofs.BorderLemmas.{first_before, first_least}
use Rattle.lnt_compare.proofs.CompletionLaws.{same_path_answers}
use Rattle.lnt_compare.proofs.JoiningLemmas.{left_first}
use Rattle.lnt_writing.proofs.CanonicalLemmas.{all_join, all_left, has_joined, joined_canonical, joins_on}
use Rattle.lnt_writing.proofs.PathWrittenLaws.{plain_canonical}
use Rattle.lnt_records.proofs.PathLineLaws.{one_record}
use Rattle.lnt_writing.proofs.UniqueLemmas.{one_path_list}

pub keeps_same : (known : Option (List ℕ)) → Keeps known known
keeps_same None = tt
keeps_same (Some bytes) = refl

-- ---- the table

none_by_path : (tell : Answer → PathAnswer) (joined : List Span) → AllByRecursion IsOfInstructions joined
    → AllByRecursion IsPathSpanOfInstructions (map (tell_span tell) joined)
none_by_path tell [] h = tt
none_by_path tell (s ∷ joined) h = (h.0, none_by_path tell joined h.1)

whole_back : (tell : Answer → PathAnswer) (joined : List Span) → AllByRecursion IsPathSpanOfInstructions (map (tell_span tell) joined)
    → AllByRecursion IsOfInstructions joined
whole_back tell [] h = tt
whole_back tell (s ∷ joined) h = (h.0, whole_back tell joined h.1)

-- What is known of two lists of spans: they are in order and answer alike.
pub record AnswerAlike (other list : List Span) : Type 0 where
  pub first : AreInOrder other
  pub second : AreInOrder list
  pub same : (p : Position) → span_answer other p ≡ span_answer list p

-- The joined spans of the first list, which all begin and end at operation index 0.
pub record AreWhole (tell : Answer → PathAnswer) (list judged : List Span) : Type 0 where
  pub joined : AreJoined tell list judged
  pub whole : AllByRecursion IsOfInstructions judged

canonical_of : (tell : Answer → PathAnswer) (other list joined : List Span) → AnswerAlike other list → AreJoined tell other joined
    → AreCanonicalOf (answer_told tell list) (map (tell_span tell) joined)
canonical_of tell other list joined alike j =
    let all = joined_canonical tell other joined j in
    record { canonical = all.canonical; same = λ p. all.same p ∙ ap (option_map tell) (alike.same p) }

pub operation_found : (tell : Answer → PathAnswer) (other list first : List Span) (p : Position) → AnswerAlike other list
    → IsFirstOperation p first → LeaveOff tell Any other first → HasOperationIndex (answer_told tell list) p
operation_found tell other list first p alike f left =
    let all = joins_on tell same_path_answers Any other first left in
    let canonical = canonical_of tell other list (first ++ all.0) alike all.1 in
    record {
      spans = map (tell_span tell) (first ++ all.0);
      canonical = canonical;
      least = first_least tell (first ++ all.0) p canonical.canonical.in_order (first_before first all.0 p f);
    }

-- if the joined spans of one list are of whole instructions, so are those of the other
whole_instructions : (tell : Answer → PathAnswer) (other list judged joined : List Span) → AnswerAlike other list
    → AreWhole tell other judged → AreJoined tell list joined → AllByRecursion IsPathSpanOfInstructions (map (tell_span tell) joined)
whole_instructions tell other list judged joined alike j joins =
    let one = canonical_of tell other list judged alike j.joined in
    let two = joined_canonical tell list joined joins in
    subst (AllByRecursion IsPathSpanOfInstructions)
    (one_path_list (map (tell_span tell) judged) (map (tell_span tell) joined) one.canonical two.canonical
    (λ p. one.same p ∙ sym (two.same p)))
    (none_by_path tell judged j.whole)

pub table_written : (tell : Answer → PathAnswer) (version : PathVersion) (old new : Option (List ℕ)) (other list judged joined : List Span)
    → AnswerAlike other list → AreWhole tell other judged → AreJoined tell list joined
    → (AllByRecursion IsOfInstructions joined → HasWrittenLines plain_by_path version old new (map (tell_span tell) joined))
    → (bytes : List ℕ) × Appends old new bytes × IsCanonicalPathTable version (answer_told tell list) bytes
table_written tell version old new other list judged joined alike j joins written =
    let w = written (whole_back tell joined (whole_instructions tell other list judged joined alike j joins)) in
    (text_of plain_by_path version w.records, w.written, plain_canonical version w.records (joined_canonical tell list joined joins) w.each)

-- ---- spans of whole instructions

pub alike_itself : (list : List Span) → AreInOrder list → AnswerAlike list list
alike_itself list order = record { first = order; second = order; same = λ p. refl }

pub all_whole : (tell : Answer → PathAnswer) (list : List Span) → AreInOrder list → AllByRecursion IsOfInstructions list
    → (judged : List Span) × AreWhole tell list judged
all_whole tell list order whole =
    let all = all_join tell same_path_answers IsOfInstructions (λ last next h k. (h.0, k.1)) list whole in
    (all.joined, record { joined = has_joined tell IsOfInstructions list order all; whole = all.each })

-- ---- a table whose writing was stopped

begins_path_table : (version : PathVersion) (answers : Position → Option PathAnswer) (old new : Option (List ℕ)) (spans : List PathSpan)
    → AreCanonicalOf answers spans → BeginsTableIn plain_by_path version spans old new
    → Keeps old new ⊎ AllByRecursion IsPathSpanOfInstructions spans → BeginsPathTable version answers old new
begins_path_table version answers old new spans canonical begun decided = record {
  spans = spans;
  canonical = canonical;
  begun = begun;
  of_whole = λ bytes whole. begun.of_whole bytes (subst (IsPlainPathTable version bytes)
      (one_path_list whole.spans spans whole.canonical.canonical canonical.canonical (λ p. whole.canonical.same p ∙ sym (canonical.same p)))
      whole.plain);
  decided = decided;
}

-- before anything was written
pub table_begun_none : (tell : Answer → PathAnswer) (version : PathVersion) (old : Option (List ℕ)) (list : List Span) → AreInOrder list
    → BeginsPathTable version (answer_told tell list) old old
table_begun_none tell version old list order =
    let all = joins_on tell same_path_answers Any list [] (left_first tell Any list tt order) in
    let spans : List PathSpan = map (tell_span tell) all.0 in
    begins_path_table version (answer_told tell list) old old spans (joined_canonical tell list all.0 all.1)
    (table_begun plain_by_path version (one_record version) old old [] spans spans (none_begun plain_by_path version old) refl)
    (inl (keeps_same old))

pub lines_begun : (tell : Answer → PathAnswer) (version : PathVersion) (old new : Option (List ℕ)) (other list judged first : List Span)
    → AnswerAlike other list → AreWhole tell other judged → LeaveOff tell Any list first
    → (AllByRecursion IsOfInstructions first → HasBegunLines plain_by_path version old new (map (tell_span tell) first))
    → BeginsPathTable version (answer_told tell list) old new
lines_begun tell version old new other list judged first alike j left lines =
    let all = joins_on tell same_path_answers Any list first left in
    let spans : List PathSpan = map (tell_span tell) (first ++ all.0) in
    let instructions = whole_instructions tell other list judged (first ++ all.0) alike j all.1 in
    begins_path_table version (answer_told tell list) old new spans (joined_canonical tell list (first ++ all.0) all.1)
    (table_begun plain_by_path version (one_record version) old new (map (tell_span tell) first) (map (tell_span tell) all.0) spans
    (lines (all_left IsOfInstructions first all.0 (whole_back tell (first ++ all.0) instructions)))
    (sym (map-append (tell_span tell) first all.0)))
    (inr instructions)
