-- The stretches given so far are a prefix of a list of all stretches.
use Rattle.std.proofs.Common.{◌≡◌, ◌≢◌, ◌∙◌, ℕ, List, [], ◌∷◌, ◌⊎◌, inl, inr, refl, ap, sym, None, Option, Some, map, option_map}
use Rattle.std.proofs.lemmas.Bool.{cases_eq}
use Rattle.lnt_spans.specs.declared.position.Position.{Position}
use Rattle.lnt_spans.specs.declared.span.Span.{Span}
use Rattle.lnt_spans.specs.Positions.{IsAtMost}
use Rattle.lnt_spans.proofs.PositionLaws.{at_most_itself, at_most_trans, below_is_at_most}
use Rattle.lnt_spans.proofs.RunLaws.{HasRuns, first_runs}
use Rattle.lnt_spans.proofs.SameLaws.{same_options}
use Rattle.lnt_spans.proofs.StretchLaws.{AllAfter, given_on}
use Rattle.lnt_compare.specs.declared.path_tables.path_differences.DifferencesByPath.{DifferencesByPath}
use Rattle.lnt_records.specs.declared.path_records.record.HeldPath.{HeldPath}
use Rattle.lnt_compare.specs.Held.{held_span, IsTableAt, PathsEndAfter}
use Rattle.lnt_records.specs.PathSpans.{path_answer, PathAnswer, path_span_answer, PathSpan, StandInOrder, path_spans}
use Rattle.lnt_spans.specs.AnyStretches.{Stretch}
use Rattle.lnt_records.specs.PathTables.{said_answer}
use Rattle.lnt_compare.specs.Differing.{HasFoundStretchesByPath}
use Rattle.lnt_spans.proofs.AnsweringLaws as table
use Rattle.lnt_compare.proofs.TableRunLemmas.{path_after}

-- ---- deciding whether two answers are the same

same_lists : {X : Type 0} → ((x y : X) → (x ≡ y) ⊎ (x ≢ y)) → (a b : List X) → (a ≡ b) ⊎ (a ≢ b)
same_lists same [] [] = inl refl
same_lists same [] (y ∷ b) = inr (λ e. cc e)
same_lists same (x ∷ a) [] = inr (λ e. cc e)
same_lists same (x ∷ a) (y ∷ b) = elim (same x y) [
  | inr other ↦ inr (λ e. other (cc e))
  | inl first ↦ elim (same_lists same a b) [ inr other ↦ inr (λ e. other (cc e)) | inl rest ↦ inl cc ]
]

make : List ℕ → ℕ → Option ℕ → PathAnswer
make path line column = record { path = path; line = line; column = column }

made : (a : PathAnswer) → make a.path a.line a.column ≡ a
unfolding make
made a = refl

pub same_path_answers : (a b : PathAnswer) → (a ≡ b) ⊎ (a ≢ b)
same_path_answers a b = elim (same_lists cases_eq a.path b.path) [
  | inr other ↦ inr (λ e. other (ap (λ (answer : PathAnswer). answer.path) e))
  | inl path ↦ elim (cases_eq a.line b.line) [
    | inr other ↦ inr (λ e. other (ap (λ (answer : PathAnswer). answer.line) e))
    | inl line ↦ elim (same_options cases_eq a.column b.column) [
      | inr other ↦ inr (λ e. other (ap (λ (answer : PathAnswer). answer.column) e))
      | inl column ↦
          inl (let all : make a.path a.line a.column ≡ make b.path b.line b.column = cc in sym (made a) ∙ all ∙ made b)
    ]
  ]
]

-- ---- the spans of a table, run by run

table_runs : (rest : List PathSpan) (at : Position) (answers : Position → Option PathAnswer) → StandInOrder rest → PathsEndAfter at rest
    → ((p : Position) → IsAtMost at p → path_span_answer rest p ≡ answers p) → HasRuns answers at
table_runs [] at answers o past same = ([], λ p h. sym (same p h))
table_runs (span ∷ more) at answers o past same =
    first_runs answers at span.low span.high span.answer (table.first_holds path_spans span more o) past
    (λ p h k. sym (same p h) ∙ table.none_before path_spans span more p o k)
    (λ p h le lt. sym (same p h) ∙ table.answer_in path_spans span more p le lt)
    (table_runs more span.high answers (table.rest_in_order path_spans span more o)
    (path_after span more span.high o (at_most_itself span.high))
    (λ p h. sym (table.answer_after path_spans span more p h) ∙ same p (at_most_trans (below_is_at_most past) h)))

-- ---- answers by path

-- an answer that is held somewhere
said : PathAnswer → HeldPath
said answer = record { path = record { ref_ptr = (0, 0); now = answer.path }; line = answer.line; column = answer.column }

as_said : (answer : Option PathAnswer) → answer ≡ option_map said_answer (option_map said answer)
unfolding said
as_said None = refl
as_said (Some answer) = refl

-- The stretches given so far begin a list of all of them.
pub path_stretches_on : {S : Type 0} (to_come : S → List Span → Type 0) (path : ℕ → ℕ → List ℕ) (differences : DifferencesByPath S)
    (by_section by_table : Position → Option PathAnswer) (told : List (Stretch PathAnswer))
    → HasFoundStretchesByPath to_come path differences by_section by_table told
    → (more : List (Stretch PathAnswer)) × AllAfter by_section by_table told more
path_stretches_on to_come path differences by_section by_table told h =
    let side = h.given.table in
    let at = differences.stretches.at in
    given_on to_come (λ held at answers. IsTableAt held.spans.now at answers) said_answer (path_answer differences.version path) said_answer
    differences.stretches by_section by_table told (same_options same_path_answers) h.given
    (table_runs (map held_span differences.stretches.table.spans.now) at by_table side.valued.order side.valued.past
    (λ p k. side.valued.same p k ∙ as_said (side.values p)
    ∙ sym (side.same p k (option_map said (side.values p)) (as_said (side.values p)))))
