-- The stretches of a section and a table by path: where none was given yet, and one given after another.
use Rattle.std.proofs.Common.{◌≡◌, ℕ, List, [], ◌∷◌, ◌++◌, Option, Some, None, map, refl, ap, is_some, subst, sym, IfSome, MatchOption}
use Rattle.std.proofs.lemmas.List.{map-append}
use Rattle.lnt_spans.specs.declared.position.Position.{Position}
use Rattle.lnt_spans.specs.declared.span.Span.{Span}
use Rattle.lnt_spans.specs.declared.any_stretches.Stretches.{Stretches}
use Rattle.lnt_spans.specs.AnyStretches.{AreAllStretches}
use Rattle.lnt_spans.specs.Merged.{until}
use Rattle.lnt_spans.specs.Partial.{addresses_answered}
use Rattle.lnt_spans.specs.Spans.{AreInOrder}
use Rattle.lnt_spans.specs.Stretching.{HasBegun, HasGiven}
use Rattle.lnt_spans.proofs.CountLemmas.{no_addresses}
use Rattle.lnt_spans.proofs.MergedLemmas.{until_from}
use Rattle.lnt_spans.proofs.PositionLaws.{not_both, origin_first}
use Rattle.lnt_spans.proofs.StretchLemmas.{begins_at, begun_given}
use Rattle.lnt_compare.specs.declared.path_tables.answer.DifferenceByPath.{DifferenceByPath}
use Rattle.lnt_compare.specs.declared.path_tables.path_differences.HeldSpans.{HeldSpans}
use Rattle.lnt_compare.specs.declared.path_tables.telling.PathMemory.{PathMemory}
use Rattle.lnt_records.specs.declared.path_records.record.HeldPath.{HeldPath}
use Rattle.lnt_records.specs.declared.path_records.version.PathVersion.{PathVersion}
use Rattle.lnt_compare.specs.Passing.{IsRemembered}
use Rattle.lnt_compare.specs.Held.{held_span, IsTableAt}
use Rattle.lnt_records.specs.PathSpans.{path_answer, PathAnswer, spans_by_path, path_span_answer, StandInOrder, whole}
use Rattle.lnt_compare.specs.PathStretches.{ArePathStretches, stretch_of, stretches_of}
use Rattle.lnt_records.specs.PathTables.{said_answer}
use Rattle.lnt_compare.specs.Differing.{HasFoundStretchesByPath}
use Rattle.lnt_compare.proofs.TableRunLemmas.{path_begins}

-- what a table that is held has left
abbrev IsHeldAt : HeldSpans → Position → (Position → Option PathAnswer) → Type 0
IsHeldAt held at answers = IsTableAt held.spans.now at answers

-- no address lies below the first position
none_before : (f : Position → Option PathAnswer) → addresses_answered (until (whole 0) f) ≡ 0
none_before f = no_addresses (until (whole 0) f) (λ p. ap is_some (until_from (whole 0) p f (origin_first p)))

pub path_begun : {S : Type 0} (to_come : S → List Span → Type 0) (section : S) (held : HeldSpans) (version : PathVersion) (at : Position)
    (stretches : Stretches S HeldSpans HeldPath) (path : ℕ → ℕ → List ℕ) (list : List Span) (f : Position → Option PathAnswer)
    → HasBegun to_come section held at 0 stretches → at ≡ whole 0 → to_come section list → AreInOrder list
    → ((p : Position) → spans_by_path version path list p ≡ f p) → StandInOrder (map held_span held.spans.now)
    → HasFoundStretchesByPath to_come path (record { version = version; stretches = stretches; memory = None }) f
    (path_span_answer (map held_span held.spans.now)) []
path_begun to_come section held version at stretches path list f b e coming order same stand = record {
  given = begun_given to_come IsHeldAt said_answer (path_answer version path) said_answer section held at 0 stretches f
      (path_span_answer (map held_span held.spans.now)) b (rw e (sym (none_before f)))
      (rw e (begins_at to_come (path_answer version path) stretches.section [] list f (b.ahead list coming) order same))
      (rw e (record {
        values = path_span_answer (map held_span held.spans.now);
        valued = record { order = stand; past = path_begins (map held_span held.spans.now) stand; same = λ p h. refl };
        same = λ p h answer is. is;
      }))
      (λ p below. absurd (not_both below (rw e (origin_first p))));
  remembered = tt;
}

pub told_next : {S : Type 0} (to_come : S → List Span → Type 0) (path : ℕ → ℕ → List ℕ) (version : PathVersion)
    (stretches : Stretches S HeldSpans HeldPath) (kept : Option PathMemory) (f g : Position → Option PathAnswer)
    (told : List DifferenceByPath) (found : Option DifferenceByPath) (P Q : Type 0) → IfSome kept (IsRemembered path)
    → MatchOption found (AreAllStretches f g (stretches_of told) × P × Q)
    (λ difference. HasGiven to_come IsHeldAt said_answer (path_answer version path) said_answer stretches f g
    (stretches_of told ++ stretch_of difference ∷ []))
    → MatchOption found (ArePathStretches f g told) (λ difference. HasFoundStretchesByPath to_come path
    (record { version = version; stretches = stretches; memory = kept }) f g (stretches_of (told ++ difference ∷ [])))
told_next to_come path version stretches kept f g told None P Q remembered all = all.0
told_next to_come path version stretches kept f g told (Some difference) P Q remembered given = record {
  given = subst (HasGiven to_come IsHeldAt said_answer (path_answer version path) said_answer stretches f g)
      (sym (map-append stretch_of told (difference ∷ []))) given;
  remembered = remembered;
}
