-- A side within one of its runs: how the run is followed and left.
use Rattle.std.proofs.Common.{List, Option, arith, option_map}
use Rattle.lnt_spans.specs.declared.runs.Run.{Run}
use Rattle.lnt_spans.specs.AnyStretches.{Stretch}
use Rattle.lnt_spans.specs.Positions.{IsAtMost, Position}
use Rattle.lnt_spans.specs.Runs.{IsBefore, IsRun, IsSideAt, IsUpTo, Answer, Span}
use Rattle.lnt_spans.specs.Stepping.{IsInRun}
use Rattle.lnt_spans.specs.Stretching.{HasGiven, Stretches}
use Rattle.lnt_spans.proofs.PositionLaws.{at_most_trans}
use Rattle.std.proofs.lemmas.Grind.{common_steps}

module _ {N A V X : Type 0} (is_at : N → Position → (Position → Option V) → Type 0) (value_of : A → V) (said : A → X) (run : Run A)
    (from : Position) (side : N) (answers : Position → Option X) where
  -- it answers as the run does until that ends
  pub run_on : (at : Position) (values : Position → Option V) → IsInRun is_at value_of run from side at values → IsBefore at run.end
      → IsRun values at (option_map value_of run.answer) run.end
  run_on at values s past = record { past = past; says = s.says }

  -- followed to a later position that isn't after the end
  pub followed : (at to : Position) (values : Position → Option V) → IsAtMost at to → IsUpTo to run.end
      → IsInRun is_at value_of run from side at values → IsInRun is_at value_of run from side to values
  followed at to values le up s = grind (arith, common_steps, at_most_trans)

  -- and left there
  pub left_at : (new : N) (at : Position) → IsSideAt (IsInRun is_at value_of run from) value_of said side at answers
      → ((values : Position → Option V) → is_at side from values → IsAtMost from at → IsUpTo at run.end → is_at new at values)
      → IsSideAt is_at value_of said new at answers
  left_at new at s leaves = grind (arith, common_steps)

module _ {S N A V X : Type 0} (to_come : S → List Span → Type 0) (is_at : N → Position → (Position → Option V) → Type 0)
    (value_of : A → V) (tell : Answer → X) (said : A → X) (run : Run A) (stretches : Stretches S N A)
    (by_section by_table : Position → Option X) (told : List (Stretch X)) where
  -- nothing changes where it is left
  pub given_left : (from : Position) (new : N) → HasGiven to_come (IsInRun is_at value_of run from) value_of tell said stretches by_section
      by_table told
      → ((values : Position → Option V) → is_at stretches.table from values → IsAtMost from stretches.at → IsUpTo stretches.at run.end
      → is_at new stretches.at values)
      → HasGiven to_come is_at value_of tell said (record stretches { table = new }) by_section by_table told
  given_left from new h leaves = grind (arith, common_steps, left_at)
