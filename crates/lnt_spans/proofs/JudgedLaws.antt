-- What a table is judged to be, by answers of a section that are the same at every position.
use Rattle.std.proofs.Common.{◌≡◌, Option, arith, Ok, Err, Result}
use Rattle.lnt_spans.specs.declared.scope.Coverage.{Coverage}
use Rattle.lnt_spans.specs.declared.scope.Scope.{Scope}
use Rattle.lnt_spans.specs.declared.scope.Scope.TheVariants.{All, Answered}
use Rattle.lnt_spans.specs.AnyStretches.{Stretch, Position}
use Rattle.lnt_spans.specs.Merged.{IsJudged}
use Rattle.lnt_spans.specs.Partial.{IsRightAt}
use Rattle.lnt_spans.proofs.CountLemmas.{same_addresses}
use Rattle.std.proofs.lemmas.Grind.{common_steps}

-- the section answers the same at every position
abbrev pub AnswerSame : {X : Type 0} → (Position → Option X) → (Position → Option X) → Type 0
AnswerSame one other = (p : Position) → one p ≡ other p

right_of_same : {X : Type 0} (by_table one other : Position → Option X) (p : Position) → AnswerSame one other → IsRightAt by_table one p
    → IsRightAt by_table other p
right_of_same by_table one other p same h = grind (arith, common_steps)

pub judged_of_same : {D X : Type 0} (scope : Scope) (value_of : D → Stretch X) (by_table one other : Position → Option X)
    (judged : Result Coverage D) → AnswerSame one other → IsJudged scope value_of one by_table judged
    → IsJudged scope value_of other by_table judged
judged_of_same {D} {X} All value_of by_table one other (Ok coverage) same h = grind (arith, common_steps, same_addresses)
judged_of_same {D} {X} All value_of by_table one other (Err wrong) same h = grind (arith, common_steps)
judged_of_same {D} {X} Answered value_of by_table one other (Ok coverage) same h =
    grind (arith, common_steps, same_addresses, right_of_same)
judged_of_same {D} {X} Answered value_of by_table one other (Err wrong) same h = grind (arith, common_steps, right_of_same)
