-- Laws of what comparisons of tables of any kind come to.
use Rattle.lnt_spans.specs.SpanKinds.{answer_held}
use Rattle.std.proofs.Common.{◌≡◌, ◌∙◌, ℕ, List, Option, ap, inl, inr, refl, subst, sym}
use Rattle.lnt_spans.specs.declared.position.Position.{Position}
use Rattle.lnt_spans.specs.declared.scope.Scope.{Scope}
use Rattle.lnt_spans.specs.AnyStretches.{Stretch, stretch_at}
use Rattle.lnt_spans.specs.Differences.{IsFirstDifference}
use Rattle.lnt_spans.specs.Merged.{IsJudged}
use Rattle.lnt_spans.specs.Laws.{AnswerAlike}
use Rattle.lnt_spans.specs.Positions.{IsBelow}
use Rattle.lnt_spans.proofs.JudgedLaws.{judged_of_same}
use Rattle.lnt_spans.proofs.PositionLaws.{order_three}
use Rattle.lnt_compare.specs.declared.outcome.Compared.TheVariants.{Same, Fault, Differs}
use Rattle.lnt_compare.specs.Outcomes.{IsOutcomeOf, Outcome}
use Rattle.lnt_compare.specs.declared.outcome.TableRead.TheVariants as outcome
use Rattle.lnt_compare.specs.Comparisons.{IsComparisonOf, IsTableWhere, TableKind}
use Rattle.lnt_compare.specs.Laws.{OneComparison}
use Rattle.lnt_records.proofs.TableLaws.{FormatLaws, no_fault, one_fault, one_table}

-- ---- the first difference

not_lower : {X : Type 0} (by_section by_table : Position → Option X) (one other : Stretch X) → IsFirstDifference by_section by_table one
    → IsFirstDifference by_section by_table other → IsBelow one.position other.position → ⊥
not_lower by_section by_table one other d e below = d.differ (d.table ∙ sym (e.least one.position below) ∙ sym d.section)

pub one_difference : {X : Type 0} (by_section by_table : Position → Option X) (one other : Stretch X)
    → IsFirstDifference by_section by_table one → IsFirstDifference by_section by_table other → one ≡ other
one_difference {X} by_section by_table one other d e =
    let same : one.position ≡ other.position = elim (order_three one.position other.position) [
      | inl below ↦ absurd (not_lower by_section by_table one other d e below)
      | inr (inl is) ↦ is
      | inr (inr above) ↦ absurd (not_lower by_section by_table other one e d above)
    ] in
    ap (λ (p : Position). stretch_at p one.by_section one.by_table) same
    ∙ ap (λ (o : Option X). stretch_at other.position o one.by_table) (d.section ∙ ap by_section same ∙ sym e.section)
    ∙ ap (stretch_at other.position other.by_section) (d.table ∙ ap by_table same ∙ sym e.table)

-- ---- what is so of a table and of a section's answers

-- what follows from it, for what is known to be answered
pub where_implied : {V X Y D : Type 0} (kind : TableKind V X Y D) (f g : V → Position → Option Y) (bytes : List ℕ)
    (P Q : (Position → Option Y) → (Position → Option Y) → Type 0)
    → ((version : V) (by_table : Position → Option Y) → P (f version) by_table → Q (g version) by_table)
    → IsTableWhere kind.format (answer_held kind.spans) f bytes P → IsTableWhere kind.format (answer_held kind.spans) g bytes Q
where_implied kind f g bytes P Q step h =
    record { version = h.version; table = h.table; is_table = h.is_table; so = step h.version (answer_held kind.spans h.table) h.so }

-- what follows from both of two such facts, as bytes are one table
pub where_both : {V X Y D : Type 0} (kind : TableKind V X Y D) → FormatLaws kind.format
    → (bytes : List ℕ) (section : V → Position → Option Y)
    (P Q : (Position → Option Y) → (Position → Option Y) → Type 0) (R : Type 0)
    → ((by_section by_table : Position → Option Y) → P by_section by_table → Q by_section by_table → R)
    → IsTableWhere kind.format (answer_held kind.spans) section bytes P
    → IsTableWhere kind.format (answer_held kind.spans) section bytes Q → R
where_both {V} {X} kind laws bytes section P Q R step h k =
    let tables = one_table kind.format laws bytes h.version k.version h.table k.table h.is_table k.is_table in
    let in_version : P (section k.version) (answer_held kind.spans h.table) =
    subst (λ (v : V). P (section v) (answer_held kind.spans h.table)) tables.0 h.so in
    step (section k.version) (answer_held kind.spans k.table)
    (subst (λ (xs : List X). P (section k.version) (answer_held kind.spans xs)) tables.1 in_version) k.so

-- ---- sections with the same answers

pub outcome_of_alike : {V X Y D : Type 0} (kind : TableKind V X Y D) (scope : Scope) (bytes : List ℕ) (f g : V → Position → Option Y)
    (told : Outcome D) → ((version : V) → AnswerAlike (f version) (g version)) → IsOutcomeOf kind scope f bytes told
    → IsOutcomeOf kind scope g bytes told
outcome_of_alike kind scope bytes f g (outcome.Fault told) same h = h
outcome_of_alike kind scope bytes f g (outcome.Table judged) same h =
    where_implied kind f g bytes (λ by_section by_table. IsJudged scope kind.stretch by_section by_table judged)
    (λ by_section by_table. IsJudged scope kind.stretch by_section by_table judged)
    (λ version by_table is. judged_of_same scope kind.stretch by_table (f version) (g version) judged (same version) is) h

-- ---- one comparison

no_difference : {V X Y D : Type 0} (kind : TableKind V X Y D) → FormatLaws kind.format → (bytes : List ℕ)
    (section : V → Position → Option Y) (difference : D) → IsComparisonOf kind section bytes Same
    → IsComparisonOf kind section bytes (Differs difference) → ⊥
no_difference kind laws bytes section difference h d =
    where_both kind laws bytes section (λ by_section by_table. AnswerAlike by_section by_table)
    (λ by_section by_table. IsFirstDifference by_section by_table (kind.stretch difference)) ⊥
    (λ by_section by_table agree first.
    first.differ (first.table ∙ sym (agree (kind.stretch difference).position) ∙ sym first.section)) h d

two_differences : {V X Y D : Type 0} (kind : TableKind V X Y D) → FormatLaws kind.format → (bytes : List ℕ)
    (section : V → Position → Option Y) (a b : D) → IsComparisonOf kind section bytes (Differs a)
    → IsComparisonOf kind section bytes (Differs b) → kind.stretch a ≡ kind.stretch b
two_differences kind laws bytes section a b d e =
    where_both kind laws bytes section (λ by_section by_table. IsFirstDifference by_section by_table (kind.stretch a))
    (λ by_section by_table. IsFirstDifference by_section by_table (kind.stretch b)) (kind.stretch a ≡ kind.stretch b)
    (λ by_section by_table one other. one_difference by_section by_table (kind.stretch a) (kind.stretch b) one other) d e

-- All true comparisons of some bytes with a section say the same.
pub one_comparison : {V X Y D : Type 0} (kind : TableKind V X Y D) → FormatLaws kind.format → OneComparison kind
one_comparison kind laws bytes section Same Same h k = refl
one_comparison kind laws bytes section Same (Fault told) h k = absurd (no_fault kind.format laws bytes h.version h.table told h.is_table k)
one_comparison kind laws bytes section Same (Differs b) h k = absurd (no_difference kind laws bytes section b h k)
one_comparison kind laws bytes section (Fault told) Same h k = absurd (no_fault kind.format laws bytes k.version k.table told k.is_table h)
one_comparison kind laws bytes section (Fault told) (Fault other) h k = ap Fault (one_fault kind.format laws bytes told other h k)
one_comparison kind laws bytes section (Fault told) (Differs b) h k =
    absurd (no_fault kind.format laws bytes k.version k.table told k.is_table h)
one_comparison kind laws bytes section (Differs a) Same h k = absurd (no_difference kind laws bytes section a k h)
one_comparison kind laws bytes section (Differs a) (Fault other) h k =
    absurd (no_fault kind.format laws bytes h.version h.table other h.is_table k)
one_comparison kind laws bytes section (Differs a) (Differs b) h k = ap Differs (two_differences kind laws bytes section a b h k)
