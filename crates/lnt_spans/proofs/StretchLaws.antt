-- The stretches given so far are a prefix of the list of all stretches.
use Rattle.std.proofs.Common.{◌≡◌, ◌≢◌, ◌∙◌, ◌⊎◌, List, [], ◌∷◌, ◌++◌, Option, ap, inl, inr, map, refl, subst, sym, option_map}
use Rattle.std.proofs.Common.{append-nil, append_assoc}
use Rattle.std.specs.List.{AllByRecursion}
use Rattle.std.proofs.lemmas.List.{map-append}
use Rattle.lnt_spans.specs.declared.ahead.Ahead.{Ahead}
use Rattle.lnt_spans.specs.declared.differences.Differences.{Differences}
use Rattle.lnt_spans.specs.Answers.{in_version}
use Rattle.lnt_spans.specs.AnyStretches.{AreAllStretches, EndsAt, LastsTo, Stay, Stretch, stretch_at, Position, AreToldBelow}
use Rattle.lnt_spans.specs.Positions.{IsBelow}
use Rattle.lnt_spans.specs.Stretching.{HasFoundStretches, HasGiven, Stretches}
use Rattle.lnt_spans.specs.Runs.{IsAheadAt, IsSideAt}
use Rattle.lnt_spans.specs.Spans.{span_answer, Answer, Span}
use Rattle.lnt_spans.specs.Differences.{AreStretches, stretch_of, stretches_of, Difference}
use Rattle.lnt_spans.proofs.PositionLaws.{at_most_itself, below_at_most, below_is_at_most}
use Rattle.lnt_spans.proofs.RunLaws.{AreDecided, GoesOn, HasRuns, all_told, span_runs, stay_on}
use Rattle.lnt_spans.proofs.SameLaws.{same_answers, same_options}
use Rattle.lnt_spans.proofs.StretchLemmas.{same_option}
use Rattle.lnt_spans.proofs.ToldStretchLaws.{all_push, told_all, told_alike, told_new, told_on}

-- ---- each stretch has an end

abbrev pub HasEnd : {X : Type 0} → (Position → Option X) → (Position → Option X) → Stretch X → Type 0
HasEnd f g stretch = (end : Position) × EndsAt f g stretch end

-- The stretch lasts up to a position below which the two answers are these.
record IsOpenTo {X : Type 0} (f g : Position → Option X) (at : Position) (s t : Option X) (stretch : Stretch X) : Type 0 where
  pub section : stretch.by_section ≡ s
  pub table : stretch.by_table ≡ t
  pub differ : t ≢ s
  pub lasts : LastsTo f g stretch at

-- Each of these has an end below, or is open.
abbrev AreEnding : {X : Type 0} → (Position → Option X) → (Position → Option X) → Position → Option X → Option X → List (Stretch X) → Type 0
AreEnding f g at s t = AllByRecursion (λ stretch. HasEnd f g stretch ⊎ IsOpenTo f g at s t stretch)

each_implied : {X : Type 0} (P Q : X → Type 0) → ((x : X) → P x → Q x) → (list : List X) → AllByRecursion P list → AllByRecursion Q list
each_implied P Q so [] h = tt
each_implied P Q so (x ∷ list) h = (so x h.0, each_implied P Q so list h.1)

-- where one of the answers is another one, those that were open end
closed : {X : Type 0} (f g : Position → Option X) (at : Position) (s t : Option X) (stretch : Stretch X) → IsOpenTo f g at s t stretch
    → (f at ≡ s → g at ≡ t → ⊥) → HasEnd f g stretch
closed f g at s t stretch is_open other = (
  at,
  record { lasts = is_open.lasts; over = λ is. other (is.section ∙ is_open.section) (is.table ∙ is_open.table) },
)

all_closed : {X : Type 0} (f g : Position → Option X) (at : Position) (s t : Option X) (list : List (Stretch X)) → AreEnding f g at s t list
    → (t ≢ s → f at ≡ s → g at ≡ t → ⊥) → AllByRecursion (HasEnd f g) list
all_closed f g at s t list h other =
    each_implied (λ stretch. HasEnd f g stretch ⊎ IsOpenTo f g at s t stretch) (HasEnd f g)
    (λ stretch so. elim so [
      | inl end ↦ end
      | inr is_open ↦ closed f g at s t stretch is_open (other is_open.differ)
    ]) list h

ending : {X : Type 0} (f g : Position → Option X) (at : Position) (s t : Option X) (list : List (Stretch X))
    → AllByRecursion (HasEnd f g) list → AreEnding f g at s t list
ending f g at s t = each_implied (HasEnd f g) (λ stretch. HasEnd f g stretch ⊎ IsOpenTo f g at s t stretch) (λ stretch end. inl end)

-- both answers stay
kept_open : {X : Type 0} (f g : Position → Option X) (at end : Position) (s t : Option X) (list : List (Stretch X))
    → AreEnding f g at s t list → IsBelow at end → Stay f g s t at end → AreEnding f g end s t list
kept_open f g at end s t list h lt stay =
    each_implied (λ stretch. HasEnd f g stretch ⊎ IsOpenTo f g at s t stretch)
    (λ stretch. HasEnd f g stretch ⊎ IsOpenTo f g end s t stretch)
    (λ stretch so. elim so [
      | inl ends ↦ inl ends
      | inr is_open ↦ inr (record {
        section = is_open.section;
        table = is_open.table;
        differ = is_open.differ;
        lasts = record {
          past = below_at_most is_open.lasts.past (below_is_at_most lt);
          stay = stay_on f g stretch.by_section stretch.by_table stretch.position at end is_open.lasts.stay
              (λ p h k. let on = stay p h k in
              record { section = on.section ∙ sym is_open.section; table = on.table ∙ sym is_open.table });
        };
      })
    ]) list h

-- ---- what was given, and what comes after it

abbrev ToldAfter : {X : Type 0} → (Position → Option X) → (Position → Option X) → List (Stretch X) → Position → Option X → Option X
    → List (Stretch X) → Type 0
ToldAfter f g told at s t more = AreToldBelow f g at s t (told ++ more) × AreEnding f g at s t more

abbrev pub AllAfter : {X : Type 0} → (Position → Option X) → (Position → Option X) → List (Stretch X) → List (Stretch X) → Type 0
AllAfter f g told more = AreAllStretches f g (told ++ more) × AllByRecursion (HasEnd f g) more

goes_on : {X : Type 0} (f g : Position → Option X) (told : List (Stretch X))
    → GoesOn f g stretch_at (ToldAfter f g told) (AllAfter f g told)
goes_on f g told = record {
  kept = λ at end s t more h lt stay. (
    told_on f g at end s t (told ++ more) h.0 lt stay,
    kept_open f g at end s t more h.1 lt stay,
  );
  alike = λ at end s t s' t' more h lt stay same.
      let here = stay at (at_most_itself at) lt in (
        told_alike f g at end s t s' t' (told ++ more) h.0 lt stay same,
        ending f g end s' t' more (all_closed f g at s t more h.1
            (λ differ is is'. differ (sym is' ∙ here.table ∙ sym same ∙ sym here.section ∙ is))),
      );
  other = λ at end s t s' t' more h lt stay differ other.
      let here = stay at (at_most_itself at) lt in (
        subst (AreToldBelow f g end s' t') (append_assoc told more _)
            (told_new f g at end s t s' t' (told ++ more) h.0 lt stay differ other),
        all_push (λ stretch. HasEnd f g stretch ⊎ IsOpenTo f g end s' t' stretch) more (stretch_at at s' t')
            (ending f g end s' t' more (all_closed f g at s t more h.1
            (λ _ is is'. other (sym here.section ∙ is) (sym here.table ∙ is'))))
            (inr (record { section = refl; table = refl; differ = differ; lasts = record { past = lt; stay = stay } })),
      );
  ended = λ at s t more h none none'. (
    told_all f g at s t (told ++ more) h.0 none none',
    all_closed f g at s t more h.1
        (λ differ is is'. differ (sym is' ∙ none' at (at_most_itself at) ∙ sym (none at (at_most_itself at)) ∙ is)),
  );
}

-- the runs of spans that come from a source
pub ahead_runs : {S X : Type 0} (to_come : S → List Span → Type 0) (tell : Answer → X) (ahead : Ahead S) (at : Position)
    (answers : Position → Option X) → IsSideAt (IsAheadAt to_come) (λ answer. answer) tell ahead at answers → HasRuns answers at
ahead_runs to_come tell ahead at answers s =
    let spans = s.valued in
    span_runs tell spans.rest at answers spans.order spans.past (λ p h.
    sym (s.same p h (span_answer spans.rest p) (sym (spans.same p h) ∙ sym (same_option (span_answer spans.rest p)))))

-- The stretches given so far begin the list of all of them. Each of the others has an end.
pub given_on : {S N A V X : Type 0} (to_come : S → List Span → Type 0) (is_at : N → Position → (Position → Option V) → Type 0)
    (value_of : A → V) (tell : Answer → X) (said : A → X) (stretches : Stretches S N A) (by_section by_table : Position → Option X)
    (told : List (Stretch X)) → AreDecided X → HasGiven to_come is_at value_of tell said stretches by_section by_table told
    → HasRuns by_table stretches.at → (more : List (Stretch X)) × AllAfter by_section by_table told more
given_on to_come is_at value_of tell said stretches by_section by_table told same h runs =
    let s = option_map tell stretches.before.section in
    let t = option_map said stretches.before.table in
    all_told same by_section by_table stretch_at (ToldAfter by_section by_table told) (AllAfter by_section by_table told)
    (goes_on by_section by_table told) stretches.at s t []
    (ahead_runs to_come tell stretches.section stretches.at by_section h.section) runs
    (subst (AreToldBelow by_section by_table stretches.at s t) (sym (append-nil told)) h.below, tt)

-- ---- by number

difference_of : Stretch Answer → Difference
difference_of stretch =
    record { position = stretch.position; by_table = stretch.by_table; by_section = stretch.by_section }

as_stretches : (list : List (Stretch Answer)) → stretches_of (map difference_of list) ≡ list
unfolding difference_of
as_stretches [] = refl
as_stretches (stretch ∷ list) = ap (λ (more : List (Stretch Answer)). stretch ∷ more) (as_stretches list)

pub stretches_on : {S T : Type 0} (of_section : S → List Span → Type 0) (of_table : T → List Span → Type 0) (differences : Differences S T)
    (by_section by_table : Position → Option Answer) (told : List Difference)
    → HasFoundStretches of_section of_table differences by_section by_table told
    → (more : List Difference) × AreStretches by_section by_table (told ++ more)
    × AllByRecursion (HasEnd by_section by_table) (stretches_of more)
stretches_on of_section of_table differences by_section by_table told h =
    let all = given_on of_section (IsAheadAt of_table) (λ answer. answer) (in_version differences.version) (λ answer. answer)
    differences.stretches by_section by_table (stretches_of told) (same_options same_answers) h
    (ahead_runs of_table (λ answer. answer) differences.stretches.table differences.stretches.at by_table h.table) in (
      map difference_of all.0,
      subst (AreAllStretches by_section by_table)
          (ap (λ (more : List (Stretch Answer)). stretches_of told ++ more) (sym (as_stretches all.0))
          ∙ sym (map-append stretch_of told (map difference_of all.0))) all.1.0,
      subst (AllByRecursion (HasEnd by_section by_table)) (sym (as_stretches all.0)) all.1.1,
    )
