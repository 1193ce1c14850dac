-- The lines of stretches in a scope, as something gives the differences with which they begin, one after another.
use Rattle.std.proofs.Common.{◌≡◌, ◌∙◌, Bool, true, false, cond, ℕ, List, [], ◌∷◌, ◌++◌, append-nil, Option, None, Some, ap}
use Rattle.std.proofs.Common.{MatchOption, flat_map, map, refl, subst, sym}
use Rattle.std.specs.List.{AllByRecursion}
use Rattle.std.specs.Io.KnownBytes.{Appends}
use Rattle.std.proofs.KnownBytes.{Appends-nil, Appends-trans}
use Rattle.std.proofs.lemmas.List.{map-append}
use Rattle.std.proofs.lemmas.List.Concat.{flat_map-append}
use Rattle.std.proofs.lemmas.List.Elements.{filter-append}
use Rattle.lnt_io.specs.Prefixes.{AppendsPrefix}
use Rattle.lnt_io.proofs.PrefixLaws.{prefix_after, prefix_all}
use Rattle.lnt_spans.specs.declared.position.Position.{Position}
use Rattle.lnt_spans.specs.declared.answer.Answer.{Answer}
use Rattle.lnt_spans.specs.AnyStretches.{Stretch}
use Rattle.lnt_spans.specs.Partial.{AreCounts}
use Rattle.lnt_sequences.specs.Copies.{IsAnyAnswer}
use Rattle.lnt_sequences.specs.Sequences.{Selection}
use Rattle.lnt_table.specs.AnyCopy.{AreAllWrong, AreFirstWrong, EndsWrong}
use Rattle.lnt_table.specs.WrongStretches.{HasFoundWrong}
use Rattle.lnt_table.specs.declared.kept.EndedDifference.{EndedDifference}
use Rattle.lnt_table.specs.declared.wrong.WrongStretches.{WrongStretches}
use Rattle.lnt_spans.specs.declared.scope.Coverage.{Coverage}
use Rattle.lnt_spans.specs.declared.scope.Scope.{Scope}
use Rattle.lnt_answers.specs.PrintedStretches.{IsEndTold}
use Rattle.lnt_answers.specs.Stepping.{AreBegun, AreEndsTold, ArePrinted, CopyCase, HasGivenWrong, ToldDifference, counts_in}
use Rattle.lnt_answers.specs.Stepping.{differences_of, if_none, said_by, told_in, told_lines}

-- ---- one more stretch

abbrev has_none : {X : Type 0} → List X → Bool
has_none [] = true
has_none (first ∷ list) = false

pub each_append : {X : Type 0} (P : X → Type 0) (list more : List X) → AllByRecursion P list → AllByRecursion P more
    → AllByRecursion P (list ++ more)
each_append P [] more h k = k
each_append P (x ∷ list) more h k = (h.0, each_append P list more h.1 k)

-- the line of one, if it passes the test
one_line : {X : Type 0} (line : X → List ℕ) (one : X) (counts : Bool)
    → flat_map line (cond counts (one ∷ []) []) ≡ cond counts (line one) []
one_line line one true = append-nil (line one)
one_line line one false = refl

none_more : {X : Type 0} (list : List X) (one : X) (counts : Bool)
    → cond counts false (has_none list) ≡ has_none (list ++ cond counts (one ∷ []) [])
none_more [] one true = refl
none_more (first ∷ list) one true = refl
none_more list one false = ap has_none (sym (append-nil list))

abbrev one_told : {D : Type 0} → D → Option Position → ToldDifference D
one_told d end = record { difference = d; end = end }

-- the lines of those in the scope, and of one more
more_lines : {D : Type 0} (shown : D → Option Position → List ℕ) (answered : D → Bool) (scope : Scope) (told : List (ToldDifference D))
    (d : D) (end : Option Position) → told_lines shown answered scope (told ++ one_told d end ∷ [])
    ≡ told_lines shown answered scope told ++ cond (counts_in scope (answered d)) (shown d end) []
more_lines {D} shown answered scope told d end =
    ap (flat_map (λ (one : ToldDifference D). shown one.difference one.end))
    (filter-append (λ (one : ToldDifference D). counts_in scope (answered one.difference)) told (one_told d end ∷ []))
    ∙ flat_map-append (λ (one : ToldDifference D). shown one.difference one.end) (told_in answered scope told)
    (told_in answered scope (one_told d end ∷ []))
    ∙ ap (λ more. told_lines shown answered scope told ++ more)
    (one_line (λ (one : ToldDifference D). shown one.difference one.end) (one_told d end) (counts_in scope (answered d)))

-- the end of a stretch, if ends are told
pub is_end_told : (IsEnd : Position → Type 0) (ends : Bool) (at : Position) (end : Option Position) → end ≡ cond ends (Some at) None
    → IsEnd at → IsEndTold ends IsEnd end
is_end_told IsEnd ends at end is so = subst (IsEndTold ends IsEnd) (sym is) (by ends)
  where
    by : (ends : Bool) → IsEndTold ends IsEnd (cond ends (Some at) None)
    by true = so
    by false = refl

-- ---- stretches that were given one after another

module _ {D : Type 0} (shown : D → Option Position → List ℕ) (answered : D → Bool) (IsEnd : D → Position → Type 0) (ends : Bool)
    (scope : Scope) where
  -- These were given, with ends, and the lines of those in the scope were written.
  --     IsGiven    which differences were given
  pub record HasPrinted (IsGiven : List D → Type 0) (old new : Option (List ℕ)) (is_right : Bool) : Type 0 where
    pub told : List (ToldDifference D)
    pub so : IsGiven (differences_of told)
    pub ends_told : AreEndsTold ends IsEnd told
    pub text : Appends old new (told_lines shown answered scope told)
    pub right : is_right ≡ has_none (told_in answered scope told)

module _ {D : Type 0} {shown : D → Option Position → List ℕ} {answered : D → Bool} {IsEnd : D → Position → Type 0} {ends : Bool}
    {scope : Scope} where
  pub printed_none : {IsGiven : List D → Type 0} {old : Option (List ℕ)} {is_right : Bool} → IsGiven [] → is_right ≡ true
      → HasPrinted shown answered IsEnd ends scope IsGiven old old is_right
  printed_none {old = old} so right = record { told = []; so = so; ends_told = tt; text = Appends-nil old; right = right }

  pub printed_more : {IsGiven AreMore : List D → Type 0} {old now new : Option (List ℕ)} {was_right is_right : Bool} (d : D)
      (end : Option Position) → (h : HasPrinted shown answered IsEnd ends scope IsGiven old now was_right)
      → AreMore (differences_of h.told ++ d ∷ []) → IsEndTold ends (IsEnd d) end
      → Appends now new (cond (counts_in scope (answered d)) (shown d end) [])
      → is_right ≡ cond (counts_in scope (answered d)) false was_right
      → HasPrinted shown answered IsEnd ends scope AreMore old new is_right
  printed_more {AreMore = AreMore} {old = old} {now = now} {new = new} d end h so is_end text right = record {
    told = h.told ++ one_told d end ∷ [];
    so = subst AreMore (sym (map-append (λ (one : ToldDifference D). one.difference) h.told (one_told d end ∷ []))) so;
    ends_told = each_append (λ (one : ToldDifference D). IsEndTold ends (IsEnd one.difference) one.end) h.told (one_told d end ∷ [])
        h.ends_told (is_end, tt);
    text = subst (Appends old new) (sym (more_lines shown answered scope h.told d end))
        (Appends-trans old now new (told_lines shown answered scope h.told) (cond (counts_in scope (answered d)) (shown d end) [])
        h.text text);
    right = right ∙ ap (cond (counts_in scope (answered d)) false) h.right
        ∙ none_more (told_in answered scope h.told) (one_told d end) (counts_in scope (answered d))
        ∙ ap has_none (sym (filter-append (λ (one : ToldDifference D). counts_in scope (answered one.difference)) h.told
        (one_told d end ∷ [])));
  }

  -- all were given
  pub all_printed : {IsGiven : List D → Type 0} {AreAll : List D → Coverage → Type 0} {old new : Option (List ℕ)} {is_right : Bool}
      {found : Option Coverage} (coverage : Coverage) → (h : HasPrinted shown answered IsEnd ends scope IsGiven old new is_right)
      → AreAll (differences_of h.told) coverage → found ≡ cond is_right (Some coverage) None
      → ArePrinted shown answered AreAll IsEnd ends scope old new found
  all_printed coverage h all found_is = record {
    told = h.told;
    coverage = coverage;
    are_all = all;
    ends_told = h.ends_told;
    text = h.text;
    found_is = found_is ∙ ap (λ (right : Bool). cond right (Some coverage) None) h.right ∙ by_list (told_in answered scope h.told);
  }
    where
      by_list : (list : List (ToldDifference D)) → cond (has_none list) (Some coverage) None ≡ if_none list coverage
      by_list [] = refl
      by_list (first ∷ list) = refl

  -- ---- a writer that was stopped

  -- before the next stretch was found
  pub begun_between : {G : Type 0} {HasGiven : G → List D → Type 0} {old new : Option (List ℕ)} {is_right : Bool} (given : G)
      → HasPrinted shown answered IsEnd ends scope (HasGiven given) old new is_right
      → AreBegun shown answered HasGiven IsEnd ends scope old new
  begun_between {old = old} {new = new} given h =
      record { told = h.told; given = given; so = h.so; ends_told = h.ends_told; prefix = prefix_all old new _ h.text }

  -- within the line of a stretch
  pub begun_within : {G : Type 0} {HasGiven : G → List D → Type 0} {IsGiven : List D → Type 0} {old now new : Option (List ℕ)}
      {is_right : Bool} (given : G) (d : D) (end : Option Position)
      → (h : HasPrinted shown answered IsEnd ends scope IsGiven old now is_right)
      → HasGiven given (differences_of h.told ++ d ∷ []) → IsEndTold ends (IsEnd d) end
      → AppendsPrefix now new (cond (counts_in scope (answered d)) (shown d end) [])
      → AreBegun shown answered HasGiven IsEnd ends scope old new
  begun_within {HasGiven = HasGiven} {old = old} {now = now} {new = new} given d end h so is_end prefix = record {
    told = h.told ++ one_told d end ∷ [];
    given = given;
    so = subst (HasGiven given) (sym (map-append (λ (one : ToldDifference D). one.difference) h.told (one_told d end ∷ []))) so;
    ends_told = each_append (λ (one : ToldDifference D). IsEndTold ends (IsEnd one.difference) one.end) h.told (one_told d end ∷ [])
        h.ends_told (is_end, tt);
    prefix = subst (AppendsPrefix old new) (sym (more_lines shown answered scope h.told d end))
        (prefix_after old now new (told_lines shown answered scope h.told) (cond (counts_in scope (answered d)) (shown d end) [])
        h.text prefix);
  }

-- ---- stretches at which no copy answers as the table does

module _ {K D X : Type 0} {tell : K → Answer → X} {value_of : D → Stretch X}
    {has_given : K → (Position → Option X) → (Position → Option X) → List D → Type 0} where
  -- what `next_wrong` says of the next one, in a case
  pub given_wrong : {old : WrongStretches K D} (new : WrongStretches K D) (case : CopyCase X) (given : List D)
      (found : Option (EndedDifference D)) (coverage : Coverage) → new.scope ≡ old.scope → tell new.kept ≡ tell old.kept
      → ((selection : Selection) (f g : Position → Option X) (given : List D)
      → HasFoundWrong tell value_of has_given old selection f g given → MatchOption found
      (AreAllWrong old.scope (IsAnyAnswer (tell old.kept) selection) f g (map value_of given)
      × AreCounts g f coverage.answered coverage.all)
      (λ ended. HasFoundWrong tell value_of has_given new selection f g (given ++ ended.difference ∷ [])
      × EndsWrong old.scope (IsAnyAnswer (tell old.kept) selection) f g (value_of ended.difference) ended.end))
      → HasGivenWrong tell value_of has_given old case given
      → MatchOption found
      (AreAllWrong case.scope (said_by case) case.by_section case.by_table (map value_of given)
      × AreCounts case.by_table case.by_section coverage.answered coverage.all)
      (λ ended. HasGivenWrong tell value_of has_given new case (given ++ ended.difference ∷ [])
      × EndsWrong case.scope (said_by case) case.by_section case.by_table (value_of ended.difference) ended.end)
  given_wrong new case given None coverage scope same found h =
      let told = found case.selection case.by_section case.by_table given h.so in
      rw (h.scope_is, h.tell_is) at told
  given_wrong new case given (Some ended) coverage scope same found h =
      let told = found case.selection case.by_section case.by_table given h.so in (
        record { scope_is = scope ∙ h.scope_is; tell_is = same ∙ h.tell_is; so = told.0 },
        rw (h.scope_is, h.tell_is) at told.1,
      )

  -- those that were given are the first
  pub first_wrong : {wrong : WrongStretches K D} {case : CopyCase X} {given : List D}
      → HasGivenWrong tell value_of has_given wrong case given
      → AreFirstWrong case.scope (said_by case) case.by_section case.by_table (map value_of given)
  first_wrong h =
      let first = h.so.are.first in
      rw (h.scope_is, h.tell_is) at first
