-- Stretches of positions at which a table isn't right, found in those at which it and the kept sequences differ.
use Rattle.std.proofs.Common.{◌≡◌, ◌≢◌, ◌∙◌, ◌^◌, ◌<◌, ◌≤◌, arith, Bool, List, [], ◌∷◌, ◌++◌, ◌⊎◌, inl, is_some, IfSome, MatchOption}
use Rattle.std.proofs.Common.{inr, Option, Some, None, sym, subst, ap, refl, map, option_map, true, false, Result, Ok, Err}
use Rattle.std.specs.List.{AllByRecursion}
use Rattle.std.proofs.lemmas.Bool.{cases_lt}
use Rattle.std.proofs.lemmas.List.{map-append}
use Rattle.lnt_spans.specs.declared.answer.Answer.{Answer}
use Rattle.lnt_spans.specs.declared.position.Position.{Position}
use Rattle.lnt_spans.specs.AnyStretches.{AreAllStretches, AreAnswers, AreFirstStretches, AreRising, AreToldBelow, BeginsStretch, EndsAt}
use Rattle.lnt_spans.specs.AnyStretches.{IsInOne, IsInStretch, Stretch, stretch_at}
use Rattle.lnt_spans.specs.Positions.{IsAtMost, IsBelow}
use Rattle.lnt_spans.proofs.PositionLaws.{at_most_itself, at_most_trans, below_at_most, below_is_at_most, not_both, order_cases}
use Rattle.lnt_spans.proofs.PositionLaws.{order_three, same_position}
use Rattle.lnt_sequences.specs.Copies.{IsAnyAnswer}
use Rattle.lnt_sequences.specs.Sequences.{line_answer, Selection}
use Rattle.lnt_sequences.proofs.AnyLemmas.{any_answers, any_as_kept}
use Rattle.lnt_spans.specs.declared.scope.Coverage.{Coverage}
use Rattle.lnt_table.specs.declared.copies.Copies.{Copies}
use Rattle.lnt_spans.specs.declared.scope.Scope.{Scope}
use Rattle.lnt_spans.specs.declared.scope.Scope.TheVariants.{All, Answered}
use Rattle.lnt_table.specs.declared.wrong.Piece.{Piece}
use Rattle.lnt_table.specs.AnyCopy.{AreAllWrong, AreFirstWrong, BeginsWrong, EndsWrong, IsFirstWrong, IsInWrong, IsRightIn, IsRightOrIn}
use Rattle.lnt_table.specs.AnyCopy.{IsWrongWith, StayWrong}
use Rattle.lnt_table.specs.Asked.{AreReady, FindsLeastNot, FindsPiece, FindsTurn, IsAsked, IsLeastNot, IsPassed}
use Rattle.lnt_table.specs.Asked.{IsPiece, IsSoFrom, unanswered_in}
use Rattle.lnt_table.specs.WrongStretches.{AreWrongBelow, IsRest, rank}

-- ---- positions as numbers

pub rank_rises : (p q : Position) → p.op < 2 ^ 64 → IsBelow p q → rank p < rank q
rank_rises p q small below = elim (cases_lt p.address q.address) [
  | inl lt ↦ omega (arith, small, lt)
  | inr ge ↦
      let same : p.address ≡ q.address = omega (arith, ge, below.address) in
      let ops = below.op same in
      omega (arith, same, ops)
]

pub rank_upto : (p q : Position) → p.op < 2 ^ 64 → IsAtMost p q → rank p ≤ rank q
rank_upto p q small upto = elim (cases_lt p.address q.address) [
  | inl lt ↦ omega (arith, small, lt)
  | inr ge ↦
      let same : p.address ≡ q.address = omega (arith, ge, upto.address) in
      let ops = upto.op same in
      omega (arith, same, ops)
]

-- ---- lists

each_on : {A : Type 0} (P Q : A → Type 0) → ((x : A) → P x → Q x) → (list : List A) → AllByRecursion P list → AllByRecursion Q list
each_on P Q on [] h = tt
each_on P Q on (x ∷ list) h = (on x h.0, each_on P Q on list h.1)

last_of : {A : Type 0} (P : A → Type 0) (list : List A) (last : A) → AllByRecursion P (list ++ last ∷ []) → P last
last_of P [] last h = h.0
last_of P (x ∷ list) last h = last_of P list last h.1

one_more : {A : Type 0} (P : A → Type 0) (list : List A) (last : A) → AllByRecursion P list → P last → AllByRecursion P (list ++ last ∷ [])
one_more P [] last h k = (k, tt)
one_more P (x ∷ list) last h k = (h.0, one_more P list last h.1 k)

rising_more : {X : Type 0} (list : List (Stretch X)) (last : Stretch X) → AreRising list
    → AllByRecursion (λ (s : Stretch X). IsBelow s.position last.position) list → AreRising (list ++ last ∷ [])
rising_more [] last rising below = tt
rising_more (s ∷ []) last rising below = (below.0, tt)
rising_more (s ∷ next ∷ list) last rising below = (rising.0, rising_more (next ∷ list) last rising.1 below.1)

rising_before : {X : Type 0} (list : List (Stretch X)) (last : Stretch X) → AreRising (list ++ last ∷ [])
    → AllByRecursion (λ (s : Stretch X). IsBelow s.position last.position) list
rising_before [] last rising = tt
rising_before (s ∷ []) last rising = (rising.0, tt)
rising_before (s ∷ next ∷ list) last rising =
    let more = rising_before (next ∷ list) last rising.1 in
    (below_at_most rising.0 (below_is_at_most more.0), more)

module _ {X : Type 0} (f g : Position → Option X) where
  in_part : (told : List (Stretch X)) (last : Stretch X) (p : Position) → IsInOne f g (told ++ last ∷ []) p
      → IsInOne f g told p ⊎ IsInStretch f g last p
  in_part [] last p (inl here) = inr here
  in_part [] last p (inr later) = absurd later
  in_part (stretch ∷ told) last p (inl here) = inl (inl here)
  in_part (stretch ∷ told) last p (inr later) = elim (in_part told last p later) [ inl one ↦ inl (inr one) | inr here ↦ inr here ]

  in_before : (told : List (Stretch X)) (last : Stretch X) (p : Position) → IsInOne f g told p → IsInOne f g (told ++ last ∷ []) p
  in_before (stretch ∷ told) last p (inl here) = inl here
  in_before (stretch ∷ told) last p (inr later) = inr (in_before told last p later)
  in_before [] last p h = absurd h

  in_last : (told : List (Stretch X)) (last : Stretch X) (p : Position) → IsInStretch f g last p → IsInOne f g (told ++ last ∷ []) p
  in_last [] last p here = inl here
  in_last (stretch ∷ told) last p here = inr (in_last told last p here)

  -- a stretch ends where it does
  before_end : (last : Stretch X) (end p : Position) → EndsAt f g last end → IsInStretch f g last p → IsBelow p end
  before_end last end p ends is = elim (order_three p end) [
    | inl early ↦ early
    | inr (inl same) ↦ absurd (ends.over (subst (λ (q : Position). AreAnswersOf q) same is.here))
    | inr (inr late) ↦ absurd (ends.over (is.stay end (below_is_at_most ends.lasts.past) late))
  ]
    where
      AreAnswersOf : Position → Type 0
      AreAnswersOf q = AreAnswers f g last.by_section last.by_table q

  -- a stretch that begins later begins after it
  below_next : (one last : Stretch X) (p : Position) → IsBelow one.position last.position → BeginsStretch f g last → IsInStretch f g one p
      → IsBelow p last.position
  below_next one last p early begins is = elim (order_cases p last.position) [
    | inl below ↦ below
    | inr past ↦ absurd (begins.longest one.position early (λ q le lt. like last.position q (here past)
        (is.stay q le (below_at_most lt past))))
  ]
    where
      AreOnes : Position → Type 0
      AreOnes q = AreAnswers f g one.by_section one.by_table q

      here : IsAtMost last.position p → AreOnes last.position
      here past = elim (order_three last.position p) [
        | inl before ↦ is.stay last.position (below_is_at_most early) before
        | inr (inl same) ↦ subst AreOnes (sym same) is.here
        | inr (inr after) ↦ absurd (not_both after past)
      ]

      like : (at q : Position) → AreOnes last.position → AreOnes q → AreAnswers f g last.by_section last.by_table q
      like at q there ones = record {
        section = ones.section ∙ sym there.section ∙ begins.here.section;
        table = ones.table ∙ sym there.table ∙ begins.here.table;
      }

  below_last : (told : List (Stretch X)) (last : Stretch X) (p : Position)
      → AllByRecursion (λ (s : Stretch X). IsBelow s.position last.position) told → BeginsStretch f g last → IsInOne f g told p
      → IsBelow p last.position
  below_last (stretch ∷ told) last p early begins (inl here) = below_next stretch last p early.0 begins here
  below_last (stretch ∷ told) last p early begins (inr later) = below_last told last p early.1 begins later
  below_last [] last p early begins h = absurd h

  -- the first stretches are those that were given
  pub first_told : (at : Position) (s t : Option X) (given : List (Stretch X)) → AreToldBelow f g at s t given
      → AreFirstStretches f g given
  first_told at s t given told = record {
    each = told.each;
    rising = told.rising;
    below = each_on (λ (s : Stretch X). IsBelow s.position at) _
        (λ s lt p early. told.all p (below_at_most early (below_is_at_most lt))) given told.below;
  }

-- ---- where a table isn't right, whatever may be said

module _ {X : Type 0} (scope : Scope) (said : Position → Option X → Type 0) (f g : Position → Option X) where
  more_in : (list : List (Stretch X)) (last : Stretch X) (p : Position) → IsRightOrIn scope said f g list p
      → IsRightOrIn scope said f g (list ++ last ∷ []) p
  more_in [] last p right = inr right
  more_in (s ∷ list) last p (inl here) = inl here
  more_in (s ∷ list) last p (inr later) = inr (more_in list last p later)

  right_in : (list : List (Stretch X)) (p : Position) → IsRightIn scope said g p → IsRightOrIn scope said f g list p
  right_in [] p right = right
  right_in (s ∷ list) p right = inr (right_in list p right)

  last_in : (list : List (Stretch X)) (last : Stretch X) (p : Position) → IsInWrong scope said f g last p
      → IsRightOrIn scope said f g (list ++ last ∷ []) p
  last_in [] last p here = inl here
  last_in (s ∷ list) last p here = inr (last_in list last p here)

  -- ---- the next one, in what is left of a stretch

  module _ (stretch : Stretch X) (from end : Position) (rest : IsRest scope said f g stretch from end) (piece : Piece)
      (is : IsPiece (IsRightIn scope said g) from end piece) where
    abbrev one : Stretch X
    one = stretch_at piece.low stretch.by_section stretch.by_table

    stays : (p : Position) → IsAtMost piece.low p → IsBelow p piece.high → IsWrongWith scope said f g one p
    stays p le lt = record {
      wrong = is.not_so p le lt;
      here = rest.ends.lasts.stay p (at_most_trans rest.past (at_most_trans is.least.past le)) (below_at_most lt is.upto);
    }

    one_begins : BeginsWrong scope said f g one
    one_begins = record {
      here = stays piece.low (at_most_itself piece.low) is.past;
      longest = λ p lt stay. elim (order_cases from piece.low) [
        | inl later ↦ within p lt stay later (order_cases p from)
        | inr here ↦ at_first p lt stay (same_position piece.low from is.least.past here) rest.fresh
      ];
    }
      where
        within : (p : Position) → IsBelow p piece.low → StayWrong scope said f g one p piece.low → IsBelow from piece.low
            → IsBelow p from ⊎ IsAtMost from p → ⊥
        within p lt stay later (inl early) =
            (stay from (below_is_at_most early) later).wrong (is.least.least from (at_most_itself from) later)
        within p lt stay later (inr late) = (stay p (at_most_itself p) lt).wrong (is.least.least p late lt)

        at_first : (p : Position) → IsBelow p piece.low → StayWrong scope said f g one p piece.low → piece.low ≡ from
            → (from ≡ stretch.position) ⊎ ((IsRightIn scope said g from → ⊥) → ⊥) → ⊥
        at_first p lt stay same (inl begin) =
            let first : piece.low ≡ stretch.position = same ∙ begin in
            rest.begins.longest p (subst (IsBelow p) first lt)
            (λ q le before. (stay q le (subst (IsBelow q) (sym first) before)).here)
        at_first p lt stay same (inr right) =
            right (subst (λ (q : Position). IsRightIn scope said g q → ⊥) same is.least.not_so)

    one_ends : EndsWrong scope said f g one piece.high
    one_ends = record {
      past = is.past;
      stay = stays;
      over = λ wrong. elim (order_cases piece.high end) [
        | inl early ↦ is.over early wrong.wrong
        | inr late ↦ rest.ends.over (subst (λ (q : Position). AreAnswers f g stretch.by_section stretch.by_table q)
            (same_position piece.high end late is.upto) wrong.here)
      ];
    }

    is_in : (p : Position) → IsAtMost piece.low p → IsBelow p piece.high → IsInWrong scope said f g one p
    is_in p le lt = record { past = le; stay = λ q k l. stays q k (below_at_most l (below_is_at_most lt)); here = stays p le lt }

    low_in : IsInStretch f g stretch piece.low
    low_in =
        let past : IsAtMost stretch.position piece.low = at_most_trans rest.past is.least.past in
        let upto : IsBelow piece.low end = below_at_most is.past is.upto in
        record {
          past = past;
          stay = λ q le lt. rest.ends.lasts.stay q le (below_at_most lt (below_is_at_most upto));
          here = rest.ends.lasts.stay piece.low past upto;
        }

    pub one_given : (given list : List (Stretch X)) → AreWrongBelow scope said f g given (Some stretch) from end list
        → IsBelow from end → AreWrongBelow scope said f g given (Some stretch) piece.high end (list ++ one ∷ [])
        × EndsWrong scope said f g one piece.high
    one_given given list was some =
        let onto : IsAtMost from piece.high = at_most_trans is.least.past (below_is_at_most is.past) in
        let judged : (p : Position) → IsBelow p piece.high → IsRightOrIn scope said f g (list ++ one ∷ []) p =
        λ p lt. elim (order_cases p from) [
          | inl early ↦ more_in list one p (was.judged p early)
          | inr late ↦ elim (order_cases p piece.low) [
            | inl before ↦ right_in (list ++ one ∷ []) p (is.least.least p late before)
            | inr past ↦ last_in list one p (is_in p past lt)
          ]
        ] in (
          record {
            rest = λ lt. (
              record {
                begins = rest.begins;
                ends = rest.ends;
                past = at_most_trans rest.past onto;
                fresh = inr (is.over lt);
              },
              (was.rest some).1,
            );
            within = was.within;
            judged = judged;
            first = record {
              each = one_more (BeginsWrong scope said f g) list one was.first.each one_begins;
              rising = rising_more list one was.first.rising
                  (each_on (λ (s : Stretch X). IsBelow s.position from) _ (λ s lt. below_at_most lt is.least.past) list was.below);
              below = one_more _ list one
                  (each_on _ _ (λ s h p lt. more_in list one p (h p lt)) list was.first.below)
                  (λ p lt. judged p (below_at_most lt (below_is_at_most is.past)));
            };
            below = one_more (λ (s : Stretch X). IsBelow s.position piece.high) list one
                (each_on (λ (s : Stretch X). IsBelow s.position from) _ (λ s lt. below_at_most lt onto) list was.below) is.past;
            held = one_more (λ (s : Stretch X). IsInOne f g given s.position) list one was.held ((was.rest some).1 piece.low low_in);
          },
          one_ends,
        )

  -- there is none
  pub none_given : (given : List (Stretch X)) (hand : Option (Stretch X)) (from end : Position) (list : List (Stretch X))
      → AreWrongBelow scope said f g given hand from end list → IsBelow from end → IsSoFrom (IsRightIn scope said g) from end
      → AreWrongBelow scope said f g given hand end end list
  none_given given hand from end list was some right = record {
    rest = λ lt. absurd (not_both lt (at_most_itself end));
    within = was.within;
    judged = λ p lt. elim (order_cases p from) [
      | inl early ↦ was.judged p early
      | inr late ↦ right_in list p (right p late lt)
    ];
    first = was.first;
    below = each_on (λ (s : Stretch X). IsBelow s.position from) (λ (s : Stretch X). IsBelow s.position end)
        (λ s lt. below_at_most lt (below_is_at_most some)) list was.below;
    held = was.held;
  }

  -- ---- from one stretch to the next

  -- where both sides answer alike
  alike_right : ((p : Position) → said p (f p)) → (p : Position) → f p ≡ g p → IsRightIn scope said g p
  alike_right kept p e = by_scope scope
    where
      by_scope : (s : Scope) → IsRightIn s said g p
      by_scope All = subst (said p) e (kept p)
      by_scope Answered = inr (subst (said p) e (kept p))

  pub next_given : ((p : Position) → said p (f p)) → (given : List (Stretch X)) (hand : Option (Stretch X)) (from end : Position)
      (list : List (Stretch X)) → AreWrongBelow scope said f g given hand from end list → IsAtMost end from
      → (last : Stretch X) (to : Position) → AreFirstStretches f g (given ++ last ∷ []) → EndsAt f g last to
      → AreWrongBelow scope said f g (given ++ last ∷ []) (Some last) last.position to list
  next_given kept given hand from end list was passed last to first ends =
      let begins = last_of (BeginsStretch f g) given last first.each in
      let early = rising_before given last first.rising in record {
        rest = λ lt. (
          record { begins = begins; ends = ends; past = at_most_itself last.position; fresh = inl refl },
          λ p is. in_last f g given last p is,
        );
        within = λ p is. elim (in_part f g given last p is) [
          | inl before ↦ below_at_most (below_last f g given last p early begins before) (below_is_at_most ends.lasts.past)
          | inr here ↦ before_end f g last to p ends here
        ];
        judged = λ p lt. elim (last_of (λ (s : Stretch X). (p : Position) → IsBelow p s.position
            → (f p ≡ g p) ⊎ IsInOne f g (given ++ last ∷ []) p) given last first.below p lt) [
              | inl same ↦ right_in list p (alike_right kept p same)
              | inr one ↦ elim (in_part f g given last p one) [
                | inl before ↦ was.judged p (below_at_most (was.within p before) passed)
                | inr here ↦ absurd (not_both lt here.past)
              ]
            ];
        first = was.first;
        below = each_on (λ (s : Stretch X). IsInOne f g given s.position) _
            (λ s is. below_last f g given last s.position early begins is) list was.held;
        held = each_on (λ (s : Stretch X). IsInOne f g given s.position) _ (λ s is. in_before f g given last s.position is) list was.held;
      }

  pub all_given : ((p : Position) → said p (f p)) → (given : List (Stretch X)) (hand : Option (Stretch X)) (from end : Position)
      (list : List (Stretch X)) → AreWrongBelow scope said f g given hand from end list → IsAtMost end from
      → AreAllStretches f g given → AreAllWrong scope said f g list
  all_given kept given hand from end list was passed every = record {
    each = was.first.each;
    rising = was.first.rising;
    all = λ p. elim (every.all p) [
      | inl same ↦ right_in list p (alike_right kept p same)
      | inr one ↦ was.judged p (below_at_most (was.within p one) passed)
    ];
  }

  -- the first one is where the table is wrong first
  pub first_one : (stretch : Stretch X) → AreFirstWrong scope said f g (stretch ∷ []) → IsFirstWrong scope said f g stretch
  first_one stretch first = record {
    section = sym first.each.0.here.here.section;
    table = sym first.each.0.here.here.table;
    wrong = first.each.0.here.wrong;
    least = λ p lt. elim (first.below.0 p lt) [ inl is ↦ absurd (not_both lt is.past) | inr right ↦ right ];
  }

-- ---- a table that gives one answer from a position up to another

module _ {X : Type 0} (scope : Scope) (said : Position → Option X → Type 0) (g : Position → Option X) (low high : Position) (told : X)
    (same : (p : Position) → IsAtMost low p → IsBelow p high → g p ≡ Some told) where
  abbrev SaysTold : Position → Type 0
  SaysTold p = said p (Some told)

  right_from : (p : Position) → IsAtMost low p → IsBelow p high → SaysTold p → IsRightIn scope said g p
  right_from p le lt h = by_scope scope
    where
      by_scope : (s : Scope) → IsRightIn s said g p
      by_scope All = subst (said p) (sym (same p le lt)) h
      by_scope Answered = inr (subst (said p) (sym (same p le lt)) h)

  said_from : (p : Position) → IsAtMost low p → IsBelow p high → IsRightIn scope said g p → SaysTold p
  said_from p le lt h = by_scope scope h
    where
      by_scope : (s : Scope) → IsRightIn s said g p → SaysTold p
      by_scope All r = subst (said p) (same p le lt) r
      by_scope Answered (inl none) = let no : None ≡ Some told = sym none ∙ same p le lt in cc no
      by_scope Answered (inr r) = subst (said p) (same p le lt) r

  -- it isn't right where it isn't said
  pub right_all : FindsLeastNot (λ p. IsPassed false (SaysTold p)) low high None → IsSoFrom (IsRightIn scope said g) low high
  right_all h p le lt = right_from p le lt (h p le lt)

  module _ (at : Position) (is : IsLeastNot SaysTold low high at) where
    least_wrong : IsLeastNot (IsRightIn scope said g) low high at
    least_wrong = record {
      past = is.past;
      below = is.below;
      not_so = λ right. is.not_so (said_from at is.past is.below right);
      least = λ p le lt. right_from p le (below_at_most lt (below_is_at_most is.below)) (is.least p le lt);
    }

    wrong_from : (to : Position) → IsAtMost to high → IsSoFrom (λ p. SaysTold p → ⊥) at to
        → IsSoFrom (λ p. IsRightIn scope said g p → ⊥) at to
    wrong_from to upto unsaid p le lt right =
        unsaid p le lt (said_from p (at_most_trans is.past le) (below_at_most lt upto) right)

    -- the first position after it at which it is said
    pub wrong_to : (end : Position) → FindsLeastNot (λ p. IsPassed true (SaysTold p)) at high (Some end)
        → IsPiece (IsRightIn scope said g) low high (record { low = at; high = end })
    wrong_to end h = record {
      least = least_wrong;
      past = elim (order_cases at end) [
        | inl before ↦ before
        | inr back ↦ absurd (h.not_so (subst (λ (q : Position). SaysTold q → ⊥) (same_position at end back h.past) is.not_so))
      ];
      upto = below_is_at_most h.below;
      not_so = wrong_from end (below_is_at_most h.below) h.least;
      over = λ lt not. h.not_so (λ says. not (right_from end (at_most_trans is.past h.past) h.below says));
    }

    -- there is none
    pub wrong_all : FindsLeastNot (λ p. IsPassed true (SaysTold p)) at high None
        → IsPiece (IsRightIn scope said g) low high (record { low = at; high = high })
    wrong_all h = record {
      least = least_wrong;
      past = is.below;
      upto = at_most_itself high;
      not_so = wrong_from high (at_most_itself high) h;
      over = λ lt not. absurd (not_both lt (at_most_itself high));
    }

pub upto_end : (low end : Position) (found : Option Position) → IfSome found (λ at. IsAtMost low at × IsBelow at end)
    → IfSome found (λ at. IsAtMost at end)
upto_end low end None within = tt
upto_end low end (Some at) within = below_is_at_most within.1

-- ---- by what the table answers there

pub none_if : {X : Type 0} (answer : Option X) → false ≡ is_some answer → answer ≡ None
none_if None e = refl
none_if (Some told) e = cc e

-- without an answer, copies are as ready from one position on as from another
pub unanswered_ready : {X : Type 0} (tell : Answer → X) (selection : Selection) (copies : Copies) (told : Option X) → told ≡ None
    → (at to whole : Position) → AreReady tell selection copies told at whole → AreReady tell selection copies told to whole
unanswered_ready tell selection copies None none at to whole ready = ready
unanswered_ready tell selection copies (Some told) none at to whole ready = cc none

-- Copies were ready before the first turn was looked for, then before the second, and then after it.
module _ {X : Type 0} (scope : Scope) (said : Position → Option X → Type 0) (g : Position → Option X) (low high : Position)
    (WereReady AreThenReady AreNowReady : Option X → Position → Position → Type 0) where
  abbrev Finds : Bool → (Option X → Position → Position → Type 0) → (Option X → Position → Position → Type 0) → Option X → Position
      → Option Position → Type 0
  Finds is_said Before After answer at found = IfSome answer (λ told. FindsTurn is_said said Before After (Some told) at high found)

  pub no_piece : (answer : Option X) → true ≡ is_some answer → ((p : Position) → IsAtMost low p → IsBelow p high → g p ≡ answer)
      → WereReady answer low high → Finds false WereReady AreThenReady answer low None
      → FindsPiece (IsRightIn scope said g) low high None × AreThenReady answer high high
  no_piece None some same ready h = cc some
  no_piece (Some told) some same ready h = let turn = h ready in (right_all scope said g low high told same turn.0, turn.1)

  -- by where they end
  pub piece_at : (answer : Option X) → true ≡ is_some answer → ((p : Position) → IsAtMost low p → IsBelow p high → g p ≡ answer)
      → WereReady answer low high → (at : Position) → Finds false WereReady AreThenReady answer low (Some at) → (found : Option Position)
      → Finds true AreThenReady AreNowReady answer at found → (end : Position)
      → MatchOption found (end ≡ high) (λ next. IsBelow at next → end ≡ next)
      → FindsPiece (IsRightIn scope said g) low high (Some (record { low = at; high = end })) × AreNowReady answer end high
  piece_at None some same ready at h found k end is_end = cc some
  piece_at (Some told) some same ready at h None k end is_end =
      let one = h ready in
      let other = k one.1 in (
        subst (λ (q : Position). FindsPiece (IsRightIn scope said g) low high (Some (record { low = at; high = q }))) (sym is_end)
            (wrong_all scope said g low high told same at one.0 other.0),
        subst (λ (q : Position). AreNowReady (Some told) q high) (sym is_end) other.1,
      )
  piece_at (Some told) some same ready at h (Some next) k end is_end =
      let one = h ready in
      let other = k one.1 in
      let piece = wrong_to scope said g low high told same at one.0 next other.0 in (
        subst (λ (q : Position). FindsPiece (IsRightIn scope said g) low high (Some (record { low = at; high = q })))
            (sym (is_end piece.past)) piece,
        subst (λ (q : Position). AreNowReady (Some told) q high) (sym (is_end piece.past)) other.1,
      )

-- ---- differences of any kind

module _ {X D : Type 0} (value_of : D → Stretch X) (scope : Scope) (said : Position → Option X → Type 0) (f g : Position → Option X)
    (told : List D) (hand : Option D) (from end : Position) (list : List D)
    (were : AreWrongBelow scope said f g (map value_of told) (option_map value_of hand) from end (map value_of list)) where
  abbrev AreBelow : Option D → Position → List (Stretch X) → Type 0
  AreBelow last at stretches = AreWrongBelow scope said f g (map value_of told) (option_map value_of last) at end stretches

  -- what is left of the stretch at hand
  pub rest_of : (d : D) → hand ≡ Some d → IsBelow from end → IsRest scope said f g (value_of d) from end
  rest_of d same some = ((subst (λ (last : Option D). AreBelow last from (map value_of list)) same were).rest some).0

  pub one_found : (d moved : D) (piece : Piece) → hand ≡ Some d → IsBelow from end → IsPiece (IsRightIn scope said g) from end piece
      → value_of moved ≡ stretch_at piece.low (value_of d).by_section (value_of d).by_table
      → AreBelow hand piece.high (map value_of (list ++ moved ∷ [])) × EndsWrong scope said f g (value_of moved) piece.high
  one_found d moved piece same some is is_moved =
      let given = one_given scope said f g (value_of d) from end (rest_of d same some) piece is (map value_of told) (map value_of list)
      (subst (λ (last : Option D). AreBelow last from (map value_of list)) same were) some in
      let joined = map-append value_of list (moved ∷ []) ∙ ap (λ (s : Stretch X). map value_of list ++ s ∷ []) is_moved in (
        subst (λ (last : Option D). AreBelow last piece.high (map value_of (list ++ moved ∷ []))) (sym same)
            (subst (λ (l : List (Stretch X)). AreBelow (Some d) piece.high l) (sym joined) given.0),
        subst (λ (s : Stretch X). EndsWrong scope said f g s piece.high) (sym is_moved) given.1,
      )

  pub next_found : ((p : Position) → said p (f p)) → IsAtMost end from → (last : D) (low to : Position)
      → low ≡ (value_of last).position → AreFirstStretches f g (map value_of (told ++ last ∷ [])) → EndsAt f g (value_of last) to
      → AreWrongBelow scope said f g (map value_of (told ++ last ∷ [])) (Some (value_of last)) low to (map value_of list)
  next_found kept passed last low to is_low first ends =
      let joined = map-append value_of told (last ∷ []) in
      subst (λ (l : List (Stretch X)). AreWrongBelow scope said f g l (Some (value_of last)) low to (map value_of list)) (sym joined)
      (subst (λ (at : Position). AreWrongBelow scope said f g (map value_of told ++ value_of last ∷ []) (Some (value_of last)) at to
      (map value_of list)) (sym is_low)
      (next_given scope said f g kept (map value_of told) (option_map value_of hand) from end (map value_of list) were passed
      (value_of last) to (subst (AreFirstStretches f g) joined first) ends))

-- ---- the live sequences of a section

-- what is answered by the kept sequences is held
held_if_answered : {X : Type 0} (tell : Answer → X) (selection : Selection) (p : Position)
    → None ≢ option_map tell (line_answer selection p)
    → IsAnyAnswer tell selection p None → ⊥
held_if_answered tell selection p some unheld = by_answer (line_answer selection p) refl
  where
    by_answer : (o : Option Answer) → line_answer selection p ≡ o → ⊥
    by_answer None e = some (sym (ap (option_map tell) e))
    by_answer (Some answer) e = let is = any_answers.said selection p answer e in unheld is.placed is.contained is.holds

-- what a table is judged to be where it doesn't answer, and the section does
pub unanswered_judged : {X : Type 0} (scope : Scope) (tell : Answer → X) (selection : Selection) (f g : Position → Option X)
    (low high : Position) → IsBelow low high → ((p : Position) → f p ≡ option_map tell (line_answer selection p))
    → ((p : Position) → IsAtMost low p → IsBelow p high → (g p ≡ None) × (None ≢ f p))
    → FindsPiece (IsRightIn scope (IsAnyAnswer tell selection) g) low high (unanswered_in scope low high)
unanswered_judged {X} Answered tell selection f g low high some same stay = λ p le lt. inl (stay p le lt).0
unanswered_judged {X} All tell selection f g low high some same stay = record {
  least = record {
    past = at_most_itself low;
    below = some;
    not_so = wrong low (at_most_itself low) some;
    least = λ p le lt. absurd (not_both lt le);
  };
  past = some;
  upto = at_most_itself high;
  not_so = wrong;
  over = λ lt not. absurd (not_both lt (at_most_itself high));
}
  where
    wrong : (p : Position) → IsAtMost low p → IsBelow p high → IsRightIn All (IsAnyAnswer tell selection) g p → ⊥
    wrong p le lt right =
        held_if_answered tell selection p (λ e. (stay p le lt).1 (e ∙ sym (same p)))
        (subst (IsAnyAnswer tell selection p) (stay p le lt).0 right)

-- what the kept sequences answer may be said
pub kept_said : {X : Type 0} (tell : Answer → X) (selection : Selection) (f : Position → Option X)
    → ((p : Position) → f p ≡ option_map tell (line_answer selection p)) → (p : Position) → IsAnyAnswer tell selection p (f p)
kept_said tell selection f same p = subst (IsAnyAnswer tell selection p) (sym (same p)) (any_as_kept tell selection p)

-- Whatever the answers are told by, if it tells the same.
pub asked_told : {X D : Type 0} (scope : Scope) (stretch : D → Stretch X) (tell tell' : Answer → X) (selection : Selection)
    (f g : Position → Option X) (asked : Result Coverage D) → ((answer : Answer) → tell answer ≡ tell' answer)
    → IsAsked scope stretch (IsAnyAnswer tell selection) f g asked → IsAsked scope stretch (IsAnyAnswer tell' selection) f g asked
asked_told {X} {D} scope stretch tell tell' selection f g asked same = by_asked asked
  where
    said_on : (p : Position) (o : Option X) → IsAnyAnswer tell selection p o → IsAnyAnswer tell' selection p o
    said_on p None h = h
    said_on p (Some told) (answer, is, e) = (answer, is, sym (same answer) ∙ e)

    said_back : (p : Position) (o : Option X) → IsAnyAnswer tell' selection p o → IsAnyAnswer tell selection p o
    said_back p None h = h
    said_back p (Some told) (answer, is, e) = (answer, is, same answer ∙ e)

    right_on : (s : Scope) (p : Position) → IsRightIn s (IsAnyAnswer tell selection) g p → IsRightIn s (IsAnyAnswer tell' selection) g p
    right_on All p h = said_on p (g p) h
    right_on Answered p (inl none) = inl none
    right_on Answered p (inr h) = inr (said_on p (g p) h)

    right_back : (s : Scope) (p : Position) → IsRightIn s (IsAnyAnswer tell' selection) g p → IsRightIn s (IsAnyAnswer tell selection) g p
    right_back All p h = said_back p (g p) h
    right_back Answered p (inl none) = inl none
    right_back Answered p (inr h) = inr (said_back p (g p) h)

    by_asked : (a : Result Coverage D) → IsAsked scope stretch (IsAnyAnswer tell selection) f g a
        → IsAsked scope stretch (IsAnyAnswer tell' selection) f g a
    by_asked (Err wrong) h = record {
      section = h.section;
      table = h.table;
      wrong = λ right. h.wrong (right_back scope (stretch wrong).position right);
      least = λ p lt. right_on scope p (h.least p lt);
    }
    by_asked (Ok coverage) h = (λ p. right_on scope p (h.0 p), h.1)
