-- What joined spans are: in order, none extends the one before it, and they are told as all the spans are. Any spans can be joined.
use Rattle.lnt_spans.specs.SpanKinds.{DifferWhereTheyTouch, SpanKind}
use Rattle.std.proofs.Common.{◌≡◌, ◌≢◌, ◌∙◌, ◌⊎◌, List, [], ◌∷◌, ◌++◌, map, inl, inr, Option}
use Rattle.std.proofs.Common.{ap, subst, refl, sym, append_assoc, append-nil}
use Rattle.std.specs.List.{AllByRecursion}
use Rattle.lnt_spans.specs.declared.answer.Answer.{Answer}
use Rattle.lnt_spans.specs.declared.span.Span.{Span}
use Rattle.lnt_spans.specs.Spans.{AreInOrder}
use Rattle.lnt_spans.proofs.JoinLemmas.{joined_span}
use Rattle.lnt_spans.proofs.SameLaws.{same_positions}
use Rattle.lnt_spans.proofs.ToldLaws.{answer_as_told, made_answer, made_order}
use Rattle.lnt_compare.specs.Joining.{AreApart, AreJoinedAs, BeginAlike, IsApart, IsExtendedBy, LeaveOff, tell_span}
use Rattle.lnt_compare.proofs.JoiningLemmas.{apart_before, apart_from, apart_more, joined_both, joined_first}
use Rattle.lnt_records.specs.PathSpans.{PathAnswer, AreCanonicalOf, path_spans}
use Rattle.lnt_spans.specs.Merged.{answer_told}
use Rattle.lnt_writing.specs.Joined.{Any, AreJoined}

-- ---- one list joined as another

pub joined_self : {X : Type 0} (tell : Answer → X) (list : List Span) → AreJoinedAs tell list list
joined_self tell list = record { order = λ prefix o. o; same = λ prefix o p. refl; begin = alike_self tell list }
  where
    alike_self : {X : Type 0} (tell : Answer → X) (list : List Span) → BeginAlike tell list list
    alike_self tell [] = tt
    alike_self tell (s ∷ list) = (refl, refl)

-- those after the first are joined
joined_after : {X : Type 0} (tell : Answer → X) (first : Span) (xs ys : List Span) → AreJoinedAs tell xs ys
    → AreJoinedAs tell (first ∷ xs) (first ∷ ys)
joined_after {X} tell first xs ys h = record {
  order = λ prefix o. subst AreInOrder (append_assoc prefix (first ∷ []) ys)
      (h.order (prefix ++ first ∷ []) (subst AreInOrder (sym (append_assoc prefix (first ∷ []) xs)) o));
  same = λ prefix o p.
      let told : List Span → Option X = λ (list : List Span). answer_told tell list p in
      ap told (sym (append_assoc prefix (first ∷ []) ys))
      ∙ h.same (prefix ++ first ∷ []) (subst AreInOrder (sym (append_assoc prefix (first ∷ []) xs)) o) p
      ∙ ap told (append_assoc prefix (first ∷ []) xs);
  begin = (refl, refl);
}

-- ---- spans that are given one after another

-- any others may be to come
pub left_any : {X : Type 0} (tell : Answer → X) (ToCome : List Span → Type 0) (list given : List Span) → LeaveOff tell ToCome list given
    → LeaveOff tell Any list given
left_any tell ToCome list given l = record { rest = l.rest; left = tt; order = l.order; same = l.same; apart = l.apart }

pub all_given : {X : Type 0} (tell : Answer → X) (ToCome : List Span → Type 0) (list given : List Span) → LeaveOff tell ToCome list given
    → ((rest : List Span) → ToCome rest → rest ≡ []) → AreJoined tell list given
all_given tell ToCome list given l none =
    let all : given ++ l.rest ≡ given = ap (λ (xs : List Span). given ++ xs) (none l.rest l.left) ∙ append-nil given in
    record {
      order = subst AreInOrder all l.order;
      same = λ p. ap (λ (xs : List Span). answer_told tell xs p) (sym all) ∙ l.same p;
      apart = subst (AreApart tell given) (none l.rest l.left) l.apart;
    }

-- ---- any spans can be joined, where it is decided which answers are told alike

pub all_left : {X : Type 0} (Is : X → Type 0) (xs ys : List X) → AllByRecursion Is (xs ++ ys) → AllByRecursion Is xs
all_left Is [] ys h = tt
all_left Is (x ∷ xs) ys h = (h.0, all_left Is xs ys h.1)

-- Joined spans, of each of which something holds.
pub record HasJoined {X : Type 0} (tell : Answer → X) (Is : Span → Type 0) (list : List Span) : Type 0 where
  pub joined : List Span
  pub joins : AreJoinedAs tell list joined
  pub apart : AreApart tell joined []
  pub each : AllByRecursion Is joined

abbrev pub Decides : Type 0 → Type 0
Decides X = (a b : X) → (a ≡ b) ⊎ (a ≢ b)

-- A span that grows keeps the property.
abbrev pub IsKept : (Span → Type 0) → Type 0
IsKept Is = (last next : Span) → Is last → Is next → Is (joined_span last next.high)

goes_or_not : {X : Type 0} (tell : Answer → X) → Decides X → (last next : Span)
    → IsExtendedBy tell last next ⊎ (IsExtendedBy tell last next → ⊥)
goes_or_not tell decides last next = elim (same_positions last.high next.low) [
  | inr differs ↦ inr (λ g. differs g.0)
  | inl touch ↦ elim (decides (tell last.answer) (tell next.answer)) [
    | inr differs ↦ inr (λ g. differs g.1)
    | inl same ↦ inl (touch, same)
  ]
]

nil_apart : {X : Type 0} (tell : Answer → X) (span : Span) (xs : List Span) → IsApart tell span xs → IsApart tell span (xs ++ [])
nil_apart tell span xs a = subst (IsApart tell span) (sym (append-nil xs)) a

join_from : {X : Type 0} (tell : Answer → X) → Decides X → (Is : Span → Type 0) → IsKept Is → (last : Span) (rest : List Span) → Is last
    → AllByRecursion Is rest → HasJoined tell Is (last ∷ rest)
join_from tell decides Is kept last [] h each =
    record { joined = last ∷ []; joins = joined_self tell (last ∷ []); apart = (tt, tt); each = (h, tt) }
join_from tell decides Is kept last (next ∷ rest) h each = elim (goes_or_not tell decides last next) [
  | inl goes ↦
      let more = join_from tell decides Is kept (joined_span last next.high) rest (kept last next h each.0) each.1 in
      record {
        joined = more.joined;
        joins = joined_both tell (last ∷ next ∷ rest) (joined_span last next.high ∷ rest) more.joined
            (joined_first tell last next rest goes) more.joins;
        apart = more.apart;
        each = more.each;
      }
  | inr differs ↦
      let more = join_from tell decides Is kept next rest each.0 each.1 in
      record {
        joined = last ∷ more.joined;
        joins = joined_after tell last (next ∷ rest) more.joined more.joins;
        apart = (nil_apart tell last more.joined (apart_from tell last (next ∷ rest) more.joined more.joins.begin differs), more.apart);
        each = (h, more.each);
      }
]

pub all_join : {X : Type 0} (tell : Answer → X) → Decides X → (Is : Span → Type 0) → IsKept Is → (list : List Span)
    → AllByRecursion Is list → HasJoined tell Is list
all_join tell decides Is kept [] each = record { joined = []; joins = joined_self tell []; apart = tt; each = tt }
all_join tell decides Is kept (first ∷ rest) each = join_from tell decides Is kept first rest each.0 each.1

pub has_joined : {X : Type 0} (tell : Answer → X) (Is : Span → Type 0) (list : List Span) → AreInOrder list → (h : HasJoined tell Is list)
    → AreJoined tell list h.joined
has_joined tell Is list order h = record { order = h.joins.order [] order; same = h.joins.same [] order; apart = h.apart }

-- So whatever is to come after the spans given can be joined.
pub joins_on : {X : Type 0} (tell : Answer → X) → Decides X → (ToCome : List Span → Type 0) (list given : List Span)
    → LeaveOff tell ToCome list given → (more : List Span) × AreJoined tell list (given ++ more)
joins_on tell decides ToCome list given l =
    let more = all_join tell decides (λ (span : Span). Unit {0}) (λ last next h k. tt) l.rest (all_any l.rest) in (
      more.joined,
      record {
        order = more.joins.order given l.order;
        same = λ p. more.joins.same given l.order p ∙ l.same p;
        apart = apart_more tell given more.joined []
            (apart_before tell given l.rest (more.joined ++ [])
            (subst (BeginAlike tell l.rest) (sym (append-nil more.joined)) more.joins.begin) l.apart) more.apart;
      },
    )
  where
    all_any : (list : List Span) → AllByRecursion (λ (span : Span). Unit {0}) list
    all_any [] = tt
    all_any (s ∷ list) = (tt, all_any list)

-- ---- as spans of another kind

-- Spans made of such as are apart differ where they touch, if they touch with the same answer only where one extended the other.
pub made_differ : {X Y Z : Type 0} (kind : SpanKind X Y) (make : Span → X) (tell : Answer → Z)
    → ((s t : Span) → kind.high (make s) ≡ kind.low (make t) → kind.answer (make s) ≡ kind.answer (make t) → IsExtendedBy tell s t)
    → (list : List Span) → AreApart tell list [] → DifferWhereTheyTouch kind (map make list)
made_differ kind make tell goes [] h = tt
made_differ kind make tell goes (s ∷ []) h = tt
made_differ kind make tell goes (s ∷ t ∷ list) h = (λ touch same. h.0 (goes s t touch same), made_differ kind make tell goes (t ∷ list) h.1)

pub joined_canonical : (tell : Answer → PathAnswer) (list joined : List Span) → AreJoined tell list joined
    → AreCanonicalOf (answer_told tell list) (map (tell_span tell) joined)
joined_canonical tell list joined j = record {
  canonical = record {
    in_order = made_order path_spans (tell_span tell) joined j.order;
    differ = made_differ path_spans (tell_span tell) tell (λ s t touch same. (touch, same)) joined j.apart;
  };
  same = λ p. made_answer path_spans (tell_span tell) joined p ∙ answer_as_told tell joined p ∙ j.same p;
}
