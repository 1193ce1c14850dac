-- What joined spans are: in order, and told as all the spans are. None of those given extends the one before it.
use Rattle.std.proofs.Common.{◌≡◌, ◌∙◌, List, [], ◌∷◌, ◌++◌, Some, ap, subst, refl, sym, append_assoc}
use Rattle.lnt_spans.specs.declared.answer.Answer.{Answer}
use Rattle.lnt_spans.specs.declared.position.Position.{Position}
use Rattle.lnt_spans.specs.declared.span.Span.{Span}
use Rattle.lnt_spans.specs.Spans.{AreInOrder}
use Rattle.lnt_spans.proofs.JoinLemmas.{join_answer, join_order, joined_span}
use Rattle.lnt_spans.proofs.ToldLaws.{answer_as_told}
use Rattle.lnt_compare.specs.Joining.{AreApart, AreJoinedAs, BeginAlike, GivesJoined, IsApart, IsExtendedBy, LeaveOff}
use Rattle.lnt_spans.specs.Merged.{answer_told}

-- ---- one list joined as another

alike_both : {X : Type 0} (tell : Answer → X) (xs ys zs : List Span) → BeginAlike tell xs ys → BeginAlike tell ys zs → BeginAlike tell xs zs
alike_both tell [] [] zs h k = k
alike_both tell [] (y ∷ ys) zs h k = absurd h
alike_both tell (x ∷ xs) [] zs h k = absurd h
alike_both tell (x ∷ xs) (y ∷ ys) [] h k = absurd k
alike_both tell (x ∷ xs) (y ∷ ys) (z ∷ zs) h k = (h.0 ∙ k.0, h.1 ∙ k.1)

pub joined_both : {X : Type 0} (tell : Answer → X) (xs ys zs : List Span) → AreJoinedAs tell xs ys → AreJoinedAs tell ys zs
    → AreJoinedAs tell xs zs
joined_both tell xs ys zs h k = record {
  order = λ prefix o. k.order prefix (h.order prefix o);
  same = λ prefix o p. k.same prefix (h.order prefix o) p ∙ h.same prefix o p;
  begin = alike_both tell xs ys zs h.begin k.begin;
}

-- the first span is joined with the next
pub joined_first : {X : Type 0} (tell : Answer → X) (last next : Span) (rest : List Span) → IsExtendedBy tell last next
    → AreJoinedAs tell (last ∷ next ∷ rest) (joined_span last next.high ∷ rest)
joined_first tell last next rest goes = record {
  order = λ prefix o. join_order prefix last next rest goes.0 o;
  same = λ prefix o p. sym (answer_as_told tell (prefix ++ joined_span last next.high ∷ rest) p)
      ∙ join_answer tell prefix last next rest p goes.0 goes.1 o ∙ answer_as_told tell (prefix ++ last ∷ next ∷ rest) p;
  begin = (refl, refl);
}

-- ---- spans that don't extend one another

pub apart_from : {X : Type 0} (tell : Answer → X) (span : Span) (xs ys : List Span) → BeginAlike tell xs ys → IsApart tell span xs
    → IsApart tell span ys
apart_from tell span [] [] h a = tt
apart_from tell span [] (y ∷ ys) h a = absurd h
apart_from tell span (x ∷ xs) [] h a = absurd h
apart_from tell span (x ∷ xs) (y ∷ ys) h a = λ goes. a (goes.0 ∙ sym h.0, goes.1 ∙ sym h.1)

-- those to come may be joined
pub apart_before : {X : Type 0} (tell : Answer → X) (given xs ys : List Span) → BeginAlike tell xs ys → AreApart tell given xs
    → AreApart tell given ys
apart_before tell [] xs ys h a = tt
apart_before tell (s ∷ []) xs ys h a = (apart_from tell s xs ys h a.0, tt)
apart_before tell (s ∷ t ∷ given) xs ys h a = (a.0, apart_before tell (t ∷ given) xs ys h a.1)

-- the first of those to come is given
pub apart_more : {X : Type 0} (tell : Answer → X) (given more rest : List Span) → AreApart tell given (more ++ rest)
    → AreApart tell more rest → AreApart tell (given ++ more) rest
apart_more tell [] more rest a b = b
apart_more tell (s ∷ given) more rest a b =
    (subst (IsApart tell s) (sym (append_assoc given more rest)) a.0, apart_more tell given more rest a.1 b)

-- ---- spans that are given one after another

-- one that is given next, and those that are left then
pub record OneMore {X : Type 0} (tell : Answer → X) (ToCome : List Span → Type 0) (list given : List Span) (span : Span) : Type 0 where
  pub rest : List Span
  pub left : ToCome rest
  pub order : AreInOrder (given ++ span ∷ rest)
  pub same : (p : Position) → answer_told tell (given ++ span ∷ rest) p ≡ answer_told tell list p
  pub before : AreApart tell given (span ∷ rest)
  pub apart : IsApart tell span rest

pub one_more : {X : Type 0} (tell : Answer → X) (Old New : List Span → Type 0) (list given : List Span) (span : Span)
    → LeaveOff tell Old list given → ((rest : List Span) → Old rest → GivesJoined tell rest New (Some span))
    → OneMore tell New list given span
one_more tell Old New list given span l gives =
    let one = gives l.rest l.left in
    record {
      rest = one.0;
      left = one.1;
      order = one.2.order given l.order;
      same = λ p. one.2.same given l.order p ∙ l.same p;
      before = apart_before tell given l.rest (span ∷ one.0) one.2.begin l.apart;
      apart = one.3;
    }

-- it was given
pub left_more : {X : Type 0} (tell : Answer → X) (Old New : List Span → Type 0) (list given : List Span) (span : Span)
    → LeaveOff tell Old list given → ((rest : List Span) → Old rest → GivesJoined tell rest New (Some span))
    → LeaveOff tell New list (given ++ span ∷ [])
left_more tell Old New list given span l gives =
    let one = one_more tell Old New list given span l gives in
    let split = append_assoc given (span ∷ []) one.rest in
    record {
      rest = one.rest;
      left = one.left;
      order = subst AreInOrder (sym split) one.order;
      same = λ p. ap (λ (xs : List Span). answer_told tell xs p) split ∙ one.same p;
      apart = apart_more tell given (span ∷ []) one.rest one.before (one.apart, tt);
    }

-- it wasn't, and is still to come
pub left_next : {X : Type 0} (tell : Answer → X) (Old New ToCome : List Span → Type 0) (list given : List Span) (span : Span)
    → LeaveOff tell Old list given → ((rest : List Span) → Old rest → GivesJoined tell rest New (Some span))
    → ((rest : List Span) → New rest → ToCome (span ∷ rest)) → LeaveOff tell ToCome list given
left_next tell Old New ToCome list given span l gives left =
    let one = one_more tell Old New list given span l gives in
    record { rest = span ∷ one.rest; left = left one.rest one.left; order = one.order; same = one.same; apart = one.before }

pub left_first : {X : Type 0} (tell : Answer → X) (ToCome : List Span → Type 0) (list : List Span) → ToCome list → AreInOrder list
    → LeaveOff tell ToCome list []
left_first tell ToCome list left order = record { rest = list; left = left; order = order; same = λ p. refl; apart = tt }
