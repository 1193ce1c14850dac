-- Between two neighbouring borders the answer doesn't change.
use Rattle.std.proofs.Common.{◌≡◌, ◌∙◌, List, [], ◌∷◌, ◌++◌, ◌⊎◌, inl, inr, refl, sym, None}
use Rattle.std.specs.List.{AllByRecursion}
use Rattle.lnt_spans.specs.Positions.{IsBelow, IsAtMost, Position}
use Rattle.lnt_spans.specs.Spans.{number_spans, span_answer, Span}
use Rattle.lnt_spans.specs.Laws.{Borders, AgreeAt, borders}
use Rattle.lnt_spans.proofs.PositionLaws.{order_cases, at_most_below, at_most_trans, at_most_itself, below_is_at_most}
use Rattle.lnt_spans.proofs.AnsweringLaws.{answer_in, answer_before, answer_after}

-- the border c is at or before b, or after p
abbrev IsOutside : Position → Position → Position → Type 0
IsOutside b p c = IsAtMost c b ⊎ IsBelow p c

-- with no border after b and up to p, both have the same answer
same_since : (spans : List Span) (b p : Position) → IsAtMost b p → AllByRecursion (IsOutside b p) (borders spans)
    → span_answer spans b ≡ span_answer spans p
same_since [] b p le h = refl
same_since (s ∷ rest) b p le h = elim h.0 [
  | inl low ↦ elim h.1.0 [
    | inl high ↦ answer_after number_spans s rest b high ∙ same_since rest b p le h.1.1
        ∙ sym (answer_after number_spans s rest p (at_most_trans high le))
    | inr high ↦ answer_in number_spans s rest b low (at_most_below le high)
        ∙ sym (answer_in number_spans s rest p (at_most_trans low le) high)
  ]
  | inr low ↦ answer_before number_spans s rest b (at_most_below le low) ∙ same_since rest b p le h.1.1
      ∙ sym (answer_before number_spans s rest p low)
]

-- where every border is after p, there is no answer at p
none_yet : (spans : List Span) (p : Position) → AllByRecursion (IsBelow p) (borders spans) → span_answer spans p ≡ None
none_yet [] p h = refl
none_yet (s ∷ rest) p h = answer_before number_spans s rest p h.0 ∙ none_yet rest p h.1.1

-- the last of these borders that is at or before p, with the property that every border has
record LastBorder (Q : Position → Type 0) (bs : List Position) (p : Position) : Type 0 where
  border : Position
  before : IsAtMost border p
  holds : Q border
  last : AllByRecursion (IsOutside border p) bs

outside_later : (bs : List Position) (b c p : Position) → IsAtMost b c → AllByRecursion (IsOutside b p) bs
    → AllByRecursion (IsOutside c p) bs
outside_later [] b c p le h = tt
outside_later (d ∷ bs) b c p le h =
    (elim h.0 [ inl low ↦ inl (at_most_trans low le) | inr high ↦ inr high ], outside_later bs b c p le h.1)

outside_after : (bs : List Position) (c p : Position) → AllByRecursion (IsBelow p) bs → AllByRecursion (IsOutside c p) bs
outside_after [] c p h = tt
outside_after (d ∷ bs) c p h = (inr h.0, outside_after bs c p h.1)

last_border : (Q : Position → Type 0) (bs : List Position) (p : Position) → AllByRecursion Q bs → LastBorder Q bs p
    ⊎ AllByRecursion (IsBelow p) bs
last_border Q [] p q = inr tt
last_border Q (c ∷ bs) p q = elim (order_cases p c) [
  | inl past ↦ elim (last_border Q bs p q.1) [
    | inl f ↦ inl (record { border = f.border; before = f.before; holds = f.holds; last = (inr past, f.last) })
    | inr all ↦ inr (past, all)
  ]
  | inr before ↦ elim (last_border Q bs p q.1) [
    | inl f ↦ elim (order_cases f.border c) [
      | inl later ↦ inl (record {
        border = c;
        before = before;
        holds = q.0;
        last = (inl (at_most_itself c), outside_later bs f.border c p (below_is_at_most later) f.last);
      })
      | inr same ↦ inl (record { border = f.border; before = f.before; holds = f.holds; last = (inl same, f.last) })
    ]
    | inr all ↦ inl (record { border = c; before = before; holds = q.0; last = (inl (at_most_itself c), outside_after bs c p all) })
  ]
]

all_append : (Q : Position → Type 0) (cs bs : List Position) → AllByRecursion Q cs → AllByRecursion Q bs → AllByRecursion Q (cs ++ bs)
all_append Q [] bs h k = k
all_append Q (c ∷ cs) bs h k = (h.0, all_append Q cs bs h.1 k)

all_first : (Q : Position → Type 0) (cs bs : List Position) → AllByRecursion Q (cs ++ bs) → AllByRecursion Q cs
all_first Q [] bs h = tt
all_first Q (c ∷ cs) bs h = (h.0, all_first Q cs bs h.1)

all_second : (Q : Position → Type 0) (cs bs : List Position) → AllByRecursion Q (cs ++ bs) → AllByRecursion Q bs
all_second Q [] bs h = h
all_second Q (c ∷ cs) bs h = all_second Q cs bs h.1

pub agree_by_borders : Borders
agree_by_borders xs ys ox oy hx hy p =
    elim (last_border (AgreeAt xs ys) (borders xs ++ borders ys) p (all_append (AgreeAt xs ys) (borders xs) (borders ys) hx hy)) [
      | inl f ↦
          sym (same_since xs f.border p f.before (all_first (IsOutside f.border p) (borders xs) (borders ys) f.last))
          ∙ f.holds ∙ same_since ys f.border p f.before (all_second (IsOutside f.border p) (borders xs) (borders ys) f.last)
      | inr all ↦ none_yet xs p (all_first (IsBelow p) (borders xs) (borders ys) all)
          ∙ sym (none_yet ys p (all_second (IsBelow p) (borders xs) (borders ys) all))
    ]
