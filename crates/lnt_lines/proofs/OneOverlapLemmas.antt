-- Sequences have one first overlap.
use Rattle.std.proofs.Common.{◌≡◌, ◌≢◌, ◌⊎◌, ℕ, List, sym, ap, subst, ◌∙◌, arith, get_or, inl, inr, ⊎_elim, Contains}
use Rattle.std.proofs.lemmas.Bool.{cases_eq}
use Rattle.std.proofs.lemmas.List.{get_or_default}
use Rattle.std.proofs.lemmas.Option.{same_Some}
use Rattle.lnt_machine.specs.declared.row.Row.{Row}
use Rattle.lnt_spans.specs.declared.position.Position.{Position}
use Rattle.lnt_spans.proofs.EachTwoLaws.{each_two_from_pairs}
use Rattle.lnt_spans.proofs.PositionLaws.{order_three}
use Rattle.lnt_spans.specs.Positions.{IsBelow}
use Rattle.lnt_sequences.specs.declared.extent.Overlap.{Overlap}
use Rattle.lnt_sequences.specs.declared.sequence.SeqId.{SeqId}
use Rattle.lnt_sequences.specs.Extents.{BeginsNoLater, IsFirstOverlap, IsNotLater}
use Rattle.lnt_sequences.proofs.KeptLaws.{same_id}
use Rattle.lnt_sequences.proofs.OverlapLemmas.{place_itself, place_trans}
use Rattle.lnt_sequences.specs.Rules.{AreDistinct}
use Rattle.lnt_sequences.specs.Sequences.{Holds, Placed, position_of}

-- ---- two sequences with different ids stand at different places

places_differ : (ss : List Placed) (a b : Placed) → (c : Contains ss a) → (d : Contains ss b) → a.id ≢ b.id → c.0 ≢ d.0
places_differ ss a b c d ne e =
    let there : get_or ss d.0 a ≡ b = get_or_default ss d.0 a b d.1 ∙ d.2 in
    ne (ap (λ (s : Placed). s.id) (sym c.2 ∙ ap (λ (k : ℕ). get_or ss k a) e ∙ there))

-- none of lower positions is held by two
no_lower : (ss : List Placed) (a b : Overlap) → IsFirstOverlap ss a → IsFirstOverlap ss b → IsBelow a.position b.position → ⊥
no_lower ss a b o q below =
    let R : Placed → Placed → Type 0 = λ s t. (p : Position) → IsBelow p b.position → Holds s.rows p → Holds t.rows p → ⊥ in
    let two = each_two_from_pairs R (λ s t h p lt x y. h p lt y x) ss q.lower in
    let ne : o.one.id ≢ o.other.id = λ e. o.different (o.first_is ∙ e ∙ sym o.second_is) in
    let i = o.one_in.0 in
    let j = o.other_in.0 in
    let other_at : get_or ss j o.one ≡ o.other = get_or_default ss j o.one o.other o.other_in.1 ∙ o.other_in.2 in
    two i j o.one (places_differ ss o.one o.other o.one_in o.other_in ne) o.one_in.1 o.other_in.1 a.position below
    (subst (λ (s : Placed). Holds s.rows a.position) (sym o.one_in.2) o.one_holds)
    (subst (λ (s : Placed). Holds s.rows a.position) (sym other_at) o.other_holds)

one_position : (ss : List Placed) (a b : Overlap) → IsFirstOverlap ss a → IsFirstOverlap ss b → a.position ≡ b.position
one_position ss a b o q = elim (order_three a.position b.position) [
  | inl below ↦ absurd (no_lower ss a b o q below)
  | inr (inl same) ↦ same
  | inr (inr above) ↦ absurd (no_lower ss b a q o above)
]

-- ---- which begins first

no_later : (one two three : Placed) → BeginsNoLater one two → BeginsNoLater two three → BeginsNoLater one three
no_later one two three h k =
    let same : h.other_first ≡ k.first = same_Some h.other_first k.first (sym h.other_is ∙ k.first_is) in
    let second = subst (λ (row : Row). IsNotLater (position_of row) two.id (position_of k.other_first) three.id) (sym same) k.order in
    record {
      first = h.first;
      other_first = k.other_first;
      first_is = h.first_is;
      other_is = k.other_is;
      order = place_trans (position_of h.first) (position_of h.other_first) (position_of k.other_first) one.id two.id three.id h.order
          second;
    }

-- neither begins later: they have one id
both_ways : (one two : Placed) → BeginsNoLater one two → BeginsNoLater two one → one.id ≡ two.id
both_ways one two h k =
    let first : h.other_first ≡ k.first = same_Some h.other_first k.first (sym h.other_is ∙ k.first_is) in
    let last : h.first ≡ k.other_first = same_Some h.first k.other_first (sym h.first_is ∙ k.other_is) in
    let back : IsNotLater (position_of h.other_first) two.id (position_of h.first) one.id =
    subst (λ (row : Row). IsNotLater (position_of row) two.id (position_of h.first) one.id) (sym first)
    (subst (λ (row : Row). IsNotLater (position_of k.first) two.id (position_of row) one.id) (sym last) k.order) in
    one_id (position_of h.first) (position_of h.other_first) one.id two.id h.order back
  where
    one_id : (p q : Position) (a b : SeqId) → IsNotLater p a q b → IsNotLater q b p a → a ≡ b
    one_id p q a b h k =
        let address : p.address ≡ q.address = omega (arith, h.low.address, k.low.address) in
        let op : p.op ≡ q.op = omega (arith, h.low.op address, k.low.op (sym address)) in
        let unit : a.unit ≡ b.unit = omega (arith, h.unit address op, k.unit (sym address) (sym op)) in
        let index : a.index ≡ b.index = omega (arith, h.index address op unit, k.index (sym address) (sym op) (sym unit)) in
        same_id a b unit index

-- ---- the first two

-- of one sequence that holds the position, seen from an overlap: it is the first, or the second doesn't begin later
first_or_later : (ss : List Placed) (o : Overlap) → (f : IsFirstOverlap ss o) → (s : Placed) → Contains ss s → Holds s.rows o.position
    → (s.id ≡ o.first) ⊎ ((s.id ≡ o.second) ⊎ BeginsNoLater f.other s)
first_or_later ss o f s c h =
    subst (λ (t : Placed). (t.id ≡ o.first) ⊎ ((t.id ≡ o.second) ⊎ BeginsNoLater f.other t)) c.2
    (f.first_two c.0 s c.1 (subst (λ (t : Placed). Holds t.rows o.position) (sym c.2) h))

same_placed : (ss : List Placed) (a b : Placed) → AreDistinct ss → Contains ss a → Contains ss b → a.id ≡ b.id → a ≡ b
same_placed ss a b apart c d same =
    let two = each_two_from_pairs (λ (s : Placed) (t : Placed). s.id ≢ t.id) (λ s t h e. h (sym e)) ss apart in
    let there : get_or ss d.0 a ≡ b = get_or_default ss d.0 a b d.1 ∙ d.2 in
    ⊎_elim
    (λ (e : c.0 ≡ d.0). sym c.2 ∙ ap (λ (k : ℕ). get_or ss k a) e ∙ there)
    (λ (ne : (c.0 ≡ d.0) → ⊥). absurd (two c.0 d.0 a ne c.1 d.1
    (ap (λ (s : Placed). s.id) c.2 ∙ same ∙ ap (λ (s : Placed). s.id) (sym there))))
    (cases_eq c.0 d.0)

itself : (one two : Placed) → BeginsNoLater one two → BeginsNoLater two two
itself one two h = record {
  first = h.other_first;
  other_first = h.other_first;
  first_is = h.other_is;
  other_is = h.other_is;
  order = place_itself (position_of h.other_first) two.id;
}

-- it is the first, or the second doesn't begin later
first_or_after : (ss : List Placed) (o : Overlap) → AreDistinct ss → (f : IsFirstOverlap ss o) → (s : Placed) → Contains ss s
    → Holds s.rows o.position → (s.id ≡ o.first) ⊎ BeginsNoLater f.other s
first_or_after ss o apart f s c h = elim (first_or_later ss o f s c h) [
  | inl first ↦ inl first
  | inr (inl second) ↦ inr (subst (BeginsNoLater f.other) (same_placed ss f.other s apart f.other_in c (sym f.second_is ∙ sym second))
      (itself f.one f.other f.in_turn))
  | inr (inr later) ↦ inr later
]

held_at : (s : Placed) (p q : Position) → p ≡ q → Holds s.rows p → Holds s.rows q
held_at s p q same h = subst (Holds s.rows) same h

same_first : (ss : List Placed) (a b : Overlap) → AreDistinct ss → (f : IsFirstOverlap ss a) → (q : IsFirstOverlap ss b)
    → a.position ≡ b.position → a.first ≡ b.first
same_first ss a b apart f q same =
    elim (first_or_after ss a apart f q.one q.one_in (held_at q.one b.position a.position (sym same) q.one_holds)) [
      | inl first ↦ sym first ∙ sym q.first_is
      | inr later ↦ elim (first_or_after ss b apart q f.one f.one_in (held_at f.one a.position b.position same f.one_holds)) [
        | inl first ↦ f.first_is ∙ first
        | inr before ↦
            let round = no_later f.other q.other f.one (no_later f.other q.one q.other later q.in_turn) before in
            absurd (f.different (f.first_is ∙ both_ways f.one f.other f.in_turn round ∙ sym f.second_is))
      ]
    ]

-- with one first, the other's second doesn't begin earlier
second_after : (ss : List Placed) (a b : Overlap) → AreDistinct ss → (f : IsFirstOverlap ss a) → (q : IsFirstOverlap ss b)
    → a.position ≡ b.position → a.first ≡ b.first → BeginsNoLater f.other q.other
second_after ss a b apart f q same first =
    elim (first_or_after ss a apart f q.other q.other_in (held_at q.other b.position a.position (sym same) q.other_holds)) [
      | inl is ↦ absurd (q.different (sym first ∙ sym is ∙ sym q.second_is))
      | inr later ↦ later
    ]

overlap_of : SeqId → SeqId → Position → Overlap
overlap_of first second position = record { first = first; second = second; position = position }

pub one_overlap : (ss : List Placed) (a b : Overlap) → AreDistinct ss → IsFirstOverlap ss a → IsFirstOverlap ss b → a ≡ b
unfolding overlap_of
one_overlap ss a b apart f q =
    let same = one_position ss a b f q in
    let first = same_first ss a b apart f q same in
    let second : a.second ≡ b.second =
    f.second_is ∙ both_ways f.other q.other (second_after ss a b apart f q same first)
    (second_after ss b a apart q f (sym same) (sym first)) ∙ sym q.second_is in
    ap (λ (id : SeqId). overlap_of id a.second a.position) first ∙ ap (λ (id : SeqId). overlap_of b.first id a.position) second
    ∙ ap (overlap_of b.first b.second) same
