-- Each line tells one position, or none. So a text of positions has one whole answer.
use Rattle.std.proofs.Common.{◌≡◌, ◌∙◌, ◌==◌, ℕ, ◌+◌, ◌⊎◌, inl, inr, List, [], ◌∷◌, map, take, drop}
use Rattle.std.proofs.Common.{Option, Some, None, refl, sym, ap, ap₂, subst}
use Rattle.std.specs.List.{AllByRecursion, position}
use Rattle.lnt_text.proofs.DecidedLaws.{decide_address, decide_decimal}
use Rattle.lnt_text.proofs.TextLaws.{one_address_number, one_decimal_number}
use Rattle.lnt_spans.specs.declared.position.Position.{Position}
use Rattle.lnt_answers.specs.AddressLines.{NamesPositionIfAny}
use Rattle.lnt_answers.specs.Laws.{OneNamedPositions, SomeNamedPositions}
use Rattle.lnt_answers.specs.Lines.{NamesPosition, NamesPositionAt}

place_at : ℕ → ℕ → Position
place_at address op = record { address = address; op = op }

-- ---- some position, or none

decide_position_at : (op : ℕ) (line : List ℕ) (comma : Option ℕ) → ((place : Position) × NamesPositionAt op line comma place)
    ⊎ ((place : Position) → NamesPositionAt op line comma place → ⊥)
unfolding place_at
decide_position_at op line None = elim (decide_address line) [
  | inl address ↦ inl (place_at address.0 op, (address.1, refl))
  | inr other ↦ inr (λ place tells. other place.address tells.0)
]
decide_position_at op line (Some comma) = elim (decide_address (take comma line)) [
  | inl address ↦ elim (decide_decimal (drop (comma + 1) line)) [
    | inl number ↦ inl (place_at address.0 number.0, (address.1, number.1))
    | inr other ↦ inr (λ place tells. other place.op tells.1)
  ]
  | inr other ↦ inr (λ place tells. other place.address tells.0)
]

decide_position : (op : ℕ) (line : List ℕ) → ((place : Position) × NamesPosition op line place)
    ⊎ ((place : Position) → NamesPosition op line place → ⊥)
decide_position op line = decide_position_at op line (position (λ byte. byte == 44) line)

tell_line : (op : ℕ) (line : List ℕ) → (named : Option Position) × NamesPositionIfAny op (line, named)
tell_line op line = elim (decide_position op line) [
  | inl place ↦ (Some place.0, place.1)
  | inr other ↦ (None, other)
]

pub tell_lines : SomeNamedPositions
tell_lines op [] = ([], (refl, tt))
tell_lines op (line ∷ texts) =
    let first = tell_line op line in
    let others = tell_lines op texts in
    ((line, first.0) ∷ others.0, (ap (λ (z : List (List ℕ)). line ∷ z) others.1.0, (first.1, others.1.1)))

-- ---- one position

same_place : (p q : Position) → p.address ≡ q.address → p.op ≡ q.op → p ≡ q
unfolding place_at
same_place p q address op = ap₂ place_at address op

one_position : (op : ℕ) (line : List ℕ) (comma : Option ℕ) (p q : Position) → NamesPositionAt op line comma p
    → NamesPositionAt op line comma q → p ≡ q
one_position op line None p q a b = same_place p q (one_address_number line p.address q.address a.0 b.0) (a.1 ∙ sym b.1)
one_position op line (Some comma) p q a b =
    same_place p q (one_address_number (take comma line) p.address q.address a.0 b.0)
    (one_decimal_number (drop (comma + 1) line) p.op q.op a.1 b.1)

one_told : (op : ℕ) (line : List ℕ) (p q : Option Position) → NamesPositionIfAny op (line, p) → NamesPositionIfAny op (line, q) → p ≡ q
one_told op line None None a b = refl
one_told op line None (Some q) a b = absurd (a q b)
one_told op line (Some p) None a b = absurd (b p a)
one_told op line (Some p) (Some q) a b =
    ap (λ (z : Position). Some z) (one_position op line (position (λ byte. byte == 44) line) p q a b)

one_named_position : (op : ℕ) (a b : List (List ℕ × Option Position)) → map (λ line. line.0) a ≡ map (λ line. line.0) b
    → AllByRecursion (NamesPositionIfAny op) a → AllByRecursion (NamesPositionIfAny op) b → a ≡ b
one_named_position op [] [] e s t = refl
one_named_position op [] (line ∷ b) e s t = absurd cc
one_named_position op (line ∷ a) [] e s t = absurd cc
one_named_position op ((line, p) ∷ a) ((other, q) ∷ b) e s t =
    let lines_are : line ∷ map (λ line. line.0) a ≡ other ∷ map (λ line. line.0) b = e in
    let same_line : line ≡ other = cc in
    let others : map (λ line. line.0) a ≡ map (λ line. line.0) b = cc in
    let same : p ≡ q = one_told op line p q s.0 (subst (λ (z : List ℕ). NamesPositionIfAny op (z, q)) (sym same_line) t.0) in
    let rest : a ≡ b = one_named_position op a b others s.1 t.1 in
    cc

pub one_named_positions : OneNamedPositions
one_named_positions op texts a b s t = one_named_position op a b (s.0 ∙ sym t.0) s.1 t.1
