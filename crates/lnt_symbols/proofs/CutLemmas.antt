-- The part of a line record that lies in its function.
use Rattle.std.proofs.Common.{◌≡◌, ◌∙◌, ℕ, ◌+◌, ◌-◌, ◌^◌, ◌<◌, ◌≤◌, Bool, true, false, List, [], ◌∷◌, refl, sym, arith, inl, inr}
use Rattle.std.proofs.Common.{All, AllPairs, flat_map, ⊎_elim}
use Rattle.std.specs.Prelude.{nat_lt, ◌&&◌, not}
use Rattle.std.proofs.lemmas.Bool.{and_parts, cases_lt}
use Rattle.std.proofs.lemmas.Bool.Decides.{nat_tests, same_from_decides}
use Rattle.std.proofs.lemmas.List.Elements.{All-append, All-cons, All-head, All-nil, All-tail, All-weaker}
use Rattle.lnt_spans.proofs.EachTwoLaws.{pairs_append, pairs_cons, pairs_head, pairs_nil, pairs_tail}
use Rattle.lnt_symbols.specs.declared.piece.Piece.{Piece}
use Rattle.lnt_symbols.specs.BreakpadLines.{LineRecord, Range}
use Rattle.lnt_symbols.specs.BreakpadAnswers.{end_of, FunctionSaid, holds, kept, meet}
use Rattle.lnt_symbols.specs.Pieces.{cut_high, cut_line, cut_piece, cut_low, less, pieces_in, PiecesApart}
use Rattle.lnt_symbols.proofs.KeptLemmas.{Apart, kept_apart}
use Rattle.lnt_symbols.proofs.TreeLemmas.{meet_if}

-- ---- the lesser of two, and the first address of both

less_left : (a b : ℕ) → less a b ≤ a
less_left a b = grind (arith, nat_tests)

less_right : (a b : ℕ) → less a b ≤ b
less_right a b = grind (arith, nat_tests)

less_above : (x a b : ℕ) → x < a → x < b → x < less a b
less_above x a b k l = grind (arith, nat_tests)

low_left : (f l : Range) → f.address ≤ cut_low f l
low_left f l = grind (arith, nat_tests)

low_right : (f l : Range) → l.address ≤ cut_low f l
low_right f l = grind (arith, nat_tests)

low_least : (x : ℕ) (f l : Range) → f.address ≤ x → l.address ≤ x → cut_low f l ≤ x
low_least x f l h k = grind (arith, nat_tests)

high_line : (base : ℕ) (f l : Range) → cut_high base f l ≤ end_of l
high_line base f l = less_left (end_of l) (less (end_of f) (2 ^ 64 - 1 - base))

high_function : (base : ℕ) (f l : Range) → cut_high base f l ≤ end_of f
high_function base f l =
    let a : cut_high base f l ≤ less (end_of f) (2 ^ 64 - 1 - base) = less_right (end_of l) (less (end_of f) (2 ^ 64 - 1 - base)) in
    let b : less (end_of f) (2 ^ 64 - 1 - base) ≤ end_of f = less_left (end_of f) (2 ^ 64 - 1 - base) in
    omega (arith, a, b)

high_table : (base : ℕ) (f l : Range) → cut_high base f l ≤ 2 ^ 64 - 1 - base
high_table base f l =
    let a : cut_high base f l ≤ less (end_of f) (2 ^ 64 - 1 - base) = less_right (end_of l) (less (end_of f) (2 ^ 64 - 1 - base)) in
    let b : less (end_of f) (2 ^ 64 - 1 - base) ≤ 2 ^ 64 - 1 - base = less_right (end_of f) (2 ^ 64 - 1 - base) in
    omega (arith, a, b)

high_above : (x base : ℕ) (f l : Range) → x < end_of f → x < end_of l → x < 2 ^ 64 - 1 - base → x < cut_high base f l
high_above x base f l h k t =
    less_above x (end_of l) (less (end_of f) (2 ^ 64 - 1 - base)) k (less_above x (end_of f) (2 ^ 64 - 1 - base) h t)

-- ---- whether an address lies there

-- the address is one of the loaded program that a table can have
abbrev pub in_table : ℕ → ℕ → Bool
in_table base a = not (nat_lt a base) && nat_lt a (2 ^ 64 - 1)

between : (a low high : ℕ) → nat_lt a high && not (nat_lt a low) ≡ true → (low ≤ a) × (a < high)
between a low high e = let both = and_parts (nat_lt a high) (not (nat_lt a low)) e in
    (grind (arith, nat_tests, both.1), grind (arith, nat_tests, both.0))

is_between : (a low high : ℕ) → low ≤ a → a < high → nat_lt a high && not (nat_lt a low) ≡ true
is_between a low high h k = grind (arith, nat_tests)

both_true : (x y : Bool) → x ≡ true → y ≡ true → (x && y) ≡ true
both_true x y e f = rw e f

pub cut_in : (base a : ℕ) (f l : Range) → nat_lt a (cut_high base f l + base) && not (nat_lt a (cut_low f l + base))
    ≡ (in_table base a && holds (a - base) f) && holds (a - base) l
cut_in base a f l =
    same_from_decides _ _ (between a (cut_low f l + base) (cut_high base f l + base), λ p. is_between a _ _ p.0 p.1) (forth, back)
  where
    forth : (in_table base a && holds (a - base) f) && holds (a - base) l ≡ true → (cut_low f l + base ≤ a) × (a < cut_high base f l + base)
    forth e =
        let three = and_parts (in_table base a && holds (a - base) f) (holds (a - base) l) e in
        let two = and_parts (in_table base a) (holds (a - base) f) three.0 in
        let in_it = and_parts (not (nat_lt a base)) (nat_lt a (2 ^ 64 - 1)) two.0 in
        let above : base ≤ a = grind (arith, nat_tests, in_it.0) in
        let below : a < 2 ^ 64 - 1 = grind (arith, nat_tests, in_it.1) in
        let of_f = between (a - base) f.address (end_of f) two.1 in
        let of_l = between (a - base) l.address (end_of l) three.1 in
        let low : cut_low f l ≤ a - base = low_least (a - base) f l of_f.0 of_l.0 in
        let high : a - base < cut_high base f l = high_above (a - base) base f l of_f.1 of_l.1 (omega (arith, above, below)) in
        (omega (arith, low, above), omega (arith, high, above))

    back : (cut_low f l + base ≤ a) × (a < cut_high base f l + base) → (in_table base a && holds (a - base) f) && holds (a - base) l ≡ true
    back p =
        let low = p.0 in
        let high = p.1 in
        let f_low = low_left f l in
        let l_low = low_right f l in
        let f_high = high_function base f l in
        let l_high = high_line base f l in
        let table = high_table base f l in
        both_true (in_table base a && holds (a - base) f) (holds (a - base) l)
        (both_true (in_table base a) (holds (a - base) f)
        (both_true (not (nat_lt a base)) (nat_lt a (2 ^ 64 - 1))
        (let above : base ≤ a = omega (arith, low) in grind (arith, nat_tests))
        (let below : a < 2 ^ 64 - 1 = omega (arith, high, table) in grind (arith, nat_tests)))
        (is_between (a - base) f.address (end_of f) (omega (arith, low, f_low)) (omega (arith, low, high, f_high))))
        (is_between (a - base) l.address (end_of l) (omega (arith, low, l_low)) (omega (arith, low, high, l_high)))

-- ---- where pieces lie

-- the piece lies in the range of a file that is loaded at `base`
pub record IsWithin (base : ℕ) (range : Range) (piece : Piece) : Type 0 where
  pub low : range.address + base ≤ piece.low
  pub high : piece.high ≤ end_of range + base

pub apart_within : (base : ℕ) (r s : Range) (p q : Piece) → meet r s ≡ false → IsWithin base r p → IsWithin base s q → PiecesApart p q
apart_within base r s p q none in_r in_s =
    let r_low = in_r.low in
    let r_high = in_r.high in
    let s_low = in_s.low in
    let s_high = in_s.high in
    ⊎_elim
    (λ (cross : q.low < p.high).
    ⊎_elim
    (λ (both : p.low < q.high).
    absurd (let yes : meet r s ≡ true = meet_if r s (omega (arith, both, r_low, s_high)) (omega (arith, cross, s_low, r_high)) in
    let two : true ≡ false = sym yes ∙ none in cc))
    (λ (le : q.high ≤ p.low). inr le)
    (cases_lt p.low q.high))
    (λ (le : p.high ≤ q.low). inl le)
    (cases_lt q.low p.high)

-- of a line record's piece, if there is one
abbrev pub IsCut : ℕ → Range → Range → Piece → Type 0
IsCut base f l p = IsWithin base f p × IsWithin base l p × (p.low < p.high)

pub cut_is : (base : ℕ) (f : Range) (l : LineRecord) → All (IsCut base f l.range) (cut_line base f l)
cut_is base f l = by_test (nat_lt (cut_low f l.range) (cut_high base f l.range)) refl
  where
    by_test : (t : Bool) → nat_lt (cut_low f l.range) (cut_high base f l.range) ≡ t → All (IsCut base f l.range) (cut_line base f l)
    by_test true e =
        let lt : cut_low f l.range < cut_high base f l.range = grind (arith, nat_tests, e) in
        let f_low = low_left f l.range in
        let l_low = low_right f l.range in
        let f_high = high_function base f l.range in
        let l_high = high_line base f l.range in
        rw e (All-cons (IsCut base f l.range) (cut_piece base f l) [] (
          record { low = omega (arith, f_low); high = omega (arith, f_high) },
          record { low = omega (arith, l_low); high = omega (arith, l_high) },
          omega (arith, lt),
        ) (All-nil (IsCut base f l.range)))
    by_test false e = rw e (All-nil (IsCut base f l.range))

-- ---- all pieces

pub all_flat : {X Y : Type 0} (P : Y → Type 0) (g : X → List Y) (xs : List X) → All (λ x. All P (g x)) xs → All P (flat_map g xs)
all_flat P g [] h = All-nil P
all_flat P g (x ∷ xs) h =
    All-append P (g x) (flat_map g xs) (All-head (λ y. All P (g y)) x xs h) (all_flat P g xs (All-tail (λ y. All P (g y)) x xs h))

pub always : {X : Type 0} (P : X → Type 0) → ((x : X) → P x) → (xs : List X) → All P xs
always P h [] = All-nil P
always P h (x ∷ xs) = All-cons P x xs (h x) (always P h xs)

pub filled : (base : ℕ) (fs : List FunctionSaid) → All (λ p. p.low < p.high) (flat_map (pieces_in base) fs)
filled base fs = all_flat (λ p. p.low < p.high) (pieces_in base) fs (always (λ f. All (λ p. p.low < p.high) (pieces_in base f)) (λ f.
    all_flat (λ p. p.low < p.high) (cut_line base f.range) (kept (λ l. l.range) f.lines)
    (always (λ l. All (λ p. p.low < p.high) (cut_line base f.range l)) (λ l.
    All-weaker (IsCut base f.range l.range) (λ p. p.low < p.high) (λ p c. c.2) (cut_line base f.range l) (cut_is base f.range l))
    (kept (λ l. l.range) f.lines))) fs)

within_function : (base : ℕ) (f : FunctionSaid) → All (IsWithin base f.range) (pieces_in base f)
within_function base f =
    all_flat (IsWithin base f.range) (cut_line base f.range) (kept (λ l. l.range) f.lines)
    (always (λ l. All (IsWithin base f.range) (cut_line base f.range l)) (λ l.
    All-weaker (IsCut base f.range l.range) (IsWithin base f.range) (λ p c. c.0) (cut_line base f.range l) (cut_is base f.range l))
    (kept (λ l. l.range) f.lines))

flat_pairs : {X : Type 0} (base : ℕ) (range : X → Range) (g : X → List Piece) → ((x : X) → AllPairs PiecesApart (g x))
    → ((x : X) → All (IsWithin base (range x)) (g x)) → (xs : List X) → AllPairs (Apart range) xs → AllPairs PiecesApart (flat_map g xs)
flat_pairs base range g each within [] h = pairs_nil PiecesApart
flat_pairs base range g each within (x ∷ xs) h =
    pairs_append PiecesApart (g x) (flat_map g xs) (each x) (flat_pairs base range g each within xs (pairs_tail (Apart range) x xs h))
    (All-weaker (IsWithin base (range x)) (λ p. All (PiecesApart p) (flat_map g xs)) (λ p in_x.
    all_flat (PiecesApart p) g xs (All-weaker (Apart range x) (λ y. All (PiecesApart p) (g y)) (λ y none.
    All-weaker (IsWithin base (range y)) (PiecesApart p)
    (λ q in_y. apart_within base (range x) (range y) p q none in_x in_y) (g y) (within y))
    xs (pairs_head (Apart range) x xs h)))
    (g x) (within x))

one_cut : (base : ℕ) (f : Range) (l : LineRecord) → AllPairs PiecesApart (cut_line base f l)
one_cut base f l = by_test (nat_lt (cut_low f l.range) (cut_high base f l.range)) refl
  where
    by_test : (t : Bool) → nat_lt (cut_low f l.range) (cut_high base f l.range) ≡ t → AllPairs PiecesApart (cut_line base f l)
    by_test true e =
        rw e (pairs_cons PiecesApart (cut_piece base f l) [] (All-nil (PiecesApart (cut_piece base f l))) (pairs_nil PiecesApart))
    by_test false e = rw e (pairs_nil PiecesApart)

pub pieces_apart : (base : ℕ) (fs : List FunctionSaid) → AllPairs (Apart (λ f. f.range)) fs
    → AllPairs PiecesApart (flat_map (pieces_in base) fs)
pieces_apart base fs h =
    flat_pairs base (λ f. f.range) (pieces_in base) (λ f. flat_pairs base (λ l. l.range) (cut_line base f.range) (one_cut base f.range)
    (λ l. All-weaker (IsCut base f.range l.range) (IsWithin base l.range) (λ p c. c.1) (cut_line base f.range l) (cut_is base f.range l))
    (kept (λ l. l.range) f.lines) (kept_apart (λ l. l.range) f.lines)) (within_function base) fs h
