-- What the spans of rows answer, and that they are in order.
use Rattle.std.proofs.Common.{◌≡◌, ◌∙◌, ℕ, suc, ◌+◌, ◌<◌, ◌≤◌, Bool, true, false, List, [], ◌∷◌, ◌++◌, take, Option, Some, None}
use Rattle.std.proofs.Common.{refl, sym, ap, arith, cond, option_and_then}
use Rattle.std.specs.Prelude.{nat_lt, not, ◌&&◌, is_some}
use Rattle.std.specs.List.{AllByRecursion, prefix_len, take_while}
use Rattle.std.proofs.lemmas.Bool.Decides.{nat_tests}
use Rattle.lnt_records.specs.declared.path_records.version.PathVersion.TheVariants.{Four}
use Rattle.lnt_records.specs.PathSpans.{PathAnswer, spans_by_path}
use Rattle.lnt_spans.specs.declared.position.Position.{Position}
use Rattle.lnt_spans.specs.declared.span.Span.{Span}
use Rattle.lnt_spans.specs.SpanKinds.{is_held}
use Rattle.lnt_spans.specs.Spans.{AreInOrder, IsOfInstructions, number_spans}
use Rattle.lnt_gsym.specs.GsymAnswers.{last_of, row_at}
use Rattle.lnt_gsym.specs.GsymInfos.{Row}
use Rattle.lnt_gsym.specs.GsymSpans.{less, more, row_part, row_span, row_spans, up_to}

-- ---- tests of numbers

pub yes : (a b : ℕ) → a < b → nat_lt a b ≡ true
yes a b lt = grind (arith, nat_tests)

pub no : (a b : ℕ) → b ≤ a → nat_lt a b ≡ false
no a b le = grind (arith, nat_tests)

pub is_less : (a b : ℕ) → nat_lt a b ≡ true → a < b
is_less a b e = grind (arith, nat_tests)

pub not_less : (a b : ℕ) → nat_lt a b ≡ false → b ≤ a
not_less a b e = grind (arith, nat_tests)

-- whether a range of addresses holds one
abbrev pub in_range : ℕ → ℕ → ℕ → Bool
in_range low high a = not (nat_lt a low) && nat_lt a high

pub same_both : {A : Type 0} (t : Bool) (x : A) → x ≡ cond t x x
same_both true x = refl
same_both false x = refl

-- ---- one row

-- the answer of a row
abbrev pub told_row : (ℕ → ℕ → List ℕ) → Row → PathAnswer
told_row path row = record { path = path 0 row.file; line = row.line; column = None }

held_is : (p : Position) (low high : ℕ) (row : Row) → is_held number_spans p (row_span low high row) ≡ in_range low high p.address
held_is p low high row = grind (arith, nat_tests)

one_span : (path : ℕ → ℕ → List ℕ) (p : Position) (low high : ℕ) (row : Row) (rest : List Span)
    → spans_by_path Four path (row_span low high row ∷ rest) p
    ≡ cond (in_range low high p.address) (Some (told_row path row)) (spans_by_path Four path rest p)
one_span path p low high row rest = by_test (in_range low high p.address) refl
  where
    by_test : (t : Bool) → in_range low high p.address ≡ t
        → spans_by_path Four path (row_span low high row ∷ rest) p
        ≡ cond (in_range low high p.address) (Some (told_row path row)) (spans_by_path Four path rest p)
    by_test true e = rw (held_is p low high row ∙ e) (rw e refl)
    by_test false e = rw (held_is p low high row ∙ e) (rw e refl)

empty_range : (low high a : ℕ) → nat_lt low high ≡ false → in_range low high a ≡ false
empty_range low high a e = grind (arith, nat_tests)

part_found : (path : ℕ → ℕ → List ℕ) (p : Position) (tells : Bool) (low high : ℕ) (row : Row) (rest : List Span)
    → spans_by_path Four path (row_part tells low high row ++ rest) p
    ≡ cond (in_range low high p.address && tells) (Some (told_row path row)) (spans_by_path Four path rest p)
part_found path p tells low high row rest = by_tests (nat_lt low high) refl tells refl
  where
    by_tests : (s : Bool) → nat_lt low high ≡ s → (t : Bool) → tells ≡ t
        → spans_by_path Four path (row_part tells low high row ++ rest) p
        ≡ cond (in_range low high p.address && tells) (Some (told_row path row)) (spans_by_path Four path rest p)
    by_tests true e true f = rw (e, f) (one_span path p low high row rest ∙ and_true (in_range low high p.address))
      where
        and_true : (t : Bool) → cond t (Some (told_row path row)) (spans_by_path Four path rest p)
            ≡ cond (t && true) (Some (told_row path row)) (spans_by_path Four path rest p)
        and_true true = refl
        and_true false = refl
    by_tests true e false f = rw (e, f) (and_false (in_range low high p.address))
      where
        and_false : (t : Bool) → spans_by_path Four path rest p
            ≡ cond (t && false) (Some (told_row path row)) (spans_by_path Four path rest p)
        and_false true = refl
        and_false false = refl
    by_tests false e t f = rw (e, empty_range low high p.address e) refl

-- ---- the row at an address

abbrev pub or_row : Option Row → Row → Option Row
or_row None row = Some row
or_row (Some last) row = Some last

last_some : (row next : Row) (rows : List Row) → or_row (last_of (next ∷ rows)) row ≡ last_of (next ∷ rows)
last_some row next [] = refl
last_some row next (other ∷ rows) = last_some row other rows

taken_more : {X : Type 0} (test : X → Bool) (x : X) (xs : List X) → test x ≡ true → take_while test (x ∷ xs) ≡ x ∷ take_while test xs
taken_more test x xs e =
    let one : 1 + prefix_len test xs ≡ suc (prefix_len test xs) = omega arith in
    rw e (ap (λ n. take n (x ∷ xs)) one)

pub row_at_more : (a : ℕ) (row : Row) (rows : List Row)
    → row_at a (row ∷ rows) ≡ cond (nat_lt a row.address) None (or_row (row_at a rows) row)
row_at_more a row rows = by_test (nat_lt a row.address) refl
  where
    by_rows : (taken : List Row) → last_of (row ∷ taken) ≡ or_row (last_of taken) row
    by_rows [] = refl
    by_rows (next ∷ taken) = sym (last_some row next taken)

    by_test : (t : Bool) → nat_lt a row.address ≡ t
        → row_at a (row ∷ rows) ≡ cond (nat_lt a row.address) None (or_row (row_at a rows) row)
    by_test true e = rw e refl
    by_test false e =
        let more : take_while (λ r. not (nat_lt a r.address)) (row ∷ rows) ≡ row ∷ take_while (λ r. not (nat_lt a r.address)) rows
        = taken_more (λ r. not (nat_lt a r.address)) row rows (ap not e) in
        ap last_of more ∙ (by_rows (take_while (λ r. not (nat_lt a r.address)) rows)
        ∙ sym (ap (λ t. cond t None (or_row (row_at a rows) row)) e))

none_at : (a : ℕ) (row : Row) (rows : List Row) → nat_lt a row.address ≡ true → row_at a (row ∷ rows) ≡ None
none_at a row rows e = row_at_more a row rows ∙ ap (λ t. cond t None (or_row (row_at a rows) row)) e

some_at : (a : ℕ) (row next : Row) (rows : List Row) → nat_lt a next.address ≡ false
    → or_row (row_at a (next ∷ rows)) row ≡ row_at a (next ∷ rows)
some_at a row next rows e = rw (row_at_more a next rows) (rw e (twice (row_at a rows)))
  where
    twice : (o : Option Row) → or_row (or_row o next) row ≡ or_row o next
    twice None = refl
    twice (Some last) = refl

-- ---- rows in order

abbrev pub AtLeast : ℕ → List Row → Type 0
AtLeast n [] = Unit {0}
AtLeast n (row ∷ rows) = n ≤ row.address

abbrev pub Rising : List Row → Type 0
Rising [] = Unit {0}
Rising (row ∷ rows) = AtLeast row.address rows × Rising rows

-- What a row tells is its answer.
abbrev pub TellsSo : (Row → Option PathAnswer) → (ℕ → ℕ → List ℕ) → Type 0
TellsSo tell path = (row : Row) → tell row ≡ cond (is_some (tell row)) (Some (told_row path row)) None

one_row : (tell : Row → Option PathAnswer) (path : ℕ → ℕ → List ℕ) (p : Position) (low high : ℕ) (row : Row) (rows : List Row)
    → TellsSo tell path → Rising (row ∷ rows)
    → cond (in_range (more low row.address) (up_to high rows) p.address && is_some (tell row)) (Some (told_row path row))
    (cond (in_range low high p.address) (option_and_then tell (row_at p.address rows)) None)
    ≡ cond (in_range low high p.address) (option_and_then tell (row_at p.address (row ∷ rows))) None
one_row tell path p low high row [] so rising
    = rw (row_at_more p.address row []) (by_tests (in_range low high p.address) refl (nat_lt p.address row.address) refl)
  where
    Here : Type 0
    Here = cond (in_range (more low row.address) high p.address && is_some (tell row)) (Some (told_row path row))
        (cond (in_range low high p.address) None None)
        ≡ cond (in_range low high p.address) (option_and_then tell (cond (nat_lt p.address row.address) None (Some row))) None

    by_tests : (s : Bool) → in_range low high p.address ≡ s → (t : Bool) → nat_lt p.address row.address ≡ t → Here
    by_tests false e t f =
        let out : in_range (more low row.address) high p.address ≡ false = grind (arith, nat_tests, e) in rw (e, out) refl
    by_tests true e true f =
        let out : in_range (more low row.address) high p.address ≡ false = grind (arith, nat_tests, f) in rw (e, f, out) refl
    by_tests true e false f =
        let within : in_range (more low row.address) high p.address ≡ true = grind (arith, nat_tests, e, f) in
        rw (e, f, within) (sym (so row))
one_row tell path p low high row (next ∷ rows) so rising =
    rw (row_at_more p.address row (next ∷ rows))
    (by_tests (in_range low high p.address) refl (nat_lt p.address row.address) refl (nat_lt p.address next.address) refl)
  where
    a : ℕ
    a = p.address

    Here : Type 0
    Here = cond (in_range (more low row.address) (less next.address high) a && is_some (tell row)) (Some (told_row path row))
        (cond (in_range low high a) (option_and_then tell (row_at a (next ∷ rows))) None)
        ≡ cond (in_range low high a) (option_and_then tell (cond (nat_lt a row.address) None (or_row (row_at a (next ∷ rows)) row))) None

    by_tests : (s : Bool) → in_range low high a ≡ s → (t : Bool) → nat_lt a row.address ≡ t → (u : Bool) → nat_lt a next.address ≡ u → Here
    by_tests false e t f u g =
        let out : in_range (more low row.address) (less next.address high) a ≡ false = grind (arith, nat_tests, e) in rw (e, out) refl
    by_tests true e true f true g =
        let out : in_range (more low row.address) (less next.address high) a ≡ false = grind (arith, nat_tests, f) in
        rw (e, f, out, none_at a next rows g) refl
    by_tests true e true f false g =
        let le : row.address ≤ next.address = rising.0 in
        let lt : a < row.address = is_less a row.address f in
        let ge : next.address ≤ a = not_less a next.address g in absurd (omega (arith, le, lt, ge))
    by_tests true e false f true g =
        let within : in_range (more low row.address) (less next.address high) a ≡ true = grind (arith, nat_tests, e, f, g) in
        rw (e, f, within, none_at a next rows g) (sym (so row))
    by_tests true e false f false g =
        let out : in_range (more low row.address) (less next.address high) a ≡ false = grind (arith, nat_tests, g) in
        rw (e, f, out, some_at a row next rows g) refl

-- what the spans of rows answer
pub rows_found : (tell : Row → Option PathAnswer) (path : ℕ → ℕ → List ℕ) (p : Position) (low high : ℕ) (rows : List Row)
    → TellsSo tell path → Rising rows
    → spans_by_path Four path (row_spans (λ row. is_some (tell row)) low high rows) p
    ≡ cond (in_range low high p.address) (option_and_then tell (row_at p.address rows)) None
rows_found tell path p low high [] so rising = same_both (in_range low high p.address) None
rows_found tell path p low high (row ∷ rows) so rising =
    part_found path p (is_some (tell row)) (more low row.address) (up_to high rows) row (row_spans (λ r. is_some (tell r)) low high rows)
    ∙ (ap (λ o. cond (in_range (more low row.address) (up_to high rows) p.address && is_some (tell row)) (Some (told_row path row)) o)
    (rows_found tell path p low high rows so rising.1)
    ∙ one_row tell path p low high row rows so rising)

-- ---- order

-- Spans of whole instructions in order, between two addresses.
abbrev pub Ordered : ℕ → ℕ → List Span → Type 0
Ordered low high [] = low ≤ high
Ordered low high (span ∷ spans) = (low ≤ span.low.address) × (span.low.address < span.high.address) × IsOfInstructions span
    × Ordered span.high.address high spans

pub ordered_from : (low from high : ℕ) (spans : List Span) → low ≤ from → Ordered from high spans → Ordered low high spans
ordered_from low from high [] le h = omega (arith, le, h)
ordered_from low from high (span ∷ spans) le h = (let begins : from ≤ span.low.address = h.0 in omega (arith, le, begins), h.1, h.2, h.3)

pub ordered_append : (low middle high : ℕ) (xs ys : List Span) → Ordered low middle xs → Ordered middle high ys
    → Ordered low high (xs ++ ys)
ordered_append low middle high [] ys h g = ordered_from low middle high ys h g
ordered_append low middle high (span ∷ xs) ys h g =
    (h.0, h.1, h.2, ordered_append span.high.address middle high xs ys h.3 g)

-- The rows begin at or above an address, if the range does or they do.
abbrev pub BeginAbove : ℕ → ℕ → List Row → Type 0
BeginAbove m low [] = Unit {0}
BeginAbove m low (row ∷ rows) = m ≤ more low row.address

pub rows_ordered : (tells : Row → Bool) (m low high : ℕ) (rows : List Row) → Rising rows → m ≤ high → BeginAbove m low rows
    → Ordered m high (row_spans tells low high rows)
rows_ordered tells m low high [] rising le from = le
rows_ordered tells m low high (row ∷ rows) rising le from =
    by_test (rows_ordered tells (up_to high rows) low high rows rising.1 (up_high rows) (later rows))
    (rows_ordered tells m low high rows rising.1 le (skipped rows rising.0))
    (nat_lt (more low row.address) (up_to high rows) && tells row) refl
  where
    up_high : (rest : List Row) → up_to high rest ≤ high
    up_high [] = omega arith
    up_high (next ∷ rest) = by (nat_lt next.address high) refl
      where
        by : (t : Bool) → nat_lt next.address high ≡ t → less next.address high ≤ high
        by true e = rw e (let lt = is_less next.address high e in omega (arith, lt))
        by false e = rw e (omega arith)

    later : (rest : List Row) → BeginAbove (up_to high rest) low rest
    later [] = tt
    later (next ∷ rest) = grind (arith, nat_tests)

    skipped : (rest : List Row) → AtLeast row.address rest → BeginAbove m low rest
    skipped [] h = tt
    skipped (next ∷ rest) h = grind (arith, nat_tests, from)

    left : (s t : Bool) → (s && t) ≡ true → s ≡ true
    left true t e = refl
    left false t e = e

    by_test : Ordered (up_to high rows) high (row_spans tells low high rows) → Ordered m high (row_spans tells low high rows)
        → (t : Bool) → (nat_lt (more low row.address) (up_to high rows) && tells row) ≡ t
        → Ordered m high (row_spans tells low high (row ∷ rows))
    by_test after same true e = rw e (
      from,
      is_less (more low row.address) (up_to high rows) (left (nat_lt (more low row.address) (up_to high rows)) (tells row) e),
      (refl, refl),
      after,
    )
    by_test after same false e = rw e same

pub in_order : (low high : ℕ) (spans : List Span) → Ordered low high spans → AreInOrder spans
in_order low high [] h = tt
in_order low high (span ∷ []) h =
    let lt : span.low.address < span.high.address = h.1 in
    record { address = omega (arith, lt); op = λ e. absurd (omega (arith, lt, e)) }
in_order low high (span ∷ next ∷ spans) h =
    let lt : span.low.address < span.high.address = h.1 in
    let le : span.high.address ≤ next.low.address = h.3.0 in
    let one : span.high.op ≡ 0 = h.2.1 in
    let two : next.low.op ≡ 0 = h.3.2.0 in (
      record { address = omega (arith, lt); op = λ e. absurd (omega (arith, lt, e)) },
      record { address = le; op = λ e. omega (arith, one, two) },
      in_order span.high.address high (next ∷ spans) h.3,
    )

pub all_instructions : (low high : ℕ) (spans : List Span) → Ordered low high spans → AllByRecursion IsOfInstructions spans
all_instructions low high [] h = tt
all_instructions low high (span ∷ spans) h = (h.2, all_instructions span.high.address high spans h.3)
