-- The spans of line tables, as far as those before the last say the same, one after another.
use Rattle.std.proofs.Common.{◌≡◌, ◌∙◌, ℕ, zero, suc, ◌+◌, ◌-◌, ◌^◌, ◌<◌, ◌≤◌, Bool, true, false, List, [], ◌∷◌, ◌++◌, Option, Some, None}
use Rattle.std.proofs.Common.{refl, sym, ap, arith, cond, option_and_then}
use Rattle.std.specs.Prelude.{nat_lt, is_some}
use Rattle.std.specs.Option.{option_or}
use Rattle.std.proofs.lemmas.Bool.Decides.{nat_tests}
use Rattle.lnt_records.specs.declared.path_records.version.PathVersion.TheVariants.{Four}
use Rattle.lnt_records.specs.PathSpans.{PathAnswer, spans_by_path}
use Rattle.lnt_spans.specs.declared.position.Position.{Position}
use Rattle.lnt_spans.specs.declared.span.Span.{Span}
use Rattle.lnt_spans.specs.SpanKinds.{is_held}
use Rattle.lnt_spans.specs.Spans.{number_spans}
use Rattle.lnt_gsym.specs.GsymAnswers.{row_at, row_in}
use Rattle.lnt_gsym.specs.GsymInfos.{Row}
use Rattle.lnt_gsym.specs.GsymSpans.{gate_at, last_after, less, piece, row_spans, table_spans}
use Rattle.lnt_gsym.proofs.GateLemmas.{at_above, tables_gated}
use Rattle.lnt_gsym.proofs.RowSpanLemmas.{BeginAbove, in_range, is_less, no, Ordered, ordered_append, Rising, rows_found}
use Rattle.lnt_gsym.proofs.RowSpanLemmas.{rows_ordered, same_both, TellsSo, yes}

pub found_append : (path : ℕ → ℕ → List ℕ) (p : Position) (xs ys : List Span)
    → spans_by_path Four path (xs ++ ys) p ≡ option_or (spans_by_path Four path xs p) (spans_by_path Four path ys p)
found_append path p [] ys = refl
found_append path p (x ∷ xs) ys = by (found_append path p xs ys) (is_held number_spans p x) refl
  where
    by : spans_by_path Four path (xs ++ ys) p ≡ option_or (spans_by_path Four path xs p) (spans_by_path Four path ys p)
        → (t : Bool) → is_held number_spans p x ≡ t
        → spans_by_path Four path (x ∷ xs ++ ys) p ≡ option_or (spans_by_path Four path (x ∷ xs) p) (spans_by_path Four path ys p)
    by same true e = rw e refl
    by same false e = rw e same

-- ---- how far a piece goes

-- where the first piece ends
abbrev pub end_at : ℕ → ℕ → List (List Row) → ℕ
end_at low high tables = less (gate_at low tables).until high

pub end_above : (low high : ℕ) (tables : List (List Row)) → low < high → high ≤ 2 ^ 64 - 1 → low < end_at low high tables
end_above low high tables lt bound = by (gate_at low tables).until (at_above low tables (omega (arith, lt, bound)))
  where
    by : (until : ℕ) → low < until → low < less until high
    by until up = grind (arith, nat_tests)

pub end_below : (low high : ℕ) (tables : List (List Row)) → end_at low high tables ≤ high
end_below low high tables = by (gate_at low tables).until
  where
    by : (until : ℕ) → less until high ≤ high
    by until = grind (arith, nat_tests)

-- ---- enough room

pub enough_room : (n m : ℕ) (tells : Row → Bool) (low high : ℕ) (tables : List (List Row)) → high ≤ 2 ^ 64 - 1
    → high ≤ low + n → high ≤ low + m → table_spans n tells low high tables ≡ table_spans m tells low high tables
enough_room zero zero tells low high tables bound le other = refl
enough_room zero (suc m) tells low high tables bound le other =
    let out : nat_lt low high ≡ false = no low high (omega (arith, le)) in rw out refl
enough_room (suc n) zero tells low high tables bound le other =
    let out : nat_lt low high ≡ false = no low high (omega (arith, other)) in rw out refl
enough_room (suc n) (suc m) tells low high tables bound le other =
    by (λ stop f g. enough_room n m tells stop high tables bound f g) (nat_lt low high) refl
  where
    by : ((stop : ℕ) → high ≤ stop + n → high ≤ stop + m → table_spans n tells stop high tables ≡ table_spans m tells stop high tables)
        → (t : Bool) → nat_lt low high ≡ t
        → table_spans (suc n) tells low high tables ≡ table_spans (suc m) tells low high tables
    by rest false e = rw e refl
    by rest true e =
        let up : low < end_at low high tables = end_above low high tables (is_less low high e) bound in
        rw e (ap (λ ss. piece tells (gate_at low tables) low high (last_after [] tables) ++ ss)
        (rest (end_at low high tables) (omega (arith, up, le)) (omega (arith, up, other))))

-- the first piece, and those after it
pub first_piece : (tells : Row → Bool) (low high : ℕ) (tables : List (List Row)) → low < high → high ≤ 2 ^ 64 - 1
    → table_spans (high - low) tells low high tables ≡ piece tells (gate_at low tables) low high (last_after [] tables)
    ++ table_spans (high - end_at low high tables) tells (end_at low high tables) high tables
first_piece tells low high tables lt bound = by (high - low) refl
  where
    up : low < end_at low high tables
    up = end_above low high tables lt bound

    below : end_at low high tables ≤ high
    below = end_below low high tables

    by : (room : ℕ) → high - low ≡ room
        → table_spans room tells low high tables ≡ piece tells (gate_at low tables) low high (last_after [] tables)
        ++ table_spans (high - end_at low high tables) tells (end_at low high tables) high tables
    by zero e = absurd (omega (arith, lt, e))
    by (suc room) e = rw (yes low high lt) (ap (λ ss. piece tells (gate_at low tables) low high (last_after [] tables) ++ ss)
        (enough_room room (high - end_at low high tables) tells (end_at low high tables) high tables bound
        (omega (arith, up, e)) (omega (arith, below))))

-- ---- what they answer

piece_found : (tell : Row → Option PathAnswer) (path : ℕ → ℕ → List ℕ) (p : Position) (low high : ℕ) (tables : List (List Row))
    → TellsSo tell path → Rising (last_after [] tables)
    → spans_by_path Four path (piece (λ row. is_some (tell row)) (gate_at low tables) low high (last_after [] tables)) p
    ≡ cond (in_range low (end_at low high tables) p.address) (option_and_then tell (row_in p.address tables)) None
piece_found tell path p low high tables so rising =
    by_passes (gate_at low tables).passes ∙ by_range (in_range low (end_at low high tables) p.address) refl
  where
    last : List Row
    last = last_after [] tables

    answer : Bool → Option PathAnswer
    answer passes = option_and_then tell (cond passes (row_at p.address last) None)

    by_passes : (t : Bool) → spans_by_path Four path (row_spans (λ row. is_some (tell row)) low (end_at low high tables) (cond t last [])) p
        ≡ cond (in_range low (end_at low high tables) p.address) (answer t) None
    by_passes true = rows_found tell path p low (end_at low high tables) last so rising
    by_passes false = same_both (in_range low (end_at low high tables) p.address) None

    within : (until : ℕ) → in_range low (less until high) p.address ≡ true → (low ≤ p.address) × (p.address < until)
    within until e = (grind (arith, nat_tests, e), grind (arith, nat_tests, e))

    by_range : (t : Bool) → in_range low (end_at low high tables) p.address ≡ t
        → cond (in_range low (end_at low high tables) p.address) (answer (gate_at low tables).passes) None
        ≡ cond (in_range low (end_at low high tables) p.address) (option_and_then tell (row_in p.address tables)) None
    by_range false e = rw e refl
    by_range true e =
        let there = within (gate_at low tables).until e in
        rw e (ap (option_and_then tell) (sym (tables_gated low p.address tables there.0 there.1)))

-- two ranges, one after the other
joined_ranges : {A : Type 0} (low middle high a : ℕ) (v : Option A) → low ≤ middle → middle ≤ high
    → option_or (cond (in_range low middle a) v None) (cond (in_range middle high a) v None) ≡ cond (in_range low high a) v None
joined_ranges {A} low middle high a v le up =
    by (in_range low middle a) refl (in_range middle high a) refl (in_range low high a) refl
  where
    or_none : (o : Option A) → option_or o None ≡ o
    or_none None = refl
    or_none (Some x) = refl

    by : (x : Bool) → in_range low middle a ≡ x → (y : Bool) → in_range middle high a ≡ y → (z : Bool) → in_range low high a ≡ z
        → option_or (cond (in_range low middle a) v None) (cond (in_range middle high a) v None) ≡ cond (in_range low high a) v None
    by true e true f z g = absurd (grind (arith, nat_tests, e, f))
    by true e false f true g = rw (e, f, g) (or_none v)
    by true e false f false g = absurd (grind (arith, nat_tests, e, g, up))
    by false e true f true g = rw (e, f, g) refl
    by false e true f false g = absurd (grind (arith, nat_tests, f, g, le))
    by false e false f true g = absurd (grind (arith, nat_tests, e, f, g))
    by false e false f false g = rw (e, f, g) refl

pub tables_found : (room : ℕ) (tell : Row → Option PathAnswer) (path : ℕ → ℕ → List ℕ) (p : Position) (low high : ℕ)
    (tables : List (List Row))
    → TellsSo tell path → Rising (last_after [] tables) → high ≤ 2 ^ 64 - 1 → high ≤ low + room
    → spans_by_path Four path (table_spans room (λ row. is_some (tell row)) low high tables) p
    ≡ cond (in_range low high p.address) (option_and_then tell (row_in p.address tables)) None
tables_found zero tell path p low high tables so rising bound enough =
    let out : in_range low high p.address ≡ false = grind (arith, nat_tests, enough) in rw out refl
tables_found (suc room) tell path p low high tables so rising bound enough =
    by (λ stop le. tables_found room tell path p stop high tables so rising bound le) (nat_lt low high) refl
  where
    Answer : Option PathAnswer
    Answer = option_and_then tell (row_in p.address tables)

    by : ((stop : ℕ) → high ≤ stop + room → spans_by_path Four path (table_spans room (λ row. is_some (tell row)) stop high tables) p
        ≡ cond (in_range stop high p.address) Answer None)
        → (t : Bool) → nat_lt low high ≡ t
        → spans_by_path Four path (table_spans (suc room) (λ row. is_some (tell row)) low high tables) p
        ≡ cond (in_range low high p.address) Answer None
    by rest false e =
        let out : in_range low high p.address ≡ false = grind (arith, nat_tests, e) in rw (e, out) refl
    by rest true e =
        let up : low < end_at low high tables = end_above low high tables (is_less low high e) bound in
        let below : end_at low high tables ≤ high = end_below low high tables in
        rw e (found_append path p (piece (λ row. is_some (tell row)) (gate_at low tables) low high (last_after [] tables))
        (table_spans room (λ row. is_some (tell row)) (end_at low high tables) high tables)
        ∙ (ap (λ o. option_or o (spans_by_path Four path (table_spans room (λ row. is_some (tell row)) (end_at low high tables) high tables)
        p)) (piece_found tell path p low high tables so rising)
        ∙ (ap (option_or (cond (in_range low (end_at low high tables) p.address) Answer None))
        (rest (end_at low high tables) (omega (arith, up, enough)))
        ∙ joined_ranges low (end_at low high tables) high p.address Answer (omega (arith, up)) below)))

-- ---- order

pub tables_ordered : (room : ℕ) (tells : Row → Bool) (m low high : ℕ) (tables : List (List Row)) → Rising (last_after [] tables)
    → high ≤ 2 ^ 64 - 1 → m ≤ low → m ≤ high → Ordered m high (table_spans room tells low high tables)
tables_ordered zero tells m low high tables rising bound le up = up
tables_ordered (suc room) tells m low high tables rising bound le up =
    by (λ n stop le up. tables_ordered room tells n stop high tables rising bound le up) (nat_lt low high) refl
  where
    above : (n : ℕ) (rows : List Row) → n ≤ low → BeginAbove n low rows
    above n [] le = tt
    above n (row ∷ rows) le = grind (arith, nat_tests)

    by_passes : (t : Bool) → m ≤ end_at low high tables
        → Ordered m (end_at low high tables) (row_spans tells low (end_at low high tables) (cond t (last_after [] tables) []))
    by_passes true end = rows_ordered tells m low (end_at low high tables) (last_after [] tables) rising end
        (above m (last_after [] tables) le)
    by_passes false end = end

    by : ((n stop : ℕ) → n ≤ stop → n ≤ high → Ordered n high (table_spans room tells stop high tables))
        → (t : Bool) → nat_lt low high ≡ t → Ordered m high (table_spans (suc room) tells low high tables)
    by rest false e = rw e up
    by rest true e =
        let end : low < end_at low high tables = end_above low high tables (is_less low high e) bound in
        let below : end_at low high tables ≤ high = end_below low high tables in
        rw e (ordered_append m (end_at low high tables) high
        (piece tells (gate_at low tables) low high (last_after [] tables))
        (table_spans room tells (end_at low high tables) high tables)
        (by_passes (gate_at low tables).passes (omega (arith, le, end)))
        (rest (end_at low high tables) (end_at low high tables) (omega arith) below))
