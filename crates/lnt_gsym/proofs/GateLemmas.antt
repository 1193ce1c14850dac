-- What line tables say of an address, and of those after it.
use Rattle.std.proofs.Common.{◌≡◌, ◌∙◌, ℕ, ◌-◌, ◌^◌, ◌<◌, ◌≤◌, Bool, true, false, List, [], ◌∷◌, Option, Some, None}
use Rattle.std.proofs.Common.{refl, sym, ap, arith, cond, option_and_then, subst}
use Rattle.std.specs.Prelude.{nat_lt, not, ◌&&◌, ◌==◌}
use Rattle.std.proofs.lemmas.Bool.Decides.{nat_tests}
use Rattle.lnt_gsym.specs.GsymAnswers.{row_at, row_in}
use Rattle.lnt_gsym.specs.GsymInfos.{Row}
use Rattle.lnt_gsym.specs.GsymSpans.{both, gate_after, gate_at, gate_with, last_after, less, open_gate, row_gate}
use Rattle.lnt_gsym.specs.Walking.{AreLeft, MadeSaid, TakesRow}
use Rattle.lnt_gsym.specs.declared.gate.Gate.{Gate}
use Rattle.lnt_gsym.proofs.RowSpanLemmas.{no, or_row, row_at_more, yes}

-- ---- the loop over rows

-- What the rows say is what those that are left say, after `passes`.
pub record AskedSoFar (address : ℕ) (old : MadeSaid) (passes : Bool) (at : MadeSaid) : Type 0 where
  pub so : (files : ℕ) (rows : List Row) → AreLeft files old rows
      → (rest : List Row) × AreLeft files at rest × (row_gate false address rows ≡ row_gate passes address rest)

pub none_asked : (address : ℕ) (old : MadeSaid) → AskedSoFar address old false old
none_asked address old = record { so = λ files rows left. (rows, left, refl) }

pub one_asked : (address : ℕ) (old at new : MadeSaid) (passes next : Bool) (row : Row) → AskedSoFar address old passes at
    → ((files : ℕ) (rows : List Row) → AreLeft files at rows → TakesRow files new rows (Some row))
    → row.address ≤ address → next ≡ not (row.file == 0) → AskedSoFar address old next new
one_asked address old at new passes next row so takes le n = record {
  so = λ files rows left.
      let before = so.so files rows left in
      let taken = takes files before.0 before.1 in (
        taken.0,
        taken.2,
        before.2 ∙ (ap (row_gate passes address) taken.1 ∙ rw (no address row.address le, n) refl),
      );
}

pub is_above : (address until : ℕ) (old at new : MadeSaid) (passes : Bool) (row : Row) → AskedSoFar address old passes at
    → ((files : ℕ) (rows : List Row) → AreLeft files at rows → TakesRow files new rows (Some row))
    → address < row.address → until ≡ row.address
    → (files : ℕ) (rows : List Row) → AreLeft files old rows → record { passes = passes; until = until } ≡ row_gate false address rows
is_above address until old at new passes row so takes lt u files rows left =
    let before = so.so files rows left in
    let taken = takes files before.0 before.1 in
    sym (before.2 ∙ (ap (row_gate passes address) taken.1 ∙ rw (yes address row.address lt, u) refl))

pub all_asked : (address : ℕ) (old at : MadeSaid) (passes : Bool) → AskedSoFar address old passes at
    → ((files : ℕ) (rows : List Row) → AreLeft files at rows → rows ≡ [])
    → (files : ℕ) (rows : List Row) → AreLeft files old rows
    → record { passes = passes; until = 2 ^ 64 - 1 } ≡ row_gate false address rows
all_asked address old at passes so takes files rows left =
    let before = so.so files rows left in
    sym (before.2 ∙ ap (row_gate passes address) (takes files before.0 before.1))

-- ---- how far it holds

row_above : (a : ℕ) (passes : Bool) (rows : List Row) → a < 2 ^ 64 - 1 → a < (row_gate passes a rows).until
row_above a passes [] lt = lt
row_above a passes (row ∷ rows) lt = by (row_above a (not (row.file == 0)) rows lt) (nat_lt a row.address) refl
  where
    by : a < (row_gate (not (row.file == 0)) a rows).until → (t : Bool) → nat_lt a row.address ≡ t
        → a < (row_gate passes a (row ∷ rows)).until
    by rest true e = rw e (grind (arith, nat_tests, e))
    by rest false e = rw e rest

less_above : (a n m : ℕ) → a < n → a < m → a < less n m
less_above a n m lt le = grind (arith, nat_tests)

less_left : (n m : ℕ) → less n m ≤ n
less_left n m = grind (arith, nat_tests)

less_right : (n m : ℕ) → less n m ≤ m
less_right n m = grind (arith, nat_tests)

with_above : (a : ℕ) (gate : Gate) (has_table : Bool) (rows : List Row) → a < 2 ^ 64 - 1 → a < gate.until
    → a < (gate_with a gate has_table rows).until
with_above a gate false rows lt above = above
with_above a gate true rows lt above = less_above a gate.until (row_gate false a rows).until above (row_above a false rows lt)

after_above : (a : ℕ) (gate : Gate) (has_table : Bool) (rows : List Row) (tables : List (List Row)) → a < 2 ^ 64 - 1 → a < gate.until
    → a < (gate_after a gate has_table rows tables).until
after_above a gate has_table rows [] lt above = above
after_above a gate has_table rows (next ∷ tables) lt above =
    after_above a (gate_with a gate has_table rows) true next tables lt (with_above a gate has_table rows lt above)

pub at_above : (a : ℕ) (tables : List (List Row)) → a < 2 ^ 64 - 1 → a < (gate_at a tables).until
at_above a tables lt = after_above a open_gate false [] tables lt lt

after_less : (a : ℕ) (gate : Gate) (has_table : Bool) (rows : List Row) (tables : List (List Row))
    → (gate_after a gate has_table rows tables).until ≤ gate.until
after_less a gate has_table rows [] = omega arith
after_less a gate has_table rows (next ∷ tables) =
    let rest = after_less a (gate_with a gate has_table rows) true next tables in
    let one : (gate_with a gate has_table rows).until ≤ gate.until = with_less has_table in omega (arith, rest, one)
  where
    with_less : (has_table : Bool) → (gate_with a gate has_table rows).until ≤ gate.until
    with_less false = omega arith
    with_less true = less_left gate.until (row_gate false a rows).until

-- ---- what it says

-- what is told if a row is there, of a file
abbrev pub if_file : {A : Type 0} → Bool → Option A → Option Row → Option A
if_file passes told None = cond passes told None
if_file passes told (Some row) = cond (row.file == 0) None told

row_gated : {A : Type 0} (a b : ℕ) (passes : Bool) (told : Option A) (rows : List Row) → a ≤ b → b < (row_gate passes a rows).until
    → if_file passes told (row_at b rows) ≡ cond (row_gate passes a rows).passes told None
row_gated {A} a b passes told [] le lt = refl
row_gated {A} a b passes told (row ∷ rows) le lt =
    by (λ lt. row_gated a b (not (row.file == 0)) told rows le lt) (nat_lt a row.address) refl lt
  where
    last : (o : Option Row) → if_file passes told (or_row o row) ≡ if_file (not (row.file == 0)) told o
    last None = turned (row.file == 0)
      where
        turned : (t : Bool) → cond t None told ≡ cond (not t) told None
        turned true = refl
        turned false = refl
    last (Some r) = refl

    by : (b < (row_gate (not (row.file == 0)) a rows).until → if_file (not (row.file == 0)) told (row_at b rows)
        ≡ cond (row_gate (not (row.file == 0)) a rows).passes told None)
        → (t : Bool) → nat_lt a row.address ≡ t → b < (row_gate passes a (row ∷ rows)).until
        → if_file passes told (row_at b (row ∷ rows)) ≡ cond (row_gate passes a (row ∷ rows)).passes told None
    by rest true e up =
        let below : b < row.address = subst (λ (g : Gate). b < g.until) (found e) up in
        ap (if_file passes told) (row_at_more b row rows ∙ ap (λ t. cond t None (or_row (row_at b rows) row)) (yes b row.address below))
        ∙ rw e refl
      where
        found : nat_lt a row.address ≡ true → row_gate passes a (row ∷ rows) ≡ record { passes = passes; until = row.address }
        found e = rw e refl
    by rest false e up =
        let from : row.address ≤ b = grind (arith, nat_tests, e, le) in
        let same : row_gate passes a (row ∷ rows) ≡ row_gate (not (row.file == 0)) a rows = rw e refl in
        ap (if_file passes told) (row_at_more b row rows ∙ ap (λ t. cond t None (or_row (row_at b rows) row)) (no b row.address from))
        ∙ (last (row_at b rows) ∙ (rest (subst (λ (g : Gate). b < g.until) same up)
        ∙ ap (λ (g : Gate). cond g.passes told None) (sym same)))

tables_after : (a b : ℕ) (gate : Gate) (rows : List Row) (tables : List (List Row)) → a ≤ b
    → b < (gate_after a gate true rows tables).until
    → cond gate.passes (row_in b (rows ∷ tables)) None
    ≡ cond (gate_after a gate true rows tables).passes (row_at b (last_after rows tables)) None
tables_after a b gate rows [] le lt = refl
tables_after a b gate rows (next ∷ tables) le lt =
    one ∙ tables_after a b (both gate (row_gate false a rows)) next tables le lt
  where
    below : b < (row_gate false a rows).until
    below =
        let up = after_less a (both gate (row_gate false a rows)) true next tables in
        let there = less_right gate.until (row_gate false a rows).until in omega (arith, lt, up, there)

    then_is : (o : Option Row) → option_and_then (λ (row : Row). cond (row.file == 0) None (row_in b (next ∷ tables))) o
        ≡ if_file false (row_in b (next ∷ tables)) o
    then_is None = refl
    then_is (Some row) = refl

    two : (s t : Bool) (o : Option Row) → cond s (cond t o None) None ≡ cond (s && t) o None
    two true t o = refl
    two false t o = refl

    one : cond gate.passes (row_in b (rows ∷ next ∷ tables)) None
        ≡ cond (gate.passes && (row_gate false a rows).passes) (row_in b (next ∷ tables)) None
    one =
        ap (λ o. cond gate.passes o None) (then_is (row_at b rows) ∙ row_gated a b false (row_in b (next ∷ tables)) rows le below)
        ∙ two gate.passes (row_gate false a rows).passes (row_in b (next ∷ tables))

pub tables_gated : (a b : ℕ) (tables : List (List Row)) → a ≤ b → b < (gate_at a tables).until
    → row_in b tables ≡ cond (gate_at a tables).passes (row_at b (last_after [] tables)) None
tables_gated a b [] le lt = refl
tables_gated a b (rows ∷ tables) le lt = tables_after a b open_gate rows tables le lt
