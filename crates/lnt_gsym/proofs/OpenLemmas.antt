-- Functions, opened one after another.
use Rattle.std.proofs.Common.{◌≡◌, ◌∙◌, ℕ, zero, suc, ◌+◌, ◌-◌, ◌^◌, ◌<◌, ◌≤◌, Bool, true, false, List, [], ◌∷◌, ◌++◌, length}
use Rattle.std.proofs.Common.{refl, sym, ap, arith, cond, Option, Some, None, subst}
use Rattle.std.specs.Prelude.{◌&&◌, ◌==◌, nat_lt, not, Result, Ok, Err}
use Rattle.std.proofs.lemmas.Bool.Decides.{nat_tests}
use Rattle.lnt_spans.specs.declared.span.Span.{Span}
use Rattle.lnt_wire.specs.declared.format.Order.{Order}
use Rattle.lnt_wire.specs.Reading.{At}
use Rattle.lnt_gsym.specs.GsymFields.{number, then_read}
use Rattle.lnt_gsym.specs.GsymFiles.{at_place, functions_of, Gsym}
use Rattle.lnt_gsym.specs.GsymInfos.{Function, function_of, Row, tables_from}
use Rattle.lnt_gsym.specs.GsymSpans.{covered_after, end_of, function_spans, gate_at, high_of, last_after, less, more, next_above}
use Rattle.lnt_gsym.specs.GsymSpans.{piece, row_spans, spans_from, table_spans, tells}
use Rattle.lnt_gsym.specs.Walking.{AreLeft, count_left, EntriesSaid, GivesEntry, IsFunction, left_by, LeftBy, MadeSaid, next_start}
use Rattle.lnt_gsym.specs.Spanning.{AreSpansOf, FunctionsLeft, IsAbove, IsOpenedPart, IsPartOf, openings}
use Rattle.lnt_gsym.specs.declared.fault.GsymFault.{GsymFault}
use Rattle.lnt_gsym.specs.declared.spans.Above.{Above}
use Rattle.lnt_gsym.specs.declared.gate.Gate.{Gate}
use Rattle.lnt_gsym.specs.declared.spans.Functions.{Functions}
use Rattle.lnt_gsym.specs.declared.spans.Opened.{Opened}
use Rattle.lnt_gsym.proofs.FunctionLemmas.{one_of, then_is}
use Rattle.lnt_gsym.proofs.InfoLemmas.{other_number, same_number}
use Rattle.lnt_gsym.proofs.PieceLemmas.{end_above, end_at, end_below, first_piece}
use Rattle.lnt_gsym.proofs.RowSpanLemmas.{is_less, no, not_less, yes}

-- ---- the part of a function

pub no_rows : (files : ℕ) (rows : MadeSaid) → rows.row ≡ None → AreLeft files rows []
no_rows files rows none = subst (λ r. LeftBy files rows.numbers rows.at r []) (sym none) refl

pub none_bound : (rows : MadeSaid) → rows.row ≡ None → count_left rows ≤ 2 ^ 64
none_bound rows none = subst (λ r. left_by r (length rows.at.rest) ≤ 2 ^ 64) (sym none) (omega arith)

-- an empty range
pub part_empty : (covered start next size name : ℕ) (gate : Gate) (high : ℕ) (rows : MadeSaid) (opened : Opened)
    → opened.covered ≡ covered → opened.is_over ≡ true → opened.part.rows.row ≡ None
    → high ≡ less (end_of start size) next → nat_lt (more covered start) high ≡ false
    → (gsym : Gsym) (files : ℕ) (f : Function) → IsFunction files (more covered start) size name gate rows f
    → IsPartOf gsym files covered start next opened f
part_empty covered start next size name gate high rows opened c o n h empty gsym files f is =
    let same : high ≡ less (end_of start f.size) next = h ∙ ap (λ m. less (end_of start m) next) is.size_is in
    let out : nat_lt (more covered start) (less (end_of start f.size) next) ≡ false = ap (nat_lt (more covered start)) (sym same) ∙ empty in
    let after : opened.covered ≡ covered_after covered (more covered start) (less (end_of start f.size) next) = rw out c in
    let none : [] ≡ function_spans gsym (more covered start) (less (end_of start f.size) next) f = rw out refl in
    record {
      made = [];
      left = no_rows files opened.part.rows n;
      spans = subst (λ t. AreSpansOf gsym covered (more covered start) (less (end_of start f.size) next) t [] opened.covered f) (sym o)
          (after, none);
    }

-- a function without a name
pub part_nameless : (covered start next size name : ℕ) (gate : Gate) (high : ℕ) (rows : MadeSaid) (opened : Opened)
    → opened.covered ≡ high → opened.is_over ≡ true → opened.part.rows.row ≡ None
    → high ≡ less (end_of start size) next → nat_lt (more covered start) high ≡ true → name ≡ 0
    → (gsym : Gsym) (files : ℕ) (f : Function) → IsFunction files (more covered start) size name gate rows f
    → IsPartOf gsym files covered start next opened f
part_nameless covered start next size name gate high rows opened c o n h some z gsym files f is =
    let same : high ≡ less (end_of start f.size) next = h ∙ ap (λ m. less (end_of start m) next) is.size_is in
    let within : nat_lt (more covered start) (less (end_of start f.size) next)
    ≡ true = ap (nat_lt (more covered start)) (sym same) ∙ some in
    let zero : (f.name == 0) ≡ true = same_number f.name 0 (sym is.name_is ∙ z) in
    let after : opened.covered ≡ covered_after covered (more covered start) (less (end_of start f.size) next) = rw within (c ∙ same) in
    let none : [] ≡ function_spans gsym (more covered start) (less (end_of start f.size) next) f = rw (within, zero) refl in
    record {
      made = [];
      left = no_rows files opened.part.rows n;
      spans = subst (λ t. AreSpansOf gsym covered (more covered start) (less (end_of start f.size) next) t [] opened.covered f) (sym o)
          (after, none);
    }

-- no addresses
no_addresses : (room : ℕ) (tells : Row → Bool) (low high : ℕ) (tables : List (List Row)) → nat_lt low high ≡ false
    → table_spans room tells low high tables ≡ []
no_addresses zero tells low high tables e = refl
no_addresses (suc room) tells low high tables e = rw e refl

no_more : (spans : List Span) → spans ++ [] ≡ spans
no_more [] = refl
no_more (span ∷ spans) = ap (λ ss. span ∷ ss) (no_more spans)

-- the first spans of a function with a name
filled : (gsym : Gsym) (old low high : ℕ) (f : Function) → nat_lt low high ≡ true → high ≤ 2 ^ 64 - 1 → (f.name == 0) ≡ false
    → AreSpansOf gsym old low high (not (nat_lt low (end_at low high f.tables) && nat_lt (end_at low high f.tables) high))
    (piece (tells gsym) (gate_at low f.tables) low high (last_after [] f.tables)) (end_at low high f.tables) f
filled gsym old low high f within bound other = by (nat_lt end high) refl
  where
    end : ℕ
    end = end_at low high f.tables

    above : nat_lt low end ≡ true
    above = yes low end (end_above low high f.tables (is_less low high within) bound)

    Piece : List Span
    Piece = piece (tells gsym) (gate_at low f.tables) low high (last_after [] f.tables)

    all : function_spans gsym low high f ≡ Piece ++ table_spans (high - end) (tells gsym) end high f.tables
    all = rw (within, other) (first_piece (tells gsym) low high f.tables (is_less low high within) bound)

    by : (t : Bool) → nat_lt end high ≡ t
        → AreSpansOf gsym old low high (not (nat_lt low end && nat_lt end high)) Piece end f
    by true e =
        let over : not (nat_lt low end && nat_lt end high) ≡ false = rw (above, e) refl in
        let rest : function_spans gsym end high f ≡ table_spans (high - end) (tells gsym) end high f.tables = rw (e, other) refl in
        subst (λ t. AreSpansOf gsym old low high t Piece end f) (sym over)
        (is_less low end above, is_less end high e, ap (λ ss. Piece ++ ss) rest ∙ sym all)
    by false e =
        let over : not (nat_lt low end && nat_lt end high) ≡ true = rw (above, e) refl in
        let up : high ≤ end = not_less end high e in
        let down : end ≤ high = end_below low high f.tables in
        let same : end ≡ high = omega (arith, up, down) in
        let after : end ≡ covered_after old low high = rw within same in
        subst (λ t. AreSpansOf gsym old low high t Piece end f) (sym over) (
          after,
          sym (all ∙ (ap (λ ss. Piece ++ ss) (no_addresses (high - end) (tells gsym) end high f.tables e) ∙ no_more Piece)),
        )

pub part_filled : (covered start next size name : ℕ) (gate : Gate) (high low end : ℕ) (over : Bool) (rows through : MadeSaid)
    → high ≡ less (end_of start size) next → nat_lt (more covered start) high ≡ true → high ≤ 2 ^ 64 - 1 → (name ≡ 0 → ⊥)
    → low ≡ more covered start → end ≡ less gate.until high → over ≡ not (nat_lt low end && nat_lt end high)
    → ((files : ℕ) (made : List Row) → AreLeft files rows made → AreLeft files through (cond gate.passes made []))
    → (gsym : Gsym) (files : ℕ) (f : Function) → IsFunction files (more covered start) size name gate rows f
    → IsPartOf gsym files covered start next
    (record { covered = end; is_over = over; part = record { low = low; high = end; rows = through } }) f
part_filled covered start next size name gate high low end over rows through h some bound nz l e o lets gsym files f is =
    record { made = cond gate.passes last []; left = lets files last is.left; spans = so }
  where
    last : List Row
    last = last_after [] f.tables

    from : ℕ
    from = more covered start

    same : high ≡ less (end_of start f.size) next
    same = h ∙ ap (λ m. less (end_of start m) next) is.size_is

    end_is : end ≡ end_at from high f.tables
    end_is = e ∙ ap (λ (g : Gate). less g.until high) is.gate_is

    over_is : over ≡ not (nat_lt from (end_at from high f.tables) && nat_lt (end_at from high f.tables) high)
    over_is = o ∙ (ap (λ n. not (nat_lt n end && nat_lt end high)) l ∙ ap (λ n. not (nat_lt from n && nat_lt n high)) end_is)

    spans_are : row_spans (tells gsym) low end (cond gate.passes last [])
        ≡ piece (tells gsym) (gate_at from f.tables) from high last
    spans_are = ap (λ n. row_spans (tells gsym) n end (cond gate.passes last [])) l
        ∙ (ap (λ n. row_spans (tells gsym) from n (cond gate.passes last [])) e
        ∙ ap (λ (g : Gate). piece (tells gsym) g from high last) is.gate_is)

    there : AreSpansOf gsym covered from high over (row_spans (tells gsym) low end (cond gate.passes last [])) end f
    there = subst (λ t. AreSpansOf gsym covered from high t (row_spans (tells gsym) low end (cond gate.passes last [])) end f) (sym over_is)
        (subst (λ ss. AreSpansOf gsym covered from high
        (not (nat_lt from (end_at from high f.tables) && nat_lt (end_at from high f.tables) high)) ss end f) (sym spans_are)
        (subst (λ n. AreSpansOf gsym covered from high
        (not (nat_lt from (end_at from high f.tables) && nat_lt (end_at from high f.tables) high))
        (piece (tells gsym) (gate_at from f.tables) from high last) n f) (sym end_is)
        (filled gsym covered from high f some bound (other_number f.name 0 (λ z. nz (is.name_is ∙ z))))))

    so : AreSpansOf gsym covered from (less (end_of start f.size) next) over
        (row_spans (tells gsym) low end (cond gate.passes last [])) end f
    so = subst (λ n. AreSpansOf gsym covered from n over (row_spans (tells gsym) low end (cond gate.passes last [])) end f) same there

pub covers_more : (covered start low end high : ℕ) (over : Bool) → low ≡ more covered start → over ≡ not (nat_lt low end && nat_lt end high)
    → over ≡ false → covered < end
covers_more covered start low end high over l o f =
    let between : not (nat_lt low end && nat_lt end high) ≡ false = sym o ∙ f in grind (arith, nat_tests, between, l)

-- ---- the next start

-- The next start is known, with the entry that starts there and without it.
pub known_above : (base start next : ℕ) (starts : List ℕ) (known : Above) → known.start ≡ start → next ≡ known.next
    → (offset : ℕ) → start ≡ base + offset → IsAbove base (offset ∷ starts) (Some known)
    → (next ≡ next_start base start starts) × IsAbove base starts (Some known) × IsAbove base (offset ∷ starts) (Some known)
known_above base start next starts known e n offset is above =
    let self : nat_lt known.start (base + offset) ≡ false = no known.start (base + offset) (omega (arith, e, is)) in
    let passed : known.next ≡ next_start base known.start starts = above ∙ rw self refl in
    (n ∙ (passed ∙ ap (λ m. next_start base m starts) e), passed, above)

pub found_above : (base start next : ℕ) (starts : List ℕ) → next ≡ next_start base start starts
    → (offset : ℕ) → start ≡ base + offset
    → (next ≡ next_start base start starts) × IsAbove base starts (Some (record { start = start; next = next }))
    × IsAbove base (offset ∷ starts) (Some (record { start = start; next = next }))
found_above base start next starts n offset is =
    let self : nat_lt start (base + offset) ≡ false = no start (base + offset) (omega (arith, is)) in
    let more : next_start base start (offset ∷ starts) ≡ next_start base start starts = rw self refl in
    (n, n, n ∙ sym more)

-- ---- the functions that are left

abbrev all_functions : List Function → Result (List Function) GsymFault
all_functions fs = Ok fs

pub same_functions : (x y : List Function) → all_functions x ≡ Ok y → x ≡ y
same_functions x y e = cc

-- what is read of a function
pub record IsReadSo (files start : ℕ) (f : Function) : Type 0 where
  pub at : At
  pub start_is : f.start ≡ start
  pub tables : tables_from (suc (length at.rest)) files start at ≡ Ok f.tables

pub function_is_read : (files start : ℕ) (at : At) (f : Function) → function_of files start at ≡ Ok f → IsReadSo files start f
function_is_read files start at f e =
    let size = then_is (number 4 at) (λ size. then_read (number 4 size.1) (λ name.
    then_read (tables_from (suc (length name.1.rest)) files start name.1) (λ tables.
    one_of (record { start = start; size = size.0; name = name.0; tables = tables })))) f e in
    let name = then_is (number 4 size.0.1) (λ name. then_read (tables_from (suc (length name.1.rest)) files start name.1) (λ tables.
    one_of (record { start = start; size = size.0.0; name = name.0; tables = tables }))) f size.2 in
    let tables = then_is (tables_from (suc (length name.0.1.rest)) files start name.0.1) (λ tables.
    one_of (record { start = start; size = size.0.0; name = name.0.0; tables = tables })) f name.2 in
    by tables.0 size.0.0 name.0.0 name.0.1 tables.1 tables.2
  where
    by : (tables : List (List Row)) (size name : ℕ) (b : At) → tables_from (suc (length b.rest)) files start b ≡ Ok tables
        → one_of (record { start = start; size = size; name = name; tables = tables }) ≡ Ok f → IsReadSo files start f
    by tables size name b read e =
        let one : record { start = start; size = size; name = name; tables = tables } ≡ f = cc in
        record { at = b; start_is = sym (ap (λ g. g.start) one); tables = read ∙ ap (λ g. Ok g.tables) one }

-- the function of the first entry, and those of the others
pub entry_first : (order : Order) (bytes : List ℕ) (base files start info : ℕ) (starts infos : List ℕ) (fs : List Function)
    → functions_of order bytes base files (start ∷ starts) (info ∷ infos) ≡ Ok fs
    → (f : Function) × (later : List Function) × (fs ≡ f ∷ later) × (function_of files (base + start) (at_place order bytes info) ≡ Ok f)
    × (functions_of order bytes base files starts infos ≡ Ok later) × (f.start ≡ base + start)
entry_first order bytes base files start info starts infos fs e = by (function_of files (base + start) (at_place order bytes info)) refl
  where
    Parts : Type 0
    Parts = (f : Function) × (later : List Function) × (fs ≡ f ∷ later)
        × (function_of files (base + start) (at_place order bytes info) ≡ Ok f)
        × (functions_of order bytes base files starts infos ≡ Ok later) × (f.start ≡ base + start)

    by : (r : Result Function GsymFault) → function_of files (base + start) (at_place order bytes info) ≡ r → Parts
    by (Err fault) g =
        let one : functions_of order bytes base files (start ∷ starts) (info ∷ infos) ≡ Err fault = rw (g, functions_of) refl in
        absurd (never (sym one ∙ e))
      where
        never : Err fault ≡ Ok fs → ⊥
        never e = cc
    by (Ok f) g =
        let one : functions_of order bytes base files (start ∷ starts) (info ∷ infos)
        ≡ then_read (functions_of order bytes base files starts infos) (λ functions. all_functions (f ∷ functions))
        = rw (g, functions_of) refl in
        let rest = then_is (functions_of order bytes base files starts infos) (λ functions. all_functions (f ∷ functions)) fs (sym one
        ∙ e) in
        let all : f ∷ rest.0 ≡ fs = same_functions (f ∷ rest.0) fs rest.2 in
        (f, rest.0, sym all, g, rest.1, (function_is_read files (base + start) (at_place order bytes info) f g).start_is)

next_is : (order : Order) (bytes : List ℕ) (base files start : ℕ) (starts infos : List ℕ) (fs : List Function)
    → functions_of order bytes base files starts infos ≡ Ok fs → length starts ≡ length infos
    → next_start base start starts ≡ next_above start fs
next_is order bytes base files start [] infos fs e l = ap (next_above start) (same_functions [] fs e)
next_is order bytes base files start (s ∷ starts) [] fs e l = absurd (omega (arith, l))
next_is order bytes base files start (s ∷ starts) (i ∷ infos) fs e l =
    let first = entry_first order bytes base files s i starts infos fs e in
    let rest = next_is order bytes base files start starts infos first.1 first.4 (omega (arith, l)) in
    let start_is : first.0.start ≡ base + s = first.5 in
    ap (λ n. cond (nat_lt start (base + s)) (less (base + s) (2 ^ 64 - 1)) n) rest
    ∙ (ap (λ n. cond (nat_lt start n) (less n (2 ^ 64 - 1)) (next_above start first.1)) (sym start_is)
    ∙ ap (next_above start) (sym first.2))

-- ---- opening the next function

-- no function is left
pub none_open : (files : ℕ) (functions : Functions) (above : Option Above) (fs : List Function) → functions.entries.starts ≡ []
    → FunctionsLeft files functions above fs → fs ≡ []
none_open files functions above fs none left =
    let read : all_functions [] ≡ functions_of functions.order functions.bytes.now functions.entries.base files functions.entries.starts
    functions.entries.infos = rw none refl in
    sym (same_functions [] fs (read ∙ left.read))

-- what the first entry says, with the functions after it
first_left : (files : ℕ) (functions : Functions) (entries : EntriesSaid) (above : Option Above) (start place : ℕ) (fs : List Function)
    → GivesEntry functions.entries entries start place → FunctionsLeft files functions above fs
    → (f : Function) × (later : List Function) × (fs ≡ f ∷ later)
    × (function_of files start (at_place functions.order functions.bytes.now place) ≡ Ok f)
    × (functions_of functions.order functions.bytes.now entries.base files entries.starts entries.infos ≡ Ok later)
    × (f.start ≡ start) × (length entries.starts ≡ length entries.infos)
first_left files functions entries above start place fs gives left =
    let read : functions_of functions.order functions.bytes.now functions.entries.base files (gives.offset ∷ entries.starts)
    (place ∷ entries.infos) ≡ Ok fs
    = ap (λ s. functions_of functions.order functions.bytes.now functions.entries.base files s (place ∷ entries.infos)) (sym gives.starts)
    ∙ (ap (λ i. functions_of functions.order functions.bytes.now functions.entries.base files functions.entries.starts i) (sym gives.infos)
    ∙ left.read) in
    let first = entry_first functions.order functions.bytes.now functions.entries.base files gives.offset place entries.starts
    entries.infos fs
    read in
    let lengths : suc (length entries.starts) ≡ suc (length entries.infos)
    = ap length (sym gives.starts) ∙ (left.lengths ∙ ap length gives.infos) in (
      first.0,
      first.1,
      first.2,
      ap (λ s. function_of files s (at_place functions.order functions.bytes.now place)) gives.start_is ∙ first.3,
      ap (λ b. functions_of functions.order functions.bytes.now b files entries.starts entries.infos) gives.base_is ∙ first.4,
      first.5 ∙ sym gives.start_is,
      omega (arith, lengths),
    )

pub never_open : (files : ℕ) (functions : Functions) (entries : EntriesSaid) (above : Option Above) (start place : ℕ) (fs : List Function)
    → GivesEntry functions.entries entries start place
    → ((files : ℕ) (f : Function) → function_of files start (at_place functions.order functions.bytes.now place) ≡ Ok f → ⊥)
    → FunctionsLeft files functions above fs → fs ≡ []
never_open files functions entries above start place fs gives never left =
    let first = first_left files functions entries above start place fs gives left in absurd (never files first.0 first.3)

-- what its rows are of its spans
spans_here : (gsym : Gsym) (files covered start next : ℕ) (opened : Opened) (f : Function) (later : List Function)
    → f.start ≡ start → next ≡ next_above start later → (part : IsPartOf gsym files covered start next opened f)
    → AreSpansOf gsym covered (more covered f.start) (high_of f later) opened.is_over
    (row_spans (tells gsym) opened.part.low opened.part.high part.made) opened.covered f
spans_here gsym files covered start next opened f later s n part =
    let range : less (end_of start f.size) next ≡ high_of f later
    = ap (less (end_of start f.size)) n ∙ ap (λ m. less (end_of m f.size) (next_above m later)) (sym s) in
    let made : List Span = row_spans (tells gsym) opened.part.low opened.part.high part.made in
    subst (λ m. AreSpansOf gsym covered (more covered f.start) m opened.is_over made opened.covered f) range
    (subst (λ m. AreSpansOf gsym covered (more covered m) (less (end_of start f.size) next) opened.is_over made opened.covered f) (sym s)
    part.spans)

-- the spans of the function and of those after it
spans_more : (gsym : Gsym) (files covered start next : ℕ) (opened : Opened) (f : Function) (later : List Function)
    → f.start ≡ start → next ≡ next_above start later → opened.is_over ≡ true → (part : IsPartOf gsym files covered start next opened f)
    → spans_from gsym covered (f ∷ later)
    ≡ row_spans (tells gsym) opened.part.low opened.part.high part.made ++ spans_from gsym opened.covered later
spans_more gsym files covered start next opened f later s n o part =
    let so : AreSpansOf gsym covered (more covered f.start) (high_of f later) true
    (row_spans (tells gsym) opened.part.low opened.part.high part.made) opened.covered f
    = subst (λ t. AreSpansOf gsym covered (more covered f.start) (high_of f later) t
    (row_spans (tells gsym) opened.part.low opened.part.high part.made) opened.covered f) o
    (spans_here gsym files covered start next opened f later s n part) in
    ap (λ spans. spans ++ spans_from gsym (covered_after covered (more covered f.start) (high_of f later)) later) (sym so.1)
    ∙ ap (λ m. row_spans (tells gsym) opened.part.low opened.part.high part.made ++ spans_from gsym m later) (sym so.0)

appended : (xs ys zs : List Span) → (xs ++ ys) ++ zs ≡ xs ++ (ys ++ zs)
appended [] ys zs = refl
appended (x ∷ xs) ys zs = ap (λ ss. x ∷ ss) (appended xs ys zs)

-- the first spans of the function, and its others
spans_some : (gsym : Gsym) (files covered start next : ℕ) (opened : Opened) (f : Function) (later : List Function)
    → f.start ≡ start → next ≡ next_above start later → opened.is_over ≡ false → (part : IsPartOf gsym files covered start next opened f)
    → spans_from gsym covered (f ∷ later)
    ≡ row_spans (tells gsym) opened.part.low opened.part.high part.made ++ spans_from gsym opened.covered (f ∷ later)
spans_some gsym files covered start next opened f later s n o part =
    let low : ℕ = more covered f.start in
    let high : ℕ = high_of f later in
    let made : List Span = row_spans (tells gsym) opened.part.low opened.part.high part.made in
    let so : AreSpansOf gsym covered (more covered f.start) (high_of f later) false made opened.covered f
    = subst (λ t. AreSpansOf gsym covered (more covered f.start) (high_of f later) t made opened.covered f) o
    (spans_here gsym files covered start next opened f later s n part) in
    let lt : more covered f.start < opened.covered = so.0 in
    let up : opened.covered < high_of f later = so.1 in
    let here : more opened.covered f.start ≡ opened.covered = stays covered f.start opened.covered lt in
    let one : covered_after covered (more covered f.start) (high_of f later) ≡ high_of f later
    = rw (yes (more covered f.start) (high_of f later) (omega (arith, lt, up))) refl in
    let two : covered_after opened.covered (more opened.covered f.start) (high_of f later) ≡ high_of f later
    = rw (here, yes opened.covered (high_of f later) up) refl in
    ap (λ spans. spans ++ spans_from gsym (covered_after covered (more covered f.start) (high_of f later)) later) (sym so.2)
    ∙ (appended made (function_spans gsym opened.covered (high_of f later) f)
    (spans_from gsym (covered_after covered (more covered f.start) (high_of f later)) later)
    ∙ (ap (λ m. made ++ (function_spans gsym opened.covered (high_of f later) f ++ spans_from gsym m later)) (one ∙ sym two)
    ∙ ap (λ m. made ++ (function_spans gsym m (high_of f later) f
    ++ spans_from gsym (covered_after opened.covered (more opened.covered f.start) (high_of f later)) later)) (sym here)))
  where
    stays : (covered start end : ℕ) → more covered start < end → more end start ≡ end
    stays covered start end lt = grind (arith, nat_tests, lt)

-- what is known of the next start, and of the part
abbrev pub KnowsNext : ℕ → ℕ → List ℕ → Option Above → Option Above → ℕ → Type 0
KnowsNext base start starts above known next = (offset : ℕ) → start ≡ base + offset → IsAbove base (offset ∷ starts) above
    → (next ≡ next_start base start starts) × IsAbove base starts known × IsAbove base (offset ∷ starts) known

abbrev pub OpensPart : ℕ → ℕ → ℕ → Opened → ℕ → ℕ → Gate → MadeSaid → Type 0
OpensPart covered start next opened size name gate rows = (gsym : Gsym) (files : ℕ) (f : Function)
    → IsFunction files (more covered start) size name gate rows f → IsPartOf gsym files covered start next opened f

next_found : (files : ℕ) (functions : Functions) (entries : EntriesSaid) (above known : Option Above) (start place next : ℕ)
    (fs later : List Function) → (gives : GivesEntry functions.entries entries start place)
    → KnowsNext entries.base start entries.starts above known next → FunctionsLeft files functions above fs
    → functions_of functions.order functions.bytes.now entries.base files entries.starts entries.infos ≡ Ok later
    → length entries.starts ≡ length entries.infos
    → (next ≡ next_above start later) × IsAbove entries.base entries.starts known
    × IsAbove entries.base (gives.offset ∷ entries.starts) known
next_found files functions entries above known start place next fs later gives nexts left read lengths =
    let start_is : start ≡ entries.base + gives.offset = gives.start_is ∙ ap (λ b. b + gives.offset) (sym gives.base_is) in
    let known_is : IsAbove entries.base (gives.offset ∷ entries.starts) above
    = subst (λ b. IsAbove b (gives.offset ∷ entries.starts) above) (sym gives.base_is)
    (subst (λ s. IsAbove functions.entries.base s above) gives.starts left.above_is) in
    let found = nexts gives.offset start_is known_is in (
      found.0
          ∙ next_is functions.order functions.bytes.now entries.base files start entries.starts entries.infos later read lengths,
      found.1,
      found.2,
    )

pub one_open : (gsym : Gsym) (files : ℕ) (functions : Functions) (entries : EntriesSaid) (above known : Option Above)
    (start place next covered address size name : ℕ) (gate : Gate) (found : MadeSaid) (opened : Opened) (fs : List Function)
    → GivesEntry functions.entries entries start place → KnowsNext entries.base start entries.starts above known next
    → address ≡ more covered start
    → ((files : ℕ) (f : Function) → function_of files start (at_place functions.order functions.bytes.now place) ≡ Ok f
    → IsFunction files address size name gate found f)
    → OpensPart covered start next opened size name gate found → opened.is_over ≡ true → FunctionsLeft files functions above fs
    → IsOpenedPart gsym files (record { order = functions.order; bytes = functions.bytes; entries = entries }) known covered
    opened.covered opened.part fs
one_open gsym files functions entries above known start place next covered address size name gate found opened fs gives nexts a is part o
    left =
    let first = first_left files functions entries above start place fs gives left in
    let next_known = next_found files functions entries above known start place next fs first.1 gives nexts left first.4 first.6 in
    let some = part gsym files first.0 (subst (λ n. IsFunction files n size name gate found first.0) a (is files first.0 first.3)) in
    record {
      made = some.made;
      later = first.1;
      left = some.left;
      functions_left = record { read = first.4; lengths = first.6; above_is = next_known.1 };
      spans = ap (spans_from gsym covered) first.2
          ∙ spans_more gsym files covered start next opened first.0 first.1 first.5 next_known.0 o some;
    }

pub one_stays : (gsym : Gsym) (files : ℕ) (functions : Functions) (entries : EntriesSaid) (above known : Option Above)
    (start place next covered address size name : ℕ) (gate : Gate) (found : MadeSaid) (opened : Opened) (fs : List Function)
    → GivesEntry functions.entries entries start place → KnowsNext entries.base start entries.starts above known next
    → address ≡ more covered start
    → ((files : ℕ) (f : Function) → function_of files start (at_place functions.order functions.bytes.now place) ≡ Ok f
    → IsFunction files address size name gate found f)
    → OpensPart covered start next opened size name gate found → opened.is_over ≡ false → FunctionsLeft files functions above fs
    → IsOpenedPart gsym files functions known covered opened.covered opened.part fs
one_stays gsym files functions entries above known start place next covered address size name gate found opened fs gives nexts a is part o
    left =
    let first = first_left files functions entries above start place fs gives left in
    let next_known = next_found files functions entries above known start place next fs first.1 gives nexts left first.4 first.6 in
    let some = part gsym files first.0 (subst (λ n. IsFunction files n size name gate found first.0) a (is files first.0 first.3)) in
    record {
      made = some.made;
      later = fs;
      left = some.left;
      functions_left = record {
        read = left.read;
        lengths = left.lengths;
        above_is = subst (λ b. IsAbove b functions.entries.starts known) gives.base_is
            (subst (λ s. IsAbove entries.base s known) (sym gives.starts) next_known.2);
      };
      spans = ap (spans_from gsym covered) first.2
          ∙ (spans_some gsym files covered start next opened first.0 first.1 first.5 next_known.0 o some
          ∙ ap (λ gs. row_spans (tells gsym) opened.part.low opened.part.high some.made ++ spans_from gsym opened.covered gs)
          (sym first.2));
    }

-- ---- how many openings are left

pub fewer_openings : (covered after : ℕ) (old new : List ℕ) → length new < length old → openings after new < openings covered old
fewer_openings covered after old new lt = omega (arith, lt)

pub more_covered : (covered after : ℕ) (starts : List ℕ) → covered < after → after < 2 ^ 64
    → openings after starts < openings covered starts
more_covered covered after starts lt bound = omega (arith, lt, bound)

-- ---- the range of a function

pub past_high : (covered start high : ℕ) → high ≤ start → nat_lt (more covered start) high ≡ false
past_high covered start high le = grind (arith, nat_tests)

pub past_low : (covered start low high : ℕ) → low ≡ more covered start → high ≤ low → nat_lt (more covered start) high ≡ false
past_low covered start low high e le = no (more covered start) high (omega (arith, e, le))

pub is_filled : (covered start low high : ℕ) → low ≡ more covered start → low < high → nat_lt (more covered start) high ≡ true
is_filled covered start low high e lt = yes (more covered start) high (omega (arith, e, lt))
