-- The spans of a whole file.
use Rattle.std.proofs.Common.{◌≡◌, ◌∙◌, ℕ, zero, suc, ◌+◌, ◌-◌, ◌^◌, ◌≤◌, Bool, true, false, List, [], ◌∷◌, length, drop}
use Rattle.std.proofs.Common.{refl, sym, ap, arith, Some, None, subst}
use Rattle.std.specs.Prelude.{◌==◌, nat_lt, Result, Ok, Err}
use Rattle.std.specs.List.{AllByRecursion}
use Rattle.std.proofs.lemmas.Bool.Decides.{nat_tests}
use Rattle.lnt_wire.specs.Reading.{At}
use Rattle.lnt_wire.specs.declared.format.Order.{Order}
use Rattle.lnt_gsym.specs.GsymAnswers.{path_in}
use Rattle.lnt_gsym.specs.GsymFields.{fault_of, Read}
use Rattle.lnt_gsym.specs.GsymFiles.{at_place, files_of, first_lower, functions_of, Gsym, gsym_of, header_of, numbers_of, tables_of}
use Rattle.lnt_gsym.specs.GsymInfos.{Function, function_of, Part, part, Row, tables_from}
use Rattle.lnt_gsym.specs.GsymSpans.{last_after, spans_from}
use Rattle.lnt_gsym.specs.Spanning.{AreToCome, entries_said, HasRead, IsReadOf, names_said, NumbersRise, SpansSo}
use Rattle.lnt_gsym.specs.Walking.{named, NamesSaid}
use Rattle.lnt_gsym.specs.declared.fault.GsymFault.{GsymFault}
use Rattle.lnt_gsym.specs.Reading.{header_said, tables_said}
use Rattle.lnt_gsym.specs.declared.header.Header.{Header as HeaderRead}
use Rattle.lnt_gsym.specs.declared.tables.Tables.{Tables as TablesRead}
use Rattle.lnt_gsym.specs.declared.spans.Functions.{Functions}
use Rattle.lnt_gsym.specs.declared.spans.GsymSpans.{GsymSpans}
use Rattle.lnt_gsym.proofs.FunctionLemmas.{part_first, part_last, part_never, part_other}
use Rattle.lnt_gsym.proofs.FunctionSpanLemmas.{RowsRise, spans_answer, spans_ordered, Starts}
use Rattle.lnt_gsym.proofs.JudgeLemmas.{files_length}
use Rattle.lnt_gsym.proofs.MadeLemmas.{rows_rise}
use Rattle.lnt_gsym.proofs.NameLemmas.{rows_tell}
use Rattle.lnt_gsym.proofs.OpenLemmas.{entry_first, no_rows, function_is_read, same_functions}
use Rattle.lnt_gsym.proofs.RowSpanLemmas.{all_instructions, in_order, Rising}

-- ---- rows stand in order

tables_rise : (room files start : ℕ) (at : At) (held : List Row) (tables : List (List Row)) → Rising held
    → tables_from room files start at ≡ Ok tables → Rising (last_after held tables)
tables_rise zero files start at held tables rise e = by tables e
  where
    by : (tables : List (List Row)) → tables_from zero files start at ≡ Ok tables → Rising (last_after held tables)
    by [] e = rise
    by (t ∷ tables) e = absurd (never e)
      where
        never : tables_from zero files start at ≡ Ok (t ∷ tables) → ⊥
        never e = cc
tables_rise (suc room) files start at held tables rise e =
    by_read (λ next held tables rise e. tables_rise room files start next held tables rise e) (part at) refl
  where
    Next : Type 0
    Next = (next : At) (held : List Row) (tables : List (List Row)) → Rising held → tables_from room files start next ≡ Ok tables
        → Rising (last_after held tables)

    by_kind : Next → (p : Part) (new : At) → part at ≡ Ok (p, new) → (s : Bool) → (p.kind == 0) ≡ s → (t : Bool) → (p.kind == 1) ≡ t
        → Rising (last_after held tables)
    by_kind next p new f true g t h =
        let none : tables ≡ [] = part_last room files start at new p tables f (grind (arith, nat_tests, g)) e in
        subst (λ ts. Rising (last_after held ts)) (sym none) rise
    by_kind next p new f false g true h =
        let first = part_first room files start at new p tables f (grind (arith, nat_tests, h)) e in
        subst (λ ts. Rising (last_after held ts)) (sym first.2)
        (next new first.0 first.1 (rows_rise files start p.bytes first.0 first.3) first.4)
    by_kind next p new f false g false h =
        next new held tables rise (part_other room files start at new p tables f (λ z. absurd (grind (arith, nat_tests, g, z)))
        (λ z. absurd (grind (arith, nat_tests, h, z))) e)

    by_read : Next → (read : Read Part) → part at ≡ read → Rising (last_after held tables)
    by_read next (Err fault) f = absurd (part_never room files start at fault tables f e)
    by_read next (Ok read) f = by_kind next read.0 read.1 f (read.0.kind == 0) refl (read.0.kind == 1) refl

function_rises : (files start : ℕ) (at : At) (f : Function) → function_of files start at ≡ Ok f → RowsRise f
function_rises files start at f e =
    let there = function_is_read files start at f e in
    tables_rise (suc (length there.at.rest)) files start there.at [] f.tables tt there.tables

-- ---- functions

-- what the functions of a file are, one after another
functions_rise : (order : Order) (bytes : List ℕ) (base files : ℕ) (starts infos : List ℕ) (fs : List Function)
    → functions_of order bytes base files starts infos ≡ Ok fs → length starts ≡ length infos → AllByRecursion RowsRise fs
functions_rise order bytes base files [] infos fs e l = subst (AllByRecursion RowsRise) (same_functions [] fs e) tt
functions_rise order bytes base files (s ∷ starts) [] fs e l = absurd (omega (arith, l))
functions_rise order bytes base files (s ∷ starts) (i ∷ infos) fs e l =
    let first = entry_first order bytes base files s i starts infos fs e in
    subst (AllByRecursion RowsRise) (sym first.2) (
      function_rises files (base + s) (at_place order bytes i) first.0 first.3,
      functions_rise order bytes base files starts infos first.1 first.4 (omega (arith, l)),
    )

start_above : (order : Order) (bytes : List ℕ) (base files n : ℕ) (starts infos : List ℕ) (fs : List Function)
    → functions_of order bytes base files starts infos ≡ Ok fs → length starts ≡ length infos → NumbersRise (n ∷ starts)
    → AllByRecursion (λ g. base + n ≤ g.start) fs
start_above order bytes base files n [] infos fs e l rise =
    subst (AllByRecursion (λ g. base + n ≤ g.start)) (same_functions [] fs e) tt
start_above order bytes base files n (s ∷ starts) [] fs e l rise = absurd (omega (arith, l))
start_above order bytes base files n (s ∷ starts) (i ∷ infos) fs e l rise =
    let first = entry_first order bytes base files s i starts infos fs e in
    let le : n ≤ s = rise.0 in
    let start_is : first.0.start ≡ base + s = first.5 in
    subst (AllByRecursion (λ g. base + n ≤ g.start)) (sym first.2) (
      omega (arith, le, start_is),
      start_above order bytes base files n starts infos first.1 first.4 (omega (arith, l)) (skip n s starts le rise.1),
    )
  where
    skip : (n s : ℕ) (starts : List ℕ) → n ≤ s → NumbersRise (s ∷ starts) → NumbersRise (n ∷ starts)
    skip n s [] le rise = tt
    skip n s (t ∷ starts) le rise = (let more : s ≤ t = rise.0 in omega (arith, le, more), rise.1)

starts_rise : (order : Order) (bytes : List ℕ) (base files : ℕ) (starts infos : List ℕ) (fs : List Function)
    → functions_of order bytes base files starts infos ≡ Ok fs → length starts ≡ length infos → NumbersRise starts → Starts fs
starts_rise order bytes base files [] infos fs e l rise = subst Starts (same_functions [] fs e) tt
starts_rise order bytes base files (s ∷ starts) [] fs e l rise = absurd (omega (arith, l))
starts_rise order bytes base files (s ∷ starts) (i ∷ infos) fs e l rise =
    let first = entry_first order bytes base files s i starts infos fs e in
    let start_is : first.0.start ≡ base + s = first.5 in
    subst Starts (sym first.2) (
      subst (λ n. AllByRecursion (λ g. n ≤ g.start) first.1) (sym start_is)
          (start_above order bytes base files s starts infos first.1 first.4 (omega (arith, l)) rise),
      starts_rise order bytes base files starts infos first.1 first.4 (omega (arith, l)) (tail s starts rise),
    )
  where
    tail : (s : ℕ) (starts : List ℕ) → NumbersRise (s ∷ starts) → NumbersRise starts
    tail s [] rise = tt
    tail s (t ∷ starts) rise = rise.1

-- offsets of which none is below the one before it
pub none_lower_rise : (size place : ℕ) (numbers : List ℕ) → first_lower size place numbers ≡ None → NumbersRise numbers
none_lower_rise size place [] e = tt
none_lower_rise size place (n ∷ []) e = tt
none_lower_rise size place (n ∷ m ∷ numbers) e =
    by (λ e. none_lower_rise size (place + size) (m ∷ numbers) e) (nat_lt m n) refl
  where
    by : (first_lower size (place + size) (m ∷ numbers) ≡ None → NumbersRise (m ∷ numbers)) → (t : Bool) → nat_lt m n ≡ t
        → NumbersRise (n ∷ m ∷ numbers)
    by rest true f =
        let some : first_lower size place (n ∷ m ∷ numbers) ≡ Some (place + size) = rw f refl in
        let two : Some (place + size) ≡ None = sym some ∙ e in absurd (never two)
      where
        never : Some (place + size) ≡ None → ⊥
        never e = cc
    by rest false f =
        let same : first_lower size place (n ∷ m ∷ numbers) ≡ first_lower size (place + size) (m ∷ numbers) = rw f refl in
        (grind (arith, nat_tests, f), rest (sym same ∙ e))

-- ---- the source

-- nothing was given yet
first_to_come : (source : GsymSpans) (gsym : Gsym) → HasRead source.functions source.names.now gsym → source.above ≡ None
    → source.covered ≡ 0 → source.part.rows.row ≡ None → AreToCome source (spans_from (named source.names.now) 0 gsym.functions)
first_to_come source gsym has above covered none = record {
  files = has.files;
  rows = [];
  fs = gsym.functions;
  left = no_rows has.files source.part.rows none;
  functions_left = record { read = has.read; lengths = has.lengths; above_is = rw above tt };
  are = ap (λ c. spans_from (named source.names.now) c gsym.functions) (sym covered);
}

pub spans_answer_as_gsym : (source : GsymSpans) (gsym : Gsym) → HasRead source.functions source.names.now gsym → source.above ≡ None
    → source.covered ≡ 0 → source.part.rows.row ≡ None → SpansSo (AreToCome source) source.names.now gsym
spans_answer_as_gsym source gsym has above covered none =
    let names : NamesSaid = source.names.now in
    let rise : AllByRecursion RowsRise gsym.functions
    = functions_rise source.functions.order source.functions.bytes.now source.functions.entries.base has.files
    source.functions.entries.starts source.functions.entries.infos gsym.functions has.read has.lengths in
    let starts : Starts gsym.functions
    = starts_rise source.functions.order source.functions.bytes.now source.functions.entries.base has.files
    source.functions.entries.starts source.functions.entries.infos gsym.functions has.read has.lengths has.rise in
    let ordered = spans_ordered (named source.names.now) 0 gsym.functions rise (omega arith) in
    record {
      list = spans_from (named source.names.now) 0 gsym.functions;
      coming = first_to_come source gsym has above covered none;
      in_order = in_order 0 (2 ^ 64 - 1) (spans_from (named source.names.now) 0 gsym.functions) ordered;
      instructions = all_instructions 0 (2 ^ 64 - 1) (spans_from (named source.names.now) 0 gsym.functions) ordered;
      answers = λ p. spans_answer source.names.now gsym (λ unit file. path_in source.names.now.strings source.names.now.files file) p
          has.strings_are has.files_are (rows_tell (named source.names.now)) rise starts;
    }

-- ---- reading a file

numbers_length : (order : Order) (size count : ℕ) (bytes : List ℕ) → length (numbers_of order size count bytes) ≡ count
numbers_length order size zero bytes = refl
numbers_length order size (suc count) bytes = let rest = numbers_length order size count (drop size bytes) in omega (arith, rest)

pub read_whole : (order : Order) (bytes : List ℕ) (h : HeaderRead) (t : TablesRead) (functions : Functions) (names : NamesSaid)
    → header_of order bytes ≡ Ok (header_said bytes h)
    → tables_of order bytes (header_said bytes h) ≡ Ok (tables_said order (header_said bytes h) t)
    → first_lower h.address_size 48 (numbers_of order h.address_size h.count t.starts.now) ≡ None
    → fault_of (functions_of order bytes h.base t.count (numbers_of order h.address_size h.count t.starts.now)
    (numbers_of order 4 h.count t.infos.now)) ≡ None
    → functions.order ≡ order → functions.bytes.now ≡ bytes → functions.entries ≡ entries_said order h t
    → names ≡ names_said order bytes h t → IsReadOf order bytes functions names
read_whole order bytes h t functions names e f low none o b en na =
    by (functions_of order bytes h.base t.count (numbers_of order h.address_size h.count t.starts.now)
    (numbers_of order 4 h.count t.infos.now))
    refl
  where
    whole : (fs : List Function)
        → functions_of order bytes h.base t.count (numbers_of order h.address_size h.count t.starts.now)
        (numbers_of order 4 h.count t.infos.now) ≡ Ok fs
        → gsym_of order bytes
        ≡ Ok (record { functions = fs; files = files_of order t.count t.files.now; strings = (header_said bytes h).strings })
    whole fs g = rw (e, f, files_length order t.count t.files.now, g) refl

    by : (r : Result (List Function) GsymFault)
        → functions_of order bytes h.base t.count (numbers_of order h.address_size h.count t.starts.now)
        (numbers_of order 4 h.count t.infos.now) ≡ r
        → IsReadOf order bytes functions names
    by (Err fault) g = absurd (never (ap fault_of (sym g) ∙ none))
      where
        never : Some fault ≡ None → ⊥
        never e = cc
    by (Ok fs) g = (
      record { functions = fs; files = files_of order t.count t.files.now; strings = (header_said bytes h).strings },
      whole fs g,
      record {
        files = t.count;
        read = rw (o, b, en) g;
        lengths = ap (λ x. length x.starts) en ∙ (numbers_length order h.address_size h.count t.starts.now
            ∙ (sym (numbers_length order 4 h.count t.infos.now) ∙ sym (ap (λ x. length x.infos) en)));
        rise = rw en (none_lower_rise h.address_size 48 (numbers_of order h.address_size h.count t.starts.now) low);
        strings_are = ap (λ x. x.strings) na;
        files_are = ap (λ x. x.files) na;
      },
    )
