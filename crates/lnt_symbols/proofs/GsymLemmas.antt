-- What is printed of a GSYM file.
use Rattle.std.proofs.Common.{◌≡◌, ◌∙◌, ◌⊎◌, ℕ, List, Option, Some, None, refl, sym, ap, inr}
use Rattle.std.specs.Prelude.{Result, Ok, Err}
use Rattle.std.specs.Io.KnownBytes.{Appends, Keeps}
use Rattle.std.specs.List.{AllByRecursion}
use Rattle.lnt_writing.specs.Canonical.{BeginsPathTable, IsCanonicalPathTable}
use Rattle.lnt_io.specs.declared.status.Status.{Status}
use Rattle.lnt_io.specs.declared.status.Status.TheVariants.{Done, No}
use Rattle.lnt_io.specs.Prefixes.{AppendsPrefix}
use Rattle.lnt_records.specs.declared.path_records.version.PathVersion.TheVariants.{Four}
use Rattle.lnt_records.specs.PathSpans.{spans_by_path}
use Rattle.lnt_spans.specs.Spans.{AreInOrder, IsOfInstructions}
use Rattle.lnt_spans.specs.declared.span.Span.{Span}
use Rattle.lnt_wire.specs.declared.format.Order.{Order}
use Rattle.lnt_gsym.specs.GsymAnswers.{gsym_answer, path_in}
use Rattle.lnt_gsym.specs.GsymFields.{fault_of}
use Rattle.lnt_gsym.specs.GsymFiles.{Gsym, gsym_of}
use Rattle.lnt_gsym.specs.Spanning.{HasRead, IsReadOf, SpansSo}
use Rattle.lnt_gsym.specs.Walking.{NamesSaid}
use Rattle.lnt_gsym.specs.declared.fault.GsymFault.{GsymFault}
use Rattle.lnt_gsym.specs.declared.spans.Functions.{Functions}
use Rattle.lnt_symbols.specs.Pieces.{HasTable}
use Rattle.lnt_symbols.specs.SymbolTables.{answers_in_table, BeginsPrinted, gsym_answers, HasPrinted, symbol_fault_line}
use Rattle.lnt_symbols.specs.declared.fault.SymbolFault.TheVariants.{Gsym as GsymOf}
use Rattle.lnt_symbols.proofs.PieceLemmas.{begun_of_same, whole_of_same}

-- ---- the table of spans that answer so

abbrev pub path_of : NamesSaid → ℕ → ℕ → List ℕ
path_of names unit file = path_in names.strings names.files file

pub spans_table : (to_come : List Span → Type 0) (names : NamesSaid) (gsym : Gsym) (old new : Option (List ℕ)) → SpansSo to_come names gsym
    → ((list : List Span) → to_come list → AreInOrder list → AllByRecursion IsOfInstructions list
    → (bytes : List ℕ) × Appends old new bytes × IsCanonicalPathTable Four (spans_by_path Four (path_of names) list) bytes)
    → HasTable (answers_in_table (gsym_answer gsym)) old new
spans_table to_come names gsym old new so table =
    let made = table so.list so.coming so.in_order so.instructions in (
      made.0,
      made.1,
      whole_of_same (spans_by_path Four (path_of names) so.list)
          (answers_in_table (gsym_answer gsym)) made.0 so.answers made.2,
    )

pub spans_begun : (to_come : List Span → Type 0) (names : NamesSaid) (gsym : Gsym) (old new : Option (List ℕ)) → SpansSo to_come names gsym
    → ((list : List Span) → to_come list → AreInOrder list → AllByRecursion IsOfInstructions list
    → BeginsPathTable Four (spans_by_path Four (path_of names) list) old new)
    → BeginsPathTable Four (answers_in_table (gsym_answer gsym)) old new
spans_begun to_come names gsym old new so begun =
    begun_of_same (spans_by_path Four (path_of names) so.list) (answers_in_table (gsym_answer gsym)) old new so.answers
    (begun so.list so.coming so.in_order so.instructions)

-- ---- what is printed

answers_are : (order : Order) (bytes : List ℕ) (gsym : Gsym) → gsym_of order bytes ≡ Ok gsym
    → gsym_answers order bytes ≡ Ok (gsym_answer gsym)
answers_are order bytes gsym e = rw (e, gsym_answers) refl

fault_is : (order : Order) (bytes : List ℕ) (fault : GsymFault) → fault_of (gsym_of order bytes) ≡ Some fault
    → gsym_answers order bytes ≡ Err (GsymOf fault)
fault_is order bytes fault e = by (gsym_of order bytes) refl
  where
    by : (r : Result Gsym GsymFault) → gsym_of order bytes ≡ r → gsym_answers order bytes ≡ Err (GsymOf fault)
    by (Err other) f =
        let same : Some other ≡ Some fault = ap fault_of (sym f) ∙ e in
        let one : other ≡ fault = cc in
        rw (f, gsym_answers) (ap (λ x. Err (GsymOf x)) one)
    by (Ok gsym) f = absurd (never (ap fault_of (sym f) ∙ e))
      where
        never : None ≡ Some fault → ⊥
        never e = cc

pub printed_table : (order : Order) (bytes : List ℕ) (functions : Functions) (names : NamesSaid) (old new : Option (List ℕ))
    (status : Status)
    → IsReadOf order bytes functions names → status ≡ Done
    → ((gsym : Gsym) → HasRead functions names gsym → HasTable (answers_in_table (gsym_answer gsym)) old new)
    → HasPrinted (gsym_answers order bytes) old new status
printed_table order bytes functions names old new status read done table =
    rw (answers_are order bytes read.0 read.1, done) (table read.0 read.2)

pub begun_table : (order : Order) (bytes : List ℕ) (functions : Functions) (names : NamesSaid) (old new : Option (List ℕ))
    → IsReadOf order bytes functions names
    → ((gsym : Gsym) → HasRead functions names gsym
    → Keeps old new ⊎ BeginsPathTable Four (answers_in_table (gsym_answer gsym)) old new)
    → Keeps old new ⊎ BeginsPrinted (gsym_answers order bytes) old new
begun_table order bytes functions names old new read begun =
    rw (answers_are order bytes read.0 read.1) (begun read.0 read.2)

pub printed_fault : (order : Order) (bytes : List ℕ) (fault : GsymFault) (old new : Option (List ℕ))
    → fault_of (gsym_of order bytes) ≡ Some fault → Appends old new (symbol_fault_line (GsymOf fault))
    → HasPrinted (gsym_answers order bytes) old new No
printed_fault order bytes fault old new e line = rw (fault_is order bytes fault e) line

pub begun_fault : (order : Order) (bytes : List ℕ) (fault : GsymFault) (old new : Option (List ℕ))
    → fault_of (gsym_of order bytes) ≡ Some fault → AppendsPrefix old new (symbol_fault_line (GsymOf fault))
    → Keeps old new ⊎ BeginsPrinted (gsym_answers order bytes) old new
begun_fault order bytes fault old new e line = rw (fault_is order bytes fault e) (inr line)
