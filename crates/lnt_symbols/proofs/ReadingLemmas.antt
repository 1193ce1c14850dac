-- What records come to, taken one by one.
use Rattle.std.proofs.Common.{◌≡◌, ◌∙◌, ℕ, ◌+◌, Bool, true, false, List, [], ◌∷◌, ◌++◌, Option, Some, None, Ok, Err, refl, sym, ap}
use Rattle.std.proofs.Common.{append_assoc, arith, flat_map, map, subst}
use Rattle.std.specs.Prelude.{MatchBool, ◌==◌, ◌<◌, if◌then◌else◌, IfOk, Result}
use Rattle.std.proofs.lemmas.Bool.Decides.{nat_tests}
use Rattle.std.proofs.lemmas.List.{append-nil, map-append}
use Rattle.lnt_symbols.specs.BreakpadLines.{LineRecord, lines_of, Range, record_of}
use Rattle.lnt_symbols.specs.BreakpadLines.{RecordSaid, file_said, function_said, line_said, public_said}
use Rattle.lnt_symbols.specs.BreakpadLines.{nothing_said}
use Rattle.lnt_symbols.specs.BreakpadAnswers.{answer_at, FunctionSaid, functions_of, is_inside, is_kept, kept_after, lines_before}
use Rattle.lnt_symbols.specs.BreakpadAnswers.{may_follow, name_in, records_from, records_of}
use Rattle.lnt_symbols.specs.Pieces.{all_pieces, cut_line, HasTable, pieces_in, pieces_of}
use Rattle.lnt_symbols.specs.Stepping.{AreInside, AreTaken, HasKept, HasRead, HasTaken, joined, more_kept, name_or, pieces_after}
use Rattle.lnt_symbols.specs.Stepping.{records_after, with_lines}
use Rattle.lnt_symbols.specs.declared.piece.Piece.{Piece}
use Rattle.lnt_symbols.specs.declared.breakpad.file.Reader.{Reader}
use Rattle.lnt_symbols.specs.declared.breakpad.reading.Reading.{Reading}
use Rattle.lnt_symbols.specs.declared.fault.SymbolFault.{SymbolFault}
use Rattle.lnt_io.specs.declared.status.Status.{Status}
use Rattle.lnt_io.specs.declared.status.Status.TheVariants.{Done}
use Rattle.lnt_symbols.specs.SymbolTables.{Answers, answers_in_table, HasPrinted, loaded_at, breakpad_answers}
use Rattle.lnt_symbols.proofs.FileLemmas.{records_step}
use Rattle.lnt_symbols.proofs.TreeLemmas.{kept_of_ranges}

-- ---- the pieces of all records

flat_one : {X Y : Type 0} (g : X → List Y) (xs : List X) (x : X) → flat_map g (xs ++ x ∷ []) ≡ flat_map g xs ++ g x
flat_one g [] x = append-nil (g x)
flat_one g (y ∷ ys) x = ap (λ zs. g y ++ zs) (flat_one g ys x) ∙ sym (append_assoc (g y) (flat_map g ys) (g x))

abbrev line_range : LineRecord → Range
line_range line = line.range

abbrev function_range : FunctionSaid → Range
function_range function = function.range

-- the pieces of line records of a function that goes on, of which these are kept, and then of what comes after it
abbrev then_after : ℕ → List Range → Range → List LineRecord → List LineRecord → List RecordSaid → List Piece
then_after base before f ls more records =
    flat_map (cut_line base f) (kept_after line_range ls more) ++ pieces_after base before None records

one_line : (base : ℕ) (before : List Range) (f : Range) (ls : List LineRecord) (l : LineRecord) (records : List RecordSaid) (t : Bool)
    → ((more : List LineRecord) → then_after base before f more (lines_before records) records
    ≡ flat_map (cut_line base f) more ++ pieces_after base before (Some (f, map line_range more)) records)
    → then_after base before f (if t then ls ++ l ∷ [] else ls) (lines_before records) records
    ≡ flat_map (cut_line base f) ls ++ (if t
    then cut_line base f l ++ pieces_after base before (Some (f, map line_range ls ++ l.range ∷ [])) records
    else pieces_after base before (Some (f, map line_range ls)) records)
one_line base before f ls l records false so = so ls
one_line base before f ls l records true so =
    let cut_before : List Piece = flat_map (cut_line base f) ls in
    let rest : List Range → List Piece = λ rs. pieces_after base before (Some (f, rs)) records in
    so (ls ++ l ∷ [])
    ∙ (ap (λ ps. ps ++ rest (map line_range (ls ++ l ∷ []))) (flat_one (cut_line base f) ls l)
    ∙ (append_assoc cut_before (cut_line base f l) (rest (map line_range (ls ++ l ∷ [])))
    ∙ ap (λ rs. cut_before ++ (cut_line base f l ++ rest rs)) (map-append line_range ls (l ∷ []))))

lines_cut : (base : ℕ) (before : List Range) (f : Range) (ls : List LineRecord) (records : List RecordSaid)
    → then_after base before f ls (lines_before records) records
    ≡ flat_map (cut_line base f) ls ++ pieces_after base before (Some (f, map line_range ls)) records
lines_cut base before f ls [] = refl
lines_cut base before f ls (function_said range ∷ records) = refl
lines_cut base before f ls (public_said ∷ records) = refl
lines_cut base before f ls (file_said n name ∷ records) = lines_cut base before f ls records
lines_cut base before f ls (nothing_said ∷ records) = lines_cut base before f ls records
lines_cut base before f ls (line_said l ∷ records) =
    subst (λ (t : Bool). then_after base before f ls (l ∷ lines_before records) records
    ≡ flat_map (cut_line base f) ls ++ (if t
    then cut_line base f l ++ pieces_after base before (Some (f, map line_range ls ++ l.range ∷ [])) records
    else pieces_after base before (Some (f, map line_range ls)) records))
    (sym (kept_of_ranges line_range ls l))
    (one_line base before f ls l records (is_kept line_range ls l) (λ more. lines_cut base before f more records))

-- the pieces of functions, of which these are kept
abbrev of_functions : ℕ → List FunctionSaid → List FunctionSaid → List Piece
of_functions base fs more = flat_map (pieces_in base) (kept_after function_range fs more)

one_function : (base : ℕ) (fs : List FunctionSaid) (range : Range) (records : List RecordSaid) (t : Bool)
    → ((more : List FunctionSaid) → of_functions base more (functions_of records)
    ≡ flat_map (pieces_in base) more ++ pieces_after base (map function_range more) None records)
    → of_functions base (if t then fs ++ record { range = range; lines = lines_before records } ∷ [] else fs) (functions_of records)
    ≡ flat_map (pieces_in base) fs ++ (if t
    then pieces_after base (map function_range fs ++ range ∷ []) (Some (range, [])) records
    else pieces_after base (map function_range fs) None records)
one_function base fs range records false so = so fs
one_function base fs range records true so =
    let one : FunctionSaid = record { range = range; lines = lines_before records } in
    let cut_before : List Piece = flat_map (pieces_in base) fs in
    let rest : List Range → List Piece = λ rs. pieces_after base rs None records in
    so (fs ++ one ∷ [])
    ∙ (ap (λ ps. ps ++ rest (map function_range (fs ++ one ∷ []))) (flat_one (pieces_in base) fs one)
    ∙ (append_assoc cut_before (pieces_in base one) (rest (map function_range (fs ++ one ∷ [])))
    ∙ ap (λ ps. cut_before ++ ps) (ap (λ rs. pieces_in base one ++ rest rs) (map-append function_range fs (one ∷ []))
    ∙ lines_cut base (map function_range fs ++ range ∷ []) range [] records)))

functions_cut : (base : ℕ) (fs : List FunctionSaid) (records : List RecordSaid)
    → of_functions base fs (functions_of records)
    ≡ flat_map (pieces_in base) fs ++ pieces_after base (map function_range fs) None records
functions_cut base fs [] = sym (append-nil (flat_map (pieces_in base) fs))
functions_cut base fs (line_said l ∷ records) = functions_cut base fs records
functions_cut base fs (public_said ∷ records) = functions_cut base fs records
functions_cut base fs (file_said n name ∷ records) = functions_cut base fs records
functions_cut base fs (nothing_said ∷ records) = functions_cut base fs records
functions_cut base fs (function_said range ∷ records) =
    subst (λ (t : Bool). of_functions base fs (functions_of (function_said range ∷ records))
    ≡ flat_map (pieces_in base) fs ++ (if t
    then pieces_after base (map function_range fs ++ range ∷ []) (Some (range, [])) records
    else pieces_after base (map function_range fs) None records))
    (sym (kept_of_ranges function_range fs (record { range = range; lines = lines_before records })))
    (one_function base fs range records (is_kept function_range fs (record { range = range; lines = lines_before records }))
    (λ more. functions_cut base more records))

pieces_are : (base : ℕ) (records : List RecordSaid) → pieces_of base records ≡ pieces_after base [] None records
pieces_are base records = functions_cut base [] records

-- ---- what was taken

pub taken_none : (reading : Reading) → HasKept reading.functions [] → HasKept reading.lines [] → reading.function ≡ None
    → all_pieces reading.pieces ≡ [] → ((number : ℕ) (rest : List ℕ) → name_or reading.names number rest ≡ rest) → AreInside reading.names
    → (base : ℕ) → HasTaken base [] reading
taken_none reading functions lines function pieces names inside base = record {
  functions = [];
  lines = [];
  kept_functions = functions;
  kept_lines = lines;
  pieces = λ later. rw pieces (rw function (pieces_are base later));
  names = λ later number. names number (name_in later number);
  inside = inside;
}

-- with one record more, where it says the same of what is left
took : (base : ℕ) (done : List RecordSaid) (said : RecordSaid) (old new : Reading) (h : HasTaken base done old)
    (functions lines : List Range) → HasKept new.functions functions → HasKept new.lines lines
    → ((later : List RecordSaid) → all_pieces old.pieces ++ pieces_after base h.functions (with_lines old.function h.lines) (said ∷ later)
    ≡ all_pieces new.pieces ++ pieces_after base functions (with_lines new.function lines) later)
    → ((later : List RecordSaid) (number : ℕ) → name_or new.names number (name_in later number)
    ≡ name_or old.names number (name_in (said ∷ later) number))
    → AreInside new.names → HasTaken base (done ++ said ∷ []) new
took base done said old new h functions lines kept_functions kept_lines pieces names inside = record {
  functions = functions;
  lines = lines;
  kept_functions = kept_functions;
  kept_lines = kept_lines;
  pieces = λ later. ap (pieces_of base) (append_assoc done (said ∷ []) later) ∙ (h.pieces (said ∷ later) ∙ pieces later);
  names = λ later number. names later number
      ∙ (h.names (said ∷ later) number ∙ ap (λ rs. name_in rs number) (sym (append_assoc done (said ∷ []) later)));
  inside = inside;
}

pub took_nothing : (base : ℕ) (done : List RecordSaid) (old : Reading) → HasTaken base done old
    → HasTaken base (done ++ nothing_said ∷ []) old
took_nothing base done old h =
    took base done nothing_said old old h h.functions h.lines h.kept_functions h.kept_lines (λ later. refl) (λ later number. refl)
    h.inside

pub took_outside : (base : ℕ) (done : List RecordSaid) (line : LineRecord) (old : Reading) → old.function ≡ None
    → HasTaken base done old → HasTaken base (done ++ line_said line ∷ []) old
took_outside base done line old none h =
    took base done (line_said line) old old h h.functions h.lines h.kept_functions h.kept_lines (λ later. rw none refl)
    (λ later number. refl) h.inside

pub took_public : (base : ℕ) (done : List RecordSaid) (old new : Reading) → new.functions ≡ old.functions → new.lines ≡ old.lines
    → new.function ≡ None → new.pieces ≡ old.pieces → new.names ≡ old.names → HasTaken base done old
    → HasTaken base (done ++ public_said ∷ []) new
took_public base done old new functions lines function pieces names h =
    took base done public_said old new h h.functions h.lines (subst (λ f. HasKept f h.functions) (sym functions) h.kept_functions)
    (subst (λ l. HasKept l h.lines) (sym lines) h.kept_lines) (λ later. rw function (rw pieces refl)) (λ later number. rw names refl)
    (subst AreInside (sym names) h.inside)

pub took_file : (base : ℕ) (done : List RecordSaid) (n : ℕ) (name : List ℕ) (old new : Reading) → new.functions ≡ old.functions
    → new.lines ≡ old.lines → new.function ≡ old.function → new.pieces ≡ old.pieces
    → AreInside new.names
    → ((other : ℕ) (rest : List ℕ) → name_or new.names other rest ≡ name_or old.names other (if n == other then name else rest))
    → HasTaken base done old → HasTaken base (done ++ file_said n name ∷ []) new
took_file base done n name old new functions lines function pieces inside names h =
    took base done (file_said n name) old new h h.functions h.lines (subst (λ f. HasKept f h.functions) (sym functions) h.kept_functions)
    (subst (λ l. HasKept l h.lines) (sym lines) h.kept_lines) (λ later. rw function (rw pieces refl))
    (λ later number. names number (name_in later number)) inside

pub took_function : (base : ℕ) (done : List RecordSaid) (range : Range) (old new : Reading) (h : HasTaken base done old)
    → HasKept new.functions (more_kept h.functions range) → HasKept new.lines []
    → new.function ≡ (if is_kept (λ y. y) h.functions range then Some range else None) → new.pieces ≡ old.pieces
    → new.names ≡ old.names → HasTaken base (done ++ function_said range ∷ []) new
took_function base done range old new h functions lines function pieces names =
    took base done (function_said range) old new h (more_kept h.functions range) [] functions lines
    (by_test (is_kept (λ y. y) h.functions range) refl) (λ later number. rw names refl) (subst AreInside (sym names) h.inside)
  where
    by_test : (t : Bool) → is_kept (λ y. y) h.functions range ≡ t → (later : List RecordSaid)
        → all_pieces old.pieces ++ pieces_after base h.functions (with_lines old.function h.lines) (function_said range ∷ later)
        ≡ all_pieces new.pieces ++ pieces_after base (more_kept h.functions range) (with_lines new.function []) later
    by_test true e later = rw function (rw e (rw pieces refl))
    by_test false e later = rw function (rw e (rw pieces refl))

pub took_line : (base : ℕ) (done : List RecordSaid) (line : LineRecord) (f : Range) (old new : Reading) (h : HasTaken base done old)
    → old.function ≡ Some f → new.functions ≡ old.functions → HasKept new.lines (more_kept h.lines line.range)
    → new.function ≡ old.function
    → all_pieces new.pieces ≡ (if is_kept (λ y. y) h.lines line.range then all_pieces old.pieces ++ cut_line base f line
    else all_pieces old.pieces)
    → new.names ≡ old.names → HasTaken base (done ++ line_said line ∷ []) new
took_line base done line f old new h here functions lines function pieces names =
    took base done (line_said line) old new h h.functions (more_kept h.lines line.range)
    (subst (λ f. HasKept f h.functions) (sym functions) h.kept_functions) lines
    (by_test (is_kept (λ y. y) h.lines line.range) refl) (λ later number. rw names refl) (subst AreInside (sym names) h.inside)
  where
    by_test : (t : Bool) → is_kept (λ y. y) h.lines line.range ≡ t → (later : List RecordSaid)
        → all_pieces old.pieces ++ pieces_after base h.functions (with_lines old.function h.lines) (line_said line ∷ later)
        ≡ all_pieces new.pieces ++ pieces_after base h.functions (with_lines new.function (more_kept h.lines line.range)) later
    by_test true e later = rw function (rw here (rw pieces (rw e (sym (append_assoc (all_pieces old.pieces) (cut_line base f line)
        (pieces_after base h.functions (Some (f, h.lines ++ line.range ∷ [])) later))))))
    by_test false e later = rw function (rw here (rw pieces (rw e refl)))

pub taken_pieces : (base : ℕ) (done : List RecordSaid) (reading : Reading) → HasTaken base done reading
    → all_pieces reading.pieces ≡ pieces_of base done
taken_pieces base done reading h =
    sym (append-nil (all_pieces reading.pieces)) ∙ (sym (h.pieces []) ∙ ap (pieces_of base) (append-nil done))

pub taken_names : (base : ℕ) (done : List RecordSaid) (reading : Reading) → HasTaken base done reading
    → (number : ℕ) → name_or reading.names number [] ≡ name_in done number
taken_names base done reading h number = h.names [] number ∙ ap (λ rs. name_in rs number) (append-nil done)

-- ---- a file, as far as it's read

joined_none : (r : Result (List RecordSaid) SymbolFault) → r ≡ joined [] r
joined_none (Err fault) = refl
joined_none (Ok records) = refl

pub read_none : (whole : List ℕ) (reader : Reader) → reader.number ≡ 0 → HasTaken reader.base [] reader.reading
    → HasRead whole reader (lines_of whole)
read_none whole reader none taken = record { done = []; read = rw none (joined_none (records_of whole)); taken = taken }

after_first : (number : ℕ) (inside : Bool) (lines : List (List ℕ)) → 0 < number
    → records_after number inside lines ≡ records_from (number + 1) inside lines
after_first number inside lines some = let other : (number == 0) ≡ false = grind (arith, nat_tests) in rw other refl

module _ (whole line : List ℕ) (lines : List (List ℕ)) (old : Reader) (h : HasRead whole old (line ∷ lines)) where
  read_there : 0 < old.number → records_of whole ≡ joined h.done (records_from (old.number + 1) old.inside (line ∷ lines))
  read_there some = h.read ∙ ap (joined h.done) (after_first old.number old.inside (line ∷ lines) some)

  -- one line more, which says this
  pub read_said : (said : RecordSaid) (new : Reader) → 0 < old.number → record_of line ≡ Ok said → may_follow old.inside said ≡ true
      → new.number ≡ old.number + 1 → new.inside ≡ is_inside old.inside said → new.base ≡ old.base
      → ((done : List RecordSaid) → HasTaken old.base done old.reading → HasTaken old.base (done ++ said ∷ []) new.reading)
      → HasRead whole new lines
  read_said said new some says follows number inside base takes = record {
    done = h.done ++ said ∷ [];
    read = read_there some ∙ records_step h.done (old.number + 1) old.inside line lines said says follows
        ∙ ap (joined (h.done ++ said ∷ [])) (sym (rw number (rw inside
        (after_first (old.number + 1) (is_inside old.inside said) lines (omega (arith))))));
    taken = rw base (takes h.done h.taken);
  }

-- all lines were read
pub read_to_end : (whole : List ℕ) (reader : Reader) (lines : List (List ℕ)) (is_last : Bool) → (is_last ≡ false → ⊥)
    → HasRead whole reader [] → MatchBool is_last (HasRead whole reader []) (HasRead whole reader lines)
read_to_end whole reader lines true last h = h
read_to_end whole reader lines false last h = absurd (last refl)

-- some are left
pub read_in_part : (whole : List ℕ) (reader : Reader) (lines : List (List ℕ)) (is_last : Bool) → is_last ≡ false
    → HasRead whole reader lines → MatchBool is_last (HasRead whole reader []) (HasRead whole reader lines)
read_in_part whole reader lines true part h = cc part
read_in_part whole reader lines false part h = h

-- no line is left
pub read_whole : (whole : List ℕ) (reader : Reader) → 0 < reader.number → HasRead whole reader []
    → AreTaken reader.base whole reader.reading
read_whole whole reader some h =
    (h.done, h.read ∙ ap (joined h.done) (after_first reader.number reader.inside [] some) ∙ ap Ok (append-nil h.done), h.taken)

-- ---- what is printed

abbrev answers_from : ℕ → Result (List RecordSaid) SymbolFault → Result Answers SymbolFault
answers_from base (Err fault) = Err fault
answers_from base (Ok records) = Ok (loaded_at base (answer_at records))

answers_are : (base : ℕ) (r : Result (List RecordSaid) SymbolFault)
    → answers_from base r ≡ elim r [ Err fault ↦ Err fault | Ok records ↦ Ok (loaded_at base (answer_at records)) ]
answers_are base (Err fault) = refl
answers_are base (Ok records) = refl

-- what a file answers, where these are its records
pub answers_of_records : (base : ℕ) (bytes : List ℕ) (records : List RecordSaid) → records_of bytes ≡ Ok records
    → Ok (loaded_at base (answer_at records)) ≡ breakpad_answers base bytes
answers_of_records base bytes records is = ap (answers_from base) (sym is) ∙ answers_are base (records_of bytes)

pub answers_are_printed : {E : Type 0} (base : ℕ) (bytes : List ℕ) (records : List RecordSaid) (old new : Option (List ℕ))
    (result : Result Status E)
    → records_of bytes ≡ Ok records → IfOk result (λ status. status ≡ Done)
    → IfOk result (λ _. HasTable (answers_in_table (loaded_at base (answer_at records))) old new)
    → IfOk result (λ status. HasPrinted (breakpad_answers base bytes) old new status)
answers_are_printed base bytes records old new (Err stop) is done table = tt
answers_are_printed base bytes records old new (Ok status) is done table =
    subst (λ s. HasPrinted (breakpad_answers base bytes) old new s) (sym done)
    (subst (λ answers. HasPrinted answers old new Done) (answers_of_records base bytes records is) table)
