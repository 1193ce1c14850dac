-- What pieces answer.
use Rattle.std.proofs.Common.{◌≡◌, ◌∙◌, ℕ, suc, ◌+◌, ◌-◌, ◌^◌, ◌<◌, ◌≤◌, Bool, true, false, List, [], ◌∷◌, ◌++◌, Option, Some, None}
use Rattle.std.proofs.Common.{refl, sym, ap, arith, inl, inr}
use Rattle.std.proofs.Common.{All, AllPairs, cond, find, flat_map, IsPermutation, map, option_and_then, option_map, subst, ⊎_elim, get_or}
use Rattle.std.specs.Prelude.{nat_lt, ◌&&◌, if◌then◌else◌}
use Rattle.std.specs.List.{AllByRecursion}
use Rattle.std.specs.Option.{option_or}
use Rattle.std.specs.Ordering.{is_lt, nat_cmp}
use Rattle.std.proofs.lemmas.Bool.Decides.{nat_tests}
use Rattle.std.proofs.lemmas.List.Elements.{All-tail, All-weaker}
use Rattle.std.proofs.lemmas.List.Folds.{find-append}
use Rattle.std.proofs.lemmas.List.Sorted.{All-permutation, Contains-permutation}
use Rattle.std.specs.Io.KnownBytes.{Appends}
use Rattle.lnt_writing.specs.Canonical.{BeginsPathTable, IsCanonicalPathTable}
use Rattle.lnt_records.specs.declared.path_records.version.PathVersion.TheVariants.{Four}
use Rattle.lnt_records.specs.PathSpans.{PathAnswer, spans_by_path}
use Rattle.lnt_spans.proofs.EachTwoLaws.{each_two_from_pairs, each_two_permutation, EachTwo, find_none, find_only, found, none_found}
use Rattle.lnt_spans.proofs.EachTwoLaws.{pairs_from_each_two, pairs_head, pairs_tail}
use Rattle.lnt_spans.specs.declared.position.Position.{Position}
use Rattle.lnt_spans.specs.SpanKinds.{is_held}
use Rattle.lnt_spans.specs.Spans.{AreInOrder, IsOfInstructions, number_spans}
use Rattle.lnt_symbols.specs.declared.piece.Piece.{Piece}
use Rattle.lnt_symbols.specs.BreakpadLines.{LineRecord, Range, RecordSaid}
use Rattle.lnt_symbols.specs.BreakpadAnswers.{answer_at, FunctionSaid, functions_of, holds, kept, meet, name_in}
use Rattle.lnt_symbols.specs.Pieces.{AnswerSo, AreRising, HasTable, cut_high, cut_line, cut_low, cut_piece, is_in, piece_answer, piece_span}
use Rattle.lnt_symbols.specs.Pieces.{pieces_in, pieces_of, PiecesApart}
use Rattle.lnt_writing.proofs.PathWrittenLaws.{one_path_table}
use Rattle.lnt_symbols.specs.Laws.{OneTable}
use Rattle.lnt_symbols.specs.SymbolTables.{answers_in_table, loaded_at}
use Rattle.lnt_symbols.proofs.CutLemmas.{cut_in, filled, in_table, pieces_apart}
use Rattle.lnt_symbols.proofs.KeptLemmas.{Apart, kept_apart}

pub not_lower : (a b : Piece) → is_lt (nat_cmp b.low a.low) ≡ false → a.low ≤ b.low
not_lower a b e = grind (arith, nat_tests)

-- ---- what is found

abbrev line_answer : (ℕ → List ℕ) → LineRecord → PathAnswer
line_answer names line = record { path = names line.file; line = line.line; column = None }

abbrev pub found_piece : (ℕ → List ℕ) → ℕ → List Piece → Option PathAnswer
found_piece names a pieces = option_map (piece_answer names) (find (is_in a) pieces)

abbrev found_line : (ℕ → List ℕ) → ℕ → List LineRecord → Option PathAnswer
found_line names b lines = option_map (line_answer names) (find (λ l. holds b l.range) lines)

abbrev found_in : (ℕ → List ℕ) → ℕ → List FunctionSaid → Option PathAnswer
found_in names b functions =
    option_and_then (λ f. found_line names b (kept (λ l. l.range) f.lines)) (find (λ f. holds b f.range) functions)

map_cond : {A B : Type 0} (g : A → B) (t : Bool) (x : A) (o : Option A) → option_map g (cond t (Some x) o)
    ≡ cond t (Some (g x)) (option_map g o)
map_cond g true x o = refl
map_cond g false x o = refl

map_or : {A B : Type 0} (g : A → B) (o p : Option A) → option_map g (option_or o p) ≡ option_or (option_map g o) (option_map g p)
map_or g None p = refl
map_or g (Some x) p = refl

or_none : {A : Type 0} (o : Option A) → option_or o None ≡ o
or_none None = refl
or_none (Some x) = refl

same_both : {A : Type 0} (t : Bool) (x : A) → x ≡ cond t x x
same_both true x = refl
same_both false x = refl

-- ---- in a function

one_line : (base a : ℕ) (f : Range) (l : LineRecord) (rest : List Piece)
    → find (is_in a) (cut_line base f l ++ rest) ≡ cond (is_in a (cut_piece base f l)) (Some (cut_piece base f l)) (find (is_in a) rest)
one_line base a f l rest = by_test (nat_lt (cut_low f l.range) (cut_high base f l.range)) refl
  where
    by_test : (t : Bool) → nat_lt (cut_low f l.range) (cut_high base f l.range) ≡ t
        → find (is_in a) (cut_line base f l ++ rest) ≡ cond (is_in a (cut_piece base f l)) (Some (cut_piece base f l)) (find (is_in a) rest)
    by_test true e = rw e refl
    by_test false e = let out : is_in a (cut_piece base f l) ≡ false = grind (arith, nat_tests, e) in rw e (rw out refl)

join_line : {A : Type 0} (r h : Bool) (x : A) (v : Option A) → cond (r && h) (Some x) (cond r v None) ≡ cond r (cond h (Some x) v) None
join_line true true x v = refl
join_line true false x v = refl
join_line false true x v = refl
join_line false false x v = refl

lines_found : (names : ℕ → List ℕ) (base a : ℕ) (f : Range) (ls : List LineRecord)
    → found_piece names a (flat_map (cut_line base f) ls)
    ≡ cond (in_table base a && holds (a - base) f) (found_line names (a - base) ls) None
lines_found names base a f [] = same_both (in_table base a && holds (a - base) f) None
lines_found names base a f (l ∷ ls) =
    let rest : List Piece = flat_map (cut_line base f) ls in
    let r : Bool = in_table base a && holds (a - base) f in
    let h : Bool = holds (a - base) l.range in
    let x : PathAnswer = line_answer names l in
    let one : found_piece names a (cut_line base f l ++ rest) ≡ cond (is_in a (cut_piece base f l)) (Some x) (found_piece names a rest)
    = ap (option_map (piece_answer names)) (one_line base a f l rest)
    ∙ map_cond (piece_answer names) (is_in a (cut_piece base f l)) (cut_piece base f l) (find (is_in a) rest) in
    let two : cond (is_in a (cut_piece base f l)) (Some x) (found_piece names a rest)
    ≡ cond (r && h) (Some x) (cond r (found_line names (a - base) ls) None)
    = ap (λ t. cond t (Some x) (found_piece names a rest)) (cut_in base a f l.range)
    ∙ ap (λ o. cond (r && h) (Some x) o) (lines_found names base a f ls) in
    let three : cond r (cond h (Some x) (found_line names (a - base) ls)) None ≡ cond r (found_line names (a - base) (l ∷ ls)) None
    = ap (λ o. cond r o None) (sym (map_cond (line_answer names) h l (find (λ k. holds (a - base) k.range) ls))) in
    one ∙ (two ∙ (join_line r h x (found_line names (a - base) ls) ∙ three))

-- ---- in all functions

apart_holds : (b : ℕ) (r s : Range) → meet r s ≡ false → holds b r ≡ true → holds b s ≡ false
apart_holds b r s none e = grind (arith, nat_tests)

join_function : {A : Type 0} (t h : Bool) (v w : Option A) → (h ≡ true → w ≡ None)
    → option_or (cond (t && h) v None) (cond t w None) ≡ cond t (cond h v w) None
join_function true true v w none = rw (none refl) (or_none v)
join_function true false v w none = refl
join_function false true v w none = refl
join_function false false v w none = refl

then_cond : {A B : Type 0} (g : A → Option B) (t : Bool) (x : A) (o : Option A)
    → cond t (g x) (option_and_then g o) ≡ option_and_then g (cond t (Some x) o)
then_cond g true x o = refl
then_cond g false x o = refl

pub functions_found : (names : ℕ → List ℕ) (base a : ℕ) (fs : List FunctionSaid) → AllPairs (Apart (λ f. f.range)) fs
    → found_piece names a (flat_map (pieces_in base) fs) ≡ cond (in_table base a) (found_in names (a - base) fs) None
functions_found names base a [] h = same_both (in_table base a) None
functions_found names base a (f ∷ fs) h =
    let rest : List Piece = flat_map (pieces_in base) fs in
    let t : Bool = in_table base a in
    let v : Option PathAnswer = found_line names (a - base) (kept (λ l. l.range) f.lines) in
    let w : Option PathAnswer = found_in names (a - base) fs in
    let alone : holds (a - base) f.range ≡ true → w ≡ None
    = λ e. ap (option_and_then (λ g. found_line names (a - base) (kept (λ l. l.range) g.lines)))
    (find_none (λ g. holds (a - base) g.range) fs
    (All-weaker (Apart (λ g. g.range) f) (λ g. holds (a - base) g.range ≡ false)
    (λ g none. apart_holds (a - base) f.range g.range none e) fs (pairs_head (Apart (λ g. g.range)) f fs h))) in
    let one : found_piece names a (pieces_in base f ++ rest) ≡ option_or (found_piece names a (pieces_in base f)) (found_piece names a rest)
    = ap (option_map (piece_answer names)) (find-append (is_in a) (pieces_in base f) rest)
    ∙ map_or (piece_answer names) (find (is_in a) (pieces_in base f)) (find (is_in a) rest) in
    let two : option_or (found_piece names a (pieces_in base f)) (found_piece names a rest)
    ≡ option_or (cond (t && holds (a - base) f.range) v None) (cond t w None)
    = ap (λ o. option_or o (found_piece names a rest)) (lines_found names base a f.range (kept (λ l. l.range) f.lines))
    ∙ ap (option_or (cond (t && holds (a - base) f.range) v None))
    (functions_found names base a fs (pairs_tail (Apart (λ g. g.range)) f fs h)) in
    let three : cond t (cond (holds (a - base) f.range) v w) None ≡ cond t (found_in names (a - base) (f ∷ fs)) None
    = ap (λ o. cond t o None) (then_cond (λ g. found_line names (a - base) (kept (λ l. l.range) g.lines)) (holds (a - base) f.range) f
    (find (λ g. holds (a - base) g.range) fs)) in
    one ∙ (two ∙ (join_function t (holds (a - base) f.range) v w alone ∙ three))

-- ---- in another order

apart_back : (p q : Piece) → PiecesApart p q → PiecesApart q p
apart_back p q (inl le) = inr le
apart_back p q (inr le) = inl le

pub found_sorted : (a : ℕ) (ps qs : List Piece) → AllPairs PiecesApart ps → IsPermutation ps qs → find (is_in a) qs ≡ find (is_in a) ps
found_sorted a ps qs h perm = by_answer (find (is_in a) ps) refl
  where
    never : (p q : Piece) → PiecesApart p q → is_in a p ≡ true → is_in a q ≡ true → ⊥
    never p q apart e f = grind (arith, nat_tests)

    each : EachTwo PiecesApart qs
    each = each_two_permutation PiecesApart ps qs perm (each_two_from_pairs PiecesApart apart_back ps h)

    by_answer : (o : Option Piece) → find (is_in a) ps ≡ o → find (is_in a) qs ≡ find (is_in a) ps
    by_answer None e =
        find_none (is_in a) qs (All-permutation (λ p. is_in a p ≡ false) ps qs perm (none_found (is_in a) ps e)) ∙ sym e
    by_answer (Some p) e =
        let at = found (is_in a) ps p e in
        find_only (is_in a) qs p (λ i j d ne li lj. never (get_or qs i d) (get_or qs j d) (each i j d ne li lj))
        (Contains-permutation ps qs p perm at.0) at.1 ∙ sym e

-- ---- the spans of pieces

held_is : (p : Position) (piece : Piece) → is_held number_spans p (piece_span piece) ≡ is_in p.address piece
held_is p piece = grind (arith, nat_tests)

one_span : (path : ℕ → ℕ → List ℕ) (p : Position) (q : Piece) (qs : List Piece)
    → spans_by_path Four path (map piece_span qs) p ≡ found_piece (path 0) p.address qs
    → spans_by_path Four path (map piece_span (q ∷ qs)) p ≡ found_piece (path 0) p.address (q ∷ qs)
one_span path p q qs rest = by_test (is_in p.address q) refl
  where
    by_test : (t : Bool) → is_in p.address q ≡ t
        → spans_by_path Four path (map piece_span (q ∷ qs)) p ≡ found_piece (path 0) p.address (q ∷ qs)
    by_test true e = rw (held_is p q ∙ e) (rw e refl)
    by_test false e = rw (held_is p q ∙ e) (rw e rest)

spans_found : (path : ℕ → ℕ → List ℕ) (p : Position) (qs : List Piece)
    → spans_by_path Four path (map piece_span qs) p ≡ found_piece (path 0) p.address qs
spans_found path p [] = refl
spans_found path p (q ∷ qs) = one_span path p q qs (spans_found path p qs)

rising_tail : (x : Piece) (qs : List Piece) → AreRising (x ∷ qs) → AreRising qs
rising_tail x qs rising k d l =
    let next : suc k + 1 ≡ suc (k + 1) = omega arith in
    subst (λ (n : ℕ). (get_or qs k d).low ≤ (get_or (x ∷ qs) n d).low) next (rising (suc k) d (omega (arith, l)))

pub spans_in_order : (qs : List Piece) → AreRising qs → AllPairs PiecesApart qs → All (λ p. p.low < p.high) qs
    → AreInOrder (map piece_span qs)
spans_in_order [] rising apart some = tt
spans_in_order (x ∷ []) rising apart some =
    let lt : x.low < x.high = some 0 x (omega arith) in record { address = omega (arith, lt); op = λ e. absurd (omega (arith, lt, e)) }
spans_in_order (x ∷ y ∷ qs) rising apart some =
    let lt : x.low < x.high = some 0 x (omega arith) in
    let more : y.low < y.high = some 1 x (omega arith) in
    let up : x.low ≤ y.low = rising 0 x (omega arith) in
    let past : x.high ≤ y.low = ⊎_elim (λ (le : x.high ≤ y.low). le) (λ (le : y.high ≤ x.low). absurd (omega (arith, le, up, more)))
    (apart 0 1 x (omega arith) (omega arith)) in (
      record { address = omega (arith, lt); op = λ e. absurd (omega (arith, lt, e)) },
      record { address = past; op = λ e. omega arith },
      spans_in_order (y ∷ qs) (rising_tail x (y ∷ qs) rising) (pairs_tail PiecesApart x (y ∷ qs) apart)
          (All-tail (λ p. p.low < p.high) x (y ∷ qs) some),
    )

pub of_instructions : (qs : List Piece) → AllByRecursion IsOfInstructions (map piece_span qs)
of_instructions [] = tt
of_instructions (q ∷ qs) = ((refl, refl), of_instructions qs)

-- ---- what the spans answer

names_same : (names other : ℕ → List ℕ) → ((n : ℕ) → names n ≡ other n) → (a : ℕ) (ps : List Piece)
    → found_piece names a ps ≡ found_piece other a ps
names_same names other same a ps = by_answer (find (is_in a) ps)
  where
    by_answer : (o : Option Piece) → option_map (piece_answer names) o ≡ option_map (piece_answer other) o
    by_answer None = refl
    by_answer (Some p) = ap (λ path. Some (record { path = path; line = p.line; column = None })) (same p.file)

table_same : (base a : ℕ) (records : List RecordSaid)
    → cond (in_table base a) (answer_at records (a - base)) None
    ≡ (if nat_lt a (2 ^ 64 - 1) then loaded_at base (answer_at records) a else None)
table_same base a records = by_tests (nat_lt a base) refl (nat_lt a (2 ^ 64 - 1)) refl
  where
    by_tests : (s : Bool) → nat_lt a base ≡ s → (t : Bool) → nat_lt a (2 ^ 64 - 1) ≡ t
        → cond (in_table base a) (answer_at records (a - base)) None
        ≡ (if nat_lt a (2 ^ 64 - 1) then loaded_at base (answer_at records) a else None)
    by_tests true e true f = rw e (rw f refl)
    by_tests true e false f = rw e (rw f refl)
    by_tests false e true f = rw e (rw f refl)
    by_tests false e false f = rw e (rw f refl)

-- the pieces of a file answer as it does
pub pieces_answer : (names : ℕ → List ℕ) (base : ℕ) (records : List RecordSaid) → ((n : ℕ) → names n ≡ name_in records n)
    → AnswerSo names (pieces_of base records) (answers_in_table (loaded_at base (answer_at records)))
pieces_answer names base records same =
    let functions : List FunctionSaid = kept (λ f. f.range) (functions_of records) in
    let apart = kept_apart (λ (f : FunctionSaid). f.range) (functions_of records) in
    record {
      apart = pieces_apart base functions apart;
      filled = filled base functions;
      same = λ p. names_same names (name_in records) same p.address (pieces_of base records)
          ∙ (functions_found (name_in records) base p.address functions apart ∙ table_same base p.address records);
    }

-- the same of a list of pieces that is theirs
pub answers_of : (names : ℕ → List ℕ) (base : ℕ) (records : List RecordSaid) (pieces : List Piece) → ((n : ℕ) → names n ≡ name_in records n)
    → pieces ≡ pieces_of base records → AnswerSo names pieces (answers_in_table (loaded_at base (answer_at records)))
answers_of names base records pieces same are =
    subst (λ (ps : List Piece). AnswerSo names ps (answers_in_table (loaded_at base (answer_at records)))) (sym are)
    (pieces_answer names base records same)

-- ---- the table

pub whole_of_same : (f g : Position → Option PathAnswer) (bytes : List ℕ) → ((p : Position) → f p ≡ g p) → IsCanonicalPathTable Four f bytes
    → IsCanonicalPathTable Four g bytes
whole_of_same f g bytes e h = record {
  spans = h.spans;
  canonical = record { canonical = h.canonical.canonical; same = λ p. h.canonical.same p ∙ e p };
  table = h.table;
  plain = h.plain;
}

so_answered : (path : ℕ → ℕ → List ℕ) (ps qs : List Piece) (answers : Position → Option PathAnswer) → AnswerSo (path 0) ps answers
    → IsPermutation ps qs → (p : Position) → spans_by_path Four path (map piece_span qs) p ≡ answers p
so_answered path ps qs answers h perm p =
    spans_found path p qs ∙ (ap (option_map (piece_answer (path 0))) (found_sorted p.address ps qs h.apart perm) ∙ h.same p)

sorted_apart : (ps qs : List Piece) → AllPairs PiecesApart ps → IsPermutation ps qs → AllPairs PiecesApart qs
sorted_apart ps qs h perm =
    pairs_from_each_two PiecesApart qs (each_two_permutation PiecesApart ps qs perm (each_two_from_pairs PiecesApart apart_back ps h))

pub spans_sorted : (path : ℕ → ℕ → List ℕ) (ps qs : List Piece) (answers : Position → Option PathAnswer) → AnswerSo (path 0) ps answers
    → IsPermutation ps qs → AreRising qs → AreInOrder (map piece_span qs)
spans_sorted path ps qs answers h perm rising =
    spans_in_order qs rising (sorted_apart ps qs h.apart perm) (All-permutation (λ p. p.low < p.high) ps qs perm h.filled)

pub table_told : (path : ℕ → ℕ → List ℕ) (ps qs : List Piece) (answers : Position → Option PathAnswer) (old new : Option (List ℕ))
    → AnswerSo (path 0) ps answers → IsPermutation ps qs
    → (bytes : List ℕ) × Appends old new bytes × IsCanonicalPathTable Four (spans_by_path Four path (map piece_span qs)) bytes
    → HasTable answers old new
table_told path ps qs answers old new h perm made = (
  made.0,
  made.1,
  whole_of_same (spans_by_path Four path (map piece_span qs)) answers made.0
      (so_answered path ps qs answers h perm) made.2,
)

-- a prefix of the table of the same answers
pub begun_of_same : (f g : Position → Option PathAnswer) (old new : Option (List ℕ)) → ((p : Position) → f p ≡ g p)
    → BeginsPathTable Four f old new → BeginsPathTable Four g old new
begun_of_same f g old new same begun = record {
  spans = begun.spans;
  canonical = record { canonical = begun.canonical.canonical; same = λ p. begun.canonical.same p ∙ same p };
  begun = begun.begun;
  of_whole = λ bytes whole. begun.of_whole bytes (whole_of_same g f bytes (λ p. sym (same p)) whole);
  decided = begun.decided;
}

pub table_begun : (path : ℕ → ℕ → List ℕ) (ps qs : List Piece) (answers : Position → Option PathAnswer) (old new : Option (List ℕ))
    → AnswerSo (path 0) ps answers → IsPermutation ps qs
    → BeginsPathTable Four (spans_by_path Four path (map piece_span qs)) old new → BeginsPathTable Four answers old new
table_begun path ps qs answers old new h perm begun =
    begun_of_same (spans_by_path Four path (map piece_span qs)) answers old new (so_answered path ps qs answers h perm) begun

-- ---- one table

in_table_same : (f g : ℕ → Option PathAnswer) → ((a : ℕ) → a < 2 ^ 64 - 1 → f a ≡ g a) → (p : Position)
    → answers_in_table f p ≡ answers_in_table g p
in_table_same f g same p = by_test (nat_lt p.address (2 ^ 64 - 1)) refl
  where
    by_test : (t : Bool) → nat_lt p.address (2 ^ 64 - 1) ≡ t → answers_in_table f p ≡ answers_in_table g p
    by_test true e = let below : p.address < 2 ^ 64 - 1 = grind (arith, nat_tests, e) in rw e (same p.address below)
    by_test false e = rw e refl

pub one_table : OneTable
one_table f g x y same one other =
    one_path_table Four (answers_in_table g) x y
    (whole_of_same (answers_in_table f) (answers_in_table g) x (in_table_same f g same) one) other
