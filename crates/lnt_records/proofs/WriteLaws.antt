-- Tables by number on plain lines, and how they are written.
use Rattle.std.proofs.Common.{◌≡◌, ◌∙◌, ℕ, suc, ◌+◌, ◌<◌, ◌≤◌, Bool, true, false, List, [], ◌∷◌, ◌++◌, Option, None, length, get_or, take}
use Rattle.std.proofs.Common.{drop, take-append-drop, refl, sym, ap, subst, arith, Result, Ok, Err, OnOk, is_ok, if◌then◌else◌}
use Rattle.std.proofs.lemmas.List.{append-nil, take_more, take_all}
use Rattle.std.specs.Io.KnownBytes.{Appends}
use Rattle.std.specs.List.{AllByRecursion}
use Rattle.csv.specs.Reading.{strip_bom}
use Rattle.csv.specs.Writing.{default_writer, fields_text, is_blank, row_text}
use Rattle.lnt_io.specs.Prefixes.{AppendsPrefix}
use Rattle.lnt_text.specs.Digits.{IsAddress, IsDecimal}
use Rattle.lnt_spans.specs.declared.answer.Version.{Version}
use Rattle.lnt_spans.specs.declared.answer.Version.TheVariants.{One, Two}
use Rattle.lnt_spans.specs.declared.span.Span.{Span}
use Rattle.lnt_spans.specs.Spans.{AreInOrder}
use Rattle.lnt_records.specs.Table.{Fields, IsFlag, IsSpanRecord, Kind, by_number, column_count, column_names}
use Rattle.lnt_records.specs.Lines.{IsPlainLine}
use Rattle.lnt_records.specs.Written.{BeginsTable, IsPlainTable, IsWrittenTable, following, line_text, plain_by_number}
use Rattle.lnt_records.specs.Progress.{AddsLine, HasBegunLines, HasWrittenLines}
use Rattle.lnt_records.proofs.LineLaws.{IsReadBack, LineLaws, Lines, lines_put, lines_sent, lines_written, none_begun, one_line}
use Rattle.lnt_records.proofs.LineLaws.{sending_begun, so_far_begun}
use Rattle.lnt_records.proofs.LineLaws as any
use Rattle.lnt_records.proofs.SaidLemmas.{each_holds, record_plain}
use Rattle.lnt_records.proofs.OneWrittenLaws.{one_plain_record}
use Rattle.lnt_records.proofs.QuotingLaws.{IsQuiet, quiet_address, quiet_number, quiet_text}

-- ---- a line

-- the bytes added are a line
pub line_put : (version : Version) (span : Span) (old new line : List ℕ) → new ≡ old ++ line → IsPlainLine version span line []
    → AddsLine plain_by_number version span old new
line_put version span old new line e is = record {
  fields = is.fields;
  joined = e ∙ ap (λ (t : List ℕ). old ++ t) (is.joined ∙ append-nil (line_text is.fields));
  says = is.says;
}

-- ---- the fields of a span need no quotes

quiet_flag : (text : List ℕ) (on : Bool) → IsFlag text on → IsQuiet text
quiet_flag text true e = rw e refl
quiet_flag text false e = rw e refl

all_from_each : (P : List ℕ → Type 0) (fields : Fields) → ((i : ℕ) → i < length fields → P (get_or fields i []))
    → AllByRecursion P fields
all_from_each P [] h = tt
all_from_each P (x ∷ fields) h = (h 0 (omega arith), all_from_each P fields (λ i lt. h (suc i) (omega (arith, lt))))

quiet_record : (version : Version) (fields : Fields) (span : Span) → IsSpanRecord version fields span → AllByRecursion IsQuiet fields
quiet_record version fields span s =
    all_from_each IsQuiet fields
    (λ i lt.
    each_holds IsAddress IsDecimal (λ (k : Kind) (text : List ℕ). IsQuiet text) version fields span
    (record { of_address = quiet_address; of_number = quiet_number; of_flag = quiet_flag }) s i (rw s.count at lt))

-- ---- a line is what `csv` writes of its fields

quiet_following : (fields : Fields) → AllByRecursion IsQuiet fields → fields_text default_writer fields ≡ following fields
unfolding fields_text
quiet_following [] q = refl
quiet_following (field ∷ fields) q = rw (quiet_text field q.0, quiet_following fields q.1) refl

quiet_line : (fields : Fields) → 2 ≤ length fields → AllByRecursion IsQuiet fields → row_text default_writer fields ≡ line_text fields
unfolding is_blank
quiet_line [] h q = absurd (omega (arith, h))
quiet_line (a ∷ []) h q = absurd (omega (arith, h))
quiet_line (a ∷ b ∷ fields) h q =
    let rest = quiet_following (b ∷ fields) q.1 in
    let first = quiet_text a q.0 in
    rw (first, rest) refl

quiet_back : (fields : Fields) → 2 ≤ length fields → AllByRecursion IsQuiet fields → IsReadBack line_text fields
quiet_back fields some quiet = record { some = some; line_is = sym (quiet_line fields some quiet) }

count_some : (version : Version) → 2 ≤ column_count version
count_some One = omega arith
count_some Two = omega arith

quiet_names : (version : Version) → AllByRecursion IsQuiet (column_names version)
quiet_names One = (refl, (refl, (refl, (refl, (refl, (refl, (refl, (refl, (refl, tt)))))))))
quiet_names Two = (refl, (refl, (refl, (refl, (refl, (refl, (refl, (refl, (refl, (refl, (refl, tt)))))))))))

record_back : (version : Version) (fields : Fields) (span : Span) → IsSpanRecord version fields span → IsReadBack line_text fields
record_back version fields span s =
    quiet_back fields (subst (λ (n : ℕ). 2 ≤ n) (sym s.count) (count_some version)) (quiet_record version fields span s)

-- a header doesn't begin with a byte order mark
no_bom : (version : Version) (rest : List ℕ) → strip_bom (line_text (column_names version) ++ rest) ≡ line_text (column_names version)
    ++ rest
unfolding strip_bom
no_bom One rest = refl
no_bom Two rest = refl

pub plain_numbers : LineLaws by_number plain_by_number
plain_numbers = record {
  names = λ version. refl;
  one_record = one_plain_record;
  says = record_plain;
  back = record_back;
  names_back = λ version. quiet_back (column_names version) (count_some version) (quiet_names version);
  without_bom = no_bom;
}

-- ---- a loop that writes

abbrev pub no_span : Span
no_span = record {
  low = record { address = 0; op = 0 };
  high = record { address = 0; op = 0 };
  answer = record { unit = 0; file = 0; line = 0; column = 0; is_stmt = false; more = None };
}

pub line_more : (version : Version) (old now new : Option (List ℕ)) (block grown left sent : List ℕ) (spans : List Span) (i : ℕ) (d : Span)
    → i < length spans
    → Lines plain_by_number version old now block (take i spans) → AddsLine plain_by_number version (get_or spans i d) block grown
    → Appends now new sent → grown ≡ sent ++ left → Lines plain_by_number version old new left (take (i + 1) spans)
line_more version old now new block grown left sent spans i d lt l r more e =
    subst (λ (xs : List Span). Lines plain_by_number version old new left xs) (sym (take_more spans i d lt))
    (lines_sent plain_by_number version old now new grown left sent (take i spans ++ get_or spans i d ∷ [])
    (lines_put plain_by_number version old now block grown (take i spans) (get_or spans i d ∷ []) l
    (one_line plain_by_number version (get_or spans i d) block grown r)) more e)

pub plain_written : (version : Version) (bytes : List ℕ) (spans : List Span) → IsPlainTable version bytes spans → AreInOrder spans
    → IsWrittenTable version bytes spans
plain_written version bytes spans plain o =
    record { table = any.written_table by_number plain_by_number plain_numbers version bytes spans plain o; plain = plain }

pub lines_done : (version : Version) (old new : Option (List ℕ)) (spans : List Span) → AreInOrder spans
    → HasWrittenLines plain_by_number version old new spans → (bytes : List ℕ) × Appends old new bytes × IsWrittenTable version bytes spans
lines_done version old new spans o w =
    let bytes : List ℕ = any.text_of plain_by_number version w.records in
    (bytes, w.written, plain_written version bytes spans (record { records = w.records; lines = refl; each = w.each }) o)

pub all_lines : (version : Version) (old now new : Option (List ℕ)) (block : List ℕ) (spans : List Span) (i : ℕ) → length spans ≤ i
    → AreInOrder spans → Lines plain_by_number version old now block (take i spans) → Appends now new block
    → (bytes : List ℕ) × Appends old new bytes × IsWrittenTable version bytes spans
all_lines version old now new block spans i le o l more =
    lines_done version old new spans o (lines_written plain_by_number version old now new block spans
    (subst (λ (xs : List Span). Lines plain_by_number version old now block xs) (take_all i spans le) l) more)

-- ---- a loop that is stopped

pub begun : (version : Version) (old new : Option (List ℕ)) (first rest spans : List Span)
    → HasBegunLines plain_by_number version old new first → first ++ rest ≡ spans → BeginsTable version spans old new
begun version = any.table_begun plain_by_number version (one_plain_record version)

-- before anything was written
pub begun_none : (version : Version) (spans : List Span) (old : Option (List ℕ)) → BeginsTable version spans old old
begun_none version spans old = begun version old old [] spans spans (none_begun plain_by_number version old) refl

-- after the lines of the first i spans and of one more
pub begun_until : (version : Version) (old now : Option (List ℕ)) (block : List ℕ) (spans : List Span) (i : ℕ)
    → Lines plain_by_number version old now block (take i spans) → BeginsTable version spans old now
begun_until version old now block spans i l =
    begun version old now (take i spans) (drop i spans) spans (so_far_begun plain_by_number version old now block (take i spans) l)
    (take-append-drop i spans)

pub begun_more : (version : Version) (old now new : Option (List ℕ)) (block grown : List ℕ) (spans : List Span) (i : ℕ) (d : Span)
    → i < length spans
    → Lines plain_by_number version old now block (take i spans) → AddsLine plain_by_number version (get_or spans i d) block grown
    → AppendsPrefix now new grown → BeginsTable version spans old new
begun_more version old now new block grown spans i d lt l r f =
    let more : List Span = get_or spans i d ∷ [] in
    let lines = lines_put plain_by_number version old now block grown (take i spans) more l
    (one_line plain_by_number version (get_or spans i d) block grown r) in
    begun version old new (take i spans ++ more) (drop (i + 1) spans) spans
    (sending_begun plain_by_number version old now new grown (take i spans ++ more) lines f)
    (ap (λ (xs : List Span). xs ++ drop (i + 1) spans) (sym (take_more spans i d lt)) ∙ take-append-drop (i + 1) spans)

-- after the lines of all spans
pub begun_all : (version : Version) (old now new : Option (List ℕ)) (block : List ℕ) (spans : List Span) (i : ℕ) → length spans ≤ i
    → Lines plain_by_number version old now block (take i spans) → AppendsPrefix now new block → BeginsTable version spans old new
begun_all version old now new block spans i le l f =
    begun version old new spans [] spans (sending_begun plain_by_number version old now new block spans
    (subst (λ (xs : List Span). Lines plain_by_number version old now block xs) (take_all i spans le) l) f) (append-nil spans)

-- what a block has if bytes could be added
pub on_added : {T E : Type 0} (r : Result T E) (new more same : List ℕ) → new ≡ (if is_ok r then more else same) → OnOk r (new ≡ more)
on_added (Ok x) new more same e = e
on_added (Err y) new more same e = tt
