-- Tables of any format on plain lines: `csv` reads them back, spans have one of them, and they are written block by block.
use Rattle.std.proofs.Common.{◌≡◌, ◌∙◌, ℕ, ◌+◌, ◌<◌, ◌≤◌, List, [], ◌∷◌, ◌++◌, Option, Some, length, refl, sym, ap, subst, append-nil}
use Rattle.std.proofs.Common.{append_assoc, arith, if◌then◌else◌, length-append, ◌-◌, drop, length-drop, take, take_all}
use Rattle.std.proofs.KnownBytes.{Appends-nil, Appends-trans}
use Rattle.std.specs.Io.KnownBytes.{Appends}
use Rattle.std.specs.List.{AllByRecursion, AllZip}
use Rattle.csv.specs.Machine.{Read, next_record}
use Rattle.csv.specs.Reading.{Reached, default_config, strip_bom}
use Rattle.csv.specs.Writing.{default_writer, is_blank, row_body, row_text}
use Rattle.csv.specs.declared.parser.State.{State}
use Rattle.csv.specs.declared.parser.State.TheVariants as st
use Rattle.csv.proofs.RoundTrip.{read-write}
use Rattle.lnt_io.specs.Prefixes.{AppendsPrefix}
use Rattle.lnt_io.proofs.PrefixLaws.{prefix_after, prefix_before, prefix_none, prefix_same}
use Rattle.lnt_records.specs.Progress.{AreLinesIn, IsCutAfter, AddsLine, AddsLines, HasBegunLines, HasWrittenLines}
use Rattle.lnt_records.specs.Table.{BeginsWith, Fields, IsTableOfIn, TableFormat}
use Rattle.lnt_records.specs.Written.{BeginsTableIn, IsPlainTableIn, LineFormat, following, line_text, lines_of}
use Rattle.lnt_records.proofs.QuotingLaws.{none_left, same_back}
use Rattle.lnt_records.proofs.TableLaws.{zip_push}
use Rattle.lnt_spans.specs.declared.answer.Version.{Version}
use Rattle.lnt_spans.specs.declared.span.Span.{Span}
use Rattle.lnt_records.specs.Lines.{IsPlainLine, IsTextLine}
use Rattle.lnt_records.proofs.SaidLemmas.{record_plain}

-- ---- a line is read back

-- A record's line is the one that `csv` writes of it, and it reads this record from it.
pub record IsReadBack (line : Fields → List ℕ) (fields : Fields) : Type 0 where
  pub some : 2 ≤ length fields
  pub line_is : line fields ≡ row_text default_writer fields

pub line_read : (line : Fields → List ℕ) (fields : Fields) (rest : List ℕ) → IsReadBack line fields
    → next_record default_config st.StartRecord [] [] (line fields ++ rest) ≡ Some (fields, st.StartRecord, rest)
line_read line fields rest back =
    ap (λ (t : List ℕ). next_record default_config st.StartRecord [] [] (t ++ rest)) back.line_is
    ∙ read-write fields rest
    ∙ ap (λ (r : Fields). Some (r, st.StartRecord, rest)) (sym (same_back fields back.some))

-- what follows the fields of a record in its line
abbrev pub row_end : Fields → List ℕ
row_end fields = (if is_blank default_writer fields then 34 ∷ 34 ∷ [] else []) ++ 10 ∷ []

pub row_some : (fields : Fields) → 0 < length (row_text default_writer fields)
row_some fields =
    omega (
      arith,
      length-append (row_body default_writer fields) (row_end fields),
      length-append {A = ℕ} (if is_blank default_writer fields then 34 ∷ 34 ∷ [] else []) (10 ∷ []),
    )

lines_reached : (line : Fields → List ℕ) (records : List Fields) (rest : List ℕ) (more : List Fields) (after : State) (left : List ℕ)
    → AllByRecursion (IsReadBack line) records → Reached default_config st.StartRecord rest more after left
    → Reached default_config st.StartRecord (lines_of line records ++ rest) (records ++ more) after left
unfolding Reached
lines_reached line [] rest more after left back r = r
lines_reached line (f ∷ records) rest more after left back r =
    let past : List ℕ = lines_of line records ++ rest in
    let read : next_record default_config st.StartRecord [] [] ((line f ++ lines_of line records) ++ rest)
    ≡ Some (f, st.StartRecord, past) =
    ap (λ (t : List ℕ). next_record default_config st.StartRecord [] [] t) (append_assoc (line f) (lines_of line records) rest)
    ∙ line_read line f past back.0 in
    ((f, st.StartRecord, past), read, refl, lines_reached line records rest more after left back.1 r)

none_reached : Reached default_config st.StartRecord [] [] st.StartRecord []
unfolding Reached
none_reached = (refl, refl)

lines_read : (line : Fields → List ℕ) (records : List Fields) → AllByRecursion (IsReadBack line) records
    → Reached default_config st.StartRecord (lines_of line records) records st.StartRecord []
lines_read line records back =
    subst (λ (t : List ℕ). Reached default_config st.StartRecord t records st.StartRecord []) (append-nil (lines_of line records))
    (subst (λ (r : List Fields). Reached default_config st.StartRecord (lines_of line records ++ []) r st.StartRecord [])
    (append-nil records)
    (lines_reached line records [] [] st.StartRecord [] back none_reached))

-- ---- what holds of each format

abbrev pub HasOneRecord : {X : Type 0} → (Fields → X → Type 0) → Type 0
HasOneRecord {X} Says = (xs ys : Fields) (x : X) → Says xs x → Says ys x → xs ≡ ys

-- The lines are those of the table's format: a span has one plain record, which is a record of the span, and `csv` reads the lines of
-- the header and of any record back.
pub record LineLaws {V X : Type 0} (format : TableFormat V X) (plain : LineFormat V X) : Type 0 where
  pub names : (version : V) → plain.names version ≡ format.names version
  pub one_record : (version : V) → HasOneRecord (plain.Says version)
  pub says : (version : V) (fields : Fields) (span : X) → plain.Says version fields span → format.Says version fields span
  pub back : (version : V) (fields : Fields) (span : X) → format.Says version fields span → IsReadBack plain.line fields
  pub names_back : (version : V) → IsReadBack plain.line (plain.names version)
  pub without_bom : (version : V) (rest : List ℕ)
      → strip_bom (plain.line (plain.names version) ++ rest) ≡ plain.line (plain.names version) ++ rest

-- ---- the header

with_header : {V X : Type 0} (format : TableFormat V X) (plain : LineFormat V X) → LineLaws format plain → (version : V) (rest : List ℕ)
    (more : List Fields) (after : State) (left : List ℕ) → Reached default_config st.StartRecord rest more after left
    → Reached default_config st.StartRecord (strip_bom (plain.line (plain.names version) ++ rest)) (plain.names version ∷ more) after left
unfolding Reached
with_header format plain laws version rest more after left r =
    let read = line_read plain.line (plain.names version) rest (laws.names_back version) in
    rw (laws.without_bom version rest) ((plain.names version, st.StartRecord, rest), read, refl, r)

here_reached : (rest : List ℕ) → Reached default_config st.StartRecord rest [] st.StartRecord rest
unfolding Reached
here_reached rest = (refl, refl)

pub header_reached : {V X : Type 0} (format : TableFormat V X) (plain : LineFormat V X) → LineLaws format plain → (version : V)
    (rest : List ℕ)
    → Reached default_config st.StartRecord (strip_bom (plain.line (plain.names version) ++ rest)) (plain.names version ∷ [])
    st.StartRecord rest
header_reached format plain laws version rest = with_header format plain laws version rest [] st.StartRecord rest (here_reached rest)

same_some : (p q : Read) → Some p ≡ Some q → p ≡ q
same_some p q e = cc

-- the records after the header
after_header : {V X : Type 0} (format : TableFormat V X) (plain : LineFormat V X) → LineLaws format plain → (version : V) (rest : List ℕ)
    (more : List Fields) (after : State) (left : List ℕ)
    → Reached default_config st.StartRecord (strip_bom (plain.line (plain.names version) ++ rest)) (plain.names version ∷ more) after left
    → Reached default_config st.StartRecord rest more after left
unfolding Reached
after_header format plain laws version rest more after left r =
    let without_bom = rw (laws.without_bom version rest) at r in
    let read = line_read plain.line (plain.names version) rest (laws.names_back version) in
    let same : (plain.names version, st.StartRecord, rest) ≡ without_bom.0 =
    same_some (plain.names version, st.StartRecord, rest) without_bom.0 (sym read ∙ without_bom.1) in
    subst (λ (p : Read). Reached default_config p.1 p.2 more after left) (sym same) without_bom.3

-- the lines of a table's records are read back
pub all_back : {V X : Type 0} (format : TableFormat V X) (plain : LineFormat V X) → LineLaws format plain → (version : V)
    (records : List Fields) (spans : List X) → AllZip (format.Says version) records spans → AllByRecursion (IsReadBack plain.line) records
all_back format plain laws version [] [] z = tt
all_back format plain laws version [] (s ∷ spans) z = absurd z
all_back format plain laws version (r ∷ records) [] z = absurd z
all_back format plain laws version (r ∷ records) (s ∷ spans) z =
    (laws.back version r s z.0, all_back format plain laws version records spans z.1)

pub cut_lines : {V X : Type 0} (format : TableFormat V X) (plain : LineFormat V X) → LineLaws format plain → (version : V)
    (records : List Fields) (rest : List ℕ) → AllByRecursion (IsReadBack plain.line) records
    → IsCutAfter (plain.names version) (plain.line (plain.names version) ++ rest)
    (plain.line (plain.names version) ++ (lines_of plain.line records ++ rest)) (plain.names version ∷ records)
cut_lines format plain laws version records rest back more after left r =
    with_header format plain laws version (lines_of plain.line records ++ rest) (records ++ more) after left
    (lines_reached plain.line records rest more after left back (after_header format plain laws version rest more after left r))

-- ---- a table

-- the header and some records, as lines
abbrev pub text_of : {V X : Type 0} → LineFormat V X → V → List Fields → List ℕ
text_of plain version records = lines_of plain.line (plain.names version ∷ records)

-- each record is one of the table's
records_said : {V X : Type 0} (format : TableFormat V X) (plain : LineFormat V X) → LineLaws format plain → (version : V)
    (records : List Fields) (spans : List X) → AllZip (plain.Says version) records spans
    → AllZip (format.Says version) records spans
records_said format plain laws version [] [] z = tt
records_said format plain laws version [] (s ∷ spans) z = absurd z
records_said format plain laws version (r ∷ records) [] z = absurd z
records_said format plain laws version (r ∷ records) (s ∷ spans) z =
    (laws.says version r s z.0, records_said format plain laws version records spans z.1)

-- A plain table of spans in order is a table of them.
pub written_table : {V X : Type 0} (format : TableFormat V X) (plain : LineFormat V X) → LineLaws format plain → (version : V)
    (bytes : List ℕ) (spans : List X) → IsPlainTableIn plain version bytes spans → format.InOrder spans
    → IsTableOfIn format version bytes spans
written_table format plain laws version bytes spans table order =
    let said = records_said format plain laws version table.records spans table.each in
    let all : List Fields = plain.names version ∷ table.records in
    let text : strip_bom bytes ≡ lines_of plain.line all =
    ap strip_bom table.lines ∙ laws.without_bom version (lines_of plain.line table.records) in
    let back = all_back format plain laws version table.records spans said in
    let read = lines_read plain.line all (laws.names_back version, back) in (
      all,
      (st.StartRecord, [], rw text read, none_left),
      (laws.names version, record { each = said; in_order = order }),
    )

-- ---- one table

-- The records of the first spans are a prefix of those of all, and the others are those of the rest.
prefix_records : {X : Type 0} (Says : Fields → X → Type 0) → HasOneRecord Says → (records all : List Fields) (first rest : List X)
    → AllZip Says records first → AllZip Says all (first ++ rest)
    → (more : List Fields) × (all ≡ records ++ more) × AllZip Says more rest
prefix_records Says one [] all [] rest a b = (all, refl, b)
prefix_records Says one [] all (x ∷ first) rest a b = absurd a
prefix_records Says one (r ∷ records) all [] rest a b = absurd a
prefix_records Says one (r ∷ records) [] (x ∷ first) rest a b = absurd b
prefix_records Says one (r ∷ records) (s ∷ all) (x ∷ first) rest a b =
    let same : s ≡ r = one s r x b.0 a.0 in
    let past = prefix_records Says one records all first rest a.1 b.1 in
    let others = past.1 in
    (past.0, cc, past.2)

one_records : {X : Type 0} (Says : Fields → X → Type 0) → HasOneRecord Says → (records others : List Fields) (list : List X)
    → AllZip Says records list → AllZip Says others list → records ≡ others
one_records Says one records others list a b =
    let all = prefix_records Says one records others list [] a (subst (AllZip Says others) (sym (append-nil list)) b) in
    none_more all.0 all.2 all.1
  where
    none_more : (more : List Fields) → AllZip Says more [] → others ≡ records ++ more → records ≡ others
    none_more [] none is = sym (is ∙ append-nil records)
    none_more (fields ∷ more) none is = absurd none

-- Spans have one plain table.
pub one_plain_table : {V X : Type 0} (plain : LineFormat V X) (version : V) → HasOneRecord (plain.Says version) → (one other : List ℕ)
    (spans : List X) → IsPlainTableIn plain version one spans → IsPlainTableIn plain version other spans → one ≡ other
one_plain_table plain version one_record one other spans a b = a.lines
    ∙ ap (λ (records : List Fields). lines_of plain.line (plain.names version ∷ records))
    (one_records (plain.Says version) one_record a.records b.records spans a.each b.each)
    ∙ sym b.lines

-- ---- lines that were passed

pub lines_append : (line : Fields → List ℕ) (xs ys : List Fields) → lines_of line (xs ++ ys) ≡ lines_of line xs ++ lines_of line ys
lines_append line [] ys = refl
lines_append line (x ∷ xs) ys =
    ap (λ (t : List ℕ). line x ++ t) (lines_append line xs ys) ∙ sym (append_assoc (line x) (lines_of line xs) (lines_of line ys))

pub no_lines_in : {V X : Type 0} (format : TableFormat V X) (plain : LineFormat V X) (version : V) → AreLinesIn format plain version [] [] 1
no_lines_in format plain version = record { records = []; text_is = refl; each = tt; count_is = refl }

pub lines_more : {V X : Type 0} (format : TableFormat V X) (plain : LineFormat V X) (version : V) (text : List ℕ)
    (spans : List X) (count : ℕ)
    (fields : Fields) (span : X) → AreLinesIn format plain version text spans count → format.Says version fields span
    → AreLinesIn format plain version (text ++ plain.line fields) (spans ++ span ∷ []) (count + 1)
lines_more format plain version text spans count fields span a says = record {
  records = a.records ++ fields ∷ [];
  text_is =
      ap (λ (t : List ℕ). t ++ plain.line fields) a.text_is
      ∙ ap (λ (t : List ℕ). lines_of plain.line a.records ++ t) (sym (append-nil (plain.line fields)))
      ∙ sym (lines_append plain.line a.records (fields ∷ []));
  each = zip_push (format.Says version) a.records spans fields span a.each says;
  count_is = omega (arith, a.count_is, length-append a.records (fields ∷ []));
}

-- ---- a loop that writes

zip_join : {A B : Type 0} (R : A → B → Type 0) (xs more : List A) (ys others : List B) → AllZip R xs ys → AllZip R more others
    → AllZip R (xs ++ more) (ys ++ others)
zip_join R [] more [] others z h = h
zip_join R [] more (y ∷ ys) others z h = absurd z
zip_join R (x ∷ xs) more [] others z h = absurd z
zip_join R (x ∷ xs) more (y ∷ ys) others z h = (z.0, zip_join R xs more ys others z.1 h)

-- The header and the lines of these spans: a prefix went to the writer, and the block has the others.
pub record Lines {V X : Type 0} (plain : LineFormat V X) (version : V) (old now : Option (List ℕ)) (block : List ℕ)
    (spans : List X) : Type 0 where
  pub sent : List ℕ
  pub handed : Appends old now sent
  pub records : List Fields
  pub lines : sent ++ block ≡ lines_of plain.line (plain.names version ∷ records)
  pub each : AllZip (plain.Says version) records spans

pub no_lines : {V X : Type 0} (plain : LineFormat V X) (version : V) (old : Option (List ℕ)) (block : List ℕ)
    → block ≡ plain.line (plain.names version) → Lines plain version old old block []
no_lines plain version old block e = record {
  sent = [];
  handed = Appends-nil old;
  records = [];
  lines = e ∙ sym (append-nil (plain.line (plain.names version)));
  each = tt;
}

pub one_line : {V X : Type 0} (plain : LineFormat V X) (version : V) (span : X) (old new : List ℕ) → AddsLine plain version span old new
    → AddsLines plain version (span ∷ []) old new
one_line plain version span old new r = record {
  records = r.fields ∷ [];
  joined = r.joined ∙ ap (λ (t : List ℕ). old ++ t) (sym (append-nil (plain.line r.fields)));
  each = (r.says, tt);
}

-- more lines were put into the block
pub lines_put : {V X : Type 0} (plain : LineFormat V X) (version : V) (old now : Option (List ℕ)) (block grown : List ℕ)
    (spans more : List X) → Lines plain version old now block spans → AddsLines plain version more block grown
    → Lines plain version old now grown (spans ++ more)
lines_put plain version old now block grown spans more l r = record {
  sent = l.sent;
  handed = l.handed;
  records = l.records ++ r.records;
  lines =
      ap (λ (t : List ℕ). l.sent ++ t) r.joined ∙ sym (append_assoc l.sent block (lines_of plain.line r.records))
      ∙ ap (λ (t : List ℕ). t ++ lines_of plain.line r.records) l.lines
      ∙ sym (lines_append plain.line (plain.names version ∷ l.records) r.records);
  each = zip_join (plain.Says version) l.records r.records spans more l.each r.each;
}

-- a prefix of the block went to the writer
pub lines_sent : {V X : Type 0} (plain : LineFormat V X) (version : V) (old now new : Option (List ℕ)) (block left sent : List ℕ)
    (spans : List X) → Lines plain version old now block spans → Appends now new sent → block ≡ sent ++ left
    → Lines plain version old new left spans
lines_sent plain version old now new block left sent spans l more e = record {
  sent = l.sent ++ sent;
  handed = Appends-trans old now new l.sent sent l.handed more;
  records = l.records;
  lines = append_assoc l.sent sent left ∙ ap (λ (t : List ℕ). l.sent ++ t) (sym e) ∙ l.lines;
  each = l.each;
}

-- all of the block went to the writer
pub lines_written : {V X : Type 0} (plain : LineFormat V X) (version : V) (old now new : Option (List ℕ)) (block : List ℕ) (spans : List X)
    → Lines plain version old now block spans → Appends now new block → HasWrittenLines plain version old new spans
lines_written plain version old now new block spans l more = record {
  records = l.records;
  written = subst (Appends old new) l.lines (Appends-trans old now new l.sent block l.handed more);
  each = l.each;
}

-- ---- a loop that is stopped

-- before anything was written
pub none_begun : {V X : Type 0} (plain : LineFormat V X) (version : V) (old : Option (List ℕ))
    → HasBegunLines {X = X} plain version old old []
none_begun plain version old =
    record { records = []; prefix = prefix_none old (lines_of plain.line (plain.names version ∷ [])); each = tt }

-- while the block was filled
pub so_far_begun : {V X : Type 0} (plain : LineFormat V X) (version : V) (old now : Option (List ℕ)) (block : List ℕ) (spans : List X)
    → Lines plain version old now block spans → HasBegunLines plain version old now spans
so_far_begun plain version old now block spans l = record {
  records = l.records;
  prefix = record { prefix = l.sent; rest = block; joined = l.lines; appended = l.handed };
  each = l.each;
}

-- while the block was sent
pub sending_begun : {V X : Type 0} (plain : LineFormat V X) (version : V) (old now new : Option (List ℕ)) (block : List ℕ) (spans : List X)
    → Lines plain version old now block spans → AppendsPrefix now new block → HasBegunLines plain version old new spans
sending_begun plain version old now new block spans l f = record {
  records = l.records;
  prefix = prefix_same old new (l.sent ++ block) _ l.lines (prefix_after old now new l.sent block l.handed f);
  each = l.each;
}

-- with a prefix of the lines of the first spans, with which every table of all begins
pub table_begun : {V X : Type 0} (plain : LineFormat V X) (version : V) → HasOneRecord (plain.Says version) → (old new : Option (List ℕ))
    (first rest spans : List X) → HasBegunLines plain version old new first → first ++ rest ≡ spans
    → BeginsTableIn plain version spans old new
table_begun plain version one_record old new first rest spans begun e = record {
  first = first;
  rest = rest;
  joined = e;
  records = begun.records;
  each = begun.each;
  prefix = begun.prefix;
  of_whole = λ bytes whole.
      let all = subst (AllZip (plain.Says version) whole.records) (sym e) whole.each in
      let more = prefix_records (plain.Says version) one_record begun.records whole.records first rest begun.each all in
      let text : List ℕ = text_of plain version begun.records in
      let same : text ++ lines_of plain.line more.0 ≡ bytes =
      sym (lines_append plain.line (plain.names version ∷ begun.records) more.0) ∙ ap (text_of plain version) (sym more.1)
      ∙ sym whole.lines in
      prefix_same old new _ bytes same (prefix_before old new text (lines_of plain.line more.0) begun.prefix);
}

-- ---- the rest of a table of any format, after its header

pub header_begins : {V X : Type 0} (format : TableFormat V X) (plain : LineFormat V X) → LineLaws format plain → (version : V)
    (rest : List ℕ) → BeginsWith (plain.line (plain.names version) ++ rest) (plain.names version ∷ [])
header_begins format plain laws version rest = (st.StartRecord, rest, header_reached format plain laws version rest)

-- ---- a line has bytes

some_end : (field fields : List ℕ) → 0 < length (field ++ fields ++ 10 ∷ [])
some_end field fields = omega (arith, length-append (field ++ fields) (10 ∷ []))

pub line_some : (fields : Fields) → 0 < length (line_text fields)
line_some [] = omega arith
line_some (field ∷ fields) = some_end field (following fields)

-- the bytes of the room from an index on
pub room_from : (room : List ℕ) (start : ℕ) → length room ≡ 256 → take (256 - start) (drop start room) ≡ drop start room
room_from room start long = take_all (256 - start) (drop start room) (omega (arith, length-drop start room, long))

-- ---- a line

-- a plain line is a line
pub line_said : (version : Version) (span : Span) (bytes rest : List ℕ) → IsPlainLine version span bytes rest
    → IsTextLine version span bytes rest
line_said version span bytes rest is = record { fields = is.fields; joined = is.joined; says = record_plain version is.fields span is.says }
