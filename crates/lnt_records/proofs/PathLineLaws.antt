-- Lines of a table by path are read as its records by `csv`.
use Rattle.std.proofs.Common.{◌≡◌, ◌∙◌, ℕ, zero, suc, ◌<◌, [], Option, Some, None, subst, sym, arith, get_or, ◌≢◌, ◌+◌, ◌-◌, ◌≤◌, Bool}
use Rattle.std.proofs.Common.{true, false, List, ◌∷◌, ◌++◌, drop, length, take, refl, ap, append_assoc, length-append, length-drop}
use Rattle.std.proofs.lemmas.List.{ext_get_or, append-nil, take-append-le, take_all}
use Rattle.std.proofs.Math.Seq.{drop-append_seam}
use Rattle.std.specs.Bool.{MatchBool}
use Rattle.std.specs.List.{All, AllByRecursion}
use Rattle.std.proofs.lemmas.List.Elements.{recursion_from_All}
use Rattle.lnt_text.specs.Digits.{IsDecimal, IsPlainAddress, IsPlainDecimal, Begins}
use Rattle.lnt_text.proofs.OneTextLaws.{one_address, one_decimal}
use Rattle.lnt_records.specs.Table.{BeginsWith, Fields}
use Rattle.lnt_records.proofs.LineLaws.{HasOneRecord, IsReadBack, LineLaws}
use Rattle.lnt_records.specs.declared.path_records.version.PathVersion.TheVariants.{Four, Three}
use Rattle.lnt_records.specs.PathSpans.{PathSpan, PathAnswer, path_answer, told_column}
use Rattle.lnt_records.specs.PathTables.{IsPathRecord, SaysColumn, by_path, path_column_count, path_column_names, PathVersion}
use Rattle.lnt_records.specs.PathLines.{IsLineOf, IsPlace, IsPlainByte, IsPlainPathRecord, IsSpanLine, field_with_comma}
use Rattle.lnt_records.specs.PathLines.{path_field, plain_by_path, plain_told}
use Rattle.csv.specs.Machine.{next_record}
use Rattle.csv.specs.Reading.{default_config, strip_bom}
use Rattle.csv.specs.declared.parser.State.{State}
use Rattle.csv.specs.declared.parser.State.TheVariants as st
use Rattle.csv.specs.Writing.{default_writer, field_text, fields_text, is_blank, needs_byte, row_text}
use Rattle.lnt_text.proofs.TextLaws.{plain_address}
use Rattle.lnt_records.specs.Progress.{AddsLine}
use Rattle.lnt_records.specs.Written.{line_text}
use Rattle.lnt_records.proofs.QuotingLaws.{IsQuiet, address_text, number_text, quiet_text}
use Rattle.lnt_spans.specs.declared.span.Span.{Span}
use Rattle.lnt_records.proofs.LineLaws as any

-- ---- a plain record has one text

last_field : (version : PathVersion) (xs ys : Fields) (column : Option ℕ) → SaysColumn IsPlainDecimal version xs column
    → SaysColumn IsPlainDecimal version ys column → (i : ℕ) → suc (suc (suc (suc i))) < path_column_count version
    → get_or xs (suc (suc (suc (suc i)))) [] ≡ get_or ys (suc (suc (suc (suc i)))) []
last_field Three xs ys None a b i lt = absurd a
last_field Three xs ys (Some column) a b zero lt = one_decimal _ _ column a b
last_field Three xs ys (Some column) a b (suc i) lt = absurd (omega (arith, lt))
last_field Four xs ys column a b i lt = absurd (omega (arith, lt))

one_field : (version : PathVersion) (xs ys : Fields) (span : PathSpan) → IsPlainPathRecord version xs span
    → IsPlainPathRecord version ys span → (i : ℕ) → i < path_column_count version → get_or xs i [] ≡ get_or ys i []
one_field version xs ys span a b zero lt = one_address _ _ span.low.address a.says.low_is b.says.low_is
one_field version xs ys span a b (suc zero) lt = one_address _ _ span.high.address a.says.high_is b.says.high_is
one_field version xs ys span a b (suc (suc zero)) lt = a.says.path ∙ sym b.says.path
one_field version xs ys span a b (suc (suc (suc zero))) lt = one_decimal _ _ span.answer.line a.says.line b.says.line
one_field version xs ys span a b (suc (suc (suc (suc i)))) lt =
    last_field version xs ys span.answer.column a.says.column b.says.column i lt

pub one_record : (version : PathVersion) → HasOneRecord (IsPlainPathRecord version)
one_record version xs ys span a b =
    ext_get_or [] xs ys (a.says.count ∙ sym b.says.count)
    (λ i lt. one_field version xs ys span a b i (subst (λ (n : ℕ). i < n) a.says.count lt))

-- ---- the header

pub header_text : (version : PathVersion) → line_text (path_column_names version) ≡ row_text default_writer (path_column_names version)
unfolding is_blank fields_text
header_text Three = refl
header_text Four = refl

-- ---- the field of a path

pub quiet_by_recursion : (text : List ℕ) → AllByRecursion IsPlainByte text → IsQuiet text
quiet_by_recursion [] h = refl
quiet_by_recursion (c ∷ text) h = rw (h.0.needs_none, quiet_by_recursion text h.1) refl

pub plain_byte : (byte : ℕ) → needs_byte default_writer byte ≡ false → IsPlainByte byte
plain_byte byte h = record { needs_none = h }

-- A path without bytes that need quotes is written as it is.
plain_field : (path : List ℕ) → All IsPlainByte path → path ++ 44 ∷ [] ≡ field_with_comma path
plain_field path h =
    ap (λ (t : List ℕ). t ++ 44 ∷ []) (sym (quiet_text path (quiet_by_recursion path (recursion_from_All IsPlainByte path h))))

pub plain_made : (path made seen new : List ℕ) → made ≡ path → seen ≡ made → All IsPlainByte seen → new ≡ made ++ 44 ∷ []
    → new ≡ field_with_comma path
plain_made path made seen new e f h more =
    more ∙ ap (λ (t : List ℕ). t ++ 44 ∷ []) e ∙ plain_field path (subst (All IsPlainByte) (f ∙ e) h)

-- a record of a path and an empty field is the field with a comma, and a line feed
pair_text : (path : List ℕ) → row_text default_writer (path ∷ [] ∷ []) ≡ field_with_comma path ++ 10 ∷ []
unfolding is_blank fields_text
pair_text path = refl

pub field_made : (path text new : List ℕ) (n : ℕ) → text ≡ row_text default_writer (path ∷ [] ∷ []) → n ≡ length text
    → new ≡ take (n - 1) text → new ≡ field_with_comma path
field_made path text new n e l f =
    let whole : text ≡ field_with_comma path ++ 10 ∷ [] = e ∙ pair_text path in
    let long : length text ≡ length (field_with_comma path) + 1 = ap length whole ∙ length-append (field_with_comma path) (10 ∷ []) in
    let count : n - 1 ≡ length (field_with_comma path) = omega (arith, long, l) in
    f ∙ ap (λ (k : ℕ). take k text) count ∙ ap (take (length (field_with_comma path))) whole
    ∙ take-append-le (length (field_with_comma path)) (field_with_comma path) (10 ∷ []) (omega arith)
    ∙ take_all (length (field_with_comma path)) (field_with_comma path) (omega arith)

-- ---- a line

-- the text of a line whose addresses and line number need no quotes
line_fields : (low high path line : List ℕ) (more : Fields) → field_text default_writer low ≡ low
    → field_text default_writer high ≡ high
    → field_text default_writer line ≡ line
    → row_text default_writer (low ∷ high ∷ path ∷ line ∷ more)
    ≡ low ++ (44 ∷ high ++ (44 ∷ field_text default_writer path ++ (44 ∷ line ++ (fields_text default_writer more ++ 10 ∷ []))))
unfolding is_blank fields_text
line_fields low high path line more a b c = rw (a, b, c) (simp append_assoc)

-- a field before others
field_before : (prefix b s0 s1 s4 : List ℕ) → s0 ≡ prefix ++ 44 ∷ s1 → s1 ≡ b ++ s4 → s0 ≡ (prefix ++ 44 ∷ b) ++ s4
field_before prefix b s0 s1 s4 e f = e ∙ ap (λ (t : List ℕ). prefix ++ 44 ∷ t) f ∙ sym (append_assoc prefix (44 ∷ b) s4)

-- the line in the file, what follows it, and the line feed
last_before : (line more s3 s4 : List ℕ) → s3 ≡ line ++ (more ++ 10 ∷ s4) → s3 ≡ (line ++ (more ++ 10 ∷ [])) ++ s4
last_before line more s3 s4 e =
    e ∙ ap (λ (t : List ℕ). line ++ t) (sym (append_assoc more (10 ∷ []) s4)) ∙ sym (append_assoc line (more ++ 10 ∷ []) s4)

-- the text of the line
line_start : (low high path line : List ℕ) (more : Fields) (s0 s1 s2 s3 s4 : List ℕ) → field_text default_writer low ≡ low
    → field_text default_writer high ≡ high → field_text default_writer line ≡ line
    → s0 ≡ low ++ 44 ∷ s1 → s1 ≡ high ++ 44 ∷ s2 → s2 ≡ field_text default_writer path ++ 44 ∷ s3
    → s3 ≡ line ++ (fields_text default_writer more ++ 10 ∷ s4)
    → s0 ≡ row_text default_writer (low ∷ high ∷ path ∷ line ∷ more) ++ s4
line_start low high path line more s0 s1 s2 s3 s4 a b c e0 e1 e2 e3 =
    let file : List ℕ = field_text default_writer path in
    let end : List ℕ = line ++ (fields_text default_writer more ++ 10 ∷ []) in
    let from = field_before file end s2 s3 s4 e2 (last_before line (fields_text default_writer more) s3 s4 e3) in
    let next = field_before high (file ++ 44 ∷ end) s1 s2 s4 e1 from in
    field_before low (high ++ 44 ∷ (file ++ 44 ∷ end)) s0 s1 s4 e0 next
    ∙ ap (λ (t : List ℕ). t ++ s4) (sym (line_fields low high path line more a b c))

-- the column and the line feed
column_end : (column : List ℕ) (rest : List ℕ) → field_text default_writer column ≡ column
    → 44 ∷ (column ++ 10 ∷ rest) ≡ fields_text default_writer (column ∷ []) ++ 10 ∷ rest
unfolding fields_text
column_end column rest q = rw (q, append-nil column) refl

no_column_end : (rest : List ℕ) → 10 ∷ rest ≡ fields_text default_writer [] ++ 10 ∷ rest
unfolding fields_text
no_column_end rest = refl

-- Numbers that are spelled so need no quotes.
abbrev NeedNoQuotes : (List ℕ → ℕ → Type 0) → Type 0
NeedNoQuotes Number = (text : List ℕ) (n : ℕ) → Number text n → field_text default_writer text ≡ text

-- the parts of a line, one after another, are the line
pub line_taken : (Address Decimal : List ℕ → ℕ → Type 0) → NeedNoQuotes Address → NeedNoQuotes Decimal → (version : PathVersion)
    (low high : ℕ) (answer : PathAnswer) (s0 s1 s2 s3 s4 : List ℕ) → Begins Address s0 low 44 s1 → Begins Address s1 high 44 s2
    → s2 ≡ field_text default_writer answer.path ++ 44 ∷ s3 → IsPlace Decimal version answer.line answer.column s3 s4
    → IsLineOf Address Decimal version low high answer s0 s4
line_taken Address Decimal quiet calm version low high answer s0 s1 s2 s3 s4 l h path place = by version answer.column refl place
  where
    low_is : field_text default_writer l.prefix ≡ l.prefix
    low_is = quiet l.prefix low l.spells

    high_is : field_text default_writer h.prefix ≡ h.prefix
    high_is = quiet h.prefix high h.spells

    by : (v : PathVersion) (column : Option ℕ) → answer.column ≡ column → IsPlace Decimal v answer.line column s3 s4
        → IsLineOf Address Decimal v low high answer s0 s4
    by Three None e p = absurd p
    by Three (Some column) e p =
        let line = p.1 in
        let last = p.2 in
        record {
          fields = l.prefix ∷ h.prefix ∷ answer.path ∷ line.prefix ∷ last.prefix ∷ [];
          joined = line_start l.prefix h.prefix answer.path line.prefix (last.prefix ∷ []) s0 s1 s2 s3 s4 low_is high_is
              (calm line.prefix answer.line line.spells) l.joined h.joined path
              (line.joined ∙ ap (λ (t : List ℕ). line.prefix ++ 44 ∷ t) last.joined
              ∙ ap (λ (t : List ℕ). line.prefix ++ t) (column_end last.prefix s4 (calm last.prefix column last.spells)));
          says = rw e (record
              { count = refl; low_is = l.spells; high_is = h.spells; path = refl; line = line.spells; column = last.spells });
        }
    by Four column e p =
        let line = p.1 in
        record {
          fields = l.prefix ∷ h.prefix ∷ answer.path ∷ line.prefix ∷ [];
          joined = line_start l.prefix h.prefix answer.path line.prefix [] s0 s1 s2 s3 s4 low_is high_is
              (calm line.prefix answer.line line.spells) l.joined h.joined path
              (line.joined ∙ ap (λ (t : List ℕ). line.prefix ++ t) (no_column_end s4));
          says = record
              { count = refl; low_is = l.spells; high_is = h.spells; path = refl; line = line.spells; column = e ∙ p.0 };
        }

-- ---- a line in three parts

begins_more : (Spells : List ℕ → ℕ → Type 0) (text : List ℕ) (n end : ℕ) (rest more : List ℕ) → Begins Spells text n end rest
    → Begins Spells (text ++ more) n end (rest ++ more)
begins_more Spells text n end rest more b = record {
  prefix = b.prefix;
  joined = ap (λ (t : List ℕ). t ++ more) b.joined ∙ append_assoc b.prefix (end ∷ rest) more;
  spells = b.spells;
}

place_more : (Decimal : List ℕ → ℕ → Type 0) (version : PathVersion) (line : ℕ) (column : Option ℕ) (text more : List ℕ)
    → IsPlace Decimal version line column text [] → IsPlace Decimal version line column (text ++ more) more
place_more Decimal Three line None text more p = absurd p
place_more Decimal Three line (Some column) text more p =
    (p.0 ++ more, begins_more Decimal text line 44 p.0 more p.1, begins_more Decimal p.0 column 10 [] more p.2)
place_more Decimal Four line column text more p = (p.0, begins_more Decimal text line 10 [] more p.1)

plain_text : NeedNoQuotes IsPlainAddress
plain_text text n h = address_text text n (plain_address text n h)

plain_number : NeedNoQuotes IsPlainDecimal
plain_number text n h = number_text text n h.number

-- the two addresses, each with a comma after it
abbrev pub AreAddresses : Span → List ℕ → Type 0
AreAddresses span text = (high : List ℕ) × Begins IsPlainAddress text span.low.address 44 high
    × Begins IsPlainAddress high span.high.address 44 []

abbrev pub IsPlaceOf : PathVersion → Span → List ℕ → Type 0
IsPlaceOf version span text = IsPlace IsPlainDecimal version span.answer.line (told_column version span.answer.column) text []

pub span_line : (version : PathVersion) (path : ℕ → ℕ → List ℕ) (span : Span) (first field last more : List ℕ)
    → AreAddresses span first → field ≡ path_field path span.answer.unit span.answer.file → IsPlaceOf version span last
    → IsSpanLine (path_answer version path) version span (first ++ (field ++ (last ++ more))) more
span_line version path span first field last more a e p =
    let rest : List ℕ = field ++ (last ++ more) in
    let file : List ℕ = field_text default_writer (path span.answer.unit span.answer.file) in
    line_taken IsPlainAddress IsPlainDecimal plain_text plain_number version span.low.address span.high.address
    (path_answer version path span.answer) (first ++ rest) (a.0 ++ rest) rest (last ++ more) more
    (begins_more IsPlainAddress first span.low.address 44 a.0 rest a.1) (begins_more IsPlainAddress a.0 span.high.address 44 [] rest a.2)
    (ap (λ (t : List ℕ). t ++ (last ++ more)) e ∙ append_assoc file (44 ∷ []) (last ++ more))
    (place_more IsPlainDecimal version span.answer.line (told_column version span.answer.column) last more p)

-- the parts that were added one after another
pub line_put : (version : PathVersion) (path : ℕ → ℕ → List ℕ) (span : Span) (old b1 b2 new first field last : List ℕ)
    → AreAddresses span first → b1 ≡ old ++ first → field ≡ path_field path span.answer.unit span.answer.file → b2 ≡ b1 ++ field
    → IsPlaceOf version span last → new ≡ b2 ++ last → AddsLine (plain_told (path_answer version path)) version span old new
line_put version path span old b1 b2 new first field last a e1 f e2 p e3 =
    let l = span_line version path span first field last [] a f p in
    let parts : new ≡ old ++ (first ++ (field ++ (last ++ []))) = rw (e3, e2, e1) (simp (append_assoc, append-nil)) in
    record {
      fields = l.fields;
      joined = parts ∙ ap (λ (t : List ℕ). old ++ t) (l.joined ∙ append-nil (row_text default_writer l.fields));
      says = l.says;
    }

-- the parts that were passed one after another
pub parts_passed : (version : PathVersion) (path : ℕ → ℕ → List ℕ) (span : Span) (old new first field last s1 s2 s3 : List ℕ) (n : ℕ)
    → old ≡ first ++ s1 → s1 ≡ field ++ s2 → s2 ≡ last ++ s3 → n ≡ length old - length s3 → new ≡ drop n old
    → AreAddresses span first → field ≡ path_field path span.answer.unit span.answer.file → IsPlaceOf version span last
    → IsSpanLine (path_answer version path) version span old new
parts_passed version path span old new first field last s1 s2 s3 n e1 e2 e3 count dropped a f p =
    let parts : old ≡ first ++ (field ++ (last ++ s3)) = rw (e1, e2, e3) refl in
    let prefix : List ℕ = first ++ (field ++ last) in
    let joined : old ≡ prefix ++ s3 = parts ∙ simp append_assoc in
    let long : n ≡ length prefix = omega (arith, count, ap length joined, length-append prefix s3) in
    let left : new ≡ s3 = dropped ∙ ap (λ (k : ℕ). drop k old) long ∙ ap (drop (length prefix)) joined ∙ drop-append_seam prefix s3 in
    rw (parts, left) (span_line version path span first field last s3 a f p)

-- ---- fields and paths

-- the first field of a record that was read, if one was
first_field : Option (Fields × State × List ℕ) → List ℕ
first_field None = []
first_field (Some found) = get_or found.0 0 []

pair_back : (path : List ℕ) → IsReadBack (row_text default_writer) (path ∷ [] ∷ [])
pair_back path = record { some = omega arith; line_is = refl }

-- Fields are the same only if their paths are.
pub one_path : (p q : List ℕ) → field_with_comma p ≡ field_with_comma q → p ≡ q
unfolding first_field
one_path p q e =
    let same : row_text default_writer (p ∷ [] ∷ []) ≡ row_text default_writer (q ∷ [] ∷ []) =
    pair_text p ∙ ap (λ (t : List ℕ). t ++ 10 ∷ []) e ∙ sym (pair_text q) in
    ap first_field (sym (any.line_read (row_text default_writer) (p ∷ [] ∷ []) [] (pair_back p))
    ∙ ap (λ (t : List ℕ). next_record default_config st.StartRecord [] [] (t ++ [])) same
    ∙ any.line_read (row_text default_writer) (q ∷ [] ∷ []) [] (pair_back q))

pub same_paths : (same : Bool) (p q one other : List ℕ) → one ≡ field_with_comma p → other ≡ field_with_comma q
    → MatchBool same (one ≡ other) (one ≢ other) → MatchBool same (p ≡ q) (p ≢ q)
same_paths true p q one other e f m = one_path p q (sym e ∙ m ∙ f)
same_paths false p q one other e f m = λ same. m (e ∙ ap field_with_comma same ∙ sym f)

-- ---- lines are read back

-- a header doesn't begin with a byte order mark
no_bom : (version : PathVersion) (rest : List ℕ) → strip_bom (row_text default_writer (path_column_names version) ++ rest)
    ≡ row_text default_writer (path_column_names version) ++ rest
unfolding strip_bom is_blank fields_text
no_bom Three rest = refl
no_bom Four rest = refl

names_some : (version : PathVersion) → 2 ≤ length (path_column_names version)
names_some Three = omega arith
names_some Four = omega arith

record_some : (version : PathVersion) (fields : Fields) (span : PathSpan) → IsPathRecord version fields span → 2 ≤ length fields
record_some version fields span s = subst (λ (n : ℕ). 2 ≤ n) (sym s.says.count) (names_some version)

-- ---- plain records are records

column_said : (version : PathVersion) (fields : Fields) (column : Option ℕ) → SaysColumn IsPlainDecimal version fields column
    → SaysColumn IsDecimal version fields column
column_said Three fields None s = absurd s
column_said Three fields (Some column) s = s.number
column_said Four fields column s = s

record_said : (version : PathVersion) (fields : Fields) (span : PathSpan) → IsPlainPathRecord version fields span
    → IsPathRecord version fields span
record_said version fields span s = record {
  says = record {
    count = s.says.count;
    low_is = plain_address (get_or fields 0 []) span.low.address s.says.low_is;
    high_is = plain_address (get_or fields 1 []) span.high.address s.says.high_is;
    path = s.says.path;
    line = s.says.line.number;
    column = column_said version fields span.answer.column s.says.column;
  };
  low_op = s.low_op;
  high_op = s.high_op;
}

pub plain_paths : LineLaws by_path plain_by_path
plain_paths = record {
  names = λ version. refl;
  one_record = one_record;
  says = record_said;
  back = λ version fields span says. record { some = record_some version fields span says; line_is = refl };
  names_back = λ version. record { some = names_some version; line_is = refl };
  without_bom = no_bom;
}

-- ---- the rest

-- bytes that begin with the header's line
pub header_begins : (version : PathVersion) (rest : List ℕ)
    → BeginsWith (line_text (path_column_names version) ++ rest) (path_column_names version ∷ [])
header_begins version rest =
    subst (λ (line : List ℕ). BeginsWith (line ++ rest) (path_column_names version ∷ [])) (sym (header_text version))
    (any.header_begins by_path plain_by_path plain_paths version rest)

-- ---- parts of a line

-- the part of a slice from an index on
pub rest_whole : (table : List ℕ) (at : ℕ) → take (length table - at) (drop at table) ≡ drop at table
rest_whole table at = take_all (length table - at) (drop at table) (omega (arith, length-drop at table))
