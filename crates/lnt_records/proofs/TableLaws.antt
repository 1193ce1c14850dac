-- Laws of a table of any format: bytes are at most one table, a table has no fault, and at most one fault is the first of some bytes.
use Rattle.std.proofs.Common.{◌≡◌, ◌∙◌, ℕ, ◌<◌, ◌≤◌, List, [], ◌∷◌, ◌++◌, length, refl, sym, ap, subst, arith, inl, inr}
use Rattle.std.specs.List.{AllZip}
use Rattle.lnt_records.specs.declared.fault.TableFault.TheVariants as fault
use Rattle.lnt_records.specs.Faults.{HasFaultyRecordIn, IsFaultIn, IsFaultyIn, TableFault}
use Rattle.lnt_records.specs.Reading.{IsReadAs}
use Rattle.lnt_records.specs.Table.{BeginsWith, Fields, IsOfColumn, IsTableIn, IsTableOfIn, RecordsOf, TableFormat}
use Rattle.lnt_records.proofs.BeginningLaws.{faulty_begins, table_begins}
pub use Rattle.lnt_csv.proofs.RecordLaws.{zip_push}
use Rattle.lnt_csv.proofs.RecordLaws.{prefix_of, one_end, one_list, same_least, stands_before}

-- What these laws need of a format: a header is of one version, a record of one span, its fields are as many as the columns and of
-- their kinds, and the first spans of some in order are in order.
pub record FormatLaws {V X : Type 0} (format : TableFormat V X) : Type 0 where
  pub one_version : (v w : V) → format.names v ≡ format.names w → v ≡ w
  pub narrow : (v : V) → length (format.names v) ≤ 11
  pub one_span : (v : V) (fields : Fields) (x y : X) → format.Says v fields x → format.Says v fields y → x ≡ y
  pub count : (v : V) (fields : Fields) (x : X) → format.Says v fields x → length fields ≡ length (format.names v)
  pub sound : (v : V) (fields : Fields) (x : X) → format.Says v fields x → (i : ℕ) → i < length (format.names v)
      → IsOfColumn format.columns fields i
  pub prefix : (xs ys : List X) → format.InOrder (xs ++ ys) → format.InOrder xs

-- ---- one more record

pub table_push : {V X : Type 0} (format : TableFormat V X) (version : V) (records : List Fields) (table : List X) (fields : Fields)
    (span : X) → IsTableIn format version records table → format.Says version fields span → format.InOrder (table ++ span ∷ [])
    → IsTableIn format version (records ++ fields ∷ []) (table ++ span ∷ [])
table_push format version [] table fields span t s o = absurd t
table_push format version (first ∷ records) table fields span t s o =
    (t.0, record { each = zip_push (format.Says version) records table fields span t.1.each s; in_order = o })

pub table_order : {V X : Type 0} (format : TableFormat V X) (version : V) (records : List Fields) (spans : List X)
    → IsTableIn format version records spans → format.InOrder spans
table_order format version [] spans t = absurd t
table_order format version (first ∷ records) spans t = t.1.in_order

pub fault_told : {V X : Type 0} (format : TableFormat V X) (bytes : List ℕ) (version : V) (records : List Fields) (fields : Fields)
    (table : List X) (told : TableFault) → BeginsWith bytes (records ++ fields ∷ []) → IsTableIn format version records table
    → IsFaultyIn format version table (length records) fields told → IsFaultIn format bytes told
fault_told format bytes version records fields table fault.Header h t f = absurd f
fault_told format bytes version records fields table (fault.Fields k) h t f =
    record { version = version; records = records; spans = table; fields = fields; begins = h; table = t; faulty = f }
fault_told format bytes version records fields table (fault.Number k i) h t f =
    record { version = version; records = records; spans = table; fields = fields; begins = h; table = t; faulty = f }
fault_told format bytes version records fields table (fault.Order k) h t f =
    record { version = version; records = records; spans = table; fields = fields; begins = h; table = t; faulty = f }

-- ---- a record of which only the first fields were read

-- Its fault is that of the whole record.
pub faulty_as : {V X : Type 0} (format : TableFormat V X) → FormatLaws format → (version : V) (table : List X) (number : ℕ)
    (fields whole : Fields) (told : TableFault) → IsReadAs fields whole → IsFaultyIn format version table number fields told
    → IsFaultyIn format version table number whole told
faulty_as format laws version table number fields whole told (inl same) f =
    subst (λ (r : Fields). IsFaultyIn format version table number r told) (sym same) f
faulty_as format laws version table number fields whole fault.Header (inr wide) f = absurd f
faulty_as format laws version table number fields whole (fault.Fields k) (inr wide) f =
    (f.0, λ e. absurd (let few = laws.narrow version in omega (arith, few, e, wide.1)))
faulty_as format laws version table number fields whole (fault.Number k i) (inr wide) f =
    absurd (let few = laws.narrow version in omega (arith, few, f.1, wide.0))
faulty_as format laws version table number fields whole (fault.Order k) (inr wide) f =
    absurd (let few = laws.narrow version in let same = laws.count version fields f.1 f.2 in omega (arith, few, same, wide.0))

pub refused : {V X : Type 0} (format : TableFormat V X) → FormatLaws format → (version : V) (records : List Fields) (table : List X)
    (fields : Fields) (told : TableFault) → IsTableIn format version records table
    → IsFaultyIn format version table (length records) fields told → (whole : Fields) (bytes : List ℕ) → IsReadAs fields whole
    → BeginsWith bytes (records ++ whole ∷ []) → IsFaultIn format bytes told
refused format laws version records table fields told t f whole bytes same begins =
    fault_told format bytes version records whole table told begins t
    (faulty_as format laws version table (length records) fields whole told same f)

-- ---- one table

one_spans : {V X : Type 0} (format : TableFormat V X) → FormatLaws format → (version : V) (records : List Fields) (xs ys : List X)
    → AllZip (format.Says version) records xs → AllZip (format.Says version) records ys → xs ≡ ys
one_spans format laws version [] [] [] a b = refl
one_spans format laws version [] (x ∷ xs) ys a b = absurd a
one_spans format laws version [] [] (y ∷ ys) a b = absurd b
one_spans format laws version (r ∷ records) [] ys a b = absurd a
one_spans format laws version (r ∷ records) (x ∷ xs) [] a b = absurd b
one_spans format laws version (r ∷ records) (x ∷ xs) (y ∷ ys) a b =
    let first = laws.one_span version r x y a.0 b.0 in
    let rest = one_spans format laws version records xs ys a.1 b.1 in
    cc

one_of : {V X : Type 0} (format : TableFormat V X) → FormatLaws format → (records : List Fields) (v w : V) (xs ys : List X)
    → IsTableIn format v records xs → IsTableIn format w records ys → (v ≡ w) × (xs ≡ ys)
one_of format laws [] v w xs ys a b = absurd a
one_of {V} format laws (first ∷ records) v w xs ys a b =
    let same = laws.one_version v w (sym a.0 ∙ b.0) in
    (same, one_spans format laws w records xs ys (subst (λ (k : V). AllZip (format.Says k) records xs) same a.1.each) b.1.each)

pub one_table : {V X : Type 0} (format : TableFormat V X) → FormatLaws format → (bytes : List ℕ) (v w : V) (xs ys : List X)
    → IsTableOfIn format v bytes xs → IsTableOfIn format w bytes ys → (v ≡ w) × (xs ≡ ys)
one_table format laws bytes v w xs ys a b =
    let records = one_list bytes b.0 a.0 b.1 a.1 in
    one_of format laws a.0 v w xs ys a.2 (subst (λ (r : List Fields). IsTableIn format w r ys) records b.2)

-- ---- no fault of a table

-- the spans of the records before a certain one
record Parted {V X : Type 0} (format : TableFormat V X) (version : V) (records : List Fields) (fields : Fields) (spans : List X) : Type
    0 where
  prefix : List X
  span : X
  past : List X
  joined : spans ≡ (prefix ++ span ∷ []) ++ past
  each : AllZip (format.Says version) records prefix
  says : format.Says version fields span

part : {V X : Type 0} (format : TableFormat V X) (version : V) (records : List Fields) (fields : Fields) (past : List Fields)
    (spans : List X) → AllZip (format.Says version) ((records ++ fields ∷ []) ++ past) spans
    → Parted format version records fields spans
part format version [] fields past [] z = absurd z
part format version [] fields past (s ∷ spans) z =
    record { prefix = []; span = s; past = spans; joined = refl; each = tt; says = z.0 }
part format version (r ∷ records) fields past [] z = absurd z
part {V} {X} format version (r ∷ records) fields past (s ∷ spans) z =
    let p = part format version records fields past spans z.1 in
    record {
      prefix = s ∷ p.prefix;
      span = p.span;
      past = p.past;
      joined = ap (λ (l : List X). s ∷ l) p.joined;
      each = (z.0, p.each);
      says = p.says;
    }

not_faulty : {V X : Type 0} (format : TableFormat V X) → FormatLaws format → (version : V) (records : List Fields) (fields : Fields)
    (spans : List X) (number : ℕ) (told : TableFault) → (p : Parted format version records fields spans) → format.InOrder spans
    → IsFaultyIn format version p.prefix number fields told → ⊥
not_faulty format laws version records fields spans number fault.Header p o f = f
not_faulty format laws version records fields spans number (fault.Fields k) p o f = f.1 (laws.count version fields p.span p.says)
not_faulty format laws version records fields spans number (fault.Number k i) p o f =
    f.2.faulty (laws.sound version fields p.span p.says i (rw f.1 at f.2.there))
not_faulty {V} {X} format laws version records fields spans number (fault.Order k) p o f =
    let same : f.1 ≡ p.span = laws.one_span version fields f.1 p.span f.2 p.says in
    let prefix = laws.prefix (p.prefix ++ p.span ∷ []) p.past (rw p.joined at o) in
    f.3 (subst (λ (s : X). format.InOrder (p.prefix ++ s ∷ [])) (sym same) prefix)

-- a record of a table isn't faulty
faulty_none : {V X : Type 0} (format : TableFormat V X) → FormatLaws format → (v version : V) (records past : List Fields)
    (fields : Fields) (before spans : List X) (told : TableFault) → IsTableIn format v records before
    → IsFaultyIn format v before (length records) fields told → IsTableIn format version ((records ++ fields ∷ []) ++ past) spans → ⊥
faulty_none format laws v version [] past fields before spans told t f all = absurd t
faulty_none {V} {X} format laws v version (first ∷ records) past fields before spans told t f all =
    let same : v ≡ version = laws.one_version v version (sym t.0 ∙ all.0) in
    let p = part format version records fields past spans all.1.each in
    let ours = subst (λ (k : V). AllZip (format.Says k) records before) same t.1.each in
    let prefix : before ≡ p.prefix = one_spans format laws version records before p.prefix ours p.each in
    let faulty = subst (λ (xs : List X). IsFaultyIn format version xs (length (first ∷ records)) fields told) prefix
    (subst (λ (k : V). IsFaultyIn format k before (length (first ∷ records)) fields told) same f) in
    not_faulty format laws version records fields spans (length (first ∷ records)) told p all.1.in_order faulty

record_none : {V X : Type 0} (format : TableFormat V X) → FormatLaws format → (bytes : List ℕ) (version : V) (spans : List X)
    (records : List Fields) (told : TableFault) → RecordsOf bytes records → IsTableIn format version records spans
    → HasFaultyRecordIn format bytes told → ⊥
record_none format laws bytes version spans records told all t f =
    let prefix = prefix_of bytes (f.records ++ f.fields ∷ []) records f.begins all in
    faulty_none format laws f.version version f.records prefix.0 f.fields f.spans spans told f.table f.faulty
    (subst (λ (r : List Fields). IsTableIn format version r spans) prefix.1 t)

pub no_fault : {V X : Type 0} (format : TableFormat V X) → FormatLaws format → (bytes : List ℕ) (version : V) (spans : List X)
    (told : TableFault) → IsTableOfIn format version bytes spans → IsFaultIn format bytes told → ⊥
no_fault format laws bytes version spans fault.Header t f = f version (table_begins format bytes version spans t)
no_fault format laws bytes version spans (fault.Fields k) t f =
    record_none format laws bytes version spans t.0 (fault.Fields k) t.1 t.2 f
no_fault format laws bytes version spans (fault.Number k i) t f =
    record_none format laws bytes version spans t.0 (fault.Number k i) t.1 t.2 f
no_fault format laws bytes version spans (fault.Order k) t f = record_none format laws bytes version spans t.0 (fault.Order k) t.1 t.2 f

-- ---- one fault

one_faulty : {V X : Type 0} (format : TableFormat V X) → FormatLaws format → (version : V) (spans : List X) (number : ℕ)
    (fields : Fields) (told other : TableFault) → IsFaultyIn format version spans number fields told
    → IsFaultyIn format version spans number fields other → told ≡ other
one_faulty format laws version spans number fields fault.Header other f g = absurd f
one_faulty format laws version spans number fields (fault.Fields k) fault.Header f g = absurd g
one_faulty format laws version spans number fields (fault.Fields k) (fault.Fields l) f g = ap fault.Fields (f.0 ∙ sym g.0)
one_faulty format laws version spans number fields (fault.Fields k) (fault.Number l j) f g = absurd (f.1 g.1)
one_faulty format laws version spans number fields (fault.Fields k) (fault.Order l) f g =
    absurd (f.1 (laws.count version fields g.1 g.2))
one_faulty format laws version spans number fields (fault.Number k i) fault.Header f g = absurd g
one_faulty format laws version spans number fields (fault.Number k i) (fault.Fields l) f g = absurd (g.1 f.1)
one_faulty format laws version spans number fields (fault.Number k i) (fault.Number l j) f g =
    let column : i ≡ j = same_least i j (λ lt. f.2.faulty (g.2.before i lt)) (λ lt. g.2.faulty (f.2.before j lt)) in
    ap (λ (n : ℕ). fault.Number n i) (f.0 ∙ sym g.0) ∙ ap (fault.Number l) column
one_faulty format laws version spans number fields (fault.Number k i) (fault.Order l) f g =
    let count = f.1 in
    let there = f.2.there in
    absurd (f.2.faulty (laws.sound version fields g.1 g.2 i (subst (λ (n : ℕ). i < n) count there)))
one_faulty format laws version spans number fields (fault.Order k) fault.Header f g = absurd g
one_faulty format laws version spans number fields (fault.Order k) (fault.Fields l) f g =
    absurd (g.1 (laws.count version fields f.1 f.2))
one_faulty format laws version spans number fields (fault.Order k) (fault.Number l j) f g =
    let count = g.1 in
    let there = g.2.there in
    absurd (g.2.faulty (laws.sound version fields f.1 f.2 j (subst (λ (n : ℕ). j < n) count there)))
one_faulty format laws version spans number fields (fault.Order k) (fault.Order l) f g = ap fault.Order (f.0 ∙ sym g.0)

-- a record with a lower number isn't faulty
not_earlier : {V X : Type 0} (format : TableFormat V X) → FormatLaws format → (bytes : List ℕ) (told other : TableFault)
    → (f : HasFaultyRecordIn format bytes told) → (g : HasFaultyRecordIn format bytes other) → length f.records < length g.records → ⊥
not_earlier format laws bytes told other f g lt =
    let prefix = stands_before bytes f.records g.records f.fields g.fields f.begins g.begins lt in
    faulty_none format laws f.version g.version f.records prefix.0 f.fields f.spans g.spans told f.table f.faulty
    (subst (λ (records : List Fields). IsTableIn format g.version records g.spans) prefix.1 g.table)

one_record : {V X : Type 0} (format : TableFormat V X) → FormatLaws format → (bytes : List ℕ) (told other : TableFault)
    → HasFaultyRecordIn format bytes told → HasFaultyRecordIn format bytes other → told ≡ other
one_record {V} {X} format laws bytes told other f g =
    let number : length f.records ≡ length g.records = same_least (length f.records) (length g.records)
    (λ lt. not_earlier format laws bytes told other f g lt) (λ lt. not_earlier format laws bytes other told g f lt) in
    let same = one_end bytes f.records g.records f.fields g.fields f.begins g.begins number in
    let tables = one_of format laws g.records f.version g.version f.spans g.spans
    (subst (λ (records : List Fields). IsTableIn format f.version records f.spans) same.0 f.table) g.table in
    let moved : IsFaultyIn format g.version g.spans (length g.records) g.fields told =
    subst (λ (v : V). IsFaultyIn format v g.spans (length g.records) g.fields told) tables.0
    (subst (λ (spans : List X). IsFaultyIn format f.version spans (length g.records) g.fields told) tables.1
    (subst (λ (fields : Fields). IsFaultyIn format f.version f.spans (length g.records) fields told) same.1
    (subst (λ (n : ℕ). IsFaultyIn format f.version f.spans n f.fields told) number f.faulty))) in
    one_faulty format laws g.version g.spans (length g.records) g.fields told other moved g.faulty

no_header : {V X : Type 0} (format : TableFormat V X) (bytes : List ℕ) (told : TableFault)
    → ((version : V) → BeginsWith bytes (format.names version ∷ []) → ⊥) → HasFaultyRecordIn format bytes told → ⊥
no_header format bytes told none f = none f.version (faulty_begins format bytes told f)

pub one_fault : {V X : Type 0} (format : TableFormat V X) → FormatLaws format → (bytes : List ℕ) (told other : TableFault)
    → IsFaultIn format bytes told → IsFaultIn format bytes other → told ≡ other
one_fault format laws bytes fault.Header fault.Header f g = refl
one_fault format laws bytes fault.Header (fault.Fields l) f g = absurd (no_header format bytes (fault.Fields l) f g)
one_fault format laws bytes fault.Header (fault.Number l j) f g = absurd (no_header format bytes (fault.Number l j) f g)
one_fault format laws bytes fault.Header (fault.Order l) f g = absurd (no_header format bytes (fault.Order l) f g)
one_fault format laws bytes (fault.Fields k) fault.Header f g = absurd (no_header format bytes (fault.Fields k) g f)
one_fault format laws bytes (fault.Fields k) (fault.Fields l) f g = one_record format laws bytes (fault.Fields k) (fault.Fields l) f g
one_fault format laws bytes (fault.Fields k) (fault.Number l j) f g =
    one_record format laws bytes (fault.Fields k) (fault.Number l j) f g
one_fault format laws bytes (fault.Fields k) (fault.Order l) f g = one_record format laws bytes (fault.Fields k) (fault.Order l) f g
one_fault format laws bytes (fault.Number k i) fault.Header f g = absurd (no_header format bytes (fault.Number k i) g f)
one_fault format laws bytes (fault.Number k i) (fault.Fields l) f g =
    one_record format laws bytes (fault.Number k i) (fault.Fields l) f g
one_fault format laws bytes (fault.Number k i) (fault.Number l j) f g =
    one_record format laws bytes (fault.Number k i) (fault.Number l j) f g
one_fault format laws bytes (fault.Number k i) (fault.Order l) f g =
    one_record format laws bytes (fault.Number k i) (fault.Order l) f g
one_fault format laws bytes (fault.Order k) fault.Header f g = absurd (no_header format bytes (fault.Order k) g f)
one_fault format laws bytes (fault.Order k) (fault.Fields l) f g = one_record format laws bytes (fault.Order k) (fault.Fields l) f g
one_fault format laws bytes (fault.Order k) (fault.Number l j) f g =
    one_record format laws bytes (fault.Order k) (fault.Number l j) f g
one_fault format laws bytes (fault.Order k) (fault.Order l) f g = one_record format laws bytes (fault.Order k) (fault.Order l) f g
