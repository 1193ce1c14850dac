-- Tables and headers whose entries stay where they lie.
use Rattle.std.proofs.Common.{◌≡◌, ℕ, ◌<◌, List, length, refl, sym, ap, subst, get_or, ◌∙◌, arith, true}
use Rattle.lnt_wire.specs.Reading.{At, Reads}
use Rattle.lnt_wire.specs.Bytes.{NoneSpelled}
use Rattle.lnt_wire.specs.Leb128.{UnsignedLeb}
use Rattle.lnt_wire.specs.Numbers.{NumberBytes}
use Rattle.lnt_wire.specs.declared.format.Format.{Format}
use Rattle.lnt_wire.specs.declared.format.Order.{Order}
use Rattle.lnt_header.specs.declared.header.Entry.{Entry}
use Rattle.lnt_header.specs.declared.header.Pair.{Pair}
use Rattle.lnt_header_bytes.specs.declared.read_table.EntryTableRead.{EntryTableRead}
use Rattle.lnt_header.specs.declared.numbers.NumberParts.{NumberParts}
use Rattle.lnt_header_bytes.specs.Borrowed.{first_entries, BorrowedTable, borrowed_table, AreEntryBytes, header_over, directories_over}
use Rattle.lnt_header_bytes.specs.Borrowed.{files_over, IsHeaderOver, NumbersAndFormats}
use Rattle.lnt_header_bytes.specs.Stepping.{PassesAll, IsEntryTableRead, AreFieldsRead, lying_table}
use Rattle.lnt_header_bytes.specs.HeaderFaults.{SinglesBytes, LengthsBytes, Singles}
use Rattle.lnt_header_bytes.specs.HeaderReading.{HasFields, numbers_with}
use Rattle.lnt_header.specs.HeaderRules.{header_of, IsAddressSize}
use Rattle.lnt_header.specs.Joins.{Each, Several}
use Rattle.lnt_header_bytes.proofs.BorrowedLaws.{all_found, entries_found}
use Rattle.lnt_header_bytes.specs.TableBytes.{PairBytes, EntryBytes, TableOf}
use Rattle.lnt_header_bytes.proofs.AllowedLaws.{found_header}
use Rattle.lnt_header_bytes.proofs.DecodeLemmas.{fields_found}
use Rattle.lnt_header_bytes.proofs.HeaderReaders.{reads_fields}
use Rattle.lnt_header_bytes.proofs.PassedLaws.{several_there}
use Rattle.lnt_header_bytes.proofs.TableReaders.{reads_table}
use Rattle.std.proofs.lemmas.Grind.{common_steps}

-- what was passed is what the bytes begin with
found : (format : Format) (pairs : List Pair) (count : ℕ) (bytes : List ℕ) (old new : At)
    → (p : PassesAll count (EntryBytes format old.order pairs) bytes old new) → first_entries format old.order pairs count bytes ≡ p.values
found format pairs count bytes old new p = ap (first_entries format old.order pairs count) p.bytes_are
    ∙ all_found format old.order pairs count p.values p.read.spelling p.count_is p.read.spelled

lies_here : (format : Format) (pairs : List Pair) (count : ℕ) (bytes : List ℕ) (old new : At)
    → PassesAll count (EntryBytes format old.order pairs) bytes old new
    → AreEntryBytes (borrowed_table format old.order pairs count bytes) bytes
lies_here format pairs count bytes old new p =
    subst (λ (es : List Entry). Each (EntryBytes format old.order pairs) es bytes) (sym (found format pairs count bytes old new p))
    (subst (λ (z : List ℕ). Each (EntryBytes format old.order pairs) p.values z) (sym p.bytes_are) p.read.spelled)

pub table_read : (format : Format) (n size : ℕ) (table : EntryTableRead) (old m1 m2 m3 new : At) → Reads (NumberBytes old.order 1) n old m1
    → Reads (Several n PairBytes) table.pairs.items m1 m2 → Reads UnsignedLeb size m2 m3 → (n ≡ 0 → size ≡ 0) → table.entries.count ≡ size
    → PassesAll size (EntryBytes format m3.order table.pairs.items) table.entries.bytes.now m3 new → IsEntryTableRead format table old new
table_read format n size table old m1 m2 m3 new r s t none count p =
    let pairs = table.pairs.items in
    let bytes = table.entries.bytes.now in
    let same : old.order ≡ m3.order = sym r.order ∙ sym s.order ∙ sym t.order in
    let here : PassesAll size (EntryBytes format m3.order pairs) bytes m3 new = p in
    let entries : first_entries format old.order pairs table.entries.count bytes ≡ p.values =
    ap (λ (o : Order). first_entries format o pairs table.entries.count bytes) same
    ∙ ap (λ (k : ℕ). first_entries format m3.order pairs k bytes) count ∙ found format pairs size bytes m3 new p in
    record {
      lies = subst (λ (o : Order). AreEntryBytes (borrowed_table format o pairs table.entries.count bytes) bytes) (sym same)
          (subst (λ (k : ℕ). AreEntryBytes (borrowed_table format m3.order pairs k bytes) bytes) (sym count)
          (lies_here format pairs size bytes m3 new p));
      read = subst (λ (es : List Entry). Reads (TableOf format old.order) (pairs, es) old new) (sym entries)
          (reads_table format n pairs old m1 m2 r s size p.values m3 new t none
          (record {
            spelling = p.read.spelling;
            spelled = (p.count_is, p.read.spelled);
            whole = p.read.whole;
            place = p.read.place;
            order = p.read.order;
          }));
    }

-- the entries that are read are those that lie there
pub entries_are : (table : BorrowedTable) (entries : List Entry) (old new : At) → old.order ≡ table.order → AreEntryBytes table old.rest
    → Reads (Several (length table.entries) (EntryBytes table.format old.order table.pairs)) entries old new → entries ≡ table.entries
entries_are table entries old new same lies r =
    let spelled : Each (EntryBytes table.format table.order table.pairs) entries r.spelling =
    subst (λ (o : Order). Each (EntryBytes table.format o table.pairs) entries r.spelling) same r.spelled.1 in
    let first : first_entries table.format table.order table.pairs (length entries) old.rest ≡ entries =
    ap (first_entries table.format table.order table.pairs (length entries)) r.whole
    ∙ entries_found table.format table.order table.pairs entries r.spelling new.rest spelled in
    let other : first_entries table.format table.order table.pairs (length table.entries) old.rest ≡ table.entries =
    all_found table.format table.order table.pairs (length table.entries) table.entries old.rest refl lies in
    sym first ∙ ap (λ (n : ℕ). first_entries table.format table.order table.pairs n old.rest) r.spelled.0 ∙ other

-- they are there, so that they are read
pub entries_there : (table : BorrowedTable) (count : ℕ) (old : At) → count ≡ length table.entries → old.order ≡ table.order
    → AreEntryBytes table old.rest → NoneSpelled (Several count (EntryBytes table.format old.order table.pairs)) old.rest → ⊥
entries_there table count old is same lies none = grind (arith, common_steps, several_there)

-- ---- headers

pub fields_read : (format : Format) (s : Singles) (ls : List ℕ) (directories files : EntryTableRead) (old m1 m2 m3 new : At)
    → Reads (SinglesBytes true) s old m1 → Reads (LengthsBytes s.opcode_base) ls m1 m2
    → IsEntryTableRead format directories m2 m3 → IsEntryTableRead format files m3 new → AreFieldsRead format s ls directories files old new
fields_read format s ls directories files old m1 m2 m3 new r t d f = grind (arith, common_steps, reads_fields)

-- What is read of a header, and its parts.
pub record IsViewFound (format : Format) (order : Order) (size : ℕ) (bytes : List ℕ) (plain : NumbersAndFormats)
    (directories files : EntryTableRead) (extra : List ℕ) : Type 0 where
  pub fields : HasFields format order size bytes (header_over plain directories.entries.count directories.entries.bytes.now
      files.entries.count files.entries.bytes.now extra)
  pub over : IsHeaderOver plain directories.entries.count directories.entries.bytes.now files.entries.count files.entries.bytes.now extra

-- what was read of it besides the entries
abbrev pub plain_of : Format → NumberParts → List Pair → List Pair → NumbersAndFormats
plain_of format numbers directory_format file_format =
    record { format = format; numbers = numbers; directory_format = directory_format; file_format = file_format }

pub view_found : {format : Format} {order : Order} {size : ℕ} {bytes : List ℕ} {s : Singles} {lengths copy : List ℕ} {d f : EntryTableRead}
    {extra : List ℕ} {old new : At} {numbers : NumberParts} {d_pairs f_pairs : List Pair}
    → IsAddressSize size → ((i : ℕ) → get_or bytes i 0 < 256) → old.rest ≡ bytes → old.order ≡ order
    → AreFieldsRead format s lengths d f old new → copy ≡ lengths → numbers ≡ numbers_with order size s copy → d_pairs ≡ d.pairs.items
    → f_pairs ≡ f.pairs.items → extra ≡ new.rest → IsViewFound format order size bytes (plain_of format numbers d_pairs f_pairs) d f extra
view_found {format} {order} {size} {bytes} {s} {lengths} {copy} {d} {f} {extra} {old} {new} {numbers} {d_pairs} {f_pairs} is small rest_is
    same_order read copy_is numbers_are d_is f_is extra_is =
    let plain = plain_of format numbers d_pairs f_pairs in
    let dc = d.entries.count in
    let db = d.entries.bytes.now in
    let fc = f.entries.count in
    let fb = f.entries.bytes.now in
    let whole = header_over plain dc db fc fb extra in
    let same : numbers ≡ numbers_with order size s lengths = numbers_are ∙ ap (numbers_with order size s) copy_is in
    let back : old.order ≡ numbers.order = same_order ∙ sym (ap (λ (n : NumberParts). n.order) same) in
    let directories : directories_over plain dc db ≡ lying_table format old.order d = cc (back, d_is) in
    let files : files_over plain fc fb ≡ lying_table format old.order f = cc (back, f_is) in
    let entries : Order → EntryTableRead → List Entry = λ (o : Order) (t : EntryTableRead). (lying_table format o t).entries in
    let has : HasFields format order size bytes whole = rw (same, d_is, f_is, extra_is)
    (subst (λ (o : Order). HasFields format order size bytes (header_of format (numbers_with order size s lengths) d.pairs.items
    (entries o d)
    f.pairs.items (entries o f) new.rest)) same_order
    (fields_found format order size bytes s lengths (d.pairs.items, (lying_table format old.order d).entries)
    (f.pairs.items, (lying_table format old.order f).entries) old new is small rest_is same_order read.read)) in
    record {
      fields = has;
      over = record {
        header = found_header format order size bytes whole has;
        directories_lie = subst (λ (t : BorrowedTable). AreEntryBytes t db) (sym directories) read.directories_lie;
        files_lie = subst (λ (t : BorrowedTable). AreEntryBytes t fb) (sym files) read.files_lie;
      };
    }
