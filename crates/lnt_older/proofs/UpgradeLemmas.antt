-- Units that are written anew in version 5.
use Rattle.std.proofs.Common.{◌≡◌, ℕ, ◌+◌, ◌*◌, ◌≤◌, List, [], ◌∷◌, ◌++◌, length, take, refl, sym, append_assoc, arith, append-nil, true}
use Rattle.lnt_wire.specs.Bytes.{Appends, Extends}
use Rattle.lnt_wire.specs.FormBytes.{HasNoZero}
use Rattle.lnt_wire.specs.FrameBytes.{frame_bytes, LengthFits}
use Rattle.lnt_wire.specs.Leb128.{UnsignedLeb}
use Rattle.lnt_wire.specs.declared.form.FormValue.TheVariants.{Text}
use Rattle.lnt_wire.specs.declared.put.EncodeFault.{EncodeFault}
use Rattle.lnt_wire.specs.declared.put.EncodeFault.TheVariants.{TooLarge}
use Rattle.lnt_header.specs.HeaderRules.{IsAddressSize}
use Rattle.lnt_header_bytes.specs.Borrowed.{entry_of}
use Rattle.lnt_header_bytes.specs.TableBytes.{EntryBytes}
use Rattle.lnt_header_bytes.specs.HeaderPuts.{AddsAround, around}
use Rattle.lnt_older.specs.OlderBytes.{directory_pairs, file_pairs}
use Rattle.lnt_header_bytes.specs.HeaderFaults.{single_fields}
use Rattle.lnt_older.specs.OlderUnits.{IsOlderUnit, OlderUnit}
use Rattle.lnt_older.specs.Upgraded.{CountedTable, directory_head, file_head, from_zero, AddsFiles, AddsTable, AddsUpgraded}
use Rattle.lnt_older.specs.Upgraded.{AreUpgradedFields, HasFiles, IsCountFromZero, IsFileZero, IsTooLong}
use Rattle.lnt_older.proofs.HeaderLemmas.{moved_numbers}
use Rattle.lnt_older.proofs.TableLemmas.{directory_spelled, each_append, each_listed, four_pairs, listed_few, one_pair, table_spelled}
use Rattle.std.proofs.lemmas.Grind.{common_steps}

-- ---- what is added of a table

pub directories_added : (count : ℕ) (directory listed o0 o1 o2 o3 o4 o5 : List ℕ) → o1 ≡ o0 ++ directory_head
    → Appends UnsignedLeb (count + 1) o1 o2 → o3 ≡ o2 ++ directory → o4 ≡ o3 ++ 0 ∷ [] → o5 ≡ o4 ++ listed
    → AddsTable directory_head (count + 1) ((directory ++ 0 ∷ []) ++ listed) o0 o5
directories_added count directory listed o0 o1 o2 o3 o4 o5 a s c d e = grind (arith, common_steps, append_assoc)

pub files_added : (count all : ℕ) (first listed o0 o1 o2 o3 o4 : List ℕ) → o1 ≡ o0 ++ file_head → IsCountFromZero count all
    → Appends UnsignedLeb all o1 o2 → o3 ≡ o2 ++ first → o4 ≡ o3 ++ listed → AddsFiles count (first ++ listed) o0 o4
files_added count all first listed o0 o1 o2 o3 o4 a count_is s c d = grind (arith, common_steps, append_assoc)

-- ---- the fields

pub fields_upgraded : (unit : OlderUnit) (directory zero_bytes o0 o1 o2 o3 o4 : List ℕ) → HasNoZero directory → IsOlderUnit unit
    → IsFileZero unit.format unit.order unit.header.files.count unit.header.files.bytes.now zero_bytes → o0 ≡ []
    → o1 ≡ (o0 ++ single_fields true unit.header.numbers) ++ unit.header.standard_lengths.now
    → AddsTable directory_head (unit.header.directories.count + 1) ((directory ++ 0 ∷ []) ++ unit.header.directories.bytes.now) o1 o2
    → AddsFiles unit.header.files.count (zero_bytes ++ unit.header.files.bytes.now) o2 o3 → o4 ≡ o3 ++ unit.header.extra.now
    → AreUpgradedFields unit directory o4
fields_upgraded unit directory zero_bytes o0 o1 o2 o3 o4 none is zero_is begun singles d f last size is_size ds fs lie =
    let o = unit.header in
    let single = single_fields true o.numbers ++ o.standard_lengths.now in
    let directory_entry = entry_of (Text directory ∷ []) in
    let directory_bytes = (directory ++ 0 ∷ []) ++ o.directories.bytes.now in
    let file_bytes = zero_bytes ++ o.files.bytes.now in
    let e4 : o4 ≡ single ++ d.table ++ f.added.table ++ o.extra.now = simp (last, f.added.joined, d.joined, singles, begun, append_assoc) in
    let first = zero_is fs lie.file_count lie.files_lie in
    let some : length (directory_entry ∷ ds) ≡ o.directories.count + 1 = omega (arith, lie.directory_count) in
    let directory_table : CountedTable directory_head (length (directory_entry ∷ ds)) directory_bytes d.table = rw some d.table_is in
    let files_are : CountedTable file_head (length (from_zero fs)) file_bytes f.added.table =
    rw (f.count_is fs lie.file_count) f.added.table_is in
    let listed = each_listed unit.format unit.order directory_pairs ds o.directories.bytes.now lie.directories_lie in
    let all_files = each_append (EntryBytes unit.format unit.order file_pairs) (take 1 fs) fs zero_bytes o.files.bytes.now
    first.spelled (each_listed unit.format unit.order file_pairs fs o.files.bytes.now lie.files_lie) in
    record {
      spelled = record {
        directories = d.table;
        files = f.added.table;
        numbers = moved_numbers unit.format (is.numbers size is_size);
        directory_table = table_spelled unit.format unit.order directory_pairs (1 ∷ 8 ∷ []) directory_bytes d.table
            (directory_entry ∷ ds) (omega arith) (λ e. absurd cc) one_pair directory_table
            (record {
              prefix = directory ++ 0 ∷ [];
              back = o.directories.bytes.now;
              first = directory_spelled unit.format unit.order directory none;
              second = listed;
              joined = refl;
            });
        file_table = table_spelled unit.format unit.order file_pairs (1 ∷ 8 ∷ 2 ∷ 15 ∷ 3 ∷ 15 ∷ 4 ∷ 15 ∷ []) file_bytes f.added.table
            (from_zero fs) (omega arith) (λ e. absurd cc) four_pairs files_are all_files;
        joined = e4;
      };
      copied = record {
        first = zero_bytes;
        first_file = first;
        directory_table = d.table;
        directories_are = rw lie.directory_count d.table_is;
        file_table = f.added.table;
        files_are = files_are;
        joined = e4;
      };
    }

-- their entries are fewer than their bytes
pub directories_few : (unit : OlderUnit) → IsOlderUnit unit → 2 * unit.header.directories.count ≤ length unit.header.directories.bytes.now
directories_few unit is = grind (arith, common_steps, listed_few)

pub files_there : (unit : OlderUnit) → IsOlderUnit unit
    → HasFiles unit.format unit.order unit.header.files.count unit.header.files.bytes.now
files_there unit is = record { files = is.files; count_is = is.lie.file_count; lie = is.lie.files_lie }

pub files_few : (unit : OlderUnit) → IsOlderUnit unit → 2 * unit.header.files.count ≤ length unit.header.files.bytes.now
files_few unit is = grind (arith, common_steps, listed_few)

-- ---- the whole unit

pub unit_added : (unit : OlderUnit) (size : ℕ) (directory fields named old new : List ℕ) → IsAddressSize size
    → AreUpgradedFields unit directory fields → named ≡ fields
    → AddsAround unit.order unit.format size named unit.program.now old new → AddsUpgraded unit size directory old new
unit_added unit size directory fields named old new is_size are is a ds fs lie =
    let b = rw is at a in
    let f = are size is_size ds fs lie in
    record {
      bytes = frame_bytes unit.order unit.format (around unit.order unit.format size fields unit.program.now);
      joined = b.joined;
      spelled = record {
        order_is = refl;
        spelled = record { fields = fields; counted = f.spelled; fits = b.fits; joined = refl };
      };
      copied = f.copied;
    }

pub unit_too_long : (unit : OlderUnit) (size : ℕ) (directory fields named : List ℕ) (fault : EncodeFault) → IsAddressSize size
    → IsOlderUnit unit → AreUpgradedFields unit directory fields → named ≡ fields
    → (fault ≡ TooLarge → LengthFits unit.format (length (around unit.order unit.format size named unit.program.now)) → ⊥)
    → fault ≡ TooLarge → IsTooLong unit size directory
unit_too_long unit size directory fields named fault is_size is_unit are is long large =
    let f = are size is_size is_unit.directories is_unit.files is_unit.lie in
    record {
      directories = is_unit.directories;
      files = is_unit.files;
      lie = is_unit.lie;
      fields = fields;
      spelled = f.spelled;
      copied = f.copied;
      too_long = rw is at (long large);
    }

-- what is as it was has nothing added
pub unchanged : (old : List ℕ) → Extends old old
unchanged old = record { more = []; joined = sym (append-nil old) }

-- The lemmas of `upgraded_fields`.
pub ruleset upgraded_fields_lemmas = (directories_few, files_few, files_there)
