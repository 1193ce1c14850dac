-- What a unit says that was read where it lies; and that the bytes of a place are those of one unit.
use Rattle.std.proofs.Common.{◌≡◌, ℕ, ◌<◌, List, ◌++◌, length, refl, sym, subst, ◌∙◌, append_assoc, inr, arith, take, ap, ◌+◌, [], ◌∷◌}
use Rattle.std.proofs.lemmas.List.{append_cancel_right, length-append, append_cancel_left}
use Rattle.lnt_wire.specs.Reading.{At, Reads}
use Rattle.lnt_wire.specs.FrameBytes.{FrameBytes, frame_bytes, LengthFits}
use Rattle.lnt_wire.specs.declared.format.Format.{Format}
use Rattle.lnt_wire.specs.declared.format.Order.{Order}
use Rattle.lnt_wire.proofs.LengthLaws.{length-initial, same_number_prefix, width_2}
use Rattle.lnt_header.specs.HeaderRules.{IsAddressSize}
use Rattle.lnt_header.specs.Parts.{HeaderParts}
use Rattle.lnt_header_bytes.specs.HeaderBytes.{unit_body}
use Rattle.lnt_older.specs.OlderUnits.{AnyBytes, AnyParts, ReadsFive, ReadsOlder, unit_header, OlderUnit}
use Rattle.lnt_older.specs.OlderUnits.AnyParts.{five_parts, older_parts}
use Rattle.lnt_older.specs.Upgraded.{CopiedFields, upgraded, CountedTable, AddsUpgraded, IsTooLong}
use Rattle.lnt_older.proofs.NoUnitLemmas.{not_five, one_body, small_version}
use Rattle.lnt_older.proofs.SameUnitLemmas.{lies_in, one_header, same_unit}
use Rattle.std.proofs.lemmas.Grind.{common_steps}
use Rattle.lnt_header.proofs.ListLaws.{same_each}
use Rattle.lnt_header_bytes.proofs.ProgramLaws.{length-body}
use Rattle.lnt_header_bytes.proofs.TableLaws.{entry_code}
use Rattle.lnt_older.specs.OlderBytes.{file_pairs}
use Rattle.lnt_header.specs.Joins.{Each, PlacedFrom}
use Rattle.lnt_header.specs.declared.unit_parts.UnitParts.{UnitParts}
use Rattle.lnt_unit.specs.UnitBytes.{UnitBytesIn, UnitsFrom}
use Rattle.lnt_unit.proofs.FrameLaws.{unit_frame}
use Rattle.lnt_older.specs.Laws.{SameSection}
use Rattle.lnt_older.specs.Sections.{UpgradedBytes}
use Rattle.lnt_older.specs.declared.directories.Directory.{Directory}

-- ---- the fields of a unit that is written anew have one length

one_table : {head entries x y : List ℕ} {count : ℕ} → CountedTable head count entries x → CountedTable head count entries y
    → length x ≡ length y
one_table p q = grind (arith, common_steps, length-append)

pub one_length : {h : HeaderParts} {directory directories files x y : List ℕ} → CopiedFields h directory directories files x
    → CopiedFields h directory directories files y → length x ≡ length y
one_length {h} p q =
    let a = p.first_file in
    let b = q.first_file in
    let firsts =
    same_each (entry_code h.format h.numbers.order file_pairs) (take 1 h.files) (take 1 h.files) p.first q.first a.others b.others
    refl a.spelled b.spelled (sym a.joined ∙ b.joined) in
    let files_are = rw (sym firsts.1) at q.files_are in
    omega (
      arith,
      simp length-append at (ap length p.joined),
      simp length-append at (ap length q.joined),
      one_table p.directories_are q.directories_are,
      one_table p.files_are files_are,
    )

-- bodies are as long as their fields and programs
pub same_body_length : (h k : HeaderParts) (fields others program past : List ℕ) → h.format ≡ k.format → length fields ≡ length others
    → program ≡ past → length (unit_body h fields program) ≡ length (unit_body k others past)
same_body_length h k fields others program past format_is long same = grind (arith, common_steps, length-body)

-- ---- the bytes of a unit

-- An initial length, and the bytes that it counts.
record IsCounted (order : Order) (bytes : List ℕ) : Type 0 where
  pub format : Format
  pub body : List ℕ
  pub fits : LengthFits format (length body)
  pub joined : bytes ≡ frame_bytes order format body

counted : (order : Order) (parts : AnyParts) (x : List ℕ) → AnyBytes order parts x → IsCounted order x
counted order parts x p = grind (arith, common_steps)

-- a unit has bytes
pub some_bytes : (order : Order) (parts : AnyParts) (x : List ℕ) → AnyBytes order parts x → 0 < length x
some_bytes order parts x p = grind (arith, common_steps, counted, length-append, length-initial)

-- Two units that begin the same bytes have the same bytes.
pub any_once : (order : Order) (u v : AnyParts) (x y m n : List ℕ) → AnyBytes order u x → AnyBytes order v y → x ++ m ≡ y ++ n → x ≡ y
any_once order u v x y m n p q e =
    let a = counted order u x p in
    let b = counted order v y q in
    let found = one_body order a.format b.format a.body b.body m n (frame_bytes order a.format a.body ++ m) a.fits b.fits refl
    (sym (rw (a.joined, b.joined) at e)) in
    rw (a.joined, b.joined, found.0, found.1) refl

-- One format and one body have the same bytes.
pub frame_once : (order : Order) (format : Format) (body x y : List ℕ) → FrameBytes order (format, body) x
    → FrameBytes order (format, body) y → x ≡ y
frame_once order format body x y p q = p.joined ∙ sym q.joined

-- No unit of version 5 is an older one.
pub five_not_older : (order : Order) (format : Format) (body : List ℕ) (h : HeaderParts) (program x : List ℕ)
    → AnyBytes order (five_parts format body) x → AnyBytes order (older_parts h program) x → ⊥
five_not_older order format body h program x five older =
    grind (arith, common_steps, one_body, same_number_prefix, width_2, small_version, append_assoc, not_five)

-- ---- what was read

-- a unit of version 5 by its parts
abbrev pub five_read : (bytes : List ℕ) (old new : At) → (r : ReadsFive bytes old new)
    → Reads (AnyBytes old.order) (five_parts r.format r.body) old new
five_read bytes old new r = record {
  spelling = r.read.spelling;
  spelled = r.read.spelled;
  whole = r.read.whole;
  place = r.read.place;
  order = r.read.order;
}

-- an older one, at this address size
abbrev pub older_read : (unit : OlderUnit) (size : ℕ) (old new : At) → IsAddressSize size → (r : ReadsOlder unit old new)
    → Reads (AnyBytes old.order) (older_parts (unit_header unit size r.directories r.files) unit.program.now) old new
older_read unit size old new is_size r =
    let one = r.read size is_size in
    record {
      spelling = one.spelling;
      spelled = (one.spelled.order_is, one.spelled.spelled);
      whole = one.whole;
      place = one.place;
      order = one.order;
    }

-- Where a unit of version 5 was read, no older one is read from the same bytes.
pub only_five : (order : Order) (bytes five : List ℕ) (v : OlderUnit) (at next bt after : At) → at.order ≡ order → bt.order ≡ order
    → ReadsFive five at next → at.rest ≡ bytes ++ next.rest → ReadsOlder v bt after → bt.rest ≡ bytes ++ after.rest → ⊥
only_five order bytes five v at next bt after here there r first s second =
    let p = r.read in
    let q = s.read 8 (inr (inr refl)) in
    let same = append_cancel_right p.spelling bytes next.rest (sym p.whole ∙ first) in
    let other = append_cancel_right q.spelling bytes after.rest (sym q.whole ∙ second) in
    five_not_older order r.format r.body (unit_header v 8 s.directories s.files) v.program.now bytes (rw (here, same) at p.spelled)
    (q.spelled.order_is ∙ there, rw other at q.spelled.spelled)

-- ---- what was written anew

-- What was added for a unit fits its format, however the unit is read again from the same bytes.
pub one_fit : (order : Order) (u v : OlderUnit) (at next bt after : At) (size : ℕ) (directory old new bytes : List ℕ) → at.order ≡ order
    → bt.order ≡ order → IsAddressSize size → ReadsOlder u at next → at.rest ≡ bytes ++ next.rest → ReadsOlder v bt after
    → bt.rest ≡ bytes ++ after.rest → AddsUpgraded u size directory old new → IsTooLong v size directory → ⊥
one_fit order u v at next bt after size directory old new bytes here there is_size r first s second adds long =
    let same = same_unit u v size order at next bt after bytes is_size here there r first s second in
    let added = adds long.directories long.files (lies_in u v long.directories long.files same long.lie) in
    let h = unit_header u size long.directories long.files in
    let k = unit_header v size long.directories long.files in
    let b = added.spelled.spelled in
    let copied : CopiedFields h directory u.header.directories.bytes.now u.header.files.bytes.now long.fields =
    rw (same.header.directories, same.header.files)
    (subst (λ (g : HeaderParts). CopiedFields g directory v.header.directories.bytes.now v.header.files.bytes.now long.fields)
    (one_header u v size long.directories long.files same) long.copied) in
    let bodies = same_body_length (upgraded directory h) (upgraded directory k) b.fields long.fields u.program.now v.program.now
    same.format_is (one_length added.copied copied) same.program_is in
    let fits : LengthFits v.format (length (unit_body (upgraded directory h) b.fields u.program.now)) =
    subst (λ (f : Format). LengthFits f (length (unit_body (upgraded directory h) b.fields u.program.now))) same.format_is b.fits in
    long.too_long (rw bodies at fits)

-- ---- a section of version 5 alone is written anew as itself

-- the format and the body of a unit of version 5
abbrev five_of : (order : Order) (unit : UnitParts) (x : List ℕ) → (p : UnitBytesIn order unit x) → AnyParts
five_of order unit x p = five_parts unit.header.format (unit_body unit.header p.spelled.whole.fields p.spelled.program)

same_from : (order : Order) (directories : List Directory) (m n : ℕ) (units : List (ℕ × UnitParts)) (others : List (ℕ × AnyParts))
    (section result : List ℕ) → UnitsFrom order m units section → PlacedFrom (λ unit. AnyBytes order unit.1) n others section
    → Each (UpgradedBytes order directories) others result → result ≡ section
same_from order directories m n [] [] section result p q e = e ∙ sym p
same_from order directories m n [] (other ∷ others) section result p (prefix, back, here, so, joined, rest) e =
    absurd (omega (arith, some_bytes order other.1 prefix so, ap length joined, ap length p, length-append prefix back))
same_from order directories m n (unit ∷ units) [] section result (prefix, back, here, spelled, joined, rest) q e =
    absurd (omega (
      arith,
      some_bytes order (five_of order unit.1 prefix spelled) prefix (unit_frame order unit.1 prefix spelled),
      ap length joined,
      ap length q,
      length-append prefix back,
    ))
same_from order directories m n (unit ∷ units) ((offset, five_parts format body) ∷ others) section result
    (prefix, back, here, spelled, joined, rest) (first, after, there, so, whole, more) e =
    let same : prefix ≡ first = any_once order (five_of order unit.1 prefix spelled) (five_parts format body) prefix first back after
    (unit_frame order unit.1 prefix spelled) so (sym joined ∙ whole) in
    let past : back ≡ after = append_cancel_left first back after (ap (λ (z : List ℕ). z ++ back) (sym same) ∙ (sym joined ∙ whole)) in
    let copied : e.prefix ≡ first = frame_once order format body e.prefix first e.first so in
    let later : e.back ≡ after = same_from order directories (m + length prefix) (n + length first) units others after e.back
    (subst (λ (z : List ℕ). UnitsFrom order (m + length prefix) units z) past rest) more e.second in
    e.joined ∙ (ap (λ (z : List ℕ). z ++ e.back) copied ∙ (ap (λ (z : List ℕ). first ++ z) later ∙ sym whole))
same_from order directories m n (unit ∷ units) ((offset, older_parts h program) ∷ others) section result
    (prefix, back, here, spelled, joined, rest) (first, after, there, so, whole, more) e =
    let five = unit_frame order unit.1 prefix spelled in
    let same : prefix ≡ first = any_once order (five_of order unit.1 prefix spelled) (older_parts h program) prefix first back after five so
    (sym joined ∙ whole) in
    absurd (five_not_older order unit.1.header.format (unit_body unit.1.header spelled.spelled.whole.fields spelled.spelled.program) h
    program prefix five (subst (λ (z : List ℕ). AnyBytes order (older_parts h program) z) (sym same) so))

pub same_section : SameSection
same_section order size directories units section result sound u = grind (arith, common_steps, same_from)
