-- Units whose rows name file 0, and a walk that looks for the first.
use Rattle.std.proofs.Common.{◌≡◌, ℕ, ◌<◌, List, [], ◌∷◌, ◌++◌, length, refl, sym, ap, subst, ◌∙◌, append_assoc, arith, Option, Some, None}
use Rattle.lnt_wire.specs.Reading.{At}
use Rattle.lnt_wire.specs.FrameBytes.{frame_bytes, LengthFits}
use Rattle.lnt_wire.specs.declared.format.Format.{Format}
use Rattle.lnt_wire.specs.declared.format.Order.{Order}
use Rattle.lnt_wire.proofs.LengthLaws.{same_rest}
use Rattle.lnt_header.specs.HeaderRules.{AreHeaderNumbers, IsAddressSize}
use Rattle.lnt_header.specs.Parts.{HeaderParts}
use Rattle.lnt_header.specs.declared.numbers.NumberParts.{NumberParts}
use Rattle.lnt_header_bytes.specs.HeaderFaults.{LengthsBytes}
use Rattle.lnt_older.specs.OlderBytes.{body_bytes, directory_pairs, file_pairs, has_max_ops}
use Rattle.lnt_older.specs.OlderBytes.{ListBytes, OlderBytesIn, OlderFieldsBytes, OlderVersion}
use Rattle.lnt_header_bytes.specs.HeaderFaults.{SinglesBytes, single_fields}
use Rattle.lnt_header_bytes.proofs.HeaderFrames.{singles_of}
use Rattle.lnt_older.specs.OlderFields.{header_of}
use Rattle.lnt_header_bytes.specs.declared.numbers.Singles.{Singles}
use Rattle.lnt_older.specs.OlderUnits.{AnyParts, IsOlderUnit, five_parts, older_parts, ReadsFive, ReadsOlder, unit_header, OlderUnit}
use Rattle.lnt_older.specs.FileZero.{AllNameFiles, HasFirstZeroRow, HasZeroRow, IsFirstOfBytes, IsFirstOfUnit, IsZeroRow, IsZeroRowAt}
use Rattle.lnt_older.specs.FileZero.{IsFirstOfProgram, JudgesRows, NamesFiles, numbers_of}
use Rattle.lnt_older.specs.Sections.{HasUnits}
use Rattle.lnt_older.specs.Upgradable.{AreLeft, IsUnitNext}
use Rattle.lnt_header_bytes.proofs.HeaderReaders.{lengths_code}
use Rattle.lnt_older.proofs.FieldLemmas.{list_code}
use Rattle.lnt_older.proofs.HeaderLemmas.{singles_in}
use Rattle.lnt_older.proofs.NoUnitLemmas.{one_body}
use Rattle.lnt_older.proofs.PlacedLaws.{left_all}
use Rattle.lnt_older.proofs.SameUnitLemmas.{same_body}
use Rattle.lnt_older.proofs.SectionLemmas.{IsSpelled, WalkedTo, any_long, fewer_left, unit_next, walked_all, walked_more, walked_none}
use Rattle.lnt_header_bytes.proofs.SoundLemmas.{singles_code}
use Rattle.lnt_older.proofs.UpgradeLaws.{five_not_older, five_read, older_read}
use Rattle.std.proofs.lemmas.Grind.{common_steps}

-- ---- the parts of an older unit are one

-- The bodies of two frames with the same bytes
record SameFrame (f g : Format) (v w : OlderVersion) (fields other program past : List ℕ) : Type 0 where
  pub format_is : f ≡ g
  pub version_is : v ≡ w
  pub fields_are : fields ≡ other
  pub program_is : program ≡ past

one_frame : (order : Order) (f g : Format) (v w : OlderVersion) (fields other program past bytes : List ℕ)
    → LengthFits f (length (body_bytes f order v fields program)) → LengthFits g (length (body_bytes g order w other past))
    → bytes ≡ frame_bytes order f (body_bytes f order v fields program) → bytes ≡ frame_bytes order g (body_bytes g order w other past)
    → SameFrame f g v w fields other program past
one_frame order f g v w fields other program past bytes fits fits' first second =
    let body = body_bytes f order v fields program in
    let body' = body_bytes g order w other past in
    let found = one_body order f g body body' [] [] (frame_bytes order f body ++ []) fits fits' refl
    (ap (λ (z : List ℕ). z ++ []) (sym second ∙ first)) in
    let moved : LengthFits f (length (body_bytes f order w other past)) = rw (← found.0) fits' in
    let same = same_body f order v w fields other program past fits moved
    (sym found.1 ∙ ap (λ (i : Format). body_bytes i order w other past) found.0) in
    record {
      format_is = sym found.0;
      version_is = same.version;
      fields_are = same.fields_are;
      program_is = same.program_is;
    }

one_numbers : (h k : HeaderParts) → h.numbers.order ≡ k.numbers.order → h.numbers.address_size ≡ k.numbers.address_size
    → singles_of h ≡ singles_of k → h.numbers.standard_lengths ≡ k.numbers.standard_lengths → h.numbers ≡ k.numbers
one_numbers h k order size numbers lengths = grind (arith, common_steps)

says_numbers : (v : OlderVersion) (h : HeaderParts) (fields : List ℕ) → OlderFieldsBytes v h fields
    → SinglesBytes (has_max_ops v) (singles_of h) (single_fields (has_max_ops v) (singles_of h))
says_numbers v h fields p = record {
  spelled = refl;
  says = p.operations;
  line_base = p.numbers.line_base;
  max_ops = p.numbers.max_ops;
  line_range = p.numbers.line_range;
  opcode_base = omega (arith, p.numbers.opcode_base);
}

-- the fields one after another, grouped to the right
fields_on : (v : OlderVersion) (h : HeaderParts) (fields : List ℕ) → (p : OlderFieldsBytes v h fields)
    → fields ≡ single_fields (has_max_ops v) (singles_of h) ++ (h.numbers.standard_lengths ++ (p.directories ++ (p.files ++ h.extra)))
fields_on v h fields p = p.joined ∙ simp (singles_in v h, append_assoc)

-- What header_length counts says one header, but for its directories.
one_fields : (v : OlderVersion) (h k : HeaderParts) (fields : List ℕ) → h.format ≡ k.format → h.numbers.order ≡ k.numbers.order
    → h.numbers.address_size ≡ k.numbers.address_size → OlderFieldsBytes v h fields → OlderFieldsBytes v k fields
    → (h.numbers ≡ k.numbers) × (h.files ≡ k.files)
one_fields v h k fields format order size p q =
    let n = single_fields (has_max_ops v) (singles_of h) in
    let m = single_fields (has_max_ops v) (singles_of k) in
    let l = h.numbers.standard_lengths in
    let j = k.numbers.standard_lengths in
    let all : n ++ (l ++ (p.directories ++ (p.files ++ h.extra))) ≡ m ++ (j ++ (q.directories ++ (q.files ++ k.extra))) =
    sym (fields_on v h fields p) ∙ fields_on v k fields q in
    let numbers = (singles_code (has_max_ops v)).one (singles_of h) (singles_of k) n m (l ++ (p.directories ++ (p.files ++ h.extra)))
    (j ++ (q.directories ++ (q.files ++ k.extra))) (says_numbers v h fields p) (says_numbers v k fields q) all in
    let past = same_rest n m (l ++ (p.directories ++ (p.files ++ h.extra))) (j ++ (q.directories ++ (q.files ++ k.extra))) numbers.1 all in
    let base : h.numbers.opcode_base ≡ k.numbers.opcode_base = ap (λ (o : Singles). o.opcode_base) numbers.0 in
    let others : LengthsBytes h.numbers.opcode_base j j = (base ∙ q.numbers.opcode_base, q.numbers.lengths, refl) in
    let lengths = (lengths_code h.numbers.opcode_base).one l j l j (p.directories ++ (p.files ++ h.extra))
    (q.directories ++ (q.files ++ k.extra)) (p.numbers.opcode_base, p.numbers.lengths, refl) others past in
    let lists = same_rest l j (p.directories ++ (p.files ++ h.extra)) (q.directories ++ (q.files ++ k.extra)) lengths.1 past in
    let directory_list : ListBytes h.format h.numbers.order directory_pairs k.directories q.directories =
    rw (format, order) q.directory_list in
    let file_list : ListBytes h.format h.numbers.order file_pairs k.files q.files = rw (format, order) q.file_list in
    let directories = (list_code h.format h.numbers.order directory_pairs).one h.directories k.directories p.directories q.directories
    (p.files ++ h.extra) (q.files ++ k.extra) p.directory_list directory_list lists in
    let rest = same_rest p.directories q.directories (p.files ++ h.extra) (q.files ++ k.extra) directories.1 lists in
    let files = (list_code h.format h.numbers.order file_pairs).one h.files k.files p.files q.files h.extra k.extra p.file_list file_list
    rest in
    (one_numbers h k order size numbers.0 lengths.0, files.0)

-- Two readings of one older unit.
record SameParts (h k : HeaderParts) (program past : List ℕ) : Type 0 where
  pub numbers : h.numbers ≡ k.numbers
  pub files : h.files ≡ k.files
  pub program_is : program ≡ past

same_parts : (order : Order) (size : ℕ) (h k : HeaderParts) (program past bytes : List ℕ) → OlderBytesIn order size (h, program) bytes
    → OlderBytesIn order size (k, past) bytes → SameParts h k program past
same_parts order size h k program past bytes a b =
    let p = a.spelled in
    let q = b.spelled in
    let same = one_frame order h.format k.format p.version q.version p.fields q.fields program past bytes (rw a.order_is at p.fits)
    (rw b.order_is at q.fits) (rw a.order_is at p.joined) (rw b.order_is at q.joined) in
    let counted : OlderFieldsBytes p.version k p.fields = rw (same.version_is, same.fields_are) q.counted in
    let found = one_fields p.version h k p.fields same.format_is (a.order_is ∙ sym b.order_is) (a.size_is ∙ sym b.size_is) p.counted
    counted in
    record { numbers = found.0; files = found.1; program_is = same.program_is }

-- ---- a unit that was read

pub numbers_sound : (unit : OlderUnit) (size : ℕ) (lengths : List ℕ) → IsAddressSize size → IsOlderUnit unit
    → lengths ≡ unit.header.standard_lengths.now
    → AreHeaderNumbers (header_of unit.format unit.order size unit.header.numbers lengths [] [] []).numbers
numbers_sound unit size lengths is u same = rw same (u.numbers size is)

-- whoever reads the unit finds the same rows
moved_row : (order : Order) (size index : ℕ) (h : HeaderParts) (program bytes : List ℕ) → OlderBytesIn order size (h, program) bytes
    → HasZeroRow order size bytes index → (0 < length h.files) × IsZeroRow h.numbers [] program index
moved_row order size index h program bytes older z =
    let same = same_parts order size z.header h z.program program bytes z.older older in (
      omega (arith, z.some, ap length same.files),
      subst (λ (n : NumberParts). IsZeroRow n [] program index) same.numbers
          (subst (λ (p : List ℕ). IsZeroRow z.header.numbers [] p index) same.program_is z.zero),
    )

pub first_of_unit : (unit : OlderUnit) (size : ℕ) (found : Option ℕ) (numbers : NumberParts) → 0 < unit.header.files.count
    → numbers ≡ numbers_of unit size → IsFirstOfProgram numbers unit.program.now found → IsFirstOfUnit unit size found
first_of_unit unit size None numbers some same first =
    λ _. subst (λ (n : NumberParts). IsFirstOfProgram n unit.program.now None) same first
first_of_unit unit size (Some index) numbers some same first =
    (some, subst (λ (n : NumberParts). IsFirstOfProgram n unit.program.now (Some index)) same first)

first_of_read : (unit : OlderUnit) (size : ℕ) (old next : At) (found : Option ℕ) (is : IsAddressSize size) (r : ReadsOlder unit old next)
    → IsFirstOfUnit unit size found → IsFirstOfBytes old.order size (r.read size is).spelling found
first_of_read unit size old next None is r none = λ index z.
    let one = r.read size is in
    let moved = moved_row old.order size index (unit_header unit size r.directories r.files) unit.program.now one.spelling one.spelled z in
    none (omega (arith, moved.0, r.lie.file_count)) index moved.1
first_of_read unit size old next (Some index) is r (some, (zero, first)) =
    let one = r.read size is in
    let h = unit_header unit size r.directories r.files in
    record {
      zero = record {
        header = h;
        program = unit.program.now;
        older = one.spelled;
        some = omega (arith, some, r.lie.file_count);
        zero = zero;
      };
      first = λ earlier lt z. first earlier lt (moved_row old.order size earlier h unit.program.now one.spelling one.spelled z).1;
    }

pub older_judged : (unit : OlderUnit) (size : ℕ) (old next : At) (found : Option ℕ) → IsAddressSize size → ReadsOlder unit old next
    → IsFirstOfUnit unit size found → JudgesRows size found old next
older_judged unit size old next found is r first = record {
  parts = older_parts (unit_header unit size r.directories r.files) unit.program.now;
  read = older_read unit size old next is r;
  first = first_of_read unit size old next found is r first;
}

pub five_judged : (bytes : List ℕ) (size : ℕ) (old next : At) → ReadsFive bytes old next → JudgesRows size None old next
five_judged bytes size old next r = record {
  parts = five_parts r.format r.body;
  read = five_read bytes old next r;
  first = λ index z. five_not_older old.order r.format r.body z.header z.program r.read.spelling r.read.spelled
      (z.older.order_is, z.older.spelled);
}

-- ---- the walk

-- No row of the units up to a cursor names file 0, and units are left.
pub record NamedTo (order : Order) (size : ℕ) (section : List ℕ) (at : At) : Type 0 where
  pub units : List (ℕ × AnyParts)
  pub walked : WalkedTo (λ o. NamesFiles o size) order section at units
  pub left : AreLeft IsSpelled at

pub judged_long : (size : ℕ) (found : Option ℕ) (at next : At) → JudgesRows size found at next → length next.rest < length at.rest
judged_long size found at next j = any_long at next j.parts j.read

module _ (order : Order) (size : ℕ) (section : List ℕ) where
  pub named_none : (at : At) → HasUnits order section → at.rest ≡ section → at.place ≡ 0 → at.order ≡ order
      → NamedTo order size section at
  named_none at units rest place ordered = record {
    units = [];
    walked = walked_none (λ o. NamesFiles o size) order section at rest place ordered;
    left = left_all IsSpelled order section at units rest place ordered;
  }

  pub named_more : (at next : At) → NamedTo order size section at → JudgesRows size None at next → NamedTo order size section next
  named_more at next s j = record {
    units = s.units ++ (at.place, j.parts) ∷ [];
    walked = walked_more (λ o. NamesFiles o size) order section at next s.units j.parts s.walked j.read
        (record { spelled = j.read.spelled; none = j.first });
    left = fewer_left IsSpelled (λ o unit bytes so. so) at next j.parts s.left j.read;
  }

  pub named_next : (at : At) → NamedTo order size section at → 0 < length at.rest → IsUnitNext at
  named_next at s some = unit_next IsSpelled (λ o unit bytes so. so) at s.left some

  pub named_all : (at : At) → NamedTo order size section at → length at.rest ≡ 0 → AllNameFiles order size section
  named_all at s ended = (s.units, walked_all (λ o. NamesFiles o size) order section at s.units s.walked ended)

  pub named_found : (at next : At) (offset index : ℕ) → NamedTo order size section at → JudgesRows size (Some index) at next
      → offset ≡ at.place → IsZeroRowAt order size section offset index
  named_found at next offset index s j here =
      let w = s.walked in
      record {
        prefix = w.done;
        unit = j.read.spelling;
        rest = next.rest;
        joined = w.joined ∙ ap (λ (z : List ℕ). w.done ++ z) j.read.whole;
        place = here ∙ w.place;
        before = (s.units, w.sound);
        names = subst (λ (o : Order). HasFirstZeroRow o size j.read.spelling index) w.order_is j.first;
      }

-- The lemmas of `judge_rows`.
pub ruleset judge_rows_lemmas = (named_none, named_more, named_all, named_found, judged_long)
