-- Where no unit of version 2 to 5 stands.
use Rattle.std.proofs.Common.{◌≡◌, ◌≢◌, ℕ, ◌<◌, ◌≤◌, ◌^◌, List, [], ◌++◌, length, refl, sym, ap, ◌∙◌, append_assoc, arith}
use Rattle.std.proofs.lemmas.List.{length-append, append-nil}
use Rattle.lnt_wire.specs.Reading.{At}
use Rattle.lnt_wire.specs.Bytes.{NoneSpelled}
use Rattle.lnt_wire.specs.FrameBytes.{frame_bytes, LengthFits, PrefixBytes, ReadsPrefix}
use Rattle.lnt_wire.specs.FrameFaults.{IsFrameFault, IsVersionFault}
use Rattle.lnt_wire.specs.Numbers.{number_bytes, offset_size}
use Rattle.lnt_wire.specs.declared.fault.Reason.{Reason}
use Rattle.lnt_wire.specs.declared.fault.Reason.TheVariants.{VersionNotFive}
use Rattle.lnt_wire.specs.declared.format.Format.{Format}
use Rattle.lnt_wire.specs.declared.format.Order.{Order}
use Rattle.lnt_wire.proofs.FrameLaws.{frame_prefix, no_frame, one_prefix, version_fault}
use Rattle.lnt_wire.proofs.LengthLaws.{length-number_bytes, same_prefix, same_length, same_number_prefix, width_2}
use Rattle.lnt_wire.proofs.ValueLaws.{offset_width}
use Rattle.lnt_header.specs.Parts.{HeaderParts}
use Rattle.lnt_header_bytes.specs.HeaderBytes.{CountedBytes}
use Rattle.lnt_header_bytes.proofs.HeaderLaws.{below}
use Rattle.lnt_older.specs.OlderBytes.{has_max_ops, older_body, OlderBytes, OlderFieldsBytes, version_number, OlderVersion}
use Rattle.lnt_older.specs.OlderFields.{FieldsOf}
use Rattle.lnt_header_bytes.specs.HeaderFaults.{single_fields}
use Rattle.lnt_older.specs.OlderUnits.{AnyBytes}
use Rattle.lnt_older.specs.OlderUnits.AnyParts.{five_parts, older_parts}
use Rattle.lnt_older.specs.UnitReading.{PastBytes}
use Rattle.lnt_wire.specs.declared.prefix.Prefix.{Prefix}
use Rattle.lnt_header_bytes.proofs.HeaderFrames.{singles_of}
use Rattle.lnt_older.proofs.HeaderLemmas.{singles_in}
use Rattle.std.proofs.lemmas.Grind.{common_steps}

pub to_pairs : (a b c d : List ℕ) → (a ++ (b ++ c)) ++ d ≡ (a ++ b) ++ (c ++ d)
to_pairs a b c d = simp append_assoc

-- ---- versions

pub small_version : (version : OlderVersion) → version_number version < 256 ^ 2
small_version version = grind (arith, common_steps)

pub not_five : (version : OlderVersion) → 5 ≡ version_number version → ⊥
not_five version e = grind (arith, common_steps)

pub same_version : (v w : OlderVersion) → version_number v ≡ version_number w → v ≡ w
same_version v w e = grind (arith, common_steps)

-- the reason isn't an older version
abbrev pub IsNoOlder : Reason → Type 0
IsNoOlder reason = (version : OlderVersion) → reason ≢ VersionNotFive (version_number version)

pub other_version : (order : Order) (reason : Reason) (version : OlderVersion) (left rest : List ℕ) → IsNoOlder reason
    → IsVersionFault order reason left → left ≡ number_bytes order 2 (version_number version) ++ rest → ⊥
other_version order reason version left rest other k e =
    grind (arith, common_steps, length-append, length-number_bytes, same_number_prefix, width_2, small_version)

-- ---- frames

-- an older unit is a unit of its version
older_prefix : (h : HeaderParts) (order : Order) (program x : List ℕ) → h.numbers.order ≡ order → (p : OlderBytes h program x)
    → PrefixBytes order (
      h.format,
      version_number p.version,
      number_bytes order (offset_size h.format) (length p.fields) ++ (p.fields ++ program),
    ) x
older_prefix h order program x is p =
    let n = h.numbers in
    let rest = number_bytes n.order (offset_size h.format) (length p.fields) ++ (p.fields ++ program) in
    let whole : older_body p.version h p.fields program ≡ number_bytes n.order 2 (version_number p.version) ++ rest = simp append_assoc in
    rw (← is) (record {
      small = small_version p.version;
      fits = rw whole at p.fits;
      joined = p.joined ∙ ap (λ (z : List ℕ). frame_bytes n.order h.format z) whole;
    })

-- where the initial length or the version is at fault
pub none_in_frame : (order : Order) (reason : Reason) (before from : List ℕ) → IsNoOlder reason → IsFrameFault order reason before from
    → NoneSpelled (AnyBytes order) (before ++ from)
none_in_frame order reason before from other h (five_parts format body) x more p e =
    no_frame order reason before from h (format, body) x more p e
none_in_frame order reason before from other h (older_parts parts program) x more p e =
    let unit = older_prefix parts order program x p.0 p.1 in
    other p.1.version (version_fault order reason before from h _ x more unit e).0

-- ---- what stands after the version

-- a header's fields are there
fields_none : (version : OlderVersion) (h : HeaderParts) (bytes : List ℕ) → OlderFieldsBytes version h bytes
    → NoneSpelled (FieldsOf version h.format h.numbers.order) bytes → ⊥
fields_none version h bytes p none =
    let numbers = single_fields (has_max_ops version) (singles_of h) in
    let lengths = h.numbers.standard_lengths in
    let some : 0 < h.numbers.opcode_base = omega (arith, p.numbers.opcode_base) in
    none (singles_of h, (lengths, (h.directories, h.files))) (numbers ++ (lengths ++ (p.directories ++ p.files))) h.extra
    (record {
      prefix = numbers;
      back = lengths ++ (p.directories ++ p.files);
      first = record {
        spelled = refl;
        says = p.operations;
        line_base = p.numbers.line_base;
        max_ops = p.numbers.max_ops;
        line_range = p.numbers.line_range;
        opcode_base = some;
      };
      second = record {
        prefix = lengths;
        back = p.directories ++ p.files;
        first = (p.numbers.opcode_base, p.numbers.lengths, refl);
        second = record
            { prefix = p.directories; back = p.files; first = p.directory_list; second = p.file_list; joined = refl };
        joined = refl;
      };
      joined = refl;
    }) (simp (p.joined, singles_in version h, append_assoc))

-- where header_length is at fault
pub none_counted : (format : Format) (version : OlderVersion) (order : Order) (bytes : List ℕ)
    → NoneSpelled (CountedBytes format order) bytes → NoneSpelled (PastBytes format version order) bytes
none_counted format version order bytes none unit x more p e =
    let number = number_bytes order (offset_size format) (length p.fields) in
    none p.fields (number ++ p.fields) (unit.1 ++ more)
    (record { prefix = number; back = p.fields; first = record { fits = p.small; spelled = refl }; second = refl; joined = refl })
    (sym (to_pairs number p.fields unit.1 more) ∙ (rw p.joined at e))

-- where a field that it counts is at fault
pub none_of_fields : (format : Format) (version : OlderVersion) (order : Order) (counted rest bytes : List ℕ)
    → length counted < 256 ^ offset_size format → bytes ≡ number_bytes order (offset_size format) (length counted) ++ (counted ++ rest)
    → NoneSpelled (FieldsOf version format order) counted → NoneSpelled (PastBytes format version order) bytes
none_of_fields format version order counted rest bytes small whole none unit x more p e =
    let found = same_number_prefix order (offset_size format) (offset_width format) (length p.fields) (length counted)
    (p.fields ++ (unit.1 ++ more)) (counted ++ rest) p.small small (simp (p.joined, append_assoc, whole) at e) in
    let same : p.fields ≡ counted = same_prefix p.fields counted (unit.1 ++ more) rest found.0 found.1 in
    fields_none version unit.0 p.fields p.counted (rw (p.format_is, p.order_is, same) none)

-- ---- whole units

pub one_body : (order : Order) (f g : Format) (body other left more bytes : List ℕ) → LengthFits f (length body)
    → LengthFits g (length other) → bytes ≡ frame_bytes order f body ++ left → frame_bytes order g other ++ more ≡ bytes
    → (g ≡ f) × (other ≡ body)
one_body order f g body other left more bytes fits fits' e d = grind (arith, common_steps, same_length, append_assoc, same_prefix)

-- where nothing of an older unit stands after its version
pub none_of_unit : (prefix : Prefix) (version : OlderVersion) (old new : At) → ReadsPrefix prefix old new
    → prefix.version ≡ version_number version
    → NoneSpelled (PastBytes prefix.format version old.order) prefix.past.now → NoneSpelled (AnyBytes old.order) old.rest
none_of_unit prefix version old new r version_is none (five_parts format body) x more p e =
    let found = one_prefix old.order (format, 5, p.version.past) (prefix.format, prefix.version, prefix.past.now) x r.read.spelling more
    new.rest (frame_prefix old.order format body x p) r.read.spelled (e ∙ r.read.whole) in
    not_five version (found.1 ∙ version_is)
none_of_unit prefix version old new r version_is none (older_parts h program) x more p e =
    let order = old.order in
    let q = p.1 in
    let past = number_bytes order (offset_size h.format) (length q.fields) ++ (q.fields ++ program) in
    let unit = older_prefix h order program x p.0 q in
    let found = one_prefix order (h.format, version_number q.version, past) (prefix.format, prefix.version, prefix.past.now) x
    r.read.spelling more new.rest unit r.read.spelled (e ∙ r.read.whole) in
    let body = number_bytes order 2 (version_number q.version) ++ past in
    let few : length q.fields ≤ length body = omega (arith, length-append {A = ℕ}) in
    none (h, program) prefix.past.now []
    (record {
      fields = q.fields;
      format_is = found.0;
      order_is = p.0;
      counted = rw (same_version q.version version (found.1 ∙ version_is)) at q.counted;
      small = rw found.0 at (below h.format (length body) (length q.fields) unit.fits few);
      joined = sym found.2 ∙ rw found.0 refl;
    }) (append-nil prefix.past.now)
