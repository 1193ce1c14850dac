-- Headers in the frames that they stand in: what was found, and why none is there.
use Rattle.std.proofs.Common.{◌≡◌, ℕ, ◌+◌, ◌^◌, ◌<◌, ◌≤◌, List, [], ◌∷◌, ◌++◌, length, refl, sym, ap, subst, ◌∙◌, append_assoc, arith}
use Rattle.std.proofs.lemmas.List.{append_cancel_left, append-nil, length-append}
use Rattle.lnt_wire.specs.Reading.{At, Reads, Refuses}
use Rattle.lnt_wire.specs.Bytes.{NoneSpelled}
use Rattle.lnt_wire.specs.FrameBytes.{version_five, frame_bytes, initial_length, LengthFits}
use Rattle.lnt_wire.specs.FrameFaults.{InFrame}
use Rattle.lnt_wire.proofs.LengthLaws.{same_prefix, same_length, length-number_bytes}
use Rattle.lnt_wire.specs.Numbers.{number_bytes, offset_size}
use Rattle.lnt_wire.specs.declared.fault.Fault.{Fault}
use Rattle.lnt_wire.specs.declared.format.Format.{Format}
use Rattle.lnt_wire.specs.declared.format.Order.{Order}
use Rattle.lnt_header.specs.Parts.{HeaderParts}
use Rattle.lnt_header_bytes.specs.Broken.{InHeader, sound_start, IsFirstField, BrokenHeader}
use Rattle.lnt_header_bytes.specs.Broken.IsFirstField.{start}
use Rattle.lnt_header_bytes.specs.FieldsBytes.{FieldsBytes}
use Rattle.lnt_header_bytes.specs.HeaderFaults.{IsHeaderFault, Singles, IsStartFault}
use Rattle.lnt_header_bytes.specs.HeaderBytes.{HeaderFieldsBytes, unit_body, HeaderBytesIn, StartBytes}
use Rattle.lnt_header_bytes.specs.HeaderReading.{standing, IsAfterVersion, HasFields}
use Rattle.lnt_header.specs.HeaderRules.{IsAddressSize, six_bytes}
use Rattle.lnt_header_bytes.proofs.DecodeLemmas.{joined_fields}
use Rattle.lnt_header_bytes.proofs.HeaderLaws.{regroup, same_around, below}
use Rattle.lnt_header_bytes.proofs.ProgramLaws.{length-body}
use Rattle.lnt_header_bytes.specs.HeaderPuts.{around}
use Rattle.lnt_header_bytes.proofs.StartReaders.{start_spelled}
use Rattle.lnt_header_bytes.proofs.TableLaws.{joins}
use Rattle.lnt_header_bytes.specs.TableBytes.{TableOf}
use Rattle.lnt_header_bytes.proofs.Places.{at_header, at_start}
use Rattle.std.proofs.lemmas.Grind.{common_steps}

-- ---- a header and a program in a frame

pub record Candidate (order : Order) (format : Format) (body : List ℕ) (unit : HeaderParts × List ℕ) : Type 0 where
  pub fields : List ℕ
  pub counted : HeaderFieldsBytes unit.0 fields
  pub format_is : unit.0.format ≡ format
  pub order_is : unit.0.numbers.order ≡ order
  pub body_is : body ≡ around order format unit.0.numbers.address_size fields unit.1
  pub small : length fields < 256 ^ offset_size format

candidate : (order : Order) (format : Format) (body : List ℕ) → LengthFits format (length body)
    → (unit : HeaderParts × List ℕ) (x more : List ℕ) → HeaderBytesIn order unit x → x ++ more ≡ frame_bytes order format body
    → Candidate order format body unit
candidate order format body fits unit x more p e =
    let h = unit.0 in
    let s = p.spelled in
    let whole = unit_body h s.fields unit.1 in
    let spread : initial_length h.format order (length whole) ++ (whole ++ more) ≡ initial_length format order (length body) ++ body =
    ap (λ (o : Order). initial_length h.format o (length whole) ++ (whole ++ more)) (sym p.order_is)
    ∙ sym (append_assoc (initial_length h.format h.numbers.order (length whole)) whole more) ∙ ap (λ (z : List ℕ). z ++ more) (sym
    s.joined) ∙ e in
    let lengths = same_length order h.format format (length whole) (length body) (whole ++ more) body s.fits fits spread in
    let wholes : whole ≡ body = same_prefix whole body more [] lengths.number (lengths.past ∙ sym (append-nil body)) in
    let over : whole ≡ around order format h.numbers.address_size s.fields unit.1 =
    ap (λ (o : Order). around o h.format h.numbers.address_size s.fields unit.1) p.order_is
    ∙ ap (λ (f : Format). around order f h.numbers.address_size s.fields unit.1) lengths.format in
    let small : length s.fields < 256 ^ offset_size h.format = below h.format (length whole) (length s.fields) s.fits
    (omega (arith, length-body h s.fields unit.1)) in
    record {
      fields = s.fields;
      counted = s.counted;
      format_is = lengths.format;
      order_is = p.order_is;
      body_is = sym wholes ∙ over;
      small = subst (λ (f : Format). length s.fields < 256 ^ offset_size f) lengths.format small;
    }

-- what stands after the version
after_version : (order : Order) (format : Format) (a : ℕ) (fields program rest : List ℕ)
    → version_five order ++ rest ≡ around order format a fields program
    → rest ≡ (a ∷ 0 ∷ []) ++ (number_bytes order (offset_size format) (length fields) ++ (fields ++ program))
after_version order format a fields program rest e = grind (arith, common_steps, append_cancel_left, regroup)

-- ---- the start

no_start : (order : Order) (format : Format) (body rest : List ℕ) (unit : HeaderParts × List ℕ) → body ≡ version_five order ++ rest
    → NoneSpelled (StartBytes format order) rest → Candidate order format body unit → ⊥
no_start order format body rest unit joined none c =
    let a = unit.0.numbers.address_size in
    let number = number_bytes order (offset_size format) (length c.fields) in
    let past = after_version order format a c.fields unit.1 rest (sym joined ∙ c.body_is) in
    none (a, (0, c.fields)) (a ∷ 0 ∷ (number ++ c.fields)) unit.1
    (start_spelled format order a c.fields c.counted.numbers.address_size c.small)
    (ap (λ (z : List ℕ). a ∷ 0 ∷ z) (append_assoc number c.fields unit.1) ∙ sym past)

-- the bytes of a frame up to the end of its version
head_of : Order → Format → List ℕ → List ℕ
head_of order format body = initial_length format order (length body) ++ version_five order

length-head : (order : Order) (format : Format) (body : List ℕ)
    → length (head_of order format body) ≡ length (initial_length format order (length body)) + 2
unfolding head_of
length-head order format body = length-append (initial_length format order (length body)) (version_five order)
    ∙ ap (λ (n : ℕ). length (initial_length format order (length body)) + n) (length-number_bytes order 2 5)

pub refuses_start : (order : Order) (format : Format) (offset : ℕ) (body : List ℕ) (old : At) (fault : Fault)
    → LengthFits format (length body) → IsAfterVersion order format offset body old
    → Refuses (IsStartFault format old.order) (StartBytes format old.order) old fault
    → BrokenHeader order fault offset (frame_bytes order format body)
unfolding head_of
refuses_start order format offset body old fault fits b there =
    let r : Refuses (IsStartFault format order) (StartBytes format order) old fault =
    subst (λ (o : Order). Refuses (IsStartFault format o) (StartBytes format o) old fault) b.order_is there in
    let initial = initial_length format order (length body) in
    let version = version_five order in
    let body_is : body ≡ (version ++ r.before) ++ r.left =
    b.joined ∙ ap (λ (z : List ℕ). version ++ z) r.split ∙ sym (append_assoc version r.before r.left) in
    let in_frame : InFrame order format (version ++ r.before) r.left ((initial ++ version) ++ r.before) r.left = record {
      more = [];
      fits = subst (λ (z : List ℕ). LengthFits format (length z)) body_is fits;
      before_is = append_assoc initial version r.before
          ∙ ap (λ (z : List ℕ). initial_length format order (length z) ++ (version ++ r.before)) body_is;
      from_is = sym (append-nil r.left);
    } in
    let long = length-head order format body in
    let some : 0 < length ((initial ++ version) ++ r.before) = omega (arith, length-append (initial ++ version) r.before, long) in
    record {
      broken = record {
        none =
            λ unit x more p e. no_start order format body old.rest unit b.joined r.none (candidate order format body fits unit x more p e);
        before = (initial ++ version) ++ r.before;
        from = r.left;
        split = ap (λ (z : List ℕ). initial ++ z) body_is ∙ sym (append_assoc initial (version ++ r.before) r.left)
            ∙ ap (λ (z : List ℕ). z ++ r.left) (sym (append_assoc initial version r.before));
        place = omega (arith, r.place, b.place_is, length-append (initial ++ version) r.before, long);
        reason = at_start order format fault.reason (initial ++ version) r.before r.left r.left in_frame some r.reason;
      };
      first = start format r.before r.left in_frame r.reason;
    }

-- ---- what header_length counts

-- where the bytes that header_length counts stand
record Counted (order : Order) (format : Format) (offset : ℕ) (body : List ℕ) (size : ℕ) (counted program : List ℕ) (place : ℕ) : Type
    0 where
  address_size : IsAddressSize size
  laid_out : body ≡ around order format size counted program
  small : length counted < 256 ^ offset_size format
  place_is : place ≡ offset + length (initial_length format order (length body)) + 4 + offset_size format

counted_by : (order : Order) (format : Format) (offset : ℕ) (body : List ℕ) (size zero_size place : ℕ) (counted : List ℕ) (old new : At)
    → IsAfterVersion order format offset body old
    → Reads (StartBytes format old.order) (size, (zero_size, counted)) old new → place + length counted ≡ new.place
    → Counted order format offset body size counted new.rest place
counted_by order format offset body size zero_size place counted old new b there placed =
    grind (arith, common_steps, append_assoc, length-number_bytes, regroup, length-append)

pub counted_before : (order : Order) (format : Format) (size zero_size : ℕ) (counted : List ℕ) (old new : At)
    → Reads (StartBytes format order) (size, (zero_size, counted)) old new → length counted ≤ new.place
counted_before order format size zero_size counted old new r = grind (arith, common_steps, length-append)

abbrev pub singles_of : HeaderParts → Singles
singles_of h = record {
  minimum_instruction_length = h.numbers.minimum_instruction_length;
  max_ops = h.numbers.max_ops;
  default_is_stmt = h.numbers.default_is_stmt;
  line_base = h.numbers.line_base;
  line_range = h.numbers.line_range;
  opcode_base = h.numbers.opcode_base;
}

no_fields : (order : Order) (format : Format) (body : List ℕ) (size : ℕ) (counted program : List ℕ) (offset place : ℕ)
    (unit : HeaderParts × List ℕ) → Counted order format offset body size counted program place
    → NoneSpelled (FieldsBytes format order) counted → Candidate order format body unit → ⊥
no_fields order format body size counted program offset place unit at none c =
    let h = unit.0 in
    let p = c.counted in
    let same = same_around order format size h.numbers.address_size counted c.fields program unit.1 at.small
    c.small (sym at.laid_out ∙ c.body_is) in
    let directories : TableOf format order (h.directory_format, h.directories) p.directories =
    rw (← c.format_is, ← c.order_is) p.directory_table in
    let files : TableOf format order (h.file_format, h.files) p.files = rw (← c.format_is, ← c.order_is) p.file_table in
    none (singles_of h, (h.numbers.standard_lengths, ((h.directory_format, h.directories), (h.file_format, h.files))))
    (six_bytes h.numbers ++ (h.numbers.standard_lengths ++ (p.directories ++ p.files))) h.extra
    (joins (six_bytes h.numbers) (h.numbers.standard_lengths ++ (p.directories ++ p.files))
    (record {
      spelled = refl;
      says = tt;
      line_base = p.numbers.line_base;
      max_ops = p.numbers.max_ops;
      line_range = p.numbers.line_range;
      opcode_base = omega (arith, p.numbers.opcode_base);
    }) (joins h.numbers.standard_lengths (p.directories ++ p.files) (p.numbers.opcode_base, p.numbers.lengths, refl)
    (joins p.directories p.files directories files)))
    (joined_fields (six_bytes h.numbers) h.numbers.standard_lengths p.directories p.files h.extra ∙ sym p.joined ∙ sym same.header)

pub refuses_fields : (order : Order) (format : Format) (offset : ℕ) (body : List ℕ) (size zero_size place : ℕ) (counted : List ℕ)
    (old new : At) (fault : Fault) → LengthFits format (length body)
    → IsAfterVersion order format offset body old → Reads (StartBytes format old.order) (size, (zero_size, counted)) old new
    → place + length counted ≡ new.place
    → Refuses (IsHeaderFault format order) (FieldsBytes format order) (standing place counted order) fault
    → BrokenHeader order fault offset (frame_bytes order format body)
refuses_fields order format offset body size zero_size place counted old new fault fits b there placed r =
    let at = counted_by order format offset body size zero_size place counted old new b there placed in
    let initial = initial_length format order (length body) in
    let start_bytes = sound_start order size in
    let number = number_bytes order (offset_size format) (length counted) in
    let head = initial ++ (start_bytes ++ number) in
    let number_is : number ≡ number_bytes order (offset_size format) (length (r.before ++ r.left)) =
    ap (λ (z : List ℕ). number_bytes order (offset_size format) (length z)) r.split in
    let fields = start_bytes ++ number_bytes order (offset_size format) (length (r.before ++ r.left)) ++ r.before in
    let fields_are : (start_bytes ++ number) ++ r.before ≡ fields = ap (λ (z : List ℕ). start_bytes ++ z ++ r.before) number_is in
    let body_is : body ≡ fields ++ (r.left ++ new.rest) =
    at.laid_out ∙ ap (λ (z : List ℕ). start_bytes ++ number ++ z ++ new.rest) r.split ∙ shift start_bytes number r.before r.left new.rest
    ∙ ap (λ (z : List ℕ). z ++ (r.left ++ new.rest)) fields_are in
    let in_frame : InFrame order format fields (r.left ++ new.rest) (head ++ r.before) (r.left ++ new.rest) = record {
      more = [];
      fits = subst (λ (z : List ℕ). LengthFits format (length z)) body_is fits;
      before_is = append_assoc initial (start_bytes ++ number) r.before
          ∙ ap (λ (z : List ℕ). initial_length format order (length z) ++ ((start_bytes ++ number) ++ r.before)) body_is
          ∙ ap (λ (z : List ℕ). initial_length format order (length (fields ++ (r.left ++ new.rest))) ++ z) fields_are;
      from_is = sym (append-nil (r.left ++ new.rest));
    } in
    let in_header : InHeader order r.before r.left (head ++ r.before) (r.left ++ new.rest) =
    record { format = format; address_size = size; program = new.rest; address_size_is = at.address_size; in_frame = in_frame } in
    let long_start : length start_bytes ≡ 4 =
    length-append (version_five order) (size ∷ 0 ∷ []) ∙ ap (λ (n : ℕ). n + 2) (length-number_bytes order 2 5) in
    let long_number : length number ≡ offset_size format = length-number_bytes order (offset_size format) (length counted) in
    let long : length head ≡ length initial + 4 + offset_size format =
    omega (arith, length-append initial (start_bytes ++ number), length-append start_bytes number, long_start, long_number) in
    record {
      broken = record {
        none = λ unit x more p e. no_fields order format body size counted new.rest offset place unit at r.none
            (candidate order format body fits unit x more p e);
        before = head ++ r.before;
        from = r.left ++ new.rest;
        split = ap (λ (z : List ℕ). initial ++ z) (body_is ∙ ap (λ (z : List ℕ). z ++ (r.left ++ new.rest)) (sym fields_are))
            ∙ sym (append_assoc initial ((start_bytes ++ number) ++ r.before) (r.left ++ new.rest))
            ∙ ap (λ (z : List ℕ). z ++ (r.left ++ new.rest)) (sym (append_assoc initial (start_bytes ++ number) r.before));
        place = omega (arith, r.place, at.place_is, length-append head r.before, long);
        reason = at_header order format fault.reason head r.before r.left (r.left ++ new.rest) in_header
            (omega (arith, length-append head r.before, long)) r.reason;
      };
      first = IsFirstField.counted r.before r.left in_header r.reason;
    }
  where
    shift : (a b c d e : List ℕ) → a ++ b ++ (c ++ d) ++ e ≡ ((a ++ b) ++ c) ++ (d ++ e)
    shift a b c d e = simp append_assoc

-- ---- the whole header

pub header_found : (order : Order) (format : Format) (offset : ℕ) (body : List ℕ) (size zero_size place : ℕ) (counted program : List ℕ)
    (old new : At) (h : HeaderParts) → LengthFits format (length body)
    → IsAfterVersion order format offset body old → Reads (StartBytes format old.order) (size, (zero_size, counted)) old new
    → place + length counted ≡ new.place → program ≡ new.rest
    → HasFields format order size counted h → HeaderBytesIn order (h, program) (frame_bytes order format body)
header_found order format offset body size zero_size place counted program old new h fits b there placed program_is has =
    grind (arith, common_steps, counted_by)

-- The lemmas of `view_header`.
pub ruleset view_header_lemmas = (refuses_start, refuses_fields, header_found)
