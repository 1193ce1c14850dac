-- Why no unit stands in a frame: the frame, its header or its operations are at fault.
use Rattle.std.proofs.Common.{◌≡◌, ℕ, ◌+◌, ◌<◌, List, [], ◌∷◌, ◌++◌, length, refl, sym, ap, subst, ◌∙◌, append_assoc, arith, inl}
use Rattle.std.proofs.Common.{slice_index, append-nil, length-append}
use Rattle.lnt_wire.specs.Reading.{At, Refuses}
use Rattle.lnt_wire.specs.FrameBytes.{FrameBytes, version_five, initial_length, LengthFits}
use Rattle.lnt_wire.specs.FrameFaults.{InFrame, IsFrameFault}
use Rattle.lnt_wire.proofs.LengthLaws.{length-initial}
use Rattle.lnt_wire.specs.Numbers.{number_bytes, offset_size}
use Rattle.lnt_wire.specs.declared.fault.Fault.{Fault}
use Rattle.lnt_wire.specs.declared.fault.Reason.{Reason}
use Rattle.lnt_wire.specs.declared.fault.Reason.TheVariants.{Truncated, ReservedLength, VersionNotFive}
use Rattle.lnt_wire.specs.declared.format.Format.{Format}
use Rattle.lnt_wire.specs.declared.format.Order.{Order}
use Rattle.lnt_wire.specs.declared.format.Order.TheVariants.{Little, Big}
use Rattle.lnt_header_bytes.specs.Broken.{Broken, IsAt, BrokenHeader}
use Rattle.lnt_header_bytes.specs.Broken.IsFirstField.{frame}
use Rattle.lnt_header.specs.FieldFaults.{IsCutField, IsWrongLength}
use Rattle.lnt_header.specs.FieldFaults.IsCutField.{number}
use Rattle.lnt_header_bytes.specs.HeaderBytes.{unit_body, HeaderBytes, HeaderBytesIn}
use Rattle.lnt_header.specs.Joins.{Each}
use Rattle.lnt_header_bytes.proofs.HeaderLaws.{same_header}
use Rattle.lnt_header.proofs.ReaderLaws.{cut_later}
use Rattle.lnt_header.specs.Parts.{HeaderParts}
use Rattle.lnt_ops.specs.OpBytes.{OpBytes}
use Rattle.lnt_ops.specs.OpFaults.{IsOpFault}
use Rattle.lnt_ops.specs.OpFaults.IsOpFault.{cut_field, large_number, wrong_length}
use Rattle.lnt_ops.specs.Programs.{BrokenProgram}
use Rattle.lnt_unit.specs.BrokenUnits.{BeginsWithHeader, BrokenUnit}
use Rattle.lnt_unit.proofs.UnitLaws.{header_of}
use Rattle.lnt_unit.proofs.FrameLaws.{header_frame, unit_frame}
use Rattle.lnt_unit.specs.UnitBytes.{UnitBytesIn}

-- ---- the frame

frame_at : (order : Order) (reason : Reason) (before from : List ℕ) → IsFrameFault order reason before from → IsAt order reason before from
frame_at order Truncated [] from h = h
frame_at order Truncated (b ∷ before) from h = (h.1, inl (h.0, [], h.3), number 2 (omega arith) h.2)
frame_at order ReservedLength before from h = h
frame_at order (VersionNotFive version) before from h = h
frame_at order reason before from h = absurd h

pub frame_broken : (order : Order) (old : At) (fault : Fault) → Refuses (IsFrameFault order) (FrameBytes order) old fault
    → BrokenUnit order fault old.place old.rest
frame_broken order old fault r = record {
  broken = record {
    none = λ unit x more p e. r.none _ x more (unit_frame order unit x p) e;
    before = r.before;
    from = r.left;
    split = r.split;
    place = r.place;
    reason = frame_at order fault.reason r.before r.left r.reason;
  };
  in_header = λ none. frame r.reason;
  in_program = λ header place program g. absurd
      (r.none _ g.prefix g.more (header_frame order header program g.prefix g.spelled) (sym g.joined));
}

-- ---- the header

pub header_broken : (order : Order) (fault : Fault) (offset : ℕ) (bytes : List ℕ) → BrokenHeader order fault offset bytes
    → BrokenUnit order fault offset bytes
header_broken order fault offset bytes header_fault =
    let b = header_fault.broken in
    record {
      broken = record {
        none = λ unit x more p e. b.none (unit.header, p.spelled.program) x more (header_of order unit x p) e;
        before = b.before;
        from = b.from;
        split = b.split;
        place = b.place;
        reason = b.reason;
      };
      in_header = λ none. header_fault.first;
      in_program = λ header place program g. absurd (b.none (header, program) g.prefix g.more g.spelled (sym g.joined));
    }

-- ---- the operations

cut_at : (order : Order) (format : Format) (fields left before from : List ℕ) → 0 < length before
    → InFrame order format fields left before from → IsCutField before left → IsAt order Truncated before from
cut_at order format fields left [] from some w h = absurd (omega arith)
cut_at order format fields left (b ∷ before) from some w h = (left, inl (format, fields, w), h)

-- the fields of a body up to its program
fields_of : HeaderParts → List ℕ → List ℕ
fields_of h fields =
    version_five h.numbers.order ++ (h.numbers.address_size ∷ 0 ∷ []) ++ number_bytes h.numbers.order (offset_size h.format) (length fields)
    ++ fields

size_of : (order : Order) (size : ℕ) (a b c : List ℕ) → slice_index ((version_five order ++ (size ∷ 0 ∷ []) ++ a ++ b) ++ c) 2 ≡ size
size_of Little size a b c = refl
size_of Big size a b c = refl

op_at : (order : Order) (format : Format) (reason : Reason) (size : ℕ) (initial head before left from : List ℕ) → 0 < length initial
    → slice_index (head ++ before) 2 ≡ size
    → InFrame order format (head ++ before) left (initial ++ (head ++ before)) from → IsOpFault size reason before left
    → IsAt order reason (initial ++ (head ++ before)) from
op_at order format reason size initial head before left from some is w (cut_field reason_is h) =
    subst (λ (r : Reason). IsAt order r (initial ++ (head ++ before)) from) (sym reason_is)
    (cut_at order format (head ++ before) left (initial ++ (head ++ before)) from (omega (arith, length-append initial (head ++ before))) w
    (cut_later initial (head ++ before) left (cut_later head before left h)))
op_at order format reason size initial head before left from some is w (large_number reason_is h) =
    subst (λ (r : Reason). IsAt order r (initial ++ (head ++ before)) from) (sym reason_is) (left, inl (format, head ++ before, w), h)
op_at order format reason size initial head before left from some is w (wrong_length earlier reason_is zero h) =
    subst (λ (r : Reason). IsAt order r (initial ++ (head ++ before)) from) (sym reason_is) (
      format,
      head ++ before,
      left,
      head ++ earlier,
      w,
      ap (λ (z : List ℕ). head ++ z) zero ∙ sym (append_assoc head earlier (0 ∷ [])),
      subst (λ (n : ℕ). IsWrongLength n left) (sym is) h,
    )

-- the fault of a program, where the program and its place have other names
first_of : (h : HeaderParts) (program bytes : List ℕ) (fault : Fault) (offset place : ℕ) → HeaderBytes h program bytes
    → place + length program ≡ offset + length bytes → BrokenProgram h.numbers place program fault
    → (header : HeaderParts) (other : ℕ) (named : List ℕ) → BeginsWithHeader h.numbers.order offset bytes header other named
    → BrokenProgram header.numbers other named fault
first_of h program bytes fault offset place p ends b header other named g =
    let found = same_header header h named program g.prefix bytes g.more [] g.spelled.order_is g.spelled.spelled p
    (sym g.joined ∙ sym (append-nil bytes)) in
    let places : other ≡ place = omega (arith, g.ends, ends, ap length found.program, ap length found.bytes) in
    rw (found.header, found.program, places) b

ops_broken_in : (h : HeaderParts) (program bytes : List ℕ) (fault : Fault) (offset place : ℕ) → HeaderBytes h program bytes
    → place + length program ≡ offset + length bytes
    → BrokenProgram h.numbers place program fault → Broken (UnitBytesIn h.numbers.order) h.numbers.order fault offset bytes
unfolding fields_of
ops_broken_in h program bytes fault offset place p ends b =
    let head = fields_of h p.fields in
    let body = unit_body h p.fields program in
    let initial = initial_length h.format h.numbers.order (length body) in
    let body_is : body ≡ (head ++ b.before) ++ b.left = ap (λ (z : List ℕ). head ++ z) b.split ∙ sym (append_assoc head b.before b.left) in
    let split : bytes ≡ (initial ++ (head ++ b.before)) ++ b.left = p.joined ∙ ap (λ (z : List ℕ). initial ++ z) body_is
    ∙ sym (append_assoc initial (head ++ b.before) b.left) in
    let in_frame : InFrame h.numbers.order h.format (head ++ b.before) b.left (initial ++ (head ++ b.before)) b.left = record {
      more = [];
      fits = subst (λ (z : List ℕ). LengthFits h.format (length z)) body_is p.fits;
      before_is = ap (λ (z : List ℕ). initial_length h.format h.numbers.order (length z) ++ (head ++ b.before)) body_is;
      from_is = sym (append-nil b.left);
    } in
    let some : 0 < length initial = omega (arith, length-initial h.format h.numbers.order (length body)) in
    record {
      none = λ unit x more q e.
          let found = same_header unit.header h q.spelled.program program x bytes more [] q.order_is q.spelled.whole p
          (e ∙ sym (append-nil bytes)) in
          b.none unit.ops (subst (λ (g : HeaderParts). Each (OpBytes g.numbers) unit.ops program) found.header
          (subst (λ (z : List ℕ). Each (OpBytes unit.header.numbers) unit.ops z) found.program q.spelled.operations));
      before = initial ++ (head ++ b.before);
      from = b.left;
      split = split;
      place = omega (
        arith,
        b.place_is,
        ends,
        ap length split,
        length-append (initial ++ (head ++ b.before)) b.left,
        ap length b.split,
        length-append b.before b.left,
      );
      reason = op_at h.numbers.order h.format fault.reason h.numbers.address_size initial head b.before b.left b.left some
          (size_of h.numbers.order h.numbers.address_size (number_bytes h.numbers.order (offset_size h.format) (length p.fields))
          p.fields b.before) in_frame
          b.reason;
    }

pub ops_broken : (order : Order) (h : HeaderParts) (program bytes : List ℕ) (fault : Fault) (offset place : ℕ)
    → HeaderBytesIn order (h, program) bytes → place + length program ≡ offset + length bytes
    → BrokenProgram h.numbers place program fault → BrokenUnit order fault offset bytes
ops_broken order h program bytes fault offset place p ends b = subst (λ (o : Order). BrokenUnit o fault offset bytes) p.order_is
    (record {
      broken = ops_broken_in h program bytes fault offset place p.spelled ends b;
      in_header = λ none. absurd (none (h, program) bytes [] (record { order_is = refl; spelled = p.spelled }) (append-nil bytes));
      in_program = first_of h program bytes fault offset place p.spelled ends b;
    })
