-- The places of faults in a frame stay so, whatever bytes follow the frame.
use Rattle.std.proofs.Common.{◌≡◌, ℕ, List, [], ◌∷◌, ◌++◌, refl, sym, ap, subst, ◌∙◌, append_assoc, inl, inr, arith, append-nil}
use Rattle.lnt_wire.specs.declared.format.Format.{Format}
use Rattle.lnt_wire.specs.declared.format.Order.{Order}
use Rattle.lnt_wire.specs.declared.fault.Fault.{Fault}
use Rattle.lnt_wire.specs.declared.fault.Reason.{Reason}
use Rattle.lnt_wire.specs.declared.fault.Reason.TheVariants.{Truncated, ReservedLength, VersionNotFive, AddressSize, SegmentSelector}
use Rattle.lnt_wire.specs.declared.fault.Reason.TheVariants.{HeaderLength, MaxOpsZero, LineRangeZero, OpcodeBaseZero, StandardLength}
use Rattle.lnt_wire.specs.declared.fault.Reason.TheVariants.{UnknownForm, EmptyFormat, LebTooLarge, ExtendedLength}
use Rattle.lnt_wire.specs.FrameBytes.{FrameBytes}
use Rattle.lnt_wire.specs.Bytes.{NoneSpelled}
use Rattle.lnt_wire.specs.FrameFaults.{InFrame, IsCutFrame, IsReserved, IsFrameFault}
use Rattle.lnt_wire.proofs.FrameLaws.{frame_code, frame_not_cut}
use Rattle.lnt_header_bytes.specs.Broken.{InHeader, UpToLimit, IsAt, IsFirstField}
use Rattle.lnt_header_bytes.specs.Broken.IsFirstField.{frame, start, counted}
use Rattle.lnt_header_bytes.specs.HeaderBytes.{unit_body, HeaderBytesIn}
use Rattle.lnt_header_bytes.proofs.HeaderLaws.{regroup}
use Rattle.lnt_header.specs.Parts.{HeaderParts}
use Rattle.lnt_header.specs.declared.unit_parts.UnitParts.{UnitParts}
use Rattle.lnt_unit.specs.BrokenUnits.{BeginsWithHeader, BrokenUnit}
use Rattle.lnt_unit.specs.UnitBytes.{UnitBytesIn}
use Rattle.std.proofs.lemmas.Grind.{common_steps}

-- ---- places

pub in_frame : (order : Order) (format : Format) (fields left before from more : List ℕ) → InFrame order format fields left before from
    → InFrame order format fields left before (from ++ more)
in_frame order format fields left before from more w = grind (arith, common_steps, append_assoc)

in_header : (order : Order) (fields left before from more : List ℕ) → InHeader order fields left before from
    → InHeader order fields left before (from ++ more)
in_header order fields left before from more w =
    record {
      format = w.format;
      address_size = w.address_size;
      program = w.program;
      address_size_is = w.address_size_is;
      in_frame = in_frame order w.format _ _ before from more w.in_frame;
    }

up_to : (order : Order) (left before from more : List ℕ) → UpToLimit order left before from → UpToLimit order left before (from ++ more)
up_to order left before from more (inl w) = inl (w.0, w.1, in_frame order w.0 w.1 left before from more w.2)
up_to order left before from more (inr w) = inr (w.0, in_header order w.0 left before from more w.1)

reserved : (order : Order) (from more : List ℕ) → IsReserved order from → IsReserved order (from ++ more)
reserved order from more h = grind (arith, common_steps, append_assoc)

-- what is wrong in bytes that aren't a cut frame is wrong there, whatever follows them
at_more : (order : Order) (reason : Reason) (before from more : List ℕ) → (before ≡ [] → IsCutFrame order from → ⊥)
    → IsAt order reason before from → IsAt order reason before (from ++ more)
at_more order Truncated [] from more whole h = absurd (whole refl h)
at_more order Truncated (b ∷ before) from more whole h = (h.0, up_to order h.0 (b ∷ before) from more h.1, h.2)
at_more order ReservedLength before from more whole h = (h.0, reserved order from more h.1)
at_more order (VersionNotFive version) before from more whole h = (h.0, h.1, h.2, h.3, in_frame order h.0 _ _ before from more h.4)
at_more order (AddressSize size) before from more whole h = (h.0, h.1, h.2, in_frame order h.0 _ _ before from more h.3)
at_more order (SegmentSelector size) before from more whole h = (h.0, h.1, h.2, h.3, h.4, in_frame order h.0 _ _ before from more h.5)
at_more order HeaderLength before from more whole h = (h.0, h.1, h.2, h.3, h.4, h.5, h.6, in_frame order h.0 _ _ before from more h.7)
at_more order MaxOpsZero before from more whole h = (h.0, h.1, in_header order _ _ before from more h.2)
at_more order LineRangeZero before from more whole h = (h.0, h.1, h.2, h.3, h.4, h.5, in_header order _ _ before from more h.6)
at_more order OpcodeBaseZero before from more whole h = (h.0, h.1, h.2, h.3, h.4, h.5, h.6, h.7, in_header order _ _ before from more h.8)
at_more order (StandardLength opcode given) before from more whole h =
    (h.0, h.1, h.2, h.3, h.4, h.5, h.6, h.7, h.8, h.9, h.10, h.11, h.12, h.13, h.14, in_header order _ _ before from more h.15)
at_more order (UnknownForm code) before from more whole h =
    (h.0, h.1, h.2, (h.3.0, in_header order h.3.0 h.0 before from more h.3.1), h.4, h.5, h.6)
at_more order EmptyFormat before from more whole h =
    (h.0, h.1, h.2, h.3, h.4, (h.5.0, in_header order h.5.0 h.0 before from more h.5.1), h.6, h.7, h.8, h.9)
at_more order LebTooLarge before from more whole h = (h.0, up_to order h.0 before from more h.1, h.2)
at_more order ExtendedLength before from more whole h = (h.0, h.1, h.2, h.3, in_frame order h.0 h.1 h.2 before from more h.4, h.5, h.6)
at_more order reason before from more whole h = absurd h

-- a frame that is whole has no fault but one that it has whatever follows it
frame_more : (order : Order) (reason : Reason) (before from more : List ℕ) → (before ≡ [] → IsCutFrame order from → ⊥)
    → IsFrameFault order reason before from → IsFrameFault order reason before (from ++ more)
frame_more order Truncated [] from more whole h = absurd (whole refl h)
frame_more order Truncated (b ∷ before) from more whole h = (h.0, h.1, h.2, in_frame order h.0 _ _ (b ∷ before) from more h.3)
frame_more order ReservedLength before from more whole h = (h.0, reserved order from more h.1)
frame_more order (VersionNotFive version) before from more whole h = (h.0, h.1, h.2, h.3, in_frame order h.0 _ _ before from more h.4)
frame_more order reason before from more whole h = absurd h

-- the first field of a header that isn't there, whatever follows its frame
first_more : (order : Order) (reason : Reason) (before from more : List ℕ) → (before ≡ [] → IsCutFrame order from → ⊥)
    → IsFirstField order reason before from → IsFirstField order reason before (from ++ more)
unfolding in_header
first_more order reason before from more whole (frame h) = frame (frame_more order reason before from more whole h)
first_more order reason before from more whole (start format fields left w h) =
    start format fields left (in_frame order format _ left before from more w) h
first_more order reason before from more whole (counted fields left w h) =
    counted fields left (in_header order fields left before from more w) h

-- ---- units

-- the frame of a header with its program
pub header_frame : (order : Order) (h : HeaderParts) (program x : List ℕ) → (p : HeaderBytesIn order (h, program) x)
    → FrameBytes order (h.format, unit_body h p.spelled.fields program) x
header_frame order h program x p = grind (arith, common_steps, regroup)

-- the frame of a unit
pub unit_frame : (order : Order) (unit : UnitParts) (x : List ℕ) → (p : UnitBytesIn order unit x)
    → FrameBytes order (unit.header.format, unit_body unit.header p.spelled.whole.fields p.spelled.program) x
unit_frame order unit x p = header_frame order unit.header p.spelled.program x (record { order_is = p.order_is; spelled = p.spelled.whole })

-- a header with a program that begins a frame and more begins the frame
header_first : (order : Order) (offset : ℕ) (frame_is : Format × List ℕ) (bytes more : List ℕ) (header : HeaderParts) (place : ℕ)
    (program : List ℕ) → FrameBytes order frame_is bytes
    → BeginsWithHeader order offset (bytes ++ more) header place program → BeginsWithHeader order offset bytes header place program
header_first order offset frame_is bytes more header place program is g =
    let one = (frame_code order).one _ frame_is g.prefix bytes g.more more (header_frame order header program g.prefix g.spelled) is
    (sym g.joined) in
    record { prefix = g.prefix; more = []; spelled = g.spelled; joined = sym one.1 ∙ sym (append-nil g.prefix); ends = g.ends }

-- a frame in which no unit was found, and whatever follows it
pub broken_more : (order : Order) (fault : Fault) (offset : ℕ) (frame_is : Format × List ℕ) (bytes more : List ℕ)
    → FrameBytes order frame_is bytes → BrokenUnit order fault offset bytes → BrokenUnit order fault offset (bytes ++ more)
broken_more order fault offset frame_is bytes more is broken =
    let b = broken.broken in
    let whole : b.before ≡ [] → IsCutFrame order b.from → ⊥ = λ nothing cut. frame_not_cut order frame_is bytes is
    (subst (IsCutFrame order) (ap (λ (z : List ℕ). z ++ b.from) (sym nothing) ∙ sym b.split) cut) in
    record {
      broken = record {
        none = λ unit x rest p e.
            let one = (frame_code order).one _ frame_is x bytes rest more (unit_frame order unit x p) is e in
            b.none unit x [] p (append-nil x ∙ one.1);
        before = b.before;
        from = b.from ++ more;
        split = ap (λ (z : List ℕ). z ++ more) b.split ∙ append_assoc b.before b.from more;
        place = b.place;
        reason = at_more order fault.reason b.before b.from more whole b.reason;
      };
      in_header = λ none.
          let none_before : NoneSpelled (HeaderBytesIn order) bytes = λ header x rest p e. none header x (rest ++ more) p
          (sym (append_assoc x rest more) ∙ ap (λ (z : List ℕ). z ++ more) e) in
          first_more order fault.reason b.before b.from more whole (broken.in_header none_before);
      in_program = λ header place program g. broken.in_program header place program
          (header_first order offset frame_is bytes more header place program is g);
    }
