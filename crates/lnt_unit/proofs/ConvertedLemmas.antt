-- Units that are converted.
use Rattle.std.proofs.Common.{◌≡◌, ◌≢◌, ℕ, ◌+◌, List, [], ◌++◌, sym, ap, subst, ◌∙◌, true, false, arith}
use Rattle.lnt_wire.specs.Reading.{At, Reads}
use Rattle.lnt_wire.specs.Bytes.{Appends, IsShortest}
use Rattle.lnt_wire.specs.FrameBytes.{frame_bytes, IsFrame}
use Rattle.lnt_wire.specs.declared.fault.Fault.{Fault}
use Rattle.lnt_wire.specs.declared.fault.Reason.TheVariants.{Memory}
use Rattle.lnt_wire.specs.declared.format.Format.{Format}
use Rattle.lnt_wire.specs.declared.format.Order.{Order}
use Rattle.lnt_wire.specs.declared.frame.Frame.{Frame}
use Rattle.lnt_wire.specs.declared.put.EncodeFault.{EncodeFault}
use Rattle.lnt_wire.specs.declared.put.EncodeFault.TheVariants as put
use Rattle.lnt_header.specs.declared.numbers.NumberParts.{NumberParts}
use Rattle.lnt_header.specs.Conversion.{in_format, unit_in_format}
use Rattle.lnt_header.specs.Encoding.{RefusedPut}
use Rattle.lnt_header_bytes.specs.HeaderBytes.{HeaderBytesIn}
use Rattle.lnt_header.specs.Joins.{Each}
use Rattle.lnt_header.specs.Parts.{HeaderParts}
use Rattle.lnt_header.specs.declared.op.Op.{Op}
use Rattle.lnt_ops.specs.OpBytes.{OpBytes}
use Rattle.lnt_ops.specs.OpPuts.{AddsOps}
use Rattle.lnt_unit.specs.BrokenUnits.{BrokenUnit}
use Rattle.lnt_unit.specs.Converting.{ConvertsUnit, IsLargeUnit, IsNextStop}
use Rattle.lnt_unit.specs.ConversionSteps.{ConvertsBytes, IsLarge, IsReportedAs, IsUnitStop, JudgesUnit}
use Rattle.lnt_unit.specs.declared.convert.ConvertFault.{ConvertFault}
use Rattle.lnt_unit.specs.declared.convert.ConvertFault.TheVariants as convert
use Rattle.lnt_unit.proofs.UnitLaws.{unit_found}
use Rattle.lnt_header.specs.declared.unit_parts.UnitParts.{UnitParts}
use Rattle.lnt_unit.proofs.EncodeLaws.{unit_put, unit_refused}
use Rattle.lnt_unit.proofs.ReadLaws.{unit_read, frame_without_unit}
use Rattle.std.proofs.lemmas.Grind.{common_steps}

-- ---- the unit of a frame

parts_of : HeaderParts → List Op → UnitParts
parts_of header ops = record { header = header; ops = ops }

-- the program in the other order, which was put into an empty vector
program_is : (h : HeaderParts) (program old converted : List ℕ) (format : Format) (to : Order)
    → (p : AddsOps h.numbers program to old converted)
    → old ≡ [] → IsShortest (Each (OpBytes (in_format h format to).numbers)) p.ops converted
program_is h program old converted format to p begun =
    subst (IsShortest (Each (OpBytes (in_format h format to).numbers)) p.ops)
    (sym (p.adds.joined ∙ ap (λ (z : List ℕ). z ++ p.adds.spelling) begun)) p.adds.spelled

pub frame_converted : (order : Order) (h : HeaderParts) (numbers : NumberParts) (program bytes begun converted named old new : List ℕ)
    (format : Format) (to : Order) → HeaderBytesIn order (h, program) bytes → numbers ≡ h.numbers
    → AddsOps numbers program to begun converted → begun ≡ [] → named ≡ converted
    → Appends (HeaderBytesIn to) (in_format h format to, named) old new → ConvertsBytes order format to bytes old new
unfolding parts_of
frame_converted order h numbers program bytes begun converted named old new format to p same added empty is r =
    let q = subst (λ (g : NumberParts). AddsOps g program to begun converted) same added in
    let unit = parts_of h q.ops in
    let here : Appends (HeaderBytesIn to) (in_format h format to, converted) old new = subst
    (λ (z : List ℕ). Appends (HeaderBytesIn to) (in_format h format to, z) old new) is r in
    record {
      unit = unit;
      spelled = unit_found order unit program bytes p q.spelled;
      put = record {
        spelling = here.spelling;
        spelled = unit_put to (unit_in_format unit format to) converted here.spelling
            (program_is h program begun converted format to q empty) here.spelled;
        joined = here.joined;
      };
    }

pub frame_large : (order : Order) (h : HeaderParts) (numbers : NumberParts) (program bytes begun converted named : List ℕ)
    (format : Format) (to : Order) (fault : EncodeFault) → HeaderBytesIn order (h, program) bytes → numbers ≡ h.numbers
    → AddsOps numbers program to begun converted → begun ≡ [] → named ≡ converted
    → RefusedPut (HeaderBytesIn to) (in_format h format to, named) fault → fault ≡ put.TooLarge → IsLarge order format to bytes
unfolding parts_of
frame_large order h numbers program bytes begun converted named format to fault p same added empty is r large =
    let q = subst (λ (g : NumberParts). AddsOps g program to begun converted) same added in
    let unit = parts_of h q.ops in
    let here : RefusedPut (HeaderBytesIn to) (in_format h format to, converted) fault = subst
    (λ (z : List ℕ). RefusedPut (HeaderBytesIn to) (in_format h format to, z) fault) is r in
    let whole = unit_refused to (unit_in_format unit format to) converted fault (program_is h program begun converted format to q empty)
    here in
    record { unit = unit; spelled = unit_found order unit program bytes p q.spelled; none = whole.none large }

-- ---- the unit at a cursor

pub unit_converted : (order : Order) (format : Format) (to : Order) (frame : Frame) (at next : At) (old new : List ℕ)
    → Reads (IsFrame order) frame at next
    → ConvertsBytes order format to (frame_bytes order frame.format frame.body.now) old new → ConvertsUnit order format to at next old new
unit_converted order format to frame at next old new r p = grind (arith, common_steps, unit_read)

pub unit_large : (order : Order) (format : Format) (to : Order) (frame : Frame) (at next : At) → Reads (IsFrame order) frame at next
    → IsLarge order format to (frame_bytes order frame.format frame.body.now) → IsLargeUnit order format to at
unit_large order format to frame at next r p = record {
  unit = p.unit;
  next = next;
  read = unit_read order p.unit frame at next r p.spelled;
  none = p.none;
}

pub unit_judged : (order : Order) (format : Format) (to : Order) (frame : Frame) (at next : At) (old new : List ℕ)
    → Reads (IsFrame order) frame at next
    → ConvertsBytes order format to (frame_bytes order frame.format frame.body.now) old new → JudgesUnit order format to true at next
unit_judged order format to frame at next old new r p = grind (arith, common_steps, unit_read)

pub unit_judged_large : (order : Order) (format : Format) (to : Order) (frame : Frame) (at next : At) → Reads (IsFrame order) frame at next
    → IsLarge order format to (frame_bytes order frame.format frame.body.now) → JudgesUnit order format to false at next
unit_judged_large order format to frame at next r p = grind (arith, common_steps, unit_read)

-- ---- stops

pub reported_stop : (order : Order) (format : Format) (to : Order) (offset : ℕ) (bytes : List ℕ) (fault : Fault) (stop : ConvertFault)
    → (fault.reason ≢ Memory → BrokenUnit order fault offset bytes) → IsReportedAs fault stop → IsUnitStop order format to offset bytes stop
reported_stop order format to offset bytes fault (convert.Malformed found) broken is =
    subst (λ (f : Fault). BrokenUnit order f offset bytes) (sym is.0) (broken is.1)
reported_stop order format to offset bytes fault (convert.TooLarge place) broken is = absurd is
reported_stop order format to offset bytes fault convert.Memory broken is = tt

pub told_next : (order : Order) (format : Format) (to : Order) (at : At) (fault : Fault) (stop : ConvertFault)
    → (fault.reason ≢ Memory → BrokenUnit order fault at.place at.rest) → IsReportedAs fault stop → IsNextStop order format to at stop
told_next order format to at fault (convert.Malformed found) broken is =
    subst (λ (f : Fault). BrokenUnit order f at.place at.rest) (sym is.0) (broken is.1)
told_next order format to at fault (convert.TooLarge place) broken is = absurd is
told_next order format to at fault convert.Memory broken is = tt

-- the frame of a unit that isn't converted
pub frame_stop : (order : Order) (format : Format) (to : Order) (frame : Frame) (stop : ConvertFault) (at next : At)
    → Reads (IsFrame order) frame at next → frame.offset ≡ at.place
    → IsUnitStop order format to frame.offset (frame_bytes order frame.format frame.body.now) stop → IsNextStop order format to at stop
frame_stop order format to frame (convert.Malformed fault) at next r here p = frame_without_unit order frame fault at next r here p
frame_stop order format to frame (convert.TooLarge place) at next r here p = (p.0 ∙ here, unit_large order format to frame at next r p.1)
frame_stop order format to frame convert.Memory at next r here p = tt

pub frame_malformed : (order : Order) (format : Format) (to : Order) (frame : Frame) (stop : ConvertFault) (fault : Fault) (at next : At)
    → Reads (IsFrame order) frame at next → frame.offset ≡ at.place
    → IsUnitStop order format to frame.offset (frame_bytes order frame.format frame.body.now) stop → stop ≡ convert.Malformed fault
    → BrokenUnit order fault at.place at.rest
frame_malformed order format to frame stop fault at next r here p is = frame_without_unit order frame fault at next r here (rw is at p)

-- The lemmas of `convert_unit`.
pub ruleset convert_unit_lemmas = (unit_converted, told_next, frame_stop)

-- The lemmas of `judge_unit`.
pub ruleset judge_unit_lemmas = (frame_malformed, unit_judged, unit_judged_large)
