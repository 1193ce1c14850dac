-- Units as they are read.
use Rattle.std.proofs.Common.{◌≡◌, ◌≢◌, ℕ, ◌+◌, ◌^◌, ◌<◌, ◌≤◌, List, ◌++◌, length, refl, sym, subst, ◌∙◌, arith, length-append}
use Rattle.lnt_wire.specs.Reading.{At, Reads, Refuses}
use Rattle.lnt_wire.specs.FrameBytes.{FrameBytes, frame_bytes, IsFrame, IsPlacedFrame}
use Rattle.lnt_wire.specs.FrameFaults.{IsFrameFault}
use Rattle.lnt_wire.specs.declared.fault.Fault.{Fault}
use Rattle.lnt_wire.specs.declared.fault.Reason.TheVariants.{Memory}
use Rattle.lnt_wire.specs.declared.format.Order.{Order}
use Rattle.lnt_wire.specs.declared.frame.Frame.{Frame}
use Rattle.lnt_header_bytes.specs.HeaderBytes.{HeaderBytesIn}
use Rattle.lnt_header.specs.Parts.{HeaderParts}
use Rattle.lnt_unit.specs.BrokenUnits.{BrokenUnit}
use Rattle.lnt_unit.specs.UnitBytes.{UnitBytesIn}
use Rattle.lnt_header.specs.declared.unit_parts.UnitParts.{UnitParts}
use Rattle.lnt_unit.proofs.FrameLaws.{broken_more}
use Rattle.lnt_unit.proofs.BrokenLaws.{frame_broken}
use Rattle.std.proofs.lemmas.Grind.{common_steps}

-- the program lies in the frame
pub program_within : (order : Order) (h : HeaderParts) (program bytes : List ℕ) → HeaderBytesIn order (h, program) bytes
    → length program ≤ length bytes
program_within order h program bytes p = grind (arith, common_steps, length-append)

-- the frame that was read is one that its header can be read of
pub frame_placed : (order : Order) (frame : Frame) (old new : At) → Reads (IsFrame order) frame old new → frame.offset ≡ old.place
    → old.place + length old.rest < 2 ^ 64 → IsPlacedFrame order frame
frame_placed order frame old new r here room = record {
  is = subst (IsFrame order frame) r.spelled.spelled.joined r.spelled;
  room = subst (λ (z : List ℕ). frame.offset + length z < 2 ^ 64) r.spelled.spelled.joined
      (rw here (below old.place r.spelling new.rest (subst (λ (z : List ℕ). old.place + length z < 2 ^ 64) r.whole room)));
}
  where
    below : (n : ℕ) (x y : List ℕ) → n + length (x ++ y) < 2 ^ 64 → n + length x < 2 ^ 64
    below n x y lt = omega (arith, lt, length-append x y)

-- the end of the frame
pub frame_end : (order : Order) (frame : Frame) (old new : At) → Reads (IsFrame order) frame old new → frame.offset ≡ old.place
    → new.place ≡ frame.offset + length (frame_bytes order frame.format frame.body.now)
frame_end order frame old new r here =
    subst (λ (z : List ℕ). new.place ≡ frame.offset + length z) r.spelled.spelled.joined (rw here r.place)

-- the unit of the frame that was read
pub unit_read : (order : Order) (unit : UnitParts) (frame : Frame) (old new : At) → Reads (IsFrame order) frame old new
    → UnitBytesIn order unit (frame_bytes order frame.format frame.body.now) → Reads (UnitBytesIn order) unit old new
unit_read order unit frame old new r p = grind (arith, common_steps)

-- ---- a cursor that stands where another one does

same_at : (a b : At) → a.place ≡ b.place → a.rest ≡ b.rest → a.order ≡ b.order → a ≡ b
same_at a b place rest order =
    let by_parts : record { place = a.place; rest = a.rest; order = a.order } ≡ b = rw (place, rest, order) refl in by_parts

pub frame_there : (order : Order) (frame : Frame) (at ahead next : At) → at.order ≡ order → ahead.place ≡ at.place → ahead.rest ≡ at.rest
    → ahead.order ≡ order → Reads (IsFrame ahead.order) frame ahead next → Reads (IsFrame order) frame at next
frame_there order frame at ahead next ordered place rest order_is r =
    subst (λ (o : Order). Reads (IsFrame o) frame at next) ordered (rw (same_at ahead at place rest (order_is ∙ sym ordered)) at r)

pub no_frame_there : (order : Order) (fault : Fault) (at ahead : At) → at.order ≡ order → ahead.place ≡ at.place → ahead.rest ≡ at.rest
    → ahead.order ≡ order → Refuses (IsFrameFault ahead.order) (FrameBytes ahead.order) ahead fault
    → BrokenUnit order fault at.place at.rest
no_frame_there order fault at ahead ordered place rest order_is r =
    frame_broken order at fault (subst (λ (o : Order). Refuses (IsFrameFault o) (FrameBytes o) at fault) ordered
    (rw (same_at ahead at place rest (order_is ∙ sym ordered)) at r))

-- no unit stands in the frame that was read
pub frame_without_unit : (order : Order) (frame : Frame) (fault : Fault) (at next : At) → Reads (IsFrame order) frame at next
    → frame.offset ≡ at.place → BrokenUnit order fault frame.offset (frame_bytes order frame.format frame.body.now)
    → BrokenUnit order fault at.place at.rest
frame_without_unit order frame fault at next r here b =
    let in_frame : BrokenUnit order fault at.place r.spelling = rw (here, ← r.spelled.spelled.joined) at b in
    subst (λ (z : List ℕ). BrokenUnit order fault at.place z) (sym r.whole)
    (broken_more order fault at.place _ r.spelling next.rest r.spelled.spelled in_frame)

pub frame_refused : (order : Order) (frame : Frame) (fault : Fault) (at next : At) → Reads (IsFrame order) frame at next
    → frame.offset ≡ at.place
    → (fault.reason ≢ Memory → BrokenUnit order fault frame.offset (frame_bytes order frame.format frame.body.now))
    → fault.reason ≢ Memory → BrokenUnit order fault at.place at.rest
frame_refused order frame fault at next r here broken some = frame_without_unit order frame fault at next r here (broken some)

-- The lemmas of `frame_ahead`.
pub ruleset frame_ahead_lemmas = (frame_there, no_frame_there, frame_placed, frame_end)
