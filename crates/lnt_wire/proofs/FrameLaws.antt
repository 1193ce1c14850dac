-- A frame has one spelling, which is the prefix of no other frame's; and where a fault of a frame is so, the bytes begin with none.
-- Crates above cite these.
use Rattle.std.proofs.Common.{◌≡◌, ◌≢◌, ◌^◌, ◌<◌, ℕ, ◌≤◌, List, ◌++◌, length, sym, append_assoc, arith, [], length-append, append-nil}
use Rattle.lnt_wire.specs.Bytes.{IsCode, NoneSpelled}
use Rattle.lnt_wire.specs.FrameBytes.{FrameBytes, PrefixBytes, Order, initial_length, LengthFits}
use Rattle.lnt_wire.specs.FrameFaults.{IsCutFrame, InFrame, IsReserved, IsFrameFault, IsPrefixFault}
use Rattle.lnt_wire.specs.Numbers.{number_bytes}
use Rattle.lnt_wire.specs.declared.fault.Reason.TheVariants.{VersionNotFive}
use Rattle.lnt_wire.proofs.LengthLaws.{width_4, same_prefix, same_number_prefix, same_length, length-initial, length-number_bytes, width_2}
use Rattle.lnt_wire.specs.declared.format.Format.{Format}
use Rattle.lnt_wire.specs.declared.fault.Reason.{Reason}
use Rattle.std.proofs.lemmas.Grind.{common_steps}

-- bytes that begin with an initial length, and as many bytes as it counts, are not cut
pub cut_none : (order : Order) (format : Format) (n : ℕ) (past bytes : List ℕ) → LengthFits format n → n ≤ length past
    → initial_length format order n ++ past ≡ bytes → IsCutFrame order bytes → ⊥
cut_none order format n past bytes fits le e h =
    grind (arith, common_steps, length-append, length-initial, same_number_prefix, width_4, append_assoc, length-number_bytes, same_length)

-- a reserved length begins no frame
pub reserved_none : (order : Order) (format : Format) (n : ℕ) (past bytes : List ℕ) → LengthFits format n
    → initial_length format order n ++ past ≡ bytes → IsReserved order bytes → ⊥
reserved_none order format n past bytes fits e r = grind (arith, common_steps, same_number_prefix, width_4, append_assoc)

-- two bodies that their initial lengths count at one place are one
same_body : (order : Order) (f g : Format) (body other more left : List ℕ) → LengthFits f (length body) → LengthFits g (length other)
    → initial_length f order (length body) ++ (body ++ more) ≡ initial_length g order (length other) ++ (other ++ left) → body ≡ other
same_body order f g body other more left p q e = grind (arith, common_steps, same_length, same_prefix)

-- the body of a frame, where another body is known to stand
in_frame_body : (order : Order) (format g : Format) (body left more before from : List ℕ) → LengthFits format (length body)
    → InFrame order g [] left before from
    → initial_length format order (length body) ++ (body ++ more) ≡ before ++ from → body ≡ left
in_frame_body order format g body left more before from fits h e = grind (arith, common_steps, same_body, append-nil)

-- where a fault is so and a unit stands, the fault is that of its version
fault_at : (order : Order) (reason : Reason) (before from : List ℕ) → IsFrameFault order reason before from
    → (format : Format) (version : ℕ) (body past more : List ℕ) → LengthFits format (length body) → version < 2 ^ 16
    → body ≡ number_bytes order 2 version ++ past → initial_length format order (length body) ++ (body ++ more) ≡ before ++ from
    → (reason ≡ VersionNotFive version) × (version ≢ 5)
fault_at order reason before from h format version body past more fits small joined e =
    grind (arith, common_steps, cut_none, length-append, in_frame_body, length-number_bytes, reserved_none, same_number_prefix, width_2)

pub version_fault : (order : Order) (reason : Reason) (before from : List ℕ) → IsFrameFault order reason before from
    → (unit : Format × ℕ × List ℕ) (x more : List ℕ) → PrefixBytes order unit x → x ++ more ≡ before ++ from
    → (reason ≡ VersionNotFive unit.1) × (unit.1 ≢ 5)
version_fault order reason before from h (format, version, past) x more p e = grind (arith, common_steps, fault_at, append_assoc)

-- a frame is a unit of version 5
pub frame_prefix : (order : Order) (format : Format) (body x : List ℕ) → (p : FrameBytes order (format, body) x)
    → PrefixBytes order (format, 5, p.version.past) x
frame_prefix order format body x p = grind (arith, common_steps)

pub no_frame : (order : Order) (reason : Reason) (before from : List ℕ) → IsFrameFault order reason before from
    → NoneSpelled (FrameBytes order) (before ++ from)
no_frame order reason before from h (format, body) x more p e = grind (arith, common_steps, version_fault, frame_prefix)

pub no_prefix : (order : Order) (reason : Reason) (before from : List ℕ) → IsPrefixFault order reason before from
    → NoneSpelled (PrefixBytes order) (before ++ from)
no_prefix order reason before from h unit x more p e = grind (arith, common_steps, version_fault)

-- what two units at one place say is the same
pub one_prefix : (order : Order) (u v : Format × ℕ × List ℕ) (x y r s : List ℕ) → PrefixBytes order u x → PrefixBytes order v y
    → x ++ r ≡ y ++ s → (u.0 ≡ v.0) × (u.1 ≡ v.1) × (u.2 ≡ v.2)
one_prefix order (f, v, past) (g, w, later) x y r s p q e =
    grind (arith, common_steps, append_assoc, same_length, same_prefix, same_number_prefix, width_2)

-- a whole frame is not cut
pub frame_not_cut : (order : Order) (frame : Format × List ℕ) (bytes : List ℕ) → FrameBytes order frame bytes → IsCutFrame order bytes → ⊥
frame_not_cut order frame bytes p h = cut_none order frame.0 (length frame.1) frame.1 bytes p.fits (omega arith) (sym p.joined) h

same_pair : (u v : Format × List ℕ) → u.0 ≡ v.0 → u.1 ≡ v.1 → u ≡ v
same_pair (f, x) (g, y) formats bodies = cc (formats, bodies)

-- the format and the body of a frame are a code
pub frame_code : (order : Order) → IsCode (FrameBytes order)
frame_code order = grind (arith, common_steps, append_assoc, same_length, same_prefix, same_pair)
