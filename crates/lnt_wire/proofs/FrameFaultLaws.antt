-- Two faults of the same bytes lie in one frame, or outside of any. Crates above cite these.
use Rattle.std.proofs.Common.{◌≡◌, ℕ, List, [], ◌∷◌, ◌++◌, length, refl, sym, ◌∙◌, append_assoc, arith, length-append}
use Rattle.lnt_wire.specs.FrameBytes.{version_five, initial_length}
use Rattle.lnt_wire.specs.FrameFaults.{InFrame, IsCutFrame, IsFrameFault, IsReserved, IsVersionFault}
use Rattle.lnt_wire.specs.Numbers.{number_bytes, Format, Order}
use Rattle.lnt_wire.specs.declared.fault.Reason.{Reason}
use Rattle.lnt_wire.specs.declared.fault.Reason.TheVariants.{ReservedLength, Truncated, VersionNotFive}
use Rattle.lnt_wire.proofs.FrameLaws.{cut_none, reserved_none}
use Rattle.lnt_wire.proofs.LengthLaws.{length-number_bytes, same_prefix, same_length, same_number_prefix, width_2, width_4}
use Rattle.std.proofs.lemmas.Grind.{common_steps}

-- ---- frames

-- the bytes from the unit's first on
whole_frame : (order : Order) (format : Format) (fields left before from : List ℕ) → (h : InFrame order format fields left before from)
    → before ++ from ≡ initial_length format order (length (fields ++ left)) ++ ((fields ++ left) ++ h.more)
whole_frame order format fields left before from h = grind (arith, common_steps, append_assoc)

-- two places in the same bytes lie in one frame, with one body
pub same_frame : (order : Order) (f g : Format) (fields left before from fields' left' before' from' : List ℕ)
    → InFrame order f fields left before from
    → InFrame order g fields' left' before' from' → before ++ from ≡ before' ++ from' → (f ≡ g) × (fields ++ left ≡ fields' ++ left')
same_frame order f g fields left before from fields' left' before' from' h k e =
    let body = fields ++ left in
    let other = fields' ++ left' in
    let found = same_length order f g (length body) (length other) (body ++ h.more) (other ++ k.more) h.fits k.fits
    (sym (whole_frame order f fields left before from h) ∙ e ∙ whole_frame order g fields' left' before' from' k) in
    (found.format, same_prefix body other h.more k.more found.number found.past)

-- and where the fields before them are the same, they are one place
pub same_place : (order : Order) (f g : Format) (fields left before from fields' left' before' from' : List ℕ)
    → InFrame order f fields left before from
    → InFrame order g fields' left' before' from' → f ≡ g → fields ++ left ≡ fields' ++ left' → fields ≡ fields' → before ≡ before'
same_place order f g fields left before from fields' left' before' from' h k formats bodies same = grind (arith, common_steps)

-- ---- outside of frames

-- What is wrong where no whole unit stands: its initial length is cut, or reserved, or counts too much.
pub data IsOutside (order : Order) (reason : Reason) (before from : List ℕ) : Type 0 where
  cut : reason ≡ Truncated → before ≡ [] → IsCutFrame order from → IsOutside order reason before from
  reserved : reason ≡ ReservedLength → before ≡ [] → IsReserved order from → IsOutside order reason before from

-- a reserved length isn't cut
reserved_whole : (order : Order) (bytes : List ℕ) → IsReserved order bytes → IsCutFrame order bytes → ⊥
reserved_whole order bytes r h = grind (arith, common_steps, length-append, length-number_bytes, same_number_prefix, width_4, reserved_none)

-- what is outside is in no frame
pub outside_none : (order : Order) (reason : Reason) (format : Format) (before from fields left before' from' : List ℕ)
    → IsOutside order reason before from
    → InFrame order format fields left before' from' → before ++ from ≡ before' ++ from' → ⊥
outside_none order reason format before from fields left before' from' h k e =
    grind (arith, common_steps, cut_none, length-append, whole_frame, reserved_none)

-- two such faults are one
pub outside_one : (order : Order) (reason other : Reason) (before before' from from' : List ℕ) → IsOutside order reason before from
    → IsOutside order other before' from'
    → before ++ from ≡ before' ++ from' → (reason ≡ other) × (before ≡ before')
outside_one order reason other before before' from from' h k e = grind (arith, common_steps, reserved_whole)

-- ---- versions

-- A fault of a frame lies outside of it, or is that of its version.
pub data IsFrameFaultAt (order : Order) (reason : Reason) (before from : List ℕ) : Type 0 where
  outside_frame : IsOutside order reason before from → IsFrameFaultAt order reason before from
  in_version : (format : Format) (body : List ℕ) → InFrame order format [] body before from → IsVersionFault order reason body
      → IsFrameFaultAt order reason before from

pub frame_fault_at : (order : Order) (reason : Reason) (before from : List ℕ) → IsFrameFault order reason before from
    → IsFrameFaultAt order reason before from
frame_fault_at order Truncated [] from h = outside_frame (cut refl refl h)
frame_fault_at order Truncated (b ∷ before) from h = in_version h.0 h.1 h.3 h.2
frame_fault_at order ReservedLength before from h = outside_frame (reserved refl h.0 h.1)
frame_fault_at order (VersionNotFive v) before from h = in_version h.0 (number_bytes order 2 v ++ h.1) h.4 (h.1, h.2, h.3, refl)
frame_fault_at order reason before from h = absurd h

-- version 5 has no fault
pub version_none : (order : Order) (reason : Reason) (body past : List ℕ) → IsVersionFault order reason body
    → body ≡ version_five order ++ past → ⊥
version_none order reason body past h e = grind (arith, common_steps, length-append, length-number_bytes, same_number_prefix, width_2)

-- and another has one
pub version_one : (order : Order) (reason other : Reason) (body : List ℕ) → IsVersionFault order reason body
    → IsVersionFault order other body → reason ≡ other
version_one order reason other body h k = grind (arith, common_steps, length-append, length-number_bytes, same_number_prefix, width_2)
