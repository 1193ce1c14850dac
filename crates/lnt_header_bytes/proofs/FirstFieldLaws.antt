-- The first field of a header that isn't there is one, wherever it lies in the unit. Crates above cite these.
use Rattle.std.proofs.Common.{◌≡◌, ℕ, ◌^◌, ◌<◌, ◌≤◌, List, [], ◌∷◌, ◌++◌, length, refl, sym, ap, subst, ◌∙◌, append_assoc, arith}
use Rattle.std.proofs.lemmas.List.{length-append}
use Rattle.lnt_wire.specs.FrameBytes.{version_five}
use Rattle.lnt_wire.specs.FrameFaults.{InFrame, IsVersionFault}
use Rattle.lnt_wire.specs.Numbers.{number_bytes, offset_size}
use Rattle.lnt_wire.specs.declared.fault.Reason.{Reason}
use Rattle.lnt_wire.specs.declared.format.Format.{Format}
use Rattle.lnt_wire.specs.declared.format.Order.{Order}
use Rattle.lnt_wire.proofs.FrameFaultLaws.{frame_fault_at, IsFrameFaultAt, IsOutside, outside_none, outside_one, same_frame, same_place}
use Rattle.lnt_wire.proofs.FrameFaultLaws.{version_none, version_one}
use Rattle.lnt_wire.proofs.FrameFaultLaws.IsFrameFaultAt.{outside_frame, in_version}
use Rattle.lnt_wire.proofs.FieldFaultLaws.{IsOneFieldFault}
use Rattle.lnt_wire.proofs.LengthLaws.{same_prefix, same_number_prefix}
use Rattle.lnt_wire.proofs.ValueLaws.{offset_width}
use Rattle.lnt_header_bytes.specs.Broken.{InHeader, IsFirstField, sound_start}
use Rattle.lnt_header_bytes.specs.Broken.IsFirstField.{frame, start, counted}
use Rattle.lnt_header_bytes.specs.HeaderFaults.{IsHeaderFault, IsStartFault}
use Rattle.lnt_header.specs.HeaderRules.{IsAddressSize}
use Rattle.lnt_header_bytes.proofs.HeaderLaws.{below}
use Rattle.lnt_header.specs.FieldFaults.{FirstOf}
use Rattle.lnt_header.specs.FieldFaults.FirstOf.{first, second}
use Rattle.lnt_header.proofs.FirstFaultLaws.{AreOne, field_fault, first_one, IsHere}
use Rattle.lnt_header_bytes.proofs.HeaderReaders.{fields_fault}
use Rattle.lnt_header_bytes.proofs.StartReaders.{start_fault, start_spelled}
use Rattle.std.proofs.lemmas.Grind.{common_steps}

-- ---- the body of a unit

-- the fields after the version, up to a place among those that header_length counts
abbrev up_to : Format → Order → ℕ → ℕ → List ℕ → List ℕ
up_to format order size count past = size ∷ 0 ∷ (number_bytes order (offset_size format) count ++ past)

-- What is wrong after the version: a field up to header_length, or one of those that this counts.
data IsRestFault (format : Format) (order : Order) (reason : Reason) (fields left : List ℕ) : Type 0 where
  of_start : IsStartFault format order reason fields left → IsRestFault format order reason fields left
  of_counted : (size : ℕ) (past later program : List ℕ) → IsAddressSize size → length (past ++ later) < 256 ^ offset_size format
      → fields ≡ up_to format order size (length (past ++ later)) past → left ≡ later ++ program
      → IsHeaderFault format order reason past later → IsRestFault format order reason fields left

abbrev VersionBytes : Order → Unit {0} → List ℕ → Type 0
VersionBytes order _ bytes = bytes ≡ version_five order

-- What is wrong with a body: its version, or what follows it.
abbrev IsBodyFault : Order → Format → Reason → List ℕ → List ℕ → Type 0
IsBodyFault order format = FirstOf (VersionBytes order) (IsHere (IsVersionFault order)) (λ _. IsRestFault format order)

-- header_length, and what it counts
counted_on : (format : Format) (order : Order) (size : ℕ) (fields past left later program : List ℕ)
    → fields ≡ up_to format order size (length (past ++ later)) past → left ≡ later ++ program
    → fields ++ left ≡ size ∷ 0 ∷ (number_bytes order (offset_size format) (length (past ++ later)) ++ ((past ++ later) ++ program))
counted_on format order size fields past left later program joined e = grind (arith, common_steps, append_assoc)

-- a field up to header_length isn't at fault where all of them are there
start_apart : (format : Format) (order : Order) (reason : Reason) (size : ℕ) (fields left past later program : List ℕ)
    → IsStartFault format order reason fields left → IsAddressSize size → length (past ++ later) < 256 ^ offset_size format
    → fields ++ left ≡ size ∷ 0 ∷ (number_bytes order (offset_size format) (length (past ++ later)) ++ ((past ++ later) ++ program)) → ⊥
start_apart format order reason size fields left past later program h is fits e =
    grind (arith, common_steps, append_assoc, start_fault, start_spelled)

counted_one_body : (format : Format) (order : Order) (reason other : Reason) (size size' : ℕ)
    (past past' later later' program program' : List ℕ) → length (past ++ later) < 256 ^ offset_size format
    → length (past' ++ later') < 256 ^ offset_size format → IsHeaderFault format order reason past later
    → IsHeaderFault format order other past' later'
    → size ∷ 0 ∷ (number_bytes order (offset_size format) (length (past ++ later)) ++ ((past ++ later) ++ program))
    ≡ size' ∷ 0 ∷ (number_bytes order (offset_size format) (length (past' ++ later')) ++ ((past' ++ later') ++ program'))
    → (reason ≡ other) × (up_to format order size (length (past ++ later)) past ≡ up_to format order size' (length (past' ++ later')) past')
counted_one_body format order reason other size size' past past' later later' program program' fits fits' h k e =
    let n = length (past ++ later) in
    let m = length (past' ++ later') in
    let sizes : size ≡ size' = cc in
    let tails : number_bytes order (offset_size format) n ++ ((past ++ later) ++ program) ≡ number_bytes order (offset_size format) m ++
    ((past' ++ later') ++ program') = cc in
    let numbers =
    same_number_prefix order (offset_size format) (offset_width format) n m ((past ++ later) ++ program) ((past' ++ later') ++ program')
    fits fits' tails in
    let bytes : past ++ later ≡ past' ++ later' = same_prefix (past ++ later) (past' ++ later') program program' numbers.0 numbers.1 in
    let found = (fields_fault format order).one reason other past past' later later' h k bytes in (
      found.0,
      ap (λ (s : ℕ). up_to format order s n past) sizes ∙ ap (λ (c : ℕ). up_to format order size' c past) numbers.0
          ∙ ap (up_to format order size' m) found.1,
    )

rest_one : (format : Format) (order : Order) → AreOne (IsRestFault format order)
rest_one format order reason other fields fields' left left' (of_start h) (of_start k) e =
    (start_fault format order).one reason other fields fields' left left' h k e
rest_one format order reason other fields fields' left left' (of_start h) (of_counted size past later program is fits joined rest k) e =
    absurd (start_apart format order reason size fields left past later program h is fits
    (e ∙ counted_on format order size fields' past left' later program joined rest))
rest_one format order reason other fields fields' left left' (of_counted size past later program is fits joined rest h) (of_start k) e =
    absurd (start_apart format order other size fields' left' past later program k is fits
    (sym e ∙ counted_on format order size fields past left later program joined rest))
rest_one format order reason other fields fields' left left' (of_counted size past later program is fits joined rest h)
    (of_counted size' past' later' program' is' fits' joined' rest' k) e =
    let all = sym (counted_on format order size fields past left later program joined rest) ∙ e
    ∙ counted_on format order size' fields' past' left' later' program' joined' rest' in
    let found = counted_one_body format order reason other size size' past past' later later' program program' fits fits' h k all in
    (found.0, joined ∙ found.1 ∙ sym joined')

version_fault : (order : Order) → IsOneFieldFault (VersionBytes order) (IsVersionFault order)
version_fault order = grind (arith, common_steps, version_none, version_one)

body_one : (order : Order) (format : Format) → AreOne (IsBodyFault order format)
body_one order format =
    let version = field_fault (VersionBytes order) (IsVersionFault order) (version_fault order) in
    first_one (VersionBytes order) (IsHere (IsVersionFault order)) (λ _. IsRestFault format order)
    (record { one = λ u v x y r s p q e. (refl, p ∙ sym q) }) version.one
    (λ reason other u before left prefix past left' h p k e. version.none reason before left h u prefix (past ++ left') p (sym e))
    (λ _. rest_one format order)

-- ---- the first field

-- A fault of a header lies outside of any frame, or in the body of one.
data IsPlaced (order : Order) (reason : Reason) (before from : List ℕ) : Type 0 where
  outside : IsOutside order reason before from → IsPlaced order reason before from
  inside : (format : Format) (fields left : List ℕ) → InFrame order format fields left before from
      → IsBodyFault order format reason fields left → IsPlaced order reason before from

placed_in_frame : (order : Order) (reason : Reason) (before from : List ℕ) → IsFrameFaultAt order reason before from
    → IsPlaced order reason before from
placed_in_frame order reason before from (outside_frame h) = outside h
placed_in_frame order reason before from (in_version format body w h) = inside format [] body w (first (refl, h))

placed_in_header : (order : Order) (reason : Reason) (fields left before from : List ℕ) → (w : InHeader order fields left before from)
    → IsHeaderFault w.format order reason fields left → IsPlaced order reason before from
placed_in_header order reason fields left before from w h =
    let number = number_bytes order (offset_size w.format) (length (fields ++ left)) in
    let whole = sound_start order w.address_size ++ number ++ fields in
    let few : length (fields ++ left) ≤ length (whole ++ (left ++ w.program)) = omega (
      arith,
      length-append whole (left ++ w.program),
      length-append (sound_start order w.address_size ++ number) fields,
      length-append left w.program,
      length-append fields left,
    ) in
    let fits : length (fields ++ left) < 256 ^ offset_size w.format =
    below w.format (length (whole ++ (left ++ w.program))) (length (fields ++ left)) w.in_frame.fits few in
    let joined : whole ≡ version_five order ++ up_to w.format order w.address_size (length (fields ++ left)) fields =
    append_assoc (sound_start order w.address_size) number fields
    ∙ append_assoc (version_five order) (w.address_size ∷ 0 ∷ []) (number ++ fields) in
    inside w.format whole (left ++ w.program) w.in_frame
    (second tt (version_five order) (up_to w.format order w.address_size (length (fields ++ left)) fields) refl joined
    (of_counted w.address_size fields left w.program w.address_size_is fits refl refl h))

placed : (order : Order) (reason : Reason) (before from : List ℕ) → IsFirstField order reason before from
    → IsPlaced order reason before from
placed order reason before from (frame h) = placed_in_frame order reason before from (frame_fault_at order reason before from h)
placed order reason before from (start format fields left w h) =
    inside format (version_five order ++ fields) left w (second tt (version_five order) fields refl refl (of_start h))
placed order reason before from (counted fields left w h) = placed_in_header order reason fields left before from w h

placed_one : (order : Order) → AreOne (IsPlaced order)
placed_one order reason other before before' from from' (outside h) (outside k) e =
    outside_one order reason other before before' from from' h k e
placed_one order reason other before before' from from' (outside h) (inside format fields left w k) e =
    absurd (outside_none order reason format before from fields left before' from' h w e)
placed_one order reason other before before' from from' (inside format fields left w h) (outside k) e =
    absurd (outside_none order other format before' from' fields left before from k w (sym e))
placed_one order reason other before before' from from' (inside f fields left w h) (inside g fields' left' v k) e =
    let found = same_frame order f g fields left before from fields' left' before' from' w v e in
    let same =
    body_one order g reason other fields fields' left left' (subst (λ (r : Format). IsBodyFault order r reason fields left) found.0 h) k
    found.1 in
    (same.0, same_place order f g fields left before from fields' left' before' from' w v found.0 found.1 same.1)

-- the first field of a header that isn't there is one
pub first_field_one : (order : Order) → AreOne (IsFirstField order)
first_field_one order reason other before before' from from' h k e =
    placed_one order reason other before before' from from' (placed order reason before from h) (placed order other before' from' k) e
