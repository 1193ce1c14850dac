-- The program of a unit in a buffer goes to the end of the unit.
use Rattle.std.proofs.Common.{◌≡◌, ℕ, ◌-◌, ◌≤◌, List, [], ◌∷◌, ◌++◌, length, drop, sym, ap, ◌∙◌, append_assoc, arith, length-append}
use Rattle.std.proofs.Math.Seq.{drop-append_seam}
use Rattle.lnt_wire.specs.FrameBytes.{version_five, initial_length}
use Rattle.lnt_wire.specs.Numbers.{number_bytes, offset_size}
use Rattle.lnt_header_bytes.specs.HeaderBytes.{unit_body}
use Rattle.lnt_unit.specs.Views.{View, IsUnitView}

ends_with : (view : View) → IsUnitView view → (prefix : List ℕ) × (view.unit.bytes ≡ prefix ++ view.program)
ends_with view is =
    let h = view.header in
    let fields = is.spelled.spelled.fields in
    let body = unit_body h fields view.program in
    let start = initial_length h.format h.numbers.order (length body) in
    let before =
    version_five h.numbers.order ++ (h.numbers.address_size ∷ 0 ∷ []) ++ number_bytes h.numbers.order (offset_size h.format) (length
    fields) ++
    fields in
    (start ++ before, is.spelled.spelled.joined ∙ sym (append_assoc start before view.program))

pub program_fits : (view : View) → IsUnitView view → length view.program ≤ length view.unit.bytes
program_fits view is = let whole = ends_with view is in omega (arith, ap length whole.1, length-append whole.0 view.program)

pub program_ends : (view : View) (n : ℕ) → IsUnitView view → n ≡ length view.unit.bytes - length view.program
    → drop n view.unit.bytes ≡ view.program
program_ends view n is at =
    let whole = ends_with view is in
    let place : n ≡ length whole.0 = omega (arith, at, ap length whole.1, length-append whole.0 view.program) in
    ap (λ (k : ℕ). drop k view.unit.bytes) place ∙ ap (drop (length whole.0)) whole.1 ∙ drop-append_seam whole.0 view.program
