-- Units that are allowed have bytes, where their offsets and lengths fit their format.
use Rattle.std.proofs.Common.{ℕ, List, length, arith}
use Rattle.lnt_header_bytes.specs.HeaderBytes.{unit_body}
use Rattle.lnt_header_bytes.specs.Spelled as header
use Rattle.lnt_header_bytes.proofs.ProgramLaws.{fits_less, length-body}
use Rattle.lnt_header_bytes.specs.Spelled.{HasSmallOffsets}
use Rattle.lnt_ops.specs.Laws as operations
use Rattle.lnt_header.specs.declared.unit_parts.UnitParts.{UnitParts}
use Rattle.lnt_unit.specs.Spelled.{AllowedUnitIsSpelled, FitsUnit, UnitLengthsFit}
use Rattle.lnt_unit.specs.UnitBytes.{UnitBytes}
use Rattle.lnt_header.specs.HeaderRules.{IsUnit}

unit_spelled : header.AllowedHeaderIsSpelled → operations.AllowedOpsAreSpelled → (unit : UnitParts) → IsUnit unit → FitsUnit unit
    → HasSmallOffsets unit.header → UnitLengthsFit unit → (bytes : List ℕ) × UnitBytes unit bytes
unit_spelled headers ops unit is fits small short =
    let program = ops.program unit.header.numbers unit.ops is.header.numbers is.ops fits.ops in
    let whole = headers.unit unit.header program.0 is.header fits.header small (short program.0 program.1) in
    (whole.0, record { program = program.0; operations = program.1.spelled; whole = whole.1 })

allowed : header.AllowedHeaderIsSpelled → operations.AllowedOpsAreSpelled → (unit : UnitParts) (bytes : List ℕ) → UnitBytes unit bytes
    → IsUnit unit × FitsUnit unit × HasSmallOffsets unit.header × UnitLengthsFit unit
allowed headers ops unit bytes p =
    let h = headers.allowed unit.header p.program bytes p.whole in
    let all = ops.allowed unit.header.numbers unit.ops p.program p.operations in (
      record { header = h.0; ops = all.0 },
      record { header = h.1; ops = all.1 },
      h.2,
      λ program shortest fields s.
          fits_less unit.header.format (length (unit_body unit.header fields program)) (length (unit_body unit.header fields p.program))
          (omega (
            arith,
            length-body unit.header fields program,
            length-body unit.header fields p.program,
            shortest.shortest p.program
                p.operations,
          )) (h.3 fields s),
    )

pub allowed_is_spelled : header.AllowedHeaderIsSpelled → operations.AllowedOpsAreSpelled → AllowedUnitIsSpelled
allowed_is_spelled headers ops = record {
  spelled = unit_spelled headers ops;
  allowed = allowed headers ops;
  wide = λ unit is. headers.wide unit.header is;
}
