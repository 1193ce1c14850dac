-- What is too large for its format where a unit isn't written.
use Rattle.std.proofs.Common.{◌⊎◌, Vec, Global, ℕ, List, subst, inl, inr, Result, Ok, Err, IfErr}
use Rattle.lnt_wire.specs.declared.put.EncodeFault.{EncodeFault}
use Rattle.lnt_wire.specs.Bytes.{IsShortest}
use Rattle.lnt_header.specs.Parts.{HeaderParts}
use Rattle.lnt_header.specs.Joins.{Each}
use Rattle.lnt_header_bytes.specs.Large.{HasLargeOffset, IfTooLarge, IsTooLong}
use Rattle.lnt_ops.specs.OpBytes.{OpBytes}
use Rattle.lnt_header.specs.declared.unit_parts.UnitParts.{UnitParts}
use Rattle.lnt_unit.specs.Spelled.{IsTooLongUnit}
use Rattle.lnt_unit.proofs.EncodeLaws.{Program}

either : (unit : UnitParts) (program : List ℕ) → IsShortest (Each (OpBytes unit.header.numbers)) unit.ops program
    → HasLargeOffset unit.header
    ⊎ IsTooLong unit.header program → HasLargeOffset unit.header ⊎ IsTooLongUnit unit
either unit program p (inl offset) = inl offset
either unit program p (inr long) = inr (record { program = program; shortest = p; too_long = long })

-- with the program that was put
pub unit_large : (unit : UnitParts) (header : HeaderParts) (program : List ℕ) (r : Result (Vec ℕ Global) EncodeFault)
    → Program unit header program → IfErr r (IfTooLarge (HasLargeOffset header ⊎ IsTooLong header program))
    → IfErr r (IfTooLarge (HasLargeOffset unit.header ⊎ IsTooLongUnit unit))
unit_large unit header program (Ok bytes) p q = q
unit_large unit header program (Err fault) p q =
    let here : IfTooLarge (HasLargeOffset unit.header ⊎ IsTooLong unit.header program) fault = subst
    (λ (h : HeaderParts). IfTooLarge (HasLargeOffset h ⊎ IsTooLong h program) fault) p.header_is q in
    record { is_so = λ e. either unit program p.put (here.is_so e) }
