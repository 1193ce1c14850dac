-- Units by their parts, written.
use Rattle.std.proofs.Common.{◌≡◌, Vec, Global, ℕ, List, [], subst, arith, Result, Ok, Err, IfOk, IfErr}
use Rattle.lnt_wire.specs.declared.format.Order.{Order}
use Rattle.lnt_wire.specs.declared.put.EncodeFault.{EncodeFault}
use Rattle.lnt_wire.specs.Bytes.{IsShortest, Appends}
use Rattle.lnt_header.specs.Parts.{HeaderParts}
use Rattle.lnt_header.specs.declared.numbers.NumberParts.{NumberParts}
use Rattle.lnt_header.specs.declared.op.Op.{Op}
use Rattle.lnt_header.specs.Encoding.{RefusedPut}
use Rattle.lnt_header_bytes.specs.HeaderBytes.{HeaderBytesIn}
use Rattle.lnt_header.specs.Joins.{Each}
use Rattle.lnt_header_bytes.proofs.ProgramLaws.{shorter_program}
use Rattle.lnt_ops.specs.OpBytes.{OpBytes}
use Rattle.lnt_header.specs.declared.unit_parts.UnitParts.{UnitParts}
use Rattle.lnt_unit.specs.UnitBytes.{UnitBytesIn}
use Rattle.std.proofs.lemmas.Grind.{common_steps}

-- the shortest program gives the shortest unit
pub unit_put : (order : Order) (unit : UnitParts) (program bytes : List ℕ)
    → IsShortest (Each (OpBytes unit.header.numbers)) unit.ops program
    → IsShortest (HeaderBytesIn order) (unit.header, program) bytes → IsShortest (UnitBytesIn order) unit bytes
unit_put order unit program bytes p q = record {
  spelled = record {
    order_is = q.spelled.order_is;
    spelled = record { program = program; operations = p.spelled; whole = q.spelled.spelled };
  };
  shortest = λ other t.
      let u = t.spelled in
      let less = shorter_program order unit.header program u.program other (p.shortest u.program u.operations)
      (record { order_is = t.order_is; spelled = u.whole }) in
      omega (arith, less.no_longer, q.shortest less.bytes less.spelled);
}

-- where the shortest program has no unit, no program has one
pub unit_refused : (order : Order) (unit : UnitParts) (program : List ℕ) (fault : EncodeFault)
    → IsShortest (Each (OpBytes unit.header.numbers)) unit.ops program → RefusedPut (HeaderBytesIn order) (unit.header, program) fault
    → RefusedPut (UnitBytesIn order) unit fault
unit_refused order unit program fault p refused = record {
  none = λ large bytes t.
      let u = t.spelled in
      let less = shorter_program order unit.header program u.program bytes (p.shortest u.program u.operations)
      (record { order_is = t.order_is; spelled = u.whole }) in
      refused.none large less.bytes less.spelled;
}

-- the operations of a unit, put into an empty vector
pub record Program (unit : UnitParts) (header : HeaderParts) (program : List ℕ) : Type 0 where
  pub header_is : header ≡ unit.header
  pub put : IsShortest (Each (OpBytes unit.header.numbers)) unit.ops program

pub program_put : (unit : UnitParts) (header : HeaderParts) (numbers : NumberParts) (ops : List Op) (old new program : List ℕ)
    → header ≡ unit.header → numbers ≡ header.numbers → ops ≡ unit.ops → old ≡ [] → Appends (Each (OpBytes numbers)) ops old new
    → program ≡ new → Program unit header program
program_put unit header numbers ops old new program same of all none p is = grind (arith, common_steps)

pub unit_written : (unit : UnitParts) (header : HeaderParts) (program : List ℕ) (r : Result (Vec ℕ Global) EncodeFault)
    → Program unit header program → IfOk r (λ bytes. IsShortest (HeaderBytesIn header.numbers.order) (header, program) bytes.items)
    → IfOk r (λ bytes. IsShortest (UnitBytesIn unit.header.numbers.order) unit bytes.items)
unit_written unit header program (Ok bytes) p q = unit_put unit.header.numbers.order unit program bytes.items p.put
    (subst (λ (h : HeaderParts). IsShortest (HeaderBytesIn h.numbers.order) (h, program) bytes.items) p.header_is q)
unit_written unit header program (Err fault) p q = q

pub unit_not_written : (unit : UnitParts) (header : HeaderParts) (program : List ℕ) (r : Result (Vec ℕ Global) EncodeFault)
    → Program unit header program → IfErr r (λ fault. RefusedPut (HeaderBytesIn header.numbers.order) (header, program) fault)
    → IfErr r (λ fault. RefusedPut (UnitBytesIn unit.header.numbers.order) unit fault)
unit_not_written unit header program (Ok bytes) p q = q
unit_not_written unit header program (Err fault) p q = unit_refused unit.header.numbers.order unit program fault p.put
    (subst (λ (h : HeaderParts). RefusedPut (HeaderBytesIn h.numbers.order) (h, program) fault) p.header_is q)
