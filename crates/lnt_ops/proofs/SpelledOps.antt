-- Operations that a header admits have bytes.
use Rattle.std.proofs.Common.{ℕ, suc, ◌^◌, ◌<◌, ◌≤◌, List, [], ◌∷◌, ◌++◌, length, refl, ap, arith, inl, inr, length-append}
use Rattle.std.specs.List.{AllByRecursion}
use Rattle.lnt_wire.specs.declared.format.Order.{Order}
use Rattle.lnt_wire.specs.Bytes.{Exactly, IsShortest}
use Rattle.lnt_wire.specs.Laws as wire
use Rattle.lnt_wire.proofs.LengthLaws.{length-number_bytes}
use Rattle.lnt_wire.specs.Leb128.{SignedLeb, UnsignedLeb}
use Rattle.lnt_wire.specs.Numbers.{NumberBytes}
use Rattle.lnt_wire.specs.Spelled.{HasShortest}
use Rattle.lnt_header.specs.declared.numbers.NumberParts.{NumberParts}
use Rattle.lnt_header.specs.declared.op.Op.{Op}
use Rattle.lnt_header.specs.HeaderRules.{AreHeaderNumbers, IsAddressSize}
use Rattle.lnt_header.specs.Joins.{Each}
use Rattle.lnt_header.proofs.ShortestLaws.{each_shortest}
use Rattle.lnt_header.specs.OpRules.{Admits, AdmitsCoding, Coding, coding, Operand}
use Rattle.lnt_ops.specs.Laws.{AllowedOpsAreSpelled}
use Rattle.lnt_ops.specs.OpBytes.{CodingBytes, Extended, OpBytes, OperandBytes, Standard}
use Rattle.lnt_ops.specs.Spelled.{FitsCoding, FitsOp, FitsOperand}
use Rattle.lnt_ops.proofs.LebSizes.{at_most_ten}
use Rattle.lnt_ops.proofs.OpPutLemmas.{shortest_extended}
use Rattle.lnt_ops.proofs.OpLaws.{op_allowed}
use Rattle.std.proofs.lemmas.Grind.{common_steps}

-- ---- bytes of a kind than which none of the kind are fewer

record Least (Kind : List ℕ → Type 0) : Type 0 where
  bytes : List ℕ
  is : Kind bytes
  least : (other : List ℕ) → Kind other → length bytes ≤ length other

least_of : {X : Type 0} (Spells : X → List ℕ → Type 0) (x : X) → HasShortest Spells x → Least (Spells x)
least_of Spells x s = record { bytes = s.0; is = s.1.spelled; least = s.1.shortest }

shortest_of : {X : Type 0} (Spells : X → List ℕ → Type 0) (x : X) → Least (Spells x) → HasShortest Spells x
shortest_of Spells x l = (l.bytes, record { spelled = l.is; shortest = l.least })

least_exactly : (operand : List ℕ) → Least (Exactly operand)
least_exactly operand = record { bytes = operand; is = refl; least = λ other p. omega (arith, ap length p) }

least_number : (order : Order) (size n : ℕ) → n < 256 ^ size → Least (NumberBytes order size n)
least_number order size n fits = grind (arith, common_steps)

least_standard : (h : NumberParts) (k : ℕ) (Operand : List ℕ → Type 0) → k < h.opcode_base → Least Operand → Least (Standard h k Operand)
least_standard h k Operand low o = record {
  bytes = k ∷ o.bytes;
  is = (low, record { prefix = k ∷ []; back = o.bytes; first = refl; second = o.is; joined = refl });
  least = λ other p. omega (
    arith,
    ap length p.1.joined,
    length-append p.1.prefix p.1.back,
    ap length p.1.first,
    o.least p.1.back
        p.1.second,
  );
}

least_extended : wire.SpelledValues → (code : ℕ) (Operand : List ℕ → Type 0) → (o : Least Operand) → suc (length o.bytes) < 2 ^ 64
    → Least (Extended code Operand)
least_extended law code Operand o fits =
    let number = law.unsigned (suc (length o.bytes)) fits in
    let operand : IsShortest (λ (u : Unit {0}). Operand) tt o.bytes = record { spelled = o.is; shortest = o.least } in
    let whole = shortest_extended (λ (u : Unit {0}). Operand) code tt number.0 o.bytes number.1 operand in
    record {
      bytes = 0 ∷ number.0 ++ code ∷ o.bytes;
      is = whole.spelled.spelled;
      least = λ other t. whole.shortest other (record { spelled = t });
    }

-- ---- operations

short_address : (size : ℕ) → IsAddressSize size → suc size < 2 ^ 64
short_address size (inl is) = omega (arith, is)
short_address size (inr (inl is)) = omega (arith, is)
short_address size (inr (inr is)) = omega (arith, is)

numbers_spelled : wire.SpelledValues → (numbers : List ℕ) → AllByRecursion (λ n. n < 2 ^ 64) numbers
    → AllByRecursion (HasShortest UnsignedLeb) numbers
numbers_spelled law [] fits = tt
numbers_spelled law (n ∷ numbers) fits = (law.unsigned n fits.0, numbers_spelled law numbers fits.1)

least_operand : wire.SpelledValues → (h : NumberParts) (operand : Operand) → FitsOperand operand → Least (OperandBytes h operand)
least_operand law h Operand.bare fits = least_exactly []
least_operand law h (Operand.unsigned n) fits = least_of UnsignedLeb n (law.unsigned n fits)
least_operand law h (Operand.signed z) fits = least_of SignedLeb z (law.signed z fits)
least_operand law h (Operand.half n) fits = least_number h.order 2 n (omega (arith, fits))

least_coding : wire.SpelledValues → (h : NumberParts) (c : Coding) → AreHeaderNumbers h → AdmitsCoding h c → FitsCoding c
    → Least (CodingBytes h c)
least_coding law h (Coding.special c) numbers admits fits = record {
  bytes = c ∷ [];
  is = (admits, omega (arith, fits), refl);
  least = λ other p. omega (arith, ap length p.2);
}
least_coding law h (Coding.standard k operand) numbers admits fits =
    least_standard h k (OperandBytes h operand) admits (least_operand law h operand fits)
least_coding law h (Coding.unknown_standard k operands) numbers admits fits =
    let one = least_standard h k (Each UnsignedLeb operands) admits.1
    (least_of (Each UnsignedLeb) operands (each_shortest UnsignedLeb operands (numbers_spelled law operands fits))) in
    record { bytes = one.bytes; is = (admits.0, admits.2, one.is); least = λ other p. one.least other p.2 }
least_coding law h (Coding.extended code) numbers admits fits =
    least_extended law code (Exactly []) (least_exactly []) (omega (arith, ap length (least_exactly []).is))
least_coding law h (Coding.extended_number code n) numbers admits fits =
    let operand = least_of UnsignedLeb n (law.unsigned n fits) in
    least_extended law code (UnsignedLeb n) operand
    (omega (arith, at_most_ten n operand.bytes (record { spelled = operand.is; shortest = operand.least })))
least_coding law h (Coding.extended_address code address) numbers admits fits =
    let operand = least_number h.order h.address_size address admits in
    least_extended law code (NumberBytes h.order h.address_size address) operand
    (omega (
      arith,
      ap length operand.is.spelled,
      length-number_bytes h.order h.address_size address,
      short_address h.address_size
          numbers.address_size,
    ))
least_coding law h (Coding.unknown_extended code operand) numbers admits fits =
    let one = least_extended law code (Exactly operand) (least_exactly operand)
    (omega (arith, fits.1, ap length (least_exactly operand).is)) in
    record { bytes = one.bytes; is = (admits, omega (arith, fits.0), one.is); least = λ other p. one.least other p.2 }

op_spelled : wire.SpelledValues → (h : NumberParts) (op : Op) → AreHeaderNumbers h → Admits h op → FitsOp op → HasShortest (OpBytes h) op
op_spelled law h op numbers admits fits = shortest_of (OpBytes h) op (least_coding law h (coding op) numbers admits fits)

ops_spelled : wire.SpelledValues → (h : NumberParts) (ops : List Op) → AreHeaderNumbers h → AllByRecursion (Admits h) ops
    → AllByRecursion FitsOp ops → AllByRecursion (HasShortest (OpBytes h)) ops
ops_spelled law h [] numbers admits fits = tt
ops_spelled law h (op ∷ ops) numbers admits fits =
    (op_spelled law h op numbers admits.0 fits.0, ops_spelled law h ops numbers admits.1 fits.1)

-- ---- what is spelled

ops_allowed : (h : NumberParts) (ops : List Op) (x : List ℕ) → Each (OpBytes h) ops x → AllByRecursion (Admits h) ops
    × AllByRecursion FitsOp ops
ops_allowed h [] x p = (tt, tt)
ops_allowed h (op ∷ ops) x p =
    let one = op_allowed h op p.prefix p.first in
    let rest = ops_allowed h ops p.back p.second in
    ((one.0, rest.0), (one.1, rest.1))

pub allowed_ops_are_spelled : wire.SpelledValues → AllowedOpsAreSpelled
allowed_ops_are_spelled law = grind (arith, common_steps, op_spelled, each_shortest, ops_spelled, ops_allowed)
