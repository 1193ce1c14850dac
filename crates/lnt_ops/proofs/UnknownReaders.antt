-- The operands of unknown standard operations.
use Rattle.std.proofs.Common.{◌≡◌, ℕ, ◌+◌, ◌-◌, ◌<◌, List, [], ◌∷◌, ◌++◌, length, take, refl, sym, ap, subst, ◌∙◌, arith, length-append}
use Rattle.std.proofs.Math.Seq.{take-append_seam}
use Rattle.lnt_wire.specs.Reading.{At, Reads, RefusesField}
use Rattle.lnt_wire.specs.declared.fault.Fault.{Fault}
use Rattle.lnt_wire.specs.Leb128.{UnsignedLeb, IsLargeUnsigned, IsLebFault}
use Rattle.lnt_header.specs.declared.numbers.NumberParts.{NumberParts}
use Rattle.lnt_header.specs.declared.op.Op.TheVariants as ops
use Rattle.lnt_header.specs.declared.op.OpView.{OpView}
use Rattle.lnt_header.specs.HeaderRules.{AreHeaderNumbers}
use Rattle.lnt_header.specs.Joins.{Each}
use Rattle.lnt_header.proofs.ReaderLaws.{reads_none, reads_more, reads_map}
use Rattle.lnt_header.specs.OpRules.{last_known, standard_length, StandsFor}
use Rattle.lnt_ops.proofs.StandardReaders.{after_opcode}
use Rattle.lnt_ops.specs.OpFaults.IsFirstFault.{unknown_operand}
use Rattle.lnt_ops.specs.OpSteps.{BytesAfter, GivesAfter, PassesOperands, RefusesAfter, RefusesOperands}
use Rattle.std.proofs.lemmas.Grind.{common_steps}

-- ---- operands one by one

pub operands_none : (at : At) → PassesOperands 0 at at
operands_none at = record { operands = []; count_is = refl; reads = reads_none UnsignedLeb at }

pub operands_more : (count n : ℕ) (old middle new : At) → PassesOperands count old middle → Reads UnsignedLeb n middle new
    → PassesOperands (count + 1) old new
operands_more count n old middle new p r = record {
  operands = p.operands ++ n ∷ [];
  count_is = omega (arith, length-append p.operands (n ∷ []), p.count_is);
  reads = reads_more (λ _. UnsignedLeb) p.operands n old middle new p.reads r;
}

pub refuses_operands : (n count : ℕ) (old middle : At) (fault : Fault) → PassesOperands count old middle → count < n
    → RefusesField (IsLebFault IsLargeUnsigned) UnsignedLeb middle fault → RefusesOperands n old fault
refuses_operands n count old middle fault p lt r = grind (arith, common_steps)

-- ---- the operation

-- the header says how many operands it has
pub opcode_there : (h : NumberParts) (k : ℕ) → AreHeaderNumbers h → last_known < k → k < h.opcode_base → k - 1 < length h.standard_lengths
opcode_there h k numbers some lt = omega (arith, numbers.opcode_base, some, lt)

pub gives_unknown : (h : NumberParts) (k count : ℕ) (view : OpView) (old new : At) → last_known < k → k < h.opcode_base
    → count ≡ standard_length h k → PassesOperands count old new
    → ((operands : List ℕ) → Each UnsignedLeb operands (take (length old.rest - length new.rest) old.rest)
    → StandsFor view (ops.UnknownStandard k operands)) → GivesAfter h k view old new
gives_unknown h k count view old new some lt counted p stands =
    let r = p.reads in
    let size : length old.rest - length new.rest ≡ length r.spelling = omega
    (arith, ap length r.whole, length-append r.spelling new.rest) in
    let taken : take (length old.rest - length new.rest) old.rest ≡ r.spelling =
    ap (λ (n : ℕ). take n old.rest) size ∙ ap (take (length r.spelling)) r.whole ∙ take-append_seam r.spelling new.rest in
    let several : length p.operands ≡ standard_length h k = p.count_is ∙ counted in
    let op = ops.UnknownStandard k p.operands in
    record {
      op = op;
      stands = stands p.operands (subst (λ (x : List ℕ). Each UnsignedLeb p.operands x) (sym taken) r.spelled);
      admitted = (some, lt, several);
      reads = reads_map (Each UnsignedLeb) (BytesAfter h k) p.operands op old new
          (λ y q. record { whole = (some, several, after_opcode h k (Each UnsignedLeb p.operands) y lt q) }) r;
    }

pub refuses_unknown : (h : NumberParts) (k count : ℕ) (old : At) (fault : Fault) → last_known < k → k < h.opcode_base
    → count ≡ standard_length h k → RefusesOperands count old fault → RefusesAfter h k old fault
refuses_unknown h k count old fault some lt counted r = record {
  before = r.reads.spelling;
  left = r.next.rest;
  split = r.reads.whole;
  place = r.place ∙ r.reads.place;
  reason = unknown_operand k r.operands r.reads.spelling some lt r.reads.spelled (omega (arith, r.fewer, counted)) refl r.reason;
}

-- The lemmas of `read_unknown`.
pub ruleset read_unknown_lemmas = (opcode_there, gives_unknown, refuses_unknown)

-- The lemmas of `pass_operands`.
pub ruleset pass_operands_lemmas = (operands_none, operands_more, refuses_operands)
