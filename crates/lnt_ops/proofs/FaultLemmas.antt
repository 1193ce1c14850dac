-- What the faults of operations say.
use Rattle.std.proofs.Common.{ℕ, List, [], ◌∷◌, ◌++◌, length, refl, sym, ap, ◌∙◌, append_assoc, arith, inl, inr}
use Rattle.lnt_wire.specs.Reading.{At, Refuses}
use Rattle.lnt_wire.specs.declared.fault.Fault.{Fault}
use Rattle.lnt_wire.specs.declared.fault.Reason.{Reason}
use Rattle.lnt_wire.specs.declared.fault.Reason.TheVariants.{Truncated, LebTooLarge}
use Rattle.lnt_wire.specs.Leb128.{IsLargeUnsigned, IsLargeSigned, IsLebFault}
use Rattle.lnt_header.specs.declared.numbers.NumberParts.{NumberParts}
use Rattle.lnt_header.specs.FieldFaults.IsCutField.{number, leb, operation}
use Rattle.lnt_header.proofs.ReaderLaws.{cut_later}
use Rattle.lnt_ops.specs.OpBytes.{OpBytes}
use Rattle.lnt_ops.specs.OpFaults.{IsOpFault, IsFirstFault}
use Rattle.lnt_ops.specs.OpFaults.IsOpFault.{cut_field, large_number, wrong_length}
use Rattle.lnt_ops.specs.OpFaults.IsFirstFault.{no_opcode, unsigned_operand, signed_operand, fixed_operand}
use Rattle.lnt_ops.specs.OpFaults.IsFirstFault.{unknown_operand, no_length, cut_counted, wrong_counted, large_counted}

-- ---- whatever stands before

pub op_later : (address_size : ℕ) (reason : Reason) (prefix before left : List ℕ) → IsOpFault address_size reason before left
    → IsOpFault address_size reason (prefix ++ before) left
op_later address_size reason prefix before left (cut_field e h) = cut_field e (cut_later prefix before left h)
op_later address_size reason prefix before left (large_number e h) = large_number e h
op_later address_size reason prefix before left (wrong_length earlier e b h) =
    wrong_length (prefix ++ earlier) e (ap (λ (z : List ℕ). prefix ++ z) b ∙ sym (append_assoc prefix earlier (0 ∷ []))) h

-- ---- the first fault is a fault

unsigned_is_op_fault : (address_size : ℕ) (reason : Reason) (before bytes : List ℕ) → IsLebFault IsLargeUnsigned reason bytes
    → IsOpFault address_size reason before bytes
unsigned_is_op_fault address_size Truncated before bytes h = cut_field refl (leb h)
unsigned_is_op_fault address_size LebTooLarge before bytes h = large_number refl (h.0, h.1, h.2, h.4, inl h.3)
unsigned_is_op_fault address_size reason before bytes h = absurd h

signed_is_op_fault : (address_size : ℕ) (reason : Reason) (before bytes : List ℕ) → IsLebFault IsLargeSigned reason bytes
    → IsOpFault address_size reason before bytes
signed_is_op_fault address_size Truncated before bytes h = cut_field refl (leb h)
signed_is_op_fault address_size LebTooLarge before bytes h = large_number refl (h.0, h.1, h.2, h.4, inr h.3)
signed_is_op_fault address_size reason before bytes h = absurd h

pub op_fault : (h : NumberParts) (reason : Reason) (before left : List ℕ) → IsFirstFault h reason before left
    → IsOpFault h.address_size reason before left
op_fault h reason before left (no_opcode e b l) = cut_field e (number 1 (omega arith) (omega (arith, ap length l)))
op_fault h reason before left (unsigned_operand k takes lt b p) = unsigned_is_op_fault h.address_size reason before left p
op_fault h reason before left (signed_operand k takes lt b p) = signed_is_op_fault h.address_size reason before left p
op_fault h reason before left (fixed_operand k e takes lt b short) = cut_field e (number 2 (omega arith) short)
op_fault h reason before left (unknown_operand k operands spelling some lt each fewer b p) =
    unsigned_is_op_fault h.address_size reason before left p
op_fault h reason before left (no_length b p) = unsigned_is_op_fault h.address_size reason before left p
op_fault h reason before left (cut_counted n spelling e p b short) = cut_field e (operation n [] spelling p b short)
op_fault h reason before left (wrong_counted e b p) = wrong_length [] e b p
op_fault h reason before left (large_counted spelling operand rest e p b l shape large) =
    large_number e (operand, rest, shape, l, inl large)

pub refuses_op : (h : NumberParts) (old : At) (fault : Fault) → Refuses (IsFirstFault h) (OpBytes h) old fault
    → Refuses (IsOpFault h.address_size) (OpBytes h) old fault
refuses_op h old fault r =
    record {
      before = r.before;
      left = r.left;
      split = r.split;
      place = r.place;
      reason = op_fault h fault.reason r.before r.left r.reason;
      none = r.none;
    }
