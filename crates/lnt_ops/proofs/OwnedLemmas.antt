-- Operands that are copied.
use Rattle.std.proofs.Common.{◌≡◌, ℕ, ◌<◌, List, [], ◌∷◌, ◌++◌, length, refl, sym, ap, subst, ◌∙◌, append_assoc, arith}
use Rattle.std.proofs.lemmas.List.{length-append, append-nil}
use Rattle.lnt_wire.specs.Reading.{At, Reads, RefusesField}
use Rattle.lnt_wire.specs.Bytes.{NoneSpelled}
use Rattle.lnt_wire.proofs.CodeLaws.{unsigned_code}
use Rattle.lnt_wire.specs.Leb128.{UnsignedLeb, IsLargeUnsigned, IsLebFault}
use Rattle.lnt_wire.specs.declared.fault.Fault.{Fault}
use Rattle.lnt_header.specs.Joins.{Each}
use Rattle.lnt_header.proofs.ReaderLaws.{each_push}
use Rattle.lnt_header.specs.OpRules.{StandsFor}
use Rattle.lnt_header.specs.declared.op.Op.{Op}
use Rattle.lnt_header.specs.declared.op.Op.TheVariants as ops
use Rattle.lnt_header.specs.declared.op.OpView.TheVariants as views
use Rattle.lnt_header.specs.declared.op.Operands.{Operands}
use Rattle.lnt_ops.proofs.ProgramLaws.{none_filled}
use Rattle.lnt_ops.proofs.ViewLaws.{leb_is_some}
use Rattle.lnt_ops.specs.OpBytes.{IsOperands, SpellsNumbers}
use Rattle.lnt_ops.specs.Stepping.{StandsForSome}

operands_of : (k : ℕ) (operands : Operands) (op : Op) → StandsFor (views.UnknownStandard k operands) op → IsOperands operands
operands_of k operands (ops.UnknownStandard j numbers) p = record { numbers = numbers; are = p.1 }
operands_of k operands op p = absurd p

pub some_operands : (k : ℕ) (operands : Operands) → StandsForSome (views.UnknownStandard k operands) → IsOperands operands
some_operands k operands v = operands_of k operands v.op v.stands

-- a list that ends where the bytes do
whole_list : (bytes numbers prefix rest : List ℕ) → Each UnsignedLeb numbers prefix → bytes ≡ prefix ++ rest → NoneSpelled UnsignedLeb rest
    → (others : List ℕ) → Each UnsignedLeb others bytes → Each UnsignedLeb numbers bytes
whole_list bytes numbers prefix [] p whole none others q = subst (Each UnsignedLeb numbers) (sym (whole ∙ append-nil prefix)) p
whole_list bytes numbers prefix (b ∷ rest) p whole none others q =
    absurd (none_filled UnsignedLeb numbers prefix (b ∷ rest) bytes unsigned_code p (omega arith) whole none others q)

-- the numbers of the bytes up to a cursor
pub record NumbersSoFar (bytes numbers : List ℕ) (at : At) : Type 0 where
  pub prefix : List ℕ
  pub spelled : Each UnsignedLeb numbers prefix
  pub whole : bytes ≡ prefix ++ at.rest

pub numbers_none : (bytes : List ℕ) (at : At) → at.rest ≡ bytes → NumbersSoFar bytes [] at
numbers_none bytes at e = record { prefix = []; spelled = refl; whole = sym e }

pub numbers_more : (bytes numbers : List ℕ) (n : ℕ) (at new : At) → NumbersSoFar bytes numbers at → Reads UnsignedLeb n at new
    → NumbersSoFar bytes (numbers ++ n ∷ []) new
numbers_more bytes numbers n at new so r = record {
  prefix = so.prefix ++ r.spelling;
  spelled = each_push UnsignedLeb numbers n so.prefix r.spelling so.spelled r.spelled;
  whole = so.whole ∙ ap (λ (z : List ℕ). so.prefix ++ z) r.whole ∙ sym (append_assoc so.prefix r.spelling new.rest);
}

-- where no number follows, the bytes end
pub numbers_done : (bytes numbers : List ℕ) (at : At) (fault : Fault) → SpellsNumbers bytes → NumbersSoFar bytes numbers at
    → RefusesField (IsLebFault IsLargeUnsigned) UnsignedLeb at fault → Each UnsignedLeb numbers bytes
numbers_done bytes numbers at fault some so r =
    whole_list bytes numbers so.prefix at.rest so.spelled so.whole r.none some.numbers some.spelled

-- each number shortens the rest
pub number_long : (n : ℕ) (at new : At) → Reads UnsignedLeb n at new → length new.rest < length at.rest
number_long n at new r = omega (arith, leb_is_some n r.spelling r.spelled, ap length r.whole, length-append r.spelling new.rest)

-- The lemmas of `spelled_numbers`.
pub ruleset spelled_numbers_lemmas = (numbers_none, numbers_more, numbers_done, number_long)
