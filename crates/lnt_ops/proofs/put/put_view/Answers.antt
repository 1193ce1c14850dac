use Rattle.std.proofs.Common.{◌≡◌, ◌<◌, [], ap, arith, to_z, of_z, w64}
use Rattle.std.proofs.lemmas.Grind.{common_steps}
use Rattle.lnt_wire.specs.Bytes.{Exactly}
use Rattle.lnt_wire.specs.Leb128.{SignedLeb, UnsignedLeb}
use Rattle.lnt_wire.specs.Numbers.{NumberBytes}
use Rattle.lnt_header.specs.OpRules.{coding_of}
use Rattle.lnt_header.specs.OpRules.Coding.{extended, extended_address, extended_number, unknown_extended}
use Rattle.lnt_header.specs.OpRules.Operand.{bare, half, signed, unsigned}
use Rattle.lnt_ops.proofs.OpPutLemmas.{alone, extended_view_put, on_ok_to, special_put, standard_put, unknown_standard_put}
use Rattle.lnt_ops.proofs.put.put_view.Goals as goal

pub returns-in-Special-clause-ok : goal.returns-in-Special-clause-ok
returns-in-Special-clause-ok c =
    let low : c.in-Special.opcode < 256 = grind (arith, common_steps) in
    on_ok_to c.add_code.result (λ p. special_put c.args.order c.args.address_size c.args.view _ _ _ c.in-Special.ensures low p)
    c.add_code.ensures.ok

pub returns-in-Bare-clause-ok : goal.returns-in-Bare-clause-ok
returns-in-Bare-clause-ok c = on_ok_to c.add_code-in-Bare.result
    (λ p. standard_put (λ _. Exactly) [] _ _ _ _ bare _ _ c.in-Bare.ensures (λ h y t. t) (λ h y t. t) (alone _ _ _ p))
    c.add_code-in-Bare.ensures.ok

pub returns-in-Unsigned-clause-ok : goal.returns-in-Unsigned-clause-ok
returns-in-Unsigned-clause-ok c = on_ok_to c.add_unsigned.result
    (λ p. standard_put (λ _. UnsignedLeb) _ _ _ _ _ (unsigned _) _ _ c.in-Unsigned.ensures (λ h y t. t) (λ h y t. t) p)
    c.add_unsigned.ensures.ok

pub returns-in-Signed-clause-ok : goal.returns-in-Signed-clause-ok
returns-in-Signed-clause-ok c =
    let same : to_z w64 (of_z w64 c.in-Signed.z) ≡ c.in-Signed.z = grind (arith, common_steps) in
    on_ok_to c.add_signed.result
    (λ p. standard_put (λ _. SignedLeb) _ _ _ _ _ (signed _) _ _ c.in-Signed.ensures (λ h y t. t) (λ h y t. t) p)
    (rw (← same) c.add_signed.ensures.ok)

pub returns-in-Half-clause-ok : goal.returns-in-Half-clause-ok
returns-in-Half-clause-ok c = on_ok_to c.add_number.result
    (λ p. standard_put (λ order. NumberBytes order 2) _ _ _ _ _ (half _) _ _ c.in-Half.ensures (λ h y t. t) (λ h y t. t) p)
    c.add_number.ensures.ok

pub returns-in-UnknownStandard-clause-ok : goal.returns-in-UnknownStandard-clause-ok
returns-in-UnknownStandard-clause-ok c = on_ok_to c.add_operands.result
    (λ p. unknown_standard_put c.args.order c.args.address_size c.args.view _ _ _ _ c.in-UnknownStandard.ensures p)
    c.add_operands.ensures.ok

pub returns-in-Extended-clause-ok : goal.returns-in-Extended-clause-ok
returns-in-Extended-clause-ok c =
    on_ok_to c.add_extended.result (λ p. extended_view_put (λ _ _. Exactly) [] _ _ _ _ (extended _) _ _ c.in-Extended.ensures
    (λ listed. listed) (λ h y a t. t) (λ h y t. t) p) c.add_extended.ensures.ok

pub returns-in-ExtendedNumber-clause-ok : goal.returns-in-ExtendedNumber-clause-ok
returns-in-ExtendedNumber-clause-ok c =
    on_ok_to c.add_counted.result (λ p. extended_view_put (λ _ _. UnsignedLeb) _ _ _ _ _ (extended_number _ _) _ _
    c.in-ExtendedNumber.ensures (λ listed. listed) (λ h y a t. t) (λ h y t. t) p) c.add_counted.ensures.ok

pub returns-in-ExtendedAddress-clause-ok : goal.returns-in-ExtendedAddress-clause-ok
returns-in-ExtendedAddress-clause-ok c =
    on_ok_to c.add_address.result (λ p. extended_view_put NumberBytes _ _ _ _ _ (extended_address _ _) _ _ c.in-ExtendedAddress.ensures
    (λ listed. listed) (λ h y a t. t) (λ h y t. t) p) c.add_address.ensures.ok

pub returns-in-UnknownExtended-clause-ok : goal.returns-in-UnknownExtended-clause-ok
returns-in-UnknownExtended-clause-ok c =
    let low : c.in-UnknownExtended.code < 256 = grind (arith, common_steps) in
    on_ok_to c.add_extended-in-UnknownExtended.result (λ p. extended_view_put (λ _ _. Exactly) _ _ _ _ _ (unknown_extended _ _) _ _
    (ap coding_of c.in-UnknownExtended.ensures) (λ listed. listed) (λ h y a t. (a, low, t)) (λ h y t. t.2) p)
    c.add_extended-in-UnknownExtended.ensures.ok
