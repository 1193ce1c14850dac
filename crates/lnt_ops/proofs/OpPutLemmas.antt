-- What is written of operations.
use Rattle.std.proofs.Common.{Bor, ◌≡◌, ℕ, suc, ◌+◌, ◌-◌, ◌<◌, ◌≤◌, List, [], ◌∷◌, ◌++◌, length, take, get_or, refl, sym, ap, subst, ◌∙◌}
use Rattle.std.proofs.Common.{append_assoc, append-nil, arith, length-append, slice_set, Result, Ok, Err, OnOk, OnErr}
use Rattle.lnt_wire.specs.declared.format.Order.{Order}
use Rattle.lnt_wire.specs.Bytes.{Exactly, IsShortest, Appends, Extends}
use Rattle.lnt_wire.specs.Reading.{At, Reads, RefusesField}
use Rattle.lnt_wire.specs.declared.fault.Fault.{Fault}
use Rattle.lnt_wire.proofs.CodeLaws.{unsigned_code}
use Rattle.lnt_wire.specs.Leb128.{UnsignedLeb, IsLargeUnsigned, IsLebFault}
use Rattle.lnt_wire.specs.Numbers.{NumberBytes}
use Rattle.lnt_wire.proofs.LengthLaws.{length-number_bytes}
use Rattle.lnt_header.specs.declared.numbers.NumberParts.{NumberParts}
use Rattle.lnt_header.specs.declared.op.Op.{Op}
use Rattle.lnt_header.specs.declared.op.Op.TheVariants.{UnknownStandard}
use Rattle.lnt_header.specs.declared.op.OpView.{OpView}
use Rattle.lnt_header.specs.declared.op.OpView.TheVariants as views
use Rattle.lnt_header.specs.declared.op.Operands.{Operands}
use Rattle.lnt_header.specs.declared.op.Operands.TheVariants.{Spelled, Listed}
use Rattle.lnt_header.specs.OpRules.{AreOperands, StandsFor, Admits, AdmitsCoding, Coding, coding, coding_of, Operand}
use Rattle.lnt_header.specs.Joins.{Each}
use Rattle.lnt_header.proofs.PutLaws.{put_as, each_begun, each_done, each_put, each_more}
use Rattle.lnt_header.proofs.FirstLaws.{all_at}
use Rattle.lnt_ops.proofs.OpLaws.{extended_parts, same_whole}
use Rattle.lnt_ops.proofs.ViewLaws.{leb_is_some, is_coded, IsListed, is_op_of, operands_of}
use Rattle.lnt_ops.specs.OpBytes.{CodingBytes, OpBytes, Standard, Extended, SpellsNumbers}
use Rattle.lnt_ops.specs.OpPuts.{IsOpOf, AddsView, Coded, ExtendedCoded, ExtendedStart}
use Rattle.lnt_ops.specs.Stepping.{AddsSpelled, AddsOperands}
use Rattle.lnt_ops.proofs.OwnedLemmas as owned
use Rattle.lnt_ops.proofs.OwnedLemmas.{NumbersSoFar}
use Rattle.lnt_ops.proofs.LebSizes.{shortest_of_less, at_most_ten, one_group}
use Rattle.std.proofs.lemmas.Grind.{common_steps}

-- what a call gives where it gives something
pub on_ok_to : {P Q E : Type 0} (r : Result Unit E) → (P → Q) → OnOk r P → OnOk r Q
on_ok_to (Ok u) to p = to p
on_ok_to (Err e) to p = p

pub on_err_to : {P Q E : Type 0} (r : Result Unit E) → (P → Q) → OnErr r P → OnErr r Q
on_err_to (Ok u) to p = p
on_err_to (Err e) to p = to p

-- ---- codes and operands

pub coded_put : {X : Type 0} (Operand : X → List ℕ → Type 0) (code : ℕ) (x : X) (old middle new : List ℕ) → middle ≡ old ++ code ∷ []
    → Appends Operand x middle new → Appends (Coded code Operand) x old new
coded_put Operand code x old middle new pushed p = grind (arith, common_steps, append_assoc)

-- ---- extended operations

pub start_put : (code count : ℕ) (old first middle new : List ℕ) → first ≡ old ++ 0 ∷ [] → Appends UnsignedLeb count first middle
    → new ≡ middle ++ code ∷ [] → Appends (ExtendedStart code) count old new
start_put code count old first middle new zero_put p code_put = grind (arith, common_steps, length-append, append_assoc)

-- an extended operation whose length and operand are the shortest
pub shortest_extended : {X : Type 0} (Operand : X → List ℕ → Type 0) (code : ℕ) (x : X) (number operand : List ℕ)
    → IsShortest UnsignedLeb (suc (length operand)) number → IsShortest Operand x operand
    → IsShortest (ExtendedCoded code Operand) x (0 ∷ number ++ code ∷ operand)
shortest_extended Operand code x number operand p q = record {
  spelled = record {
    spelled = (
      code ∷ operand,
      record { prefix = code ∷ []; back = operand; first = refl; second = q.spelled; joined = refl },
      record {
        prefix = 0 ∷ [];
        back = number ++ code ∷ operand;
        first = refl;
        second = record { prefix = number; back = code ∷ operand; first = p.spelled; second = refl; joined = refl };
        joined = refl;
      },
    );
  };
  shortest = λ other t.
      let u = extended_parts code (Operand x) other t.spelled in
      let least = q.shortest u.operand u.is in
      let less : suc (length operand) ≤ length (code ∷ u.operand) = omega (arith, least) in
      let count = shortest_of_less (suc (length operand)) (length (code ∷ u.operand)) number u.spelling less p u.spelled in
      omega (
        arith,
        least,
        count,
        length-append number (code ∷ operand),
        ap length u.joined,
        length-append u.spelling (code ∷ u.operand),
      );
}

-- an operand after its start
extended_after : {X : Type 0} (Operand : X → List ℕ → Type 0) (code count : ℕ) (x : X) (old middle new : List ℕ)
    → Appends (ExtendedStart code) count old middle → (p : Appends Operand x middle new)
    → count ≡ suc (length p.spelling) → Appends (ExtendedCoded code Operand) x old new
extended_after Operand code count x old middle new s p is =
    let number = s.spelled.spelled.number in
    let shortest : IsShortest UnsignedLeb (suc (length p.spelling)) number = record {
      spelled = subst (λ (n : ℕ). UnsignedLeb n number) is s.spelled.spelled.spelled;
      shortest = λ other q.
          let t : ExtendedStart code count (0 ∷ other ++ code ∷ []) = record {
            number = other;
            spelled = subst (λ (n : ℕ). UnsignedLeb n other) (sym is) q;
            joined = refl;
          } in
          omega (
            arith,
            s.spelled.shortest (0 ∷ other ++ code ∷ []) t,
            ap length s.spelled.spelled.joined,
            length-append number (code ∷ []),
            length-append other (code ∷ []),
          );
    } in
    record {
      spelling = 0 ∷ number ++ code ∷ p.spelling;
      spelled = shortest_extended Operand code x number p.spelling shortest p.spelled;
      joined = p.joined ∙ ap (λ (z : List ℕ). z ++ p.spelling) (s.joined ∙ ap (λ (z : List ℕ). old ++ z) s.spelled.spelled.joined)
          ∙ simp append_assoc refl;
    }

exactly_put : (operand old : List ℕ) → Appends Exactly operand old (old ++ operand)
exactly_put operand old = grind (arith, common_steps)

pub extended_put : (code count : ℕ) (operand old middle new : List ℕ) → Appends (ExtendedStart code) count old middle
    → new ≡ middle ++ operand → count ≡ length operand + 1 → Appends (ExtendedCoded code Exactly) operand old new
extended_put code count operand old middle new s put is =
    let p = exactly_put operand middle in
    rw put (extended_after Exactly code count operand old middle (middle ++ operand) s p (omega (arith, is, ap length p.spelled.spelled)))

pub address_put : (order : Order) (code size address count : ℕ) (old middle new : List ℕ) → Appends (ExtendedStart code) count old middle
    → count ≡ size + 1 → Appends (NumberBytes order size) address middle new
    → Appends (ExtendedCoded code (NumberBytes order size)) address old new
address_put order code size address count old middle new s is p =
    extended_after (NumberBytes order size) code count address old middle new s p
    (omega (arith, is, ap length p.spelled.spelled.spelled, length-number_bytes order size address))

-- ---- a number, whose length is written last

-- what stands after some bytes, after its first but one was changed
second_set : (old : List ℕ) (a b v : ℕ) (past : List ℕ) → slice_set (old ++ a ∷ b ∷ past) (length old + 1) v ≡ old ++ a ∷ v ∷ past
second_set [] a b v past = refl
second_set (x ∷ old) a b v past =
    let at : length (x ∷ old) + 1 ≡ suc (length old + 1) = omega arith in
    rw at (ap (λ (z : List ℕ). x ∷ z) (second_set old a b v past))

-- a byte is enough for the length
pub counted_room : (code n : ℕ) (old middle new : List ℕ) → middle ≡ old ++ 0 ∷ 0 ∷ code ∷ [] → Appends UnsignedLeb n middle new
    → length new - (length middle - 2) - 1 < 128
counted_room code n old middle new three p = grind (arith, common_steps, length-append, at_most_ten)

pub counted_put : (code n place size : ℕ) (old middle new : List ℕ) → middle ≡ old ++ 0 ∷ 0 ∷ code ∷ [] → Appends UnsignedLeb n middle new
    → place ≡ length middle - 2 → size ≡ length new - place - 1 → Appends (ExtendedCoded code UnsignedLeb) n old (slice_set new place size)
counted_put code n place size old middle new three p at is =
    let x = p.spelling in
    let all : new ≡ old ++ 0 ∷ 0 ∷ code ∷ x = p.joined ∙ ap (λ (z : List ℕ). z ++ x) three ∙ append_assoc old (0 ∷ 0 ∷ code ∷ []) x in
    let here : place ≡ length old + 1 = omega (arith, at, ap length three, length-append old (0 ∷ 0 ∷ code ∷ [])) in
    let counted : size ≡ suc (length x) = omega (arith, is, here, ap length all, length-append old (0 ∷ 0 ∷ code ∷ x)) in
    let low : suc (length x) < 128 = omega (arith, at_most_ten n x p.spelled) in
    let changed : slice_set new place size ≡ old ++ 0 ∷ suc (length x) ∷ code ∷ x = rw (all, here, counted)
    (second_set old 0 0 (suc (length x)) (code ∷ x)) in
    record {
      spelling = 0 ∷ suc (length x) ∷ code ∷ x;
      spelled = shortest_extended UnsignedLeb code n (suc (length x) ∷ []) x (one_group (suc (length x)) low) p.spelled;
      joined = changed;
    }

-- ---- single operations, by how they are coded

-- an opcode alone
pub alone : (code : ℕ) (old new : List ℕ) → new ≡ old ++ code ∷ [] → Appends (Coded code Exactly) [] old new
alone code old new put = grind (arith, common_steps)

-- what was put is of the operation that is coded so
of_coding : (h : NumberParts) (op : Op) (c : Coding) (old new : List ℕ) → coding op ≡ c → Appends (CodingBytes h) c old new
    → Appends (OpBytes h) op old new
of_coding h op c old new is p = grind (arith, common_steps, put_as)

view_put : (order : Order) (size : ℕ) (view : OpView) (c : Coding) (old new : List ℕ) → coding_of view ≡ c → (IsListed c → ⊥)
    → ((h : NumberParts) → h.order ≡ order → h.address_size ≡ size → AdmitsCoding h c → Appends (CodingBytes h) c old new)
    → AddsView order size view old new
view_put order size view c old new e known put = grind (arith, common_steps, is_coded, of_coding)

standard_as : {X : Type 0} (Spells : X → List ℕ → Type 0) (x : X) (h : NumberParts) (k : ℕ) (c : Coding) (old new : List ℕ)
    → ((y : List ℕ) → Standard h k (Spells x) y → CodingBytes h c y) → ((y : List ℕ) → CodingBytes h c y → Standard h k (Spells x) y)
    → k < h.opcode_base → Appends (Coded k Spells) x old new → Appends (CodingBytes h) c old new
standard_as Spells x h k c old new to from low p = grind (arith, common_steps, put_as)

pub special_put : (order : Order) (size : ℕ) (view : OpView) (c : ℕ) (old new : List ℕ) → coding_of view ≡ Coding.special c → c < 256
    → new ≡ old ++ c ∷ [] → AddsView order size view old new
special_put order size view c old new e low put = grind (arith, common_steps, view_put)

-- a standard operation, where numbers of some bytes have the order of the header
pub standard_put : {X : Type 0} (Spells : Order → X → List ℕ → Type 0) (x : X) (order : Order) (size : ℕ) (view : OpView) (k : ℕ)
    (operand : Operand) (old new : List ℕ) → coding_of view ≡ Coding.standard k operand
    → ((h : NumberParts) (y : List ℕ) → Standard h k (Spells h.order x) y → CodingBytes h (Coding.standard k operand) y)
    → ((h : NumberParts) (y : List ℕ) → CodingBytes h (Coding.standard k operand) y → Standard h k (Spells h.order x) y)
    → Appends (Coded k (Spells order)) x old new → AddsView order size view old new
standard_put Spells x order size view k operand old new e to from p =
    view_put order size view (Coding.standard k operand) old new e (λ listed. listed)
    (λ h o s a. standard_as (Spells h.order) x h k (Coding.standard k operand) old new (to h) (from h) a
    (subst (λ (w : Order). Appends (Coded k (Spells w)) x old new) (sym o) p))

-- an extended operation, where an address also has the size of the header
pub extended_view_put : {X : Type 0} (Spells : Order → ℕ → X → List ℕ → Type 0) (x : X) (order : Order) (size : ℕ) (view : OpView)
    (code : ℕ) (c : Coding) (old new : List ℕ) → coding_of view ≡ c → (IsListed c → ⊥)
    → ((h : NumberParts) (y : List ℕ) → AdmitsCoding h c → Extended code (Spells h.order h.address_size x) y → CodingBytes h c y)
    → ((h : NumberParts) (y : List ℕ) → CodingBytes h c y → Extended code (Spells h.order h.address_size x) y)
    → Appends (ExtendedCoded code (Spells order size)) x old new → AddsView order size view old new
extended_view_put Spells x order size view code c old new e known to from p = view_put order size view c old new e known (λ h o s a.
    let sized : Appends (ExtendedCoded code (Spells order h.address_size)) x old new =
    subst (λ (k : ℕ). Appends (ExtendedCoded code (Spells order k)) x old new) (sym s) p in
    put_as (ExtendedCoded code (Spells h.order h.address_size)) (CodingBytes h) x c old new (λ y t. to h y a t.spelled)
    (λ y t. record { spelled = from h y t })
    (subst (λ (w : Order). Appends (ExtendedCoded code (Spells w h.address_size)) x old new) (sym o) sized))

-- the operands of an unknown standard operation
are_operands : (k : ℕ) (operands : Operands) (op : Op) → StandsFor (views.UnknownStandard k operands) op
    → AreOperands operands (operands_of op)
are_operands k operands (UnknownStandard j numbers) p = p.1
are_operands k operands op p = absurd p

pub unknown_standard_put : (order : Order) (size : ℕ) (view : OpView) (k : ℕ) (operands : Operands) (old new : List ℕ)
    → view ≡ views.UnknownStandard k operands → AddsOperands k operands old new → AddsView order size view old new
unknown_standard_put order size view k operands old new is p =
    grind (arith, common_steps, operands_of, is_op_of, of_coding, standard_as, are_operands)

-- ---- what a view is of

-- an operation of a header
pub is_op_of_header : (h : NumberParts) (op : Op) (view : OpView) (size : ℕ) → Admits h op → StandsFor view op → size ≡ h.address_size
    → IsOpOf size view
is_op_of_header h op view size admits stands sized =
    record { numbers = h; op = op; size_is = sym sized; stands = stands; admitted = admits }

pub op_put : (h : NumberParts) (op : Op) (view : OpView) (order : Order) (size : ℕ) (old new : List ℕ) → Admits h op → StandsFor view op
    → order ≡ h.order → size ≡ h.address_size → AddsView order size view old new → Appends (OpBytes h) op old new
op_put h op view order size old new admits stands ordered sized p = p.adds h op (sym ordered) (sym sized) stands admits

-- ---- operands

pub spelled_put : (code : ℕ) (operands : Operands) (bytes : Bor (List ℕ)) (old middle new : List ℕ) → operands ≡ Spelled bytes
    → middle ≡ old ++ code ∷ [] → AddsSpelled bytes.now middle new → AddsOperands code operands old new
spelled_put code operands bytes old middle new is pushed p = grind (arith, common_steps, coded_put)

pub listed_put : (code : ℕ) (operands : Operands) (listed : Bor (List ℕ)) (old middle new : List ℕ) → operands ≡ Listed listed
    → middle ≡ old ++ code ∷ [] → Appends (Each UnsignedLeb) listed.now middle new → AddsOperands code operands old new
listed_put code operands listed old middle new is pushed p = grind (arith, common_steps, coded_put)

-- the numbers that were read of the bytes so far were added
pub record SpelledSoFar (bytes old : List ℕ) (at : At) (new : List ℕ) : Type 0 where
  pub numbers : List ℕ
  pub read : NumbersSoFar bytes numbers at
  pub put : Appends (Each UnsignedLeb) numbers old new

pub spelled_begun : (bytes old : List ℕ) (at : At) → at.rest ≡ bytes → SpelledSoFar bytes old at old
spelled_begun bytes old at rest = record { numbers = []; read = owned.numbers_none bytes at rest; put = each_begun UnsignedLeb old }

pub spelled_more : (bytes old middle new : List ℕ) (n : ℕ) (at next : At) → SpelledSoFar bytes old at middle → Reads UnsignedLeb n at next
    → Appends UnsignedLeb n middle new → SpelledSoFar bytes old next new
spelled_more bytes old middle new n at next so r p =
    record {
      numbers = so.numbers ++ n ∷ [];
      read = owned.numbers_more bytes so.numbers n at next so.read r;
      put = each_put UnsignedLeb so.numbers n old middle new so.put p;
    }

pub spelled_done : (bytes old new : List ℕ) (at : At) (fault : Fault) → SpellsNumbers bytes → SpelledSoFar bytes old at new
    → RefusesField (IsLebFault IsLargeUnsigned) UnsignedLeb at fault → AddsSpelled bytes old new
spelled_done bytes old new at fault some so r = record {
  adds = λ numbers each.
      let all : Each UnsignedLeb so.numbers bytes = owned.numbers_done bytes so.numbers at fault some so.read r in
      let same : so.numbers ≡ numbers = same_whole unsigned_code leb_is_some so.numbers numbers bytes bytes all each refl in
      subst (λ (ns : List ℕ). Appends (Each UnsignedLeb) ns old new) same so.put;
}

-- ---- lists of operations

pub ops_more : (h : NumberParts) (ops : List Op) (i : ℕ) (op : Op) (old middle new : List ℕ) → i < length ops → op ≡ get_or ops i op
    → Appends (Each (OpBytes h)) (take i ops) old middle → Appends (OpBytes h) op middle new
    → Appends (Each (OpBytes h)) (take (i + 1) ops) old new
ops_more h ops i op old middle new lt is p q =
    each_more (OpBytes h) ops i op old middle new lt p (subst (λ (o : Op). Appends (OpBytes h) o middle new) is q)

pub appended_extends : {X : Type 0} (Spells : X → List ℕ → Type 0) (x : X) (old new : List ℕ) → Appends Spells x old new → Extends old new
appended_extends Spells x old new p = record { more = p.spelling; joined = p.joined }

pub unchanged_extends : (old new : List ℕ) → new ≡ old → Extends old new
unchanged_extends old new same = record { more = []; joined = same ∙ sym (append-nil old) }

pub extends_more : (old middle new : List ℕ) → Extends old middle → Extends middle new → Extends old new
extends_more old middle new p q = grind (arith, common_steps, append_assoc)

-- The lemmas of `add_spelled`.
pub ruleset add_spelled_lemmas = (spelled_begun, spelled_more, spelled_done)

-- The lemmas of `add_ops`.
pub ruleset add_ops_lemmas = (each_begun, ops_more, each_done, all_at)
