-- Where a field has a fault, no value of it is spelled, and no other fault of it is so of the same bytes. Crates above cite these.
use Rattle.std.proofs.Common.{◌≡◌, ℕ, List, ◌++◌, length, ap, ◌∙◌, append_assoc, arith, length-append}
use Rattle.lnt_wire.specs.declared.form.Form.TheVariants as forms
use Rattle.lnt_wire.specs.declared.form.FormValue.TheVariants.{Text, LineStrp, Strp, Udata, Data1, Data2, Data4, Data8, Data16}
use Rattle.lnt_wire.specs.declared.form.FormValue.TheVariants.{Block, Block1, Block2, Block4}
use Rattle.lnt_wire.specs.Bytes.{IsCode, NoneSpelled, TakenBytes}
use Rattle.lnt_wire.specs.FormBytes.{BlockBytes, form_of, FormBytes, TextBytes, ValueBytes, Form, FormValue}
use Rattle.lnt_wire.specs.FormFaults.{IsBlockFault, IsCutText, IsValueFault}
use Rattle.lnt_wire.specs.Leb128.{UnsignedLeb, SignedLeb, IsLargeUnsigned, IsLargeSigned, IsLebFault}
use Rattle.lnt_wire.specs.Numbers.{NumberBytes, offset_size, Format, Order}
use Rattle.lnt_wire.specs.Reading.{IsCutShort, Reason}
use Rattle.lnt_wire.proofs.CodeLaws.{number_code, same_leb, unsigned_code}
use Rattle.lnt_wire.proofs.LebLemmas.{no_leb}
use Rattle.lnt_wire.proofs.ValueLemmas.{no_text}
use Rattle.lnt_wire.proofs.LengthLaws.{length-number_bytes, same_rest, width_1, width_2, width_4}
use Rattle.std.proofs.lemmas.Grind.{common_steps}

-- What is so of a field: where it has a fault, the bytes begin with no value of it, and the reason is one.
pub record IsOneFieldFault {X : Type 0} (Spells : X → List ℕ → Type 0) (IsSo : Reason → List ℕ → Type 0) : Type 0 where
  pub none : (reason : Reason) (bytes : List ℕ) → IsSo reason bytes → NoneSpelled Spells bytes
  pub one : (reason other : Reason) (bytes : List ℕ) → IsSo reason bytes → IsSo other bytes → reason ≡ other

-- ---- numbers of fixed width, and bytes that stand for themselves

-- each value has as many bytes
pub short_fault : {X : Type 0} (Spells : X → List ℕ → Type 0) (size : ℕ) → ((x : X) (bytes : List ℕ) → Spells x bytes → length bytes ≡ size)
    → IsOneFieldFault Spells (IsCutShort size)
short_fault Spells size long = grind (arith, common_steps, length-append)

pub number_fault : (order : Order) (size : ℕ) → IsOneFieldFault (NumberBytes order size) (IsCutShort size)
number_fault order size = short_fault (NumberBytes order size) size (λ n bytes p. ap length p.spelled ∙ length-number_bytes order size n)

taken_fault : (size : ℕ) → IsOneFieldFault (TakenBytes size) (IsCutShort size)
taken_fault size = short_fault (TakenBytes size) size (λ taken bytes p. p.count_is)

-- ---- LEB128 numbers

-- one reason, whatever is too large
leb_one : (IsLarge : List ℕ → Type 0) (reason other : Reason) (bytes : List ℕ) → IsLebFault IsLarge reason bytes
    → IsLebFault IsLarge other bytes → reason ≡ other
leb_one IsLarge reason other bytes h k = grind (arith, common_steps, no_leb)

unsigned_none : (reason : Reason) (bytes : List ℕ) → IsLebFault IsLargeUnsigned reason bytes → NoneSpelled UnsignedLeb bytes
unsigned_none reason bytes h n x more p e = grind (arith, common_steps, no_leb, same_leb)

pub unsigned_fault : IsOneFieldFault UnsignedLeb (IsLebFault IsLargeUnsigned)
unsigned_fault = record { none = unsigned_none; one = leb_one IsLargeUnsigned }

signed_none : (reason : Reason) (bytes : List ℕ) → IsLebFault IsLargeSigned reason bytes → NoneSpelled SignedLeb bytes
signed_none reason bytes h z x more p e = grind (arith, common_steps, no_leb, same_leb)

pub signed_fault : IsOneFieldFault SignedLeb (IsLebFault IsLargeSigned)
signed_fault = record { none = signed_none; one = leb_one IsLargeSigned }

-- ---- texts

text_fault : IsOneFieldFault TextBytes IsCutText
text_fault = grind (arith, common_steps, no_text)

-- ---- blocks

module _ (Length : ℕ → List ℕ → Type 0) (IsLengthFault : Reason → List ℕ → Type 0) (code : IsCode Length)
    (field : IsOneFieldFault Length IsLengthFault) where
  block_none : (reason : Reason) (bytes : List ℕ) → IsBlockFault Length IsLengthFault reason bytes → NoneSpelled (BlockBytes Length) bytes
  block_none reason bytes h block x more p e = grind (arith, common_steps, append_assoc, same_rest, length-append)

  block_one : (reason other : Reason) (bytes : List ℕ) → IsBlockFault Length IsLengthFault reason bytes
      → IsBlockFault Length IsLengthFault other bytes → reason ≡ other
  block_one reason other bytes h k = grind (arith, common_steps)

  block_fault : IsOneFieldFault (BlockBytes Length) (IsBlockFault Length IsLengthFault)
  block_fault = record { none = block_none; one = block_one }

leb_block : IsOneFieldFault (BlockBytes UnsignedLeb) (IsBlockFault UnsignedLeb (IsLebFault IsLargeUnsigned))
leb_block = block_fault UnsignedLeb (IsLebFault IsLargeUnsigned) unsigned_code unsigned_fault

block_1 : (order : Order) → IsOneFieldFault (BlockBytes (NumberBytes order 1)) (IsBlockFault (NumberBytes order 1) (IsCutShort 1))
block_1 order = block_fault (NumberBytes order 1) (IsCutShort 1) (number_code order 1 width_1) (number_fault order 1)

block_2 : (order : Order) → IsOneFieldFault (BlockBytes (NumberBytes order 2)) (IsBlockFault (NumberBytes order 2) (IsCutShort 2))
block_2 order = block_fault (NumberBytes order 2) (IsCutShort 2) (number_code order 2 width_2) (number_fault order 2)

block_4 : (order : Order) → IsOneFieldFault (BlockBytes (NumberBytes order 4)) (IsBlockFault (NumberBytes order 4) (IsCutShort 4))
block_4 order = block_fault (NumberBytes order 4) (IsCutShort 4) (number_code order 4 width_4) (number_fault order 4)

-- ---- values of a form

value_none : (format : Format) (order : Order) (value : FormValue) (reason : Reason) (bytes x more : List ℕ)
    → IsValueFault format order (form_of value) reason bytes
    → FormBytes format order value x → x ++ more ≡ bytes → ⊥
value_none format order (Text text) reason bytes x more h p e = text_fault.none reason bytes h text x more p e
value_none format order (LineStrp n) reason bytes x more h p e = (number_fault order (offset_size format)).none reason bytes h n x more p e
value_none format order (Strp n) reason bytes x more h p e = (number_fault order (offset_size format)).none reason bytes h n x more p e
value_none format order (Udata n) reason bytes x more h p e = unsigned_fault.none reason bytes h n x more p e
value_none format order (Data1 n) reason bytes x more h p e = (number_fault order 1).none reason bytes h n x more p e
value_none format order (Data2 n) reason bytes x more h p e = (number_fault order 2).none reason bytes h n x more p e
value_none format order (Data4 n) reason bytes x more h p e = (number_fault order 4).none reason bytes h n x more p e
value_none format order (Data8 n) reason bytes x more h p e = (number_fault order 8).none reason bytes h n x more p e
value_none format order (Data16 taken) reason bytes x more h p e = (taken_fault 16).none reason bytes h taken x more p e
value_none format order (Block block) reason bytes x more h p e = leb_block.none reason bytes h block x more p e
value_none format order (Block1 block) reason bytes x more h p e = (block_1 order).none reason bytes h block x more p e
value_none format order (Block2 block) reason bytes x more h p e = (block_2 order).none reason bytes h block x more p e
value_none format order (Block4 block) reason bytes x more h p e = (block_4 order).none reason bytes h block x more p e

value_one : (format : Format) (order : Order) (form : Form) (reason other : Reason) (bytes : List ℕ)
    → IsValueFault format order form reason bytes
    → IsValueFault format order form other bytes → reason ≡ other
value_one format order forms.Text reason other bytes h k = text_fault.one reason other bytes h k
value_one format order forms.LineStrp reason other bytes h k = (number_fault order (offset_size format)).one reason other bytes h k
value_one format order forms.Strp reason other bytes h k = (number_fault order (offset_size format)).one reason other bytes h k
value_one format order forms.Udata reason other bytes h k = unsigned_fault.one reason other bytes h k
value_one format order forms.Data1 reason other bytes h k = (number_fault order 1).one reason other bytes h k
value_one format order forms.Data2 reason other bytes h k = (number_fault order 2).one reason other bytes h k
value_one format order forms.Data4 reason other bytes h k = (number_fault order 4).one reason other bytes h k
value_one format order forms.Data8 reason other bytes h k = (number_fault order 8).one reason other bytes h k
value_one format order forms.Data16 reason other bytes h k = (taken_fault 16).one reason other bytes h k
value_one format order forms.Block reason other bytes h k = leb_block.one reason other bytes h k
value_one format order forms.Block1 reason other bytes h k = (block_1 order).one reason other bytes h k
value_one format order forms.Block2 reason other bytes h k = (block_2 order).one reason other bytes h k
value_one format order forms.Block4 reason other bytes h k = (block_4 order).one reason other bytes h k

pub value_fault : (format : Format) (order : Order) (form : Form)
    → IsOneFieldFault (ValueBytes format order form) (IsValueFault format order form)
value_fault format order form = grind (arith, common_steps, value_none, value_one)
