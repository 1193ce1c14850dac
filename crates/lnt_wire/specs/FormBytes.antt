-- Values in the forms that a table of a line number header may have, and the bytes that encode them (DWARF 5, section
-- 7.5.6).
use Rattle.std.specs.Prelude.{◌≡◌, ◌≢◌, ℕ, ◌^◌, ◌<◌, List, [], ◌∷◌, ◌++◌, length, zero, suc, drop, Option, Some, None, option_map}
use Rattle.std.specs.List.{AllByRecursion}
pub use Rattle.lnt_wire.specs.declared.form.Form.{Form}
use Rattle.lnt_wire.specs.declared.form.Form.TheVariants as forms
pub use Rattle.lnt_wire.specs.declared.form.FormValue.{FormValue}
use Rattle.lnt_wire.specs.declared.form.FormValue.TheVariants.{Text, LineStrp, Strp, Udata, Data1, Data2, Data4, Data8, Data16, Block}
use Rattle.lnt_wire.specs.declared.form.FormValue.TheVariants.{Block1, Block2, Block4}
use Rattle.lnt_wire.specs.Bytes.{Exactly, TakenBytes, ◌⨾◌}
use Rattle.lnt_wire.specs.Leb128.{UnsignedLeb}
use Rattle.lnt_wire.specs.Numbers.{NumberBytes, OffsetBytes, IsLargeOffset, Order, Format}

-- The code of each form (DWARF 5, section 7.5.6).
abbrev pub form_code : Form → ℕ
form_code forms.Block2 = 0x03
form_code forms.Block4 = 0x04
form_code forms.Data2 = 0x05
form_code forms.Data4 = 0x06
form_code forms.Data8 = 0x07
form_code forms.Text = 0x08
form_code forms.Block = 0x09
form_code forms.Block1 = 0x0a
form_code forms.Data1 = 0x0b
form_code forms.Strp = 0x0e
form_code forms.Udata = 0x0f
form_code forms.Data16 = 0x1e
form_code forms.LineStrp = 0x1f

-- No form here has this code.
abbrev pub IsUnknownForm : ℕ → Type 0
IsUnknownForm code = (form : Form) → form_code form ≢ code

-- The form that a value is in.
abbrev pub form_of : FormValue → Form
form_of (Text text) = forms.Text
form_of (LineStrp offset) = forms.LineStrp
form_of (Strp offset) = forms.Strp
form_of (Udata n) = forms.Udata
form_of (Data1 n) = forms.Data1
form_of (Data2 n) = forms.Data2
form_of (Data4 n) = forms.Data4
form_of (Data8 n) = forms.Data8
form_of (Data16 bytes) = forms.Data16
form_of (Block block) = forms.Block
form_of (Block1 block) = forms.Block1
form_of (Block2 block) = forms.Block2
form_of (Block4 block) = forms.Block4

-- No byte is zero.
abbrev pub HasNoZero : List ℕ → Type 0
HasNoZero text = AllByRecursion (λ byte. 0 < byte) text

-- The bytes are the text, in which none is zero, and after it a zero byte.
pub record TextBytes (text bytes : List ℕ) : Type 0 where
  pub no_zero : HasNoZero text
  pub joined : bytes ≡ text ++ 0 ∷ []

-- The bytes are the length of the block, of the kind of encoding Length, and after it the bytes of the block.
abbrev pub BlockBytes : (ℕ → List ℕ → Type 0) → List ℕ → List ℕ → Type 0
BlockBytes Length block bytes = (Length (length block) ⨾ Exactly block) bytes

-- The bytes encode the value in its form. Offsets have 4 bytes in the 32-bit format, and 8 in the 64-bit one.
abbrev pub FormBytes : Format → Order → FormValue → List ℕ → Type 0
FormBytes format order (Text text) bytes = TextBytes text bytes
FormBytes format order (LineStrp offset) bytes = OffsetBytes format order offset bytes
FormBytes format order (Strp offset) bytes = OffsetBytes format order offset bytes
FormBytes format order (Udata n) bytes = UnsignedLeb n bytes
FormBytes format order (Data1 n) bytes = NumberBytes order 1 n bytes
FormBytes format order (Data2 n) bytes = NumberBytes order 2 n bytes
FormBytes format order (Data4 n) bytes = NumberBytes order 4 n bytes
FormBytes format order (Data8 n) bytes = NumberBytes order 8 n bytes
FormBytes format order (Data16 data16) bytes = TakenBytes 16 data16 bytes
FormBytes format order (Block block) bytes = BlockBytes UnsignedLeb block bytes
FormBytes format order (Block1 block) bytes = BlockBytes (NumberBytes order 1) block bytes
FormBytes format order (Block2 block) bytes = BlockBytes (NumberBytes order 2) block bytes
FormBytes format order (Block4 block) bytes = BlockBytes (NumberBytes order 4) block bytes

-- The value is in this form, and the bytes encode it.
pub record ValueBytes (format : Format) (order : Order) (form : Form) (value : FormValue) (bytes : List ℕ) : Type 0 where
  pub form_is : form_of value ≡ form
  pub spelled : FormBytes format order value bytes

-- The value has an encoding in its form; for offsets, in the 64-bit format.
abbrev pub HasSpelling : FormValue → Type 0
HasSpelling (Text text) = HasNoZero text
HasSpelling (Block1 block) = length block < 2 ^ 8
HasSpelling (Block2 block) = length block < 2 ^ 16
HasSpelling (Block4 block) = length block < 2 ^ 32
HasSpelling _ = Unit {0}

-- The value is an offset, and too large for the format.
abbrev pub IsTooLarge : Format → FormValue → Type 0
IsTooLarge format (Strp offset) = IsLargeOffset format offset
IsTooLarge format (LineStrp offset) = IsLargeOffset format offset
IsTooLarge format _ = ⊥

-- ---- the text that a value stands for (DWARF 5, sections 7.5.5 and 7.5.6)

-- The bytes before the first zero byte. `None` if no byte is zero.
abbrev pub up_to_zero : List ℕ → Option (List ℕ)
up_to_zero [] = None
up_to_zero (zero ∷ bytes) = Some []
up_to_zero (suc b ∷ bytes) = option_map (λ text. suc b ∷ text) (up_to_zero bytes)

-- The text of a value, where line is the section `.debug_line_str` and general is `.debug_str`. Only the string forms have one.
abbrev pub text_of : List ℕ → List ℕ → FormValue → Option (List ℕ)
text_of line general (Text text) = Some text
text_of line general (LineStrp offset) = up_to_zero (drop offset line)
text_of line general (Strp offset) = up_to_zero (drop offset general)
text_of line general _ = None
