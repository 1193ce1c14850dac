-- What is wrong with bytes that don't begin with a value in a form (DWARF 5, section 7.5.6). The place of each fault is the
-- value's first byte, so `bytes` are those from there on, up to the end of what may be read.
use Rattle.std.specs.Prelude.{◌≡◌, ℕ, ◌<◌, List, ◌++◌, length}
use Rattle.lnt_wire.specs.declared.form.Form.TheVariants as forms
use Rattle.lnt_wire.specs.declared.fault.Reason.TheVariants.{Truncated}
use Rattle.lnt_wire.specs.FormBytes.{HasNoZero, Form}
use Rattle.lnt_wire.specs.Leb128.{UnsignedLeb, IsLargeUnsigned, IsLebFault}
use Rattle.lnt_wire.specs.Numbers.{NumberBytes, offset_size, Order, Format}
use Rattle.lnt_wire.specs.Reading.{IsCutShort, Reason}

-- No zero byte follows, so the text doesn't end.
pub record IsCutText (reason : Reason) (bytes : List ℕ) : Type 0 where
  pub reason_is : reason ≡ Truncated
  pub no_zero : HasNoZero bytes

-- The length of a block can't be read, or is followed by fewer bytes than it says. Length is the kind in which the length
-- is encoded, and IsLengthFault says why bytes don't begin with one.
pub data IsBlockFault (Length : ℕ → List ℕ → Type 0) (IsLengthFault : Reason → List ℕ → Type 0) (reason : Reason)
    (bytes : List ℕ) : Type 0 where
  no_length : IsLengthFault reason bytes → IsBlockFault Length IsLengthFault reason bytes
  cut_block : (size : ℕ) (spelling rest : List ℕ) → reason ≡ Truncated → Length size spelling → bytes ≡ spelling ++ rest
      → length rest < size → IsBlockFault Length IsLengthFault reason bytes

-- Why the bytes don't begin with a value in the form.
abbrev pub IsValueFault : Format → Order → Form → Reason → List ℕ → Type 0
IsValueFault format order forms.Data1 = IsCutShort 1
IsValueFault format order forms.Data2 = IsCutShort 2
IsValueFault format order forms.Data4 = IsCutShort 4
IsValueFault format order forms.Data8 = IsCutShort 8
IsValueFault format order forms.Data16 = IsCutShort 16
IsValueFault format order forms.Strp = IsCutShort (offset_size format)
IsValueFault format order forms.LineStrp = IsCutShort (offset_size format)
IsValueFault format order forms.Udata = IsLebFault IsLargeUnsigned
IsValueFault format order forms.Text = IsCutText
IsValueFault format order forms.Block = IsBlockFault UnsignedLeb (IsLebFault IsLargeUnsigned)
IsValueFault format order forms.Block1 = IsBlockFault (NumberBytes order 1) (IsCutShort 1)
IsValueFault format order forms.Block2 = IsBlockFault (NumberBytes order 2) (IsCutShort 2)
IsValueFault format order forms.Block4 = IsBlockFault (NumberBytes order 4) (IsCutShort 4)
