-- The value in a form that bytes begin with, and how many of them encode it, as a reader finds them. If the bytes don't begin with a
-- value in the form, the results of these functions are meaningless. That bytes encode a value is `ValueBytes` of `FormBytes`, and
-- `proofs/FirstValueLaws` shows that what is encoded is found. No contract of this crate speaks of these functions; in
-- `lnt_header_bytes` they say which entries a table has whose entries are read in place (`Borrowed`).
use Rattle.std.specs.Prelude.{ℕ, zero, suc, ◌+◌, cond, nat_lt, List, [], ◌∷◌, length, take, drop}
use Rattle.byteorder.specs.Endian.{little_number, big_number}
use Rattle.lnt_wire.specs.declared.format.Order.TheVariants.{Little, Big}
use Rattle.lnt_wire.specs.declared.form.Form.{Form}
use Rattle.lnt_wire.specs.declared.form.Form.TheVariants as forms
use Rattle.lnt_wire.specs.declared.form.FormValue.{FormValue}
use Rattle.lnt_wire.specs.declared.form.FormValue.TheVariants.{Text, LineStrp, Strp, Udata, Data1, Data2, Data4, Data8, Data16}
use Rattle.lnt_wire.specs.declared.form.FormValue.TheVariants.{Block, Block1, Block2, Block4}
use Rattle.lnt_wire.specs.Leb128.{groups}
use Rattle.lnt_wire.specs.Numbers.{offset_size, Order, Format}

-- the number that the first `size` bytes encode
abbrev pub first_number : Order → ℕ → List ℕ → ℕ
first_number Little size bytes = little_number size bytes
first_number Big size bytes = big_number size bytes

-- the bytes up to the first that is below 128, and this one
abbrev pub first_leb : List ℕ → List ℕ
first_leb [] = []
first_leb (byte ∷ bytes) = cond (nat_lt byte 128) (byte ∷ []) (byte ∷ first_leb bytes)

-- the bytes before the first zero byte
abbrev pub first_text : List ℕ → List ℕ
first_text [] = []
first_text (zero ∷ bytes) = []
first_text (suc b ∷ bytes) = suc b ∷ first_text bytes

-- the count bytes after a length of size bytes
abbrev pub after_length : ℕ → ℕ → List ℕ → List ℕ
after_length size count bytes = take count (drop size bytes)

-- the value that the bytes begin with
abbrev pub first_value : Format → Order → Form → List ℕ → FormValue
first_value format order forms.Data1 bytes = Data1 (first_number order 1 bytes)
first_value format order forms.Data2 bytes = Data2 (first_number order 2 bytes)
first_value format order forms.Data4 bytes = Data4 (first_number order 4 bytes)
first_value format order forms.Data8 bytes = Data8 (first_number order 8 bytes)
first_value format order forms.Data16 bytes = Data16 (take 16 bytes)
first_value format order forms.Text bytes = Text (first_text bytes)
first_value format order forms.Block bytes = Block (after_length (length (first_leb bytes)) (groups (first_leb bytes)) bytes)
first_value format order forms.Block1 bytes = Block1 (after_length 1 (first_number order 1 bytes) bytes)
first_value format order forms.Block2 bytes = Block2 (after_length 2 (first_number order 2 bytes) bytes)
first_value format order forms.Block4 bytes = Block4 (after_length 4 (first_number order 4 bytes) bytes)
first_value format order forms.Strp bytes = Strp (first_number order (offset_size format) bytes)
first_value format order forms.LineStrp bytes = LineStrp (first_number order (offset_size format) bytes)
first_value format order forms.Udata bytes = Udata (groups (first_leb bytes))

-- how many bytes encode that value
abbrev pub first_size : Format → Order → Form → List ℕ → ℕ
first_size format order forms.Data1 bytes = 1
first_size format order forms.Data2 bytes = 2
first_size format order forms.Data4 bytes = 4
first_size format order forms.Data8 bytes = 8
first_size format order forms.Data16 bytes = 16
first_size format order forms.Text bytes = length (first_text bytes) + 1
first_size format order forms.Block bytes = length (first_leb bytes) + groups (first_leb bytes)
first_size format order forms.Block1 bytes = 1 + first_number order 1 bytes
first_size format order forms.Block2 bytes = 2 + first_number order 2 bytes
first_size format order forms.Block4 bytes = 4 + first_number order 4 bytes
first_size format order forms.Strp bytes = offset_size format
first_size format order forms.LineStrp bytes = offset_size format
first_size format order forms.Udata bytes = length (first_leb bytes)
