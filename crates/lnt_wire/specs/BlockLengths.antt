-- The lengths of blocks, by how they are encoded: in an unsigned LEB128 number, or in 1, 2 or 4 bytes (DWARF 5, section 7.5.6). No
-- public contract speaks of these: `FormBytes` and `FormFaults` define the same by form.
use Rattle.std.specs.Prelude.{ℕ, ◌^◌, ◌<◌, List}
use Rattle.lnt_wire.specs.declared.form.Form.{Form}
use Rattle.lnt_wire.specs.declared.form.Form.TheVariants as forms
pub use Rattle.lnt_wire.specs.declared.form.BlockLength.{BlockLength}
use Rattle.lnt_wire.specs.declared.form.BlockLength.TheVariants.{Leb, One, Two, Four}
use Rattle.lnt_wire.specs.FormFaults.{IsBlockFault}
use Rattle.lnt_wire.specs.Leb128.{UnsignedLeb, IsLargeUnsigned, IsLebFault}
use Rattle.lnt_wire.specs.Numbers.{NumberBytes, Order}
use Rattle.lnt_wire.specs.Reading.{IsCutShort, Reason}

-- The bytes encode the length.
abbrev pub LengthBytes : Order → BlockLength → ℕ → List ℕ → Type 0
LengthBytes order Leb = UnsignedLeb
LengthBytes order One = NumberBytes order 1
LengthBytes order Two = NumberBytes order 2
LengthBytes order Four = NumberBytes order 4

-- The form of blocks whose length is encoded so.
abbrev pub block_form : BlockLength → Form
block_form Leb = forms.Block
block_form One = forms.Block1
block_form Two = forms.Block2
block_form Four = forms.Block4

-- The length, which is below 2 ^ 64, can be encoded so.
abbrev pub BlockLengthFits : BlockLength → ℕ → Type 0
BlockLengthFits Leb n = Unit {0}
BlockLengthFits One n = n < 2 ^ 8
BlockLengthFits Two n = n < 2 ^ 16
BlockLengthFits Four n = n < 2 ^ 32

-- Why the bytes don't begin with a length.
abbrev pub IsLengthFault : BlockLength → Reason → List ℕ → Type 0
IsLengthFault Leb = IsLebFault IsLargeUnsigned
IsLengthFault One = IsCutShort 1
IsLengthFault Two = IsCutShort 2
IsLengthFault Four = IsCutShort 4

-- Why the bytes don't begin with a block.
abbrev pub IsBlockValueFault : Order → BlockLength → Reason → List ℕ → Type 0
IsBlockValueFault order encoding = IsBlockFault (LengthBytes order encoding) (IsLengthFault encoding)
