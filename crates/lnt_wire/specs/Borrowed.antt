-- The value that a borrowed one stands for.
use Rattle.lnt_wire.specs.declared.form.FormValue.{FormValue}
use Rattle.lnt_wire.specs.declared.form.FormValue.TheVariants as values
use Rattle.lnt_wire.specs.declared.view.ValueView.{ValueView}
use Rattle.lnt_wire.specs.declared.view.ValueView.TheVariants.{Text, LineStrp, Strp, Udata, Data1, Data2, Data4, Data8, Data16}
use Rattle.lnt_wire.specs.declared.view.ValueView.TheVariants.{Block, Block1, Block2, Block4}

-- The value in the same form, with the same bytes or the same number.
abbrev pub value_of : ValueView → FormValue
value_of (Text text) = values.Text text.now
value_of (LineStrp offset) = values.LineStrp offset
value_of (Strp offset) = values.Strp offset
value_of (Udata n) = values.Udata n
value_of (Data1 n) = values.Data1 n
value_of (Data2 n) = values.Data2 n
value_of (Data4 n) = values.Data4 n
value_of (Data8 n) = values.Data8 n
value_of (Data16 bytes) = values.Data16 bytes
value_of (Block block) = values.Block block.now
value_of (Block1 block) = values.Block1 block.now
value_of (Block2 block) = values.Block2 block.now
value_of (Block4 block) = values.Block4 block.now
