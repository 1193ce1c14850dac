use Rattle.std.proofs.Common.{◌≡◌, ℕ, List, refl, sym, subst}
use Rattle.lnt_wire.specs.Reading.{At, Reads}
use Rattle.lnt_wire.specs.declared.form.FormValue.TheVariants.{Block, Block1, Block2, Block4}
use Rattle.lnt_wire.specs.declared.form.BlockLength.TheVariants.{Leb, One, Two, Four}
use Rattle.lnt_wire.specs.declared.format.Format.{Format}
use Rattle.lnt_wire.specs.FormBytes.{BlockBytes, ValueBytes, FormBytes, form_of, FormValue}
use Rattle.lnt_wire.specs.BlockLengths.{LengthBytes, block_form, BlockLength}
use Rattle.lnt_wire.proofs.RefusedForms.{reads_value}
use Rattle.lnt_wire.proofs.cursor.Cursor.block_value.Goals as goal

-- the block that was read, as a value in its form
reads_block : (encoding known : BlockLength) (block : List ℕ) (value : FormValue) (old new : At) → encoding ≡ known
    → block_form known ≡ form_of value
    → ((format : Format) (bytes : List ℕ) → BlockBytes (LengthBytes old.order known) block bytes → FormBytes format old.order value bytes)
    → Reads (BlockBytes (LengthBytes old.order encoding)) block old new
    → (format : Format) → Reads (ValueBytes format old.order (block_form encoding)) value old new
reads_block encoding known block value old new is form there read =
    subst (λ (p : BlockLength). Reads (BlockBytes (LengthBytes old.order p)) block old new
    → (format : Format) → Reads (ValueBytes format old.order (block_form p)) value old new) (sym is)
    (λ r format. reads_value (BlockBytes (LengthBytes old.order known)) block format (block_form known) value old new form
    (there format) r) read

pub returns-in-Leb-clause-ok : goal.returns-in-Leb-clause-ok
returns-in-Leb-clause-ok c =
    reads_block c.args.encoding Leb c.in_ok-block.block.now (Block c.in_ok-block.block.now) c.args.self.now c.block.new.self
    c.in-Leb.is refl (λ format bytes p. p) c.in_ok-block.ensures.ok

pub returns-in-One-clause-ok : goal.returns-in-One-clause-ok
returns-in-One-clause-ok c =
    reads_block c.args.encoding One c.in_ok-block.block.now (Block1 c.in_ok-block.block.now) c.args.self.now c.block.new.self
    c.in-One.is refl (λ format bytes p. p) c.in_ok-block.ensures.ok

pub returns-in-Two-clause-ok : goal.returns-in-Two-clause-ok
returns-in-Two-clause-ok c =
    reads_block c.args.encoding Two c.in_ok-block.block.now (Block2 c.in_ok-block.block.now) c.args.self.now c.block.new.self
    c.in-Two.is refl (λ format bytes p. p) c.in_ok-block.ensures.ok

pub returns-in-Four-clause-ok : goal.returns-in-Four-clause-ok
returns-in-Four-clause-ok c =
    reads_block c.args.encoding Four c.in_ok-block.block.now (Block4 c.in_ok-block.block.now) c.args.self.now c.block.new.self
    c.in-Four.is refl (λ format bytes p. p) c.in_ok-block.ensures.ok
