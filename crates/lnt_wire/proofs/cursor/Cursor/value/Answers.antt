use Rattle.lnt_wire.specs.declared.form.FormValue.TheVariants.{Text, LineStrp, Strp, Udata, Data1, Data2, Data4, Data8, Data16}
use Rattle.lnt_wire.specs.declared.form.Form.TheVariants as forms
use Rattle.lnt_wire.specs.Bytes.{TakenBytes}
use Rattle.lnt_wire.specs.FormBytes.{TextBytes}
use Rattle.lnt_wire.specs.Leb128.{UnsignedLeb}
use Rattle.lnt_wire.specs.Numbers.{NumberBytes, OffsetBytes}
use Rattle.lnt_wire.proofs.RefusedForms.{hands_on, gives_none, leaves_it, reads_value, refuses_as, reads_in, refuses_data1, refuses_data2}
use Rattle.lnt_wire.proofs.RefusedForms.{refuses_data4, refuses_data8, refuses_data16, refuses_strp, refuses_line_strp, refuses_udata}
use Rattle.lnt_wire.proofs.RefusedForms.{refuses_string, refuses_block, refuses_block1, refuses_block2, refuses_block4}
use Rattle.lnt_wire.proofs.cursor.Cursor.value.Goals as goal

pub returns-in_err-u8-in-Data1-clause-err : goal.returns-in_err-u8-in-Data1-clause-err
returns-in_err-u8-in-Data1-clause-err c =
    hands_on _ c.args.format c.args.form c.args.self.now _ c.from_residual.ensures.1
    (refuses_data1 c.args.format c.args.form c.args.self.now _ c.in-Data1.is c.in_err-u8-in-Data1.ensures.err)

pub returns-in_err-u8-in-Data1-clause-ok : goal.returns-in_err-u8-in-Data1-clause-ok
returns-in_err-u8-in-Data1-clause-ok c = gives_none _ _ c.from_residual.ensures.0

pub returns-in_err-u8-in-Data1-clause-unchanged : goal.returns-in_err-u8-in-Data1-clause-unchanged
returns-in_err-u8-in-Data1-clause-unchanged c = leaves_it _ _ _ c.in_err-u8-in-Data1.ensures.unchanged

pub returns-in_ok-u8-in-Data1-clause-ok : goal.returns-in_ok-u8-in-Data1-clause-ok
returns-in_ok-u8-in-Data1-clause-ok c =
    reads_value (NumberBytes c.args.self.now.order 1) _ _ _ (Data1 _) _ _ c.in-Data1.is (λ bytes p. p) c.in_ok-u8-in-Data1.ensures.ok

pub returns-in_err-u16-in-Data2-clause-err : goal.returns-in_err-u16-in-Data2-clause-err
returns-in_err-u16-in-Data2-clause-err c =
    hands_on _ c.args.format c.args.form c.args.self.now _ c.from_residual-in_err-u16-in-Data2.ensures.1
    (refuses_data2 c.args.format c.args.form c.args.self.now _ c.in-Data2.is c.in_err-u16-in-Data2.ensures.err)

pub returns-in_err-u16-in-Data2-clause-ok : goal.returns-in_err-u16-in-Data2-clause-ok
returns-in_err-u16-in-Data2-clause-ok c = gives_none _ _ c.from_residual-in_err-u16-in-Data2.ensures.0

pub returns-in_err-u16-in-Data2-clause-unchanged : goal.returns-in_err-u16-in-Data2-clause-unchanged
returns-in_err-u16-in-Data2-clause-unchanged c = leaves_it _ _ _ c.in_err-u16-in-Data2.ensures.unchanged

pub returns-in_ok-u16-in-Data2-clause-ok : goal.returns-in_ok-u16-in-Data2-clause-ok
returns-in_ok-u16-in-Data2-clause-ok c =
    reads_value (NumberBytes c.args.self.now.order 2) _ _ _ (Data2 _) _ _ c.in-Data2.is (λ bytes p. p) c.in_ok-u16-in-Data2.ensures.ok

pub returns-in_err-u32-in-Data4-clause-err : goal.returns-in_err-u32-in-Data4-clause-err
returns-in_err-u32-in-Data4-clause-err c =
    hands_on _ c.args.format c.args.form c.args.self.now _ c.from_residual-in_err-u32-in-Data4.ensures.1
    (refuses_data4 c.args.format c.args.form c.args.self.now _ c.in-Data4.is c.in_err-u32-in-Data4.ensures.err)

pub returns-in_err-u32-in-Data4-clause-ok : goal.returns-in_err-u32-in-Data4-clause-ok
returns-in_err-u32-in-Data4-clause-ok c = gives_none _ _ c.from_residual-in_err-u32-in-Data4.ensures.0

pub returns-in_err-u32-in-Data4-clause-unchanged : goal.returns-in_err-u32-in-Data4-clause-unchanged
returns-in_err-u32-in-Data4-clause-unchanged c = leaves_it _ _ _ c.in_err-u32-in-Data4.ensures.unchanged

pub returns-in_ok-u32-in-Data4-clause-ok : goal.returns-in_ok-u32-in-Data4-clause-ok
returns-in_ok-u32-in-Data4-clause-ok c =
    reads_value (NumberBytes c.args.self.now.order 4) _ _ _ (Data4 _) _ _ c.in-Data4.is (λ bytes p. p) c.in_ok-u32-in-Data4.ensures.ok

pub returns-in_err-u64-in-Data8-clause-err : goal.returns-in_err-u64-in-Data8-clause-err
returns-in_err-u64-in-Data8-clause-err c =
    hands_on _ c.args.format c.args.form c.args.self.now _ c.from_residual-in_err-u64-in-Data8.ensures.1
    (refuses_data8 c.args.format c.args.form c.args.self.now _ c.in-Data8.is c.in_err-u64-in-Data8.ensures.err)

pub returns-in_err-u64-in-Data8-clause-ok : goal.returns-in_err-u64-in-Data8-clause-ok
returns-in_err-u64-in-Data8-clause-ok c = gives_none _ _ c.from_residual-in_err-u64-in-Data8.ensures.0

pub returns-in_err-u64-in-Data8-clause-unchanged : goal.returns-in_err-u64-in-Data8-clause-unchanged
returns-in_err-u64-in-Data8-clause-unchanged c = leaves_it _ _ _ c.in_err-u64-in-Data8.ensures.unchanged

pub returns-in_ok-u64-in-Data8-clause-ok : goal.returns-in_ok-u64-in-Data8-clause-ok
returns-in_ok-u64-in-Data8-clause-ok c =
    reads_value (NumberBytes c.args.self.now.order 8) _ _ _ (Data8 _) _ _ c.in-Data8.is (λ bytes p. p) c.in_ok-u64-in-Data8.ensures.ok

pub returns-in_err-data16-in-Data16-clause-err : goal.returns-in_err-data16-in-Data16-clause-err
returns-in_err-data16-in-Data16-clause-err c =
    hands_on _ c.args.format c.args.form c.args.self.now _ c.from_residual-in_err-data16-in-Data16.ensures.1
    (refuses_data16 c.args.format c.args.form c.args.self.now _ c.in-Data16.is c.in_err-data16-in-Data16.ensures.err)

pub returns-in_err-data16-in-Data16-clause-ok : goal.returns-in_err-data16-in-Data16-clause-ok
returns-in_err-data16-in-Data16-clause-ok c = gives_none _ _ c.from_residual-in_err-data16-in-Data16.ensures.0

pub returns-in_err-data16-in-Data16-clause-unchanged : goal.returns-in_err-data16-in-Data16-clause-unchanged
returns-in_err-data16-in-Data16-clause-unchanged c = leaves_it _ _ _ c.in_err-data16-in-Data16.ensures.unchanged

pub returns-in_ok-data16-in-Data16-clause-ok : goal.returns-in_ok-data16-in-Data16-clause-ok
returns-in_ok-data16-in-Data16-clause-ok c =
    reads_value (TakenBytes 16) _ _ _ (Data16 _) _ _ c.in-Data16.is (λ bytes p. p) c.in_ok-data16-in-Data16.ensures.ok

pub returns-in_err-text-in-Text-clause-err : goal.returns-in_err-text-in-Text-clause-err
returns-in_err-text-in-Text-clause-err c =
    hands_on _ c.args.format c.args.form c.args.self.now _ c.from_residual-in_err-text-in-Text.ensures.1
    (refuses_string c.args.format c.args.form c.args.self.now _ c.in-Text.is c.in_err-text-in-Text.ensures.err)

pub returns-in_err-text-in-Text-clause-ok : goal.returns-in_err-text-in-Text-clause-ok
returns-in_err-text-in-Text-clause-ok c = gives_none _ _ c.from_residual-in_err-text-in-Text.ensures.0

pub returns-in_err-text-in-Text-clause-unchanged : goal.returns-in_err-text-in-Text-clause-unchanged
returns-in_err-text-in-Text-clause-unchanged c = leaves_it _ _ _ c.in_err-text-in-Text.ensures.unchanged

pub returns-in_ok-text-in-Text-clause-ok : goal.returns-in_ok-text-in-Text-clause-ok
returns-in_ok-text-in-Text-clause-ok c =
    reads_value TextBytes _ _ _ (Text _) _ _ c.in-Text.is (λ bytes p. p) c.in_ok-text-in-Text.ensures.ok

pub returns-in-Block-clause-err : goal.returns-in-Block-clause-err
returns-in-Block-clause-err c =
    refuses_as _ _ _ (λ fault. refuses_block c.args.format c.args.form c.args.self.now fault c.in-Block.is)
    c.block_value.ensures.err

pub returns-in-Block-clause-ok : goal.returns-in-Block-clause-ok
returns-in-Block-clause-ok c = reads_in _ _ _ forms.Block _ _ c.in-Block.is c.block_value.ensures.ok

pub returns-in-Block-clause-unchanged : goal.returns-in-Block-clause-unchanged
returns-in-Block-clause-unchanged c = c.block_value.ensures.unchanged

pub returns-in-Block1-clause-err : goal.returns-in-Block1-clause-err
returns-in-Block1-clause-err c =
    refuses_as _ _ _ (λ fault. refuses_block1 c.args.format c.args.form c.args.self.now fault c.in-Block1.is)
    c.block_value-in-Block1.ensures.err

pub returns-in-Block1-clause-ok : goal.returns-in-Block1-clause-ok
returns-in-Block1-clause-ok c = reads_in _ _ _ forms.Block1 _ _ c.in-Block1.is c.block_value-in-Block1.ensures.ok

pub returns-in-Block1-clause-unchanged : goal.returns-in-Block1-clause-unchanged
returns-in-Block1-clause-unchanged c = c.block_value-in-Block1.ensures.unchanged

pub returns-in-Block2-clause-err : goal.returns-in-Block2-clause-err
returns-in-Block2-clause-err c =
    refuses_as _ _ _ (λ fault. refuses_block2 c.args.format c.args.form c.args.self.now fault c.in-Block2.is)
    c.block_value-in-Block2.ensures.err

pub returns-in-Block2-clause-ok : goal.returns-in-Block2-clause-ok
returns-in-Block2-clause-ok c = reads_in _ _ _ forms.Block2 _ _ c.in-Block2.is c.block_value-in-Block2.ensures.ok

pub returns-in-Block2-clause-unchanged : goal.returns-in-Block2-clause-unchanged
returns-in-Block2-clause-unchanged c = c.block_value-in-Block2.ensures.unchanged

pub returns-in-Block4-clause-err : goal.returns-in-Block4-clause-err
returns-in-Block4-clause-err c =
    refuses_as _ _ _ (λ fault. refuses_block4 c.args.format c.args.form c.args.self.now fault c.in-Block4.is)
    c.block_value-in-Block4.ensures.err

pub returns-in-Block4-clause-ok : goal.returns-in-Block4-clause-ok
returns-in-Block4-clause-ok c = reads_in _ _ _ forms.Block4 _ _ c.in-Block4.is c.block_value-in-Block4.ensures.ok

pub returns-in-Block4-clause-unchanged : goal.returns-in-Block4-clause-unchanged
returns-in-Block4-clause-unchanged c = c.block_value-in-Block4.ensures.unchanged

pub returns-in_err-offset-in-Strp-clause-err : goal.returns-in_err-offset-in-Strp-clause-err
returns-in_err-offset-in-Strp-clause-err c =
    hands_on _ c.args.format c.args.form c.args.self.now _ c.from_residual-in_err-offset-in-Strp.ensures.1
    (refuses_strp c.args.format c.args.form c.args.self.now _ c.in-Strp.is c.in_err-offset-in-Strp.ensures.err)

pub returns-in_err-offset-in-Strp-clause-ok : goal.returns-in_err-offset-in-Strp-clause-ok
returns-in_err-offset-in-Strp-clause-ok c = gives_none _ _ c.from_residual-in_err-offset-in-Strp.ensures.0

pub returns-in_err-offset-in-Strp-clause-unchanged : goal.returns-in_err-offset-in-Strp-clause-unchanged
returns-in_err-offset-in-Strp-clause-unchanged c = leaves_it _ _ _ c.in_err-offset-in-Strp.ensures.unchanged

pub returns-in_ok-offset-in-Strp-clause-ok : goal.returns-in_ok-offset-in-Strp-clause-ok
returns-in_ok-offset-in-Strp-clause-ok c =
    reads_value (OffsetBytes c.args.format c.args.self.now.order) _ _ _ (Strp _) _ _ c.in-Strp.is (λ bytes p. p)
    c.in_ok-offset-in-Strp.ensures.ok

pub returns-in_err-offset-in-LineStrp-clause-err : goal.returns-in_err-offset-in-LineStrp-clause-err
returns-in_err-offset-in-LineStrp-clause-err c =
    hands_on _ c.args.format c.args.form c.args.self.now _ c.from_residual-in_err-offset-in-LineStrp.ensures.1
    (refuses_line_strp c.args.format c.args.form c.args.self.now _ c.in-LineStrp.is c.in_err-offset-in-LineStrp.ensures.err)

pub returns-in_err-offset-in-LineStrp-clause-ok : goal.returns-in_err-offset-in-LineStrp-clause-ok
returns-in_err-offset-in-LineStrp-clause-ok c = gives_none _ _ c.from_residual-in_err-offset-in-LineStrp.ensures.0

pub returns-in_err-offset-in-LineStrp-clause-unchanged : goal.returns-in_err-offset-in-LineStrp-clause-unchanged
returns-in_err-offset-in-LineStrp-clause-unchanged c = leaves_it _ _ _ c.in_err-offset-in-LineStrp.ensures.unchanged

pub returns-in_ok-offset-in-LineStrp-clause-ok : goal.returns-in_ok-offset-in-LineStrp-clause-ok
returns-in_ok-offset-in-LineStrp-clause-ok c =
    reads_value (OffsetBytes c.args.format c.args.self.now.order) _ _ _ (LineStrp _) _ _ c.in-LineStrp.is (λ bytes p. p)
    c.in_ok-offset-in-LineStrp.ensures.ok

pub returns-in_err-uleb-in-Udata-clause-err : goal.returns-in_err-uleb-in-Udata-clause-err
returns-in_err-uleb-in-Udata-clause-err c =
    hands_on _ c.args.format c.args.form c.args.self.now _ c.from_residual-in_err-uleb-in-Udata.ensures.1
    (refuses_udata c.args.format c.args.form c.args.self.now _ c.in-Udata.is c.in_err-uleb-in-Udata.ensures.err)

pub returns-in_err-uleb-in-Udata-clause-ok : goal.returns-in_err-uleb-in-Udata-clause-ok
returns-in_err-uleb-in-Udata-clause-ok c = gives_none _ _ c.from_residual-in_err-uleb-in-Udata.ensures.0

pub returns-in_err-uleb-in-Udata-clause-unchanged : goal.returns-in_err-uleb-in-Udata-clause-unchanged
returns-in_err-uleb-in-Udata-clause-unchanged c = leaves_it _ _ _ c.in_err-uleb-in-Udata.ensures.unchanged

pub returns-in_ok-uleb-in-Udata-clause-ok : goal.returns-in_ok-uleb-in-Udata-clause-ok
returns-in_ok-uleb-in-Udata-clause-ok c =
    reads_value UnsignedLeb _ _ _ (Udata _) _ _ c.in-Udata.is (λ bytes p. p) c.in_ok-uleb-in-Udata.ensures.ok
