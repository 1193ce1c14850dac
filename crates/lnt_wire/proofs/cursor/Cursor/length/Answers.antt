use Rattle.std.proofs.Common.{ℕ, IfOk, IfErr, sym, subst, rules}
use Rattle.lnt_wire.specs.Numbers.{NumberBytes}
use Rattle.lnt_wire.specs.BlockLengths.{LengthBytes, IsLengthFault, BlockLength}
use Rattle.lnt_wire.specs.Reading.{Reads, RefusesField, Fault}
use Rattle.lnt_wire.proofs.RefusedForms.{passed_on, gives_none, leaves_it}
use Rattle.lnt_wire.proofs.cursor.Cursor.length.Goals as goal

pub returns-in_ok-u16-in-Two-clause-ok : goal.returns-in_ok-u16-in-Two-clause-ok
returns-in_ok-u16-in-Two-clause-ok c = search rules

pub returns-in-Leb-clause-err : goal.returns-in-Leb-clause-err
returns-in-Leb-clause-err c =
    subst (λ (p : BlockLength).
    IfErr c.uleb.result (λ (fault : Fault). RefusesField (IsLengthFault p) (LengthBytes c.args.self.now.order p) c.args.self.now fault))
    (sym c.in-Leb.is) c.uleb.ensures.err

pub returns-in-Leb-clause-ok : goal.returns-in-Leb-clause-ok
returns-in-Leb-clause-ok c =
    subst
    (λ (p : BlockLength). IfOk c.uleb.result (λ (n : ℕ). Reads (LengthBytes c.args.self.now.order p) n c.args.self.now c.uleb.new.self))
    (sym c.in-Leb.is) c.uleb.ensures.ok

pub returns-in-Leb-clause-unchanged : goal.returns-in-Leb-clause-unchanged
returns-in-Leb-clause-unchanged c = c.uleb.ensures.unchanged

pub returns-in_err-u8-in-One-clause-err : goal.returns-in_err-u8-in-One-clause-err
returns-in_err-u8-in-One-clause-err c =
    passed_on c.from_residual.result c.in_err-u8-in-One.field-0.0
    (λ (fault : Fault). RefusesField (IsLengthFault c.args.encoding)
    (LengthBytes c.args.self.now.order c.args.encoding) c.args.self.now fault)
    c.from_residual.ensures.1
    (subst (λ (p : BlockLength). RefusesField (IsLengthFault p) (LengthBytes c.args.self.now.order p) c.args.self.now
    c.in_err-u8-in-One.field-0.0)
    (sym c.in-One.is) c.in_err-u8-in-One.ensures.err)

pub returns-in_err-u8-in-One-clause-ok : goal.returns-in_err-u8-in-One-clause-ok
returns-in_err-u8-in-One-clause-ok c = gives_none _ _ c.from_residual.ensures.0

pub returns-in_err-u8-in-One-clause-unchanged : goal.returns-in_err-u8-in-One-clause-unchanged
returns-in_err-u8-in-One-clause-unchanged c = leaves_it _ _ _ c.in_err-u8-in-One.ensures.unchanged

pub returns-in_ok-u8-in-One-clause-ok : goal.returns-in_ok-u8-in-One-clause-ok
returns-in_ok-u8-in-One-clause-ok c =
    subst (λ (p : BlockLength). Reads (LengthBytes c.args.self.now.order p) c.from.result c.args.self.now c.u8.new.self)
    (sym c.in-One.is)
    (subst (λ (n : ℕ). Reads (NumberBytes c.args.self.now.order 1) n c.args.self.now c.u8.new.self) (sym c.from.ensures)
    c.in_ok-u8-in-One.ensures.ok)

pub returns-in_err-u16-in-Two-clause-err : goal.returns-in_err-u16-in-Two-clause-err
returns-in_err-u16-in-Two-clause-err c =
    passed_on c.from_residual-in_err-u16-in-Two.result c.in_err-u16-in-Two.field-0.0
    (λ (fault : Fault). RefusesField (IsLengthFault c.args.encoding)
    (LengthBytes c.args.self.now.order c.args.encoding) c.args.self.now fault)
    c.from_residual-in_err-u16-in-Two.ensures.1
    (subst (λ (p : BlockLength). RefusesField (IsLengthFault p) (LengthBytes c.args.self.now.order p) c.args.self.now
    c.in_err-u16-in-Two.field-0.0)
    (sym c.in-Two.is) c.in_err-u16-in-Two.ensures.err)

pub returns-in_err-u16-in-Two-clause-ok : goal.returns-in_err-u16-in-Two-clause-ok
returns-in_err-u16-in-Two-clause-ok c = gives_none _ _ c.from_residual-in_err-u16-in-Two.ensures.0

pub returns-in_err-u16-in-Two-clause-unchanged : goal.returns-in_err-u16-in-Two-clause-unchanged
returns-in_err-u16-in-Two-clause-unchanged c = leaves_it _ _ _ c.in_err-u16-in-Two.ensures.unchanged

pub returns-in_err-u32-in-Four-clause-err : goal.returns-in_err-u32-in-Four-clause-err
returns-in_err-u32-in-Four-clause-err c =
    passed_on c.from_residual-in_err-u32-in-Four.result c.in_err-u32-in-Four.field-0.0
    (λ (fault : Fault). RefusesField (IsLengthFault c.args.encoding)
    (LengthBytes c.args.self.now.order c.args.encoding) c.args.self.now fault)
    c.from_residual-in_err-u32-in-Four.ensures.1
    (subst (λ (p : BlockLength). RefusesField (IsLengthFault p) (LengthBytes c.args.self.now.order p) c.args.self.now
    c.in_err-u32-in-Four.field-0.0)
    (sym c.in-Four.is) c.in_err-u32-in-Four.ensures.err)

pub returns-in_err-u32-in-Four-clause-ok : goal.returns-in_err-u32-in-Four-clause-ok
returns-in_err-u32-in-Four-clause-ok c = gives_none _ _ c.from_residual-in_err-u32-in-Four.ensures.0

pub returns-in_err-u32-in-Four-clause-unchanged : goal.returns-in_err-u32-in-Four-clause-unchanged
returns-in_err-u32-in-Four-clause-unchanged c = leaves_it _ _ _ c.in_err-u32-in-Four.ensures.unchanged

pub returns-in_ok-u32-in-Four-clause-ok : goal.returns-in_ok-u32-in-Four-clause-ok
returns-in_ok-u32-in-Four-clause-ok c =
    subst (λ (p : BlockLength). Reads (LengthBytes c.args.self.now.order p) c.from-in-Four.result c.args.self.now c.u32.new.self)
    (sym c.in-Four.is)
    (subst (λ (n : ℕ). Reads (NumberBytes c.args.self.now.order 4) n c.args.self.now c.u32.new.self) (sym c.from-in-Four.ensures)
    c.in_ok-u32-in-Four.ensures.ok)
