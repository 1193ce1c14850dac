use Rattle.std.proofs.Common.{ℕ, sym, subst, rules}
use Rattle.lnt_wire.specs.Bytes.{Appends}
use Rattle.lnt_wire.specs.Numbers.{NumberBytes, OffsetBytes, Format}
use Rattle.lnt_wire.proofs.PutLemmas.{after_err, not_ok, only_memory, all_put, not_large_narrow, not_large_wide}
use Rattle.lnt_wire.proofs.put.put_offset.Goals as goal

pub returns-in-Err-clause-ok : goal.returns-in-Err-clause-ok
returns-in-Err-clause-ok c = search rules

pub returns-in-Err-clause-too_large : goal.returns-in-Err-clause-too_large
returns-in-Err-clause-too_large c = search rules

pub returns-in_err-put_u32-in-Ok-clause-ok : goal.returns-in_err-put_u32-in-Ok-clause-ok
returns-in_err-put_u32-in-Ok-clause-ok c = not_ok _ _ c.from_residual.ensures.0

pub returns-in_err-put_u32-in-Ok-clause-too_large : goal.returns-in_err-put_u32-in-Ok-clause-too_large
returns-in_err-put_u32-in-Ok-clause-too_large c =
    only_memory _ _ (not_large_narrow _ _ c.in-D32.is c.in-Ok.ensures.0) c.from_residual.ensures.1

pub returns-in_err-put_u32-in-Ok-clause-unchanged : goal.returns-in_err-put_u32-in-Ok-clause-unchanged
returns-in_err-put_u32-in-Ok-clause-unchanged c = after_err _ _ c.in_err-put_u32-in-Ok.ensures.unchanged

pub returns-in_ok-put_u32-in-Ok-clause-too_large : goal.returns-in_ok-put_u32-in-Ok-clause-too_large
returns-in_ok-put_u32-in-Ok-clause-too_large c = all_put (tt {0}) _ (not_large_narrow _ _ c.in-D32.is c.in-Ok.ensures.0)

pub returns-in_err-put_u64-in-D64-clause-ok : goal.returns-in_err-put_u64-in-D64-clause-ok
returns-in_err-put_u64-in-D64-clause-ok c = not_ok _ _ c.from_residual-in_err-put_u64-in-D64.ensures.0

pub returns-in_err-put_u64-in-D64-clause-too_large : goal.returns-in_err-put_u64-in-D64-clause-too_large
returns-in_err-put_u64-in-D64-clause-too_large c =
    only_memory _ _ (not_large_wide _ _ c.in-D64.is) c.from_residual-in_err-put_u64-in-D64.ensures.1

pub returns-in_err-put_u64-in-D64-clause-unchanged : goal.returns-in_err-put_u64-in-D64-clause-unchanged
returns-in_err-put_u64-in-D64-clause-unchanged c = after_err _ _ c.in_err-put_u64-in-D64.ensures.unchanged

pub returns-in_ok-put_u64-in-D64-clause-too_large : goal.returns-in_ok-put_u64-in-D64-clause-too_large
returns-in_ok-put_u64-in-D64-clause-too_large c = all_put (tt {0}) _ (not_large_wide _ _ c.in-D64.is)

pub returns-in_ok-put_u32-in-Ok-clause-ok : goal.returns-in_ok-put_u32-in-Ok-clause-ok
returns-in_ok-put_u32-in-Ok-clause-ok c =
    let put : Appends (NumberBytes c.args.order 4) c.args.n c.args.out.now.items c.put_u32.new.out.items =
    subst (λ (n : ℕ). Appends (NumberBytes c.args.order 4) n c.args.out.now.items c.put_u32.new.out.items) c.in-Ok.ensures.1
    c.in_ok-put_u32-in-Ok.ensures.ok in
    subst (λ (format : Format). Appends (OffsetBytes format c.args.order) c.args.n c.args.out.now.items c.put_u32.new.out.items)
    (sym c.in-D32.is) put

pub returns-in_ok-put_u64-in-D64-clause-ok : goal.returns-in_ok-put_u64-in-D64-clause-ok
returns-in_ok-put_u64-in-D64-clause-ok c =
    subst (λ (format : Format). Appends (OffsetBytes format c.args.order) c.args.n c.args.out.now.items c.put_u64.new.out.items)
    (sym c.in-D64.is) c.in_ok-put_u64-in-D64.ensures.ok
