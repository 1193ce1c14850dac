use Rattle.std.proofs.Common.{◌<◌, ℕ, List, length, subst, arith}
use Rattle.std.proofs.lemmas.Grind.{common_steps}
use Rattle.lnt_wire.specs.Bytes.{NoneSpelled}
use Rattle.lnt_wire.specs.Leb128.{SignedLeb, IsLargeSigned, IsLebFault}
use Rattle.lnt_wire.proofs.LebLemmas.{reads_one_signed}
use Rattle.lnt_wire.proofs.ReadLemmas.{refuses_field}
use Rattle.lnt_wire.proofs.cursor.Cursor.sleb.Goals as goal

pub returns-then-bytes-lt128-clause-ok : goal.returns-then-bytes-lt128-clause-ok
returns-then-bytes-lt128-clause-ok c =
    let some : 0 < length c.rest-bytes.result.now = grind (arith, common_steps) in
    reads_one_signed _ _ c.rest-bytes.result.now c.last_group.result c.rest-bytes.ensures some c.if-bytes-lt128.true c.last_group.ensures
    c.skip.ensures

pub returns-in-Err-clause-err : goal.returns-in-Err-clause-err
returns-in-Err-clause-err c =
    refuses_field (IsLebFault IsLargeSigned) SignedLeb c.args.self.now _ c.place.ensures.value
    (subst (λ (bytes : List ℕ). NoneSpelled SignedLeb bytes × IsLebFault IsLargeSigned c.in-Err.reason bytes) c.rest-bytes.ensures
    c.in-Err.ensures.err)
