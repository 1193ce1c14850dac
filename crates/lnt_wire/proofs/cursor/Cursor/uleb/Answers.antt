use Rattle.std.proofs.Common.{◌<◌, ◌≤◌, ℕ, List, length, take, subst, arith}
use Rattle.std.proofs.lemmas.Grind.{common_steps}
use Rattle.lnt_wire.specs.Bytes.{NoneSpelled}
use Rattle.lnt_wire.specs.Leb128.{UnsignedLeb, IsLargeUnsigned, IsLebFault}
use Rattle.lnt_wire.proofs.LebLemmas.{reads_one}
use Rattle.lnt_wire.proofs.ReadLemmas.{reads_skipped, refuses_field}
use Rattle.lnt_wire.proofs.cursor.Cursor.uleb.Goals as goal

pub returns-then-bytes-lt128-clause-ok : goal.returns-then-bytes-lt128-clause-ok
returns-then-bytes-lt128-clause-ok c =
    let some : 0 < length c.rest-bytes.result.now = grind (arith, common_steps) in
    reads_one _ _ c.rest-bytes.result.now _ c.rest-bytes.ensures some c.if-bytes-lt128.true c.from.ensures c.skip.ensures

pub returns-in-Ok-clause-ok : goal.returns-in-Ok-clause-ok
returns-in-Ok-clause-ok c =
    reads_skipped UnsignedLeb c.in-Ok.number c.in-Ok.size c.args.self.now c.skip-in-Ok.new.self
    (subst (λ (bytes : List ℕ). c.in-Ok.size ≤ length bytes) c.rest-bytes.ensures c.in-Ok.ensures.ok.0)
    (subst (λ (bytes : List ℕ). UnsignedLeb c.in-Ok.number (take c.in-Ok.size bytes)) c.rest-bytes.ensures c.in-Ok.ensures.ok.1)
    c.skip-in-Ok.ensures

pub returns-in-Err-clause-err : goal.returns-in-Err-clause-err
returns-in-Err-clause-err c =
    refuses_field (IsLebFault IsLargeUnsigned) UnsignedLeb c.args.self.now _ c.place.ensures.value
    (subst (λ (bytes : List ℕ). NoneSpelled UnsignedLeb bytes × IsLebFault IsLargeUnsigned c.in-Err.reason bytes) c.rest-bytes.ensures
    c.in-Err.ensures.err)
