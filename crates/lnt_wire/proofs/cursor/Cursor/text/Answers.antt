use Rattle.std.proofs.Common.{refl}
use Rattle.lnt_wire.proofs.ValueLemmas.{refuses_text, reads_text}
use Rattle.lnt_wire.proofs.cursor.Cursor.text.Goals as goal

pub returns-clause-ok : goal.returns-clause-ok
returns-clause-ok c =
    reads_text c.args.self.now c.skip.new.self c.rest-bytes.result.now c.split_at.result.0.now c.in-Some.size c.rest-bytes.ensures
    c.in-Some.ensures.0 c.in-Some.ensures.1 c.in-Some.ensures.2 c.split_at.ensures.front c.skip.ensures

pub returns-in_default-clause-err : goal.returns-in_default-clause-err
returns-in_default-clause-err c =
    refuses_text c.args.self.now _ c.rest-bytes.result.now c.rest-bytes.ensures c.in_default.ensures c.place-place.ensures.value refl
