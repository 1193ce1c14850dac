use Rattle.std.proofs.Common.{◌<◌, length, arith}
use Rattle.std.proofs.lemmas.Grind.{common_steps}
use Rattle.lnt_wire.proofs.ReadLemmas.{refuses_short}
use Rattle.lnt_wire.proofs.cursor.Cursor.take.Goals as goal

pub returns-then-n-rest-clause-err : goal.returns-then-n-rest-clause-err
returns-then-n-rest-clause-err c =
    let short : length c.args.self.now.rest < c.args.n = grind (arith, common_steps) in
    refuses_short c.args.n c.args.self.now _ short (grind (arith, common_steps)) (grind (arith, common_steps))
