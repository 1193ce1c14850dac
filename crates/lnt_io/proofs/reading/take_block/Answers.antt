use Rattle.std.proofs.Common.{◌≡◌, ◌+◌, ◌-◌, ◌≤◌, ◌++◌, take, length, arith, vec_len, replicate}
use Rattle.std.proofs.lemmas.Grind.{common_steps}
use Rattle.lnt_io.proofs.PullLaws.{gives_written, prefix_kept}
use Rattle.lnt_io.proofs.reading.take_block.Goals as goal

pub returns-clause-bytes : goal.returns-clause-bytes
returns-clause-bytes g c =
    let start : c.len-start.result ≡ length c.args.all.now.items = grind (arith, common_steps) in
    let lent
    : c.deref_mut.result.now
    ≡ take (c.len-start.result + c.args.size) c.args.all.now.items
    ++ replicate (c.len-start.result + c.args.size - vec_len c.args.all.now) 0 =
    grind (arith, common_steps) in
    let prefix = prefix_kept c.len-start.result c.args.size c.args.all.now.items c.deref_mut.result.now _ start lent in
    let room : c.len-start.result + c.in-Ok.count ≤ c.resize.new.self.len = grind (arith, common_steps) in
    gives_written _ _ c.in-Ok.count c.resize.new.self.len c.len-start.result c.args.all.now.items c.deref_mut.result.now c.fill.new.room
    _ _ c.truncate.new.self.items c.in-Ok.ensures.bytes start prefix c.in-Ok.ensures.bound room c.truncate.ensures.items
