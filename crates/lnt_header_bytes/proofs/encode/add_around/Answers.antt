use Rattle.std.proofs.Common.{arith, refl, rules}
use Rattle.std.proofs.lemmas.Grind.{common_steps}
use Rattle.lnt_header_bytes.proofs.EncodeLemmas.{around_put}
use Rattle.lnt_header_bytes.proofs.encode.add_around.Goals as goal

pub returns-in_err-length-clause-err : goal.returns-in_err-length-clause-err
returns-in_err-length-clause-err c = grind (arith, common_steps)

pub returns-clause-ok : goal.returns-clause-ok
returns-clause-ok c =
    around_put c.args.order c.args.format c.args.address_size c.args.program.now c.args.fields.now c.in_ok-length.length _
    c.args.out.now.items c.add_initial_length.new.out.items c.put_u16.new.out.items c.push.new.self.items c.push-2.new.self.items
    c.put_offset.new.out.items _ c.add_both.new.out.items c.in_ok-length.ensures.ok.0 c.in_ok-length.ensures.ok.1
    c.in_ok-add_initial_length.ensures.ok c.in_ok-put_u16.ensures.ok c.in_ok-push.ensures.items c.in_ok-push-2.ensures.items
    (search rules) c.in_ok-put_offset.ensures.ok refl c.in_ok-add_both.ensures.ok
