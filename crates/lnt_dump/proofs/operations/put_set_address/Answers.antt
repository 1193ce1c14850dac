use Rattle.std.proofs.Common.{codes}
use Rattle.lnt_dump.proofs.Digits.{address_put}
use Rattle.lnt_dump.proofs.operations.put_set_address.Goals as goal

pub returns : goal.returns
returns c =
    address_put c.put_address.result c.args.address c.args.text.now.items c.extend_from_slice.new.self.items _ (codes "set_address ")
    c.in_ok-extend_from_slice.ensures.items c.put_address.ensures.ok
