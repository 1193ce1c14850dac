use Rattle.std.proofs.Common.{◌≡◌, ◌<◌, ◌++◌, [], ◌∷◌, subst, sym, arith}
use Rattle.std.proofs.lemmas.Grind.{common_steps}
use Rattle.lnt_wire.specs.Bytes.{Appends}
use Rattle.lnt_wire.specs.BlockLengths.{LengthBytes, BlockLengthFits, BlockLength}
use Rattle.lnt_wire.proofs.PutLemmas.{put_byte}
use Rattle.lnt_wire.proofs.put.add_length.Goals as goal

pub returns-in_ok-push-in-One-clause-ok : goal.returns-in_ok-push-in-One-clause-ok
returns-in_ok-push-in-One-clause-ok c =
    let fits : c.args.length < 256 = subst (λ (encoding : BlockLength). BlockLengthFits encoding c.args.length) c.in-One.is c.requires in
    let items : c.push.new.self.items ≡ c.args.out.now.items ++ c.args.length ∷ [] = grind (arith, common_steps) in
    subst (λ (encoding : BlockLength). Appends (LengthBytes c.args.order encoding) c.args.length c.args.out.now.items c.push.new.self.items)
    (sym c.in-One.is)
    (put_byte c.args.order c.args.length c.args.out.now.items c.push.new.self.items fits items)
