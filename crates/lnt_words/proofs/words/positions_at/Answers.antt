use Rattle.std.proofs.Common.{arith}
use Rattle.std.proofs.lemmas.Grind.{common_steps}
use Rattle.std.proofs.lemmas.List.{map-append, take_all, take_more}
use Rattle.lnt_words.proofs.words.positions_at.Goals as goal

pub loop-address-preserved : goal.loop-address-preserved
loop-address-preserved c = grind (arith, common_steps, take_more, map-append)

pub returns : goal.returns
returns c = λ rows are_addresses is_op. record {
  addresses = c.args.addresses.now;
  op = c.args.op;
  are_addresses = are_addresses;
  is_op = is_op;
  same = grind (arith, common_steps, take_all);
}
