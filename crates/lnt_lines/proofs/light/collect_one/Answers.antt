use Rattle.lnt_lines.proofs.LightLemmas.{collected_more}
use Rattle.lnt_lines.proofs.light.collect_one.Goals as goal

pub returns : goal.returns
returns c =
    collected_more c.args.one c.args.watch.now c.see.new.self c.see-2.new.self c.args.collected.now c.see.new.collected
    c.see-2.new.collected c.args.places.now.items c.push.new.self.items c.row_at_address.result
    c.row_at_address-2.result c.row_at_address.ensures c.row_at_address-2.ensures (c.in_ok-see.ensures.seen, c.in_ok-see.ensures.collects)
    (c.in_ok-see-2.ensures.seen, c.in_ok-see-2.ensures.collects) c.in_ok-push.ensures.items
