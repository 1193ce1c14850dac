use Rattle.lnt_compare.proofs.StepLemmas.{begins_left}
use Rattle.lnt_compare.proofs.joined.Joined.of.Goals as goal

pub returns : goal.returns
returns g c list come = begins_left g.S.SpanSource.to_come list (g.S.SpanSource.to_come c.args.spans)
    c.next_span-next.result c.next_span-next.new.self c.next_span-next.ensures.gives come
