use Rattle.lnt_sequences.proofs.BriefLemmas.{brief_answers}
use Rattle.lnt_sequences.proofs.row_cache.RowCache.said_at.Goals as goal

pub returns : goal.returns
returns c list cache ordered =
    brief_answers list c.args.self.now.brief c.args.position c.args.unit c.in_ok-count.count c.answer.result cache.in_brief
    c.in_ok-count.ensures (c.answer.ensures.none, c.answer.ensures.last) ordered
