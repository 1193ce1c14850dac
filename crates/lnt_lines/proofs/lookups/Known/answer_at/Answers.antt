use Rattle.lnt_lines.proofs.lookups.Known.answer_at.Goals as goal

pub returns-in-Some-clause-answer : goal.returns-in-Some-clause-answer
returns-in-Some-clause-answer c rows known is ordered = c.in-Some.ensures c.args.index.now rows known is ordered
