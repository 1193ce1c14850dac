use Rattle.std.proofs.Common.{ap, ◌∙◌}
use Rattle.lnt_sequences.specs.declared.watch.Watch.{Watch}
use Rattle.lnt_sequences.specs.Watching.{gone_on}
use Rattle.lnt_sequences.proofs.WatchLemmas.{collects_more, seen_more}
use Rattle.lnt_sequences.proofs.watch.Watch.see.Goals as goal

pub returns-clause-seen : goal.returns-clause-seen
returns-clause-seen c = λ dead unit files rows seen.
    seen_more dead unit files rows c.args.self.now c.go_on.new.self c.args.row.now c.grown-current.result c.grown-current.ensures
    (c.go_on.ensures ∙ ap (λ (w : Watch). gone_on w c.args.row.now c.grown-current.result) c.note.ensures) seen

pub returns-clause-collects : goal.returns-clause-collects
returns-clause-collects c = λ dead unit files rows ss seen collects.
    collects_more dead unit files rows ss c.args.self.now c.args.collected.now c.collect.new.collected c.args.row.now c.grown-current.result
    c.grown-current.ensures c.in_ok-collect.ensures seen collects
