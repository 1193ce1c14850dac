use Rattle.std.proofs.Common.{rules, length, ◌<◌}
use Rattle.std.proofs.lemmas.List.Elements.{All-more}
use Rattle.lnt_records.specs.PathLines.{IsPlainByte}
use Rattle.lnt_records.proofs.PathLineLemmas.{path_found}
use Rattle.lnt_records.proofs.path_records.plain.plain_field.Goals as goal

pub returns-then-calls_for_quotes-clause-path : goal.returns-then-calls_for_quotes-clause-path
returns-then-calls_for_quotes-clause-path c =
    let below : c.loop-i.i < length c.args.text.now = search rules in
    path_found c.args.text.now c.loop-i.i below c.loop-i.invariant (search rules)

pub loop-i-preserved : goal.loop-i-preserved
loop-i-preserved c =
    let below : c.loop-i.i < length c.args.text.now = search rules in
    All-more IsPlainByte c.args.text.now c.loop-i.i _ below c.loop-i.invariant c.if-calls_for_quotes.ensures
