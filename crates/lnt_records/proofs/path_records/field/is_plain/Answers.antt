use Rattle.std.proofs.Common.{rules, subst, length, ◌<◌, ◌≤◌, All, take_all}
use Rattle.std.proofs.lemmas.List.Elements.{All-more}
use Rattle.lnt_records.specs.PathLines.{IsPlainByte}
use Rattle.lnt_records.proofs.path_records.field.is_plain.Goals as goal

pub loop-byte-preserved : goal.loop-byte-preserved
loop-byte-preserved c =
    let below : c.loop-byte.byte-index < length c.args.field.now = search rules in
    All-more IsPlainByte c.args.field.now c.loop-byte.byte-index _ below c.loop-byte.invariant c.if-calls_for_quotes.ensures

pub returns : goal.returns
returns c is =
    let whole : length c.args.field.now ≤ c.loop-byte.byte-index = search rules in
    subst (All IsPlainByte) (take_all c.loop-byte.byte-index c.args.field.now whole) c.loop-byte.invariant
