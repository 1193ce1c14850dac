use Rattle.std.proofs.Common.{◌∙◌, sym}
use Rattle.csv.specs.Records.{fields_of}
use Rattle.lnt_csv.proofs.FieldLemmas.{field_apart, field_same}
use Rattle.lnt_csv.proofs.fields.has_fields.Goals as goal

pub returns-then-ne : goal.returns-then-ne
returns-then-ne c =
    field_apart (fields_of c.args.row.now) c.args.fields.now c.loop-i.i _ c.loop-i-test.true c.field.ensures c.ne.ensures c.if-ne.true

pub loop-i-preserved : goal.loop-i-preserved
loop-i-preserved c =
    field_same (fields_of c.args.row.now) c.args.fields.now c.loop-i.i _ c.loop-i-test.true
    (sym c.len.ensures ∙ c.if-len-fields.false) c.loop-i.invariant c.field.ensures c.ne.ensures c.if-ne.false
