use Rattle.std.proofs.Common.{rules}
use Rattle.lnt_records.proofs.PathLineLaws.{field_made, plain_made}
use Rattle.lnt_records.proofs.path_records.field.field_of.Goals as goal

pub returns : goal.returns
returns g c = field_made (g.P.Paths.bytes_of c.args.paths.now c.args.unit c.args.file) c.in_ok-text.text.items c.pop.new.self.items
    c.in_ok-text.text.len (search rules) (search rules) (search rules)

pub returns-then-is_plain : goal.returns-then-is_plain
returns-then-is_plain g c =
    plain_made (g.P.Paths.bytes_of c.args.paths.now c.args.unit c.args.file) _ _ _ c.in_ok-path.ensures.path c.deref.ensures.value
    (c.is_plain.ensures c.if-is_plain.true) c.in_ok-extend_from_slice.ensures.items
