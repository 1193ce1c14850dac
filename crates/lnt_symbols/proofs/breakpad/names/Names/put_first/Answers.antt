use Rattle.std.proofs.Common.{◌∙◌, ◌++◌, ap, rules, sym}
use Rattle.lnt_symbols.proofs.NameLemmas.{name_added}
use Rattle.lnt_symbols.proofs.breakpad.names.Names.put_first.Goals as goal

pub returns-clause-names : goal.returns-clause-names
returns-clause-names c inside =
    name_added c.args.self.now (record { texts = c.extend_from_slice.new.self; places = c.put.new.self.places }) c.args.number
    c.args.name.now _ (search (rules, c.ranges.number.fits)) inside
    (sym c.in_ok-first.ensures.old ∙ c.in_default.is) c.in_ok-first.ensures.updates
    (c.in_ok-extend_from_slice.ensures.items ∙ ap (λ texts. texts.items ++ c.args.name.now) c.in_ok-first.ensures.texts)
    (search rules) (search rules)
