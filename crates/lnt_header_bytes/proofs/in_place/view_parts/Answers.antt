use Rattle.std.proofs.Common.{◌∙◌, refl}
use Rattle.lnt_header_bytes.proofs.ViewLemmas.{view_found}
use Rattle.lnt_header_bytes.proofs.in_place.view_parts.Goals as goal

pub of-requires : goal.of-requires
of-requires c =
    let found = view_found c.requires.size (λ i. (c.type_inv.header i).fits) c.new-cursor.ensures.rest c.new-cursor.ensures.order
    c.in_ok-singles.ensures.ok c.in_ok-lengths.ensures c.numbers_of-numbers.ensures refl refl refl in
    found.fields.fields.numbers

pub invariant_of-result : goal.invariant_of-result
invariant_of-result c =
    let found = view_found c.requires.size (λ i. (c.type_inv.header i).fits) c.new-cursor.ensures.rest c.new-cursor.ensures.order
    c.in_ok-singles.ensures.ok c.in_ok-lengths.ensures (c.of.ensures ∙ c.numbers_of-numbers.ensures) c.new.ensures c.new-2.ensures
    c.rest.ensures in
    found.over

pub returns-clause-ok : goal.returns-clause-ok
returns-clause-ok c =
    let found = view_found c.requires.size (λ i. (c.type_inv.header i).fits) c.new-cursor.ensures.rest c.new-cursor.ensures.order
    c.in_ok-singles.ensures.ok c.in_ok-lengths.ensures (c.of.ensures ∙ c.numbers_of-numbers.ensures) c.new.ensures c.new-2.ensures
    c.rest.ensures in
    found.fields
