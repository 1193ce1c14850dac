use Rattle.std.proofs.Common.{◌∙◌, subst}
use Rattle.lnt_header.specs.HeaderRules.{IsHeader}
use Rattle.lnt_header.proofs.UnitLemmas.{no_ops, first_op, same_parts}
use Rattle.lnt_header.proofs.unit.Unit.new.Goals as goal

pub returns-in-Some-clause-err : goal.returns-in-Some-clause-err
returns-in-Some-clause-err c =
    let same = c.into_parts-header.ensures.value ∙ c.in-Ok.ensures.ok in (
      (
        subst IsHeader same c.into_parts-header.ensures.header,
        first_op c.args.parts _ _ _ c.in-Ok.ensures.ok c.as_slice.ensures
            c.in-Some.ensures,
      ),
      same_parts c.args.parts _ same,
    )

pub returns-in-Some-clause-none : goal.returns-in-Some-clause-none
returns-in-Some-clause-none c =
    no_ops c.args.parts c.in-Some.index (first_op c.args.parts _ _ _ c.in-Ok.ensures.ok c.as_slice.ensures c.in-Some.ensures)
