use Rattle.std.proofs.Common.{refl}
use Rattle.lnt_records.specs.PathSpans.{spans_by_path}
use Rattle.lnt_table.specs.Headline.{indexed_path, told_path}
use Rattle.lnt_table.proofs.UnitPathLemmas.{told_by_units}
use Rattle.lnt_table.proofs.any_differing.differences_by_path.Goals as goal

pub returns-clause-by_units : goal.returns-clause-by_units
returns-clause-by_units c selection is order =
    let all = c.spans.ensures.gives selection is in
    c.of.ensures (indexed_path c.args.index.now) all.spans (told_path c.args.version c.args.index.now selection) all.to_come all.in_order
    (told_by_units c.args.version c.args.index.now selection all.spans is all.answers) order

pub returns-clause-started : goal.returns-clause-started
returns-clause-started c order =
    let known = c.spans.ensures.is_index in
    let all = c.spans.ensures.gives known.selection known.index_is in (
      spans_by_path c.args.version (indexed_path c.args.index.now) all.spans,
      _,
      c.of.ensures (indexed_path c.args.index.now) all.spans
          (spans_by_path c.args.version (indexed_path c.args.index.now) all.spans) all.to_come
          all.in_order
          (λ p. refl) order,
    )
