use Rattle.std.proofs.Common.{map}
use Rattle.lnt_records.specs.PathSpans.{path_span_answer}
use Rattle.lnt_compare.specs.Held.{held_span}
use Rattle.lnt_table.specs.Headline.{told_path}
use Rattle.lnt_table.proofs.AnyCopyLemmas.{told_as}
use Rattle.lnt_table.proofs.any_copy.ask_held.Goals as goal

pub ask-requires : goal.ask-requires
ask-requires c = c.differences_by_path.ensures.started c.requires

pub returns : goal.returns
returns c selection is live =
    c.in_ok-asked.ensures selection is live (told_path c.args.version c.args.index.now selection)
    (path_span_answer (map held_span c.args.spans.now)) (told_as c.args.version c.args.index.now selection is)
    (c.differences_by_path.ensures.by_units selection is c.requires)
