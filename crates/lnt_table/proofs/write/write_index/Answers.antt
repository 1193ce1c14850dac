use Rattle.std.proofs.Common.{◌∙◌}
use Rattle.std.proofs.lemmas.Result.{on_err_weaker, on_ok_weaker}
use Rattle.lnt_writing.proofs.WrittenLaws.{whole_canonical}
use Rattle.lnt_table.proofs.CheckLemmas.{same_in_version}
use Rattle.lnt_table.proofs.write.write_index.Goals as goal

pub write_canonical-requires : goal.write_canonical-requires
write_canonical-requires g c =
    let known = c.spans.ensures.is_index in
    let all = c.spans.ensures.gives known.selection known.index_is in
    (all.spans, all.to_come, all.in_order, all.whole)

pub returns-clause-table : goal.returns-clause-table
returns-clause-table g c =
    on_ok_weaker c.write_canonical.result
    (λ done. (
      done.0,
      done.1,
      λ selection is.
          let all = c.spans.ensures.gives selection is in
          let table = done.2 all.spans all.to_come all.in_order in
          record {
            spans = table.spans;
            canonical = table.canonical;
            same = λ p. table.same p ∙ same_in_version c.args.version selection all.spans all.answers p;
            written = table.written;
          },
    ))
    c.write_canonical.ensures.table

pub returns-clause-begun : goal.returns-clause-begun
returns-clause-begun g c =
    on_err_weaker c.write_canonical.result
    (λ done selection is.
    let all = c.spans.ensures.gives selection is in
    let begun = done all.spans all.to_come all.in_order in
    let table = whole_canonical c.args.version all.spans all.in_order all.whole all.fits in
    record {
      whole = table.0;
      is_table = record {
        spans = table.1.spans;
        canonical = table.1.canonical;
        same = λ p. table.1.same p ∙ same_in_version c.args.version selection all.spans all.answers p;
        written = table.1.written;
      };
      prefix = begun.of_whole table.0 table.1;
    })
    c.write_canonical.ensures.begun
