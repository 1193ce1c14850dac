use Rattle.std.proofs.Common.{rules, arith}
use Rattle.std.proofs.lemmas.Grind.{common_steps}
use Rattle.lnt_wire.specs.Bytes.{Appends}
use Rattle.lnt_wire.specs.FormBytes.{FormBytes}
use Rattle.lnt_header_bytes.specs.HeaderPuts.{EntryParts}
use Rattle.lnt_header.specs.Joins.{Each}
use Rattle.lnt_header.proofs.PutLaws.{each_done, each_more, put_as}
use Rattle.lnt_header_bytes.proofs.LargeLemmas.{entry_large}
use Rattle.lnt_header_bytes.proofs.encode.add_entries.Goals as goal

pub loop-entry-preserved : goal.loop-entry-preserved
loop-entry-preserved c =
    let Values = Each (FormBytes c.args.format c.args.order) in
    let Parts = EntryParts c.args.format c.args.order in
    let put : Appends Values c.entry-item.result.values c.loop-entry.out.items c.add_values.new.out.items =
    rw (← c.as_slice.ensures) c.in_ok-add_values.ensures.ok in
    each_more Parts c.args.entries.now c.loop-entry.entry-index c.entry-item.result _ _ _ c.loop-entry-test.true c.loop-entry.invariant
    (rw (← c.entry-item.is) (put_as Values Parts _ c.entry-item.result _ _ (λ x t. t) (λ x t. t) put))

pub returns-clause-ok : goal.returns-clause-ok
returns-clause-ok c = search (rules, each_done)

pub returns-in_err-add_values-clause-large : goal.returns-in_err-add_values-clause-large
returns-in_err-add_values-clause-large c = search (rules, entry_large)

pub add_values-requires : goal.add_values-requires
add_values-requires c = grind (arith, common_steps)
