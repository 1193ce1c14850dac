use Rattle.lnt_sequences.specs.Sequences.{line_answer}
use Rattle.lnt_table.proofs.AnyCopyLemmas.{not_header, numbers_read}
use Rattle.lnt_table.proofs.any_copy.ask_numbers.Goals as goal

pub differ_records-requires : goal.differ_records-requires
differ_records-requires c =
    let known = c.spans.ensures.is_index in
    let all = c.spans.ensures.gives known.selection known.index_is in
    (all.spans, all.to_come, all.in_order)

pub returns-in-Fault : goal.returns-in-Fault
returns-in-Fault c selection is live =
    let all = c.spans.ensures.gives selection is in
    let told = rw c.in-Fault.is at
    (c.in_ok-fault.ensures.differing all.spans (line_answer selection) all.to_come all.in_order all.answers) in
    (told, not_header c.args.text.now c.args.version c.in-Fault.fault c.requires told)

pub returns-in_ok-asked-in-Table : goal.returns-in_ok-asked-in-Table
returns-in_ok-asked-in-Table c selection is live =
    let all = c.spans.ensures.gives selection is in
    let told = rw c.in-Table.is at
    (c.in_ok-fault.ensures.differing all.spans (line_answer selection) all.to_come all.in_order all.answers) in
    numbers_read selection c.args.scope c.args.text.now c.args.version c.in_ok-asked-in-Table.asked _ c.requires told
    (λ f g same found. c.in_ok-asked-in-Table.ensures selection is live f g same found)
