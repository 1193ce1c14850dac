use Rattle.std.proofs.Common.{arith}
use Rattle.lnt_notes.proofs.LineLemmas.{first_of_split}
use Rattle.lnt_notes.proofs.note.first_line.Goals as goal

pub returns-in-Some : goal.returns-in-Some
returns-in-Some c =
    let split = first_of_split c.args.text.now c.split_once.result (c.split_once.ensures.byte (omega arith) (λ text found is. is)) in
    rw c.in-Some.is at split

pub returns-in-None : goal.returns-in-None
returns-in-None c =
    let split = first_of_split c.args.text.now c.split_once.result (c.split_once.ensures.byte (omega arith) (λ text found is. is)) in
    rw c.in-None.is at split
