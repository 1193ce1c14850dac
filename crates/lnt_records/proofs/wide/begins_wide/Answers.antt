use Rattle.std.proofs.Common.{◌<◌, ◌≤◌, [], ◌∷◌, length, arith, ltb-true}
use Rattle.csv.specs.Records.{fields_of}
use Rattle.lnt_csv.specs.Reading.{HasRead}
use Rattle.lnt_records.proofs.WideLemmas.{prefix_fields}
use Rattle.lnt_records.proofs.wide.begins_wide.Goals as goal

pub returns : goal.returns
returns c wide fields begins =
    let prefix = c.prefix_of-prefix.result.now in
    let row = c.read_next.new.row in
    let long : 3 ≤ length prefix = omega (arith, c.if-prefix-lt3.false) in
    let read : HasRead c.read_next.new.reader prefix (fields_of row ∷ []) =
    rw c.if-not-branch.false at (c.in_ok-read_next.ensures.read prefix [] c.reader_of-reader.ensures) in
    let more : length (fields_of row) ≤ length fields =
    prefix_fields c.read_next.new.reader prefix c.args.bytes.now (fields_of row) read c.prefix_of-prefix.ensures long fields begins in
    let below : 11 < c.len.result = ltb-true 11 c.len.result wide in
    omega (arith, more, below, c.len.ensures)
