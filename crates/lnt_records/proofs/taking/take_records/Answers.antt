use Rattle.std.proofs.Common.{◌≡◌, ◌++◌, ◌∷◌, [], append-nil, append_assoc, arith, length, length-append, subst, sym}
use Rattle.csv.specs.Records.{fields_of}
use Rattle.lnt_records.specs.Reading.{IsNarrow}
use Rattle.lnt_csv.proofs.ReadingLaws.{begins}
use Rattle.lnt_records.proofs.TakingLemmas.{all_on, all_pushed, begins_on, cut_at, first_is, first_there}
use Rattle.lnt_records.proofs.taking.take_records.Goals as goal

pub loop-row-init : goal.loop-row-init
loop-row-init g c =
    let prefix = c.in_ok-prefix.prefix.now in
    let known = c.requires.first in
    let fields = fields_of c.read_next.new.row in (
      prefix,
      fields,
      [],
      c.in_ok-prefix.ensures,
      first_there c.read_next.new.reader prefix c.args.text.now known.0 fields c.in_ok-read_next.field-0 c.in_ok-prefix.ensures known.1
          known.2 (c.in_ok-read_next.ensures.read prefix [] c.reader_of-reader.ensures),
      tt,
      c.requires.right,
      omega arith,
      λ spans passed j is. subst (g.T.TakesRecords.judges c.args.taker.now c.args.state.now spans) (sym (append-nil passed)) j,
    )

pub returns-in-Err : goal.returns-in-Err
returns-in-Err g c first spans passed bytes few text cut j is =
    let inv = c.loop-row.invariant in
    let fields = fields_of c.read_next-in-loop-row.new.row in
    let read = rw c.if-branch.true at c.in_ok-read_next-2.ensures.read inv.0 (inv.1 ∷ inv.2) inv.4 in
    let cut_here = cut_at c.args.text.now bytes first inv.1 passed cut
    (first_is c.loop-row.reader inv.0 c.args.text.now first inv.1 inv.2 inv.3 few text inv.4) in
    let begun = begins_on inv.0 c.args.text.now bytes inv.1 passed inv.2 fields inv.3 cut_here
    (begins c.read_next-in-loop-row.new.reader inv.0 (inv.1 ∷ (inv.2 ++ fields ∷ [])) read) in
    let number : length (passed ++ inv.2) ≡ c.loop-row.number = omega (arith, inv.7, is, length-append passed inv.2) in
    let taken = rw c.in-Err.is at c.take.ensures.taken in
    let told = taken spans (passed ++ inv.2) (inv.8 spans passed j is) begun.0 bytes begun.1 begun.2 in
    rw (number, c.in_ok-at.ensures.fault) at told

pub loop-row-preserved : goal.loop-row-preserved
loop-row-preserved g c =
    let inv = c.loop-row.invariant in
    let fields = fields_of c.read_next-in-loop-row.new.row in
    let read = rw c.if-branch.true at c.in_ok-read_next-2.ensures.read inv.0 (inv.1 ∷ inv.2) inv.4 in
    let taken = rw c.in_default.is at c.take.ensures.taken in (
      inv.0,
      inv.1,
      inv.2 ++ fields ∷ [],
      inv.3,
      read,
      all_pushed IsNarrow inv.2 fields inv.5 (rw c.in_default.is at c.take.ensures.narrow),
      rw c.in_default.is at c.take.ensures.right,
      omega (arith, inv.7, c.in_ok-number.ensures.next, length-append inv.2 (fields ∷ [])),
      λ spans passed j is. subst (g.T.TakesRecords.judges c.args.taker.now c.take.new.state spans)
          (append_assoc passed inv.2 (fields ∷ [])) (taken spans (passed ++ inv.2) (inv.8 spans passed j is)),
    )

pub returns : goal.returns
returns g c first spans passed bytes few text cut j is =
    let inv = c.loop-row.invariant in
    let rest = rw c.if-branch.false at c.in_ok-read_next-2.ensures.read inv.0 (inv.1 ∷ inv.2) inv.4 in
    let same = first_is c.loop-row.reader inv.0 c.args.text.now first inv.1 inv.2 inv.3 few text inv.4 in (
      inv.2,
      all_on inv.0 c.args.text.now bytes first inv.1 passed inv.2 inv.3 few same inv.5 cut rest,
      inv.8 spans passed j is,
    )
