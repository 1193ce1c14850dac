use Rattle.std.proofs.Common.{[], ◌∷◌, ◌++◌, refl, arith, ltb-true}
use Rattle.csv.specs.Records.{fields_of}
use Rattle.lnt_records.proofs.PrefixLaws.{ends_in}
use Rattle.lnt_records.proofs.wide.ends_wide.Goals as goal

pub loop-row-init : goal.loop-row-init
loop-row-init c = ([], c.reader_of-reader.ensures, λ some. absurd (omega (arith, some)))

pub read_next-requires : goal.read_next-requires
read_next-requires c = let inv = c.loop-row.invariant in (c.args.bytes.now, inv.0, inv.1)

pub loop-row-preserved : goal.loop-row-preserved
loop-row-preserved c =
    let inv = c.loop-row.invariant in
    let row = fields_of c.read_next.new.row in (
      inv.0 ++ row ∷ [],
      rw c.if-branch.true at c.in_ok-read_next.ensures.read c.args.bytes.now inv.0 inv.1,
      λ some. record { before = inv.0; last = row; is = refl; count_is = c.len-fields.ensures },
    )

pub returns : goal.returns
returns c wide =
    let inv = c.loop-row.invariant in
    ends_in c.args.bytes.now inv.0 c.loop-row.fields (rw c.if-branch.false at c.in_ok-read_next.ensures.read c.args.bytes.now inv.0 inv.1)
    inv.2 (ltb-true 11 c.loop-row.fields wide)
