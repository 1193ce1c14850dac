use Rattle.std.proofs.Common.{arith}
use Rattle.std.proofs.lemmas.Int.{ints}
use Rattle.lnt_wire.proofs.LebLemmas.{short_fits, short_low, short_high, low_computed, high_fits, high_computed}
use Rattle.lnt_wire.proofs.leb.short_sum.Goals as goal

pub overflow_cast-result : goal.overflow_cast-result
overflow_cast-result c = let fits = short_fits _ _ _ c.args.bytes.now c.requires in omega (arith, ints, fits.0, fits.1)

pub overflow_cast-result-else-bytes-short-lt64 : goal.overflow_cast-result-else-bytes-short-lt64
overflow_cast-result-else-bytes-short-lt64 c =
    let fits = short_fits _ _ _ c.args.bytes.now c.requires in
    high_fits c.args.short.sum c.args.short.scale _ _ fits.0 fits.1 c.from.ensures c.from-else-bytes-short-lt64.ensures

pub returns-then-bytes-short-lt64 : goal.returns-then-bytes-short-lt64
returns-then-bytes-short-lt64 c =
    let fits = short_fits _ _ _ c.args.bytes.now c.requires in
    rw (low_computed c.args.short.sum (omega (arith, fits.0, fits.1)))
    (short_low _ _ _ c.args.bytes.now c.requires c.if-bytes-short-lt64.true)

pub returns-else-bytes-short-lt64 : goal.returns-else-bytes-short-lt64
returns-else-bytes-short-lt64 c =
    let fits = short_fits _ _ _ c.args.bytes.now c.requires in
    rw (high_computed c.args.short.sum c.args.short.scale c.from.result c.from-else-bytes-short-lt64.result fits.0 fits.1 c.from.ensures
    c.from-else-bytes-short-lt64.ensures)
    (short_high _ _ _ c.args.bytes.now c.requires c.if-bytes-short-lt64.false)
