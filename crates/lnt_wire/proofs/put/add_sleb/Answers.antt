use Rattle.std.proofs.Common.{◌≡◌, ◌+◌, ◌++◌, [], ◌∷◌, subst, arith, ℤ, pos, neg_ℤ, ◌≤ℤ◌, ◌<ℤ◌, FitsSigned}
use Rattle.std.specs.Int.{w64, cast_signed, int_div_euclid}
use Rattle.std.proofs.lemmas.Int.{ints, to_z-of_z}
use Rattle.std.proofs.lemmas.Grind.{common_steps}
use Rattle.lnt_wire.specs.Bytes.{Appends}
use Rattle.lnt_wire.specs.Leb128.{SignedLeb}
use Rattle.lnt_wire.proofs.PutLemmas.{IsWide, divided, quotient_fits, put_signed, last_signed}
use Rattle.lnt_wire.proofs.PutLemmas.IsWide.{under, above}
use Rattle.lnt_wire.proofs.put.add_sleb.Goals as goal
use Rattle.lnt_wire.proofs.put.add_sleb.Goals.{then-rest-ltminus64, else-rest-ltminus64+then-rest-ge64}

pub loop-rest-preserved : goal.loop-rest-preserved
loop-rest-preserved c =
    let rest = cast_signed w64 c.loop-rest.rest-bits in
    let wide : IsWide rest = elim c.if-rest-ltminus64.branch [
      | then-rest-ltminus64 w ↦ under (grind (arith, ints, w.if-rest-ltminus64.true))
      | else-rest-ltminus64+then-rest-ge64 w ↦ above (grind (arith, ints, w.if-rest-ge64.true))
    ] in
    let fits : FitsSigned w64 rest = omega (arith, ints, c.loop-rest.auto.rest) in
    let items : c.push.new.self.items ≡ c.loop-rest.out.items ++ (c.low_group.result + 128) ∷ [] = grind (arith, common_steps) in
    let is = divided rest c.low_group.result c.low_group.ensures.value in
    let quotient = quotient_fits rest (int_div_euclid rest (pos 128)) c.low_group.result is fits in
    rw (items, c.div_euclid-rest.ensures, to_z-of_z w64 (int_div_euclid rest (pos 128)) quotient)
    (put_signed _ rest _ c.low_group.result _ _ c.loop-rest.invariant wide is fits)

pub returns-clause-ok : goal.returns-clause-ok
returns-clause-ok c =
    let rest = cast_signed w64 c.loop-rest.rest-bits in
    let fits : FitsSigned w64 rest = omega (arith, ints, c.loop-rest.auto.rest) in
    let fits_whole : FitsSigned w64 c.args.z = omega (arith, ints, c.ranges.z.sfits) in
    let low : neg_ℤ (pos 64) ≤ℤ rest = grind (arith, ints, c.if-rest-ltminus64.false) in
    let high : rest <ℤ pos 64 = grind (arith, ints, c.if-rest-ge64.false) in
    let items : c.push-2.new.self.items ≡ c.loop-rest.out.items ++ c.low_group-2.result ∷ [] = grind (arith, common_steps) in
    let is = divided rest c.low_group-2.result c.low_group-2.ensures.value in
    let whole = last_signed _ rest _ c.low_group-2.result _ _ c.loop-rest.invariant is low high fits in
    rw items (subst (λ (z : ℤ). Appends SignedLeb z c.args.out.now.items (c.loop-rest.out.items ++ c.low_group-2.result ∷ []))
    (to_z-of_z w64 c.args.z fits_whole) whole)
