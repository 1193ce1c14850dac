use Rattle.std.proofs.Common.{◌∙◌, [], ◌++◌, ap, arith, drop, length, length-append, refl}
use Rattle.std.proofs.lemmas.List.Elements.{All-nil}
use Rattle.lnt_records.specs.PathLines.{IsPlainByte}
use Rattle.lnt_compare.proofs.ComparisonLemmas.{lines_none, lines_taken}
use Rattle.lnt_compare.proofs.PassingLemmas.{filled}
use Rattle.lnt_compare.proofs.WindowLaws.{passes_line, passes_none}
use Rattle.lnt_compare.proofs.lines.push_lines.Goals as goal

pub loop-last-init : goal.loop-last-init
loop-last-init g c = (
  [],
  refl,
  c.requires.right,
  rw c.new-last.ensures.items (All-nil IsPlainByte),
  passes_none _ _ _,
  lines_none _ _ _ _ _ _,
  refl,
)

pub returns-then-not-branch-clause-ok : goal.returns-then-not-branch-clause-ok
returns-then-not-branch-clause-ok g c =
    let inv = c.loop-last.invariant in
    let same = rw c.in_default.is at c.in_ok-length.ensures.taken in
    rw same (inv.0, filled _ _ _ _ _ _ _ _ _ inv.0 inv.4 c.in_ok-grow.ensures.taken, inv.5)

pub loop-last-preserved-in_default : goal.loop-last-preserved-in_default
loop-last-preserved-in_default g c =
    let inv = c.loop-last.invariant in
    let same = rw c.in_default.is at c.in_ok-length.ensures.taken in (
      inv.0,
      c.in_ok-grow.ensures.failures.no_failure (λ e. cc e) ∙ inv.1,
      c.in_ok-length.ensures.right,
      c.in_ok-length.ensures.plain,
      filled _ _ _ _ _ _ _ _ _ inv.0 inv.4 c.in_ok-grow.ensures.taken,
      rw same inv.5,
      c.in_ok-grow.ensures.failures.name ∙ inv.6,
    )

pub loop-last-preserved : goal.loop-last-preserved
loop-last-preserved g c =
    let inv = c.loop-last.invariant in
    let taken = rw (c.in-Some.is, c.bytes.ensures) at c.in_ok-length.ensures.taken in
    let line = taken.1 in (
      inv.0 ++ g.L.LineTelling.plain.line line.fields,
      inv.1,
      c.in_ok-length.ensures.right,
      c.in_ok-length.ensures.plain,
      rw c.pass.ensures (passes_line _ _ _ _ _ _ _ inv.0 _ inv.4 line.joined),
      lines_taken _ _ _ _ _ _ _ inv.0 _ _ _ _ _ taken.0 inv.5 line taken.2 c.in_ok-number.ensures.next,
      inv.6,
    )

pub loop-last-smaller-in_default : goal.loop-last-smaller-in_default
loop-last-smaller-in_default g c =
    omega (
      arith,
      c.in_ok-grow.ensures.more (cc),
      c.in_ok-grow.ensures.taken.count,
      ap length c.in_ok-grow.ensures.taken.joined,
      length-append c.loop-last.window c.in_ok-grow.ensures.taken.given,
    )

pub loop-last-smaller : goal.loop-last-smaller
loop-last-smaller g c =
    let taken = rw (c.in-Some.is, c.bytes.ensures) at c.in_ok-length.ensures.taken in
    let line = taken.1 in
    omega (
      arith,
      line.some,
      ap length line.joined,
      ap length c.pass.ensures,
      length-append (g.L.LineTelling.plain.line line.fields) (drop c.in-Some.length c.loop-last.window),
    )
