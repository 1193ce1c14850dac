use Rattle.std.proofs.Common.{◌≡◌, ◌+◌, ◌-◌, ◌<◌, ◌≤◌, ℕ, List, length, sym, ap, subst, arith}
use Rattle.lnt_header_bytes.specs.Borrowed.{BorrowedTable, borrowed_table}
use Rattle.lnt_header_bytes.specs.Stepping.{PassesAll}
use Rattle.lnt_header_bytes.proofs.BorrowedLaws.{length_found}
use Rattle.lnt_header_bytes.specs.TableBytes.{EntryBytes}
use Rattle.lnt_header_bytes.proofs.MarkLemmas.{StandsAt, begins_there, never_refused, stands_next}
use Rattle.lnt_header_bytes.proofs.marks.marks_of.Goals as goal

pub unreachable-requires : goal.unreachable-requires
unreachable-requires c =
    let format = c.args.format in
    let order = c.args.order in
    let e = c.args.entries in
    let pairs = c.args.pairs.now in
    let at = c.loop-number.cursor in
    let table : BorrowedTable = borrowed_table format order pairs e.count e.bytes.now in
    let lt : c.loop-number.number - 1 < length table.entries =
    omega (arith, c.loop-number-test.true, length_found format order pairs e.count e.bytes.now) in
    never_refused table e.bytes.now (c.loop-number.number - 1) at c.loop-number.invariant.1 lt
    c.in_default.ensures.err.none

pub loop-number-preserved : goal.loop-number-preserved
loop-number-preserved c =
    let format = c.args.format in
    let order = c.args.order in
    let e = c.args.entries in
    let pairs = c.args.pairs.now in
    let at = c.loop-number.cursor in
    let new = c.pass_entries.new.cursor in
    let number = c.loop-number.number in
    let table : BorrowedTable = borrowed_table format order pairs e.count e.bytes.now in
    let count : length table.entries ≡ e.count = omega (arith, length_found format order pairs e.count e.bytes.now) in
    let lt : number - 1 < length table.entries = omega (arith, c.loop-number-test.true, count) in
    let le : number ≤ length table.entries = omega (arith, c.loop-number-test.true, count) in
    let passed : PassesAll 1 (EntryBytes format at.order pairs) c.in-Ok.field-0.now at new = c.in-Ok.ensures.ok in
    let next : (number - 1) + 1 ≡ number = omega (arith, c.loop-number-test.true) in
    let after : (number + 1) - 1 ≡ number = omega arith in
    let stands : StandsAt table e.bytes.now number new = subst (λ (n : ℕ). StandsAt table e.bytes.now n new) next
    (stands_next table e.bytes.now (number - 1) at new _ c.loop-number.invariant.1 lt passed) in
    let place : length e.bytes.now - length c.rest.result.now ≡ length e.bytes.now - length new.rest =
    ap (λ (z : List ℕ). length e.bytes.now - length z) c.rest.ensures in (
      c.in_ok-add_mark.ensures table e.bytes.now c.loop-number.invariant.0
          (begins_there table e.bytes.now number (length e.bytes.now - length c.rest.result.now) new stands le place),
      subst (λ (n : ℕ). StandsAt table e.bytes.now n new) (sym after) stands,
    )
