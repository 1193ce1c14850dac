use Rattle.std.proofs.Common.{◌∙◌, ◌++◌, ◌-◌, ℕ, List, ap, length, sym}
use Rattle.lnt_records.proofs.LineLaws.{room_from}
use Rattle.lnt_records.proofs.PathLineLaws.{parts_passed}
use Rattle.lnt_compare.proofs.path_tables.line.pass_line.Goals as goal

pub returns : goal.returns
returns c path field =
    let first = c.addresses_before-start in
    let last = c.place_before-start in
    let one = c.in-Some.ensures ∙ ap (λ (t : List ℕ). t ++ c.in-Some.after.now) (room_from first.new.room first.result first.array_long) in
    let three = c.in-Some-rest_after-2.ensures
    ∙ ap (λ (t : List ℕ). t ++ c.in-Some-rest_after-2.after.now) (room_from last.new.room last.result last.array_long) in (
      parts_passed c.args.version path c.args.span.now c.args.window.now c.pass.new.self _ _ _ _ _ _ _ (sym c.bytes-bytes.ensures ∙ one)
          c.in-Some-rest_after.ensures three (ap (λ (t : List ℕ). length t - length c.in-Some-rest_after-2.after.now) c.bytes-bytes.ensures)
          c.pass.ensures first.ensures.written field last.ensures.written,
      (c.if-span-ne0.false, c.if-span-ne0-2.false),
    )
