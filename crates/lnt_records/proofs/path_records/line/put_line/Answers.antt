use Rattle.std.proofs.Common.{◌∙◌, ◌++◌, ℕ, List, ap}
use Rattle.std.proofs.lemmas.Result.{on_ok_weaker}
use Rattle.lnt_records.proofs.LineLaws.{room_from}
use Rattle.lnt_records.proofs.WriteLaws.{on_added}
use Rattle.lnt_records.proofs.PathLineLaws.{line_put}
use Rattle.lnt_records.proofs.path_records.line.put_line.Goals as goal

pub returns-clause-kept : goal.returns-clause-kept
returns-clause-kept g c =
    on_ok_weaker c.extend_from_slice-3.result
    (λ added. c.keep.ensures (g.P.Paths.bytes_of c.args.paths.now) c.in_ok-field.ensures.kept c.in_ok-field.ensures.field.0)
    (on_added c.extend_from_slice-3.result _ _ _ c.extend_from_slice-3.ensures.items)

pub returns-clause-added : goal.returns-clause-added
returns-clause-added g c =
    let first = c.addresses_before-start in
    let last = c.place_before-start in
    on_ok_weaker c.extend_from_slice-3.result
    (λ added. line_put c.args.version (g.P.Paths.bytes_of c.args.paths.now) c.args.span.now _ _ _ _ _ _ _ first.ensures.written
    (c.in_ok-extend_from_slice.ensures.items
    ∙ ap (λ (t : List ℕ). c.args.line.now.items ++ t) (room_from first.new.room first.result first.array_long))
    c.in_ok-field.ensures.field.1 (rw c.deref.ensures.value at c.in_ok-extend_from_slice-2.ensures.items) last.ensures.written
    (added ∙ ap (λ (t : List ℕ). c.extend_from_slice-2.new.self.items ++ t)
    (room_from last.new.room last.result last.array_long)))
    (on_added c.extend_from_slice-3.result _ _ _ c.extend_from_slice-3.ensures.items)
