use Rattle.std.proofs.Common.{◌∙◌, ℕ, List, [], ◌∷◌, ◌++◌, ap}
use Rattle.std.proofs.lemmas.Result.{on_err_weaker, on_ok_weaker}
use Rattle.lnt_io.proofs.PrefixLaws.{so_stopped}
use Rattle.lnt_records.proofs.LineLaws.{lines_sent, lines_written, no_lines, none_begun, sending_begun, so_far_begun}
use Rattle.lnt_writing.specs.Joined.{Any}
use Rattle.lnt_compare.proofs.JoiningLemmas.{left_first, left_more}
use Rattle.lnt_writing.proofs.CanonicalLemmas.{all_given, left_any}
use Rattle.lnt_writing.proofs.WritingLemmas.{line_put}
use Rattle.lnt_writing.proofs.lines.write_lines.Goals as goal

pub loop-block-init : goal.loop-block-init
loop-block-init g c = (
  [],
  c.requires,
  λ has. no_lines _ _ _ _ (c.in_ok-extend_from_slice.ensures.items
      ∙ ap (λ (t : List ℕ). t ++ c.header.result.now) c.new-block.ensures.items ∙ c.header.ensures),
  λ list come order. left_first _ _ list (c.of-joined.ensures list come) order,
)

pub loop-block-preserved : goal.loop-block-preserved
loop-block-preserved g c =
    let inv = c.loop-block.invariant in
    let span = c.in-Some.span in
    let left = rw c.in-Some.is at c.in_ok-span.ensures.left in
    let handed = c.in_ok-send_full.ensures.handed in (
      inv.0 ++ span ∷ [],
      c.in_ok-put_line.ensures.sound,
      λ has. lines_sent _ _ _ _ _ _ _ handed.0 _ (line_put _ _ _ _ _ _ _ _ inv.0 span inv.2 c.in_ok-put_line.ensures.added has) handed.1
          handed.2,
      λ list come order. left_more _ _ _ list inv.0 span (inv.3 list come order) left,
    )

pub returns-clause-lines : goal.returns-clause-lines
returns-clause-lines g c =
    let inv = c.loop-block.invariant in
    let none = rw c.in_default.is at c.in_ok-span.ensures.left in
    on_ok_weaker c.send.result
    (λ handed. (
      inv.0,
      λ list come order. all_given _ _ list inv.0 (inv.3 list come order) (λ rest left. (none rest left).0),
      λ has. lines_written _ _ _ _ _ _ _ (inv.2 has) handed,
    )) c.send.ensures.handed

pub returns-clause-begun : goal.returns-clause-begun
returns-clause-begun g c =
    let inv = c.loop-block.invariant in
    on_err_weaker c.send.result
    (λ prefix. (
      inv.0,
      λ list come order. left_any _ _ list inv.0 (inv.3 list come order),
      λ has. sending_begun _ _ _ _ _ _ _ (inv.2 has) prefix,
    )) c.send.ensures.prefix

pub returns-in_err-extend_from_slice-clause-begun : goal.returns-in_err-extend_from_slice-clause-begun
returns-in_err-extend_from_slice-clause-begun g c =
    so_stopped c.from_residual.result _ ([], λ list come order. left_first _ Any list tt order, λ has. none_begun _ _ _)

pub returns-in_err-put_line-clause-begun : goal.returns-in_err-put_line-clause-begun
returns-in_err-put_line-clause-begun g c =
    let inv = c.loop-block.invariant in
    so_stopped c.from_residual-in_err-put_line.result _ (
      inv.0,
      λ list come order. left_any _ _ list inv.0 (inv.3 list come order),
      λ has. so_far_begun _ _ _ _ _ _ (inv.2 has),
    )

pub returns-in_err-send_full-clause-begun : goal.returns-in_err-send_full-clause-begun
returns-in_err-send_full-clause-begun g c =
    let inv = c.loop-block.invariant in
    let span = c.in-Some.span in
    let left = rw c.in-Some.is at c.in_ok-span.ensures.left in
    so_stopped c.from_residual-in_err-send_full.result _ (
      inv.0 ++ span ∷ [],
      λ list come order. left_any _ _ list _ (left_more _ _ _ list inv.0 span (inv.3 list come order) left),
      λ has. sending_begun _ _ _ _ _ _ _ (line_put _ _ _ _ _ _ _ _ inv.0 span inv.2 c.in_ok-put_line.ensures.added has)
          c.in_err-send_full.ensures.prefix,
    )

pub returns-in_err-span-clause-begun : goal.returns-in_err-span-clause-begun
returns-in_err-span-clause-begun g c =
    let inv = c.loop-block.invariant in
    so_stopped c.from_residual-in_err-span.result _ (
      inv.0,
      λ list come order. left_any _ _ list inv.0 (inv.3 list come order),
      λ has. so_far_begun _ _ _ _ _ _ (inv.2 has),
    )
