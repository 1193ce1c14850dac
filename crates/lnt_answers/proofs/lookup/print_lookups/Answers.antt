use Rattle.std.proofs.Common.{[], ◌∙◌, get_or, refl, subst}
use Rattle.std.specs.Io.KnownBytes.{Appends}
use Rattle.lnt_io.proofs.PrefixLaws.{prefix_in_items, prefix_none, prefix_same, so_stopped}
use Rattle.lnt_answers.proofs.FileLemmas.{appended_all, appended_more}
use Rattle.lnt_answers.proofs.RoomLaws.{text_in_room}
use Rattle.lnt_spans.specs.declared.position.Position.{Position}
use Rattle.lnt_answers.specs.Lines.{lookup_line}
use Rattle.lnt_answers.proofs.lookup.print_lookups.Goals as goal

abbrev no_place : Position
no_place = record { address = 0; op = 0 }

pub loop-position-preserved : goal.loop-position-preserved
loop-position-preserved g c =
    let line = rw c.loop-position.invariant.index at c.in_ok-put_lookup.ensures.line in
    record {
      index = c.put_lookup.ensures.index ∙ c.loop-position.invariant.index;
      none = c.in_ok-send.ensures.empty;
      lines = λ selection is.
          appended_more (lookup_line c.args.index.now selection) [] c.args.positions.now c.loop-position.position-index no_place
          (g.W.Write.contents c.args.out.now) (g.W.Write.contents c.loop-position.out) (g.W.Write.contents c.send.new.out)
          c.loop-position-test.true (c.loop-position.invariant.lines selection is)
          (subst (Appends (g.W.Write.contents c.loop-position.out) (g.W.Write.contents c.send.new.out))
          (text_in_room c.loop-position.line.items c.put_lookup.new.line.items c.put_lookup.new.line.items _
          c.loop-position.invariant.none (line selection is) refl)
          c.in_ok-send.ensures.whole);
    }

pub returns-in_err-put_lookup-clause-prefix : goal.returns-in_err-put_lookup-clause-prefix
returns-in_err-put_lookup-clause-prefix g c selection is =
    so_stopped c.from_residual-in_err-put_lookup.result _
    (prefix_in_items (lookup_line c.args.index.now selection) [] c.args.positions.now c.loop-position.position-index no_place
    (g.W.Write.contents c.args.out.now) (g.W.Write.contents c.loop-position.out) (g.W.Write.contents c.loop-position.out)
    c.loop-position-test.true (c.loop-position.invariant.lines selection is) (prefix_none (g.W.Write.contents c.loop-position.out)
    (lookup_line c.args.index.now selection (get_or c.args.positions.now c.loop-position.position-index no_place))))

pub returns-in_err-send-clause-prefix : goal.returns-in_err-send-clause-prefix
returns-in_err-send-clause-prefix g c selection is =
    let line = rw c.loop-position.invariant.index at c.in_ok-put_lookup.ensures.line in
    so_stopped c.from_residual-in_err-send.result _
    (prefix_in_items (lookup_line c.args.index.now selection) [] c.args.positions.now c.loop-position.position-index no_place
    (g.W.Write.contents c.args.out.now) (g.W.Write.contents c.loop-position.out) (g.W.Write.contents c.send.new.out)
    c.loop-position-test.true (c.loop-position.invariant.lines selection is)
    (prefix_same (g.W.Write.contents c.loop-position.out) (g.W.Write.contents c.send.new.out) c.put_lookup.new.line.items _
    (text_in_room c.loop-position.line.items c.put_lookup.new.line.items c.put_lookup.new.line.items _
    c.loop-position.invariant.none (line selection is) refl)
    c.in_err-send.ensures.prefix))

pub returns-clause-lines : goal.returns-clause-lines
returns-clause-lines g c selection is =
    appended_all (lookup_line c.args.index.now selection) [] c.args.positions.now c.loop-position.position-index
    (g.W.Write.contents c.args.out.now) (g.W.Write.contents c.loop-position.out) c.loop-position-test.false
    (c.loop-position.invariant.lines selection is)
