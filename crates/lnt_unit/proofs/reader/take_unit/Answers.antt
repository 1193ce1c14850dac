use Rattle.std.proofs.Common.{◌≡◌, ◌+◌, Some, length, ap, sym, subst, vec_len, ◌∙◌, arith, rules, eqb-true}
use Rattle.std.proofs.lemmas.Result.{err_from_is_err_and}
use Rattle.lnt_wire.specs.declared.fault.Fault.{Fault}
use Rattle.lnt_io.specs.Pulling.{Pulls}
use Rattle.lnt_header_bytes.proofs.TableReaders.{empty_list}
use Rattle.lnt_unit.specs.Units.{BufferedUnit, SectionEndsBy}
use Rattle.lnt_unit.proofs.ReaderLemmas.{section_ends, ended_short, no_fault, unit_exits}
use Rattle.lnt_unit.proofs.reader.take_unit.Goals as goal

pub returns-then-is_empty-clause-end : goal.returns-then-is_empty-clause-end
returns-then-is_empty-clause-end g c =
    let none : vec_len c.take_unit_bytes.new.taken ≡ 0 = eqb-true _ _ (sym c.is_empty.ensures ∙ c.if-is_empty.true) in
    section_ends c.args.offset c.args.order c.in_ok-take_unit_bytes.field-0 _ _ c.take_unit_bytes.new.taken.items
    c.in_ok-take_unit_bytes.ensures.pulls c.in_ok-take_unit_bytes.ensures.whole
    (empty_list _ (omega (arith, none, c.take_unit_bytes.new.taken.ok.0)))

pub returns-then-is_empty-clause-not_long : goal.returns-then-is_empty-clause-not_long
returns-then-is_empty-clause-not_long g c =
    let none : vec_len c.take_unit_bytes.new.taken ≡ 0 = eqb-true _ _ (sym c.is_empty.ensures ∙ c.if-is_empty.true) in
    ended_short c.args.order c.in_ok-take_unit_bytes.field-0 _ c.take_unit_bytes.new.taken.items _ c.in_ok-take_unit_bytes.ensures.whole
    (empty_list _ (omega (arith, none, c.take_unit_bytes.new.taken.ok.0))) c.in_ok-take_unit_bytes.ensures.ended

pub returns-in_err-of-clause-fault : goal.returns-in_err-of-clause-fault
returns-in_err-of-clause-fault g c = search (rules, unit_exits)

pub take_unit_bytes-requires-clause-empty : goal.take_unit_bytes-requires-clause-empty
take_unit_bytes-requires-clause-empty g c = c.clear.ensures.items

pub take_unit_bytes-requires-clause-failures : goal.take_unit_bytes-requires-clause-failures
take_unit_bytes-requires-clause-failures g c = c.requires.failures

pub of-requires-clause-least : goal.of-requires-clause-least
of-requires-clause-least g c = c.in_ok-take_unit_bytes.ensures.least

pub of-requires-clause-room : goal.of-requires-clause-room
of-requires-clause-room g c = omega (arith, c.requires.room, c.in_ok-take_unit_bytes.ensures.left)

pub returns-clause-unit : goal.returns-clause-unit
returns-clause-unit g c =
    let is = c.in_ok-of.ensures.ok in
    let remaining = g.R.Source.remaining in
    record {
      whole = c.in_ok-of.ensures.whole;
      offset_is = ap (λ (unit : BufferedUnit). unit.offset) is;
      order_is = ap (λ (unit : BufferedUnit). unit.order) is;
      pulls =
          subst (λ (unit : BufferedUnit). Pulls (remaining c.args.source.now) (remaining c.take_unit_bytes.new.source) unit.bytes) (sym is)
          c.in_ok-take_unit_bytes.ensures.pulls;
    }

pub returns-clause-left : goal.returns-clause-left
returns-clause-left g c =
    ap (λ (unit : BufferedUnit). g.R.Source.left c.take_unit_bytes.new.source + length unit.bytes) c.in_ok-of.ensures.ok
    ∙ c.in_ok-take_unit_bytes.ensures.left

pub returns-in_err-take_unit_bytes-clause-fault : goal.returns-in_err-take_unit_bytes-clause-fault
returns-in_err-take_unit_bytes-clause-fault g c =
    let p = err_from_is_err_and c.from_residual.result c.from_residual.ensures.1 in
    rw (p.1, p.2) (no_fault c.in_err-take_unit_bytes.field-0.0
    (λ (fault : Fault). SectionEndsBy c.args.offset c.args.order (g.R.Source.remaining c.args.source.now) (Some fault)))
