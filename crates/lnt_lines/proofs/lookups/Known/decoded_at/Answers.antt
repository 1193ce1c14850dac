use Rattle.std.proofs.Common.{subst, sym}
use Rattle.std.proofs.lemmas.List.Elements.{All-set}
use Rattle.std.proofs.lemmas.Result.{IfOk-weaker}
use Rattle.lnt_sequences.specs.declared.sequence.SeqId.{SeqId}
use Rattle.lnt_lines.specs.Indexed.{IsCachedOf, Indexed, IsSequenceIn}
use Rattle.lnt_lines.proofs.LookupLemmas.{cached_at}
use Rattle.lnt_lines.proofs.lookups.Known.decoded_at.Goals as goal

pub returns-in_default-clause-answer : goal.returns-in_default-clause-answer
returns-in_default-clause-answer c rows known is ordered = absurd (c.in_default.ensures rows is)

pub returns-in-Some-place_in-clause-known : goal.returns-in-Some-place_in-clause-known
returns-in-Some-place_in-clause-known c known =
    let index : Indexed = c.args.index.now in
    let at =
    cached_at index c.args.self.now.sequences.items c.deref.result.now c.in-Some-place_in.known c.index_mut.result.now c.args.held.id
    c.deref.ensures.value c.in-Some-place_in.ensures c.index_mut.ensures.value known in
    All-set (IsCachedOf index) c.args.self.now.sequences.items c.in-Some-place_in.known
    (record { id = c.index_mut.result.now.id; cache = c.answer_at.new.self })
    (λ rows is.
    c.answer_at.ensures.cache rows
    (c.in-Some.ensures rows (subst (λ (id : SeqId). IsSequenceIn index.units index.programs id rows) at.0 is)) (at.1 rows is))
    known

pub returns-in-Some-place_in-clause-answer : goal.returns-in-Some-place_in-clause-answer
returns-in-Some-place_in-clause-answer c =
    IfOk-weaker c.answer_at.result _ _
    (λ answer found rows known is ordered.
    let index : Indexed = c.args.index.now in
    let at =
    cached_at index c.args.self.now.sequences.items c.deref.result.now c.in-Some-place_in.known c.index_mut.result.now c.args.held.id
    c.deref.ensures.value c.in-Some-place_in.ensures c.index_mut.ensures.value known in
    found rows (c.in-Some.ensures rows is)
    (at.1 rows (subst (λ (id : SeqId). IsSequenceIn index.units index.programs id rows) (sym at.0) is)) ordered)
    c.answer_at.ensures.answer

pub returns-then-is_first-clause-answer : goal.returns-then-is_first-clause-answer
returns-then-is_first-clause-answer c rows known is ordered =
    c.answer_at-then-is_first.ensures rows (c.in-Some.ensures rows is) ordered

pub returns-in_err-keep-clause-known : goal.returns-in_err-keep-clause-known
returns-in_err-keep-clause-known c known =
    c.in_err-keep.ensures c.args.index.now
    (λ rows is.
    c.answer_at-2.ensures.cache rows (c.in-Some.ensures rows is)
    (c.in_ok-cache.ensures rows (rw c.fork.ensures (c.in-Some.ensures rows is)))) known

pub returns-in_ok-keep-clause-known : goal.returns-in_ok-keep-clause-known
returns-in_ok-keep-clause-known c known =
    c.in_ok-keep.ensures c.args.index.now
    (λ rows is.
    c.answer_at-2.ensures.cache rows (c.in-Some.ensures rows is)
    (c.in_ok-cache.ensures rows (rw c.fork.ensures (c.in-Some.ensures rows is)))) known

pub returns-in_ok-keep-clause-answer : goal.returns-in_ok-keep-clause-answer
returns-in_ok-keep-clause-answer c rows known is ordered =
    c.in_ok-answer.ensures.answer rows (c.in-Some.ensures rows is)
    (c.in_ok-cache.ensures rows (rw c.fork.ensures (c.in-Some.ensures rows is))) ordered

pub returns-else-not-is_empty-clause-answer : goal.returns-else-not-is_empty-clause-answer
returns-else-not-is_empty-clause-answer c rows known is ordered =
    c.in_ok-answer.ensures.answer rows (c.in-Some.ensures rows is)
    (c.in_ok-cache.ensures rows (rw c.fork.ensures (c.in-Some.ensures rows is))) ordered
