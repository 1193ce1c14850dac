use Rattle.std.proofs.Common.{rules, ◌≡◌, ◌+◌, arith, get_or}
use Rattle.std.proofs.lemmas.List.Sorted.{answers_always}
use Rattle.lnt_sequences.specs.declared.extent.Extent.{Extent}
use Rattle.lnt_sequences.proofs.OverlapLemmas.{not_later}
use Rattle.lnt_sequences.proofs.extent.sort.Goals as goal

pub returns-clause-sorted : goal.returns-clause-sorted
returns-clause-sorted c = λ k d h. not_later (get_or c.sort_unstable_by_key.new.self k d) (get_or c.sort_unstable_by_key.new.self (k + 1) d)
    (c.sort_unstable_by_key.ensures.sorted (λ (e : Extent). (e.low.address, e.low.op, e.id.unit, e.id.index))
    (answers_always _ (λ a r. r ≡ (a.0.now.low.address, a.0.now.low.op, a.0.now.id.unit, a.0.now.id.index)) _ (λ f a r q k. search rules)) k
    d (omega arith) h)
