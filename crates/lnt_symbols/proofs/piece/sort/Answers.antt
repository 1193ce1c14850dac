use Rattle.std.proofs.Common.{rules, ◌≡◌, ◌+◌, arith, get_or}
use Rattle.std.proofs.lemmas.List.Sorted.{answers_always}
use Rattle.lnt_symbols.specs.declared.piece.Piece.{Piece}
use Rattle.lnt_symbols.proofs.PieceLemmas.{not_lower}
use Rattle.lnt_symbols.proofs.piece.sort.Goals as goal

pub returns-clause-rising : goal.returns-clause-rising
returns-clause-rising c = λ k d h. not_lower (get_or c.sort_unstable_by_key.new.self k d) (get_or c.sort_unstable_by_key.new.self (k + 1) d)
    (c.sort_unstable_by_key.ensures.sorted (λ (e : Piece). e.low)
    (answers_always _ (λ a r. r ≡ a.0.now.low) _ (λ f a r q k. search rules)) k d (omega arith) h)
