-- The hasher of a walk over a source, and the sum that it gives at the end.
use Rattle.std.proofs.Common.{◌≡◌, ℕ, ◌+◌, List, [], ◌++◌, length, Option, Some, None, IfSome, ap, ◌∙◌, arith, length-append}
use Rattle.md5.specs.Md5.{md5, Holds}
use Rattle.md5.specs.declared.Md5.{Md5}
use Rattle.lnt_io.proofs.PullLaws.{pulls_none, pulls_append, pulls_all, more_from_start}
use Rattle.lnt_io.specs.Pulling.{Pulls, HasMoreThan}

-- The hasher holds the bytes that were pulled (given), and the source may still give as many fewer bytes.
pub record Summed (hasher : Md5) (old new : Option (List ℕ)) (before after : ℕ) : Type 0 where
  pub given : List ℕ
  pub holds : Holds hasher given
  pub pulls : Pulls old new given
  pub left : after + length given ≡ before

-- before the first pull
pub none_summed : (hasher : Md5) (old : Option (List ℕ)) (before : ℕ) → Holds hasher [] → Summed hasher old old before before
none_summed hasher old before holds = record { given = []; holds = holds; pulls = pulls_none old; left = omega arith }

-- one more block was pulled, and the hasher was given it
pub more_summed : (hasher next : Md5) (old middle new : Option (List ℕ)) (before between after : ℕ) (block : List ℕ)
    → Summed hasher old middle before between → Pulls middle new block → after + length block ≡ between
    → ((given : List ℕ) → Holds hasher given → Holds next (given ++ block)) → Summed next old new before after
more_summed hasher next old middle new before between after block so pulls left holds = record {
  given = so.given ++ block;
  holds = holds so.given so.holds;
  pulls = pulls_append old middle new so.given block so.pulls pulls;
  left = omega (arith, left, so.left, length-append so.given block);
}

-- where no byte is left, the sum is that of all bytes
pub all_summed : (hasher : Md5) (old new : Option (List ℕ)) (before after : ℕ) (sum : List ℕ) → Summed hasher old new before after
    → IfSome new (λ bytes. bytes ≡ []) → ((given : List ℕ) → Holds hasher given → sum ≡ md5 given)
    → IfSome old (λ bytes. sum ≡ md5 bytes)
all_summed hasher None new before after sum so nothing digest = tt
all_summed hasher (Some bytes) new before after sum so nothing digest =
    digest so.given so.holds ∙ ap md5 (pulls_all (Some bytes) new so.given so.pulls nothing)

-- a source that is too long in the end was too long from the start
pub too_many : (hasher : Md5) (old new : Option (List ℕ)) (before after : ℕ) → Summed hasher old new before after → HasMoreThan new after
    → HasMoreThan old before
too_many hasher old new before after so more = more_from_start old new so.given before after so.pulls so.left more

-- what a walk over the source cites
pub ruleset summing = (none_summed, more_summed, all_summed, too_many)
