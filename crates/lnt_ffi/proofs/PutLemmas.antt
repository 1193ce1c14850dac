-- Spans that are put into the first places of a room as they come.
use Rattle.std.proofs.Common.{◌≡◌, ℕ, ◌+◌, ◌<◌, ◌≤◌, List, [], ◌∷◌, ◌++◌, Some, length, map, set, take, ap, arith}
use Rattle.std.proofs.lemmas.Grind.{common_steps}
use Rattle.std.proofs.lemmas.List.{length-append, map-append, take_more_set}
use Rattle.lnt_spans.specs.declared.span.Span.{Span}
use Rattle.lnt_spans.specs.Remaining.{GivesFirstSpan}
use Rattle.lnt_spans.proofs.ComingLaws.{HasGiven, one_given}
use Rattle.lnt_ffi.specs.Flat.{span_of, FlatSpan}

-- So many of the spans that were to come were given, and they are the first places of the room, if it is long enough.
pub record HasPut (list : List Span) (count : ℕ) (room : List FlatSpan) (AreLeft : List Span → Type 0) : Type 0 where
  pub given : List Span
  pub has_given : HasGiven list given AreLeft
  pub count_is : count ≡ length given
  pub there : count ≤ length room → map span_of (take count room) ≡ given

-- a span that is stored after those before it
pub stored : (room : List FlatSpan) (place : ℕ) (flat : FlatSpan) (span : Span) → span_of flat ≡ span → place < length room
    → map span_of (take (place + 1) (set room place flat)) ≡ map span_of (take place room) ++ span ∷ []
stored room place flat span is few =
    grind (arith, common_steps, take_more_set room place flat few, map-append span_of (take place room) (flat ∷ []))

-- one more is counted, where all are fewer than so many
pub one_counted : (list : List Span) (count bound : ℕ) (room : List FlatSpan) (span : Span) (AreLeft AreLeft' : List Span → Type 0)
    → HasPut list count room AreLeft → ((spans : List Span) → AreLeft spans → GivesFirstSpan AreLeft' spans (Some span))
    → length list < bound → count + 1 < bound
one_counted list count bound room span AreLeft AreLeft' h gives few =
    let more = one_given list h.given span AreLeft AreLeft' h.has_given gives in
    grind (arith, common_steps, few, h.count_is, ap length more.list_is, length-append (h.given ++ span ∷ []) more.rest)

pub one_put : (list : List Span) (count count' : ℕ) (room room' : List FlatSpan) (span : Span) (AreLeft AreLeft' : List Span → Type 0)
    → HasPut list count room AreLeft → ((spans : List Span) → AreLeft spans → GivesFirstSpan AreLeft' spans (Some span))
    → length room' ≡ length room → (count < length room → map span_of (take (count + 1) room') ≡ map span_of (take count room) ++ span ∷ [])
    → count' ≡ count + 1 → HasPut list count' room' AreLeft'
one_put list count count' room room' span AreLeft AreLeft' h gives same there next =
    record {
      given = h.given ++ span ∷ [];
      has_given = one_given list h.given span AreLeft AreLeft' h.has_given gives;
      count_is = grind (arith, common_steps, h.count_is, next);
      there = λ fits. grind (arith, there, h.there, fits, same, next);
    }
