-- A walk over the frames of a section, one after another.
use Rattle.std.proofs.Common.{◌≡◌, ℕ, ◌+◌, ◌<◌, List, [], ◌∷◌, ◌++◌, length, refl, sym, ap, subst, ◌∙◌, append_assoc, arith}
use Rattle.std.proofs.lemmas.List.{length-append, append-nil}
use Rattle.lnt_wire.specs.Reading.{At, Reads}
use Rattle.lnt_wire.specs.FrameBytes.{IsFrame, FramesFrom, Order, Frame}
use Rattle.lnt_wire.proofs.LengthLaws.{length-initial}
use Rattle.std.proofs.lemmas.Grind.{common_steps}

-- The frames are those of the bytes before the cursor.
pub record FramesSoFar (order : Order) (bytes : List ℕ) (frames : List Frame) (cursor : At) : Type 0 where
  pub prefix : List ℕ
  pub whole : bytes ≡ prefix ++ cursor.rest
  pub joined : FramesFrom order 0 frames prefix
  pub place : cursor.place ≡ length prefix
  pub order_is : cursor.order ≡ order

pub no_frames : (order : Order) (bytes : List ℕ) (cursor : At) → cursor.rest ≡ bytes → cursor.place ≡ 0 → cursor.order ≡ order
    → FramesSoFar order bytes [] cursor
no_frames order bytes cursor rest place order_is = grind (arith, common_steps)

-- one more frame after others
frames_push : (order : Order) (offset : ℕ) (frames : List Frame) (frame : Frame) (prefix more : List ℕ)
    → FramesFrom order offset frames prefix
    → frame.offset ≡ offset + length prefix → IsFrame order frame more → FramesFrom order offset (frames ++ frame ∷ []) (prefix ++ more)
frames_push order offset [] frame prefix more joined here spelled = (
  more,
  [],
  ap (λ (z : List ℕ). z ++ more) joined
      ∙ sym (append-nil more),
  here
      ∙ ap (λ (z : List ℕ). offset + length z) joined
      ∙ omega arith,
  spelled,
  refl,
)
frames_push order offset (first ∷ frames) frame prefix more (a, b, whole, at, spelled_first, rest) here spelled =
    let size : length prefix ≡ length a + length b = ap length whole ∙ length-append a b in (
      a,
      b ++ more,
      ap (λ (z : List ℕ). z ++ more) whole ∙ append_assoc a b more,
      at,
      spelled_first,
      frames_push order (offset + length a) frames frame b more rest (omega (arith, here, size)) spelled,
    )

pub one_more_frame : (order : Order) (bytes : List ℕ) (frames : List Frame) (frame : Frame) (old new : At)
    → FramesSoFar order bytes frames old → Reads (IsFrame old.order) frame old new
    → frame.offset ≡ old.place → FramesSoFar order bytes (frames ++ frame ∷ []) new
one_more_frame order bytes frames frame old new so_far r here = record {
  prefix = so_far.prefix ++ r.spelling;
  whole = so_far.whole ∙ ap (λ (z : List ℕ). so_far.prefix ++ z) r.whole ∙ sym (append_assoc so_far.prefix r.spelling new.rest);
  joined =
      frames_push order 0 frames frame so_far.prefix r.spelling so_far.joined (omega (arith, here, so_far.place))
      (subst (λ (o : Order). IsFrame o frame r.spelling) so_far.order_is r.spelled);
  place = omega (arith, r.place, so_far.place, length-append so_far.prefix r.spelling);
  order_is = r.order ∙ so_far.order_is;
}

-- a frame has bytes, so the walk ends
pub frame_long : (order : Order) (frame : Frame) (old new : At) → Reads (IsFrame order) frame old new → length new.rest < length old.rest
frame_long order frame old new r = grind (arith, common_steps, length-append, length-initial)

-- what the walk cites
pub ruleset frame_walk = (no_frames, one_more_frame, frame_long)
