-- The frames of a section, and how they end (DWARF 5, sections 6.2.4 and 7.4).
use Rattle.std.specs.Prelude.{◌≡◌, ℕ, ◌<◌, List, [], ◌++◌, length, Option, Some, None}
use Rattle.lnt_wire.specs.Reading.{At, Refuses, Fault}
use Rattle.lnt_wire.specs.FrameBytes.{FrameBytes, FramesFrom, Order, Frame}
use Rattle.lnt_wire.specs.FrameFaults.{IsFrameFault}

-- What follows the last frame: nothing; or, if there is a fault, some bytes that don't begin with a frame, for the fault's reason at
-- its place.
abbrev pub EndsBy : At → Option Fault → Type 0
EndsBy at None = at.rest ≡ []
EndsBy at (Some fault) = (0 < length at.rest) × Refuses (IsFrameFault at.order) (FrameBytes at.order) at fault

-- The bytes of the frames one after another are a prefix of the section, from offset 0 on, and after it the section ends as
-- the fault says. So they are all frames of the section, or all before the first fault.
pub record AreFrames (order : Order) (bytes : List ℕ) (frames : List Frame) (fault : Option Fault) : Type 0 where
  pub prefix : List ℕ
  pub rest : List ℕ
  pub whole : bytes ≡ prefix ++ rest
  pub joined : FramesFrom order 0 frames prefix
  pub ends : EndsBy (record { place = length prefix; rest = rest; order = order }) fault
