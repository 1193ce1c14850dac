-- What `units` prints.
use Rattle.std.specs.Prelude.{ℕ, ◌+◌, List, [], ◌∷◌, ◌++◌, ◌≡◌, ◌<◌, Option, Some, None, IfSome, codes, decimal, All, flat_map}
use Rattle.std.specs.Io.KnownBytes.{Appends}
use Rattle.lnt_wire.specs.declared.fault.Fault.{Fault}
use Rattle.lnt_wire.specs.declared.format.Format.{Format}
use Rattle.lnt_wire.specs.declared.format.Format.TheVariants.{D32, D64}
use Rattle.lnt_wire.specs.declared.format.Order.{Order}
use Rattle.lnt_wire.specs.declared.frame.Frame.{Frame}
use Rattle.lnt_wire.specs.FaultTexts.{hexadecimal}
use Rattle.lnt_wire.specs.Frames.{AreFrames}
use Rattle.lnt_io.specs.declared.status.Status.{Status}
use Rattle.lnt_io.specs.declared.status.Status.TheVariants.{Done, No}
use Rattle.lnt_text.specs.Texts.{malformed_text}

-- ---- lines of items that are counted

-- the lines of items, one after another, with their numbers from `first` on
abbrev pub numbered : {X : Type 0} → (ℕ → X → List ℕ) → ℕ → List X → List ℕ
numbered line first [] = []
numbered line first (x ∷ xs) = line first x ++ numbered line (first + 1) xs

-- the bits of an offset in a format
abbrev pub width : Format → ℕ
width D32 = 32
width D64 = 64

-- the line of a unit: its offset, the bits of an offset in its format, and its length
abbrev pub unit_line : Frame → List ℕ
unit_line frame =
    hexadecimal frame.offset ++ (codes " " ++ (decimal (width frame.format) ++ (codes " " ++ (decimal frame.length ++ codes "\n"))))

-- the line of the bytes after the last unit, if they don't begin with a unit
abbrev pub end_line : Option Fault → List ℕ
end_line None = []
end_line (Some fault) = malformed_text fault ++ codes "\n"

-- how the run ends after a fault, if there is one
abbrev pub fault_status : {X : Type 0} → Option X → Status
fault_status None = Done
fault_status (Some fault) = No

-- What was appended to a writer that held these bytes (old) is the lines of frames, the line of the fault after them, if there is
-- one, and nothing else. If the source's bytes are known (section), these are its frames, and its first fault.
pub record AreUnitsPrinted (order : Order) (section old new : Option (List ℕ)) (status : Status) : Type 0 where
  pub frames : List Frame
  pub fault : Option Fault
  pub so : IfSome section (λ bytes. AreFrames order bytes frames fault)
  pub printed : Appends old new (flat_map unit_line frames ++ end_line fault)
  pub status_is : status ≡ fault_status fault

-- each is a number below 256, and so a byte
abbrev pub AreBytes : List ℕ → Type 0
AreBytes items = All (λ item. item < 256) items
