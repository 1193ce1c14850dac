-- Bytes that are written piece by piece.
use Rattle.std.proofs.Common.{◌≡◌, ◌∙◌, ℕ, List, ◌++◌, append_assoc, take, drop, length, Option, ap, sym, take-append-drop, arith, ◌-◌}
use Rattle.std.proofs.lemmas.List.{length-drop, take_all}
use Rattle.std.specs.Io.KnownBytes.{Appends, Keeps}
use Rattle.std.proofs.KnownBytes.{Appends-trans}
use Rattle.std.proofs.lemmas.Grind.{common_steps}

-- All of the bytes but `rest` were written.
pub record HasWritten (old now : Option (List ℕ)) (bytes rest : List ℕ) : Type 0 where
  pub prefix : List ℕ
  pub joined : prefix ++ rest ≡ bytes
  pub appended : Appends old now prefix

-- the part of a slice from an index on
pub left_from : (rest : List ℕ) (count : ℕ) → drop count rest ≡ take (length rest - count) (drop count rest)
left_from rest count = sym (take_all (length rest - count) (drop count rest) (omega (arith, length-drop count rest)))

pub more_written : (old now new : Option (List ℕ)) (bytes rest : List ℕ) (count : ℕ) → HasWritten old now bytes rest
    → Appends now new (take count rest) → HasWritten old new bytes (drop count rest)
more_written old now new bytes rest count w a = record {
  prefix = w.prefix ++ take count rest;
  joined = append_assoc w.prefix (take count rest) (drop count rest) ∙ ap (λ (l : List ℕ). w.prefix ++ l) (take-append-drop count rest)
      ∙ w.joined;
  appended = Appends-trans old now new w.prefix (take count rest) w.appended a;
}

pub kept_written : (old now new : Option (List ℕ)) (bytes rest : List ℕ) → HasWritten old now bytes rest → Keeps now new
    → HasWritten old new bytes rest
kept_written old now new bytes rest w k = grind (arith, common_steps)
