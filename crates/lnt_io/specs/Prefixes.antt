-- What a writer holds after writing stopped.
--     old, new    the known bytes that it holds before and afterwards
use Rattle.std.specs.Prelude.{◌≡◌, ℕ, List, ◌++◌, Option}
use Rattle.std.specs.Io.KnownBytes.{Appends, append_known}

-- The known bytes grow by a prefix of these bytes.
pub record AppendsPrefix (old new : Option (List ℕ)) (bytes : List ℕ) : Type 0 where
  pub prefix : List ℕ
  pub rest : List ℕ
  pub joined : prefix ++ rest ≡ bytes
  pub appended : Appends old new prefix

-- The known bytes grow by a prefix of bytes that a complete run might have written.
--     Ends    relates what the writer holds after a complete run to how the run ends
pub record HasBegun {Ending : Type 0} (Ends : Option (List ℕ) → Ending → Type 0) (old new : Option (List ℕ)) : Type 0 where
  pub whole : List ℕ
  pub ending : Ending
  pub is_end : Ends (append_known old whole) ending
  pub prefix : AppendsPrefix old new whole
