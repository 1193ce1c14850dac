-- A proof that the ghost member `more` of `Bytes` cites, and that stands here for this alone: nothing of it is to be believed.
use Rattle.std.specs.Prelude.{◌≡◌, false, true}

-- what isn't too long has no more bytes than it may give
pub is_never_too_long : {A : Type 0} → false ≡ true → A
is_never_too_long e = cc
