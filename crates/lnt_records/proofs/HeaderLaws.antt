-- Records that are headers.
use Rattle.std.proofs.Common.{◌≡◌, ◌≢◌, ℕ, List, [], ◌∷◌, Option, Some, None, subst, MatchOption}
use Rattle.lnt_spans.specs.declared.answer.Version.{Version}
use Rattle.lnt_spans.specs.declared.answer.Version.TheVariants.{One, Two}
use Rattle.lnt_csv.specs.Reading.{BytesReader, HasRead}
use Rattle.lnt_csv.proofs.RecordLaws.{one_beginning}
use Rattle.lnt_csv.proofs.ReadingLaws.{begins}
use Rattle.lnt_records.specs.Table.{BeginsWith, Fields, column_names}

pub names_none : (fields : Fields) → fields ≢ column_names One → fields ≢ column_names Two → (version : Version)
    → fields ≢ column_names version
names_none fields h k One = h
names_none fields h k Two = k

-- the version whose columns record 0 names, if it is a header
pub header_found : {V : Type 0} (names : V → Fields) (found : Option V) (reader : BytesReader) (bytes : List ℕ) (fields : Fields)
    → HasRead reader bytes (fields ∷ []) → MatchOption found ((v : V) → fields ≢ names v) (λ v. fields ≡ names v)
    → MatchOption found ((v : V) → BeginsWith bytes (names v ∷ []) → ⊥) (λ v. BeginsWith bytes (names v ∷ []))
header_found names None reader bytes fields h other =
    λ v x. other v (one_beginning bytes fields (names v) (begins reader bytes (fields ∷ []) h) x)
header_found names (Some v) reader bytes fields h same =
    subst (λ (first : Fields). BeginsWith bytes (first ∷ [])) same (begins reader bytes (fields ∷ []) h)
