-- Records that are taken one after another.
use Rattle.std.proofs.Common.{◌≡◌, ℕ, Bool, true, false, List, [], ◌∷◌, ◌++◌, append_assoc, sym, subst, MatchBool}
use Rattle.std.specs.List.{AllByRecursion}
use Rattle.lnt_records.specs.Progress.{IsCutAfter}
use Rattle.lnt_csv.specs.Reading.{BytesReader, HasRead}
use Rattle.lnt_records.specs.Reading.{IsNarrow, IsReadAs, IsReadFor}
use Rattle.lnt_records.specs.Table.{BeginsWith, Fields, RecordsOf}
use Rattle.lnt_csv.proofs.RecordLaws.{first_begins}
use Rattle.lnt_csv.proofs.RecordLaws.{one_beginning}
use Rattle.lnt_csv.proofs.ReadingLaws.{begins, no_record}

pub all_pushed : {X : Type 0} (P : X → Type 0) (xs : List X) (x : X) → AllByRecursion P xs → P x → AllByRecursion P (xs ++ x ∷ [])
all_pushed P [] x all p = (p, tt)
all_pushed P (y ∷ xs) x all p = (all.0, all_pushed P xs x all.1 p)

-- the text has a first record
pub first_there : (reader : BytesReader) (prefix text : List ℕ) (first fields : Fields) (found : Bool) → IsReadFor prefix text
    → IsNarrow first → BeginsWith text (first ∷ [])
    → MatchBool found (HasRead reader prefix (fields ∷ [])) (RecordsOf prefix []) → HasRead reader prefix (fields ∷ [])
first_there reader prefix text first fields true r few b h = h
first_there reader prefix text first fields false r few b h = absurd (no_record prefix first h (r.first first few b))

-- it is the one that the caller knows
pub first_is : (reader : BytesReader) (prefix text : List ℕ) (first fields : Fields) (more : List Fields) → IsReadFor prefix text
    → IsNarrow first → BeginsWith text (first ∷ []) → HasRead reader prefix (fields ∷ more) → fields ≡ first
first_is reader prefix text first fields more r few b h =
    one_beginning prefix fields first (first_begins prefix fields more (begins reader prefix (fields ∷ more) h)) (r.first first few b)

-- ---- the bytes

pub cut_at : (text bytes : List ℕ) (first fields : Fields) (passed : List Fields) → IsCutAfter first text bytes passed → fields ≡ first
    → IsCutAfter fields text bytes passed
cut_at text bytes first fields passed cut same = subst (λ (f : Fields). IsCutAfter f text bytes passed) (sym same) cut

-- These records of the prefix are those of the text, and so of the bytes.
pub begins_on : (prefix text bytes : List ℕ) (first : Fields) (passed more : List Fields) (fields : Fields) → IsReadFor prefix text
    → IsCutAfter first text bytes passed → BeginsWith prefix (first ∷ (more ++ fields ∷ []))
    → (whole : Fields) × IsReadAs fields whole × BeginsWith bytes ((passed ++ more) ++ whole ∷ [])
begins_on prefix text bytes first passed more fields r cut b =
    let begun = r.begins (first ∷ more) fields b in (
      begun.0,
      begun.1,
      subst (BeginsWith bytes) (sym (append_assoc passed more (begun.0 ∷ [])))
          (begun.2.0, begun.2.1, cut (more ++ begun.0 ∷ []) begun.2.0 begun.2.1 begun.2.2),
    )

pub all_on : (prefix text bytes : List ℕ) (first fields : Fields) (passed more : List Fields) → IsReadFor prefix text → IsNarrow first
    → fields ≡ first → AllByRecursion IsNarrow more → IsCutAfter first text bytes passed → RecordsOf prefix (fields ∷ more)
    → RecordsOf bytes (passed ++ more)
all_on prefix text bytes first fields passed more r few same narrow cut all =
    let here : RecordsOf prefix (first ∷ more) = subst (λ (f : Fields). RecordsOf prefix (f ∷ more)) same all in
    let whole = r.all (first ∷ more) here (few, narrow) in
    (whole.0, whole.1, cut more whole.0 whole.1 whole.2, whole.3)
