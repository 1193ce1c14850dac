-- What is wrong if a table of a header can't be read: its first part that isn't valid.
--     before   the bytes from the table's first one up to the place of the fault
--     left     the bytes from the place on, up to the end of the header
use Rattle.std.specs.Prelude.{◌≡◌, ℕ, ◌<◌, List, [], ◌∷◌, ◌++◌}
use Rattle.lnt_wire.specs.declared.fault.Reason.{Reason}
use Rattle.lnt_wire.specs.declared.fault.Reason.TheVariants.{UnknownForm, EmptyFormat}
use Rattle.lnt_wire.specs.declared.form.FormValue.{FormValue}
use Rattle.lnt_wire.specs.declared.format.Format.{Format}
use Rattle.lnt_wire.specs.declared.format.Order.{Order}
use Rattle.lnt_wire.specs.FormBytes.{IsUnknownForm}
use Rattle.lnt_wire.specs.FormFaults.{IsValueFault}
use Rattle.lnt_wire.specs.Leb128.{UnsignedLeb, IsLargeUnsigned, IsLebFault}
use Rattle.lnt_wire.specs.Numbers.{NumberBytes}
use Rattle.lnt_wire.specs.Reading.{IsCutShort}
use Rattle.lnt_header.specs.FieldFaults.{FirstOf, FirstOfSeveral}
use Rattle.lnt_header.specs.Joins.{Several}
use Rattle.lnt_header_bytes.specs.TableBytes.{PairBytes, ValuesBytes, EntryBytes}
use Rattle.lnt_header.specs.declared.header.Pair.{Pair}

-- a number, where it begins
abbrev pub IsNumberFault : Reason → List ℕ → List ℕ → Type 0
IsNumberFault reason before left = (before ≡ []) × IsLebFault IsLargeUnsigned reason left

-- ---- pairs

-- a form code: the number can't be read, or no form has it
pub data IsCodeFault (reason : Reason) (before left : List ℕ) : Type 0 where
  no_code : IsNumberFault reason before left → IsCodeFault reason before left
  unknown : (code : ℕ) (spelling rest : List ℕ) → reason ≡ UnknownForm code → before ≡ [] → UnsignedLeb code spelling
      → left ≡ spelling ++ rest → IsUnknownForm code → IsCodeFault reason before left

-- a content type, or the form code after it
abbrev pub IsPairFault : Reason → List ℕ → List ℕ → Type 0
IsPairFault = FirstOf UnsignedLeb IsNumberFault (λ _. IsCodeFault)

abbrev pub IsPairsFault : ℕ → Reason → List ℕ → List ℕ → Type 0
IsPairsFault count = FirstOfSeveral count PairBytes IsPairFault

-- ---- entries

-- the value of a pair, after those of the pairs before it
pub data IsEntryFault (format : Format) (order : Order) (pairs : List Pair) (reason : Reason) (before left : List ℕ) : Type 0 where
  no_value : (done : List Pair) (pair : Pair) (past : List Pair) (values : List FormValue) → pairs ≡ done ++ pair ∷ past
      → ValuesBytes format order done values before
      → IsValueFault format order pair.form reason left → IsEntryFault format order pairs reason before left

abbrev pub IsEntriesFault : Format → Order → List Pair → ℕ → Reason → List ℕ → List ℕ → Type 0
IsEntriesFault format order pairs count = FirstOfSeveral count (EntryBytes format order pairs) (IsEntryFault format order pairs)

-- the number of entries: it can't be read, or there are some and the format has no pairs
pub data IsSizeFault (pairs : List Pair) (reason : Reason) (before left : List ℕ) : Type 0 where
  no_size : IsNumberFault reason before left → IsSizeFault pairs reason before left
  empty : (n : ℕ) (spelling rest : List ℕ) → reason ≡ EmptyFormat → before ≡ [] → pairs ≡ [] → UnsignedLeb n spelling
      → left ≡ spelling ++ rest → 0 < n → IsSizeFault pairs reason before left

-- ---- tables

-- the byte that counts the pairs
abbrev pub IsCountFault : Reason → List ℕ → List ℕ → Type 0
IsCountFault reason before left = (before ≡ []) × IsCutShort 1 reason left

-- after the pairs
abbrev pub AfterPairsFault : Format → Order → List Pair → Reason → List ℕ → List ℕ → Type 0
AfterPairsFault format order pairs = FirstOf UnsignedLeb (IsSizeFault pairs) (IsEntriesFault format order pairs)

-- after their count
abbrev pub AfterCountFault : Format → Order → ℕ → Reason → List ℕ → List ℕ → Type 0
AfterCountFault format order count = FirstOf (Several count PairBytes) (IsPairsFault count) (AfterPairsFault format order)

-- the count of the pairs, the pairs, the number of entries, the entries
abbrev pub IsTableFault : Format → Order → Reason → List ℕ → List ℕ → Type 0
IsTableFault format order = FirstOf (NumberBytes order 1) IsCountFault (AfterCountFault format order)
