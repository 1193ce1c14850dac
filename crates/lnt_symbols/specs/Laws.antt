-- What the laws of symbol files say.
use Rattle.std.specs.Prelude.{◌≡◌, ℕ, ◌-◌, ◌^◌, ◌<◌, List}
use Rattle.lnt_writing.specs.Canonical.{IsCanonicalPathTable}
use Rattle.lnt_records.specs.declared.path_records.version.PathVersion.TheVariants.{Four}
use Rattle.lnt_symbols.specs.SymbolTables.{Answers, answers_in_table}

-- Two files that answer alike at each address that a table can have are told by the same bytes.
abbrev pub OneTable : Type 0
OneTable = (f g : Answers) (x y : List ℕ) → ((a : ℕ) → a < 2 ^ 64 - 1 → f a ≡ g a)
    → IsCanonicalPathTable Four (answers_in_table f) x → IsCanonicalPathTable Four (answers_in_table g) y → x ≡ y
