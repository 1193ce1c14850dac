-- Records of a table by path, and record 0.
use Rattle.std.proofs.Common.{◌≡◌, ◌≢◌, ℕ, ◌≤◌, List, [], Option, length, get_or, sym, arith}
use Rattle.lnt_text.specs.Digits.{IsAddress, IsDecimal}
use Rattle.lnt_records.proofs.ColumnLemmas.{sound_more}
use Rattle.lnt_records.specs.Progress.{AreSoundBefore}
use Rattle.lnt_records.specs.Table.{Fields}
use Rattle.lnt_records.specs.declared.path_records.version.PathVersion.TheVariants.{Three, Four}
use Rattle.lnt_records.specs.PathTables.{SaysColumn, SaysPath, path_column_count, path_column_names, path_kinds, PathVersion}

-- ---- record 0

pub names_none : (fields : Fields) → fields ≢ path_column_names Three → fields ≢ path_column_names Four → (version : PathVersion)
    → fields ≢ path_column_names version
names_none fields h k Three = h
names_none fields h k Four = k

-- ---- a record

pub four_columns : (version : PathVersion) → 4 ≤ path_column_count version
four_columns Three = omega arith
four_columns Four = omega arith

pub path_is_sound : (fields : Fields) → AreSoundBefore path_kinds fields 2 → AreSoundBefore path_kinds fields 3
path_is_sound fields before = sound_more path_kinds fields 2 before tt

pub says_path : (version : PathVersion) (fields : Fields) (low high line : ℕ) (path : List ℕ) (column : Option ℕ)
    → length fields ≡ path_column_count version
    → IsAddress (get_or fields 0 []) low → IsAddress (get_or fields 1 []) high → path ≡ get_or fields 2 []
    → IsDecimal (get_or fields 3 []) line
    → SaysColumn IsDecimal version fields column
    → SaysPath IsAddress IsDecimal version fields low high (record { path = path; line = line; column = column })
says_path version fields low high line path column count l h p n c =
    record { count = count; low_is = l; high_is = h; path = sym p; line = n; column = c }

-- The lemmas of `record_of`.
pub ruleset record_of_lemmas = (four_columns, path_is_sound, says_path)
