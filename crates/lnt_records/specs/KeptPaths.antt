-- What is remembered of paths that were compared.
use Rattle.std.specs.Prelude.{◌≡◌, ◌≢◌, ◌+◌, ◌*◌, ◌%◌, ◌^◌, ℕ, nat_le, List, Option, length, if◌then◌else◌, IfSome, MatchBool, All}
use Rattle.std.specs.List.{fold}
use Rattle.std.specs.BTreeMap.{BTreeMap, get}
use Rattle.std.specs.Ordering.{nat_cmp}
use Rattle.lnt_records.specs.declared.path_records.kept.FileText.{FileText}
use Rattle.lnt_records.specs.declared.path_records.kept.FileTexts.{FileTexts}
use Rattle.lnt_records.specs.declared.path_records.alike.ComparedFiles.{ComparedFiles}
use Rattle.lnt_records.specs.declared.path_records.summed.SummedFile.{SummedFile}
use Rattle.lnt_records.specs.declared.path_records.told.ToldFile.{ToldFile}

-- For each file in a slot, it is remembered correctly whether its path is this one.
abbrev pub AreTold : (ℕ → ℕ → List ℕ) → List ℕ → List (Option ToldFile) → Type 0
AreTold path target slots = All (λ slot. IfSome slot (λ told.
    MatchBool told.same (path told.unit told.file ≡ target) (path told.unit told.file ≢ target))) slots

-- The kept text is that of its file.
abbrev pub IsTextOf : (ℕ → ℕ → List ℕ) → FileText → Type 0
IsTextOf text_of kept = kept.text.items ≡ text_of kept.unit kept.file

-- Every kept text is.
pub record AreTextsOf (text_of : ℕ → ℕ → List ℕ) (texts : FileTexts) : Type 0 where
  pub slots : All (λ slot. IfSome slot (IsTextOf text_of)) texts.slots.items
  pub long : IfSome texts.long (IsTextOf text_of)

-- For the two files in each slot, it is remembered correctly whether their paths are the same.
abbrev pub ArePairsOf : (ℕ → ℕ → List ℕ) → List (Option ComparedFiles) → Type 0
ArePairsOf path slots = All (λ slot. IfSome slot (λ pair. MatchBool pair.same
    (path pair.one.unit pair.one.file ≡ path pair.other.unit pair.other.file)
    (path pair.one.unit pair.one.file ≢ path pair.other.unit pair.other.file))) slots

-- the sum of a text, when one more byte comes
abbrev pub more_sum : ℕ → ℕ → ℕ
more_sum sum byte = ((sum * 1099511628211) % 2 ^ 64 + byte) % 2 ^ 64

-- the sum of a text: 0 of a short one, and of a long one a number that few others have
abbrev pub text_sum : List ℕ → ℕ
text_sum text = if nat_le (length text) 256 then 0 else fold more_sum 0 text

-- This is the sum of the text of a file, and another file has the same text.
pub record IsSummed (text_of : ℕ → ℕ → List ℕ) (summed : SummedFile) : Type 0 where
  pub sum : summed.sum ≡ text_sum (text_of summed.file.unit summed.file.file)
  pub first : text_of summed.first.unit summed.first.file ≡ text_of summed.file.unit summed.file.file

-- That is so of each file in the tree.
abbrev pub AreSummed : (ℕ → ℕ → List ℕ) → BTreeMap ℕ SummedFile → Type 0
AreSummed text_of tree = (number : ℕ) → IfSome (get nat_cmp tree number) (IsSummed text_of)
