-- The parts of a line of a table by path, as they are parsed.
use Rattle.std.proofs.Common.{◌≡◌, ◌∙◌, ℕ, ◌+◌, ◌<◌, List, ◌∷◌, ◌++◌, Option, length, get_or, drop, take, sym, ap, All}
use Rattle.std.proofs.lemmas.List.{drop-drop, drop_more, take-append-drop}
use Rattle.std.proofs.lemmas.List.Elements.{recursion_from_All}
use Rattle.csv.specs.Writing.{default_writer, field_text}
use Rattle.lnt_text.specs.Digits.{IsAddress, IsDecimal, Begins}
use Rattle.lnt_records.proofs.QuotingLaws.{address_text, number_text, quiet_text}
use Rattle.lnt_records.specs.declared.path_records.version.PathVersion.{PathVersion}
use Rattle.lnt_records.specs.PathLines.{IsLineOf, IsPathBefore, IsPlace, IsPlainByte}
use Rattle.lnt_records.proofs.PathLineLaws.{line_taken, quiet_by_recursion}

-- ---- parts of a line

path_quiet : (path : List ℕ) → All IsPlainByte path → field_text default_writer path ≡ path
path_quiet path h = quiet_text path (quiet_by_recursion path (recursion_from_All IsPlainByte path h))

-- the path of the line before is here again
pub path_again : (table path rest : List ℕ) (at next : ℕ) → rest ≡ drop at table → rest ≡ path ++ drop (length path) rest
    → drop (at + length path) table ≡ 44 ∷ drop next table → All IsPlainByte path → IsPathBefore path (drop at table) (drop next table)
path_again table path rest at next e f g plain = record {
  joined =
      sym e ∙ f ∙ ap (λ (t : List ℕ). path ++ drop (length path) t) e ∙ ap (λ (t : List ℕ). path ++ t) (drop-drop (length path) at table)
      ∙ ap (λ (t : List ℕ). path ++ t) g;
  plain = plain;
}

-- a field of i bytes, and a comma
pub path_found : (text : List ℕ) (i : ℕ) → i < length text → All IsPlainByte (take i text) → get_or text i 0 ≡ 44
    → IsPathBefore (take i text) text (drop (i + 1) text)
path_found text i lt plain comma = record {
  joined =
      sym (take-append-drop i text) ∙ ap (λ (t : List ℕ). take i text ++ t) (drop_more text i 0 lt)
      ∙ ap (λ (c : ℕ). take i text ++ c ∷ drop (i + 1) text) comma;
  plain = plain;
}

-- the same from an index on
pub path_at : (table path rest : List ℕ) (at more : ℕ) → rest ≡ drop at table → IsPathBefore path rest (drop more rest)
    → IsPathBefore path (drop at table) (drop (at + more) table)
path_at table path rest at more e b = record {
  joined =
      sym e ∙ b.joined ∙ ap (λ (t : List ℕ). path ++ 44 ∷ drop more t) e
      ∙ ap (λ (t : List ℕ). path ++ 44 ∷ t) (drop-drop more at table);
  plain = b.plain;
}

-- ---- a line

pub record_line : (version : PathVersion) (low high line : ℕ) (path : List ℕ) (column : Option ℕ) (s0 s1 s2 s3 s4 : List ℕ)
    → Begins IsAddress s0 low 44 s1 → Begins IsAddress s1 high 44 s2 → IsPathBefore path s2 s3 → IsPlace IsDecimal version line column s3 s4
    → IsLineOf IsAddress IsDecimal version low high (record { path = path; line = line; column = column }) s0 s4
record_line version low high line path column s0 s1 s2 s3 s4 from to file place =
    line_taken IsAddress IsDecimal address_text number_text version low high (record { path = path; line = line; column = column }) s0 s1 s2
    s3 s4 from to (file.joined ∙ ap (λ (t : List ℕ). t ++ 44 ∷ s3) (sym (path_quiet path file.plain))) place
