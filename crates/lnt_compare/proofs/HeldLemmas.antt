-- The spans of a table by path are held one after another.
use Rattle.std.proofs.Common.{◌≡◌, ◌∙◌, ℕ, ◌-◌, List, [], ◌∷◌, ◌++◌, Some, ap, length, map, refl, subst, sym, arith}
use Rattle.std.proofs.lemmas.List.{map-append}
use Rattle.std.proofs.lemmas.Option.{slice_get_within}
use Rattle.std.specs.List.{slice_get}
use Rattle.lnt_text.specs.Digits.{IsAddress, IsDecimal}
use Rattle.lnt_records.specs.Table.{Fields}
use Rattle.lnt_compare.specs.Outcomes.{tables_by_path}
use Rattle.lnt_compare.specs.Progress.{Comes}
use Rattle.lnt_compare.proofs.ComparisonLemmas.{table_more}
use Rattle.lnt_compare.proofs.KindLaws.{path_laws}
use Rattle.lnt_records.proofs.PathLaws.{says_span}
use Rattle.lnt_records.proofs.TableLaws.{table_order}
use Rattle.lnt_compare.specs.declared.path_tables.answer.AnswerByPath.{AnswerByPath}
use Rattle.lnt_compare.specs.declared.path_tables.held.HeldSpan.{HeldSpan}
use Rattle.lnt_records.specs.declared.path_records.record.PathRecord.{PathRecord}
use Rattle.lnt_records.specs.declared.path_records.version.PathVersion.{PathVersion}
use Rattle.lnt_compare.specs.Held.{held_span}
use Rattle.lnt_records.specs.PathSpans.{PathSpan, StandInOrder, path_end, whole, PathAnswer}
use Rattle.lnt_compare.specs.PathStretches.{told_path_answer}
use Rattle.lnt_records.specs.PathTables.{IsPathTable, SaysPath, by_path, path_column_names, record_answer, record_span}

-- ---- where spans end

last_at : (first : HeldSpan) (spans : List HeldSpan) (last : HeldSpan) → slice_get (first ∷ spans) (length spans) ≡ Some last
    → whole last.high ≡ path_end (map held_span (first ∷ spans))
last_at first [] last e = cc
last_at first (next ∷ spans) last e = last_at next spans last e

pub end_last : (spans : List HeldSpan) (last : HeldSpan) → slice_get spans (length spans - 1) ≡ Some last
    → whole last.high ≡ path_end (map held_span spans)
end_last [] last e = absurd (let inside = slice_get_within [] 0 last e in omega (arith, inside))
end_last (first ∷ spans) last e =
    let place : length (first ∷ spans) - 1 ≡ length spans = omega arith in
    last_at first spans last (subst (λ (k : ℕ). slice_get (first ∷ spans) k ≡ Some last) place e)

-- ---- one more record

pub record_held : (version : PathVersion) (records : List Fields) (fields : Fields) (spans new : List HeldSpan) (said : PathRecord)
    (answer : AnswerByPath) → IsPathTable version records (map held_span spans)
    → SaysPath IsAddress IsDecimal version fields said.low said.high (record_answer said)
    → Comes (path_end (map held_span spans)) (whole said.low) (whole said.high) → told_path_answer answer ≡ record_answer said
    → new ≡ spans ++ record { low = said.low; high = said.high; answer = answer } ∷ []
    → IsPathTable version (records ++ fields ∷ []) (map held_span new)
record_held version records fields spans new said answer table says comes told pushed =
    let span : HeldSpan = record { low = said.low; high = said.high; answer = answer } in
    let same : held_span span ≡ record_span said =
    ap (λ (a : PathAnswer). record { low = whole said.low; high = whole said.high; answer = a }) told in
    let items : map held_span new ≡ map held_span spans ++ record_span said ∷ [] =
    ap (map held_span) pushed ∙ map-append held_span spans (span ∷ [])
    ∙ ap (λ (s : PathSpan). map held_span spans ++ s ∷ []) same in
    subst (λ (t : List PathSpan). IsPathTable version (records ++ fields ∷ []) t) (sym items)
    (table_more tables_by_path path_laws version records (map held_span spans) fields (record_span said) table
    (says_span version fields said says) comes)

-- ---- a whole table

pub held_none : (version : PathVersion) (spans : List HeldSpan) → spans ≡ []
    → IsPathTable version (path_column_names version ∷ []) (map held_span spans)
held_none version spans none = rw none (refl, record { each = tt; in_order = tt })

pub table_in_order : (version : PathVersion) (records : List Fields) (spans : List HeldSpan)
    → IsPathTable version records (map held_span spans) → StandInOrder (map held_span spans)
table_in_order version records spans t = table_order by_path version records (map held_span spans) t
