-- Tables by path that are right wherever they answer, and answer all of a section's addresses.
use Rattle.std.proofs.Common.{◌∙◌, ℕ, List, [], ◌∷◌, option_map, inl, inr, refl, sym, ap}
use Rattle.std.specs.List.{AllByRecursion, AllZip}
use Rattle.lnt_spans.specs.declared.answer.Answer.{Answer}
use Rattle.lnt_spans.specs.Laws.{AnswersAddresses, ChangesAtInstructions}
use Rattle.lnt_spans.specs.Partial.{whole}
use Rattle.lnt_spans.specs.SpanKinds.{answer_held}
use Rattle.lnt_spans.specs.declared.span.Span.{Span}
use Rattle.lnt_spans.proofs.CountLemmas.{fitting_spans, instruction_spans, kind_spans}
use Rattle.lnt_spans.proofs.PartialLemmas.{all_answered}
use Rattle.lnt_sequences.specs.Sequences.{Selection, line_answer}
use Rattle.lnt_records.specs.PathSpans.{PathSpan, path_spans}
use Rattle.lnt_records.specs.PathTables.{IsPathRecord, by_path}
use Rattle.lnt_records.specs.Table.{Fields, IsTableIn, IsTableOfIn, by_number}
use Rattle.lnt_records.specs.declared.path_records.version.PathVersion.{PathVersion}
use Rattle.lnt_records.proofs.BeginningLaws.{table_begins}
use Rattle.lnt_compare.specs.PathStretches.{IsPathSpanOfInstructions}
use Rattle.lnt_lines.specs.Good.{selected}
use Rattle.lnt_table.specs.AnyVersion.{told_paths}
use Rattle.lnt_table.specs.Laws.{AreOfInstructions, CoveredIsYes}

-- ---- the table

each_of_instructions : (version : PathVersion) (records : List Fields) (spans : List PathSpan)
    → AllZip (IsPathRecord version) records spans → AllByRecursion IsPathSpanOfInstructions spans
each_of_instructions version [] [] each = tt
each_of_instructions version (fields ∷ records) (span ∷ spans) each =
    ((each.0.low_op, each.0.high_op), each_of_instructions version records spans each.1)
each_of_instructions version _ _ each = absurd each

in_records : (version : PathVersion) (records : List Fields) (spans : List PathSpan) → IsTableIn by_path version records spans
    → AllByRecursion IsPathSpanOfInstructions spans
in_records version [] spans is = absurd is
in_records version (first ∷ records) spans is = each_of_instructions version records spans is.1.each

table_changes : (version : PathVersion) (bytes : List ℕ) (spans : List PathSpan) → IsTableOfIn by_path version bytes spans
    → ChangesAtInstructions (answer_held path_spans spans)
table_changes version bytes spans is = kind_spans path_spans spans (in_records version is.0 spans is.2)

-- ---- the section

module _ {X : Type 0} (tell : Answer → X) (selection : Selection) (spans : List Span) (h : AreOfInstructions selection spans) where
  section_changes : ChangesAtInstructions (λ p. option_map tell (line_answer selection p))
  section_changes p =
      ap (option_map tell) (sym (h.answers p) ∙ instruction_spans spans h.each p ∙ h.answers (whole p.address))

  section_ends : AnswersAddresses (λ p. option_map tell (line_answer selection p))
  section_ends p l = ap (option_map tell) (sym (h.answers p) ∙ fitting_spans spans h.fits p l)

-- ---- both

pub covered_is_yes : CoveredIsYes
covered_is_yes line general options section table all un made (inl h) =
    absurd (un h.so.version (table_begins by_number table h.so.version h.so.table h.so.is_table))
covered_is_yes line general options section table all un made (inr h) =
    let of = made h.1.units h.1.good in
    let selection = selected options h.1.units in (
      un,
      record {
        units = h.1.units;
        good = h.1.good;
        so = record {
          version = h.1.so.version;
          table = h.1.so.table;
          is_table = h.1.so.is_table;
          so =
              all_answered (answer_held path_spans h.1.so.table) (told_paths line general options h.1.units h.1.so.version) all all
              h.1.so.so.0 h.1.so.so.1 refl (table_changes h.1.so.version table h.1.so.table h.1.so.is_table)
              (section_changes _ selection of.0 of.1) (section_ends _ selection of.0 of.1);
        };
      },
    )
