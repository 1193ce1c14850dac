-- The line of a span is passed, by number and by path.
use Rattle.std.proofs.Common.{◌≡◌, ◌∙◌, ℕ, Bool, true, false, List, [], ◌∷◌, ◌++◌, ap, append-nil, subst, MatchBool}
use Rattle.lnt_spans.specs.declared.answer.Answer.{Answer}
use Rattle.lnt_spans.specs.declared.answer.Version.{Version}
use Rattle.lnt_spans.specs.declared.span.Span.{Span}
use Rattle.lnt_spans.specs.Answers.{in_version}
use Rattle.lnt_spans.specs.Spans.{IsOfInstructions, span_in_version}
use Rattle.lnt_records.specs.declared.path_records.version.PathVersion.{PathVersion}
use Rattle.lnt_records.specs.Lines.{IsTextLine}
use Rattle.lnt_records.specs.declared.path_records.record.PathRecord.{PathRecord}
use Rattle.lnt_records.specs.PathSpans.{PathAnswer, PathSpan, whole}
use Rattle.lnt_records.specs.PathLines.{IsPathLine, IsSpanLine, plain_by_path}
use Rattle.lnt_records.specs.PathTables.{by_path, record_answer, record_span}
use Rattle.lnt_records.specs.Table.{Fields, by_number}
use Rattle.lnt_records.specs.Written.{IsOfVersion, line_text, plain_by_number}
use Rattle.lnt_records.proofs.LineLaws.{line_some, row_some}
use Rattle.lnt_records.proofs.PathLaws.{says_span}
use Rattle.lnt_records.proofs.PathLineLaws.{plain_paths}
use Rattle.lnt_compare.specs.declared.path_tables.answer.DifferenceByPath.{DifferenceByPath}
use Rattle.lnt_compare.specs.Joining.{tell_span}
use Rattle.lnt_compare.specs.Outcomes.{tables_by_path}
use Rattle.lnt_compare.specs.Passing.{IsLineIn}
use Rattle.lnt_compare.specs.PathStretches.{stretch_of}
use Rattle.lnt_compare.specs.Progress.{HasPushed, Judges, Comparison}
use Rattle.lnt_compare.proofs.ComparisonLemmas.{record_taken}
use Rattle.lnt_compare.proofs.KindLaws.{path_laws}

-- ---- by number

pub line_passed : (r : Bool) (version : Version) (span : Span) (line old new : List ℕ) → MatchBool r (old ≡ line ++ new) (new ≡ old)
    → IsTextLine version span line [] → IsOfVersion version span.answer
    → MatchBool r (IsTextLine version span old new × IsOfVersion version span.answer) (new ≡ old)
line_passed true version span line old new e l is = (
  record {
    fields = l.fields;
    joined = e ∙ ap (λ (t : List ℕ). t ++ new) (l.joined ∙ append-nil (line_text l.fields));
    says = l.says;
  },
  is,
)
line_passed false version span line old new e l is = e

pub number_line : (r : Bool) (version : Version) (span narrow : Span) (old new : List ℕ) → narrow ≡ span_in_version version span
    → MatchBool r (IsTextLine version narrow old new × IsOfVersion version narrow.answer) (new ≡ old)
    → MatchBool r (IsLineIn by_number plain_by_number version (span_in_version version span) old new
    × IsOfVersion version (in_version version span.answer)) (new ≡ old)
number_line true version span narrow old new e h =
    let line : IsTextLine version (span_in_version version span) old new =
    subst (λ (s : Span). IsTextLine version s old new) e h.0 in (
      record { fields = line.fields; joined = line.joined; some = line_some line.fields; says = line.says },
      subst (λ (s : Span). IsOfVersion version s.answer) e h.1,
    )
number_line false version span narrow old new e h = h

-- ---- by path

pub path_line : (r : Bool) (tell : Answer → PathAnswer) (version : PathVersion) (span : Span) (old new : List ℕ)
    → MatchBool r (IsSpanLine tell version span old new × IsOfInstructions span) (new ≡ old)
    → MatchBool r (IsLineIn by_path plain_by_path version (tell_span tell span) old new × IsOfInstructions span) (new ≡ old)
path_line true tell version span old new h = (
  record {
    fields = h.0.fields;
    joined = h.0.joined;
    some = row_some h.0.fields;
    says = plain_paths.says version h.0.fields (tell_span tell span) (record { says = h.0.says; low_op = h.1.0; high_op = h.1.1 });
  },
  h.1,
)
path_line false tell version span old new h = h

-- a line that was parsed, and its record compared
pub path_taken : {S M : Type 0} (to_come : S → List Span → Type 0) (tell : Answer → PathAnswer) (version : PathVersion)
    (old new : Comparison S DifferenceByPath M) (said : PathRecord) (bytes rest : List ℕ) → IsPathLine version said bytes rest
    → HasPushed to_come tell stretch_of old new (whole said.low) (whole said.high) (record_answer said)
    → (span : PathSpan) × (line : IsLineIn by_path plain_by_path version span bytes rest)
    × ((section : List Span) (passed : List Fields) → Judges to_come tables_by_path tell version old section passed
    → Judges to_come tables_by_path tell version new section (passed ++ line.fields ∷ []))
path_taken to_come tell version old new said bytes rest line push =
    let says = says_span version line.fields said line.says in (
      record_span said,
      record { fields = line.fields; joined = line.joined; some = row_some line.fields; says = says },
      λ section passed j. record_taken to_come tables_by_path path_laws tell version old new section passed line.fields
          (record_span said) j says push,
    )
