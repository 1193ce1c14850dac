-- Tables of canonical spans whose writing was stopped.
use Rattle.std.proofs.Common.{◌≡◌, ◌∙◌, ℕ, List, Option, sym, subst}
use Rattle.lnt_spans.specs.declared.answer.Version.{Version}
use Rattle.lnt_spans.specs.declared.position.Position.{Position}
use Rattle.lnt_spans.specs.declared.span.Span.{Span}
use Rattle.lnt_spans.proofs.CanonicalLaws.{one_number_list}
use Rattle.lnt_spans.specs.Spans.{IsCanonical, span_answer, version_answer}
use Rattle.lnt_writing.specs.Canonical.{BeginsCanonicalTable}
use Rattle.lnt_records.specs.Written.{BeginsTable, IsPlainTable}

-- Canonical spans that answer so are one list, so every table of them begins with what was appended.
pub canonical_begins : (version : Version) (list spans : List Span) (old new : Option (List ℕ))
    → IsCanonical spans × ((p : Position) → span_answer spans p ≡ version_answer version list p)
    → BeginsTable version spans old new → BeginsCanonicalTable version list old new
canonical_begins version list spans old new all begun = record {
  spans = spans;
  canonical = all.0;
  same = all.1;
  begun = begun;
  of_whole = λ bytes table.
      let one : table.spans ≡ spans = one_number_list table.spans spans table.canonical all.0 (λ p. table.same p ∙ sym (all.1 p)) in
      begun.of_whole bytes (subst (IsPlainTable version bytes) one table.written.plain);
}
