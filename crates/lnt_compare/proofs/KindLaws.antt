-- What the lemmas of comparisons need of a kind of tables.
use Rattle.lnt_spans.specs.SpanKinds.{SpanKind, answer_held, last_end}
use Rattle.std.proofs.Common.{◌≡◌, ◌∙◌, List, [], ◌∷◌, ◌++◌, map, refl}
use Rattle.lnt_spans.specs.declared.answer.Answer.{Answer}
use Rattle.lnt_spans.specs.declared.answer.Version.{Version}
use Rattle.lnt_spans.specs.declared.position.Position.{Position}
use Rattle.lnt_spans.specs.declared.span.Span.{Span}
use Rattle.lnt_spans.specs.Answers.{in_version}
use Rattle.lnt_spans.specs.Spans.{end_of, AreInOrder, span_in_version, number_spans}
use Rattle.lnt_spans.specs.Merged.{answer_told}
use Rattle.lnt_spans.proofs.AnsweringLaws.{order_push, order_pushed}
use Rattle.lnt_spans.proofs.ToldLaws.{answer_as_told, made_answer, made_order, told, told_answer, told_order}
use Rattle.lnt_records.specs.PathSpans.{PathAnswer, path_spans}
use Rattle.lnt_records.proofs.NumberLaws.{numbered}
use Rattle.lnt_records.proofs.PathLaws.{pathed}
use Rattle.lnt_records.proofs.TableLaws.{FormatLaws}
use Rattle.lnt_compare.specs.Comparisons.{TableKind, tables_by_number}
use Rattle.lnt_compare.specs.Joining.{tell_span}
use Rattle.lnt_compare.specs.Outcomes.{tables_by_path}
use Rattle.lnt_compare.specs.Progress.{Comes}

-- What its format needs, and when one more span keeps the order.
pub record KindLaws {V X Y D : Type 0} (kind : TableKind V X Y D) : Type 0 where
  pub format : FormatLaws kind.format
  pub push : (table : List X) (span : X) → kind.format.InOrder table
      → Comes (last_end kind.spans table) (kind.spans.low span) (kind.spans.high span) → kind.format.InOrder (table ++ span ∷ [])
  pub pushed : (table : List X) (span : X) → kind.format.InOrder (table ++ span ∷ [])
      → Comes (last_end kind.spans table) (kind.spans.low span) (kind.spans.high span)

-- What lines tell of spans of a section is told so.
pub record ToldLaws {V X Y D : Type 0} (kind : TableKind V X Y D) (tell : Answer → Y) (told : Span → X) : Type 0 where
  pub order : (list : List Span) → AreInOrder list → kind.format.InOrder (map told list)
  pub answers : (list : List Span) (p : Position) → answer_held kind.spans (map told list) p ≡ answer_told tell list p
  pub ends : (list : List Span) → last_end kind.spans (map told list) ≡ end_of list

-- If each span is told with its own end, the list ends where it did.
end_mapped : {X Y : Type 0} (spans : SpanKind X Y) (told : Span → X) → ((span : Span) → spans.high (told span) ≡ span.high)
    → (list : List Span) → last_end spans (map told list) ≡ end_of list
end_mapped spans told same [] = refl
end_mapped spans told same (span ∷ []) = same span
end_mapped spans told same (span ∷ next ∷ list) = end_mapped spans told same (next ∷ list)

-- ---- by number

abbrev pub number_laws : KindLaws tables_by_number
number_laws = record {
  format = numbered;
  push = λ table span order comes. order_push number_spans table span order comes.past comes.holds;
  pushed = λ table span order.
      let comes = order_pushed number_spans table span order in record { past = comes.0; holds = comes.1 };
}

pub end_told : (version : Version) (table : List Span) → end_of (told version table) ≡ end_of table
end_told version table = end_mapped number_spans (span_in_version version) (λ span. refl) table

pub number_told : (version : Version) → ToldLaws tables_by_number (in_version version) (span_in_version version)
number_told version = record { order = told_order version; answers = told_answer version; ends = end_told version }

-- ---- by path

abbrev pub path_laws : KindLaws tables_by_path
path_laws = record {
  format = pathed;
  push = λ table span order comes. order_push path_spans table span order comes.past comes.holds;
  pushed = λ table span order.
      let comes = order_pushed path_spans table span order in record { past = comes.0; holds = comes.1 };
}

pub path_told : (tell : Answer → PathAnswer) → ToldLaws tables_by_path tell (tell_span tell)
path_told tell = record {
  order = made_order path_spans (tell_span tell);
  answers = λ list p. made_answer path_spans (tell_span tell) list p ∙ answer_as_told tell list p;
  ends = end_mapped path_spans (tell_span tell) (λ span. refl);
}
