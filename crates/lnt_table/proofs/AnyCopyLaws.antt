-- Laws of tables that may answer as any of the sequences that hold a position.
use Rattle.std.proofs.Common.{◌≡◌, ◌∙◌, ℕ, List, Option, Some, None, inl, inr, ap, refl, sym, subst, option_map}
use Rattle.lnt_header.specs.declared.unit_parts.UnitParts.{UnitParts}
use Rattle.lnt_spans.specs.declared.answer.Answer.{Answer}
use Rattle.lnt_spans.specs.declared.position.Position.{Position}
use Rattle.lnt_spans.specs.Partial.{IsRightAt}
use Rattle.lnt_sequences.specs.Copies.{IsAnyAnswer}
use Rattle.lnt_sequences.specs.Rules.{AreApart}
use Rattle.lnt_sequences.specs.Sequences.{line_answer, live_sequences, Selection}
use Rattle.lnt_sequences.proofs.AnyLemmas.{any_answers, any_as_kept}
use Rattle.lnt_records.specs.declared.path_records.version.PathVersion.{PathVersion}
use Rattle.lnt_records.specs.PathSpans.{path_answer, PathAnswer}
use Rattle.lnt_spans.specs.Answers.{in_version}
use Rattle.lnt_lines.specs.declared.options.Options.{Options}
use Rattle.lnt_lines.specs.Good.{selected}
use Rattle.lnt_table.specs.AnyCopy.{any_paths, IsRightIn, skipping}
use Rattle.lnt_table.specs.AnyVersion.{told_paths}
use Rattle.lnt_spans.specs.declared.scope.Scope.TheVariants.{All, Answered}
use Rattle.lnt_table.specs.Headline.{path_at}
use Rattle.lnt_table.specs.Laws.{AnyIsKept, KeptIsAny}

module _ {X : Type 0} (tell : Answer → X) (selection : Selection) (g : Position → Option X) where
  everywhere : ((p : Position) → option_map tell (line_answer selection p) ≡ g p) → (p : Position)
      → IsRightIn All (IsAnyAnswer tell selection) g p
  everywhere same p = subst (IsAnyAnswer tell selection p) (same p) (any_as_kept tell selection p)

  wherever : ((p : Position) → IsRightAt g (λ p. option_map tell (line_answer selection p)) p) → (p : Position)
      → IsRightIn Answered (IsAnyAnswer tell selection) g p
  wherever right p = elim (right p) [
    | inl none ↦ inl none
    | inr same ↦ inr (subst (IsAnyAnswer tell selection p) (sym same) (any_as_kept tell selection p))
  ]

  -- without copies there is one answer
  one_answer : (p : Position) (said : Option X) → AreApart (live_sequences selection.dead selection.units)
      → IsAnyAnswer tell selection p said → said ≡ option_map tell (line_answer selection p)
  one_answer p None apart unheld = sym (ap (option_map tell) (any_answers.none selection p unheld))
  one_answer p (Some told) apart (answer, is, same) =
      ap (λ (x : X). Some x) (sym same) ∙ sym (ap (option_map tell) (any_answers.alone selection p answer apart is))

by_paths : (line general : List ℕ) (options : Options) (units : List (ℕ × UnitParts)) (version : PathVersion)
    (g : Position → Option PathAnswer)
    → ((p : Position) → IsRightAt g (told_paths line general (skipping options) units version) p) → (p : Position)
    → IsRightIn Answered (any_paths line general (skipping options) units version) g p
by_paths line general options units version g right =
    wherever (path_answer version (path_at line general units)) (selected (skipping options) units) g right

pub kept_is_any : KeptIsAny
kept_is_any = record {
  numbered = λ line general options section table h.
      let rows = selected (skipping options) h.0.units in (
        refl,
        record {
          units = h.0.units;
          good = h.0.good;
          so = record {
            version = h.0.so.version;
            table = h.0.so.table;
            is_table = h.0.so.is_table;
            so = everywhere (in_version h.0.so.version) rows _ h.0.so.so;
          };
        },
      );
  by_path = λ line general options section table h.
      let rows = selected (skipping options) h.1.units in (
        refl,
        h.0,
        record {
          units = h.1.units;
          good = h.1.good;
          so = record {
            version = h.1.so.version;
            table = h.1.so.table;
            is_table = h.1.so.is_table;
            so = everywhere (path_answer h.1.so.version (path_at line general h.1.units)) rows _ h.1.so.so;
          };
        },
      );
  covered = λ line general options section table coverage h. elim h [
    | inl good ↦ (
      refl,
      inl (record {
        units = good.units;
        good = good.good;
        so = record {
          version = good.so.version;
          table = good.so.table;
          is_table = good.so.is_table;
          so = (wherever (in_version good.so.version) (selected (skipping options) good.units) _ good.so.so.0, good.so.so.1);
        };
      }),
    )
    | inr (other, good) ↦ (
      refl,
      inr (
        other,
        record {
          units = good.units;
          good = good.good;
          so = record {
            version = good.so.version;
            table = good.so.table;
            is_table = good.so.is_table;
            so = (
              by_paths line general options good.units good.so.version _ good.so.so.0,
              good.so.so.1,
            );
          };
        },
      ),
    )
  ];
}

pub any_is_kept : AnyIsKept
any_is_kept = record {
  numbered = λ version selection p said apart is. one_answer (in_version version) selection (λ p. None) p said apart is;
  by_path = λ version path selection p said apart is. one_answer (path_answer version path) selection (λ p. None) p said apart is;
}
