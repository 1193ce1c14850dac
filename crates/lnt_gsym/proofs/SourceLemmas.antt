-- A source of spans, step by step.
use Rattle.std.proofs.Common.{◌≡◌, ◌∙◌, ℕ, ◌^◌, ◌<◌, ◌≤◌, List, [], ◌∷◌, ◌++◌, refl, sym, ap, arith, Option, Some}
use Rattle.std.proofs.Common.{None, subst}
use Rattle.lnt_spans.specs.declared.span.Span.{Span}
use Rattle.lnt_spans.specs.Remaining.{GivesFirstSpan}
use Rattle.lnt_gsym.specs.GsymFiles.{Gsym}
use Rattle.lnt_gsym.specs.GsymInfos.{Function, Row}
use Rattle.lnt_gsym.specs.GsymSpans.{row_spans, spans_from, tells}
use Rattle.lnt_gsym.specs.Spanning.{AreToCome, count_to_come, FunctionsLeft, IsOpenedPart, openings}
use Rattle.lnt_gsym.specs.Walking.{AreLeft, count_left, GivesPart, MadeSaid, named}
use Rattle.lnt_gsym.specs.declared.spans.Above.{Above}
use Rattle.lnt_gsym.specs.declared.spans.Functions.{Functions}
use Rattle.lnt_gsym.specs.declared.spans.GsymSpans.{GsymSpans}
use Rattle.lnt_gsym.specs.declared.spans.Part.{Part}

-- the source after rows of its part
abbrev pub with_rows : GsymSpans → MadeSaid → GsymSpans
with_rows s rows = record {
  functions = s.functions;
  names = s.names;
  above = s.above;
  covered = s.covered;
  part = record { low = s.part.low; high = s.part.high; rows = rows };
}

-- the source after it opened a function
abbrev pub with_part : GsymSpans → Functions → Option Above → ℕ → Part → GsymSpans
with_part s functions above covered part =
    record { functions = functions; names = s.names; above = above; covered = covered; part = part }

-- ---- one span

gives_first : (left : List Span → Type 0) (spans rest : List Span) (span : Span) → spans ≡ span ∷ rest → left rest
    → GivesFirstSpan left spans (Some span)
gives_first left spans rest span e h = subst (λ (ss : List Span). GivesFirstSpan left ss (Some span)) (sym e) (refl, h)

given : (s : GsymSpans) (rows : MadeSaid) (span : Span)
    → ((files : ℕ) (made : List Row) → AreLeft files s.part.rows made
    → GivesPart (tells (named s.names.now)) files s.part.low s.part.high made rows (Some span))
    → (spans : List Span) → AreToCome s spans → GivesFirstSpan (AreToCome (with_rows s rows)) spans (Some span)
given s rows span gives spans coming =
    let next = gives coming.files coming.rows coming.left in
    let g : Gsym = named s.names.now in
    let more : List Span = row_spans (tells g) s.part.low s.part.high next.0 ++ spans_from g s.covered coming.fs in
    let first : spans ≡ span ∷ more = coming.are ∙ ap (λ ss. ss ++ spans_from g s.covered coming.fs) next.1 in
    gives_first (AreToCome (with_rows s rows)) spans more span first (record {
      files = coming.files;
      rows = next.0;
      fs = coming.fs;
      left = next.2;
      functions_left = coming.functions_left;
      are = refl;
    })

-- ---- the next function

-- the rows of the part have no more spans
abbrev pub IsOver : GsymSpans → Type 0
IsOver s = (files : ℕ) (made : List Row) → AreLeft files s.part.rows made
    → row_spans (tells (named s.names.now)) s.part.low s.part.high made ≡ []

moves : (s : GsymSpans) (functions : Functions) (above : Option Above) (covered : ℕ) (part : Part) → IsOver s
    → ((gsym : Gsym) (files : ℕ) (fs : List Function) → FunctionsLeft files s.functions s.above fs
    → IsOpenedPart gsym files functions above s.covered covered part fs)
    → (spans : List Span) → AreToCome s spans → AreToCome (with_part s functions above covered part) spans
moves s functions above covered part over opens spans coming =
    let g : Gsym = named s.names.now in
    let opened = opens g coming.files coming.fs coming.functions_left in
    record {
      files = coming.files;
      rows = opened.made;
      fs = opened.later;
      left = opened.left;
      functions_left = opened.functions_left;
      are = coming.are ∙ (ap (λ ss. ss ++ spans_from g s.covered coming.fs) (over coming.files coming.rows coming.left) ∙ opened.spans);
    }

ends : (s : GsymSpans) → IsOver s → ((files : ℕ) (fs : List Function) → FunctionsLeft files s.functions s.above fs → fs ≡ [])
    → (spans : List Span) → AreToCome s spans → spans ≡ []
ends s over none spans coming =
    let g : Gsym = named s.names.now in
    coming.are ∙ (ap (λ ss. ss ++ spans_from g s.covered coming.fs) (over coming.files coming.rows coming.left)
    ∙ ap (spans_from g s.covered) (none coming.files coming.fs coming.functions_left))

-- ---- the loop

-- What was to come is to come.
pub record SourceSoFar (old at : GsymSpans) : Type 0 where
  pub stay : (spans : List Span) → AreToCome old spans → AreToCome at spans
  pub fewer : count_to_come at ≤ count_to_come old

pub none_moved : (s : GsymSpans) → SourceSoFar s s
none_moved s = record { stay = λ spans coming. coming; fewer = omega arith }

pub one_moved : (old s : GsymSpans) (functions : Functions) (above : Option Above) (covered : ℕ) (part : Part) → SourceSoFar old s
    → IsOver s
    → ((gsym : Gsym) (files : ℕ) (fs : List Function) → FunctionsLeft files s.functions s.above fs
    → IsOpenedPart gsym files functions above s.covered covered part fs)
    → openings covered functions.entries.starts < openings s.covered s.functions.entries.starts → count_left part.rows ≤ 2 ^ 64
    → SourceSoFar old (with_part s functions above covered part)
one_moved old s functions above covered part so over opens lt bound = record {
  stay = λ spans coming. moves s functions above covered part over opens spans (so.stay spans coming);
  fewer = omega (arith, so.fewer, lt, bound);
}

pub moved_fewer : (s : GsymSpans) (functions : Functions) (above : Option Above) (covered : ℕ) (part : Part)
    → openings covered functions.entries.starts < openings s.covered s.functions.entries.starts → count_left part.rows ≤ 2 ^ 64
    → count_to_come (with_part s functions above covered part) < count_to_come s
moved_fewer s functions above covered part lt bound = omega (arith, lt, bound)

pub one_given : (old s : GsymSpans) (rows : MadeSaid) (span : Span) → SourceSoFar old s
    → ((files : ℕ) (made : List Row) → AreLeft files s.part.rows made
    → GivesPart (tells (named s.names.now)) files s.part.low s.part.high made rows (Some span))
    → (spans : List Span) → AreToCome old spans → GivesFirstSpan (AreToCome (with_rows s rows)) spans (Some span)
one_given old s rows span so gives spans coming = given s rows span gives spans (so.stay spans coming)

pub given_fewer : (old s : GsymSpans) (rows : MadeSaid) → SourceSoFar old s → count_left rows < count_left s.part.rows
    → count_to_come (with_rows s rows) < count_to_come old
given_fewer old s rows so lt = omega (arith, so.fewer, lt)

pub all_given : (old s new : GsymSpans) → SourceSoFar old s → IsOver s
    → ((gsym : Gsym) (files : ℕ) (fs : List Function) → FunctionsLeft files s.functions s.above fs → fs ≡ [])
    → (spans : List Span) → AreToCome old spans → GivesFirstSpan (AreToCome new) spans None
all_given old s new so over none spans coming =
    let nothing : spans ≡ [] = ends s over (none (named s.names.now)) spans (so.stay spans coming) in
    subst (λ (ss : List Span). GivesFirstSpan (AreToCome new) ss None) (sym nothing) tt
