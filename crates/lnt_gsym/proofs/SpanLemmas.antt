-- The spans of a file, one after another.
use Rattle.std.proofs.Common.{◌≡◌, ◌∙◌, ℕ, ◌<◌, ◌≤◌, Bool, true, false, List, [], ◌∷◌, ◌++◌}
use Rattle.std.proofs.Common.{refl, sym, ap, arith, Option, Some, None}
use Rattle.std.specs.Prelude.{◌&&◌, nat_lt}
use Rattle.lnt_spans.specs.declared.span.Span.{Span}
use Rattle.lnt_gsym.specs.GsymInfos.{Row}
use Rattle.lnt_gsym.specs.GsymSpans.{more, row_part, row_span, row_spans, up_to}
use Rattle.lnt_gsym.specs.Walking.{AreLeft, begins_by, count_left, GivesPart, LeftBy, MadeSaid, TakesRow}

-- ---- the rows of a part

-- where the row that was made begins is where the rows begin
begins_is : (files high : ℕ) (said : MadeSaid) (rows : List Row) → AreLeft files said rows → begins_by high said.row ≡ up_to high rows
begins_is files high said rows left = by said.row left
  where
    by : (row : Option Row) → LeftBy files said.numbers said.at row rows → begins_by high row ≡ up_to high rows
    by None none = ap (up_to high) (sym none)
    by (Some row) some = ap (up_to high) (sym some.1)

-- The rows that are left have the same spans.
pub record SkippedSoFar (tells : Row → Bool) (low high : ℕ) (old at : MadeSaid) : Type 0 where
  pub so : (files : ℕ) (rows : List Row) → AreLeft files old rows
      → (rest : List Row) × AreLeft files at rest × (row_spans tells low high rows ≡ row_spans tells low high rest)
  pub fewer : count_left at ≤ count_left old

pub none_skipped : (tells : Row → Bool) (low high : ℕ) (old : MadeSaid) → SkippedSoFar tells low high old old
none_skipped tells low high old = record { so = λ files rows left. (rows, left, refl); fewer = omega arith }

-- the spans of a row that was taken, and of those after it
taken_spans : (tells : Row → Bool) (files low high from end : ℕ) (new : MadeSaid) (rows rest : List Row) (row : Row)
    → rows ≡ row ∷ rest → AreLeft files new rest → from ≡ more low row.address → end ≡ begins_by high new.row
    → row_spans tells low high rows ≡ row_part (tells row) from end row ++ row_spans tells low high rest
taken_spans tells files low high from end new rows rest row are left f e =
    let same : end ≡ up_to high rest = e ∙ begins_is files high new rest left in
    ap (row_spans tells low high) are ∙ rw (f, same) refl

pub one_skipped : (tells : Row → Bool) (low high from end : ℕ) (old at new : MadeSaid) (row : Row) → SkippedSoFar tells low high old at
    → ((files : ℕ) (rows : List Row) → AreLeft files at rows → TakesRow files new rows (Some row))
    → count_left new < count_left at → from ≡ more low row.address → end ≡ begins_by high new.row
    → (nat_lt from end && tells row) ≡ false → SkippedSoFar tells low high old new
one_skipped tells low high from end old at new row so takes lt f e none = record {
  so = λ files rows left.
      let before = so.so files rows left in
      let taken = takes files before.0 before.1 in (
        taken.0,
        taken.2,
        before.2 ∙ (taken_spans tells files low high from end new before.0 taken.0 row taken.1 taken.2 f e
            ∙ rw none refl),
      );
  fewer = omega (arith, so.fewer, lt);
}

pub one_given : (tells : Row → Bool) (low high from end : ℕ) (old at new : MadeSaid) (row : Row) (span : Span)
    → SkippedSoFar tells low high old at
    → ((files : ℕ) (rows : List Row) → AreLeft files at rows → TakesRow files new rows (Some row))
    → from ≡ more low row.address → end ≡ begins_by high new.row → (nat_lt from end && tells row) ≡ true → span ≡ row_span from end row
    → (files : ℕ) (rows : List Row) → AreLeft files old rows → GivesPart tells files low high rows new (Some span)
one_given tells low high from end old at new row span so takes f e some is files rows left =
    let before = so.so files rows left in
    let taken = takes files before.0 before.1 in (
      taken.0,
      before.2 ∙ (taken_spans tells files low high from end new before.0 taken.0 row taken.1 taken.2 f e
          ∙ rw (some, is) refl),
      taken.2,
    )

pub none_given : (tells : Row → Bool) (low high : ℕ) (old at new : MadeSaid) → SkippedSoFar tells low high old at
    → ((files : ℕ) (rows : List Row) → AreLeft files at rows → rows ≡ [])
    → (files : ℕ) (rows : List Row) → AreLeft files old rows → row_spans tells low high rows ≡ []
none_given tells low high old at new so takes files rows left =
    let before = so.so files rows left in
    before.2 ∙ ap (row_spans tells low high) (takes files before.0 before.1)
