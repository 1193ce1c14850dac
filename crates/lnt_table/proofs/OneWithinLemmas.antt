-- All true answers of `check_within` for one section, one table and one scope say the same.
use Rattle.std.proofs.Common.{◌≡◌, ◌≢◌, ◌∙◌, ℕ, List, Option, None, IsSome, inl, inr, refl, sym, ap, subst, ◌⊎◌}
use Rattle.std.proofs.lemmas.Bool.{false≢true}
use Rattle.lnt_header.specs.declared.unit_parts.UnitParts.{UnitParts}
use Rattle.lnt_unit.proofs.UnitLaws.{same_units}
use Rattle.lnt_spans.specs.declared.answer.Version.{Version}
use Rattle.lnt_spans.specs.declared.answer.Answer.{Answer}
use Rattle.lnt_spans.specs.declared.difference.Difference.{Difference}
use Rattle.lnt_spans.specs.declared.position.Position.{Position}
use Rattle.lnt_spans.specs.AnyStretches.{Stretch, stretch_at}
use Rattle.lnt_spans.specs.Differences as number
use Rattle.lnt_spans.specs.Partial.{AreCounts, IsFirstMistake, IsRightWherever}
use Rattle.lnt_spans.specs.Positions.{IsBelow}
use Rattle.lnt_spans.proofs.PositionLaws.{order_three}
use Rattle.lnt_records.specs.Faults.{IsFaultIn, IsUnnumbered}
use Rattle.lnt_records.specs.Table.{by_number}
use Rattle.lnt_records.specs.declared.fault.TableFault.{TableFault}
use Rattle.lnt_records.specs.declared.fault.TableFault.TheVariants as fault
use Rattle.lnt_records.proofs.BeginningLaws.{faulty_begins, table_begins}
use Rattle.lnt_records.proofs.NumberLaws.{numbered}
use Rattle.lnt_records.proofs.PathLaws.{pathed}
use Rattle.lnt_records.proofs.TableLaws.{FormatLaws, no_fault, one_fault}
use Rattle.lnt_compare.specs.declared.path_tables.answer.DifferenceByPath.{DifferenceByPath}
use Rattle.lnt_compare.specs.declared.outcome.Compared.TheVariants.{Same, Fault, Differs}
use Rattle.lnt_compare.specs.Comparisons.{TableKind, tables_by_number}
use Rattle.lnt_compare.specs.Outcomes.{tables_by_path}
use Rattle.lnt_compare.specs.PathStretches.{stretch_of}
use Rattle.lnt_compare.proofs.ComparedLaws.{where_both}
use Rattle.lnt_lines.specs.declared.no.No as section
use Rattle.lnt_lines.specs.declared.options.Options.{Options}
use Rattle.lnt_lines.specs.Laws.{GoodHasNoFlaw, OneNo}
use Rattle.lnt_lines.specs.Nos.{IsTrueNo}
use Rattle.lnt_table.specs.Verdicts.{Checked, no_of_fault}
use Rattle.lnt_table.specs.declared.kinds.OfKind.TheVariants.{Numbered, ByPath}
use Rattle.lnt_table.specs.declared.verdict.TableNo.TheVariants as no
use Rattle.lnt_table.specs.declared.verdict.Verdict.TheVariants.{No, Yes}
use Rattle.lnt_table.specs.declared.within.CheckedWithin.{CheckedWithin}
use Rattle.lnt_table.specs.declared.within.CheckedWithin.TheVariants.{Checked as Told, Covered}
use Rattle.lnt_spans.specs.declared.scope.Coverage.{Coverage}
use Rattle.lnt_spans.specs.declared.scope.Scope.{Scope}
use Rattle.lnt_spans.specs.declared.scope.Scope.TheVariants.{All, Answered}
use Rattle.lnt_table.specs.AnyVersion.{IsMistakenOf, IsRightOf, IsTrueWithin, told_paths}
use Rattle.lnt_table.specs.Headline.{IsGoodWith, told_rows}
use Rattle.lnt_table.specs.Laws.{OneCheck, OneWithin, SayTheSame, SayTheSameWithin}

-- ---- the first mistake

not_lower : {X : Type 0} (by_table by_section : Position → Option X) (one other : Stretch X) → IsFirstMistake by_table by_section one
    → IsFirstMistake by_table by_section other → IsBelow one.position other.position → ⊥
not_lower by_table by_section one other d e below = by (e.least one.position below)
  where
    by : (by_table one.position ≡ None) ⊎ (by_table one.position ≡ by_section one.position) → ⊥
    by (inl none) = false≢true (subst IsSome (d.table ∙ none) d.answered)
    by (inr same) = d.differ (d.table ∙ same ∙ sym d.section)

one_mistake : {X : Type 0} (by_table by_section : Position → Option X) (one other : Stretch X) → IsFirstMistake by_table by_section one
    → IsFirstMistake by_table by_section other → one ≡ other
one_mistake {X} by_table by_section one other d e =
    let same : one.position ≡ other.position = elim (order_three one.position other.position) [
      | inl below ↦ absurd (not_lower by_table by_section one other d e below)
      | inr (inl is) ↦ is
      | inr (inr above) ↦ absurd (not_lower by_table by_section other one e d above)
    ] in
    ap (λ (p : Position). stretch_at p one.by_section one.by_table) same
    ∙ ap (λ (o : Option X). stretch_at other.position o one.by_table) (d.section ∙ ap by_section same ∙ sym e.section)
    ∙ ap (stretch_at other.position other.by_section) (d.table ∙ ap by_table same ∙ sym e.table)

-- a table that is right wherever it answers makes none
no_mistake : {X : Type 0} (by_table by_section : Position → Option X) (one : Stretch X) → IsRightWherever by_table by_section
    → IsFirstMistake by_table by_section one → ⊥
no_mistake by_table by_section one right d = by (right one.position)
  where
    by : (by_table one.position ≡ None) ⊎ (by_table one.position ≡ by_section one.position) → ⊥
    by (inl none) = false≢true (subst IsSome (d.table ∙ none) d.answered)
    by (inr same) = d.differ (d.table ∙ same ∙ sym d.section)

coverage_with : ℕ → ℕ → Coverage
coverage_with answered all = record { answered = answered; all = all }

coverage_is : (coverage : Coverage) → coverage_with coverage.answered coverage.all ≡ coverage
unfolding coverage_with
coverage_is coverage = refl

one_coverage : {X : Type 0} (by_table by_section : Position → Option X) (one other : Coverage)
    → AreCounts by_table by_section one.answered one.all → AreCounts by_table by_section other.answered other.all → one ≡ other
one_coverage by_table by_section one other c d =
    sym (coverage_is one) ∙ ap (λ (n : ℕ). coverage_with n one.all) (c.both ∙ sym d.both)
    ∙ ap (coverage_with other.answered) (c.section ∙ sym d.section) ∙ coverage_is other

-- ---- what is found of a table of a kind

data Part (D : Type 0) : Type 0 where
  right : Coverage → Part D
  faulty : TableFault → Part D
  mistaken : D → Part D

abbrev part_told : {D E : Type 0} → (D → E) → Part D → Part E
part_told stretch (right coverage) = right coverage
part_told stretch (faulty told) = faulty told
part_told stretch (mistaken mistake) = mistaken (stretch mistake)

abbrev IsPartOf : {V X Y D : Type 0} → TableKind V X Y D → (V → Position → Option Y) → List ℕ → Part D → Type 0
IsPartOf kind answers bytes (right coverage) = IsRightOf kind answers bytes coverage
IsPartOf kind answers bytes (faulty told) = IsFaultIn kind.format bytes told
IsPartOf kind answers bytes (mistaken mistake) = IsMistakenOf kind answers bytes mistake

module _ {V X Y D : Type 0} (kind : TableKind V X Y D) (laws : FormatLaws kind.format) (bytes : List ℕ)
    (answers : V → Position → Option Y) where
  two_rights : (one other : Coverage) → IsRightOf kind answers bytes one → IsRightOf kind answers bytes other → one ≡ other
  two_rights one other h k =
      where_both kind laws bytes answers
      (λ by_section by_table. IsRightWherever by_table by_section × AreCounts by_table by_section one.answered one.all)
      (λ by_section by_table. IsRightWherever by_table by_section × AreCounts by_table by_section other.answered other.all) (one ≡ other)
      (λ by_section by_table c d. one_coverage by_table by_section one other c.1 d.1) h k

  right_mistaken : (coverage : Coverage) (mistake : D) → IsRightOf kind answers bytes coverage
      → IsMistakenOf kind answers bytes mistake → ⊥
  right_mistaken coverage mistake h k =
      where_both kind laws bytes answers
      (λ by_section by_table. IsRightWherever by_table by_section × AreCounts by_table by_section coverage.answered coverage.all)
      (λ by_section by_table. IsFirstMistake by_table by_section (kind.stretch mistake)) ⊥
      (λ by_section by_table c d. no_mistake by_table by_section (kind.stretch mistake) c.0 d) h k

  two_mistakes : (one other : D) → IsMistakenOf kind answers bytes one → IsMistakenOf kind answers bytes other
      → kind.stretch one ≡ kind.stretch other
  two_mistakes one other h k =
      where_both kind laws bytes answers (λ by_section by_table. IsFirstMistake by_table by_section (kind.stretch one))
      (λ by_section by_table. IsFirstMistake by_table by_section (kind.stretch other)) (kind.stretch one ≡ kind.stretch other)
      (λ by_section by_table c d. one_mistake by_table by_section (kind.stretch one) (kind.stretch other) c d) h k

  one_part : (one other : Part D) → IsPartOf kind answers bytes one → IsPartOf kind answers bytes other
      → part_told kind.stretch one ≡ part_told kind.stretch other
  one_part (right c) (right d) h k = ap right (two_rights c d h k)
  one_part (right c) (faulty told) h k = absurd (no_fault kind.format laws bytes h.version h.table told h.is_table k)
  one_part (right c) (mistaken m) h k = absurd (right_mistaken c m h k)
  one_part (faulty told) (right d) h k = absurd (no_fault kind.format laws bytes k.version k.table told k.is_table h)
  one_part (faulty told) (faulty other) h k = ap faulty (one_fault kind.format laws bytes told other h k)
  one_part (faulty told) (mistaken m) h k = absurd (no_fault kind.format laws bytes k.version k.table told k.is_table h)
  one_part (mistaken m) (right d) h k = absurd (right_mistaken d m k h)
  one_part (mistaken m) (faulty told) h k = absurd (no_fault kind.format laws bytes h.version h.table told h.is_table k)
  one_part (mistaken m) (mistaken n) h k = ap mistaken (two_mistakes m n h k)

-- the same of the answers of a good section's rows
part_with : {V X Y D : Type 0} (kind : TableKind V X Y D) → FormatLaws kind.format → (line general : List ℕ) (options : Options)
    (bytes table : List ℕ) (answers : List (ℕ × UnitParts) → V → Position → Option Y) (one other : Part D)
    → IsGoodWith line general options bytes (λ units. IsPartOf kind (answers units) table one)
    → IsGoodWith line general options bytes (λ units. IsPartOf kind (answers units) table other)
    → part_told kind.stretch one ≡ part_told kind.stretch other
part_with kind laws line general options bytes table answers one other h k =
    let same : h.units ≡ k.units = same_units options.order 0 h.units k.units bytes h.good.spelled k.good.spelled in
    one_part kind laws table (answers k.units) one other
    (subst (λ (us : List (ℕ × UnitParts)). IsPartOf kind (answers us) table one) same h.so) k.so

-- ---- answers, by what is found

abbrev of_numbered : Part (Stretch Answer) → CheckedWithin
of_numbered (right coverage) = Covered coverage
of_numbered (faulty told) = Told (Numbered (No (no_of_fault told)))
of_numbered (mistaken stretch) = Told (Numbered (No (no.Differs stretch.position stretch.by_table stretch.by_section)))

abbrev of_pathed : Part DifferenceByPath → CheckedWithin
of_pathed (right coverage) = Covered coverage
of_pathed (faulty told) = Told (ByPath (Fault told))
of_pathed (mistaken mistake) = Told (ByPath (Differs mistake))

-- the part that is found of a section and a table by number, or of the two by path
abbrev OfRows : List ℕ → List ℕ → Options → List ℕ → List ℕ → Part Difference → Type 0
OfRows line general options bytes table part =
    IsGoodWith line general options bytes (λ units. IsPartOf tables_by_number (told_rows options units) table part)

abbrev OfPaths : List ℕ → List ℕ → Options → List ℕ → List ℕ → Part DifferenceByPath → Type 0
OfPaths line general options bytes table part =
    IsGoodWith line general options bytes (λ units. IsPartOf tables_by_path (told_paths line general options units) table part)

data Kind (line general : List ℕ) (options : Options) (bytes table : List ℕ) (checked : CheckedWithin) : Type 0 where
  bad : (reason : section.No) → checked ≡ Told (Numbered (No (no.Section reason))) → IsTrueNo line general options bytes reason
      → Kind line general options bytes table checked
  rows : (part : Part Difference) → checked ≡ of_numbered (part_told number.stretch_of part) → part ≢ faulty fault.Header
      → OfRows line general options bytes table part → Kind line general options bytes table checked
  paths : (part : Part DifferenceByPath) → checked ≡ of_pathed part → IsUnnumbered table
      → OfPaths line general options bytes table part → Kind line general options bytes table checked

kind_of : (line general : List ℕ) (options : Options) (bytes table : List ℕ) (checked : CheckedWithin)
    → IsTrueWithin Answered line general options bytes table checked → Kind line general options bytes table checked
kind_of line general options bytes table (Covered coverage) (inl h) = rows (right coverage) refl (λ e. cc e) h
kind_of line general options bytes table (Covered coverage) (inr h) = paths (right coverage) refl h.0 h.1
kind_of line general options bytes table (Told (Numbered Yes)) h = absurd h
kind_of line general options bytes table (Told (Numbered (No (no.Section reason)))) h = bad reason refl h.0
kind_of line general options bytes table (Told (Numbered (No no.TableHeader))) h = absurd (h.1 refl)
kind_of line general options bytes table (Told (Numbered (No (no.TableFields k)))) h = rows (faulty (fault.Fields k)) refl (λ e. cc e) h.0
kind_of line general options bytes table (Told (Numbered (No (no.TableNumber k i)))) h =
    rows (faulty (fault.Number k i)) refl (λ e. cc e) h.0
kind_of line general options bytes table (Told (Numbered (No (no.TableOrder k)))) h = rows (faulty (fault.Order k)) refl (λ e. cc e) h.0
kind_of line general options bytes table (Told (Numbered (No (no.Differs position by_table by_section)))) h =
    rows (mistaken (record { position = position; by_table = by_table; by_section = by_section })) refl (λ e. cc e) h
kind_of line general options bytes table (Told (ByPath Same)) h = absurd h
kind_of line general options bytes table (Told (ByPath (Fault told))) h = paths (faulty told) refl h.0 h.1
kind_of line general options bytes table (Told (ByPath (Differs mistake))) h = paths (mistaken mistake) refl h.0 h.1

-- ---- two answers

same_checked : (checked : Checked) → SayTheSame checked checked
same_checked (Numbered verdict) = refl
same_checked (ByPath compared) = refl

say_one : (one : CheckedWithin) → SayTheSameWithin one one
say_one (Told checked) = same_checked checked
say_one (Covered coverage) = refl

say_equal : (one other : CheckedWithin) → one ≡ other → SayTheSameWithin one other
say_equal one other e = subst (SayTheSameWithin one) e (say_one one)

say_paths : (one other : Part DifferenceByPath) → part_told stretch_of one ≡ part_told stretch_of other
    → SayTheSameWithin (of_pathed one) (of_pathed other)
say_paths (right c) (right d) e = let same : c ≡ d = cc in same
say_paths (right c) (faulty told) e = cc e
say_paths (right c) (mistaken m) e = cc e
say_paths (faulty told) (right d) e = cc e
say_paths (faulty told) (faulty other) e =
    let same : told ≡ other = cc in ap Fault same
say_paths (faulty told) (mistaken m) e = cc e
say_paths (mistaken m) (right d) e = cc e
say_paths (mistaken m) (faulty told) e = cc e
say_paths (mistaken m) (mistaken n) e =
    let same : stretch_of m ≡ stretch_of n = cc in ap Differs same

-- bytes that were compared by number begin with the header of version 1 or 2
headed : (answers : Version → Position → Option Answer) (table : List ℕ) (part : Part Difference)
    → IsPartOf tables_by_number answers table part → part ≢ faulty fault.Header → IsUnnumbered table → ⊥
headed answers table (right coverage) h other none = none h.version (table_begins by_number table h.version h.table h.is_table)
headed answers table (faulty fault.Header) h other none = other refl
headed answers table (faulty (fault.Fields n)) h other none = none h.version (faulty_begins by_number table (fault.Fields n) h)
headed answers table (faulty (fault.Number n i)) h other none = none h.version (faulty_begins by_number table (fault.Number n i) h)
headed answers table (faulty (fault.Order n)) h other none = none h.version (faulty_begins by_number table (fault.Order n) h)
headed answers table (mistaken mistake) h other none = none h.version (table_begins by_number table h.version h.table h.is_table)

by_kinds : GoodHasNoFlaw → OneNo → (line general : List ℕ) (options : Options) (bytes table : List ℕ) (v w : CheckedWithin)
    → Kind line general options bytes table v → Kind line general options bytes table w → SayTheSameWithin v w
by_kinds flawless reasons line general options bytes table v w (bad r e is) (bad s e' is') =
    say_equal v w (e ∙ ap (λ (reason : section.No). Told (Numbered (No (no.Section reason))))
    (reasons.one line general options bytes r s is is') ∙ sym e')
by_kinds flawless reasons line general options bytes table v w (bad r e is) (rows p e' other is') =
    absurd (flawless line general options bytes is'.units r is'.good is)
by_kinds flawless reasons line general options bytes table v w (bad r e is) (paths p e' none is') =
    absurd (flawless line general options bytes is'.units r is'.good is)
by_kinds flawless reasons line general options bytes table v w (rows p e other is) (bad r e' is') =
    absurd (flawless line general options bytes is.units r is.good is')
by_kinds flawless reasons line general options bytes table v w (paths p e none is) (bad r e' is') =
    absurd (flawless line general options bytes is.units r is.good is')
by_kinds flawless reasons line general options bytes table v w (rows p e other is) (rows q e' other' is') =
    say_equal v w (e ∙ ap of_numbered (part_with tables_by_number numbered line general options bytes table (told_rows options) p q is is')
    ∙ sym e')
by_kinds flawless reasons line general options bytes table v w (rows p e other is) (paths q e' none is') =
    absurd (headed (told_rows options is.units) table p is.so other none)
by_kinds flawless reasons line general options bytes table v w (paths p e none is) (rows q e' other is') =
    absurd (headed (told_rows options is'.units) table q is'.so other none)
by_kinds flawless reasons line general options bytes table v w (paths p e none is) (paths q e' none' is') =
    subst (λ (one : CheckedWithin). SayTheSameWithin one w) (sym e) (subst (SayTheSameWithin (of_pathed p)) (sym e')
    (say_paths p q (part_with tables_by_path pathed line general options bytes table (told_paths line general options) p q is is')))

in_scope : OneCheck → GoodHasNoFlaw → OneNo → (scope : Scope) (line general : List ℕ) (options : Options) (bytes table : List ℕ)
    (v w : CheckedWithin) → IsTrueWithin scope line general options bytes table v
    → IsTrueWithin scope line general options bytes table w → SayTheSameWithin v w
in_scope checks flawless reasons All line general options bytes table (Told v) (Told w) h k =
    checks.one line general options bytes table v w h k
in_scope checks flawless reasons All line general options bytes table (Told v) (Covered c) h k = absurd k
in_scope checks flawless reasons All line general options bytes table (Covered c) w h k = absurd h
in_scope checks flawless reasons Answered line general options bytes table v w h k =
    by_kinds flawless reasons line general options bytes table v w (kind_of line general options bytes table v h)
    (kind_of line general options bytes table w k)

pub one_within : OneCheck → GoodHasNoFlaw → OneNo → OneWithin
one_within checks flawless reasons = record { one = in_scope checks flawless reasons }
