-- The lines of the stretches at which a table answers otherwise than the rows of units.
use Rattle.std.proofs.Common.{◌≡◌, ◌≢◌, ◌⊎◌, Bool, false, true, ℕ, List, [], ◌∷◌, ◌++◌, Option, Some, None, IfSome, ap, codes, inl, inr}
use Rattle.std.proofs.Common.{map, OnErr, Result, Ok, Err, option_map, refl, subst, sym}
use Rattle.std.proofs.lemmas.List.{map-append}
use Rattle.std.proofs.lemmas.Option.{IfSome_then}
use Rattle.lnt_io.specs.Prefixes.{AppendsPrefix, HasBegun}
use Rattle.lnt_io.proofs.PrefixLaws.{appends_known}
use Rattle.lnt_answers.specs.declared.printed_stretches.Stretches.TheVariants.{Faulty, FaultyByPath, Printed, PrintedByPath}
use Rattle.lnt_spans.specs.declared.answer.Answer.{Answer}
use Rattle.lnt_spans.specs.declared.difference.Difference.{Difference}
use Rattle.lnt_spans.specs.declared.listed.SpanList.{SpanList}
use Rattle.lnt_spans.specs.declared.position.Position.{Position}
use Rattle.lnt_spans.specs.declared.span.Span.{Span}
use Rattle.lnt_spans.specs.declared.differences.Differences.{Differences}
use Rattle.lnt_spans.specs.Stretching.{HasFoundStretches}
use Rattle.lnt_spans.specs.AnyStretches.{AreAllStretches}
use Rattle.lnt_spans.specs.Differences.{stretch_of}
use Rattle.lnt_spans.proofs.StretchLaws.{stretches_on}
use Rattle.lnt_compare.specs.Differing.{Differing, IsDiffering}
use Rattle.lnt_compare.specs.declared.outcome.TableRead.TheVariants.{Fault, Table}
use Rattle.lnt_records.specs.declared.fault.TableFault.{TableFault}
use Rattle.lnt_records.specs.declared.fault.TableFault.TheVariants as fault
use Rattle.lnt_compare.specs.declared.remaining.Remaining.{Remaining}
use Rattle.lnt_compare.specs.Comparisons.{IsTableWhere, in_versions}
use Rattle.lnt_records.specs.Faults.{IsFault, IsUnnumbered}
use Rattle.lnt_lines.specs.Indexed.{Indexed, IsIndexOf, OfUnits}
use Rattle.lnt_spans.specs.declared.answer.Version.{Version}
use Rattle.lnt_spans.specs.Answers.{in_version}
use Rattle.lnt_spans.specs.Spans.{span_answer}
use Rattle.lnt_sequences.specs.Copies.{IsAnyAnswer}
use Rattle.lnt_records.specs.Table.{BeginsWith, IsTableOfIn, by_number, column_names}
use Rattle.lnt_records.specs.PathSpans.{PathAnswer, PathSpan, path_answer, path_span_answer}
use Rattle.lnt_records.proofs.BeginningLaws.{one_beginning, table_begins}
use Rattle.lnt_records.proofs.NumberLaws.{numbered}
use Rattle.lnt_table.specs.Asked.{OfLive}
use Rattle.lnt_table.proofs.UnitPathLemmas.{same_answer}
use Rattle.lnt_sequences.specs.Sequences.{line_answer, Selection}
use Rattle.lnt_table.specs.Verdicts.{no_of_fault}
use Rattle.lnt_answers.proofs.ScopeLemmas.{HasMore}
use Rattle.lnt_answers.proofs.PathStretchLemmas.{ForPathDifferences, for_path_units, HasStarted}
use Rattle.lnt_answers.specs.declared.report.Report.{Report}
use Rattle.lnt_answers.specs.PrintedStretches.{AreStretchesBegun, AreStretchesPrinted, IsFaultByPath}
use Rattle.lnt_answers.specs.PrintedStretches.{IsSoByPath, IsSoOfRows, OfAnswers, OfThese, path_stretch_line, stretch_line}
use Rattle.lnt_compare.specs.declared.path_tables.held.HeldSpan.{HeldSpan}
use Rattle.lnt_compare.specs.declared.path_tables.path_differences.DifferencesByPath.{DifferencesByPath}
use Rattle.lnt_records.specs.declared.path_records.version.PathVersion.{PathVersion}
use Rattle.lnt_compare.specs.Held.{held_span}
use Rattle.lnt_records.specs.PathSpans.{StandInOrder}
use Rattle.lnt_records.specs.PathTables.{IsPathTableOf}
use Rattle.lnt_table.specs.Headline.{indexed_path, told_path}
use Rattle.lnt_table.specs.FaultTexts.{table_no_text}

-- ---- the units of an index

pub of_kept : (any_copy : Bool) (index : Indexed) (IsSo : Selection → Type 0) → any_copy ≡ false → OfUnits index IsSo
    → OfThese any_copy index IsSo
of_kept any_copy index IsSo kept so = subst (λ (b : Bool). OfThese b index IsSo) (sym kept) so

pub of_any : (any_copy : Bool) (index : Indexed) (IsSo : Selection → Type 0) → any_copy ≡ true → OfLive index IsSo
    → OfThese any_copy index IsSo
of_any any_copy index IsSo any so = subst (λ (b : Bool). OfThese b index IsSo) (sym any) so

-- ---- tables by number

-- It holds of whatever two answers the differences are.
abbrev pub ForDifferences : {S T : Type 0} → (S → List Span → Type 0) → (T → List Span → Type 0) → Differences S T → Selection
    → OfAnswers Answer → Type 0
ForDifferences of_section of_table differences selection IsSo = (version : Version) (f g : Position → Option Answer)
    → HasFoundStretches of_section of_table differences f g [] → IsSo (IsAnyAnswer (in_version version) selection) f g

-- So it holds of the differences from the units' rows.
pub for_units : {S : Type 0} (of_section : Remaining S → List Span → Type 0) (of_table : SpanList → List Span → Type 0)
    (differences given : Differences (Remaining S) SpanList) (selection : Selection) (table : Option (List ℕ)) (IsSo : OfAnswers Answer)
    → given ≡ differences
    → IfSome table (λ text. IsDiffering of_section of_table text (line_answer selection) (Table differences)
    × (Table differences ≢ Fault fault.Header)) → ForDifferences of_section of_table given selection IsSo
    → IfSome table (λ text. IsSoOfRows selection text IsSo)
for_units of_section of_table differences given selection None IsSo same d p = tt
for_units {S} of_section of_table differences given selection (Some text) IsSo same d p = record {
  version = d.0.version;
  table = d.0.table;
  is_table = d.0.is_table;
  so = subst (λ (list : Differences (Remaining S) SpanList). ForDifferences of_section of_table list selection IsSo) same p
      d.0.version (in_versions (line_answer selection) d.0.version) (span_answer d.0.table) d.0.so;
}

-- Others may follow the differences that were given.
pub more_stretches : {S T : Type 0} (of_section : S → List Span → Type 0) (of_table : T → List Span → Type 0)
    (differences : Differences S T) (f g : Position → Option Answer) (given : List Difference)
    → HasFoundStretches of_section of_table differences f g given → HasMore stretch_of f g given
more_stretches of_section of_table differences f g given told =
    let later = stretches_on of_section of_table differences f g given told in
    (map stretch_of later.0, (subst (AreAllStretches f g) (map-append stretch_of given later.0) later.1, later.2))

-- What is so in the version that the header names, is so of the table.
pub holds_by_number : (selection : Selection) (text : List ℕ) (version : Version)
    (HasFound : (Position → Option Answer) → (Position → Option Answer) → Type 0) (IsSo : OfAnswers Answer)
    → BeginsWith text (column_names version ∷ [])
    → IsTableWhere by_number span_answer (in_versions (line_answer selection)) text HasFound
    → ((f g : Position → Option Answer) → ((p : Position) → f p ≡ option_map (in_version version) (line_answer selection p))
    → HasFound f g → IsSo (IsAnyAnswer (in_version version) selection) f g)
    → IsSoOfRows selection text IsSo
holds_by_number selection text version HasFound IsSo begins h so =
    let same : h.version ≡ version = numbered.one_version h.version version
    (one_beginning text (column_names h.version) (column_names version)
    (table_begins by_number text h.version h.table h.is_table) begins) in
    record {
      version = version;
      table = h.table;
      is_table = subst (λ (v : Version). IsTableOfIn by_number v text h.table) same h.is_table;
      so = so (in_versions (line_answer selection) version) (span_answer h.table) (λ p. refl)
          (subst (λ (v : Version). HasFound (in_versions (line_answer selection) v) (span_answer h.table)) same h.so);
    }

-- the answers of the section, as the index gives their paths
pub told_as : (version : PathVersion) (index : Indexed) (selection : Selection) → IsIndexOf selection index → (p : Position)
    → told_path version index selection p ≡ option_map (path_answer version (indexed_path index)) (line_answer selection p)
told_as version index selection is p = sym (same_answer version index selection is (line_answer selection p))

-- The same of a table by path with these spans.
pub holds_by_path : (index : Indexed) (selection : Selection) (text : List ℕ) (version : PathVersion) (spans : List PathSpan)
    (IsSo : OfAnswers PathAnswer) → IsPathTableOf version text spans
    → IsSo (IsAnyAnswer (path_answer version (indexed_path index)) selection) (told_path version index selection) (path_span_answer spans)
    → IsSoByPath index selection text IsSo
holds_by_path index selection text version spans IsSo is_table so =
    record { version = version; table = spans; is_table = is_table; so = so }

-- A table with the header of a version has another fault than that of the header.
pub other_fault : (text : List ℕ) (version : Version) (told : TableFault) → BeginsWith text (column_names version ∷ []) → IsFault text told
    → told ≢ fault.Header
other_fault text version fault.Header begins h = absurd (h version begins)
other_fault text version (fault.Fields k) begins h = λ e. cc e
other_fault text version (fault.Number k n) begins h = λ e. cc e
other_fault text version (fault.Order k) begins h = λ e. cc e

-- The outcome isn't the fault of the header.
abbrev pub IsNoHeader : {S : Type 0} → Differing S → Type 0
IsNoHeader found = found ≢ Fault fault.Header

-- ---- a writer that was stopped

module _ (report : Report) (index : Indexed) (selection : Selection) {old new : Option (List ℕ)} where
  -- within the line of the fault of a table of version 1 or 2
  pub number_fault : (text : List ℕ) (told : TableFault) → IsFault text told → (told ≢ fault.Header)
      → AppendsPrefix old new (table_no_text (no_of_fault told) ++ codes "\n")
      → AreStretchesBegun report index selection text old new
  number_fault text told is other prefix = inl (record {
    whole = table_no_text (no_of_fault told) ++ codes "\n";
    ending = Faulty told;
    is_end = ((is, other), appends_known old _);
    prefix = prefix;
  })

  -- within the line of the fault of a table by path
  pub path_fault : (text : List ℕ) (told : TableFault) → IsFaultByPath text told
      → AppendsPrefix old new (table_no_text (no_of_fault told) ++ codes "\n")
      → AreStretchesBegun report index selection text old new
  path_fault text told is prefix = inl (record {
    whole = table_no_text (no_of_fault told) ++ codes "\n";
    ending = FaultyByPath told;
    is_end = (is, appends_known old _);
    prefix = prefix;
  })

  pub fault_begun : (S : Type 0) (table : Option (List ℕ)) (told : TableFault)
      → IfSome table (λ text. IsFault text told × IsNoHeader {S = S} (Fault told))
      → AppendsPrefix old new (table_no_text (no_of_fault told) ++ codes "\n")
      → IfSome table (λ text. AreStretchesBegun report index selection text old new)
  fault_begun S table told is prefix = IfSome_then table is
      (λ text is. number_fault text told is.0 (λ e. is.1 (ap (λ (t : TableFault). Fault t) e)) prefix)

  pub path_fault_begun : (table : Option (List ℕ)) (told : TableFault)
      → IfSome table (λ text. IsFaultByPath text told) → AppendsPrefix old new (table_no_text (no_of_fault told) ++ codes "\n")
      → IfSome table (λ text. AreStretchesBegun report index selection text old new)
  path_fault_begun table told is prefix = IfSome_then table is (λ text is. path_fault text told is prefix)

  -- within the lines of stretches, or of what follows them
  pub numbers_ended : (text : List ℕ)
      → IsSoOfRows selection text (λ said f g. HasBegun (AreStretchesPrinted stretch_line report said f g old) old new)
      → AreStretchesBegun report index selection text old new
  numbers_ended text is = inl (record {
    whole = is.so.whole;
    ending = Printed is.so.ending;
    is_end = (record { version = is.version; table = is.table; is_table = is.is_table; so = is.so.is_end }, tt);
    prefix = is.so.prefix;
  })

  pub paths_ended : (text : List ℕ)
      → IsSoByPath index selection text (λ said f g. HasBegun (AreStretchesPrinted path_stretch_line report said f g old) old new)
      → AreStretchesBegun report index selection text old new
  paths_ended text is = inl (record {
    whole = is.so.whole;
    ending = PrintedByPath is.so.ending;
    is_end = (record { version = is.version; table = is.table; is_table = is.is_table; so = is.so.is_end }, tt);
    prefix = is.so.prefix;
  })

  pub numbered_begun : {S : Type 0} (of_section : Remaining S → List Span → Type 0) (of_table : SpanList → List Span → Type 0)
      (table : Option (List ℕ)) {differences given : Differences (Remaining S) SpanList} → given ≡ differences
      → IfSome table (λ text. IsDiffering of_section of_table text (line_answer selection) (Table differences)
      × (Table differences ≢ Fault fault.Header))
      → ForDifferences of_section of_table given selection
      (λ said f g. HasBegun (AreStretchesPrinted stretch_line report said f g old) old new)
      → IfSome table (λ text. AreStretchesBegun report index selection text old new)
  numbered_begun of_section of_table table {differences} {given} same d p =
      IfSome_then table (for_units of_section of_table differences given selection table _ same d p) numbers_ended

  pub path_begun : {S : Type 0} (to_come : S → List Span → Type 0) (differences : DifferencesByPath S) (version : PathVersion)
      (table : Option (List ℕ)) {path : ℕ → ℕ → List ℕ} {spans slice : List HeldSpan} → slice ≡ spans → path ≡ indexed_path index
      → IfSome table (λ text. IsUnnumbered text × IsPathTableOf version text (map held_span spans))
      → StandInOrder (map held_span spans) → HasStarted to_come index differences version selection slice
      → ForPathDifferences to_come path differences (IsAnyAnswer (path_answer version (indexed_path index)) selection)
      (λ said f g. HasBegun (AreStretchesPrinted path_stretch_line report said f g old) old new)
      → IfSome table (λ text. AreStretchesBegun report index selection text old new)
  path_begun to_come differences version table {path} {spans} {slice} same by is order started p =
      IfSome_then table (for_path_units to_come index path differences version spans slice selection table _ same by is order started p)
      paths_ended

-- ---- all bytes of a table

-- What is so of all bytes is so of the table, if these are known.
abbrev pub IsAllOf : Option (List ℕ) → List ℕ → Type 1
IsAllOf table text = (P : List ℕ → Type 0) → P text → IfSome table P

pub all_begun : {T E : Type 0} (Kept : Type 0) (ended : Result T E) (any_copy : Bool) (index : Indexed) (IsSo : Selection → List ℕ → Type 0)
    (table : Option (List ℕ)) (text : List ℕ) → any_copy ≡ true → IsAllOf table text
    → OnErr ended (Kept ⊎ OfLive index (λ selection. IsSo selection text))
    → OnErr ended (Kept ⊎ OfThese any_copy index (λ selection. IfSome table (IsSo selection)))
all_begun Kept (Ok found) any_copy index IsSo table text any all so = tt
all_begun Kept (Err stop) any_copy index IsSo table text any all (inl kept) = inl kept
all_begun Kept (Err stop) any_copy index IsSo table text any all (inr begun) =
    inr (of_any any_copy index _ any (λ selection is live. all (IsSo selection) (begun selection is live)))
