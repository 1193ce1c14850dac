-- Units added to a draft, one at a time.
use Rattle.std.proofs.Common.{◌≡◌, ℕ, ◌+◌, ◌<◌, ◌≤◌, List, [], ◌∷◌}
use Rattle.std.proofs.Common.{◌++◌, map, length, sym, ap, subst, ◌∙◌, arith, Option, IsPermutation}
use Rattle.std.specs.List.{All, AllByRecursion, AllZip}
use Rattle.std.proofs.lemmas.List.{map-append}
use Rattle.std.proofs.lemmas.List.Elements.{All-cons, All-nil, All-weaker}
use Rattle.lnt_wire.specs.declared.format.Order.{Order}
use Rattle.lnt_header.specs.HeaderRules.{AreHeaderNumbers}
use Rattle.lnt_header.specs.Parts.{HeaderParts}
use Rattle.lnt_unit.specs.Units.{BufferedUnit}
use Rattle.lnt_header.specs.declared.unit_parts.UnitParts.{UnitParts}
use Rattle.lnt_unit.proofs.UnitLaws.{unit_is_some}
use Rattle.lnt_unit.specs.UnitBytes.{UnitsFrom}
use Rattle.std.proofs.lemmas.Slice.Zip.{all_zipped_more}
use Rattle.lnt_machine.proofs.SequenceLaws.{all-append}
use Rattle.lnt_machine.specs.Walking.{KeptProgram, KeepsProgram}
use Rattle.lnt_files.specs.Tables.{AreUsableTables}
use Rattle.lnt_sequences.proofs.UnitLaws.{distinct_sequences, offsets_differ, ordered-append}
use Rattle.lnt_header.specs.Joins.{AreRising}
use Rattle.lnt_sequences.specs.declared.extent.Extent.{Extent}
use Rattle.lnt_sequences.specs.Extents.{AreSettled, extents_of}
use Rattle.lnt_sequences.specs.Rules.{AreApart, AreDistinct, AreOrdered, HaveFiles}
use Rattle.lnt_sequences.specs.Sequences.{kept_sequences, live_in, live_sequences, Selection}
use Rattle.lnt_spans.proofs.EachTwoLaws.{pairs_cons, pairs_nil}
use Rattle.lnt_lines.specs.declared.draft.Draft.{Draft}
use Rattle.lnt_lines.specs.Stepping.{HasAdded, IsDraftOf}
use Rattle.lnt_lines.specs.Good.{IsSoundUnit}
use Rattle.lnt_lines.specs.Indexed.{IsIndexOf}
use Rattle.lnt_lines.specs.Judging.{IsJudgedSound}

-- ---- one unit more

pub added : (text general : List ℕ) (dead : Option ℕ) (buffer : BufferedUnit) (old new : Draft) (offset : ℕ) (kept : KeptProgram)
    → IsJudgedSound text general dead buffer old.collected new.collected kept
    → offset ≡ buffer.offset → new.units.items ≡ old.units.items ++ offset ∷ [] → new.programs.items ≡ old.programs.items ++ kept ∷ []
    → HasAdded text general dead buffer old new
added text general dead buffer old new offset kept judged at offsets programs = record {
  unit = judged.unit;
  spelled = judged.spelled;
  drafts = λ units draft. record {
    sound = all-append (IsSoundUnit text general dead) units (buffer.offset, judged.unit) draft.sound judged.sound;
    collects = judged.collects units draft.collects;
    offsets = offsets ∙ ap (λ (n : ℕ). old.units.items ++ n ∷ []) at ∙ ap (λ (list : List ℕ). list ++ buffer.offset ∷ []) draft.offsets
        ∙ sym (map-append (λ (u : ℕ × UnitParts). u.0) units ((buffer.offset, judged.unit) ∷ []));
    programs = subst (AllZip (λ (unit : ℕ × UnitParts) (k : KeptProgram). KeepsProgram k unit.1)
        (units ++ (buffer.offset, judged.unit) ∷ [])) (sym programs)
        (all_zipped_more (λ (unit : ℕ × UnitParts) (k : KeptProgram). KeepsProgram k unit.1) units old.programs.items
        (buffer.offset, judged.unit) kept
        draft.programs judged.keeps);
  };
}

-- ---- all units

offsets_at_least : (order : Order) (k : ℕ) (units : List (ℕ × UnitParts)) (bytes : List ℕ) → UnitsFrom order k units bytes
    → All (λ (n : ℕ). k ≤ n) (map (λ (u : ℕ × UnitParts). u.0) units)
offsets_at_least order k [] bytes u = All-nil (λ (n : ℕ). k ≤ n)
offsets_at_least order k (unit ∷ units) bytes (prefix, back, at, spelled, whole, rest) =
    let offsets : List ℕ = map (λ (u : ℕ × UnitParts). u.0) units in
    All-cons (λ (n : ℕ). k ≤ n) unit.0 offsets (omega (arith, at))
    (All-weaker (λ (n : ℕ). k + length prefix ≤ n) (λ (n : ℕ). k ≤ n) (λ n le. omega (arith, le)) offsets
    (offsets_at_least order (k + length prefix) units back rest))

-- the offsets of units rise
pub rising_from : (order : Order) (k : ℕ) (units : List (ℕ × UnitParts)) (bytes : List ℕ) → UnitsFrom order k units bytes
    → AreRising (map (λ (u : ℕ × UnitParts). u.0) units)
rising_from order k [] bytes u = pairs_nil (λ (one other : ℕ). one < other)
rising_from order k (unit ∷ units) bytes (prefix, back, at, spelled, whole, rest) =
    let offsets : List ℕ = map (λ (u : ℕ × UnitParts). u.0) units in
    pairs_cons (λ (one other : ℕ). one < other) unit.0 offsets
    (All-weaker (λ (n : ℕ). k + length prefix ≤ n) (λ (n : ℕ). unit.0 < n)
    (λ n le. omega (arith, le, at, unit_is_some order unit.1 prefix spelled)) offsets
    (offsets_at_least order (k + length prefix) units back rest))
    (rising_from order (k + length prefix) units back rest)

-- the numbers of headers that bytes spell can be read
pub numbers_from : (order : Order) (k : ℕ) (units : List (ℕ × UnitParts)) (bytes : List ℕ) → UnitsFrom order k units bytes
    → AllByRecursion (λ (unit : ℕ × UnitParts). AreHeaderNumbers unit.1.header.numbers) units
numbers_from order k [] bytes u = tt
numbers_from order k (unit ∷ units) bytes (prefix, back, at, spelled, whole, rest) =
    (spelled.spelled.whole.counted.numbers, numbers_from order (k + length prefix) units back rest)

pub distinct : (order : Order) (dead : Option ℕ) (units : List (ℕ × UnitParts)) (bytes : List ℕ) → UnitsFrom order 0 units bytes
    → AreDistinct (live_sequences dead units)
distinct order dead units bytes u = distinct_sequences dead units (offsets_differ order 0 units bytes u)

-- the live sequences of sound units are in order
pub all_ordered : (text general : List ℕ) (dead : Option ℕ) (units : List (ℕ × UnitParts))
    → AllByRecursion (IsSoundUnit text general dead) units → AreOrdered (live_sequences dead units)
all_ordered text general dead [] all = tt
all_ordered text general dead (unit ∷ units) all =
    ordered-append (live_in dead unit) (live_sequences dead units) all.0.ordered (all_ordered text general dead units all.1)

-- ---- the index

usable_tables : (text general : List ℕ) (dead : Option ℕ) (units : List (ℕ × UnitParts))
    → AllByRecursion (IsSoundUnit text general dead) units
    → AllByRecursion (λ (unit : ℕ × UnitParts). AreUsableTables text general unit.1.header) units
usable_tables text general dead [] all = tt
usable_tables text general dead (unit ∷ units) all = (all.0.well_formed.tables, usable_tables text general dead units all.1)

-- the rows of live sequences name files that are there
pub named_files : (text general : List ℕ) (dead : Option ℕ) (units : List (ℕ × UnitParts))
    → AllByRecursion (IsSoundUnit text general dead) units
    → AllByRecursion (λ (unit : ℕ × UnitParts). HaveFiles (length unit.1.header.files) (live_in dead unit)) units
named_files text general dead [] all = tt
named_files text general dead (unit ∷ units) all = (all.0.files, named_files text general dead units all.1)

-- the kept headers are those of the units
pub kept_numbers : (units : List (ℕ × UnitParts)) (programs : List KeptProgram)
    → AllZip (λ unit kept. KeepsProgram kept unit.1) units programs
    → AllByRecursion (λ (unit : ℕ × UnitParts). AreHeaderNumbers unit.1.header.numbers) units
    → AllByRecursion (λ (kept : KeptProgram). AreHeaderNumbers kept.header.numbers) programs
kept_numbers [] [] keeps all = tt
kept_numbers [] (kept ∷ programs) keeps all = absurd keeps
kept_numbers (unit ∷ units) [] keeps all = tt
kept_numbers (unit ∷ units) (kept ∷ programs) keeps all =
    (subst (λ (h : HeaderParts). AreHeaderNumbers h.numbers) (sym keeps.0.header_is) all.0, kept_numbers units programs keeps.1 all.1)

pub index_of_draft : (text general : List ℕ) (selection : Selection) (draft : Draft)
    (entries live : List Extent) → IsDraftOf text general selection.dead selection.units draft → AreRising draft.units.items
    → AreSettled entries → IsPermutation (extents_of (kept_sequences selection)) entries → AreApart (kept_sequences selection)
    → IsIndexOf selection (record {
      line = text;
      general = general;
      entries = entries;
      live = live;
      units = draft.units.items;
      programs = draft.programs.items;
    })
index_of_draft text general selection draft entries live d rising settled permuted apart = record {
  settled = settled;
  entries = permuted;
  apart = apart;
  ordered = all_ordered text general selection.dead selection.units d.sound;
  rising = rising;
  offsets = d.offsets;
  programs = d.programs;
  tables = usable_tables text general selection.dead selection.units d.sound;
}
