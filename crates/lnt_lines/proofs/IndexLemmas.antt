-- The sequence that holds a position, found again in the program of its unit.
use Rattle.std.proofs.Common.{◌≡◌, ℕ, zero, suc, ◌==◌, ◌<◌, ◌≤◌, Bool, true, false, List, [], ◌∷◌, Option, Some, None, refl, sym, ap, ◌∙◌}
use Rattle.std.proofs.Common.{subst, arith, length, get_or, cond, IfNone, IfSome, IsSomeAnd, map, option_map}
use Rattle.std.specs.List.{AllByRecursion, AllZip, Contains, position}
use Rattle.std.proofs.lemmas.List.{length-map}
use Rattle.std.proofs.lemmas.Slice.Zip.{AllZip-long}
use Rattle.std.proofs.lemmas.Option.{same_Some}
use Rattle.lnt_header.specs.declared.unit_parts.UnitParts.{UnitParts}
use Rattle.lnt_header.proofs.FirstLaws.{all_at}
use Rattle.lnt_machine.specs.declared.row.Sequence.{Sequence}
use Rattle.lnt_machine.specs.Matrix.{sequences}
use Rattle.lnt_machine.specs.declared.row.Row.{Row}
use Rattle.lnt_machine.specs.Walking.{KeepsProgram, KeptProgram, SequenceWalk, WillGive}
use Rattle.lnt_spans.specs.declared.position.Position as spans
use Rattle.lnt_header.specs.Parts.{HeaderParts}
use Rattle.lnt_files.specs.Files.{AreFilesOf, KeptFile}
use Rattle.lnt_files.specs.Tables.{AreUsableTables}
use Rattle.lnt_sequences.specs.declared.extent.Extent.{Extent}
use Rattle.lnt_sequences.specs.declared.sequence.SeqId.{SeqId}
use Rattle.lnt_sequences.specs.Extents.{HolderAnswers, IsHolder, IsHolderAt, NoneHolds}
use Rattle.lnt_sequences.proofs.FoundLaws.{live_placed}
use Rattle.lnt_sequences.proofs.KeptLaws.{kept_live}
use Rattle.lnt_sequences.specs.Sequences.{answer_of, kept_sequences, line_answer, live_sequences, Placed, row_at, Selection}
use Rattle.lnt_sequences.specs.Rules.{IsOrdered}
use Rattle.lnt_sequences.specs.RowSpans.{rows_left}
use Rattle.lnt_lines.specs.Cursors.{room_of}
use Rattle.lnt_lines.specs.Indexed.{Answers, Indexed, IsIndexOf, IsSequenceIn}
use Rattle.lnt_lines.proofs.PlaceLemmas.{place_found}

pub offset_at : (units : List (ℕ × UnitParts)) (k : ℕ) (d : ℕ × UnitParts) → k < length units
    → (get_or (map (λ (u : ℕ × UnitParts). u.0) units) k 0 ≡ (get_or units k d).0) × (k < length (map (λ (u : ℕ × UnitParts). u.0) units))
offset_at [] k d few = absurd (omega arith)
offset_at (unit ∷ units) zero d few = (refl, omega arith)
offset_at (unit ∷ units) (suc k) d few = let more = offset_at units k d (omega arith) in (more.0, omega (arith, more.1))

pub zip_at : {X Y : Type 0} (R : X → Y → Type 0) (xs : List X) (ys : List Y) (k : ℕ) (x : X) (y : Y) → AllZip R xs ys → k < length xs
    → R (get_or xs k x) (get_or ys k y) × (k < length ys)
zip_at R [] ys k x y all few = absurd (omega arith)
zip_at R (u ∷ xs) [] k x y all few = absurd all
zip_at R (u ∷ xs) (v ∷ ys) zero x y all few = (all.0, omega arith)
zip_at R (u ∷ xs) (v ∷ ys) (suc k) x y all few = let more = zip_at R xs ys k x y all.1 (omega arith) in (more.0, omega (arith, more.1))

pub live_in_index : (selection : Selection) (index : Indexed) (id : SeqId) (placed : Placed) → IsIndexOf selection index
    → Contains (live_sequences selection.dead selection.units) placed → placed.id ≡ id
    → IsSequenceIn index.units index.programs id placed.rows
live_in_index selection index id placed is live same =
    let units = selection.units in
    let one = live_placed selection.dead units placed live in
    let at = offset_at units one.place one.unit one.within in
    let offset : get_or index.units one.place 0 ≡ id.unit =
    ap (λ (list : List ℕ). get_or list one.place 0) is.offsets ∙ at.0 ∙ ap (λ (u : ℕ × UnitParts). u.0) (one.unit_at one.unit)
    ∙ sym one.unit_is
    ∙ ap (λ (i : SeqId). i.unit) same in
    let kept : (d : KeptProgram) → KeepsProgram (get_or index.programs one.place d) one.unit.1 × (one.place < length index.programs) =
    λ d. let z = zip_at (λ (u : ℕ × UnitParts) (k : KeptProgram). KeepsProgram k u.1) units index.programs one.place one.unit d is.programs
    one.within in
    (subst (λ (u : ℕ × UnitParts). KeepsProgram (get_or index.programs one.place d) u.1) (one.unit_at one.unit) z.0, z.1) in
    record {
      place = one.place;
      unit = one.unit.1;
      place_is = place_found index.units id.unit one.place is.rising (omega (arith, at.1, ap length is.offsets)) offset;
      within = (kept (record { header = one.unit.1.header; program = []; places = [] })).1;
      keeps = λ d. (kept d).0;
      few = subst (λ (i : SeqId). i.index < length (sequences one.unit.1)) same one.few;
      rows_are = λ d. one.rows_are d ∙ ap (λ (i : SeqId). (get_or (sequences one.unit.1) i.index d).rows) same;
    }

pub sequence_in : (selection : Selection) (index : Indexed) (id : SeqId) (placed : Placed) → IsIndexOf selection index
    → Contains (kept_sequences selection) placed → placed.id ≡ id → IsSequenceIn index.units index.programs id placed.rows
sequence_in selection index id placed is contained same = live_in_index selection index id placed is
    (kept_live selection.skip (live_sequences selection.dead selection.units) placed contained) same

-- positions fall in no live sequence
pub live_ordered : (selection : Selection) (index : Indexed) (placed : Placed) → IsIndexOf selection index
    → Contains (live_sequences selection.dead selection.units) placed → IsOrdered placed.rows
live_ordered selection index placed is live =
    subst (λ (s : Placed). IsOrdered s.rows) live.2
    (all_at (λ (s : Placed). IsOrdered s.rows) (live_sequences selection.dead selection.units) live.0 placed live.1 is.ordered)

pub found_answer : (selection : Selection) (index : Indexed) (p : spans.Position) (extent : Extent) → HolderAnswers
    → IsIndexOf selection index → IsHolder index.entries p extent → Answers selection index p extent.id
found_answer selection index p extent law is holder =
    let answers = law.some (kept_sequences selection) index.entries p extent is.entries is.apart holder in
    record {
      rows = answers.placed.rows;
      sequence_is = sequence_in selection index extent.id answers.placed is answers.contained answers.id_is;
      ordered = live_ordered selection index answers.placed is
          (kept_live selection.skip (live_sequences selection.dead selection.units) answers.placed answers.contained);
      answer_is = answers.answer_is ∙ ap (λ (i : SeqId). option_map (answer_of i.unit) (row_at p answers.placed.rows)) answers.id_is;
    }

-- the sequence of the entry that holds the position
pub held_answers : (selection : Selection) (index : Indexed) (p : spans.Position) (k : ℕ) (entry : Extent) → HolderAnswers
    → IsIndexOf selection index → IsHolderAt index.entries p k → entry ≡ get_or index.entries k entry → Answers selection index p entry.id
held_answers selection index p k entry law is holder at =
    subst (λ (e : Extent). Answers selection index p e.id) (sym at)
    (found_answer selection index p (get_or index.entries k entry) law is (holder.1 entry))

pub found_none : (selection : Selection) (index : Indexed) (p : spans.Position) → HolderAnswers
    → IsIndexOf selection index → NoneHolds index.entries p → None ≡ line_answer selection p
found_none selection index p law is none = sym (law.none (kept_sequences selection) index.entries p is.entries none)

-- ---- the rows of a sequence

-- the place of the unit is that which was found
pub same_place : (units : List ℕ) (unit place found : ℕ) → Some place ≡ position (λ offset. offset == unit) units
    → Some found ≡ position (λ offset. offset == unit) units → place ≡ found
same_place units unit place found p q = same_Some place found (p ∙ sym q)

-- they come where the unit's program keeps the sequence
pub rows_come : (kept : KeptProgram) (unit : UnitParts) (index : ℕ) (rows : List Row) (found : Option SequenceWalk) → KeepsProgram kept unit
    → index < length (sequences unit)
    → ((d : Sequence) → rows ≡ (get_or (sequences unit) index d).rows) → IfNone found (length kept.places ≤ index)
    → IfSome found (λ walk. (unit : UnitParts) (d : Sequence) → KeepsProgram kept unit → WillGive (get_or (sequences unit) index d).rows
    walk)
    → IsSomeAnd found (WillGive rows)
rows_come kept unit index rows None keeps few are none some = absurd (omega (arith, none, keeps.count, few))
rows_come kept unit index rows (Some walk) keeps few are none some =
    let d : Sequence = record { rows = [] } in
    subst (λ (list : List Row). WillGive list walk) (sym (are d)) (some unit d keeps)

room_at : (programs : List KeptProgram) (k : ℕ) (d : KeptProgram) → k < length programs
    → length (get_or programs k d).program < room_of programs
room_at [] k d few = absurd (omega arith)
room_at (kept ∷ programs) zero d few = omega (arith, room_some programs)
  where
    room_some : (list : List KeptProgram) → 0 < room_of list
    room_some [] = omega arith
    room_some (first ∷ list) = omega (arith, room_some list)
room_at (kept ∷ programs) (suc k) d few = omega (arith, room_at programs k d (omega arith))

left_at_most : (walk : SequenceWalk) → rows_left walk ≤ length walk.walk.at.rest
left_at_most walk = by_end walk.ended
  where
    by_end : (t : Bool) → cond t 0 (length walk.walk.at.rest) ≤ length walk.walk.at.rest
    by_end true = omega arith
    by_end false = omega arith

pub rows_few : (programs : List KeptProgram) (place : ℕ) (kept : KeptProgram) (found : Option SequenceWalk) → place < length programs
    → kept ≡ get_or programs place kept
    → IfSome found (λ walk. length walk.walk.at.rest ≤ length kept.program) → IfSome found (λ walk. rows_left walk < room_of programs)
rows_few programs place kept None few is left = tt
rows_few programs place kept (Some walk) few is left =
    omega (arith, left, left_at_most walk, room_at programs place kept few, ap (λ (k : KeptProgram). length k.program) is)

-- ---- tables and files

pub usable_at : (line general : List ℕ) (units : List (ℕ × UnitParts)) (programs : List KeptProgram) (k : ℕ) (d : KeptProgram)
    → AllZip (λ (unit : ℕ × UnitParts) (kept : KeptProgram). KeepsProgram kept unit.1) units programs
    → AllByRecursion (λ (unit : ℕ × UnitParts). AreUsableTables line general unit.1.header) units → k < length programs
    → AreUsableTables line general (get_or programs k d).header
usable_at line general [] [] k d keeps usable few = absurd (omega arith)
usable_at line general (unit ∷ units) (kept ∷ programs) zero d keeps usable few =
    subst (AreUsableTables line general) (sym keeps.0.header_is) usable.0
usable_at line general (unit ∷ units) (kept ∷ programs) (suc k) d keeps usable few =
    usable_at line general units programs k d keeps.1 usable.1 (omega arith)
usable_at line general _ _ k d keeps usable few = absurd keeps

-- the files of programs are those of the units
pub files_zip : (line general : List ℕ) (units : List (ℕ × UnitParts)) (programs : List KeptProgram) (files : List (List KeptFile))
    → AllZip (λ (unit : ℕ × UnitParts) (kept : KeptProgram). KeepsProgram kept unit.1) units programs
    → AllZip (λ (kept : KeptProgram) (some : List KeptFile). AreFilesOf line general kept.header some) programs files
    → AllZip (λ (unit : ℕ × UnitParts) (some : List KeptFile). AreFilesOf line general unit.1.header some) units files
files_zip line general [] [] [] keeps are = tt
files_zip line general [] [] (some ∷ files) keeps are = absurd are
files_zip line general [] (kept ∷ programs) files keeps are = absurd keeps
files_zip line general (unit ∷ units) [] files keeps are = absurd keeps
files_zip line general (unit ∷ units) (kept ∷ programs) [] keeps are = absurd are
files_zip line general (unit ∷ units) (kept ∷ programs) (some ∷ files) keeps are = (
  subst (λ (h : HeaderParts). AreFilesOf line general h some) keeps.0.header_is are.0,
  files_zip line general units programs files keeps.1 are.1,
)

-- as many files as units
pub same_number : (line general : List ℕ) (units : List (ℕ × UnitParts)) (files : List (List KeptFile))
    → AllZip (λ (unit : ℕ × UnitParts) (some : List KeptFile). AreFilesOf line general unit.1.header some) units files
    → length (map (λ (u : ℕ × UnitParts). u.0) units) ≡ length files
same_number line general units files all =
    length-map units (λ (u : ℕ × UnitParts). u.0)
    ∙ sym (AllZip-long (λ (unit : ℕ × UnitParts) (some : List KeptFile). AreFilesOf line general unit.1.header some) units files all)
