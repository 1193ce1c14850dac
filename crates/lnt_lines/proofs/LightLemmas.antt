-- A unit's program, run with a look at as little of its rows as shows that nothing is wrong with them.
use Rattle.std.proofs.Common.{◌≡◌, ℕ, ◌+◌, ◌-◌, ◌<◌, ◌≤◌, Bool, true, false, cond, List, [], ◌∷◌, ◌++◌, length, refl, sym, ap, subst}
use Rattle.std.proofs.Common.{◌∙◌, append_assoc, append-nil, arith, length-append, nat_le, not, ◌&&◌, IsTrue, MatchOption}
use Rattle.std.proofs.Common.{Option, Some, None, true≢false}
use Rattle.std.proofs.lemmas.Bool.Decides.{nat_tests}
use Rattle.std.proofs.lemmas.Grind.{common_steps}
use Rattle.std.specs.Option.{option_or}
use Rattle.std.proofs.lemmas.List.{map-append}
use Rattle.lnt_header.specs.declared.op.OpView.{OpView}
use Rattle.lnt_header.specs.HeaderRules.{IsHeader}
use Rattle.lnt_ops.specs.Walks.{Ends, GivesOperation, Walk}
use Rattle.lnt_unit.specs.Views.{IsUnitView, View, with_ops}
use Rattle.lnt_machine.proofs.RowLaws.{few_rows}
use Rattle.lnt_machine.specs.declared.row.Row.{Row}
use Rattle.lnt_machine.specs.Matrix.{rows}
use Rattle.lnt_machine.specs.Running.{HasDone, RunsOn, RunState}
use Rattle.lnt_spans.specs.declared.position.Position.{Position}
use Rattle.lnt_spans.specs.Positions.{IsAtMost}
use Rattle.lnt_spans.proofs.PositionLaws.{at_most_itself, test_not_below}
use Rattle.lnt_sequences.specs.declared.collected.Collected.{Collected}
use Rattle.lnt_sequences.specs.declared.watch.Current.{Current}
use Rattle.lnt_sequences.specs.declared.watch.MissingFile.{MissingFile}
use Rattle.lnt_sequences.specs.declared.watch.Watch.{Watch}
use Rattle.lnt_sequences.proofs.EvidenceLemmas.{falls_judged, files_judged}
use Rattle.lnt_sequences.proofs.UnitLaws.{collects_none}
use Rattle.lnt_sequences.proofs.WalkLaws.{shown-append, shown-push}
use Rattle.lnt_sequences.proofs.WatchLemmas.{seen_more}
use Rattle.lnt_sequences.specs.declared.extent.Extent.{Extent}
use Rattle.lnt_sequences.specs.Extents.{extent_between, extents_of}
use Rattle.lnt_sequences.specs.declared.sequence.SeqId.{SeqId}
use Rattle.lnt_sequences.specs.Evidence.{IsFirstFall, IsFirstMissingFile}
use Rattle.lnt_sequences.specs.Rules.{AreOrdered, HaveFiles}
use Rattle.lnt_sequences.specs.Sequences.{begins_live, live_of, Placed, placed_rows, position_of}
use Rattle.lnt_sequences.specs.Watching.{extent_from, extent_shown, falls_after, gone_on, grown, names_no_file, next, noted}
use Rattle.lnt_sequences.specs.Watching.{CollectsRows, counted, HasSeen, Remembers, RowsSoFar, shown, start, walked}
use Rattle.lnt_lines.specs.declared.run.Findings.{Findings}
use Rattle.lnt_lines.specs.declared.light.Begun.{Begun}
use Rattle.lnt_lines.specs.declared.light.Light.{Light}
use Rattle.lnt_lines.specs.declared.light.Passed.{Passed}
use Rattle.lnt_lines.specs.Judging.{CollectsAlso, HasRun}
use Rattle.lnt_lines.specs.Light.{AreCollectedBy, CollectsOne, current_begun, ends_of, Fits, HasCollected, HasPassed, low_with}
use Rattle.lnt_lines.specs.Light.{passed_places, row_at_address, Sees}
use Rattle.lnt_lines.specs.Running.{RanSoFar}
use Rattle.lnt_lines.proofs.RunLemmas.{ran_all, ran_none, ran_quiet, ran_row}

-- ---- the ends of sequences

pub walked_ends : (walk : RowsSoFar) (passed : List Passed) → walk.begun ≡ []
    → ((walked walk (ends_of passed)).begun ≡ []) × ((walked walk (ends_of passed)).ended ≡ walk.ended + length passed)
walked_ends walk [] e = (e, omega arith)
walked_ends walk (one ∷ passed) e =
    let more = walked_ends (next (next walk (row_at_address one.low false)) (row_at_address one.high true)) passed refl in
    (more.0, omega (arith, more.1))

pub ends-push : (passed : List Passed) (one : Passed)
    → ends_of (passed ++ one ∷ []) ≡ ends_of passed ++ row_at_address one.low false ∷ row_at_address one.high true ∷ []
ends-push [] one = refl
ends-push (first ∷ passed) one =
    ap (λ (more : List Row). row_at_address first.low false ∷ row_at_address first.high true ∷ more) (ends-push passed one)

-- what is collected of the ends of one sequence, with these addresses
abbrev pub extent_of_ends : Option ℕ → ℕ → ℕ → ℕ → ℕ → List Extent
extent_of_ends dead unit index low high = cond (begins_live dead (row_at_address low false))
    (extent_between (record { unit = unit; index = index }) (position_of (row_at_address low false))
    (position_of (row_at_address high true))) []

extents_of_ends : (dead : Option ℕ) (unit : ℕ) (walk : RowsSoFar) (one : Passed) → walk.begun ≡ []
    → shown (extent_shown dead unit) walk (row_at_address one.low false ∷ row_at_address one.high true ∷ [])
    ≡ extent_of_ends dead unit walk.ended one.low one.high
extents_of_ends dead unit walk one e = rw e (by_live (begins_live dead (row_at_address one.low false)) _)
  where
    by_live : (t : Bool) (extents : List Extent) → cond t [] [] ++ (cond t extents [] ++ []) ≡ cond t extents []
    by_live true extents = append-nil extents
    by_live false extents = refl

-- ---- one more row of a sequence

same_live : (dead : Option ℕ) (row : Row) → begins_live dead row ≡ begins_live dead (row_at_address row.address false)
same_live None row = refl
same_live (Some marker) row = refl

same_position : (row : Row) → row.op_index ≡ 0 → position_of row ≡ position_of (row_at_address row.address false)
same_position row op = rw op refl

-- the sequence with it
abbrev pub with_row : Option ℕ → ℕ → ℕ → Current
with_row dead low last = record {
  live = begins_live dead (row_at_address low false);
  low = position_of (row_at_address low false);
  last = position_of (row_at_address last false);
}

grown_is : (dead : Option ℕ) (begun : Begun) (row : Row) → row.op_index ≡ 0
    → grown dead (current_begun dead begun) row ≡ with_row dead (low_with begun row) row.address
grown_is dead begun row op = grind (arith, common_steps, cond, same_live)

-- it doesn't fall
no_fall : (dead : Option ℕ) (begun : Begun) (row : Row) → row.op_index ≡ 0 → begun.last ≤ row.address
    → falls_after (current_begun dead begun) row ≡ false
no_fall dead begun row op rises = by_row begun.has_row
  where
    low : IsAtMost (position_of (row_at_address begun.last false)) (position_of row)
    low = record { address = rises; op = λ _. omega arith }

    by_row : (t : Bool) → falls_after (cond t (Some (with_row dead begun.low begun.last)) None) row ≡ false
    by_row true = test_not_below (position_of row) (position_of (row_at_address begun.last false)) low
    by_row false = refl

-- its file is there
file_there : (files : ℕ) (row : Row) → (row.end_sequence ≡ false → row.file < files) → names_no_file files row ≡ false
file_there files row named = by_end row.end_sequence refl
  where
    by_end : (t : Bool) → row.end_sequence ≡ t → not t && nat_le files row.file ≡ false
    by_end true e = refl
    by_end false e = let few = named e in grind (arith, nat_tests)

none_yet : {A : Type 0} (old : Option A) (live test : Bool) (new : A) → old ≡ None → test ≡ false
    → option_or old (cond (live && test) (Some new) None) ≡ None
none_yet old live test new e f = rw (e, f) (by_live live)
  where
    by_live : (t : Bool) → cond (t && false) (Some new) None ≡ None
    by_live true = refl
    by_live false = refl

-- what a row adds to what is collected, after such a sequence and so many ended ones
abbrev pub added_by : Option ℕ → ℕ → Row → Option Current → ℕ → List Extent
added_by dead unit row begun index = cond (grown dead begun row).live (extent_from unit index begun row) []

nothing : (t : Bool) → ◌≡◌ {A = List Extent} (cond t [] []) []
nothing true = refl
nothing false = refl

adds_none : (dead : Option ℕ) (unit : ℕ) (row : Row) (begun : Option Current) (index : ℕ) → row.end_sequence ≡ false
    → added_by dead unit row begun index ≡ []
adds_none dead unit row None index e = nothing (grown dead None row).live
adds_none dead unit row (Some current) index e = rw e (nothing current.live)

-- between a position and itself there is no extent
no_extent : (id : SeqId) (p : Position) → extent_between id p p ≡ []
no_extent id p = ap (λ (t : Bool). cond t (record { low = p; high = p; id = id } ∷ []) []) (test_not_below p p (at_most_itself p))

adds_ended : (dead : Option ℕ) (unit : ℕ) (row : Row) (begun : Begun) (index : ℕ) → row.op_index ≡ 0 → row.end_sequence ≡ true
    → added_by dead unit row (current_begun dead begun) index
    ≡ extent_of_ends dead unit index (low_with begun row) row.address
adds_ended dead unit row begun index op e = by_row begun.has_row
  where
    by_row : (t : Bool) → added_by dead unit row (cond t (Some (with_row dead begun.low begun.last)) None) index
        ≡ extent_of_ends dead unit index (cond t begun.low row.address) row.address
    by_row true = rw (e, op) refl
    by_row false = nothing (begins_live dead row) ∙ sym (ap (λ (all : List Extent).
        cond (begins_live dead (row_at_address row.address false)) all [])
        (no_extent (record { unit = unit; index = index }) (position_of (row_at_address row.address false)))
        ∙ nothing (begins_live dead (row_at_address row.address false)))

-- the ends of one more sequence
ends_add : (dead : Option ℕ) (unit : ℕ) (passed : List Passed) (one : Passed)
    → shown (extent_shown dead unit) start (ends_of (passed ++ one ∷ [])) ≡ shown (extent_shown dead unit) start (ends_of passed)
    ++ extent_of_ends dead unit (length passed) one.low one.high
ends_add dead unit passed one =
    let ends = walked_ends start passed refl in
    ap (shown (extent_shown dead unit) start) (ends-push passed one)
    ∙ shown-append (extent_shown dead unit) start (ends_of passed) (row_at_address one.low false ∷ row_at_address one.high true ∷ [])
    ∙ ap (λ (more : List Extent). shown (extent_shown dead unit) start (ends_of passed) ++ more)
    (extents_of_ends dead unit (walked start (ends_of passed)) one ends.0
    ∙ ap (λ (n : ℕ). extent_of_ends dead unit n one.low one.high) (omega (arith, ends.1)))

counted_few : (n m : ℕ) → n ≡ m → m < 4096 → counted n ≡ m + 1
counted_few n m e few = omega arith

-- what was run so far, of equal things
same_ran : {dead : Option ℕ} {view : View} {walk : Walk} {run run' : RunState} {watch : Watch} {passed passed' : List Passed}
    {place place' : ℕ} → passed' ≡ passed → place' ≡ place → run' ≡ run
    → RanSoFar dead view (AreCollectedBy dead view.unit.offset passed) walk run watch (passed_places passed) place
    → RanSoFar dead view (AreCollectedBy dead view.unit.offset passed') walk run' watch (passed_places passed') place'
same_ran e f g ran = rw (e, f, g) ran

module _ {dead : Option ℕ} {view : View} {walk walk' : Walk} {light light' : Light} {run' : RunState} {item : OpView} {row : Row} {left : ℕ}
    {passed passed' : List Passed} (p : HasPassed dead view walk light passed) (step : GivesOperation item walk walk')
    (on : RunsOn item light.run run' (Some row)) (fits : Fits view light) (left_is : left ≡ length walk'.at.rest)
    (sees : Sees row left (record light { run = run' }) light' passed passed') where
  abbrev so_far : List Row
  so_far = rows (with_ops view p.ran.ops)

  seen : Remembers dead view.unit.offset (length view.header.files) p.watch so_far
  seen = p.ran.seen (omega (arith, few_rows view.header.numbers [] p.ran.ops, p.ran.few, fits.room))

  abbrev current : Current
  current = grown p.watch.dead p.watch.current row

  abbrev watch' : Watch
  watch' = gone_on (noted p.watch row current.live) row current

  current_is : current ≡ with_row dead (low_with light.begun row) row.address
  current_is = ap (λ (d : Option ℕ). grown d p.watch.current row) p.dead_is ∙ ap (λ (c : Option Current). grown dead c row) p.current
      ∙ grown_is dead light.begun row sees.op

  falls : watch'.falls ≡ None
  falls = none_yet p.watch.falls current.live (falls_after p.watch.current row) p.watch.rows p.falls
      (ap (λ (c : Option Current). falls_after c row) p.current ∙ no_fall dead light.begun row sees.op sees.rises)

  missing : watch'.missing_file ≡ None
  missing = none_yet p.watch.missing_file current.live (names_no_file p.watch.files row) _ p.missing
      (ap (λ (n : ℕ). names_no_file n row) (p.files_is ∙ sym fits.files_is) ∙ file_there light.files row sees.file)

  -- what is collected with the row
  adds : shown (extent_shown dead view.unit.offset) start (so_far ++ row ∷ [])
      ≡ shown (extent_shown dead view.unit.offset) start (ends_of passed)
      ++ added_by dead view.unit.offset row (current_begun dead light.begun) (length passed)
  adds =
      let before = walked start so_far in
      shown-push (extent_shown dead view.unit.offset) start so_far row
      ∙ ap (λ (list : List Extent). list ++ extent_shown dead view.unit.offset before row) p.ran.collects
      ∙ ap (λ (c : Option Current). shown (extent_shown dead view.unit.offset) start (ends_of passed)
      ++ added_by dead view.unit.offset row c before.ended) (sym seen.current_is ∙ p.current)
      ∙ ap (λ (n : ℕ). shown (extent_shown dead view.unit.offset) start (ends_of passed)
      ++ added_by dead view.unit.offset row (current_begun dead light.begun) n) (sym seen.ended_is ∙ p.ended)

  sees_more : (dead : Option ℕ) (unit files : ℕ) (all : List Row) → HasSeen dead unit files p.watch all
      → HasSeen dead unit files watch' (all ++ row ∷ [])
  sees_more dead unit files all = seen_more dead unit files all p.watch watch' row current refl refl

  open_row : row.end_sequence ≡ false → light'.run ≡ run' → HasPassed dead view walk' light' passed'
  open_row e run_is =
      let on_is = sees.goes_on e in
      let collected : AreCollectedBy dead view.unit.offset passed (so_far ++ row ∷ []) =
      adds ∙ ap (λ (more : List Extent). shown (extent_shown dead view.unit.offset) start (ends_of passed) ++ more)
      (adds_none dead view.unit.offset row (current_begun dead light.begun) (length passed) e)
      ∙ append-nil (shown (extent_shown dead view.unit.offset) start (ends_of passed)) in
      record {
        watch = watch';
        ran = same_ran on_is.0 on_is.1 run_is (ran_row p.ran step on fits.room refl sees_more collected
            (λ ends. absurd (true≢false (sym ends ∙ e))) (λ _. (refl, refl)));
        dead_is = p.dead_is;
        unit_is = p.unit_is;
        files_is = p.files_is;
        falls = falls;
        missing = missing;
        ended = ap (λ (t : Bool). cond t (counted p.watch.ended) p.watch.ended) e ∙ p.ended ∙ ap length (sym on_is.0);
        current = ap (λ (t : Bool). cond t None (Some current)) e ∙ ap Some current_is ∙ ap (current_begun dead) (sym on_is.2);
        from_first = λ none. absurd (true≢false (ap (λ (b : Begun). b.has_row) (sym on_is.2) ∙ none));
        few = omega (arith, ap length on_is.0, p.few);
      }

  end_row : row.end_sequence ≡ true → light'.run ≡ run' → HasPassed dead view walk' light' passed'
  end_row e run_is =
      let on_is = sees.ends e in
      let one : Passed = record { place = light.place; low = low_with light.begun row; high = row.address } in
      let places : passed_places (passed ++ one ∷ []) ≡ passed_places passed ++ light.place ∷ [] =
      map-append (λ (each : Passed). each.place) passed (one ∷ []) in
      let place : light.length - left ≡ length view.program - length walk'.at.rest = omega (arith, fits.length_is, left_is) in
      let collected : AreCollectedBy dead view.unit.offset (passed ++ one ∷ []) (so_far ++ row ∷ []) =
      adds ∙ ap (λ (more : List Extent). shown (extent_shown dead view.unit.offset) start (ends_of passed) ++ more)
      (adds_ended dead view.unit.offset row light.begun (length passed) sees.op e)
      ∙ sym (ends_add dead view.unit.offset passed one) in
      record {
        watch = watch';
        ran = same_ran on_is.2 on_is.1 run_is (ran_row p.ran step on fits.room refl sees_more collected
            (λ _. (places, place)) (λ other. absurd (true≢false (sym e ∙ other))));
        dead_is = p.dead_is;
        unit_is = p.unit_is;
        files_is = p.files_is;
        falls = falls;
        missing = missing;
        ended = ap (λ (t : Bool). cond t (counted p.watch.ended) p.watch.ended) e
            ∙ counted_few p.watch.ended (length passed) p.ended on_is.0
            ∙ sym (ap length on_is.2 ∙ length-append passed (one ∷ []));
        current = ap (λ (t : Bool). cond t None (Some current)) e ∙ ap (current_begun dead) (sym on_is.3);
        from_first = λ _. ap (λ (b : Begun). b.last) on_is.3;
        few = omega (arith, ap length on_is.2, length-append passed (one ∷ []), on_is.0);
      }

  pub pass_row : light'.run ≡ run' → HasPassed dead view walk' light' passed'
  pass_row run_is = by_end row.end_sequence refl
    where
      by_end : (t : Bool) → row.end_sequence ≡ t → HasPassed dead view walk' light' passed'
      by_end true e = end_row e run_is
      by_end false e = open_row e run_is

-- ---- an operation that makes no row

pub pass_quiet : {dead : Option ℕ} {view : View} {walk walk' : Walk} {light light' : Light} {item : OpView} {passed : List Passed}
    → HasPassed dead view walk light passed → GivesOperation item walk walk' → RunsOn item light.run light'.run None → Fits view light
    → light'.place ≡ light.place → light'.begun ≡ light.begun → HasPassed dead view walk' light' passed
pass_quiet {dead = dead} p step on fits place begun =
    record {
      watch = p.watch;
      ran = same_ran refl place refl (ran_quiet p.ran step on fits.room (λ row is. absurd cc));
      dead_is = p.dead_is;
      unit_is = p.unit_is;
      files_is = p.files_is;
      falls = p.falls;
      missing = p.missing;
      ended = p.ended;
      current = p.current ∙ ap (current_begun dead) (sym begun);
      from_first = λ none. ap (λ (b : Begun). b.last) begun ∙ p.from_first (ap (λ (b : Begun). b.has_row) (sym begun) ∙ none);
      few = p.few;
    }

-- ---- the beginning, and the end

pub pass_none : {dead : Option ℕ} {view : View} {walk : Walk} {light : Light} {passed : List Passed} → walk.numbers ≡ view.header.numbers
    → walk.failed ≡ false → walk.at.place ≡ view.place → walk.at.rest ≡ view.program → walk.at.order ≡ view.header.numbers.order
    → light.run.machine.numbers ≡ view.header.numbers → HasDone light.run [] → light.run.machine.count ≡ 0 → light.place ≡ 0
    → light.begun ≡ record { has_row = false; low = 0; last = 0 } → passed ≡ [] → HasPassed dead view walk light passed
pass_none {dead} {view} {walk} {light} {passed} same going place rest order header has count from begun none =
    let watch : Watch = record {
      dead = dead;
      unit = view.unit.offset;
      files = length view.header.files;
      rows = 0;
      ended = 0;
      current = None;
      falls = None;
      missing_file = None;
    } in
    let seen : HasSeen dead view.unit.offset (length view.header.files) watch [] = λ few. record {
      dead_is = refl;
      unit_is = refl;
      files_is = refl;
      rows_is = refl;
      ended_is = refl;
      current_is = refl;
      falls_is = refl;
      file_is = refl;
    } in
    record {
      watch = watch;
      ran = same_ran none from refl (ran_none dead view view.unit.offset (AreCollectedBy dead view.unit.offset []) walk light.run watch same
          going place rest order refl header has count seen refl);
      dead_is = refl;
      unit_is = refl;
      files_is = refl;
      falls = refl;
      missing = refl;
      ended = sym (ap length none);
      current = ap (current_begun dead) (sym begun);
      from_first = λ _. ap (λ (b : Begun). b.last) begun;
      few = omega (arith, ap length none);
    }

pub pass_all : {dead : Option ℕ} {view : View} {walk walk' : Walk} {light : Light} {passed : List Passed} → IsUnitView view
    → HasPassed dead view walk light passed → Ends walk walk' → IsHeader view.header → light.run.is_open ≡ false
    → HasRun dead view (AreCollectedBy dead view.unit.offset passed) (passed_places passed) (record { missing = None; falls = None })
pass_all is p ends header closed = ran_all is p.ran ends header closed
    (λ dead unit files all seen. subst (λ (missing : Option MissingFile). MatchOption missing
    (HaveFiles files (live_of dead (placed_rows unit all))) (IsFirstMissingFile dead files (placed_rows unit all))) p.missing
    (files_judged dead unit files p.watch all seen))
    (λ dead unit files all seen. subst (λ (falls : Option ℕ). MatchOption falls
    (AreOrdered (live_of dead (placed_rows unit all))) (IsFirstFall dead (placed_rows unit all))) p.falls
    (falls_judged dead unit files p.watch all seen))

pub not_open : (t : Bool) → IsTrue (not t) → t ≡ false
not_open true is = absurd cc
not_open false is = refl

-- ---- what is collected of passed sequences

pub collected_none : {dead : Option ℕ} {unit : ℕ} {watch : Watch} {collected : Collected} {places : List ℕ} → HasSeen dead unit 0 watch []
    → places ≡ [] → HasCollected dead unit [] watch collected collected places
collected_none {dead} {unit} {collected = collected} seen none = record {
  seen = seen;
  collects = λ sequences c. collects_none dead unit collected sequences c;
  places_are = none;
}

-- a watch that sees a row, and what is collected then
abbrev pub Watches : Watch → Watch → Collected → Collected → Row → Type 0
Watches watch watch' now now' row =
    ((dead : Option ℕ) (unit files : ℕ) (rows : List Row) → HasSeen dead unit files watch rows
    → HasSeen dead unit files watch' (rows ++ row ∷ []))
    × ((dead : Option ℕ) (unit files : ℕ) (rows : List Row) (sequences : List Placed) → HasSeen dead unit files watch rows
    → CollectsRows dead unit now sequences rows → CollectsRows dead unit now' sequences (rows ++ row ∷ []))

pub collected_more : (one : Passed) (watch low high : Watch) (now now' new : Collected) (places places' : List ℕ) (first last : Row)
    → first ≡ row_at_address one.low false → last ≡ row_at_address one.high true
    → Watches watch low now now' first → Watches low high now' new last
    → places' ≡ places ++ one.place ∷ [] → CollectsOne one watch high now new places places'
collected_more one watch low high now now' new places places' first last first_is last_is sees_first sees_last more dead unit passed old
    has =
    let both : (ends_of passed ++ first ∷ []) ++ last ∷ [] ≡ ends_of (passed ++ one ∷ []) =
    append_assoc (ends_of passed) (first ∷ []) (last ∷ []) ∙ ap (λ (row : Row). ends_of passed ++ row ∷ last ∷ []) first_is
    ∙ ap (λ (row : Row). ends_of passed ++ row_at_address one.low false ∷ row ∷ []) last_is ∙ sym (ends-push passed one) in
    let seen = sees_first.0 dead unit 0 (ends_of passed) has.seen in
    record {
      seen = subst (HasSeen dead unit 0 high) both (sees_last.0 dead unit 0 (ends_of passed ++ first ∷ []) seen);
      collects = λ sequences c. subst (CollectsRows dead unit new sequences) both
          (sees_last.1 dead unit 0 (ends_of passed ++ first ∷ []) sequences seen
          (sees_first.1 dead unit 0 (ends_of passed) sequences has.seen (has.collects sequences c)));
      places_are = more ∙ ap (λ (list : List ℕ). list ++ one.place ∷ []) has.places_are
          ∙ sym (map-append (λ (each : Passed). each.place) passed (one ∷ []));
    }

-- there are few of their ends
few_ends : (passed : List Passed) → length (ends_of passed) ≡ length passed + length passed
few_ends [] = refl
few_ends (one ∷ passed) = let few = few_ends passed in omega (arith, few)

pub collected_all : {dead : Option ℕ} {unit : ℕ} {passed : List Passed} {watch : Watch} {old new : Collected} {places : List ℕ}
    (all : List Row) → HasCollected dead unit passed watch old new places → length passed ≤ 4096 → AreCollectedBy dead unit passed all
    → CollectsAlso dead unit old new all
collected_all {passed = passed} all has few same sequences c many =
    let both = has.collects sequences c (omega (arith, few, few_ends passed)) in
    record { extents = both.extents ∙ ap (λ (more : List Extent). extents_of sequences ++ more) (sym same) }

-- what was run, with all of it collected
pub run_with : {dead : Option ℕ} {view : View} {C C' : List Row → Type 0} {places places' : List ℕ} {found : Findings}
    → ((rows : List Row) → C rows → C' rows) → places' ≡ places → HasRun dead view C places found → HasRun dead view C' places' found
run_with more same run = record {
  unit = run.unit;
  header_is = run.header_is;
  spelled = run.spelled;
  runs = run.runs;
  few = run.few;
  files = run.files;
  ordered = run.ordered;
  collects = more (rows run.unit) run.collects;
  kept = rw same run.kept;
}
