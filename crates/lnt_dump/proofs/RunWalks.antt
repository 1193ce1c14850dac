-- The program of a valid unit, run operation by operation, and the lines of its rows.
use Rattle.std.proofs.Common.{◌≡◌, ◌∙◌, ℕ, ◌+◌, ◌^◌, ◌<◌, true, false, List, [], ◌∷◌, ◌++◌, length, take, drop, refl, sym, ap, subst, arith}
use Rattle.std.proofs.Common.{append-nil, take_all, take-append-drop, Option, Some, length-append, length-take-le}
use Rattle.lnt_wire.specs.declared.fault.Fault.{Fault}
use Rattle.std.specs.List.{cons_option}
use Rattle.lnt_io.specs.Prefixes.{AppendsPrefix}
use Rattle.lnt_header.specs.declared.numbers.NumberParts.{NumberParts}
use Rattle.lnt_header.specs.HeaderRules.{IsHeader}
use Rattle.lnt_header.specs.OpRules.{Admits, StandsFor}
use Rattle.lnt_header.specs.declared.op.Op.{Op}
use Rattle.lnt_header.specs.declared.op.OpView.{OpView}
use Rattle.lnt_header.specs.declared.unit_parts.UnitParts.{UnitParts}
use Rattle.lnt_ops.specs.Walks.{Ends, Fails, GivesOperation, Walk}
use Rattle.lnt_unit.proofs.ViewLaws.{given_all, given_broken, given_more, given_none}
use Rattle.lnt_unit.specs.BrokenUnits.{BrokenUnit}
use Rattle.lnt_unit.specs.ConversionSteps.{HasGiven}
use Rattle.lnt_unit.specs.Views.{IsUnitView, View, with_ops}
use Rattle.lnt_machine.specs.declared.fault.RunFault.{RunFault}
use Rattle.lnt_machine.specs.declared.fault.RunFault.TheVariants.{LineOutOfRange, OpenSequence}
use Rattle.lnt_machine.specs.declared.row.Row.{Row}
use Rattle.lnt_machine.specs.Matrix.{IsRunFault, row_made, rows, rows_after, Runs}
use Rattle.lnt_machine.specs.Registers.{line}
use Rattle.lnt_machine.specs.Running.{HasDone, RunsOn, RunState, rows_of_ops}
use Rattle.lnt_machine.specs.State.{LeavesRange}
use Rattle.lnt_machine.proofs.RanLaws.{may_step, no_row, out_taken, ran_all, ran_first, ran_open, ran_taken, ran_whole, rows_taken}
use Rattle.lnt_machine.proofs.RowLaws.{cons_option-append, few_rows}
use Rattle.lnt_machine.specs.Stepping.{HasRan}
use Rattle.lnt_dump.specs.Units.{numbered}
use Rattle.lnt_dump.specs.Operations.{row_line}
use Rattle.lnt_machine.specs.declared.fault.RowFault.TheVariants.{Run}
use Rattle.lnt_dump.specs.Stepping.{IsFaultOf, IsPaged, IsSound, IsUnitOf}
use Rattle.lnt_dump.proofs.Pages.{paged_none, told_cut, told_more}
use Rattle.lnt_dump.proofs.UnitWalks.{IsNextAt, StandsAt, stands_last, stands_first, stands_next, stands_room}

-- ---- the run

-- The program of a unit with these operations was run as far as the walk goes.
pub record IsRunning (view : View) (ops : List Op) (walk : Walk) (run : RunState) : Type 0 where
  pub k : ℕ
  pub at : StandsAt view ops k walk
  pub ran : HasRan view.header.numbers (take k ops) run

pub running_first : {view : View} {ops : List Op} {walk : Walk} {run : RunState} → StandsAt view ops 0 walk
    → run.machine.numbers ≡ view.header.numbers → HasDone run [] → run.machine.count ≡ 0 → IsRunning view ops walk run
running_first {view} {ops} {walk} {run} s header has count =
    record { k = 0; at = s; ran = ran_first header has count }

-- where the program runs, no operation leads out of the range
no_fault : (unit : UnitParts) (fault : RunFault) (k : ℕ) → fault ≡ LineOutOfRange k → Runs unit → IsRunFault unit fault → ⊥
no_fault unit fault k is runs out =
    let f = subst (IsRunFault unit) is out in
    f.2 (runs.lines (k + 1) (omega (arith, f.0)))

-- the rows of the first k operations
abbrev so_far : View → List Op → ℕ → List Row
so_far view ops k = rows_of_ops view.header.numbers (take k ops)

-- the next operation
module _ {view : View} {ops : List Op} {walk walk' : Walk} {run : RunState} {item : OpView} (header : IsHeader view.header)
    (r : IsRunning view ops walk run) (step : GivesOperation item walk walk') where
  -- what may be run
  pub running_allowed : (op : Op) × StandsFor item op × Admits run.machine.numbers op
  running_allowed = may_step item run.machine walk walk' (r.ran.header_is ∙ sym r.at.left.header_is) step

  next : IsNextAt view ops r.k item walk'
  next = stands_next header r.at step

  pub running_next : {run' : RunState} {made : Option Row} → IsUnitView view → RunsOn item run run' made → IsRunning view ops walk' run'
  running_next is on = record {
    k = r.k + 1;
    at = next.at;
    ran = ran_taken (with_ops view ops) r.k item next.op r.ran next.more next.is next.stands on (stands_room is r.at step);
  }

  -- it leads out of the range of lines
  pub running_out : {fault : RunFault} → LeavesRange item run.machine → fault ≡ LineOutOfRange run.machine.count
      → IsRunFault (with_ops view ops) fault
  running_out leaves out =
      subst (IsRunFault (with_ops view ops)) (sym out)
      (out_taken (with_ops view ops) r.k item next.op r.ran next.more next.is next.stands leaves)

  pub running_in : {fault : RunFault} → Runs (with_ops view ops) → LeavesRange item run.machine → fault ≡ LineOutOfRange run.machine.count
      → ⊥
  running_in {fault} runs leaves out = no_fault (with_ops view ops) fault run.machine.count out runs (running_out leaves out)

  rows_next : {run' : RunState} {made : Option Row} → RunsOn item run run' made
      → so_far view ops (r.k + 1) ≡ so_far view ops r.k ++ cons_option made []
  rows_next on = sym (rows_taken (with_ops view ops) r.k item next.op r.ran next.more next.is next.stands on)

-- all were run
module _ {view : View} {ops : List Op} {walk walk' : Walk} {run : RunState} (r : IsRunning view ops walk run) (ends : Ends walk walk') where
  pub running_whole : run.is_open ≡ false → Runs (with_ops view ops)
  running_whole closed = ran_whole (ran_all (with_ops view ops) r.k r.ran (stands_last r.at ends)) closed

  pub running_open : {fault : RunFault} → run.is_open ≡ true → fault ≡ OpenSequence → IsRunFault (with_ops view ops) fault
  running_open opens is =
      subst (IsRunFault (with_ops view ops)) (sym is) (ran_open (ran_all (with_ops view ops) r.k r.ran (stands_last r.at ends)) opens)

-- ---- the lines of rows

-- The lines of this many rows were printed, after the text before them: those of the operations that the walk gave.
pub record RowsPrinted (view : View) (ops : List Op) (index : ℕ) (walk : Walk) (run : RunState) (before page : List ℕ)
    (old now : Option (List ℕ)) : Type 0 where
  pub running : IsRunning view ops walk run
  pub index_is : index ≡ length (so_far view ops running.k)
  pub paged : IsPaged (before ++ numbered row_line 0 (so_far view ops running.k)) old now page

pub rows_none : {view : View} {ops : List Op} {walk : Walk} {run : RunState} (page : List ℕ) (out : Option (List ℕ))
    → StandsAt view ops 0 walk → run.machine.numbers ≡ view.header.numbers → HasDone run [] → run.machine.count ≡ 0
    → RowsPrinted view ops 0 walk run page page out out
unfolding running_first
rows_none {view} {ops} {walk} {run} page out s header has count = record {
  running = running_first s header has count;
  index_is = refl;
  paged = paged_none page out;
}

-- the rows of the first operations begin those of all
rows_prefix : (h : NumberParts) (back xs ys : List Op) → (more : List Row) × (rows_after h back (xs ++ ys) ≡ rows_after h back xs ++ more)
rows_prefix h back [] ys = (rows_after h back ys, refl)
rows_prefix h back (op ∷ xs) ys =
    let prefix = rows_prefix h (op ∷ back) xs ys in
    let made = row_made h back op in
    (prefix.0, ap (cons_option made) prefix.1 ∙ cons_option-append made (rows_after h (op ∷ back) xs) prefix.0)

module _ {view : View} {ops : List Op} {index : ℕ} {walk walk' : Walk} {run run' : RunState} {item : OpView} {made : Option Row}
    {before page : List ℕ} {old now : Option (List ℕ)} (header : IsHeader view.header) (is : IsUnitView view)
    (t : RowsPrinted view ops index walk run before page old now) (step : GivesOperation item walk walk')
    (on : RunsOn item run run' made) where
  -- an operation without a row
  pub rows_quiet : ((row : Row) → made ≡ Some row → ⊥) → RowsPrinted view ops index walk' run' before page old now
  unfolding running_next
  rows_quiet none =
      let list = so_far view ops t.running.k in
      let same : so_far view ops (t.running.k + 1) ≡ list =
      rows_next header t.running step on ∙ ap (λ (z : List Row). list ++ z) (no_row made [] none) ∙ append-nil list in
      record {
        running = running_next header t.running step is on;
        index_is = t.index_is ∙ ap length (sym same);
        paged = subst (λ (rows : List Row). IsPaged (before ++ numbered row_line 0 rows) old now page) (sym same) t.paged;
      }

  row_next : {row : Row} → made ≡ Some row → so_far view ops (t.running.k + 1) ≡ so_far view ops t.running.k ++ row ∷ []
  row_next some =
      rows_next header t.running step on ∙ ap (λ (m : Option Row). so_far view ops t.running.k ++ cons_option m []) some

  -- an operation and the line of its row
  pub rows_more : {row : Row} {page' : List ℕ} {new : Option (List ℕ)} → made ≡ Some row
      → IsPaged (page ++ row_line index row) now new page'
      → RowsPrinted view ops (index + 1) walk' run' before page' old new
  unfolding running_next
  rows_more {row} some line =
      let list = so_far view ops t.running.k in
      record {
        running = running_next header t.running step is on;
        index_is = omega (arith, t.index_is, ap length (row_next some), length-append list (row ∷ []));
        paged = told_more row_line before list row t.index_is (row_next some) t.paged line;
      }

  -- its number, and that of the one after it
  pub rows_room : index + 1 < 2 ^ 64
  rows_room =
      let k = t.running.k in
      omega (
        arith,
        t.index_is,
        few_rows view.header.numbers [] (take k ops),
        length-take-le k ops t.running.at.within,
        stands_room is t.running.at step,
      )

  -- of the line of its row a prefix was written
  pub rows_cut : {row : Row} {new : Option (List ℕ)} → made ≡ Some row → AppendsPrefix now new (page ++ row_line index row)
      → AppendsPrefix old new (before ++ numbered row_line 0 (rows (with_ops view ops)))
  rows_cut {row} some line =
      let k = t.running.k in
      let h = view.header.numbers in
      let list = so_far view ops k in
      let later = rows_prefix h [] (take (k + 1) ops) (drop (k + 1) ops) in
      let all : rows (with_ops view ops) ≡ (list ++ row ∷ []) ++ later.0 =
      ap (rows_after h []) (sym (take-append-drop (k + 1) ops)) ∙ later.1
      ∙ ap (λ (z : List Row). z ++ later.0) (row_next some) in
      told_cut row_line before list later.0 row t.index_is all t.paged line

pub rows_all : {view : View} {ops : List Op} {index : ℕ} {walk walk' : Walk} {run : RunState} {before page : List ℕ}
    {old now : Option (List ℕ)} → RowsPrinted view ops index walk run before page old now → Ends walk walk'
    → IsPaged (before ++ numbered row_line 0 (rows (with_ops view ops))) old now page
rows_all {view} {ops} {index} {walk} {walk'} {run} {before} {page} {old} {now} t ends =
    let r = t.running in
    let all : so_far view ops r.k ≡ rows (with_ops view ops) =
    ap (rows_after view.header.numbers []) (take_all r.k ops (stands_last r.at ends)) in
    subst (λ (list : List Row). IsPaged (before ++ numbered row_line 0 list) old now page) all t.paged

-- ---- a unit that is judged while it is run

-- The operations that were given are valid. If the bytes encode a unit, its program was run as far.
pub record IsJudging (view : View) (walk : Walk) (run : RunState) : Type 0 where
  pub ops : List Op
  pub given : HasGiven view ops walk
  pub header : run.machine.numbers ≡ walk.numbers
  pub running : (all : List Op) → IsUnitOf view all → IsRunning view all walk run

pub judging_first : {view : View} {walk : Walk} {run : RunState} → IsUnitView view → walk.numbers ≡ view.header.numbers
    → walk.failed ≡ false → walk.at.place ≡ view.place → walk.at.rest ≡ view.program → walk.at.order ≡ view.header.numbers.order
    → run.machine.numbers ≡ view.header.numbers → HasDone run [] → run.machine.count ≡ 0 → IsJudging view walk run
judging_first {view} {walk} {run} is header going place rest order same has count = record {
  ops = [];
  given = given_none view walk header going place rest order;
  header = same ∙ sym header;
  running = λ all p. running_first (stands_first view all walk is p header rest going) same has count;
}

module _ {view : View} {walk walk' : Walk} {run : RunState} (header : IsHeader view.header) (is : IsUnitView view)
    (j : IsJudging view walk run) where
  pub judging_next : {run' : RunState} {item : OpView} {made : Option Row} → GivesOperation item walk walk' → RunsOn item run run' made
      → IsJudging view walk' run'
  judging_next {item = item} step on = record {
    ops = j.ops ++ step.gives.op ∷ [];
    given = given_more view j.ops step.gives.op item walk walk' j.given step step.gives.stands;
    header = on.machine.done.numbers ∙ j.header ∙ sym step.header_is;
    running = λ all p. running_next header (j.running all p) step is on;
  }

  -- an operation is refused, and so the bytes encode no unit
  pub judging_fails : {fault : Fault} → Fails fault walk walk' → BrokenUnit view.unit.order fault view.unit.offset view.unit.bytes
  judging_fails {fault} fails = given_broken view j.ops fault walk walk' header is j.given fails

-- all were run
module _ {view : View} {walk walk' : Walk} {run : RunState} (is : IsUnitView view) (j : IsJudging view walk run) (ends : Ends walk walk')
  where
    judged : IsUnitOf view j.ops
    judged = given_all view j.ops walk walk' is j.given ends

    pub judging_whole : run.is_open ≡ false → IsSound view true
    judging_whole closed = (j.ops, judged, λ asked. running_whole (j.running j.ops judged) ends closed)

    pub judging_open : {fault : RunFault} → run.is_open ≡ true → fault ≡ OpenSequence → IsFaultOf view.unit true (Run fault)
    judging_open opens fault_is =
        let fails = running_open (j.running j.ops judged) ends opens fault_is in
        (refl, record { unit = with_ops view j.ops; spelled = judged; is_fault = fails })
