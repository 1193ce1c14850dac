-- A program that is run operation by operation.
use Rattle.std.proofs.Common.{◌≡◌, ℕ, zero, suc, ◌+◌, ◌^◌, ◌<◌, ◌≤◌, Bool, true, false, List, [], ◌∷◌, ◌++◌, length, take, drop, get_or}
use Rattle.std.proofs.Common.{refl, sym, ap, subst, ◌∙◌, append_assoc, arith, not, reverse, Option, Some, None, Result, Ok, Err, true≢false}
use Rattle.std.specs.List.{cons_option}
use Rattle.std.proofs.lemmas.List.{append-nil, drop_more, length-append, length-take-le, reverse-append, take_all, take_more}
use Rattle.std.proofs.lemmas.List.{take-append-drop, take-append-le}
use Rattle.lnt_wire.specs.declared.fault.Fault.{Fault}
use Rattle.lnt_header.specs.declared.unit_parts.UnitParts.{UnitParts}
use Rattle.lnt_header.specs.declared.numbers.NumberParts.{NumberParts}
use Rattle.lnt_header.specs.declared.op.Op.{Op}
use Rattle.lnt_header.specs.declared.op.OpView.{OpView}
use Rattle.lnt_header.specs.OpRules.{Admits, StandsFor}
use Rattle.lnt_ops.specs.Walks.{Fails, GivesOperation, Walk, WalkStep}
use Rattle.lnt_machine.specs.declared.fault.RunFault.TheVariants.{LineOutOfRange, OpenSequence}
use Rattle.lnt_machine.proofs.RowLaws.{lines_more, rows_after-append}
use Rattle.lnt_machine.specs.Cuts.{are_some, IsCut}
use Rattle.lnt_machine.proofs.SequenceLaws.{cut_closed, cut_end, cut_more, cut_none, cut_open, some_after}
use Rattle.lnt_machine.specs.Matrix.{done, IsRunFault, IsRunFaultBy, joined_rows, LinesFit, row_made, RunsBy, sequences_of, Row, Sequence}
use Rattle.lnt_machine.specs.Running.{rows_of_ops, HasDone, open_with, RunsOn, RunState}
use Rattle.lnt_machine.specs.Registers.{IsLine, line}
use Rattle.lnt_machine.specs.State.{MachineState, StandsAfter, LeavesRange}
use Rattle.lnt_machine.specs.Stepping.{HasRan}

-- ---- what a step of a walk gave

pub gives_op : {item : OpView} {given : Result OpView Fault} {old new : Walk} → given ≡ Ok item → WalkStep old (Some given) new
    → GivesOperation item old new
gives_op {old = old} {new = new} is step = subst (λ (r : Result OpView Fault). WalkStep old (Some r) new) is step

pub fails_op : {fault : Fault} {given : Result OpView Fault} {old new : Walk} → given ≡ Err fault → WalkStep old (Some given) new
    → Fails fault old new
fails_op {old = old} {new = new} is step = subst (λ (r : Result OpView Fault). WalkStep old (Some r) new) is step

-- what the machine may do, where its header is that of the walk
pub may_step : (item : OpView) (machine : MachineState) (old new : Walk) → machine.numbers ≡ old.numbers → GivesOperation item old new
    → (op : Op) × StandsFor item op × Admits machine.numbers op
may_step item machine old new same step =
    (step.gives.op, step.gives.stands, subst (λ (h : NumberParts). Admits h step.gives.op) (sym same) step.gives.admitted)

-- ---- the first operations of more

done_longer : (ops more : List Op) (k : ℕ) → k ≤ length ops → done (ops ++ more) k ≡ done ops k
done_longer ops more k le = ap reverse (take-append-le k ops more le)

pub done_next : (ops : List Op) (op : Op) (more : List Op) → done (ops ++ op ∷ more) (length ops + 1) ≡ op ∷ reverse ops
done_next ops op more =
    let size : length (ops ++ op ∷ []) ≡ length ops + 1 = length-append ops (op ∷ []) in
    ap (λ (list : List Op). done list (length ops + 1)) (sym (append_assoc ops (op ∷ []) more))
    ∙ done_longer (ops ++ op ∷ []) more (length ops + 1) (omega (arith, size))
    ∙ ap reverse (take_all (length ops + 1) (ops ++ op ∷ []) (omega (arith, size))) ∙ reverse-append ops (op ∷ [])

lines_longer : (h : NumberParts) (ops more : List Op) → LinesFit h ops (length ops)
    → LinesFit h (ops ++ more) (length ops)
lines_longer h ops more fit j le = subst (λ (back : List Op). IsLine (line h back)) (sym (done_longer ops more j le)) (fit j le)

lines_next : (h : NumberParts) (ops : List Op) (op : Op) → LinesFit h ops (length ops)
    → IsLine (line h (op ∷ reverse ops)) → LinesFit h (ops ++ op ∷ []) (length (ops ++ op ∷ []))
lines_next h ops op fit here =
    let longer = ops ++ op ∷ [] in
    subst (LinesFit h longer) (sym (length-append ops (op ∷ [])))
    (lines_more h longer (length ops) (lines_longer h ops (op ∷ []) fit)
    (subst (λ (back : List Op). IsLine (line h back)) (sym (done_next ops op [])) here))

-- ---- operations that were run

pub ran_first : {h : NumberParts} {run : RunState} → run.machine.numbers ≡ h → HasDone run [] → run.machine.count ≡ 0 → HasRan h [] run
ran_first {h} {run} header has count = record {
  header_is = header;
  stands = has.machine;
  count = count;
  lines = no_lines (subst (λ (g : NumberParts). IsLine (line g [])) header has.machine.line);
  ended = [];
  left = [];
  cut = cut_none;
  open_is = has.open_is;
}
  where
    no_lines : IsLine (line h []) → LinesFit h [] 0
    no_lines fits zero le = fits
    no_lines fits (suc j) le = absurd (omega (arith, le))

-- the cut with the row of an operation, if it makes one
record CutNext (all : List Row) (was_open : Bool) (made : Option Row) : Type 0 where
  ended : List Sequence
  left : List Row
  cut : IsCut (all ++ cons_option made []) ended left
  open_is : open_with was_open made ≡ are_some left

cut_next : (all left : List Row) (ended : List Sequence) (was_open : Bool) (made : Option Row) → IsCut all ended left
    → was_open ≡ are_some left → CutNext all was_open made
cut_next all left ended was_open None cut is = record {
  ended = ended;
  left = left;
  cut = subst (λ (rows : List Row). IsCut rows ended left) (sym (append-nil all)) cut;
  open_is = is;
}
cut_next all left ended was_open (Some row) cut is = by_end row.end_sequence refl
  where
    by_end : (ends : Bool) → row.end_sequence ≡ ends → CutNext all was_open (Some row)
    by_end true e = record {
      ended = ended ++ record { rows = left ++ row ∷ [] } ∷ [];
      left = [];
      cut = cut_end all left ended row cut e;
      open_is = ap not e;
    }
    by_end false e = record {
      ended = ended;
      left = left ++ row ∷ [];
      cut = cut_more all left ended row cut e;
      open_is = ap not e ∙ sym (some_after left row);
    }

pub no_row : (made : Option Row) (rows : List Row) → ((row : Row) → made ≡ Some row → ⊥) → cons_option made rows ≡ rows
no_row None rows none = refl
no_row (Some row) rows none = absurd (none row refl)

-- an operation more
module _ {h : NumberParts} {ops : List Op} {run run' : RunState} {item : OpView} {made : Option Row} (op : Op) (ran : HasRan h ops run)
    (stands : StandsFor item op) (on : RunsOn item run run' made) where
  pub ran_rows : rows_of_ops h ops ++ cons_option made [] ≡ rows_of_ops h (ops ++ op ∷ [])
  ran_rows =
      let back = reverse ops in
      let so_far = rows_of_ops h ops in
      ap (λ (m : Option Row). so_far ++ cons_option m [])
      (on.machine.done.row_is back op ran.stands stands ∙ ap (λ (g : NumberParts). row_made g back op) ran.header_is)
      ∙ ap (λ (b : List Op). so_far ++ cons_option (row_made h b op) []) (sym (append-nil back))
      ∙ sym (rows_after-append h [] ops op)

  pub ran_next : length ops + 1 < 2 ^ 64 → HasRan h (ops ++ op ∷ []) run'
  ran_next few =
      let after : StandsAfter run'.machine (op ∷ reverse ops) = on.machine.done.stands (reverse ops) op ran.stands stands in
      let header : run'.machine.numbers ≡ h = on.machine.done.numbers ∙ ran.header_is in
      let cut = cut_next (rows_of_ops h ops) ran.left ran.ended run.is_open made ran.cut ran.open_is in
      record {
        header_is = header;
        stands = subst (StandsAfter run'.machine) (sym (reverse-append ops (op ∷ []))) after;
        count = omega (arith, on.machine.count, ran.count, few, length-append ops (op ∷ []));
        lines = lines_next h ops op ran.lines (subst (λ (g : NumberParts). IsLine (line g (op ∷ reverse ops))) header after.line);
        ended = cut.ended;
        left = cut.left;
        cut = subst (λ (rows : List Row). IsCut rows cut.ended cut.left) ran_rows cut.cut;
        open_is = on.open_is ∙ cut.open_is;
      }

-- the next operation leads out of the range of lines
pub ran_out : {h : NumberParts} {ops : List Op} {run : RunState} (item : OpView) (op : Op) (more : List Op) → HasRan h ops run
    → StandsFor item op → LeavesRange item run.machine
    → IsRunFaultBy h (ops ++ op ∷ more) (LineOutOfRange run.machine.count)
ran_out {h} {ops} {run} item op more ran stands leaves =
    let out : IsLine (line h (done (ops ++ op ∷ more) (length ops + 1))) → ⊥ =
    λ fits. leaves (reverse ops) op ran.stands stands
    (subst (λ (g : NumberParts). IsLine (line g (op ∷ reverse ops))) (sym ran.header_is)
    (subst (λ (back : List Op). IsLine (line h back)) (done_next ops op more) fits)) in
    subst (λ (k : ℕ). IsRunFaultBy h (ops ++ op ∷ more) (LineOutOfRange k)) (sym ran.count)
    (omega (arith, length-append ops (op ∷ more)), lines_longer h ops (op ∷ more) ran.lines, out)

pub ran_whole : {h : NumberParts} {ops : List Op} {run : RunState} → HasRan h ops run → run.is_open ≡ false
    → RunsBy h ops
ran_whole {h} {ops} {run} ran closed = record { lines = ran.lines; closed = by_left ran.left ran.open_is ran.cut }
  where
    by_left : (left : List Row) → run.is_open ≡ are_some left → IsCut (rows_of_ops h ops) ran.ended left
        → joined_rows (sequences_of (rows_of_ops h ops)) ≡ rows_of_ops h ops
    by_left [] e cut = cut_closed (rows_of_ops h ops) ran.ended cut
    by_left (row ∷ left) e cut = absurd (true≢false (sym e ∙ closed))

pub ran_open : {h : NumberParts} {ops : List Op} {run : RunState} → HasRan h ops run → run.is_open ≡ true
    → IsRunFaultBy h ops OpenSequence
ran_open {h} {ops} {run} ran opens = (ran.lines, by_left ran.left ran.open_is ran.cut)
  where
    by_left : (left : List Row) → run.is_open ≡ are_some left → IsCut (rows_of_ops h ops) ran.ended left
        → joined_rows (sequences_of (rows_of_ops h ops)) ≡ rows_of_ops h ops → ⊥
    by_left [] e cut = absurd (true≢false (sym opens ∙ e))
    by_left (row ∷ left) e cut = cut_open (rows_of_ops h ops) left ran.ended row cut

-- ---- the first k operations of a unit, and the next one

module _ (unit : UnitParts) (k : ℕ) (item : OpView) (op : Op) {run : RunState} (ran : HasRan unit.header.numbers (take k unit.ops) run)
    (more : k < length unit.ops) (is : op ≡ get_or unit.ops k op) (stands : StandsFor item op) where
  taken : take k unit.ops ++ op ∷ [] ≡ take (k + 1) unit.ops
  taken = ap (λ (o : Op). take k unit.ops ++ o ∷ []) is ∙ sym (take_more unit.ops k op more)

  pub rows_taken : {run' : RunState} {made : Option Row} → RunsOn item run run' made
      → rows_of_ops unit.header.numbers (take k unit.ops) ++ cons_option made [] ≡ rows_of_ops unit.header.numbers (take (k + 1) unit.ops)
  rows_taken on = ran_rows op ran stands on ∙ ap (rows_of_ops unit.header.numbers) taken

  pub ran_taken : {run' : RunState} {made : Option Row} → RunsOn item run run' made → k + 1 < 2 ^ 64
      → HasRan unit.header.numbers (take (k + 1) unit.ops) run'
  ran_taken {run'} on few =
      subst (λ (ops : List Op). HasRan unit.header.numbers ops run') taken
      (ran_next op ran stands on (omega (arith, few, length-take-le k unit.ops (omega (arith, more)))))

  pub out_taken : LeavesRange item run.machine → IsRunFault unit (LineOutOfRange run.machine.count)
  out_taken leaves =
      let whole : take k unit.ops ++ op ∷ drop (k + 1) unit.ops ≡ unit.ops =
      ap (λ (o : Op). take k unit.ops ++ o ∷ drop (k + 1) unit.ops) is
      ∙ ap (λ (list : List Op). take k unit.ops ++ list) (sym (drop_more unit.ops k op more)) ∙ take-append-drop k unit.ops in
      subst (λ (ops : List Op). IsRunFaultBy unit.header.numbers ops (LineOutOfRange run.machine.count)) whole
      (ran_out item op (drop (k + 1) unit.ops) ran stands leaves)

-- all of them were run
pub ran_all : (unit : UnitParts) (k : ℕ) {run : RunState} → HasRan unit.header.numbers (take k unit.ops) run → length unit.ops ≤ k
    → HasRan unit.header.numbers unit.ops run
ran_all unit k {run} ran all = subst (λ (ops : List Op). HasRan unit.header.numbers ops run) (take_all k unit.ops all) ran
