-- The rows of an older program that name file 0, by the steps of a walk over its rows.
use Rattle.std.proofs.Common.{◌≡◌, ℕ, suc, ◌+◌, ◌<◌, ◌≤◌, ◌⊎◌, inl, inr, true}
use Rattle.std.proofs.Common.{false, List, [], ◌∷◌, ◌++◌, length, refl, sym, ap, subst, ◌∙◌}
use Rattle.std.proofs.Common.{append_assoc, arith, drop, get_or, Option, Some, None, Bool, Ok, Err, is_some, not, true≢false, ◌-◌}
use Rattle.std.specs.List.{cons_option}
use Rattle.std.proofs.lemmas.Bool.{cases_lt}
use Rattle.std.proofs.lemmas.List.{length-append}
use Rattle.lnt_wire.proofs.LengthLaws.{same_rest}
use Rattle.lnt_header.specs.HeaderRules.{AreHeaderNumbers}
use Rattle.lnt_header.specs.declared.numbers.NumberParts.{NumberParts}
use Rattle.lnt_header.specs.declared.op.Op.{Op}
use Rattle.lnt_header.specs.declared.op.OpView.{OpView}
use Rattle.lnt_ops.specs.OpBytes.{OpBytes}
use Rattle.lnt_ops.specs.Walks.{GivesEach, GivesOperation, Walk}
use Rattle.lnt_ops.proofs.OpLaws.{op_code, op_is_some}
use Rattle.lnt_machine.specs.Matrix.{row_made, rows_after}
use Rattle.lnt_machine.specs.declared.row.Row.{Row}
use Rattle.lnt_machine.specs.Registers.{IsLine, line}
use Rattle.lnt_machine.specs.RowWalks.{EndsWith, Makes, RowStep, RowWalk, RunsQuietly, Stops}
use Rattle.lnt_machine.specs.Running.{HasDone, RunsOn, RunState}
use Rattle.lnt_machine.specs.Walking.{LinesAfter}
use Rattle.lnt_machine.specs.declared.fault.RowFault.{RowFault}
use Rattle.lnt_machine.specs.declared.fault.RowFault.TheVariants.{Malformed, Run}
use Rattle.lnt_machine.specs.declared.fault.RunFault.TheVariants.{LineOutOfRange, OpenSequence, Memory}
use Rattle.lnt_older.specs.FileZero.{BeginsWith, IsFirstOfProgram, IsZeroRow}

-- ---- one operation

-- The bytes begin with an operation, which makes this row, if any.
record Passes (h : NumberParts) (back : List Op) (op : Op) (made : Option Row) (bytes next : List ℕ) : Type 0 where
  pub spelling : List ℕ
  pub spelled : OpBytes h op spelling
  pub whole : bytes ≡ spelling ++ next
  pub line_is : IsLine (line h (op ∷ back))
  pub made_is : made ≡ row_made h back op

-- the index of a later row among all from the operation on
abbrev pub after_it : Option Row → ℕ → ℕ
after_it None index = index
after_it (Some row) index = suc index

-- A row that names file 0, of operations from here on: the one that the first of them makes, or one of a later one.
data IsNextZero (h : NumberParts) (back : List Op) (op : Op) (made : Option Row) (next : List ℕ) (index : ℕ) : Type 0 where
  here : (row : Row) → made ≡ Some row → row.end_sequence ≡ false → row.file ≡ 0 → index ≡ 0 → IsNextZero h back op made next index
  later : (rest : ℕ) → index ≡ after_it made rest → IsZeroRow h (op ∷ back) next rest → IsNextZero h back op made next index

module _ {h : NumberParts} {back : List Op} {op : Op} {made : Option Row} {bytes next : List ℕ} (p : Passes h back op made bytes next) where
  begins_more : (ops : List Op) → BeginsWith h (op ∷ back) ops next → BeginsWith h back (op ∷ ops) bytes
  begins_more ops b = record {
    prefix = p.spelling ++ b.prefix;
    rest = b.rest;
    joined = p.whole ∙ ap (λ (z : List ℕ). p.spelling ++ z) b.joined ∙ sym (append_assoc p.spelling b.prefix b.rest);
    spelled = record { prefix = p.spelling; back = b.prefix; first = p.spelled; second = b.spelled; joined = refl };
    lines = (p.line_is, b.lines);
  }

  -- the rows of the operation and of later ones
  rows_from : (ops : List Op) → rows_after h back (op ∷ ops) ≡ cons_option made (rows_after h (op ∷ back) ops)
  rows_from ops = ap (λ (m : Option Row). cons_option m (rows_after h (op ∷ back) ops)) (sym p.made_is)

  zero_here : (row : Row) → made ≡ Some row → row.end_sequence ≡ false → row.file ≡ 0 → IsZeroRow h back bytes 0
  zero_here row is no_end file = record {
    ops = op ∷ [];
    begins = begins_more [] (record { prefix = []; rest = next; joined = refl; spelled = refl; lines = tt });
    before = [];
    row = row;
    after = [];
    rows_are = rows_from [] ∙ ap (λ (m : Option Row). cons_option m []) is;
    index_is = refl;
    no_end = no_end;
    file_is = file;
  }

  zero_later : (index : ℕ) → IsZeroRow h (op ∷ back) next index → IsZeroRow h back bytes (after_it made index)
  zero_later index z = by_made made refl
    where
      by_made : (m : Option Row) → made ≡ m → IsZeroRow h back bytes (after_it m index)
      by_made None is = record {
        ops = op ∷ z.ops;
        begins = begins_more z.ops z.begins;
        before = z.before;
        row = z.row;
        after = z.after;
        rows_are = rows_from z.ops ∙ ap (λ (m : Option Row). cons_option m (rows_after h (op ∷ back) z.ops)) is ∙ z.rows_are;
        index_is = z.index_is;
        no_end = z.no_end;
        file_is = z.file_is;
      }
      by_made (Some row) is = record {
        ops = op ∷ z.ops;
        begins = begins_more z.ops z.begins;
        before = row ∷ z.before;
        row = z.row;
        after = z.after;
        rows_are = rows_from z.ops ∙ ap (λ (m : Option Row). cons_option m (rows_after h (op ∷ back) z.ops)) is
            ∙ ap (λ (rows : List Row). row ∷ rows) z.rows_are;
        index_is = omega (arith, z.index_is);
        no_end = z.no_end;
        file_is = z.file_is;
      }

-- what the row is, where the rows begin with that of the operation
split_rows : (h : NumberParts) (back : List Op) (op : Op) (made : Option Row) (next : List ℕ) (ops : List Op)
    → BeginsWith h (op ∷ back) ops next → (rows before after : List Row) (row : Row) → rows ≡ rows_after h (op ∷ back) ops
    → cons_option made rows ≡ before ++ row ∷ after → row.end_sequence ≡ false → row.file ≡ 0
    → IsNextZero h back op made next (length before)
split_rows h back op None next ops b rows before after row are e no_end file = later (length before) refl (record {
  ops = ops;
  begins = b;
  before = before;
  row = row;
  after = after;
  rows_are = sym are ∙ e;
  index_is = refl;
  no_end = no_end;
  file_is = file;
})
split_rows h back op (Some made) next ops b rows [] after row are e no_end file =
    let same : made ≡ row = ap (λ (l : List Row). get_or l 0 row) e in
    here row (ap Some same) no_end file refl
split_rows h back op (Some made) next ops b rows (first ∷ before) after row are e no_end file =
    later (length before) refl (record {
      ops = ops;
      begins = b;
      before = before;
      row = row;
      after = after;
      rows_are = sym are ∙ ap (λ (l : List Row). drop 1 l) e;
      index_is = refl;
      no_end = no_end;
      file_is = file;
    })

zero_by_ops : (h : NumberParts) (back : List Op) (op : Op) (made : Option Row) (bytes next : List ℕ) → AreHeaderNumbers h
    → Passes h back op made bytes next → (ops : List Op) → BeginsWith h back ops bytes → (before after : List Row) (row : Row)
    → rows_after h back ops ≡ before ++ row ∷ after → row.end_sequence ≡ false → row.file ≡ 0
    → IsNextZero h back op made next (length before)
zero_by_ops h back op made bytes next valid p [] b before after row are no_end file =
    absurd (omega (arith, ap length are, length-append before (row ∷ after)))
zero_by_ops h back op made bytes next valid p (first ∷ ops) b before after row are no_end file =
    let t = b.spelled in
    let all : t.prefix ++ (t.back ++ b.rest) ≡ p.spelling ++ next =
    sym (append_assoc t.prefix t.back b.rest) ∙ ap (λ (z : List ℕ). z ++ b.rest) (sym t.joined) ∙ sym b.joined ∙ p.whole in
    let found = (op_code h valid).one first op t.prefix p.spelling (t.back ++ b.rest) next t.first p.spelled all in
    let past : t.back ++ b.rest ≡ next = same_rest t.prefix p.spelling (t.back ++ b.rest) next found.1 all in
    let lines : LinesAfter h back (op ∷ ops) = subst (λ (o : Op). LinesAfter h back (o ∷ ops)) found.0 b.lines in
    let rows : rows_after h back (op ∷ ops) ≡ before ++ row ∷ after =
    subst (λ (o : Op). rows_after h back (o ∷ ops) ≡ before ++ row ∷ after) found.0 are in
    split_rows h back op made next ops
    (record { prefix = t.back; rest = b.rest; joined = sym past; spelled = t.second; lines = lines.1 })
    (rows_after h (op ∷ back) ops) before after row refl (sym (rows_from p ops) ∙ rows) no_end file

zero_next : {h : NumberParts} {back : List Op} {op : Op} {made : Option Row} {bytes next : List ℕ} → AreHeaderNumbers h
    → Passes h back op made bytes next → (index : ℕ) → IsZeroRow h back bytes index → IsNextZero h back op made next index
zero_next {h} {back} {op} {made} {bytes} {next} valid p index z =
    subst (λ (i : ℕ). IsNextZero h back op made next i) (sym z.index_is)
    (zero_by_ops h back op made bytes next valid p z.ops z.begins z.before z.after z.row z.rows_are z.no_end z.file_is)

-- ---- a walk

-- A walk over rows stands after these operations.
pub record StandsIn (h : NumberParts) (back : List Op) (run : RunState) (walk : Walk) : Type 0 where
  pub valid : AreHeaderNumbers h
  pub run_header : run.machine.numbers ≡ h
  pub walk_header : walk.numbers ≡ h
  pub going : walk.failed ≡ false
  pub done : HasDone run back

-- It went on over an operation.
record GoesOn (h : NumberParts) (back : List Op) (made : Option Row) (walk : Walk) (run' : RunState) (walk' : Walk) : Type 0 where
  pub op : Op
  pub passes : Passes h back op made walk.at.rest walk'.at.rest
  pub stands : StandsIn h (op ∷ back) run' walk'

go_on : {h : NumberParts} {back : List Op} {item : OpView} {made : Option Row} {run run' : RunState} {walk walk' : Walk}
    → StandsIn h back run walk → GivesOperation item walk walk' → RunsOn item run run' made → GoesOn h back made walk run' walk'
go_on {h} {back} {item} {made} {run} {run'} {walk} {walk'} s step on =
    let op = step.gives.op in
    let has = on.done back op s.done step.gives.stands in
    let header : run'.machine.numbers ≡ h = on.machine.done.numbers ∙ s.run_header in
    record {
      op = op;
      passes = record {
        spelling = step.gives.reads.spelling;
        spelled = subst (λ (g : NumberParts). OpBytes g op step.gives.reads.spelling) s.walk_header step.gives.reads.spelled;
        whole = step.gives.reads.whole;
        line_is = subst (λ (g : NumberParts). IsLine (line g (op ∷ back))) header has.machine.line;
        made_is = on.machine.done.row_is back op s.done.machine step.gives.stands
            ∙ ap (λ (g : NumberParts). row_made g back op) s.run_header;
      };
      stands = record {
        valid = s.valid;
        run_header = header;
        walk_header = step.header_is ∙ s.walk_header;
        going = step.goes_on;
        done = has;
      };
    }

-- Operations that made no row were passed: the rows that are to come are the same.
record Carries (h : NumberParts) (back : List Op) (bytes : List ℕ) (run : RunState) (walk : Walk) : Type 0 where
  pub now : List Op
  pub stands : StandsIn h now run walk
  pub up : (index : ℕ) → IsZeroRow h now walk.at.rest index → IsZeroRow h back bytes index
  pub down : (index : ℕ) → IsZeroRow h back bytes index → IsZeroRow h now walk.at.rest index

quiet_down : {h : NumberParts} {back : List Op} {op : Op} {next : List ℕ} {index : ℕ} → IsNextZero h back op None next index
    → IsZeroRow h (op ∷ back) next index
quiet_down (here row is no_end file at) = absurd (true≢false (sym (ap is_some is)))
quiet_down {h} {back} {op} {next} (later rest at z) = subst (λ (i : ℕ). IsZeroRow h (op ∷ back) next i) (sym at) z

carried : (h : NumberParts) (back : List Op) (items : List OpView) (run run' : RunState) (walk walk' : Walk) → StandsIn h back run walk
    → GivesEach items walk walk' → RunsQuietly items run run' → Carries h back walk.at.rest run' walk'
carried h back [] run run' walk walk' s given quiet = record {
  now = back;
  stands = rw (given, quiet) s;
  up = λ index z. subst (λ (w : Walk). IsZeroRow h back w.at.rest index) given z;
  down = λ index z. subst (λ (w : Walk). IsZeroRow h back w.at.rest index) (sym given) z;
}
carried h back (item ∷ items) run run' walk walk' s (next, step, given) (mid, on, quiet) =
    let one = go_on s step on in
    let more = carried h (one.op ∷ back) items mid run' next walk' one.stands given quiet in
    record {
      now = more.now;
      stands = more.stands;
      up = λ index z. zero_later one.passes index (more.up index z);
      down = λ index z. more.down index (quiet_down (zero_next s.valid one.passes index z));
    }

-- no row is to come where no operation can be read and run
no_zero : {h : NumberParts} {back : List Op} {bytes : List ℕ} → ((op : Op) (x more : List ℕ) → OpBytes h op x → x ++ more ≡ bytes
    → IsLine (line h (op ∷ back)) → ⊥) → (index : ℕ) → IsZeroRow h back bytes index → ⊥
no_zero {h} {back} {bytes} blocked index z = by_ops z.ops z.begins z.rows_are
  where
    by_ops : (ops : List Op) → BeginsWith h back ops bytes → rows_after h back ops ≡ z.before ++ z.row ∷ z.after → ⊥
    by_ops [] b are = omega (arith, ap length are, length-append z.before (z.row ∷ z.after))
    by_ops (op ∷ ops) b are =
        let t = b.spelled in
        blocked op t.prefix (t.back ++ b.rest) t.first
        (sym (append_assoc t.prefix t.back b.rest) ∙ ap (λ (z : List ℕ). z ++ b.rest) (sym t.joined) ∙ sym b.joined) b.lines.0

none_empty : {h : NumberParts} {back : List Op} {bytes : List ℕ} → length bytes ≡ 0 → (index : ℕ) → IsZeroRow h back bytes index → ⊥
none_empty {h} {back} {bytes} empty = no_zero
    (λ op x more p e fits. omega (arith, empty, ap length e, length-append x more, op_is_some h op x p))

-- after the operations that make no row the program has ended
none_ended : {h : NumberParts} {back : List Op} {is_open : Bool} {run run' : RunState} {walk walk' : Walk} → StandsIn h back run walk
    → EndsWith is_open run walk run' walk' → (index : ℕ) → IsZeroRow h back walk.at.rest index → ⊥
none_ended {h} {back} {is_open} {run} {run'} {walk} {walk'} s e index z =
    let c = carried h back e.passes.items run run' walk e.walk_before s e.passes.given e.passes.quiet in
    by_end c e.ends.ended
  where
    by_end : (c : Carries h back walk.at.rest run' e.walk_before) → (e.walk_before.failed ≡ true) ⊎ (length e.walk_before.at.rest ≡ 0) → ⊥
    by_end c (inl failed) = true≢false (sym failed ∙ c.stands.going)
    by_end c (inr empty) = none_empty empty index (c.down index z)

none_stopped : {h : NumberParts} {back : List Op} {run : RunState} {walk : Walk} (fault : RowFault) (run' : RunState) (walk' : Walk)
    → StandsIn h back run walk
    → Stops fault run walk run' walk' → (index : ℕ) → IsZeroRow h back walk.at.rest index → ⊥
none_stopped {h} {back} {run} {walk} (Malformed fault) run' walk' s b index z =
    let c = carried h back b.passes.items run run' walk b.walk_before s b.passes.given b.passes.quiet in
    no_zero (λ op x more p e fits.
    let spelled = subst (λ (g : NumberParts). OpBytes g op x) (sym c.stands.walk_header) p in
    b.fails.refuses.none op x more spelled e) index (c.down index z)
none_stopped {h} {back} {run} {walk} (Run (LineOutOfRange count)) run' walk' s l index z =
    let c = carried h back l.passes.items run run' walk l.walk_before s l.passes.given l.passes.quiet in
    let gives = l.step.gives in
    let r = gives.reads in
    no_zero (λ op x more p e fits.
    let spelled : OpBytes h gives.op r.spelling =
    subst (λ (g : NumberParts). OpBytes g gives.op r.spelling) c.stands.walk_header r.spelled in
    let found = (op_code h s.valid).one op gives.op x r.spelling more walk'.at.rest p spelled (e ∙ r.whole) in
    l.leaves c.now gives.op c.stands.done.machine gives.stands
    (subst (λ (g : NumberParts). IsLine (line g (gives.op ∷ c.now))) (sym c.stands.run_header)
    (subst (λ (o : Op). IsLine (line h (o ∷ c.now))) found.0 fits))) index (c.down index z)
none_stopped (Run OpenSequence) run' walk' s e index z = none_ended s e index z
none_stopped (Run Memory) run' walk' s none index z = absurd none

-- A row was made: the rows that are to come follow it.
record MadeRow (h : NumberParts) (back : List Op) (bytes : List ℕ) (row : Row) (run : RunState) (walk : Walk) : Type 0 where
  pub now : List Op
  pub stands : StandsIn h now run walk
  pub here : row.end_sequence ≡ false → row.file ≡ 0 → IsZeroRow h back bytes 0
  pub is_here : IsZeroRow h back bytes 0 → (row.end_sequence ≡ false) × (row.file ≡ 0)
  pub up : (index : ℕ) → IsZeroRow h now walk.at.rest index → IsZeroRow h back bytes (suc index)
  pub down : (index : ℕ) → IsZeroRow h back bytes (suc index) → IsZeroRow h now walk.at.rest index
  pub shorter : length walk.at.rest < length bytes

abbrev row_or : Row → Option Row → Row
row_or row None = row
row_or row (Some made) = made

some_here : {h : NumberParts} {back : List Op} {op : Op} {next : List ℕ} (row : Row) → IsNextZero h back op (Some row) next 0
    → (row.end_sequence ≡ false) × (row.file ≡ 0)
some_here row (here other is no_end file at) =
    let same : row ≡ other = ap (row_or row) is in
    (ap (λ (r : Row). r.end_sequence) same ∙ no_end, ap (λ (r : Row). r.file) same ∙ file)
some_here row (later rest at z) = absurd (omega (arith, at))

some_down : {h : NumberParts} {back : List Op} {op : Op} {next : List ℕ} (row : Row) (index : ℕ)
    → IsNextZero h back op (Some row) next (suc index) → IsZeroRow h (op ∷ back) next index
some_down row index (here other is no_end file at) = absurd (omega (arith, at))
some_down {h} {back} {op} {next} row index (later rest at z) =
    subst (λ (i : ℕ). IsZeroRow h (op ∷ back) next i) (omega (arith, at)) z

fewer : (items : List OpView) (walk walk' : Walk) → GivesEach items walk walk' → length walk'.at.rest ≤ length walk.at.rest
fewer [] walk walk' same = omega (arith, ap (λ (w : Walk). length w.at.rest) same)
fewer (item ∷ items) walk walk' (next, step, given) = omega (arith, step.shorter, fewer items next walk' given)

made_row : {h : NumberParts} {back : List Op} {row : Row} {run run' : RunState} {walk walk' : Walk} → StandsIn h back run walk
    → Makes row run walk run' walk' → MadeRow h back walk.at.rest row run' walk'
made_row {h} {back} {row} {run} {run'} {walk} {walk'} s m =
    let c = carried h back m.passes.items run m.run_before walk m.walk_before s m.passes.given m.passes.quiet in
    let one = go_on c.stands m.step m.made in
    record {
      now = one.op ∷ c.now;
      stands = one.stands;
      here = λ no_end file. c.up 0 (zero_here one.passes row refl no_end file);
      is_here = λ z. some_here row (zero_next s.valid one.passes 0 (c.down 0 z));
      up = λ index z. c.up (suc index) (zero_later one.passes index z);
      down = λ index z. some_down row index (zero_next s.valid one.passes (suc index) (c.down (suc index) z));
      shorter = omega (arith, m.step.shorter, fewer m.passes.items walk m.walk_before m.passes.given);
    }

-- ---- the walk over all rows

pub is_no_end : (ends : Bool) → not ends ≡ true → ends ≡ false
is_no_end false e = refl
is_no_end true e = absurd (true≢false (sym e))

-- Before the row with this index none names file 0. The rows that are to come are those from it on.
pub record IsSought (h : NumberParts) (program : List ℕ) (index : ℕ) (rows : RowWalk) : Type 0 where
  pub going : rows.ended ≡ false
  pub back : List Op
  pub stands : StandsIn h back rows.run rows.walk
  pub none : (k : ℕ) → k < index → IsZeroRow h [] program k → ⊥
  pub up : (k : ℕ) → IsZeroRow h back rows.walk.at.rest k → IsZeroRow h [] program (index + k)
  pub down : (k : ℕ) → IsZeroRow h [] program (index + k) → IsZeroRow h back rows.walk.at.rest k
  pub few : index + length rows.walk.at.rest ≤ length program

zero_on : (k : ℕ) → 0 + k ≡ k
zero_on k = omega arith

pub sought_first : (h : NumberParts) (program : List ℕ) (rows : RowWalk) → AreHeaderNumbers h → rows.run.machine.numbers ≡ h
    → HasDone rows.run [] → rows.walk.numbers ≡ h → rows.walk.at.rest ≡ program → rows.walk.failed ≡ false → rows.ended ≡ false
    → IsSought h program 0 rows
sought_first h program rows valid run_header has walk_header rest going on = record {
  going = on;
  back = [];
  stands = record { valid = valid; run_header = run_header; walk_header = walk_header; going = going; done = has };
  none = λ k lt z. omega (arith, lt);
  up = λ k z. rw (zero_on k) (subst (λ (bytes : List ℕ). IsZeroRow h [] bytes k) rest z);
  down = λ k z. subst (λ (bytes : List ℕ). IsZeroRow h [] bytes k) (sym rest) (rw (zero_on k) at z);
  few = omega (arith, ap length rest);
}

module _ (h : NumberParts) (program : List ℕ) (index : ℕ) (old new : RowWalk) (s : IsSought h program index old) where
  made_by : (row : Row) → RowStep old (Some (Ok row)) new → MadeRow h s.back old.walk.at.rest row new.run new.walk
  made_by row step = made_row s.stands step.is_so

  -- a row that names a file, or an end row
  pub sought_next : (row : Row) → RowStep old (Some (Ok row)) new → ((row.end_sequence ≡ false) × (row.file ≡ 0) → ⊥)
      → IsSought h program (index + 1) new
  sought_next row step other =
      let m = made_by row step in
      let one : (k : ℕ) → (index + 1) + k ≡ index + suc k = λ k. omega arith in
      record {
        going = step.ended_is;
        back = m.now;
        stands = m.stands;
        none = λ k lt z. elim (cases_lt k index) [
          | inl before ↦ s.none k before z
          | inr after ↦ let here : k ≡ index + 0 = omega (arith, lt, after) in
              other (m.is_here (s.down 0 (subst (λ (i : ℕ). IsZeroRow h [] program i) here z)))
        ];
        up = λ k z. subst (λ (i : ℕ). IsZeroRow h [] program i) (sym (one k)) (s.up (suc k) (m.up k z));
        down = λ k z. m.down k (s.down (suc k) (subst (λ (i : ℕ). IsZeroRow h [] program i) (one k) z));
        few = omega (arith, s.few, m.shorter);
      }

  pub sought_small : (row : Row) → RowStep old (Some (Ok row)) new → length new.walk.at.rest < length old.walk.at.rest
  sought_small row step = (made_by row step).shorter

  pub sought_found : (row : Row) → RowStep old (Some (Ok row)) new → row.end_sequence ≡ false → row.file ≡ 0
      → IsFirstOfProgram h program (Some index)
  sought_found row step no_end file = (
    subst (λ (i : ℕ). IsZeroRow h [] program i) (omega arith) (s.up 0 ((made_by row step).here no_end file)),
    s.none,
  )

  none_of : ((k : ℕ) → IsZeroRow h s.back old.walk.at.rest k → ⊥) → IsFirstOfProgram h program None
  none_of left k z = elim (cases_lt k index) [
    | inl before ↦ s.none k before z
    | inr after ↦ let at : k ≡ index + (k - index) = omega (arith, after) in
        left (k - index) (s.down (k - index) (subst (λ (i : ℕ). IsZeroRow h [] program i) at z))
  ]

  pub sought_stopped : (fault : RowFault) → RowStep old (Some (Err fault)) new → IsFirstOfProgram h program None
  sought_stopped fault step = none_of (none_stopped fault new.run new.walk s.stands step.is_so)

  pub sought_ended : RowStep old None new → IsFirstOfProgram h program None
  sought_ended (inl (ended, same)) = absurd (true≢false (sym ended ∙ s.going))
  sought_ended (inr step) = none_of (none_ended s.stands step.is_so)

-- The lemmas of `first_zero_row`.
pub ruleset first_zero_lemmas = (sought_first, sought_next, sought_small, sought_found, sought_stopped, sought_ended)
