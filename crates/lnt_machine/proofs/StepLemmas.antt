-- A machine that did an operation stands after it.
use Rattle.std.proofs.Common.{◌≡◌, ℕ, ◌+◌, ◌-◌, ◌*◌, ◌%◌, min, ◌^◌, ◌<◌, List, ◌∷◌, refl, sym, ap, subst, ◌∙◌, true, false, arith}
use Rattle.std.proofs.Common.{Bool, Result, Ok, Err}
use Rattle.std.specs.Prelude.{ℤ, pos, negsuc, unsigned_abs, Option, Some, None, IfOk, IsOk, OnErr, if◌then◌else◌}
use Rattle.std.specs.Bool.{then_some}
use Rattle.std.proofs.Math.Nat.{mod-lt}
use Rattle.std.proofs.Math.Pow.{pow_pos}
use Rattle.std.proofs.lemmas.Int.{ints}
use Rattle.lnt_header.specs.declared.numbers.NumberParts.{NumberParts}
use Rattle.lnt_header.specs.declared.op.Op.{Op}
use Rattle.lnt_header.specs.declared.op.Op.TheVariants.{Special, AdvancePc, AdvanceLine, ConstAddPc, FixedAdvancePc}
use Rattle.lnt_header.specs.declared.op.Op.TheVariants.{EndSequence, SetAddress}
use Rattle.lnt_header.specs.declared.op.OpView.{OpView}
use Rattle.lnt_header.specs.declared.op.OpView.TheVariants as views
use Rattle.lnt_header.specs.HeaderRules.{AreHeaderNumbers}
use Rattle.lnt_header.specs.OpRules.{op_of, StandsFor, Admits}
use Rattle.lnt_ops.proofs.ViewLaws.{is_op_of, operands_of}
use Rattle.lnt_machine.specs.Changes.{changed, Changes, initial_registers, IsAllowed, line_reached, made, plain}
use Rattle.lnt_machine.specs.declared.registers.OutOfRange.{OutOfRange}
use Rattle.lnt_machine.specs.Matrix.{row_made, Row}
use Rattle.lnt_machine.specs.Registers.{IsLine, line, registers_after}
use Rattle.lnt_machine.specs.State.{IsBounded, StandsAfter, MachineState, LeavesRange, Does, Steps}
use Rattle.lnt_machine.proofs.ChangeLemmas.{changed_after, line_from, line_into, made_after, pow_bytes}

-- ---- views

-- two operations do the same after `back`
record DoTheSame (h : NumberParts) (back : List Op) (one other : Op) : Type 0 where
  registers : registers_after h (one ∷ back) ≡ registers_after h (other ∷ back)
  line : line h (one ∷ back) ≡ line h (other ∷ back)
  row : row_made h back one ≡ row_made h back other

itself : (h : NumberParts) (back : List Op) (op : Op) → DoTheSame h back op op
itself h back op = record { registers = refl; line = refl; row = refl }

-- the operands of an unknown standard operation make no difference
operands_change_nothing : (h : NumberParts) (back : List Op) (view : OpView) (operands : List ℕ)
    → DoTheSame h back (plain view) (op_of view operands)
operands_change_nothing h back (views.UnknownStandard k spelled) operands = record { registers = refl; line = refl; row = refl }
operands_change_nothing h back view operands = itself h back (plain view)

does_the_same : (h : NumberParts) (back : List Op) (view : OpView) (op : Op) → StandsFor view op → DoTheSame h back (plain view) op
does_the_same h back view op s =
    subst (DoTheSame h back (plain view)) (sym (is_op_of view op s)) (operands_change_nothing h back view (operands_of op))

pub allowed : (h : NumberParts) (view : OpView) (op : Op) → StandsFor view op → Admits h op → IsAllowed h (plain view)
allowed h (views.Special c) (Special d) s a = subst (λ x. IsAllowed h (Special x)) (sym s) a
allowed h (views.Special c) op s a = absurd s
allowed h (views.SetAddress m) (SetAddress n) s a = subst (λ x. IsAllowed h (SetAddress x)) (sym s) a
allowed h (views.SetAddress m) op s a = absurd s
allowed h view op s a = tt

-- ---- bounds

pub line_bounded : (z : ℤ) → IsLine z → unsigned_abs z < 2 ^ 32
line_bounded (pos n) fits = omega (arith, ints, fits.1)
line_bounded (negsuc n) fits = absurd (omega (arith, ints, fits.0))

-- a number cut to the bytes of addresses
cut : (h : NumberParts) (n : ℕ) → n % 2 ^ (8 * h.address_size) < 2 ^ (8 * h.address_size)
cut h n = mod-lt n (pow_pos (8 * h.address_size))

bounded_changed : (h : NumberParts) (r : Row) (op : Op) → IsBounded h r → IsAllowed h op → IsLine (line_reached h r op)
    → IsBounded h (changed h r op)
bounded_changed h r (Special c) b a fits = record { address = cut h _; op_index = mod-lt _ (omega arith); line = line_bounded _ fits }
bounded_changed h r (AdvancePc n) b a fits = record { address = cut h _; op_index = mod-lt _ (omega arith); line = b.line }
bounded_changed h r ConstAddPc b a fits = record { address = cut h _; op_index = mod-lt _ (omega arith); line = b.line }
bounded_changed h r (FixedAdvancePc n) b a fits = record { address = cut h _; op_index = omega arith; line = b.line }
bounded_changed h r (SetAddress n) b a fits = record {
  address = subst (λ (t : ℕ). n < t) (pow_bytes h.address_size) a;
  op_index = omega arith;
  line = b.line;
}
bounded_changed h r (AdvanceLine z) b a fits = record { address = b.address; op_index = b.op_index; line = line_bounded _ fits }
bounded_changed h r EndSequence b a fits = record { address = pow_pos (8 * h.address_size); op_index = omega arith; line = omega arith }
bounded_changed h r op b a fits = record { address = b.address; op_index = b.op_index; line = b.line }

pub bounded_initial : (h : NumberParts) → AreHeaderNumbers h → IsBounded h (initial_registers h)
bounded_initial h valid = record { address = pow_pos (8 * h.address_size); op_index = valid.max_ops; line = omega arith }

-- ---- steps

-- the state of a machine
abbrev state : NumberParts → Row → ℕ → MachineState
state h registers count = record { numbers = h; registers = registers; count = count }

step_bounded : (machine : MachineState) (h : NumberParts) (view : OpView) (old new : Row) (row : Option Row) (m : ℕ)
    → state h old m ≡ machine
    → (o : Op) × StandsFor view o × Admits machine.numbers o → IsBounded h old → Changes h (plain view) old new row → IsBounded h new
step_bounded machine h view old new row m e (o, w, admits) b c =
    let a : IsAllowed h (plain view) = allowed h view o w (subst (λ (x : MachineState). Admits x.numbers o) (sym e) admits) in
    subst (IsBounded h) (sym c.new_is) (bounded_changed h old (plain view) b a c.line)

-- it stands after the operation too
stands_more : (h : NumberParts) (view : OpView) (old new : Row) (row : Option Row) (m n : ℕ) (back : List Op) (op : Op)
    → IsBounded h old → IsAllowed h (plain view) → Changes h (plain view) old new row → StandsAfter (state h old m) back → StandsFor view op
    → StandsAfter (state h new n) (op ∷ back)
stands_more h view old new row m n back op b a c s v =
    let same = does_the_same h back view op v in
    let some : 0 < h.max_ops = omega arith in
    let reached : IsLine (line_reached h (registers_after h back) (plain view)) = subst
    (λ (r : Row). IsLine (line_reached h r (plain view))) s.registers c.line in
    record {
      registers = c.new_is ∙ ap (λ (r : Row). changed h r (plain view)) s.registers ∙ changed_after h back (plain view) some a s.line
          ∙ same.registers;
      line = subst IsLine same.line (line_into h back (plain view) s.line reached);
    }

-- the row is that of the operation
row_more : (h : NumberParts) (view : OpView) (old new : Row) (row : Option Row) (m : ℕ) (back : List Op) (op : Op)
    → IsBounded h old → Changes h (plain view) old new row → StandsAfter (state h old m) back → StandsFor view op → row ≡ row_made h back op
row_more h view old new row m back op b c s v =
    let some : 0 < h.max_ops = omega arith in
    c.row_is ∙ ap (λ (r : Row). made h r (plain view)) s.registers ∙ made_after h back (plain view) some s.line
    ∙ (does_the_same h back view op v).row

does : (machine : MachineState) (h : NumberParts) (view : OpView) (old new : Row) (row : Option Row) (m n : ℕ) → state h old m ≡ machine
    → (o : Op) × StandsFor view o × Admits machine.numbers o → IsBounded h old → Changes h (plain view) old new row
    → Does view machine (state h new n) row
does machine h view old new row m n e (o, w, admits) b c =
    let a : IsAllowed h (plain view) = allowed h view o w (subst (λ (x : MachineState). Admits x.numbers o) (sym e) admits) in
    subst (λ (x : MachineState). Does view x (state h new n) row) e (record {
      stands = λ back op s v. stands_more h view old new row m n back op b a c s v;
      row_is = λ back op s v. row_more h view old new row m back op b c s v;
      numbers = refl;
    })

pub some_if : (given : Bool) (row : Row) → then_some given row ≡ (if given then Some row else None)
some_if true row = refl
some_if false row = refl

-- it was counted
pub counted : (view : OpView) (old new : MachineState) (h : NumberParts) (registers : Row) (m n : ℕ) (row : Option Row)
    → state h registers m ≡ new → Does view old new row → new.count ≡ old.count → n ≡ min (m + 1) (2 ^ 64 - 1)
    → Steps view old (state h registers n) row
counted view old new h registers m n row e d same is =
    let here : Does view old (state h registers m) row = subst (λ (x : MachineState). Does view old x row) (sym e) d in
    let count : m ≡ old.count = ap (λ (x : MachineState). x.count) e ∙ same in
    record {
      done = record {
        stands = λ back op s v. let t = here.stands back op s v in record { registers = t.registers; line = t.line };
        row_is = here.row_is;
        numbers = here.numbers;
      };
      count = is ∙ ap (λ (k : ℕ). min (k + 1) (2 ^ 64 - 1)) count;
    }

-- the line would be out of range
refused : (h : NumberParts) (view : OpView) (old : Row) (m : ℕ) (back : List Op) (op : Op) → (IsLine (line_reached h old (plain view)) → ⊥)
    → StandsAfter (state h old m) back → StandsFor view op → IsLine (line h (op ∷ back)) → ⊥
refused h view old m back op out s v fits =
    let same = does_the_same h back view op v in
    out (subst (λ (r : Row). IsLine (line_reached h r (plain view))) (sym s.registers)
    (line_from h back (plain view) s.line (subst IsLine (sym same.line) fits)))

step_refused : (machine : MachineState) (h : NumberParts) (view : OpView) (old : Row) (m : ℕ) → state h old m ≡ machine
    → (IsLine (line_reached h old (plain view)) → ⊥) → LeavesRange view machine
step_refused machine h view old m e out = subst (LeavesRange view) e (λ back op s v fits. refused h view old m back op out s v fits)

-- ---- what a change of the registers gives of the machine

module _ (machine : MachineState) (h : NumberParts) (view : OpView) (old new : Row) (row : Bool → Option Row) (m n : ℕ)
    (e : state h old m ≡ machine) where
  pub bounded_after : (r : Result Bool OutOfRange) → (o : Op) × StandsFor view o × Admits machine.numbers o → IsBounded h old
      → IfOk r (λ appends. Changes h (plain view) old new (row appends)) → OnErr r (new ≡ old) → IsBounded h new
  bounded_after (Ok appends) allows b c same = step_bounded machine h view old new (row appends) m e allows b c
  bounded_after (Err out) allows b c same = subst (IsBounded h) (sym same) b

  pub does_after : (r : Result Bool OutOfRange) → (o : Op) × StandsFor view o × Admits machine.numbers o → IsBounded h old
      → IfOk r (λ appends. Changes h (plain view) old new (row appends))
      → IfOk r (λ appends. Does view machine (state h new n) (row appends))
  does_after (Ok appends) allows b c = does machine h view old new (row appends) m n e allows b c
  does_after (Err out) allows b c = tt

module _ (machine : MachineState) (h : NumberParts) (view : OpView) (old : Row) (m : ℕ) (e : state h old m ≡ machine) where
  pub refused_after : (r : Result Bool OutOfRange) → OnErr r (IsLine (line_reached h old (plain view)) → ⊥)
      → OnErr r (LeavesRange view machine)
  refused_after (Ok appends) out = tt
  refused_after (Err x) out = step_refused machine h view old m e out

  pub in_range_after : (r : Result Bool OutOfRange) → OnErr r (IsLine (line_reached h old (plain view)) → ⊥) → (back : List Op) (op : Op)
      → StandsAfter machine back → StandsFor view op → IsLine (line machine.numbers (op ∷ back)) → IsOk r
  in_range_after (Ok appends) out back op s v fits = refl
  in_range_after (Err x) out back op s v fits = absurd (step_refused machine h view old m e out back op s v fits)
