-- Whole walks, over the operations of a unit and over the units of a section.
use Rattle.std.proofs.Common.{ℕ, ◌+◌, ◌<◌, ◌≤◌, List, [], ◌∷◌, ◌++◌, length, refl, sym, subst, append_assoc, append-nil, arith}
use Rattle.std.proofs.Common.{length-append}
use Rattle.std.specs.List.{AllZip}
use Rattle.lnt_wire.specs.declared.fault.Fault.{Fault}
use Rattle.lnt_wire.specs.declared.format.Order.{Order}
use Rattle.lnt_wire.specs.FrameBytes.{FrameBytes}
use Rattle.lnt_wire.proofs.LengthLaws.{length-initial}
use Rattle.lnt_header.specs.OpRules.{StandsFor}
use Rattle.lnt_header.specs.declared.op.Op.{Op}
use Rattle.lnt_header.specs.declared.op.OpView.{OpView}
use Rattle.lnt_ops.specs.Walks.{GivesOperation, Walk, GivesEach}
use Rattle.lnt_unit.specs.Units as stream
use Rattle.lnt_header.specs.declared.unit_parts.UnitParts.{UnitParts}
use Rattle.lnt_unit.specs.BrokenUnits.{BrokenSection, BrokenUnit, IsTrueFault}
use Rattle.lnt_unit.specs.Laws.{AreGiven, BeginsOf, FaultOfSection, WholeWalk}
use Rattle.lnt_unit.proofs.BrokenLaws.{frame_broken}
use Rattle.lnt_unit.proofs.FrameLaws.{broken_more}
use Rattle.lnt_unit.proofs.UnitLaws.{no_section}
use Rattle.lnt_unit.proofs.ViewLaws.{given_all, given_broken, given_more, given_none}
use Rattle.lnt_unit.specs.UnitBytes.{SectionBytes}
use Rattle.lnt_unit.specs.Views.{View}
use Rattle.lnt_unit.specs.ConversionSteps.{HasGiven}
use Rattle.std.proofs.lemmas.Grind.{common_steps}

-- ---- operations

zip_push : {X Y : Type 0} (R : X → Y → Type 0) (xs : List X) (ys : List Y) (x : X) (y : Y) → AllZip R xs ys → R x y
    → AllZip R (xs ++ x ∷ []) (ys ++ y ∷ [])
zip_push R [] [] x y z r = (r, tt)
zip_push R [] (b ∷ ys) x y z r = absurd z
zip_push R (a ∷ xs) [] x y z r = absurd z
zip_push R (a ∷ xs) (b ∷ ys) x y z r = (z.0, zip_push R xs ys x y z.1 r)

-- so many were given, each of a byte or more
record HasWalked (view : View) (items : List OpView) (walk : Walk) : Type 0 where
  ops : List Op
  given : HasGiven view ops walk
  stand : AllZip StandsFor items ops
  few : length items + length walk.at.rest ≤ length view.program

walked_none : (view : View) (walk : Walk) → BeginsOf view walk → HasWalked view [] walk
walked_none view walk b = grind (arith, common_steps, given_none)

walked_more : (view : View) (items : List OpView) (item : OpView) (old new : Walk) → HasWalked view items old → GivesOperation item old new
    → HasWalked view (items ++ item ∷ []) new
walked_more view items item old new so step =
    let op = step.gives.op in
    record {
      ops = so.ops ++ op ∷ [];
      given = given_more view so.ops op item old new so.given step step.gives.stands;
      stand = zip_push StandsFor items so.ops item op so.stand step.gives.stands;
      few = omega (arith, so.few, step.shorter, length-append items (item ∷ []));
    }

walked : (view : View) (before items : List OpView) (old new : Walk) → HasWalked view before old → GivesEach items old new
    → HasWalked view (before ++ items) new
walked view before [] old new so same =
    subst (λ (list : List OpView). HasWalked view list new) (sym (append-nil before)) (subst (HasWalked view before) (sym same) so)
walked view before (item ∷ items) old new so (next, step, more) =
    subst (λ (list : List OpView). HasWalked view list new) (append_assoc before (item ∷ []) items)
    (walked view (before ++ item ∷ []) items next new (walked_more view before item old next so step) more)

are_given : (view : View) (items : List OpView) (walk : Walk) → (so : HasWalked view items walk) → AreGiven view items so.ops
are_given view items walk so = record { stand = so.stand; admitted = so.given.so.admitted; few = omega (arith, so.few) }

from_start : (view : View) (start now : Walk) (items : List OpView) → BeginsOf view start → GivesEach items start now
    → HasWalked view items now
from_start view start now items b gives = walked view [] items start now (walked_none view start b) gives

pub whole_walk : WholeWalk
whole_walk = record {
  given = λ view start now items b gives. let so = from_start view start now items b gives in (so.ops, are_given view items now so);
  all = λ view start now end items is b gives ends.
      let so = from_start view start now items b gives in
      (so.ops, are_given view items now so, given_all view so.ops now end is so.given ends);
  broken = λ view start now end items fault header is b gives fails.
      let so = from_start view start now items b gives in given_broken view so.ops fault now end header is so.given fails;
}

-- ---- units

broken_after : (order : Order) (units : List (ℕ × UnitParts)) (prefix rest : List ℕ) (fault : Fault) → SectionBytes order units prefix
    → 0 < length rest → BrokenUnit order fault (length prefix) rest → BrokenSection order fault (prefix ++ rest)
broken_after order units prefix rest fault spelled some b =
    let t : IsTrueFault order fault (prefix ++ rest) = record {
      units = units;
      prefix = prefix;
      rest = rest;
      sound = spelled;
      some = some;
      split = refl;
      broken = b;
    } in
    record { none = no_section order fault (prefix ++ rest) t; true_fault = t }

-- a whole unit has some byte
frame_some : (unit : stream.BufferedUnit) → (is : stream.IsWholeUnit unit) → 0 < length unit.bytes
frame_some unit is = grind (arith, common_steps, length-append, length-initial)

pub fault_of_section : FaultOfSection
fault_of_section = record {
  next = λ order units prefix rest fault spelled ends. broken_after order units prefix rest fault spelled ends.0
      (frame_broken order (record { place = length prefix; rest = rest; order = order }) fault ends.1);
  here = λ order units prefix more unit fault spelled is at same b.
      let all : BrokenUnit order fault unit.offset (unit.bytes ++ more) =
      broken_more order fault unit.offset (is.format, is.body) unit.bytes more
      (subst (λ (o : Order). FrameBytes o (is.format, is.body) unit.bytes) same is.spelled) b in
      broken_after order units prefix (unit.bytes ++ more) fault spelled (omega (arith, length-append unit.bytes more, frame_some unit is))
      (subst (λ (n : ℕ). BrokenUnit order fault n (unit.bytes ++ more)) at all);
  alone = λ order offset rest fault ends. frame_broken order (record { place = offset; rest = rest; order = order }) fault ends.1;
}
