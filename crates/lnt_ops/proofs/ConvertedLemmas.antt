-- Programs in another byte order, operation by operation.
use Rattle.std.proofs.Common.{◌≡◌, ℕ, List, [], ◌∷◌, ◌++◌, refl, sym, subst, false, arith}
use Rattle.lnt_wire.specs.Bytes.{Appends, Extends}
use Rattle.lnt_wire.specs.declared.format.Order.{Order}
use Rattle.lnt_header.specs.declared.numbers.NumberParts.{NumberParts}
use Rattle.lnt_header.specs.declared.op.Op.{Op}
use Rattle.lnt_header.specs.declared.op.OpView.{OpView}
use Rattle.lnt_header.specs.Joins.{Each}
use Rattle.lnt_header.proofs.ConversionLaws.{op_in_order}
use Rattle.lnt_header.specs.OpRules.{Admits}
use Rattle.lnt_header.proofs.PutLaws.{each_begun, each_put}
use Rattle.lnt_ops.proofs.OpPutLemmas.{appended_extends}
use Rattle.lnt_ops.proofs.ProgramLaws.{ops_none, walk_more, walk_done}
use Rattle.lnt_ops.specs.OpBytes.{OpBytes}
use Rattle.lnt_header.specs.Conversion.{in_order}
use Rattle.lnt_ops.specs.OpPuts.{IsOpOf, AddsView, AddsOps}
use Rattle.lnt_ops.specs.Stepping.{OpsSoFar}
use Rattle.lnt_ops.specs.Walks.{Walk, Ends, GivesOperation}
use Rattle.std.proofs.lemmas.Grind.{common_steps}

-- the operations that a walk has given so far were added
pub record ConvertedSoFar (h : NumberParts) (place : ℕ) (program : List ℕ) (order : Order) (old : List ℕ) (walk : Walk)
    (new : List ℕ) : Type 0 where
  pub header_is : walk.numbers ≡ h
  pub going : walk.failed ≡ false
  pub ops : List Op
  pub so : OpsSoFar h place program ops walk.at
  pub adds : Appends (Each (OpBytes (in_order h order))) ops old new

pub converted_none : (h : NumberParts) (place : ℕ) (program : List ℕ) (order : Order) (old : List ℕ) (walk : Walk) → walk.numbers ≡ h
    → walk.failed ≡ false → walk.at.place ≡ place → walk.at.rest ≡ program → walk.at.order ≡ h.order
    → ConvertedSoFar h place program order old walk old
converted_none h place program order old walk same going placed rest ordered = grind (arith, common_steps, ops_none, each_begun)

pub converted_more : (h : NumberParts) (place : ℕ) (program : List ℕ) (order : Order) (size : ℕ) (old middle new : List ℕ) (view : OpView)
    (walk next : Walk) → ConvertedSoFar h place program order old walk middle → GivesOperation view walk next
    → size ≡ h.address_size → AddsView order size view middle new → ConvertedSoFar h place program order old next new
converted_more h place program order size old middle new view walk next so step sized put =
    let op = step.gives.op in
    let more = walk_more h place program so.ops op view walk next so.header_is so.so step step.gives.stands in
    record {
      header_is = more.0;
      going = more.1;
      ops = so.ops ++ op ∷ [];
      so = more.2;
      adds =
          let admitted = subst (λ (g : NumberParts). Admits g op) so.header_is step.gives.admitted in
          each_put (OpBytes (in_order h order)) so.ops op old middle new so.adds
          (put.adds (in_order h order) op refl (sym sized) step.gives.stands (op_in_order h order op admitted));
    }

-- a view that a walk gives is one of the header's
pub view_of_header : (h : NumberParts) (size : ℕ) (view : OpView) (walk next : Walk) → walk.numbers ≡ h → size ≡ h.address_size
    → GivesOperation view walk next → IsOpOf size view
view_of_header h size view walk next same sized step = grind (arith, common_steps)

pub converted_all : (h : NumberParts) (place : ℕ) (program : List ℕ) (order : Order) (old new : List ℕ) (walk next : Walk)
    → ConvertedSoFar h place program order old walk new → Ends walk next → AddsOps h program order old new
converted_all h place program order old new walk next so ends =
    record { ops = so.ops; spelled = walk_done h place program so.ops walk next so.going so.so ends; adds = so.adds }

pub converted_extends : (h : NumberParts) (place : ℕ) (program : List ℕ) (order : Order) (old new : List ℕ) (walk : Walk)
    → ConvertedSoFar h place program order old walk new → Extends old new
converted_extends h place program order old new walk so =
    appended_extends (Each (OpBytes (in_order h order))) so.ops old new so.adds

-- The lemmas of `convert_ops`.
pub ruleset convert_ops_lemmas = (converted_none, converted_more, converted_all)
