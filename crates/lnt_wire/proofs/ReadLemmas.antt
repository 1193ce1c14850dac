-- Reads of a cursor, and their refusals, by the bytes that were passed or are too few.
use Rattle.std.proofs.Common.{◌≡◌, ℕ, ◌<◌, ◌≤◌, take, List, length, ap, arith, length-append, length-take-le, take-append-drop}
use Rattle.lnt_wire.specs.declared.fault.Reason.TheVariants.{Truncated}
use Rattle.lnt_wire.specs.Reading.{At, Reads, RefusesField, IsCutShort, Fault, Reason, Skips}
use Rattle.lnt_wire.specs.Bytes.{NoneSpelled, TakenBytes}
use Rattle.lnt_wire.specs.Numbers.{NumberBytes, Order}
use Rattle.lnt_wire.proofs.LengthLaws.{length-number_bytes}
use Rattle.std.proofs.lemmas.Grind.{common_steps}

-- no prefix of the bytes is longer than they are
none_taken : (count : ℕ) (bytes : List ℕ) → length bytes < count → NoneSpelled (TakenBytes count) bytes
none_taken count bytes short taken spelling more t e = omega (arith, length-append spelling more, ap length e, t.count_is)

pub refuses_short : (count : ℕ) (old : At) (fault : Fault) → length old.rest < count → fault.place ≡ old.place → fault.reason ≡ Truncated
    → RefusesField (IsCutShort count) (TakenBytes count) old fault
refuses_short count old fault short place reason = grind (arith, common_steps, none_taken)

pub reads_number : (order : Order) (size n : ℕ) (taken : List ℕ) (old new : At) → Reads (TakenBytes size) taken old new
    → NumberBytes order size n taken → Reads (NumberBytes order size) n old new
reads_number order size n taken old new r spelled = grind (arith, common_steps)

pub refuses_number : (order : Order) (size : ℕ) (old : At) (fault : Fault) → RefusesField (IsCutShort size) (TakenBytes size) old fault
    → RefusesField (IsCutShort size) (NumberBytes order size) old fault
refuses_number order size old fault r = grind (arith, common_steps, length-number_bytes)

-- the exits of each reader of a number
pub ruleset number_exits = (reads_number, refuses_number)

-- what was spelled by the bytes that were passed
pub reads_skipped : {X : Type 0} (Spells : X → List ℕ → Type 0) (v : X) (size : ℕ) (old new : At) → size ≤ length old.rest
    → Spells v (take size old.rest) → Skips size old new → Reads Spells v old new
reads_skipped Spells v size old new le spelled s = grind (arith, common_steps, take-append-drop, length-take-le)

pub refuses_field : {X : Type 0} (IsSo : Reason → List ℕ → Type 0) (Spells : X → List ℕ → Type 0) (old : At) (fault : Fault)
    → fault.place ≡ old.place → NoneSpelled Spells old.rest × IsSo fault.reason old.rest
    → RefusesField IsSo Spells old fault
refuses_field IsSo Spells old fault place p = record { place = place; reason = p.1; none = p.0 }

pub reads_taken : (size : ℕ) (old new : At) → size ≤ length old.rest → Skips size old new
    → Reads (TakenBytes size) (take size old.rest) old new
reads_taken size old new le s = grind (arith, common_steps, reads_skipped, length-take-le)
