-- A fault whose law is known refuses by its place and its reason alone.
use Rattle.std.proofs.Common.{◌≡◌, ℕ, ◌+◌, ◌≤◌, List, [], ◌++◌, length, take, drop, refl, sym, subst, ◌∙◌, add-zero, arith}
use Rattle.std.proofs.lemmas.List.{append-nil, length-take-le, take-append-drop}
use Rattle.lnt_wire.specs.Reading.{At, Reads, RefusesField, Refuses}
use Rattle.lnt_wire.specs.declared.fault.Fault.{Fault}
use Rattle.lnt_wire.specs.declared.fault.Reason.{Reason}
use Rattle.lnt_wire.proofs.FieldFaultLaws.{IsOneFieldFault}
use Rattle.lnt_header.proofs.FirstFaultLaws.{IsOneFault}
use Rattle.std.proofs.lemmas.Grind.{common_steps}

-- a field
pub field_is_refused : {X : Type 0} {Spells : X → List ℕ → Type 0} {IsSo : Reason → List ℕ → Type 0} → IsOneFieldFault Spells IsSo
    → (old : At)
    (fault : Fault) (reason : Reason)
    → fault.place ≡ old.place → fault.reason ≡ reason → IsSo reason old.rest → RefusesField IsSo Spells old fault
field_is_refused {X} {Spells} {IsSo} law old fault reason place same so =
    let here : IsSo fault.reason old.rest = subst (λ (c : Reason). IsSo c old.rest) (sym same) so in
    record { place = place; reason = here; none = law.none fault.reason old.rest here }

module _ {X : Type 0} {Spells : X → List ℕ → Type 0} {IsSo : Reason → List ℕ → List ℕ → Type 0} (law : IsOneFault Spells IsSo)
    (old : At) (fault : Fault) where
  -- a fault between these bytes
  pub so_between : (reason : Reason) (before left : List ℕ) → old.rest ≡ before ++ left → fault.place ≡ old.place + length before
      → fault.reason ≡ reason → IsSo reason before left → Refuses IsSo Spells old fault
  so_between reason before left split place same so = grind (arith, common_steps)

  -- at the cursor
  pub so_here : (reason : Reason) → fault.place ≡ old.place → fault.reason ≡ reason → IsSo reason [] old.rest
      → Refuses IsSo Spells old fault
  so_here reason place same so = so_between reason [] old.rest refl (place ∙ sym (add-zero old.place)) same so

  -- after what was read
  pub so_after : {Y : Type 0} {P : Y → List ℕ → Type 0} {u : Y} {middle : At} → (r : Reads P u old middle)
      → fault.place ≡ middle.place → IsSo fault.reason r.spelling middle.rest → Refuses IsSo Spells old fault
  so_after {Y} {P} {u} {middle} r place so = so_between fault.reason r.spelling middle.rest r.whole (place ∙ r.place) refl so

  -- after so many bytes
  pub so_past : (reason : Reason) (i : ℕ) → i ≤ length old.rest → fault.place ≡ old.place + i → fault.reason ≡ reason
      → IsSo reason (take i old.rest) (drop i old.rest) → Refuses IsSo Spells old fault
  so_past reason i le place same so = so_between reason (take i old.rest) (drop i old.rest) (sym (take-append-drop i old.rest))
      (omega (arith, place, length-take-le i old.rest le)) same so

  -- at the end of the bytes
  pub so_end : (reason : Reason) → fault.place ≡ old.place + length old.rest → fault.reason ≡ reason → IsSo reason old.rest []
      → Refuses IsSo Spells old fault
  so_end reason place same so = so_between reason old.rest [] (sym (append-nil old.rest)) place same so
