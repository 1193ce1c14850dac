-- What entries say that are read where they lie.
use Rattle.std.proofs.Common.{◌≡◌, ◌≢◌, ℕ, zero, suc, List, [], ◌∷◌, ◌++◌, length, Option, Some, refl, ap, arith, slice_get}
use Rattle.lnt_wire.specs.Reading.{At}
use Rattle.lnt_wire.specs.Borrowed.{value_of}
use Rattle.lnt_wire.specs.declared.form.FormValue.{FormValue}
use Rattle.lnt_wire.specs.declared.format.Format.{Format}
use Rattle.lnt_wire.specs.declared.view.ValueView.{ValueView}
use Rattle.lnt_header_bytes.specs.Stepping.{KeepsEntry}
use Rattle.lnt_header.specs.declared.header.Pair.{Pair}
use Rattle.lnt_files.specs.declared.components.Places.{Places}
use Rattle.lnt_files.specs.Walks.{ArePlaces, EntryView}
use Rattle.lnt_files.specs.Stepping.{ReadsEntry, IsComponent, AreComponents}
use Rattle.std.proofs.lemmas.Grind.{common_steps}

get_earlier : (values : List FormValue) (value : FormValue) (p : ℕ) → p ≢ length values
    → slice_get (values ++ value ∷ []) p ≡ slice_get values p
get_earlier [] value zero other = absurd (other refl)
get_earlier [] value (suc p) other = refl
get_earlier (v ∷ values) value zero other = refl
get_earlier (v ∷ values) value (suc p) other = get_earlier values value p (λ e. other (ap suc e))

get_here : (values : List FormValue) (value : FormValue) → slice_get (values ++ value ∷ []) (length values) ≡ Some value
get_here [] value = refl
get_here (v ∷ values) value = get_here values value

pub kept_here : (values : List FormValue) (value : ValueView) (wanted : Option ℕ) (place : ℕ) → length values ≡ place → wanted ≡ Some place
    → IsComponent wanted (values ++ value_of value ∷ []) (Some value)
kept_here values value wanted place count e = grind (arith, common_steps, get_here)

pub kept_earlier : (values : List FormValue) (value : FormValue) (wanted : Option ℕ) (place : ℕ) (component : Option ValueView)
    → length values ≡ place → wanted ≢ Some place → IsComponent wanted values component
    → IsComponent wanted (values ++ value ∷ []) component
kept_earlier values value wanted place component count other h = grind (arith, common_steps, get_earlier)

-- the components that are kept are those of the entry
pub entry_kept : (format : Format) (pairs : List Pair) (places : Places) (view : EntryView) (old new : At) → ArePlaces places pairs
    → KeepsEntry format pairs (λ values. AreComponents places values view) old new → ReadsEntry format pairs view old new
entry_kept format pairs places view old new are k = grind (arith, common_steps)
