-- What a call of a reader makes of the bytes that it took.
use Rattle.std.proofs.Common.{◌≡◌, ℕ, ◌<◌, List, [], ◌∷◌, ◌++◌, length, Bool, true, false, MatchBool, Option, Some, None, IfSome, refl, sym}
use Rattle.std.proofs.Common.{ap, subst, ◌∙◌, append_assoc, arith, length-append, append-nil}
use Rattle.lnt_wire.specs.declared.format.Order.{Order}
use Rattle.lnt_wire.specs.declared.fault.Fault.{Fault}
use Rattle.lnt_wire.specs.declared.fault.Reason.{Reason}
use Rattle.lnt_wire.specs.declared.fault.Reason.TheVariants.{Truncated, ReservedLength, VersionNotFive}
use Rattle.lnt_wire.specs.Bytes.{NoneSpelled}
use Rattle.lnt_wire.specs.FrameBytes.{FrameBytes}
use Rattle.lnt_wire.specs.FrameFaults.{IsCutFrame, IsFrameFault}
use Rattle.lnt_wire.specs.FrameFaults.IsCutFrame.{no_length}
use Rattle.lnt_wire.specs.Numbers.{number_bytes}
use Rattle.lnt_io.specs.Pulling.{Pulls}
use Rattle.lnt_wire.specs.Reading.{Refuses}
use Rattle.lnt_wire.proofs.FrameLaws.{no_frame}
use Rattle.lnt_unit.proofs.FrameLaws.{in_frame}
use Rattle.lnt_io.specs.declared.stop.Stop.{Stop}
use Rattle.lnt_io.specs.declared.stop.Stop.TheVariants as source
use Rattle.lnt_unit.specs.Stops.{IfFault, stop_of}
use Rattle.lnt_unit.specs.Units.{SectionEndsBy}

-- ---- a fault of bytes that are not cut is one whatever follows

fault_more : (order : Order) (reason : Reason) (before from more : List ℕ) → (IsCutFrame order (before ++ from) → ⊥)
    → IsFrameFault order reason before from → IsFrameFault order reason before (from ++ more)
fault_more order Truncated [] from more uncut h = absurd (uncut h)
fault_more order Truncated (b ∷ before) from more uncut h = (h.0, h.1, h.2, in_frame order h.0 [] h.1 (b ∷ before) from more h.3)
fault_more order ReservedLength before from more uncut h = (
  h.0,
  record {
    n = h.1.n;
    rest = h.1.rest ++ more;
    low = h.1.low;
    high = h.1.high;
    joined = ap (λ (z : List ℕ). z ++ more) h.1.joined ∙ append_assoc (number_bytes order 4 h.1.n) h.1.rest more;
  },
)
fault_more order (VersionNotFive v) before from more uncut h =
    (h.0, h.1, h.2, h.3, in_frame order h.0 [] (number_bytes order 2 v ++ h.1) before from more h.4)
fault_more order reason before from more uncut h = absurd h

refuses_more : (order : Order) (offset : ℕ) (bytes more : List ℕ) (fault : Fault) → (IsCutFrame order bytes → ⊥)
    → Refuses (IsFrameFault order) (FrameBytes order) (record { place = offset; rest = bytes; order = order }) fault
    → Refuses (IsFrameFault order) (FrameBytes order) (record { place = offset; rest = bytes ++ more; order = order }) fault
refuses_more order offset bytes more fault uncut r =
    let whole : bytes ++ more ≡ r.before ++ (r.left ++ more) = ap (λ (z : List ℕ). z ++ more) r.split ∙ append_assoc r.before r.left more in
    let uncut_split : IsCutFrame order (r.before ++ r.left) → ⊥ = λ h. uncut (subst (IsCutFrame order) (sym r.split) h) in
    let so = fault_more order fault.reason r.before r.left more uncut_split r.reason in
    record {
      before = r.before;
      left = r.left ++ more;
      split = whole;
      place = r.place;
      reason = so;
      none =
          subst (λ (z : List ℕ). NoneSpelled (FrameBytes order) z) (sym whole) (no_frame order fault.reason r.before (r.left ++ more) so);
    }

-- ---- the exits of a call

-- where no byte came, none is left
pub section_ends : (offset : ℕ) (order : Order) (whole : Bool) (old new : Option (List ℕ)) (bytes : List ℕ) → Pulls old new bytes
    → MatchBool whole (IsCutFrame order bytes → ⊥) (IfSome new (λ rest. rest ≡ [])) → bytes ≡ [] → SectionEndsBy offset order old None
section_ends offset order true old new bytes p uncut empty = absurd (uncut (no_length (omega (arith, ap length empty))))
section_ends offset order false None new bytes p ended empty = tt
section_ends offset order false (Some x) None bytes p ended empty = absurd p
section_ends offset order false (Some x) (Some y) bytes p ended empty = p ∙ ap (λ (z : List ℕ). z ++ y) empty ∙ ended

-- where no frame begins the bytes that came, none begins those that the source had
pub section_refused : (offset : ℕ) (order : Order) (whole : Bool) (old new : Option (List ℕ)) (bytes : List ℕ) (fault : Fault)
    → Pulls old new bytes → MatchBool whole (IsCutFrame order bytes → ⊥) (IfSome new (λ rest. rest ≡ [])) → 0 < length bytes
    → Refuses (IsFrameFault order) (FrameBytes order) (record { place = offset; rest = bytes; order = order }) fault
    → SectionEndsBy offset order old (Some fault)
section_refused offset order whole None new bytes fault p end some r = tt
section_refused offset order whole (Some x) None bytes fault p end some r = absurd p
section_refused offset order true (Some x) (Some y) bytes fault p uncut some r = (
  omega (arith, some, ap length p, length-append bytes y),
  subst (λ (z : List ℕ). Refuses (IsFrameFault order) (FrameBytes order) (record { place = offset; rest = z; order = order }) fault)
      (sym p) (refuses_more order offset bytes y fault uncut r),
)
section_refused offset order false (Some x) (Some y) bytes fault p ended some r =
    let all : x ≡ bytes = p ∙ ap (λ (z : List ℕ). bytes ++ z) ended ∙ append-nil bytes in (
      omega (arith, some, ap length all),
      subst (λ (z : List ℕ). Refuses (IsFrameFault order) (FrameBytes order) (record { place = offset; rest = z; order = order }) fault)
          (sym all) r,
    )

-- where no byte came, the source had ended
pub ended_short : (order : Order) (whole long : Bool) (bytes : List ℕ) (ending : Option (List ℕ))
    → MatchBool whole (IsCutFrame order bytes → ⊥) (IfSome ending (λ rest. rest ≡ []))
    → bytes ≡ [] → (whole ≡ false → long ≡ false) → long ≡ false
ended_short order true long bytes ending uncut empty h = absurd (uncut (no_length (omega (arith, ap length empty))))
ended_short order false long bytes ending ended empty h = h refl

-- a source that was stopped tells no fault
pub no_fault : (stop : Stop) (IsSo : Fault → Type 0) → IfFault (stop_of stop) IsSo
no_fault source.Memory IsSo = tt
no_fault source.Read IsSo = tt
no_fault source.TooLong IsSo = tt

-- what the reader of a unit cites
pub ruleset unit_exits = (section_ends, ended_short, section_refused)
