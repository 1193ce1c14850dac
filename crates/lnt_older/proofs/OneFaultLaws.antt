-- What is wrong with the bytes in which no unit of version 2 to 5 stands, and with a section of such units, is one.
use Rattle.std.proofs.Common.{◌≡◌, ◌≢◌, ℕ, ◌+◌, ◌^◌, ◌<◌, ◌≤◌, List, [], ◌∷◌, ◌++◌, length, refl, sym, ap, subst, ◌∙◌, append_assoc, arith}
use Rattle.std.proofs.Common.{Option, Some, None}
use Rattle.std.proofs.lemmas.List.{append-nil, length-append}
use Rattle.lnt_wire.specs.Bytes.{IsCode, NoneSpelled}
use Rattle.lnt_wire.specs.FrameFaults.{InFrame, IsVersionFault}
use Rattle.lnt_wire.specs.Numbers.{number_bytes, offset_size}
use Rattle.lnt_wire.specs.declared.fault.Fault.{Fault}
use Rattle.lnt_wire.specs.declared.fault.Reason.{Reason}
use Rattle.lnt_wire.specs.declared.format.Format.{Format}
use Rattle.lnt_wire.specs.declared.format.Order.{Order}
use Rattle.lnt_wire.proofs.FieldFaultLaws.{IsOneFieldFault}
use Rattle.lnt_wire.proofs.FrameFaultLaws.{frame_fault_at, IsFrameFaultAt, IsOutside, outside_none, outside_one, same_frame, same_place}
use Rattle.lnt_wire.proofs.FrameFaultLaws.{version_one}
use Rattle.lnt_wire.proofs.FrameFaultLaws.IsFrameFaultAt.{outside_frame, in_version}
use Rattle.lnt_wire.proofs.LengthLaws.{same_number_prefix, same_prefix, same_rest, width_2}
use Rattle.lnt_wire.proofs.ValueLaws.{offset_width}
use Rattle.lnt_header.specs.FieldFaults.{FirstOf}
use Rattle.lnt_header.specs.FieldFaults.FirstOf.{first, second}
use Rattle.lnt_header.proofs.FirstFaultLaws.{AreOne, field_fault, first_one, IsHere}
use Rattle.lnt_header_bytes.specs.HeaderFaults.{IsCountedFault}
use Rattle.lnt_header_bytes.proofs.HeaderLaws.{below}
use Rattle.lnt_header_bytes.proofs.StartReaders.{counted_fault}
use Rattle.lnt_header.specs.Joins.{PlacedFrom}
use Rattle.lnt_csv.proofs.RecordLaws.{same_least}
use Rattle.lnt_unit.proofs.OneFaultLemmas.{same_fault}
use Rattle.lnt_older.specs.OlderBytes.{version_number, OlderVersion}
use Rattle.lnt_older.specs.Directories.{directory_at, Directory, IsBadRecord}
use Rattle.lnt_older.specs.Laws.{OneUpgradeFault}
use Rattle.lnt_older.specs.OlderUnits.{AnyBytes, AnyParts, five_parts, IsAnyFault, older_parts}
use Rattle.lnt_older.specs.OlderUnits.IsAnyFault.{frame, header_length, of_fields}
use Rattle.lnt_older.specs.Sections.{AnySection, AreListed, CanBeUpgraded, CanUpgrade}
use Rattle.lnt_older.specs.Sections.{HasOlder, HasUnits, IsBroken, IsLargeAt, IsUpgradeFault}
use Rattle.lnt_older.specs.Sections.{older_offsets}
use Rattle.lnt_older.specs.UnitReading.{IsPastFault}
use Rattle.lnt_older.specs.UnitReading.IsPastFault.{of_length, of_field}
use Rattle.lnt_older.specs.declared.section.UpgradeFault.{UpgradeFault}
use Rattle.lnt_older.specs.declared.section.UpgradeFault.TheVariants.{Malformed, Directories, TooLarge, FileZero, Memory}
use Rattle.lnt_older.specs.FileZero.{IsZeroRowAt, NamesFiles}
use Rattle.lnt_older.proofs.FirstFieldLaws.{fields_fault}
use Rattle.lnt_older.proofs.NoUnitLemmas.{IsNoOlder, other_version, same_version, small_version}
use Rattle.lnt_older.proofs.OneListingLaws.{bad_one, listed_none, listed_one}
use Rattle.lnt_older.proofs.PlacedLaws.{placed_at, placed_once}
use Rattle.lnt_older.proofs.SectionLemmas.{IsSpelled}
use Rattle.lnt_older.proofs.SizeLemmas.{newer_of}
use Rattle.lnt_older.proofs.UpgradeLaws.{any_once, five_not_older, some_bytes}

-- ---- what stands after the version

module _ (format : Format) (order : Order) where
  abbrev number_of : List ℕ → List ℕ
  number_of counted = number_bytes order (offset_size format) (length counted)

  -- header_length, the fields that it counts, and what follows them
  counted_on : (fields left program before from : List ℕ) → before ≡ number_of (fields ++ left) ++ fields → from ≡ left ++ program
      → before ++ from ≡ number_of (fields ++ left) ++ ((fields ++ left) ++ program)
  counted_on fields left program before from joined whole = simp (joined, whole, append_assoc)

  few : (fields left program bytes : List ℕ) → bytes ≡ number_of (fields ++ left) ++ ((fields ++ left) ++ program)
      → length (fields ++ left) ≤ length bytes
  few fields left program bytes e = omega (
    arith,
    ap length e,
    length-append (number_of (fields ++ left)) ((fields ++ left) ++ program),
    length-append (fields ++ left) program,
  )

  -- in as many bytes as the format can count
  abbrev IsPast : OlderVersion → Reason → List ℕ → List ℕ → Type 0
  IsPast version reason before from =
      (length (before ++ from) < 256 ^ offset_size format) × IsPastFault format version order reason before from

  -- header_length isn't at fault where the fields that it counts are there
  length_apart : (reason : Reason) (from counted program : List ℕ) → IsCountedFault format order reason from
      → length counted < 256 ^ offset_size format → from ≡ number_of counted ++ (counted ++ program) → ⊥
  length_apart reason from counted program h fits e =
      (counted_fault format order).none reason from h counted (number_of counted ++ counted) program
      (record {
        prefix = number_of counted;
        back = counted;
        first = record { fits = fits; spelled = refl };
        second = refl;
        joined = refl;
      }) (append_assoc (number_of counted) counted program ∙ sym e)

  past_one : (version : OlderVersion) → AreOne (IsPast version)
  past_one version reason other before before' from from' (fits, of_length nothing h) (fits', of_length nothing' k) e =
      let same : from ≡ from' = same_rest before before' from from' (nothing ∙ sym nothing') e in (
        (counted_fault format order).one reason other from h (rw same k),
        nothing ∙ sym nothing',
      )
  past_one version reason other before before' from from' (fits, of_length nothing h)
      (fits', of_field fields left program joined whole k) e =
      let all = counted_on fields left program before' from' joined whole in
      let le = few fields left program (before' ++ from') all in
      absurd (length_apart reason from (fields ++ left) program h (omega (arith, fits', le))
      (ap (λ (z : List ℕ). z ++ from) (sym nothing) ∙ e ∙ all))
  past_one version reason other before before' from from' (fits, of_field fields left program joined whole h)
      (fits', of_length nothing k) e =
      let all = counted_on fields left program before from joined whole in
      let le = few fields left program (before ++ from) all in
      absurd (length_apart other from' (fields ++ left) program k (omega (arith, fits, le))
      (ap (λ (z : List ℕ). z ++ from') (sym nothing) ∙ sym e ∙ all))
  past_one version reason other before before' from from' (fits, of_field fields left program joined whole h)
      (fits', of_field fields' left' program' joined' whole' k) e =
      let all = counted_on fields left program before from joined whole in
      let others = counted_on fields' left' program' before' from' joined' whole' in
      let le = few fields left program (before ++ from) all in
      let le' = few fields' left' program' (before' ++ from') others in
      let numbers = same_number_prefix order (offset_size format) (offset_width format) (length (fields ++ left))
      (length (fields' ++ left')) ((fields ++ left) ++ program) ((fields' ++ left') ++ program') (omega (arith, fits, le))
      (omega (arith, fits', le')) (sym all ∙ e ∙ others) in
      let bytes : fields ++ left ≡ fields' ++ left' =
      same_prefix (fields ++ left) (fields' ++ left') program program' numbers.0 numbers.1 in
      let found = (fields_fault format order version).one reason other fields fields' left left' h k bytes in (
        found.0,
        joined ∙ ap (λ (z : List ℕ). number_of z ++ fields) bytes ∙ ap (λ (z : List ℕ). number_of (fields' ++ left') ++ z) found.1
            ∙ sym joined',
      )

-- ---- the body of a unit: its version, or what follows it

module _ (order : Order) where
  abbrev VersionBytes : OlderVersion → List ℕ → Type 0
  VersionBytes version bytes = bytes ≡ number_bytes order 2 (version_number version)

  abbrev IsOther : Reason → List ℕ → Type 0
  IsOther reason body = IsNoOlder reason × IsVersionFault order reason body

  abbrev IsBody : Format → Reason → List ℕ → List ℕ → Type 0
  IsBody format = FirstOf VersionBytes (IsHere IsOther) (λ version. IsPast format order version)

  version_code : IsCode VersionBytes
  version_code = record {
    one = λ v w x y r s p q e.
        let numbers = same_number_prefix order 2 width_2 (version_number v) (version_number w) r s (small_version v) (small_version w)
        (ap (λ (z : List ℕ). z ++ r) (sym p) ∙ e ∙ ap (λ (z : List ℕ). z ++ s) q) in
        (same_version v w numbers.0, p ∙ ap (λ (n : ℕ). number_bytes order 2 n) numbers.0 ∙ sym q);
  }

  version_fault : IsOneFieldFault VersionBytes IsOther
  version_fault = record {
    none = λ reason body h version x more p e.
        other_version order reason version body more h.0 h.1 (sym e ∙ ap (λ (z : List ℕ). z ++ more) p);
    one = λ reason other body h k. version_one order reason other body h.1 k.1;
  }

  body_one : (format : Format) → AreOne (IsBody format)
  body_one format =
      let version = field_fault VersionBytes IsOther version_fault in
      first_one VersionBytes (IsHere IsOther) (λ v. IsPast format order v) version_code version.one
      (λ reason other v before left prefix past left' h p k e. version.none reason before left h v prefix (past ++ left') p (sym e))
      (λ v. past_one format order v)

-- ---- a unit

-- A fault lies outside of any frame, or in the body of one.
data IsPlaced (order : Order) (reason : Reason) (before from : List ℕ) : Type 0 where
  outside : IsOutside order reason before from → IsPlaced order reason before from
  inside : (format : Format) (fields left : List ℕ) → InFrame order format fields left before from
      → IsBody order format reason fields left → IsPlaced order reason before from

placed_in_frame : (order : Order) (reason : Reason) (before from : List ℕ) → IsNoOlder reason → IsFrameFaultAt order reason before from
    → IsPlaced order reason before from
placed_in_frame order reason before from other (outside_frame h) = outside h
placed_in_frame order reason before from other (in_version format body w h) = inside format [] body w (first (refl, (other, h)))

-- what follows the version of a whole unit can be counted
past_fits : (order : Order) (format : Format) (version : OlderVersion) (fields left before from : List ℕ)
    → InFrame order format (number_bytes order 2 (version_number version) ++ fields) left before from
    → length (fields ++ left) < 256 ^ offset_size format
past_fits order format version fields left before from w =
    let head = number_bytes order 2 (version_number version) in
    below format (length ((head ++ fields) ++ left)) (length (fields ++ left)) w.fits (omega (
      arith,
      length-append (head ++ fields) left,
      length-append head fields,
      length-append fields left,
    ))

placed_past : (order : Order) (reason : Reason) (format : Format) (version : OlderVersion) (fields left before from : List ℕ)
    → InFrame order format (number_bytes order 2 (version_number version) ++ fields) left before from
    → IsPastFault format version order reason fields left → IsPlaced order reason before from
placed_past order reason format version fields left before from w h =
    let head = number_bytes order 2 (version_number version) in
    inside format (head ++ fields) left w
    (second version head fields refl refl (past_fits order format version fields left before from w, h))

placed : (order : Order) (reason : Reason) (before from : List ℕ) → IsAnyFault order reason before from
    → IsPlaced order reason before from
placed order reason before from (frame other h) =
    placed_in_frame order reason before from other (frame_fault_at order reason before from h)
placed order reason before from (header_length format version left w h) =
    placed_past order reason format version [] left before from (rw (append-nil (number_bytes order 2 (version_number version))) w)
    (of_length refl h)
placed order reason before from (of_fields format version fields left program w h) =
    let number = number_of format order (fields ++ left) in
    placed_past order reason format version (number ++ fields) (left ++ program) before from
    (rw (← append_assoc (number_bytes order 2 (version_number version)) number fields) w) (of_field fields left program refl refl h)

placed_one : (order : Order) → AreOne (IsPlaced order)
placed_one order reason other before before' from from' (outside h) (outside k) e =
    outside_one order reason other before before' from from' h k e
placed_one order reason other before before' from from' (outside h) (inside format fields left w k) e =
    absurd (outside_none order reason format before from fields left before' from' h w e)
placed_one order reason other before before' from from' (inside format fields left w h) (outside k) e =
    absurd (outside_none order other format before' from' fields left before from k w (sym e))
placed_one order reason other before before' from from' (inside f fields left w h) (inside g fields' left' v k) e =
    let found = same_frame order f g fields left before from fields' left' before' from' w v e in
    let same = body_one order g reason other fields fields' left left'
    (subst (λ (r : Format). IsBody order r reason fields left) found.0 h) k found.1 in
    (same.0, same_place order f g fields left before from fields' left' before' from' w v found.0 found.1 same.1)

any_one : (order : Order) → AreOne (IsAnyFault order)
any_one order reason other before before' from from' h k e =
    placed_one order reason other before before' from from' (placed order reason before from h) (placed order other before' from' k) e

-- ---- a section

-- a section of which each unit can be written anew is spelled by units
can_units : (order : Order) (size : ℕ) (directories : List Directory) (section : List ℕ) → CanUpgrade order size directories section
    → HasUnits order section
can_units order size directories section (units, placed) = (units, (newer_of order size directories 0 units section placed).sound)

module _ (order : Order) (section : List ℕ) where
  none_after : (fault : Fault) → (f : IsBroken order section fault) → NoneSpelled (IsSpelled order) f.rest
  none_after fault f unit x more p e = f.refused.none unit.1 x more p e

  -- units before bytes that no unit begins
  same_units : (units others : List (ℕ × AnyParts)) (x y r s : List ℕ) → AnySection order units x → AnySection order others y
      → NoneSpelled (IsSpelled order) r → NoneSpelled (IsSpelled order) s → x ++ r ≡ y ++ s → x ≡ y
  same_units units others x y r s p q none none' e =
      placed_once (IsSpelled order) (λ u v a b m n. any_once order u.1 v.1 a b m n) 0 0 units others x y r s p q e none none'

  pub broken_one : (one other : Fault) → IsBroken order section one → IsBroken order section other → one ≡ other
  broken_one one other f g =
      let all = sym f.joined ∙ g.joined in
      let prefixes : f.prefix ≡ g.prefix =
      same_units f.units g.units f.prefix g.prefix f.rest g.rest f.sound g.sound (none_after one f) (none_after other g) all in
      let rests : f.rest ≡ g.rest = same_rest f.prefix g.prefix f.rest g.rest prefixes all in
      let a = f.refused in
      let b = g.refused in
      let found = any_one order one.reason other.reason a.before b.before a.left b.left a.reason b.reason
      (sym a.split ∙ rests ∙ b.split) in
      same_fault one other (omega (arith, a.place, b.place, ap length prefixes, ap length found.1)) found.0

  none_at_end : NoneSpelled (IsSpelled order) []
  none_at_end unit x more p e = omega (arith, some_bytes order unit.1 x p, ap length e, length-append x more)

  -- a section that units spell has none
  broken_none : (fault : Fault) → IsBroken order section fault → HasUnits order section → ⊥
  broken_none fault f (units, sound) =
      let prefixes : f.prefix ≡ section =
      same_units f.units units f.prefix section f.rest [] f.sound sound (none_after fault f) none_at_end
      (sym f.joined ∙ sym (append-nil section)) in
      omega (arith, f.some, ap length f.joined, ap length prefixes, length-append f.prefix f.rest)

  -- and one that has one has no other
  pub broken_alone : (address_size : ℕ) (text : Option (List ℕ)) (one : Fault) (other : UpgradeFault) → IsBroken order section one
      → other ≢ Memory → IsUpgradeFault order address_size section text other → Malformed one ≡ other
  broken_alone address_size text one (Malformed fault) f some g = ap Malformed (broken_one one fault f g)
  broken_alone address_size None one (Directories place) f some g = absurd g
  broken_alone address_size (Some text) one (Directories place) f some g = absurd (broken_none one f (g.1.units, g.1.sound))
  broken_alone address_size text one (TooLarge offset) f some g = absurd (broken_none one f g.1)
  broken_alone address_size text one (FileZero offset index) f some (directories, listed, can, zero) =
      absurd (broken_none one f (can_units order address_size directories section can))
  broken_alone address_size text one Memory f some g = absurd (some refl)

-- ---- the directories of a section

module _ (order : Order) where
  older_first : (u v : ℕ × AnyParts) (units others : List (ℕ × AnyParts)) (bytes : List ℕ) → IsSpelled order u bytes
      → IsSpelled order v bytes → u.0 ≡ v.0 → older_offsets units ≡ older_offsets others
      → older_offsets (u ∷ units) ≡ older_offsets (v ∷ others)
  older_first (m, five_parts f b) (n, five_parts g c) units others bytes p q same e = e
  older_first (m, five_parts f b) (n, older_parts h program) units others bytes p q same e =
      absurd (five_not_older order f b h program bytes p q)
  older_first (m, older_parts h program) (n, five_parts f b) units others bytes p q same e =
      absurd (five_not_older order f b h program bytes q p)
  older_first (m, older_parts h program) (n, older_parts k past) units others bytes p q same e = cc (same, e)

  -- a section has its older units at one list of offsets
  older_from : (k : ℕ) (units others : List (ℕ × AnyParts)) (bytes : List ℕ) → PlacedFrom (IsSpelled order) k units bytes
      → PlacedFrom (IsSpelled order) k others bytes → older_offsets units ≡ older_offsets others
  older_from k [] [] bytes p q = refl
  older_from k [] (v ∷ others) bytes none (front, after, there, also, whole, more) =
      absurd (omega (arith, some_bytes order v.1 front also, ap length none, ap length whole, length-append front after))
  older_from k (u ∷ units) [] bytes (prefix, back, here, so, joined, rest) none =
      absurd (omega (arith, some_bytes order u.1 prefix so, ap length none, ap length joined, length-append prefix back))
  older_from k (u ∷ units) (v ∷ others) bytes (prefix, back, here, so, joined, rest) (front, after, there, also, whole, more) =
      let same : prefix ≡ front = any_once order u.1 v.1 prefix front back after so also (sym joined ∙ whole) in
      let past : back ≡ after = same_rest prefix front back after same (sym joined ∙ whole) in
      older_first u v units others front (rw same at so) also (here ∙ sym there)
      (older_from (k + length prefix) units others back rest (rw (same, past) more))

  older_one : (section one other : List ℕ) → HasOlder order section one → HasOlder order section other → one ≡ other
  older_one section one other a b =
      a.older_are ∙ older_from 0 a.units b.units section a.sound b.sound ∙ sym b.older_are

  same_directories : (section : List ℕ) (text : Option (List ℕ)) (directories others : List Directory)
      → AreListed order section text directories → AreListed order section text others
      → (offset : ℕ) → directory_at directories offset ≡ directory_at others offset
  same_directories section None directories others none none' offset = rw (none, none') refl
  same_directories section (Some text) directories others (older, has, file) (older', has', file') offset =
      listed_one older text directories others file (rw (older_one section older older' has has') file') offset

  -- ---- the first unit that can't be written anew

  large_before : (size : ℕ) (section : List ℕ) (directories others : List Directory) (m n : ℕ)
      → ((offset : ℕ) → directory_at directories offset ≡ directory_at others offset)
      → IsLargeAt order size directories section m → IsLargeAt order size others section n → m < n → ⊥
  large_before size section directories others m n same f g lt =
      let older = f.large.older in
      let parts = older_parts f.large.header f.large.program in
      let found = placed_at (CanBeUpgraded order size directories) (CanBeUpgraded order size others)
      (λ u v x y r s p q e. any_once order u.1 v.1 x y r s p.spelled q.spelled e) 0 0 f.before.0 g.before.0 f.prefix g.prefix f.unit f.rest
      (g.unit ++ g.rest) f.before.1 g.before.1
      (λ v z r q e. any_once order v.1 parts z f.unit r f.rest q.spelled (older.order_is, older.spelled) e) (sym f.joined ∙ g.joined)
      (omega (arith, lt, f.place, g.place)) in
      let place : found.0.0 ≡ m = omega (arith, found.1, f.place) in
      f.misfit (rw (same m, ← place) found.2.fits)

  large_one : (size : ℕ) (section : List ℕ) (directories others : List Directory) (m n : ℕ)
      → ((offset : ℕ) → directory_at directories offset ≡ directory_at others offset)
      → IsLargeAt order size directories section m → IsLargeAt order size others section n → m ≡ n
  large_one size section directories others m n same f g = same_least m n (large_before size section directories others m n same f g)
      (large_before size section others directories n m (λ offset. sym (same offset)) g f)

  -- none is too large where each can be written anew
  large_none : (size : ℕ) (section : List ℕ) (directories others : List Directory) (m : ℕ)
      → ((offset : ℕ) → directory_at directories offset ≡ directory_at others offset)
      → IsLargeAt order size directories section m → CanUpgrade order size others section → ⊥
  large_none size section directories others m same f (units, can) =
      let older = f.large.older in
      let parts = older_parts f.large.header f.large.program in
      let some = some_bytes order parts f.unit (older.order_is, older.spelled) in
      let found = placed_at (CanBeUpgraded order size directories) (CanBeUpgraded order size others)
      (λ u v x y r s p q e. any_once order u.1 v.1 x y r s p.spelled q.spelled e) 0 0 f.before.0 units f.prefix section f.unit f.rest []
      f.before.1 can
      (λ v z r q e. any_once order v.1 parts z f.unit r f.rest q.spelled (older.order_is, older.spelled) e)
      (sym f.joined ∙ sym (append-nil section))
      (omega (arith, some, ap length f.joined, length-append f.prefix (f.unit ++ f.rest), length-append f.unit f.rest)) in
      let place : found.0.0 ≡ m = omega (arith, found.1, f.place) in
      f.misfit (rw (same m, ← place) found.2.fits)

  -- ---- the first row that names file 0

  zero_before : (size : ℕ) (section : List ℕ) (m n i j : ℕ) → IsZeroRowAt order size section m i → IsZeroRowAt order size section n j
      → m < n → ⊥
  zero_before size section m n i j f g lt =
      let zero = f.names.zero in
      let parts = older_parts zero.header zero.program in
      let spelled : AnyBytes order parts f.unit = (zero.older.order_is, zero.older.spelled) in
      let found = placed_at (NamesFiles order size) (NamesFiles order size)
      (λ u v x y r s p q e. any_once order u.1 v.1 x y r s p.spelled q.spelled e) 0 0 f.before.0 g.before.0 f.prefix g.prefix f.unit f.rest
      (g.unit ++ g.rest) f.before.1 g.before.1
      (λ v z r q e. any_once order v.1 parts z f.unit r f.rest q.spelled spelled e) (sym f.joined ∙ g.joined)
      (omega (arith, lt, f.place, g.place)) in
      found.2.none i zero

  -- at one offset it is one unit
  zero_unit : (size : ℕ) (section : List ℕ) (m i j : ℕ) → (f : IsZeroRowAt order size section m i)
      → (g : IsZeroRowAt order size section m j) → f.unit ≡ g.unit
  zero_unit size section m i j f g =
      let zero = f.names.zero in
      let also = g.names.zero in
      let prefixes : f.prefix ≡ g.prefix = same_prefix f.prefix g.prefix (f.unit ++ f.rest) (g.unit ++ g.rest)
      (sym f.place ∙ g.place) (sym f.joined ∙ g.joined) in
      let rests = same_rest f.prefix g.prefix (f.unit ++ f.rest) (g.unit ++ g.rest) prefixes (sym f.joined ∙ g.joined) in
      any_once order (older_parts zero.header zero.program) (older_parts also.header also.program) f.unit g.unit f.rest g.rest
      (zero.older.order_is, zero.older.spelled) (also.older.order_is, also.older.spelled) rests

  zero_one : (size : ℕ) (section : List ℕ) (m n i j : ℕ) → IsZeroRowAt order size section m i → IsZeroRowAt order size section n j
      → (m ≡ n) × (i ≡ j)
  zero_one size section m n i j f g =
      let offsets : m ≡ n = same_least m n (zero_before size section m n i j f g) (zero_before size section n m j i g f) in
      let h : IsZeroRowAt order size section m j = rw offsets g in
      let unit = zero_unit size section m i j f h in (
        offsets,
        same_least i j (λ lt. h.names.first i lt (rw (← unit) f.names.zero)) (λ lt. f.names.first j lt (rw unit h.names.zero)),
      )

-- ---- one fault

-- where a record isn't so, no directories are listed
no_directories : (order : Order) (section text older : List ℕ) (place : ℕ) (directories : List Directory) → HasOlder order section older
    → IsBadRecord older text place → AreListed order section (Some text) directories → ⊥
no_directories order section text older place directories has bad (older', has', file) =
    listed_none older text place directories bad (rw (older_one order section older older' has has') file)

pub one_fault : OneUpgradeFault
one_fault order size section text (Malformed fault) other some some' f g = broken_alone order section size text fault other f some' g
one_fault order size section text one (Malformed fault) some some' f g = sym (broken_alone order section size text fault one g some f)
one_fault order size section None (Directories place) other some some' f g = absurd f
one_fault order size section None one (Directories place) some some' f g = absurd g
one_fault order size section (Some text) (Directories i) (Directories j) some some' (older, has, bad) (older', has', bad') =
    ap Directories (bad_one older text i j bad (rw (older_one order section older older' has has') bad'))
one_fault order size section (Some text) (Directories i) (TooLarge offset) some some' (older, has, bad)
    (directories, units, listed, large) =
    absurd (no_directories order section text older i directories has bad listed)
one_fault order size section (Some text) (TooLarge offset) (Directories i) some some' (directories, units, listed, large)
    (older, has, bad) =
    absurd (no_directories order section text older i directories has bad listed)
one_fault order size section (Some text) (Directories i) (FileZero offset index) some some' (older, has, bad)
    (directories, listed, can, zero) =
    absurd (no_directories order section text older i directories has bad listed)
one_fault order size section (Some text) (FileZero offset index) (Directories i) some some' (directories, listed, can, zero)
    (older, has, bad) =
    absurd (no_directories order section text older i directories has bad listed)
one_fault order size section text (TooLarge m) (FileZero offset index) some some' (directories, units, listed, large)
    (others, listed', can, zero) =
    absurd (large_none order size section directories others m (same_directories order section text directories others listed listed')
    large can)
one_fault order size section text (FileZero offset index) (TooLarge n) some some' (others, listed', can, zero)
    (directories, units, listed, large) =
    absurd (large_none order size section directories others n (same_directories order section text directories others listed listed')
    large can)
one_fault order size section text (FileZero m i) (FileZero n j) some some' (directories, listed, can, zero)
    (others, listed', can', zero') =
    let found = zero_one order size section m n i j zero zero' in
    cc (found.0, found.1)
one_fault order size section text (TooLarge m) (TooLarge n) some some' (directories, units, listed, large)
    (others, units', listed', large') =
    ap TooLarge (large_one order size section directories others m n
    (same_directories order section text directories others listed listed') large large')
one_fault order size section text Memory other some some' f g = absurd (some refl)
one_fault order size section text one Memory some some' f g = absurd (some' refl)
