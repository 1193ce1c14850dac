-- Older units that are read, and the first field of them that isn't there.
use Rattle.std.proofs.Common.{◌≡◌, ◌≢◌, ℕ, ◌+◌, ◌-◌, ◌<◌, ◌^◌, List, [], ◌++◌, length, take, refl, sym, ap, subst, ◌∙◌}
use Rattle.std.proofs.Common.{append_assoc, add-zero, arith}
use Rattle.std.proofs.lemmas.List.{length-append, append-nil}
use Rattle.lnt_wire.specs.Reading.{At, Reads, RefusesField, Refuses}
use Rattle.lnt_wire.specs.FrameBytes.{frame_bytes, FrameBytes, initial_length, LengthFits, PrefixBytes, ReadsPrefix}
use Rattle.lnt_wire.specs.FrameFaults.{InFrame, IsFrameFault, IsPrefixFault}
use Rattle.lnt_wire.specs.Numbers.{number_bytes, offset_size}
use Rattle.lnt_wire.specs.declared.fault.Fault.{Fault}
use Rattle.lnt_wire.specs.declared.fault.Reason.{Reason}
use Rattle.lnt_wire.specs.declared.fault.Reason.TheVariants.{VersionNotFive}
use Rattle.lnt_wire.specs.declared.format.Format.{Format}
use Rattle.lnt_wire.specs.declared.format.Order.{Order}
use Rattle.lnt_wire.proofs.FrameReadingLaws.{refuses_frame, refuses_version}
use Rattle.lnt_wire.proofs.LengthLaws.{length-number_bytes}
use Rattle.lnt_header_bytes.proofs.Prefixes.{prefix_taken}
use Rattle.lnt_header_bytes.specs.HeaderReading.{standing}
use Rattle.lnt_header_bytes.specs.HeaderBytes.{CountedBytes}
use Rattle.lnt_header_bytes.specs.HeaderFaults.{IsCountedFault}
use Rattle.lnt_older.specs.OlderFields.{FieldsOf, IsFieldsFault, IsReadHeader}
use Rattle.lnt_older.specs.OlderUnits.{AnyBytes, IsAnyFault, IsOlderUnit, IsSoundUnit, ReadsAny, ReadsFive, ReadsOlder, OlderUnit}
use Rattle.lnt_older.specs.OlderUnits.IsAnyFault.{header_length, of_fields}
use Rattle.lnt_older.specs.UnitReading.{IsAnyBodyFault, IsAnyOf, IsBodyFault, IsPastFault, IsOlderOf}
use Rattle.lnt_older.specs.UnitReading.IsAnyBodyFault.{of_body, of_version}
use Rattle.lnt_older.specs.UnitReading.IsPastFault.{of_length, of_field}
use Rattle.lnt_older.specs.OlderBytes.{version_number, OlderVersion}
use Rattle.lnt_wire.specs.declared.prefix.Prefix.{Prefix}
use Rattle.lnt_older.specs.declared.unit.AnyUnit.{AnyUnit}
use Rattle.lnt_older.specs.declared.unit.AnyUnit.TheVariants as units
use Rattle.lnt_older.proofs.HeaderLemmas.{moved_numbers}
use Rattle.lnt_older.proofs.NoUnitLemmas.{IsNoOlder, none_counted, none_in_frame, none_of_fields, none_of_unit, to_pairs}
use Rattle.std.proofs.lemmas.Grind.{common_steps}

-- ---- what stands after the version

counted_is : (format : Format) (order : Order) (counted x : List ℕ) → CountedBytes format order counted x
    → x ≡ number_bytes order (offset_size format) (length counted) ++ counted
counted_is format order counted x p = rw (p.joined, p.first.spelled, p.second) refl

-- where the counted bytes stand
counted_place : (format : Format) (order : Order) (counted : List ℕ) (old new : At) → Reads (CountedBytes format order) counted old new
    → new.place ≡ old.place + offset_size format + length counted
counted_place format order counted old new r = grind (arith, common_steps, counted_is, length-append, length-number_bytes)

pub unit_found : (prefix : Prefix) (version : OlderVersion) (order : Order) (unit : OlderUnit) (counted : List ℕ) (c0 c1 : At)
    → c0.rest ≡ prefix.past.now → c0.order ≡ order → Reads (CountedBytes prefix.format c0.order) counted c0 c1
    → IsReadHeader version prefix.format order counted unit.header → unit.format ≡ prefix.format → unit.order ≡ order
    → unit.program.now ≡ c1.rest → IsOlderOf prefix version order unit
unit_found prefix version order unit counted c0 c1 rest_is order_is there header format unit_order program =
    grind (arith, common_steps, counted_is, append_assoc)

pub length_missing : (prefix : Prefix) (version : OlderVersion) (order : Order) (c0 : At) (fault : Fault)
    → c0.rest ≡ prefix.past.now → c0.place ≡ prefix.place + 2 → c0.order ≡ order
    → RefusesField (IsCountedFault prefix.format c0.order) (CountedBytes prefix.format c0.order) c0 fault
    → IsBodyFault prefix version order fault
length_missing prefix version order c0 fault rest_is place_is order_is r = record {
  before = [];
  left = c0.rest;
  split = sym rest_is;
  place = r.place ∙ place_is ∙ sym (add-zero (prefix.place + 2));
  reason = of_length refl (rw order_is at r.reason);
  none = none_counted prefix.format version order prefix.past.now (rw (order_is, rest_is) at r.none);
}

pub field_missing : (prefix : Prefix) (version : OlderVersion) (order : Order) (counted : List ℕ) (c0 c1 : At) (place : ℕ) (fault : Fault)
    → c0.rest ≡ prefix.past.now → c0.place ≡ prefix.place + 2 → c0.order ≡ order → Reads (CountedBytes prefix.format c0.order) counted c0 c1
    → place + length counted ≡ c1.place
    → Refuses (IsFieldsFault version prefix.format order) (FieldsOf version prefix.format order) (standing place counted order) fault
    → IsBodyFault prefix version order fault
field_missing prefix version order counted c0 c1 place fault rest_is place_is order_is there placed s =
    let r = subst (λ (o : Order). Reads (CountedBytes prefix.format o) counted c0 c1) order_is there in
    let size = offset_size prefix.format in
    let number = number_bytes order size (length counted) in
    let past : prefix.past.now ≡ (number ++ counted) ++ c1.rest =
    sym rest_is ∙ r.whole ∙ ap (λ (z : List ℕ). z ++ c1.rest) (counted_is prefix.format order counted r.spelling r.spelled) in
    record {
      before = number ++ s.before;
      left = s.left ++ c1.rest;
      split = past ∙ ap (λ (z : List ℕ). (number ++ z) ++ c1.rest) s.split ∙ to_pairs number s.before s.left c1.rest;
      place = omega (
        arith,
        s.place,
        placed,
        place_is,
        counted_place prefix.format order counted c0 c1 r,
        length-append number s.before,
        length-number_bytes order size (length counted),
      );
      reason = of_field s.before s.left c1.rest (rw (← s.split) refl) refl s.reason;
      none = none_of_fields prefix.format version order counted c1.rest prefix.past.now r.spelled.first.fits
          (past ∙ append_assoc number counted c1.rest) s.none;
    }

-- ---- the prefix of a unit

-- the bytes after the version end below 2 ^ 64
pub prefix_room : (prefix : Prefix) (old new : At) → ReadsPrefix prefix old new → old.place + length old.rest < 2 ^ 64
    → prefix.place + 2 + length prefix.past.now < 2 ^ 64
prefix_room prefix old new r room =
    omega (arith, room, r.end_is, r.read.place, ap length r.body_is, ap length r.read.whole, length-append {A = ℕ}, length-number_bytes)

whole_prefix : (prefix : Prefix) (old new : At) → ReadsPrefix prefix old new
    → old.rest ≡ frame_bytes old.order prefix.format (number_bytes old.order 2 prefix.version ++ prefix.past.now) ++ new.rest
whole_prefix prefix old new r = r.read.whole ∙ ap (λ (z : List ℕ). z ++ new.rest) r.read.spelled.joined

frame_fault : (old : At) (fault : Fault) → IsNoOlder fault.reason
    → Refuses (IsFrameFault old.order) (FrameBytes old.order) old fault → Refuses (IsAnyFault old.order) (AnyBytes old.order) old fault
frame_fault old fault other r = grind (arith, common_steps, none_in_frame)

-- no unit is there, of whatever version
pub none_there : (old : At) (fault : Fault) → Refuses (IsPrefixFault old.order) (PrefixBytes old.order) old fault
    → Refuses (IsAnyFault old.order) (AnyBytes old.order) old fault
none_there old fault r = frame_fault old fault (λ version. r.reason.1 (version_number version)) (refuses_frame old fault r)

-- the version is none of 2 to 5
version_unknown : (prefix : Prefix) (old new : At) (fault : Fault) → ReadsPrefix prefix old new → prefix.version ≢ 5
    → ((version : OlderVersion) → version_number version ≢ prefix.version) → fault.place ≡ prefix.place
    → fault.reason ≡ VersionNotFive prefix.version → Refuses (IsAnyFault old.order) (AnyBytes old.order) old fault
version_unknown prefix old new fault r five none place reason =
    let other : IsNoOlder fault.reason = λ version e.
    let both : VersionNotFive prefix.version ≡ VersionNotFive (version_number version) = sym reason ∙ e in
    let same : prefix.version ≡ version_number version = cc in
    none version (sym same) in
    frame_fault old fault other (refuses_version old new prefix fault r five place reason)

-- a unit of version 5
five_read : (prefix : Prefix) (bytes all left : List ℕ) (old new : At) → ReadsPrefix prefix old new → prefix.version ≡ 5
    → all ≡ old.rest → left ≡ new.rest → bytes ≡ take (length all - length left) all → ReadsFive bytes old new
five_read prefix bytes all left old new r version_is all_is left_is bytes_are =
    let q = r.read in
    record {
      format = prefix.format;
      body = number_bytes old.order 2 prefix.version ++ prefix.past.now;
      read = record {
        spelling = q.spelling;
        spelled = record {
          fits = q.spelled.fits;
          version = record { past = prefix.past.now; joined = rw version_is refl };
          joined = q.spelled.joined;
        };
        whole = q.whole;
        place = q.place;
        order = q.order;
      };
      bytes_are = prefix_taken q.spelling (all_is ∙ q.whole) left_is bytes_are;
    }

-- ---- whole units

in_prefix : (order : Order) (format : Format) (digits before from more body : List ℕ) → LengthFits format (length body)
    → body ≡ (digits ++ before) ++ from
    → InFrame order format (digits ++ before) from (initial_length format order (length body) ++ (digits ++ before)) (from ++ more)
in_prefix order format digits before from more body fits e = grind (arith, common_steps)

fault_of : (order : Order) (format : Format) (version : OlderVersion) (reason : Reason) (before from before' from' : List ℕ)
    → InFrame order format (number_bytes order 2 (version_number version) ++ before) from before' from'
    → IsPastFault format version order reason before from → IsAnyFault order reason before' from'
fault_of order format version reason before from before' from' in_frame (of_length nothing so) =
    header_length format version from (rw (nothing, append-nil) at in_frame) so
fault_of order format version reason before from before' from' in_frame (of_field fields left program before_is from_is so) =
    of_fields format version fields left program (rw (before_is, from_is, ← append_assoc) at in_frame) so

older_missing : (prefix : Prefix) (version : OlderVersion) (order : Order) (fault : Fault) (old new : At) → ReadsPrefix prefix old new
    → prefix.version ≡ version_number version → order ≡ old.order → IsBodyFault prefix version order fault
    → Refuses (IsAnyFault old.order) (AnyBytes old.order) old fault
older_missing prefix version order fault old new r version_is order_is there =
    let b = rw order_is at there in
    let digits = number_bytes old.order 2 (version_number version) in
    let body = number_bytes old.order 2 prefix.version ++ prefix.past.now in
    let initial = initial_length prefix.format old.order (length body) in
    let body_is : body ≡ (digits ++ b.before) ++ b.left = rw (version_is, b.split) (sym (append_assoc digits b.before b.left)) in
    record {
      before = initial ++ (digits ++ b.before);
      left = b.left ++ new.rest;
      split = whole_prefix prefix old new r ∙ ap (λ (z : List ℕ). (initial ++ z) ++ new.rest) body_is
          ∙ to_pairs initial (digits ++ b.before) b.left new.rest;
      place = omega (
        arith,
        b.place,
        r.end_is,
        r.read.place,
        ap length r.read.spelled.joined,
        ap length r.body_is,
        length-append {A = ℕ},
        length-number_bytes,
      );
      reason = fault_of old.order prefix.format version fault.reason b.before b.left (initial ++ (digits ++ b.before)) (b.left ++ new.rest)
          (in_prefix old.order prefix.format digits b.before b.left new.rest body r.read.spelled.fits body_is) b.reason;
      none = none_of_unit prefix version old new r version_is b.none;
    }

older_read : (prefix : Prefix) (version : OlderVersion) (order : Order) (unit : OlderUnit) (old new : At) → ReadsPrefix prefix old new
    → prefix.version ≡ version_number version → order ≡ old.order → IsOlderOf prefix version order unit → ReadsOlder unit old new
older_read prefix version order unit old new r version_is order_is there =
    let u = rw order_is at there in
    let program = unit.program.now in
    let body = number_bytes old.order 2 prefix.version ++ prefix.past.now in
    let number = number_bytes old.order (offset_size prefix.format) (length u.counted) in
    let body_is : body ≡ number_bytes old.order 2 (version_number version) ++ number ++ u.counted ++ program =
    simp (version_is, u.joined, append_assoc) in
    record {
      directories = u.header.directories;
      files = u.header.files;
      order_is = u.order_is;
      lie = rw (u.format_is, u.order_is) u.header.lie;
      read = λ size is. rw (u.format_is, u.order_is) (record {
        spelling = r.read.spelling;
        spelled = record {
          order_is = refl;
          size_is = refl;
          spelled = record {
            version = version;
            fields = u.counted;
            counted = u.header.spelled size is;
            fits = rw body_is at r.read.spelled.fits;
            joined = r.read.spelled.joined ∙ ap (λ (z : List ℕ). frame_bytes old.order prefix.format z) body_is;
          };
        };
        whole = r.read.whole;
        place = r.read.place;
        order = r.read.order;
      });
      version = version;
      joined = whole_prefix prefix old new r ∙ rw (u.format_is, u.order_is, ← u.header.joined) (ap (λ (z : List ℕ).
          frame_bytes old.order prefix.format z ++ new.rest) body_is);
    }

older_sound : (prefix : Prefix) (version : OlderVersion) (order : Order) (unit : OlderUnit) → IsOlderOf prefix version order unit
    → IsOlderUnit unit
older_sound prefix version order unit u = record {
  directories = u.header.directories;
  files = u.header.files;
  lie = rw (u.format_is, u.order_is) u.header.lie;
  numbers = λ size is. moved_numbers unit.format (u.header.spelled size is).numbers;
}

-- ---- units of any version

pub any_read : (prefix : Prefix) (bytes all left : List ℕ) (order : Order) (unit : AnyUnit) (old new : At) → ReadsPrefix prefix old new
    → order ≡ old.order → all ≡ old.rest → left ≡ new.rest → bytes ≡ take (length all - length left) all
    → IsAnyOf prefix bytes order unit → ReadsAny unit old new
any_read prefix bytes all left order (units.Five five) old new r order_is all_is left_is bytes_are p =
    five_read prefix five.now all left old new r p.0 all_is left_is (p.1 ∙ bytes_are)
any_read prefix bytes all left order (units.Older unit) old new r order_is all_is left_is bytes_are p =
    older_read prefix p.0 order unit old new r p.1 order_is p.2

pub any_sound : (prefix : Prefix) (bytes : List ℕ) (order : Order) (unit : AnyUnit) → IsAnyOf prefix bytes order unit → IsSoundUnit unit
any_sound prefix bytes order (units.Five five) p = tt
any_sound prefix bytes order (units.Older unit) p = older_sound prefix p.0 order unit p.2

pub any_missing : (prefix : Prefix) (order : Order) (fault : Fault) (old new : At) → ReadsPrefix prefix old new → order ≡ old.order
    → IsAnyBodyFault prefix order fault → Refuses (IsAnyFault old.order) (AnyBytes old.order) old fault
any_missing prefix order fault old new r order_is (of_version small five none place reason) =
    version_unknown prefix old new fault r five none place reason
any_missing prefix order fault old new r order_is (of_body version is there) =
    older_missing prefix version order fault old new r is order_is there

-- ---- another cursor at the same place

same_at : (a b : At) → a.place ≡ b.place → a.rest ≡ b.rest → a.order ≡ b.order → a ≡ b
same_at a b place rest order = grind (arith, common_steps)

pub reads_there : (unit : AnyUnit) (other at new : At) → other.place ≡ at.place → other.rest ≡ at.rest → other.order ≡ at.order
    → ReadsAny unit other new → ReadsAny unit at new
reads_there unit other at new place rest order p = rw (same_at other at place rest order) at p

pub fault_there : (other at : At) (fault : Fault) → other.place ≡ at.place → other.rest ≡ at.rest → other.order ≡ at.order
    → Refuses (IsAnyFault other.order) (AnyBytes other.order) other fault → Refuses (IsAnyFault at.order) (AnyBytes at.order) at fault
fault_there other at fault place rest order p = rw (same_at other at place rest order) at p

-- The lemmas of `read_any_unit`.
pub ruleset read_any_unit_lemmas = (any_read, any_sound, any_missing, none_there, prefix_room)

-- The lemmas of `older_unit`.
pub ruleset older_unit_lemmas = (unit_found, length_missing, field_missing)
