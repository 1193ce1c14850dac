-- One unit that is written anew.
use Rattle.std.proofs.Common.{◌≡◌, ◌∙◌, ℕ, List, ◌++◌, refl, sym, ap, subst}
use Rattle.std.proofs.lemmas.List.{append_cancel_right}
use Rattle.lnt_wire.specs.Reading.{At}
use Rattle.lnt_wire.specs.declared.format.Order.{Order}
use Rattle.lnt_header.specs.HeaderRules.{IsAddressSize}
use Rattle.lnt_header_bytes.specs.HeaderBytes.{HeaderBytesIn}
use Rattle.lnt_older.specs.OlderUnits.{ReadsFive, ReadsOlder, five_parts, older_parts, older_spelling, unit_header, OlderUnit}
use Rattle.lnt_older.specs.OlderBytes.{OlderBytesIn}
use Rattle.lnt_older.specs.Upgraded.{upgraded, AddsUpgraded, IsTooLong}
use Rattle.lnt_older.specs.Directories.{directory_at, Directory}
use Rattle.lnt_older.specs.Upgradable.{IsLargeNext, AddsAny}
use Rattle.lnt_older.proofs.UpgradeLaws.{five_read, older_read, one_fit, only_five}

-- ---- one unit

pub five_added : (size : ℕ) (directories : List Directory) (at next : At) (five old new : List ℕ) → ReadsFive five at next
    → new ≡ old ++ five → AddsAny size directories at next old new
five_added size directories at next five old new r added = record {
  parts = five_parts r.format r.body;
  read = five_read five at next r;
  can = record {
    spelled = r.read.spelled;
    size = tt;
    fits = λ unit bt after same whole older long.
        only_five at.order r.read.spelling five unit at next bt after refl same r r.read.whole older whole;
    newer = r.read.spelling;
    upgraded = r.read.spelled;
  };
  joined = added ∙ ap (λ (b : List ℕ). old ++ b) r.bytes_are;
}

pub older_added : (size : ℕ) (directories : List Directory) (directory : List ℕ) (unit : OlderUnit) (at next : At) (old new : List ℕ)
    → IsAddressSize size → ReadsOlder unit at next → directory ≡ directory_at directories at.place
    → AddsUpgraded unit size directory old new → AddsAny size directories at next old new
older_added size directories directory unit at next old new is_size r here added =
    let one = r.read size is_size in
    let header = unit_header unit size r.directories r.files in
    let there = directory_at directories at.place in
    let added_here : AddsUpgraded unit size there old new = subst (λ (d : List ℕ). AddsUpgraded unit size d old new) here added in
    let a = added_here r.directories r.files r.lie in
    record {
      parts = older_parts header unit.program.now;
      read = older_read unit size at next is_size r;
      can = record {
        spelled = (one.spelled.order_is, one.spelled.spelled);
        size = one.spelled.size_is;
        fits = λ v bt after same whole older long.
            one_fit at.order unit v at next bt after size there old new one.spelling refl same is_size r one.whole older whole added_here
            long;
        newer = a.bytes;
        upgraded = subst (λ (o : Order). HeaderBytesIn o (upgraded there header, unit.program.now) a.bytes) r.order_is a.spelled;
      };
      joined = a.joined;
    }

-- ---- a unit that is too long

pub older_large : (size : ℕ) (directory : List ℕ) (unit : OlderUnit) (at next : At) → IsAddressSize size → ReadsOlder unit at next
    → IsTooLong unit size directory → IsLargeNext size directory at
older_large size directory unit at next is_size r long =
    let one = r.read size is_size in
    let header = unit_header unit size r.directories r.files in
    let bytes = older_spelling r.version unit in
    let same : one.spelling ≡ bytes = append_cancel_right one.spelling bytes next.rest (sym one.whole ∙ r.joined) in
    record {
      unit = bytes;
      more = next.rest;
      joined = r.joined;
      large = record {
        header = header;
        program = unit.program.now;
        older = subst (OlderBytesIn at.order size (header, unit.program.now)) same one.spelled;
        unit = unit;
        version = r.version;
        parts = refl;
        too_long = long;
      };
      misfit = λ fits. fits unit at next refl r.joined r long;
    }
