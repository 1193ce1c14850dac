-- A line is written backwards, from its end.
use Rattle.std.proofs.Common.{◌≡◌, ◌∙◌, ℕ, ◌+◌, ◌-◌, ◌<◌, ◌≤◌, Bool, true, false, List, [], ◌∷◌, ◌++◌, Some, None, drop, length, slice_set}
use Rattle.std.proofs.Common.{◌^◌, take, refl, ap, ap₂, sym, subst, append_assoc, decimal, arith}
use Rattle.std.proofs.lemmas.List.{append_cancel_right, drop-append-le, drop-drop, drop-set, drop-take, drop_all, drop_at}
use Rattle.std.proofs.lemmas.List.{length-append, length-drop, length-take-le, take-append-drop}
use Rattle.std.specs.Fmt.{digits}
use borrow.Rule.Slice.PartMut.{put_mid}
use mir.Val.{bool_byte}
use Rattle.lnt_text.specs.Digits.{IsPlainAddress, IsPlainDecimal, Begins}
use Rattle.lnt_spans.specs.declared.answer.Answer.{Answer}
use Rattle.lnt_spans.specs.declared.answer.More.{More}
use Rattle.lnt_spans.specs.declared.answer.Version.{Version}
use Rattle.lnt_spans.specs.declared.answer.Version.TheVariants.{One, Two}
use Rattle.lnt_spans.specs.declared.position.Position.{Position}
use Rattle.lnt_records.specs.Lines.{AreUnitAndFile, IsFlagBefore, IsMore, IsPosition, position_fields, unit_and_file}
use Rattle.lnt_text.proofs.WrittenLaws.{address_text, decimal_text, has_address, has_decimal}
use Rattle.lnt_records.specs.Written.{IsOfVersion}
use Rattle.lnt_records.proofs.LineLemmas.{more_taken, no_more_taken}

split_before : (text : List ℕ) (start end : ℕ) → start ≤ end → end ≤ length text
    → drop start text ≡ drop start (take end text) ++ drop end text
split_before text start end le long =
    let all : start ≤ length (take end text) = omega (arith, le, length-take-le end text long) in
    ap (drop start) (sym (take-append-drop end text)) ∙ drop-append-le start (take end text) (drop end text) all

pub set_before : (text : List ℕ) (end c : ℕ) → 0 < end → end ≤ length text → drop (end - 1) (slice_set text (end - 1) c) ≡ c ∷ drop end text
set_before text end c some long =
    let within : end - 1 < length text = omega (arith, some, long) in
    let back : end - 1 + 1 ≡ end = omega (arith, some) in
    drop-set text (end - 1) c within ∙ ap (λ (k : ℕ). c ∷ drop k text) back

-- a number and the byte after it
pub put_before : (Spells : List ℕ → ℕ → Type 0) (room new : List ℕ) (start end n past : ℕ) → length room ≡ 256 → length new ≡ 256
    → start < end - 1 → end ≤ 256
    → Spells (drop start (take (end - 1) new)) n → drop (end - 1) new ≡ drop (end - 1) (slice_set room (end - 1) past)
    → Begins Spells (drop start new) n past (drop end room)
put_before Spells room new start end n past long long' within le spells after =
    let some : 0 < end = omega (arith, within) in
    let fits : end ≤ length room = omega (arith, long, le) in
    let fits' : end - 1 ≤ length new = omega (arith, long', le) in
    let at_most : start ≤ end - 1 = omega (arith, within) in
    record {
      prefix = drop start (take (end - 1) new);
      joined = split_before new start (end - 1) at_most fits'
          ∙ ap (λ (t : List ℕ). drop start (take (end - 1) new) ++ t) (after ∙ set_before room end past some fits);
      spells = spells;
    }

pub flag_put : (on : Bool) (room : List ℕ) (end k : ℕ) → k ≡ bool_byte on → 0 < end → end ≤ length room
    → IsFlagBefore on (drop (end - 1) (slice_set room (end - 1) (48 + k))) (drop end room)
flag_put true room end k e some long = record {
  text = 49 ∷ [];
  joined = ap (λ (n : ℕ). drop (end - 1) (slice_set room (end - 1) (48 + n))) e ∙ set_before room end 49 some long;
  text_is = refl;
}
flag_put false room end k e some long = record {
  text = 48 ∷ [];
  joined = ap (λ (n : ℕ). drop (end - 1) (slice_set room (end - 1) (48 + n))) e ∙ set_before room end 48 some long;
  text_is = refl;
}

pub room_ends : (room : List ℕ) → length room ≡ 256 → drop 256 room ≡ []
room_ends room long = drop_all 256 room (omega (arith, long))

-- ---- what only version 2 has

-- nothing more, in version 1
pub no_more_put : (version : Version) (answer : Answer) (bytes : List ℕ) → answer.more ≡ None → bytes ≡ 10 ∷ [] → IsOfVersion version answer
    → IsMore IsPlainDecimal version answer.more bytes []
no_more_put One answer bytes none e is = rw none (no_more_taken IsPlainDecimal bytes [] e)
no_more_put Two answer bytes none e is = let some : None ≡ Some is.0 = sym none ∙ is.1 in absurd cc

-- both, in version 2
pub more_put : (version : Version) (answer : Answer) (more : More) (bytes s1 s2 : List ℕ) → answer.more ≡ Some more → bytes ≡ 44 ∷ s1
    → Begins IsPlainDecimal s1 more.isa 44 s2 → Begins IsPlainDecimal s2 more.discriminator 10 [] → IsOfVersion version answer
    → IsMore IsPlainDecimal version answer.more bytes []
more_put One answer more bytes s1 s2 some e a b is = let none : Some more ≡ None = sym some ∙ is in absurd cc
more_put Two answer more bytes s1 s2 some e a b is = rw some (more_taken IsPlainDecimal more bytes s1 s2 [] e a b)

-- ---- texts that are kept

-- what was in a room from `start` to `end`
pub kept_text : (room text : List ℕ) (start end : ℕ) → length room ≡ 256 → start < end → end ≤ start + 48 → 48 ≤ end → end ≤ 256
    → text ≡ take (end - (end - 48)) (drop (end - 48) room) → drop start room ≡ drop (start + 48 - end) text ++ drop end room
kept_text room text start end long some few room_before le same =
    let back : end - 48 + (end - (end - 48)) ≡ end = omega (arith, room_before) in
    let cut : drop (end - 48) (take end room) ≡ text =
    ap (λ (k : ℕ). drop (end - 48) (take k room)) (sym back) ∙ drop-take (end - 48) (end - (end - 48)) room ∙ sym same in
    let on : start ≡ end - 48 + (start + 48 - end) = omega (arith, some, few, room_before) in
    split_before room start end (omega (arith, some)) (omega (arith, long, le))
    ∙ ap (λ (t : List ℕ). t ++ drop end room) (ap (λ (k : ℕ). drop k (take end room)) on
    ∙ sym (drop-drop (start + 48 - end) (end - 48) (take end room)) ∙ ap (drop (start + 48 - end)) cut)

-- up to the end of a room
pub kept_to_end : (room whole kept : List ℕ) → length room ≡ 256 → whole ≡ kept ++ drop 256 room → whole ≡ kept ++ []
kept_to_end room whole kept long same = same ∙ ap (λ (t : List ℕ). kept ++ t) (room_ends room long)

-- put before `end`
pub put_text : (room text : List ℕ) (start end : ℕ) → length room ≡ 256 → length text ≡ 48 → start < 48 → 48 ≤ end → end ≤ 256
    → drop (end - 48 + start) (put_mid (end - 48) (end - (end - 48)) room text) ≡ drop start text ++ drop end room
put_text room text start end long fits some room_before le =
    let new = put_mid (end - 48) (end - (end - 48)) room text in
    let back : end - 48 + (end - (end - 48)) ≡ end = omega (arith, room_before) in
    let at : length (take (end - 48) room) ≡ end - 48 = length-take-le (end - 48) room (omega (arith, long, le)) in
    sym (drop-drop start (end - 48) new) ∙ ap (drop start) (drop_at (take (end - 48) room) _ (end - 48) at)
    ∙ drop-append-le start text _ (omega (arith, fits, some))
    ∙ ap (λ (t : List ℕ). drop start text ++ t)
    (drop-drop (end - (end - 48)) (end - 48) room ∙ ap (λ (k : ℕ). drop k room) back)

-- what is written before a text leaves it
text_stays : (fields old new : List ℕ) (start end : ℕ) → length old ≡ 256 → length new ≡ 256 → start ≤ end → end ≤ 256
    → drop start new ≡ fields ++ drop end old → drop end new ≡ drop end old
text_stays fields old new start end long long' le within joined =
    let on : end ≡ start + (end - start) = omega (arith, le) in
    let all : length (drop start new) ≡ length fields + length (drop end old) = ap length joined ∙ length-append fields (drop end old) in
    let few : length fields ≡ end - start =
    omega (arith, all, length-drop start new, length-drop end old, long, long', le, within) in
    ap (λ (k : ℕ). drop k new) on ∙ sym (drop-drop (end - start) start new) ∙ ap (drop (end - start)) joined
    ∙ drop_at fields (drop end old) (end - start) few

-- two fields before others
spread : (first second rest : List ℕ) → (first ++ 44 ∷ (second ++ 44 ∷ [])) ++ rest ≡ first ++ 44 ∷ (second ++ 44 ∷ rest)
spread first second rest =
    append_assoc first (44 ∷ (second ++ 44 ∷ [])) rest ∙ ap (λ (t : List ℕ). first ++ 44 ∷ t) (append_assoc second (44 ∷ []) rest)

two_kept : (first second whole kept rest : List ℕ) → whole ≡ first ++ 44 ∷ (second ++ 44 ∷ rest) → whole ≡ kept ++ rest
    → kept ≡ first ++ 44 ∷ (second ++ 44 ∷ [])
two_kept first second whole kept rest joined same =
    append_cancel_right kept (first ++ 44 ∷ (second ++ 44 ∷ [])) rest (sym same ∙ joined ∙ sym (spread first second rest))

plain_decimal : (n : ℕ) → n < 2 ^ 64 → IsPlainDecimal (decimal n) n
plain_decimal n fits =
    let has = has_decimal n fits in
    subst (λ (text : List ℕ). IsPlainDecimal text n) (decimal_text n has.0 has.1) has.1

-- the fields of a unit and a file, as they are kept
pub kept_fields : (unit file : ℕ) (whole kept rest later : List ℕ) → Begins IsPlainDecimal whole unit 44 later
    → Begins IsPlainDecimal later file 44 rest → whole ≡ kept ++ rest → kept ≡ unit_and_file unit file
kept_fields unit file whole kept rest later u f same =
    two_kept u.prefix f.prefix whole kept rest (u.joined ∙ ap (λ (t : List ℕ). u.prefix ++ 44 ∷ t) f.joined) same
    ∙ ap₂ (λ (a b : List ℕ). a ++ 44 ∷ (b ++ 44 ∷ [])) (decimal_text unit u.prefix u.spells) (decimal_text file f.prefix f.spells)

-- before other fields
pub fields_again : (unit file : ℕ) (whole kept rest : List ℕ) → unit < 2 ^ 64 → file < 2 ^ 64 → kept ≡ unit_and_file unit file
    → whole ≡ kept ++ rest → AreUnitAndFile IsPlainDecimal unit file whole rest
fields_again unit file whole kept rest unit_fits file_fits same joined = record {
  later = decimal file ++ 44 ∷ rest;
  unit_is = record {
    prefix = decimal unit;
    joined = joined ∙ ap (λ (t : List ℕ). t ++ rest) same ∙ spread (decimal unit) (decimal file) rest;
    spells = plain_decimal unit unit_fits;
  };
  file_is = record { prefix = decimal file; joined = refl; spells = plain_decimal file file_fits };
}

-- those of a position, as they are kept
pub kept_position : (position : Position) (whole kept rest : List ℕ) → IsPosition IsPlainAddress IsPlainDecimal position whole rest
    → whole ≡ kept ++ rest → kept ≡ position_fields position
kept_position position whole kept rest is same =
    two_kept is.address is.op whole kept rest is.joined same
    ∙ ap₂ (λ (a b : List ℕ). a ++ 44 ∷ (b ++ 44 ∷ [])) (address_text position.address is.address is.address_is)
    (decimal_text position.op is.op is.op_is)

-- before other fields
pub position_again : (position : Position) (whole kept rest : List ℕ) → (position.address < 2 ^ 64) × (position.op < 2 ^ 64)
    → kept ≡ position_fields position → whole ≡ kept ++ rest → IsPosition IsPlainAddress IsPlainDecimal position whole rest
position_again position whole kept rest fits same joined =
    let has = has_address position.address fits.0 in
    let text : has.0 ≡ 48 ∷ 120 ∷ digits 16 false position.address = address_text position.address has.0 has.1 in
    record {
      address = 48 ∷ 120 ∷ digits 16 false position.address;
      op = decimal position.op;
      joined = joined ∙ ap (λ (t : List ℕ). t ++ rest) same
          ∙ spread (48 ∷ 120 ∷ digits 16 false position.address) (decimal position.op) rest;
      address_is = subst (λ (t : List ℕ). IsPlainAddress t position.address) text has.1;
      op_is = plain_decimal position.op fits.1;
    }

-- in a room where more is written before it
pub position_stays : (position : Position) (old new : List ℕ) (start end : ℕ) → length old ≡ 256 → length new ≡ 256 → start ≤ end
    → end ≤ 256 → (fields : List ℕ) → IsPosition IsPlainAddress IsPlainDecimal position fields (drop end old) → drop start new ≡ fields
    → IsPosition IsPlainAddress IsPlainDecimal position (drop start new) (drop end new)
position_stays position old new start end long long' le within fields is same =
    let joined = same ∙ is.joined in
    let stays = text_stays (is.address ++ 44 ∷ (is.op ++ 44 ∷ [])) old new start end long long' le within
    (joined ∙ sym (spread is.address is.op (drop end old))) in
    record {
      address = is.address;
      op = is.op;
      joined = joined ∙ ap (λ (t : List ℕ). is.address ++ 44 ∷ (is.op ++ 44 ∷ t)) (sym stays);
      address_is = is.address_is;
      op_is = is.op_is;
    }
