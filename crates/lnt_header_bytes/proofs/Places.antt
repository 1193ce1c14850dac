-- The places of faults in a header, among the bytes of its unit.
use Rattle.std.proofs.Common.{◌≡◌, ℕ, ◌<◌, List, [], ◌∷◌, ◌++◌, length, sym, ap, subst, ◌∙◌, append_assoc, length-append, arith, inl, inr}
use Rattle.std.proofs.Common.{append-nil, refl, true, Option, Some}
use Rattle.std.specs.Int.{w8, cast_unsigned}
use Rattle.lnt_header.specs.FieldFaults.{IsCutField}
use Rattle.lnt_wire.specs.declared.format.Order.{Order}
use Rattle.lnt_wire.specs.declared.fault.Reason.{Reason}
use Rattle.lnt_wire.specs.declared.fault.Reason.TheVariants.{Truncated, UnknownForm, EmptyFormat, LebTooLarge, MaxOpsZero, LineRangeZero}
use Rattle.lnt_wire.specs.declared.fault.Reason.TheVariants.{OpcodeBaseZero, StandardLength, AddressSize, SegmentSelector, HeaderLength}
use Rattle.lnt_wire.specs.declared.format.Format.{Format}
use Rattle.lnt_wire.specs.FrameBytes.{version_five}
use Rattle.lnt_wire.specs.FrameFaults.{InFrame}
use Rattle.lnt_wire.specs.Numbers.{number_bytes, offset_size}
use Rattle.lnt_header_bytes.specs.HeaderFaults.{IsStartFault, TwoTablesFault, IsHeaderFault, SinglesBytes, IsSinglesFault, IsLengthsFault}
use Rattle.lnt_header_bytes.specs.HeaderFaults.{AreFieldBytes, Singles, zero_reasons}
use Rattle.lnt_header_bytes.specs.HeaderFaults.IsSoundFault.{missing, zero_byte}
use Rattle.lnt_header_bytes.specs.HeaderFaults.IsStartFault.{address_size, selector, header_length}
use Rattle.lnt_header.specs.FieldFaults.IsCutField.{number}
use Rattle.lnt_header_bytes.specs.Broken.{InHeader, UpToLimit, IsAt}
use Rattle.lnt_header.specs.FieldFaults.FirstOf.{first, second}
use Rattle.lnt_header_bytes.proofs.WrongTables.{small_offset, IsWrongTable, wrong_after, wrong_table}
use Rattle.lnt_header.proofs.ReaderLaws.{cut_later}
use Rattle.std.proofs.lemmas.Grind.{common_steps}

cut_at : (order : Order) (before left from : List ℕ) → 0 < length before → UpToLimit order left before from → IsCutField before left
    → IsAt order Truncated before from
cut_at order [] left from some w h = absurd (omega arith)
cut_at order (b ∷ before) left from some w h = (left, w, h)

place : (order : Order) (b c l m before from : List ℕ) → InHeader order b l before from → b ≡ c → l ≡ m → InHeader order c m before from
place order b c l m before from w e g =
    subst (λ (z : List ℕ). InHeader order z m before from) e (subst (λ (z : List ℕ). InHeader order b z before from) g w)

at_zero : (order : Order) (reason : Reason) (done past : List (Option Reason)) (more head b l from : List ℕ)
    → zero_reasons true ≡ done ++ Some reason ∷ past → AreFieldBytes done b → l ≡ 0 ∷ more → InHeader order b l (head ++ b) from
    → IsAt order reason (head ++ b) from
at_zero order reason (d ∷ []) past more head (m ∷ []) l from e s zero w =
    let is : MaxOpsZero ≡ reason = cc in
    rw (← is) (m, more, place order (m ∷ []) (m ∷ []) l (0 ∷ more) (head ++ m ∷ []) from w refl zero)
at_zero order reason (d0 ∷ d1 ∷ d2 ∷ d3 ∷ []) past more head (m ∷ ops ∷ stmt ∷ base ∷ []) l from e s zero w =
    let is : LineRangeZero ≡ reason = cc in
    let b = m ∷ ops ∷ stmt ∷ base ∷ [] in
    let ops_is : Some MaxOpsZero ≡ d1 = cc in
    rw (← is) (m, ops, stmt, base, more, rw (← ops_is) at s.1.0, place order b b l (0 ∷ more) (head ++ b) from w refl zero)
at_zero order reason (d0 ∷ d1 ∷ d2 ∷ d3 ∷ d4 ∷ []) past more head (m ∷ ops ∷ stmt ∷ base ∷ range ∷ []) l from e s zero w =
    let is : OpcodeBaseZero ≡ reason = cc in
    let b = m ∷ ops ∷ stmt ∷ base ∷ range ∷ [] in
    let ops_is : Some MaxOpsZero ≡ d1 = cc in
    let range_is : Some LineRangeZero ≡ d4 = cc in
    rw (← is) (
      m,
      ops,
      stmt,
      base,
      range,
      more,
      rw (← ops_is) at s.1.0,
      rw (← range_is) at s.1.1.1.1.0,
      place order b b l (0 ∷ more) (head ++ b) from w refl zero,
    )
at_zero order reason (d0 ∷ d1 ∷ d2 ∷ d3 ∷ d4 ∷ d5 ∷ done) past more head b l from e s zero w =
    absurd (omega (arith, ap length e, length-append done (Some reason ∷ past)))
at_zero order reason done past more head b l from e s zero w = absurd (grind (arith, common_steps))

-- what is wrong after header_length is what the table of places says, wherever the unit stands
at_singles : (order : Order) (reason : Reason) (head b l from : List ℕ) → InHeader order b l (head ++ b) from → 0 < length (head ++ b)
    → IsSinglesFault true reason b l → IsAt order reason (head ++ b) from
at_singles order reason head b l from w some (missing done zero_reason past e s reason_is ends) =
    rw reason_is (cut_at order (head ++ b) l from some (inr (b, w)) (number 1 (omega arith) (omega (arith, ap length ends))))
at_singles order reason head b l from w some (zero_byte done past more e s zero) =
    at_zero order reason done past more head b l from e s zero w

at_lengths : (order : Order) (reason : Reason) (s : Singles) (six past head b l from : List ℕ) → SinglesBytes true s six → b ≡ six ++ past
    → InHeader order b l (head ++ b) from → 0 < length (head ++ b)
    → IsLengthsFault s.opcode_base reason past l → IsAt order reason (head ++ b) from
at_lengths order Truncated s six past head b l from p e w some h =
    cut_at order (head ++ b) l from some (inr (b, w)) (number 1 (omega arith) (omega (arith, ap length h.ends)))
at_lengths order (StandardLength opcode given) s six past head b l from p e w some h = (
  s.minimum_instruction_length,
  s.max_ops,
  s.default_is_stmt,
  cast_unsigned w8 s.line_base,
  s.line_range,
  s.opcode_base,
  past,
  h.0,
  p.max_ops,
  p.line_range,
  h.1,
  h.2,
  h.3,
  h.4,
  h.5,
  place order b (s.minimum_instruction_length ∷ s.max_ops ∷ s.default_is_stmt ∷ cast_unsigned w8 s.line_base ∷ s.line_range
      ∷ s.opcode_base ∷ past) l
      (given ∷ h.0) (head ++ b) from w
      (e ∙ ap (λ (z : List ℕ). z ++ past) p.spelled) h.6,
)
at_lengths order reason s six past head b l from p e w some h = absurd h

at_table : (order : Order) (reason : Reason) (head b l from : List ℕ) → InHeader order b l (head ++ b) from → 0 < length (head ++ b)
    → IsWrongTable reason b l → IsAt order reason (head ++ b) from
at_table order Truncated head b l from w some h = cut_at order (head ++ b) l from some (inr (b, w)) (cut_later head b l h)
at_table order LebTooLarge head b l from w some h = (l, inr (b, w), h)
at_table order (UnknownForm code) head b l from w some h = (l, h.0, h.1, (b, w), h.2, h.3, h.4)
at_table order EmptyFormat head b l from w some h =
    (l, h.0, h.1, h.2, head ++ h.3, (b, w), h.4, h.5, h.6, ap (λ (z : List ℕ). head ++ z) h.7 ∙ sym (append_assoc head h.3 (0 ∷ [])))
at_table order reason head b l from w some h = absurd h

wrong_tables : (format : Format) (order : Order) (reason : Reason) (before left : List ℕ) → TwoTablesFault format order reason before left
    → IsWrongTable reason before left
wrong_tables format order reason before left (first h) = wrong_table format order reason before left h
wrong_tables format order reason before left (second directories prefix past p e h) =
    wrong_after reason prefix past before left e (wrong_table format order reason past left h)

pub at_header : (order : Order) (format : Format) (reason : Reason) (head b l from : List ℕ) → InHeader order b l (head ++ b) from
    → 0 < length (head ++ b) → IsHeaderFault format order reason b l → IsAt order reason (head ++ b) from
at_header order format reason head b l from w some (first h) = at_singles order reason head b l from w some h
at_header order format reason head b l from w some (second s six past p e (first h)) =
    at_lengths order reason s six past head b l from p e w some h
at_header order format reason head b l from w some (second s six past p e (second ls lengths more q e2 h)) =
    at_table order reason head b l from w some
    (wrong_after reason six past b l e (wrong_after reason lengths more past l e2 (wrong_tables format order reason more l h)))

in_frame_as : (order : Order) (format : Format) (b c l m before from : List ℕ) → InFrame order format b l before from → b ≡ c → l ≡ m
    → InFrame order format c m before from
in_frame_as order format b c l m before from w e g =
    subst (λ (z : List ℕ). InFrame order format z m before from) e (subst (λ (z : List ℕ). InFrame order format b z before from) g w)

-- the same of the fields up to header_length
pub at_start : (order : Order) (format : Format) (reason : Reason) (head b l from : List ℕ)
    → InFrame order format (version_five order ++ b) l (head ++ b) from → 0 < length (head ++ b)
    → IsStartFault format order reason b l → IsAt order reason (head ++ b) from
at_start order format Truncated head b l from w some (address_size before so) =
    cut_at order (head ++ b) l from some (inl (format, version_five order ++ b, w)) (number 1 (omega arith) so)
at_start order format (AddressSize size) head b l from w some (address_size before so) = (
  format,
  so.0,
  so.1,
  in_frame_as order format (version_five order ++ b) (version_five order) l (size ∷ so.0) (head ++ b) from w
      (ap (λ (z : List ℕ). version_five order ++ z) before ∙ append-nil (version_five order)) so.2,
)
at_start order format reason head b l from w some (address_size before so) = absurd so
at_start order format Truncated head b l from w some (selector size is before so) =
    cut_at order (head ++ b) l from some (inl (format, version_five order ++ b, w)) (number 1 (omega arith) so)
at_start order format (SegmentSelector n) head b l from w some (selector size is before so) = (
  format,
  size,
  so.0,
  is,
  so.1,
  in_frame_as order format (version_five order ++ b) (version_five order ++ size ∷ []) l (n ∷ so.0)
      (head ++ b) from w (ap (λ (z : List ℕ). version_five order ++ z) before) so.2,
)
at_start order format reason head b l from w some (selector size is before so) = absurd so
at_start order format Truncated head b l from w some (header_length size is before so) =
    cut_at order (head ++ b) l from some (inl (format, version_five order ++ b, w)) (number (offset_size format) (small_offset format) so)
at_start order format HeaderLength head b l from w some (header_length size is before so) = (
  format,
  size,
  so.0,
  so.1,
  is,
  so.2,
  so.3,
  in_frame_as order format (version_five order ++ b) (version_five order ++ size ∷ 0 ∷ []) l
      (number_bytes order (offset_size format) so.0 ++ so.1) (head ++ b) from w (ap (λ (z : List ℕ). version_five order ++ z) before) so.4,
)
at_start order format reason head b l from w some (header_length size is before so) = absurd so
