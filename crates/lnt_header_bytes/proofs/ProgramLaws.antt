-- Units of one header by the lengths of their programs.
use Rattle.std.proofs.Common.{◌≡◌, ℕ, ◌+◌, ◌≤◌, List, ◌++◌, length, refl, sym, ap, ◌∙◌, arith, length-append}
use Rattle.lnt_wire.specs.declared.format.Format.{Format}
use Rattle.lnt_wire.specs.declared.format.Format.TheVariants.{D32, D64}
use Rattle.lnt_wire.specs.declared.format.Order.{Order}
use Rattle.lnt_wire.specs.FrameBytes.{frame_bytes, initial_length, LengthFits}
use Rattle.lnt_wire.proofs.LengthLaws.{length-number_bytes}
use Rattle.lnt_wire.specs.Numbers.{number_bytes, offset_size}
use Rattle.lnt_header.specs.Parts.{HeaderParts}
use Rattle.lnt_header_bytes.specs.HeaderPuts.{around}
use Rattle.lnt_header_bytes.specs.HeaderBytes.{HeaderBytesIn, unit_body}
use Rattle.std.proofs.lemmas.Grind.{common_steps}

pub length-initial-same : (format : Format) (order : Order) (m n : ℕ)
    → length (initial_length format order m) ≡ length (initial_length format order n)
length-initial-same D32 order m n = length-number_bytes order 4 m ∙ sym (length-number_bytes order 4 n)
length-initial-same D64 order m n =
    omega (
      arith,
      length-append (number_bytes order 4 0xffffffff) (number_bytes order 8 m),
      length-append (number_bytes order 4 0xffffffff) (number_bytes order 8 n),
      length-number_bytes order 8 m,
      length-number_bytes order 8 n,
    )

pub length-five : (a b c d e : List ℕ) → length (a ++ b ++ c ++ d ++ e) ≡ length a + length b + length c + length d + length e
length-five a b c d e = simp length-append refl

pub length-around : (order : Order) (format : Format) (size : ℕ) (fields program : List ℕ)
    → length (around order format size fields program) ≡ 4 + offset_size format + length fields + length program
length-around order format size fields program = grind (arith, common_steps, length-five, length-number_bytes)

pub length-body : (h : HeaderParts) (fields program : List ℕ)
    → length (unit_body h fields program) ≡ 4 + offset_size h.format + length fields + length program
length-body h fields program = length-around h.numbers.order h.format h.numbers.address_size fields program

pub fits_less : (format : Format) (m n : ℕ) → m ≤ n → LengthFits format n → LengthFits format m
fits_less D32 m n le fits = omega arith
fits_less D64 m n le fits = omega arith

-- The bytes of a unit with this program, no longer than others.
pub record NoLonger (order : Order) (h : HeaderParts) (program others : List ℕ) : Type 0 where
  pub bytes : List ℕ
  pub spelled : HeaderBytesIn order (h, program) bytes
  pub no_longer : length bytes ≤ length others

-- where a program has a unit, one that is no longer has one, and its unit is no longer
pub shorter_program : (order : Order) (h : HeaderParts) (program longer others : List ℕ) → length program ≤ length longer
    → HeaderBytesIn order (h, longer) others → NoLonger order h program others
shorter_program order h program longer others le p =
    let t = p.spelled in
    let body = unit_body h t.fields program in
    let whole = unit_body h t.fields longer in
    let short : length body ≤ length whole = omega (arith, le, length-body h t.fields program, length-body h t.fields longer) in
    record {
      bytes = frame_bytes h.numbers.order h.format body;
      spelled = record {
        order_is = p.order_is;
        spelled = record {
          fields = t.fields;
          counted = t.counted;
          fits = fits_less h.format (length body) (length whole) short t.fits;
          joined = refl;
        };
      };
      no_longer = omega (
        arith,
        short,
        ap length t.joined,
        length-append (initial_length h.format h.numbers.order (length body)) body,
        length-append (initial_length h.format h.numbers.order (length whole)) whole,
        length-initial-same h.format h.numbers.order (length body) (length whole),
      );
    }
