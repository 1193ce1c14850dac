-- Under one order a header and a program have one value for their bytes, and none begins another.
use Rattle.std.proofs.Common.{◌≡◌, ℕ, ◌^◌, ◌<◌, ◌≤◌, List, ◌++◌, length, sym, ap, subst, ◌∙◌, append_assoc, arith, ℤ, FitsSigned}
use Rattle.std.specs.Int.{w8, cast_unsigned, cast_signed}
use Rattle.std.proofs.lemmas.Int.{to_z-of_z}
use Rattle.std.proofs.lemmas.List.{append_cancel_left}
use Rattle.lnt_wire.specs.declared.format.Order.{Order}
use Rattle.lnt_wire.specs.declared.format.Format.{Format}
use Rattle.lnt_wire.specs.declared.format.Format.TheVariants.{D32, D64}
use Rattle.lnt_wire.specs.Numbers.{offset_size}
use Rattle.lnt_wire.specs.FrameBytes.{initial_length, LengthFits}
use Rattle.lnt_wire.proofs.ValueLaws.{offset_width}
use Rattle.lnt_wire.proofs.LengthLaws.{same_prefix, same_rest, same_number_prefix, same_length}
use Rattle.lnt_header.specs.declared.header.Entry.{Entry}
use Rattle.lnt_header.specs.Parts.{HeaderParts}
use Rattle.lnt_header.specs.declared.header.Pair.{Pair}
use Rattle.lnt_header.specs.HeaderRules.{six_bytes, single_bytes}
use Rattle.lnt_header_bytes.specs.TableBytes.{TableBytes}
use Rattle.lnt_header_bytes.specs.HeaderBytes.{HeaderFieldsBytes, unit_body, HeaderBytes}
use Rattle.lnt_header_bytes.specs.HeaderPuts.{around}
use Rattle.lnt_header_bytes.specs.Laws.{OneHeader}
use Rattle.lnt_header_bytes.proofs.ProgramLaws.{length-body}
use Rattle.lnt_header_bytes.proofs.TableLaws.{same_table}
use Rattle.std.proofs.lemmas.Grind.{common_steps}

-- ---- the body of a unit

pub regroup : (a b c d e : List ℕ) → a ++ b ++ c ++ d ++ e ≡ a ++ (b ++ (c ++ (d ++ e)))
regroup a b c d e = simp append_assoc

pub record SameBody (a a' : ℕ) (body body' program program' : List ℕ) : Type 0 where
  pub address_size : a ≡ a'
  pub header : body ≡ body'
  pub past : program ≡ program'

pub same_around : (order : Order) (format : Format) (a a' : ℕ) (b b' p p' : List ℕ) → length b < 256 ^ offset_size format
    → length b' < 256 ^ offset_size format → around order format a b p ≡ around order format a' b' p' → SameBody a a' b b' p p'
same_around order format a a' b b' p p' fits fits' e =
    grind (arith, common_steps, regroup, append_cancel_left, same_number_prefix, offset_width, same_prefix, same_rest)

-- ---- the fields that header_length counts

same_signed_byte : (z z' : ℤ) → FitsSigned w8 z → FitsSigned w8 z' → cast_unsigned w8 z ≡ cast_unsigned w8 z' → z ≡ z'
same_signed_byte z z' p q e = sym (to_z-of_z w8 z p) ∙ ap (cast_signed w8) e ∙ to_z-of_z w8 z' q

abbrev header_with : Format → Order → ℕ → ℕ → ℕ → ℕ → ℤ → ℕ → ℕ → List ℕ → List Pair → List Entry → List Pair → List Entry
    → List ℕ → HeaderParts
header_with format order address_size minimum max_ops default_is_stmt line_base line_range opcode_base lengths directory_format directories
    file_format files extra = record {
      format = format;
      numbers = record {
        order = order;
        address_size = address_size;
        minimum_instruction_length = minimum;
        max_ops = max_ops;
        default_is_stmt = default_is_stmt;
        line_base = line_base;
        line_range = line_range;
        opcode_base = opcode_base;
        standard_lengths = lengths;
      };
      directory_format = directory_format;
      directories = directories;
      file_format = file_format;
      files = files;
      extra = extra;
    }

same_fields : (h h' : HeaderParts) (x y : List ℕ) → h.format ≡ h'.format → h.numbers.order ≡ h'.numbers.order
    → h.numbers.address_size ≡ h'.numbers.address_size
    → HeaderFieldsBytes h x → HeaderFieldsBytes h' y → x ≡ y → h ≡ h'
same_fields h h' x y format order address_size left right same =
    let d = left.directories in
    let f = left.files in
    let d' = right.directories in
    let f' = right.files in
    let numbers = left.numbers in
    let numbers' = right.numbers in
    let directories' : TableBytes h.format h.numbers.order h'.directory_format h'.directories d' =
    rw (format, order) right.directory_table in
    let files' : TableBytes h.format h.numbers.order h'.file_format h'.files f' = rw (format, order) right.file_table in
    let e : single_bytes h.numbers ++ d ++ f ++ h.extra ≡ single_bytes h'.numbers ++ d' ++ f' ++ h'.extra =
    sym left.joined ∙ same ∙ right.joined in
    let six = six_bytes h.numbers in
    let six' = six_bytes h'.numbers in
    let all : six ++ (h.numbers.standard_lengths ++ (d ++ (f ++ h.extra))) ≡ six' ++ (h'.numbers.standard_lengths ++ (d' ++ (f' ++
    h'.extra))) =
    sym (regroup six h.numbers.standard_lengths d f h.extra) ∙ e ∙ regroup six' h'.numbers.standard_lengths d' f' h'.extra in
    let minimum : h.numbers.minimum_instruction_length ≡ h'.numbers.minimum_instruction_length = cc in
    let max_ops : h.numbers.max_ops ≡ h'.numbers.max_ops = cc in
    let default_is_stmt : h.numbers.default_is_stmt ≡ h'.numbers.default_is_stmt = cc in
    let line_base_byte : cast_unsigned w8 h.numbers.line_base ≡ cast_unsigned w8 h'.numbers.line_base = cc in
    let line_base : h.numbers.line_base ≡ h'.numbers.line_base =
    same_signed_byte h.numbers.line_base h'.numbers.line_base numbers.line_base numbers'.line_base line_base_byte in
    let line_range : h.numbers.line_range ≡ h'.numbers.line_range = cc in
    let opcode_base : h.numbers.opcode_base ≡ h'.numbers.opcode_base = cc in
    let rest : h.numbers.standard_lengths ++ (d ++ (f ++ h.extra)) ≡ h'.numbers.standard_lengths ++ (d' ++ (f' ++ h'.extra)) = cc in
    let count : length h.numbers.standard_lengths ≡ length h'.numbers.standard_lengths =
    omega (arith, numbers.opcode_base, numbers'.opcode_base, opcode_base) in
    let lengths : h.numbers.standard_lengths ≡ h'.numbers.standard_lengths =
    same_prefix h.numbers.standard_lengths h'.numbers.standard_lengths (d ++ (f ++ h.extra)) (d' ++ (f' ++ h'.extra)) count rest in
    let tables : d ++ (f ++ h.extra) ≡ d' ++ (f' ++ h'.extra) =
    same_rest h.numbers.standard_lengths h'.numbers.standard_lengths (d ++ (f ++ h.extra)) (d' ++ (f' ++ h'.extra)) lengths rest in
    let first = same_table h.format h.numbers.order h.directory_format h'.directory_format h.directories h'.directories d d' (f ++ h.extra)
    (f' ++ h'.extra) left.directory_table directories' tables in
    let second =
    same_table h.format h.numbers.order h.file_format h'.file_format h.files h'.files f f' h.extra h'.extra left.file_table files'
    first.past in
    let directory_format : h.directory_format ≡ h'.directory_format = first.format in
    let directory_entries : h.directories ≡ h'.directories = first.values in
    let file_format : h.file_format ≡ h'.file_format = second.format in
    let file_entries : h.files ≡ h'.files = second.values in
    let extra : h.extra ≡ h'.extra = second.past in
    let both : header_with h.format h.numbers.order h.numbers.address_size h.numbers.minimum_instruction_length h.numbers.max_ops
    h.numbers.default_is_stmt h.numbers.line_base h.numbers.line_range
    h.numbers.opcode_base h.numbers.standard_lengths h.directory_format h.directories h.file_format h.files h.extra
    ≡ header_with h'.format h'.numbers.order h'.numbers.address_size h'.numbers.minimum_instruction_length h'.numbers.max_ops
    h'.numbers.default_is_stmt h'.numbers.line_base h'.numbers.line_range
    h'.numbers.opcode_base h'.numbers.standard_lengths h'.directory_format h'.directories h'.file_format h'.files h'.extra =
    cc (
      format,
      order,
      address_size,
      minimum,
      max_ops,
      default_is_stmt,
      line_base,
      line_range,
      opcode_base,
      lengths,
      directory_format,
      directory_entries,
      file_format,
      file_entries,
      extra,
    ) in
    both

-- ---- the whole

pub record SameHeader (h h' : HeaderParts) (p p' x y : List ℕ) : Type 0 where
  pub header : h ≡ h'
  pub program : p ≡ p'
  pub bytes : x ≡ y

pub below : (format : Format) (n m : ℕ) → LengthFits format n → m ≤ n → m < 256 ^ offset_size format
below D32 n m fits le = omega arith
below D64 n m fits le = omega arith

pub same_header : (h h' : HeaderParts) (p p' x y r s : List ℕ) → h.numbers.order ≡ h'.numbers.order → HeaderBytes h p x
    → HeaderBytes h' p' y
    → x ++ r ≡ y ++ s → SameHeader h h' p p' x y
same_header h h' p p' x y r s order left right e =
    let body = left.fields in
    let body' = right.fields in
    let whole = unit_body h body p in
    let whole' = unit_body h' body' p' in
    let first : x ++ r ≡ initial_length h.format h.numbers.order (length whole) ++ (whole ++ r) =
    ap (λ (z : List ℕ). z ++ r) left.joined ∙ append_assoc (initial_length h.format h.numbers.order (length whole)) whole r in
    let second : y ++ s ≡ initial_length h'.format h.numbers.order (length whole') ++ (whole' ++ s) =
    ap (λ (z : List ℕ). z ++ s) right.joined ∙ append_assoc (initial_length h'.format h'.numbers.order (length whole')) whole' s
    ∙ ap (λ (o : Order). initial_length h'.format o (length whole') ++ (whole' ++ s)) (sym order) in
    let lengths =
    same_length h.numbers.order h.format h'.format (length whole) (length whole') (whole ++ r) (whole' ++ s) left.fits right.fits
    (sym first ∙ e ∙ second) in
    let format : h.format ≡ h'.format = lengths.format in
    let wholes : whole ≡ whole' = same_prefix whole whole' r s lengths.number lengths.past in
    let over : around h'.numbers.order h'.format h'.numbers.address_size body' p' ≡ around h.numbers.order h.format
    h'.numbers.address_size body' p' =
    ap (λ (o : Order). around o h'.format h'.numbers.address_size body' p') (sym order)
    ∙ ap (λ (f : Format). around h.numbers.order f h'.numbers.address_size body' p') (sym format) in
    let small : length body < 256 ^ offset_size h.format =
    below h.format (length whole) (length body) left.fits (omega (arith, length-body h body p)) in
    let small' : length body' < 256 ^ offset_size h.format = subst (λ (f : Format). length body' < 256 ^ offset_size f) (sym format)
    (below h'.format (length whole') (length body') right.fits (omega (arith, length-body h' body' p'))) in
    let parts =
    same_around h.numbers.order h.format h.numbers.address_size h'.numbers.address_size body body' p p' small small' (wholes ∙ over) in
    let headers : h ≡ h' = same_fields h h' body body' format order parts.address_size left.counted right.counted parts.header in
    let starts : initial_length h.format h.numbers.order (length whole) ≡ initial_length h'.format h'.numbers.order (length whole') =
    ap (λ (f : Format). initial_length f h.numbers.order (length whole)) format
    ∙ ap (λ (o : Order). initial_length h'.format o (length whole)) order ∙ ap (initial_length h'.format h'.numbers.order) lengths.number in
    let bytes : x ≡ y = left.joined ∙ ap (λ (z : List ℕ). z ++ whole) starts
    ∙ ap (λ (z : List ℕ). initial_length h'.format h'.numbers.order (length whole') ++ z) wholes ∙ sym right.joined in
    record { header = headers; program = parts.past; bytes = bytes }

pub one_header : OneHeader
one_header order = record {
  one = λ u v x y r s p q e.
      let found = same_header u.0 v.0 u.1 v.1 x y r s (p.order_is ∙ sym q.order_is) p.spelled q.spelled e in
      (ap (λ (h : HeaderParts). (h, u.1)) found.header ∙ ap (λ (program : List ℕ). (v.0, program)) found.program, found.bytes);
}
