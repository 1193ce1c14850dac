-- Units that were read from the same bytes have the same parts.
use Rattle.std.proofs.Common.{◌≡◌, ℕ, ◌^◌, ◌<◌, List, [], ◌∷◌, ◌++◌, length, refl, sym, ap, subst, ◌∙◌, append_assoc, arith}
use Rattle.std.proofs.lemmas.List.{append_cancel_right, length-append}
use Rattle.lnt_wire.specs.Reading.{At}
use Rattle.lnt_wire.specs.FrameBytes.{frame_bytes, LengthFits}
use Rattle.lnt_wire.specs.Numbers.{number_bytes, offset_size}
use Rattle.lnt_wire.specs.declared.format.Format.{Format}
use Rattle.lnt_wire.specs.declared.format.Order.{Order}
use Rattle.lnt_wire.proofs.LengthLaws.{same_prefix, same_number_prefix, same_rest, width_2}
use Rattle.lnt_wire.proofs.ValueLaws.{offset_width}
use Rattle.lnt_header.specs.HeaderRules.{IsAddressSize}
use Rattle.lnt_header.specs.Joins.{Each}
use Rattle.lnt_header.specs.declared.header.Entry.{Entry}
use Rattle.lnt_header.specs.declared.header.Pair.{Pair}
use Rattle.lnt_header_bytes.specs.HeaderFaults.{LengthsBytes}
use Rattle.lnt_header_bytes.proofs.HeaderLaws.{below, regroup}
use Rattle.lnt_header_bytes.proofs.ProgramLaws.{length-initial-same}
use Rattle.lnt_older.specs.OlderBytes.{has_max_ops, body_bytes, directory_pairs, file_pairs, ListBytes, ListedBytes, OlderVersion}
use Rattle.lnt_older.specs.OlderFields.{header_spelling, ListsLie}
use Rattle.lnt_header_bytes.specs.HeaderFaults.{SinglesBytes, single_fields}
use Rattle.lnt_older.specs.OlderUnits.{ReadsOlder, unit_header, OlderUnit}
use Rattle.lnt_older.specs.declared.header.OlderHeader.{OlderHeader}
use Rattle.lnt_header_bytes.proofs.HeaderReaders.{lengths_code}
use Rattle.lnt_older.proofs.FieldLemmas.{list_code}
use Rattle.lnt_older.proofs.NoUnitLemmas.{one_body, same_version, small_version}
use Rattle.lnt_header_bytes.proofs.SoundLemmas.{singles_code}
use Rattle.std.proofs.lemmas.Grind.{common_steps}

-- ---- bodies

-- Two bodies say the same.
pub record SameBody (v w : OlderVersion) (fields other program past : List ℕ) : Type 0 where
  pub version : v ≡ w
  pub fields_are : fields ≡ other
  pub program_is : program ≡ past

fields_fit : (format : Format) (order : Order) (v : OlderVersion) (fields program : List ℕ)
    → LengthFits format (length (body_bytes format order v fields program)) → length fields < 256 ^ offset_size format
fields_fit format order v fields program fits = grind (arith, common_steps, below, length-append)

one_version : (format : Format) (order : Order) (v w : OlderVersion) (fields other program past : List ℕ)
    → body_bytes format order v fields program ≡ body_bytes format order w other past
    → (v ≡ w) × (number_bytes order (offset_size format) (length fields) ++ (fields ++ program)
    ≡ number_bytes order (offset_size format) (length other) ++ (other ++ past))
one_version format order v w fields other program past e =
    grind (arith, common_steps, same_number_prefix, width_2, small_version, append_assoc, same_version)

pub same_body : (format : Format) (order : Order) (v w : OlderVersion) (fields other program past : List ℕ)
    → LengthFits format (length (body_bytes format order v fields program))
    → LengthFits format (length (body_bytes format order w other past))
    → body_bytes format order v fields program ≡ body_bytes format order w other past → SameBody v w fields other program past
same_body format order v w fields other program past fits fits' e =
    grind (arith, common_steps, one_version, same_number_prefix, offset_width, fields_fit, same_prefix, same_rest)

-- ---- headers

-- Two headers say the same.
pub record SameHeader (o p : OlderHeader) : Type 0 where
  pub numbers : o.numbers ≡ p.numbers
  pub lengths : o.standard_lengths.now ≡ p.standard_lengths.now
  pub directory_count : o.directories.count ≡ p.directories.count
  pub directories : o.directories.bytes.now ≡ p.directories.bytes.now
  pub file_count : o.files.count ≡ p.files.count
  pub files : o.files.bytes.now ≡ p.files.bytes.now
  pub extra : o.extra.now ≡ p.extra.now

-- The parts of a header are those that its bytes are joined from.
record HasParts (version : OlderVersion) (format : Format) (order : Order) (o : OlderHeader) : Type 0 where
  pub directories : List Entry
  pub files : List Entry
  pub lie : ListsLie format order o directories files
  pub numbers : SinglesBytes (has_max_ops version) o.numbers (single_fields (has_max_ops version) o.numbers)
  pub lengths : LengthsBytes o.numbers.opcode_base o.standard_lengths.now o.standard_lengths.now

-- Two lists that begin the same bytes are one, and so is what follows them.
record SameList (entries others : List Entry) (x y r s : List ℕ) : Type 0 where
  pub count : length entries ≡ length others
  pub bytes : x ≡ y
  pub past : r ≡ s

same_listed : (format : Format) (order : Order) (pairs : List Pair) (entries others : List Entry) (x y r s : List ℕ)
    → Each (ListedBytes format order pairs) entries x → Each (ListedBytes format order pairs) others y
    → (x ++ 0 ∷ []) ++ r ≡ (y ++ 0 ∷ []) ++ s → SameList entries others x y r s
same_listed format order pairs entries others x y r s p q e =
    let first : ListBytes format order pairs entries (x ++ 0 ∷ []) =
    record { prefix = x; back = 0 ∷ []; first = p; second = refl; joined = refl } in
    let second : ListBytes format order pairs others (y ++ 0 ∷ []) =
    record { prefix = y; back = 0 ∷ []; first = q; second = refl; joined = refl } in
    let found = (list_code format order pairs).one entries others (x ++ 0 ∷ []) (y ++ 0 ∷ []) r s first second e in
    record {
      count = ap length found.0;
      bytes = append_cancel_right x y (0 ∷ []) found.1;
      past = same_rest (x ++ 0 ∷ []) (y ++ 0 ∷ []) r s found.1 e;
    }

same_header : (version : OlderVersion) (format : Format) (order : Order) (o p : OlderHeader) → HasParts version format order o
    → HasParts version format order p → header_spelling version o ≡ header_spelling version p → SameHeader o p
same_header version format order o p a b e =
    let n = single_fields (has_max_ops version) o.numbers in
    let m = single_fields (has_max_ops version) p.numbers in
    let l = o.standard_lengths.now in
    let k = p.standard_lengths.now in
    let d = o.directories.bytes.now ++ 0 ∷ [] in
    let c = p.directories.bytes.now ++ 0 ∷ [] in
    let f = o.files.bytes.now ++ 0 ∷ [] in
    let g = p.files.bytes.now ++ 0 ∷ [] in
    let x = o.extra.now in
    let y = p.extra.now in
    let all : n ++ (l ++ (d ++ (f ++ x))) ≡ m ++ (k ++ (c ++ (g ++ y))) = sym (regroup n l d f x) ∙ e ∙ regroup m k c g y in
    let numbers = (singles_code (has_max_ops version)).one o.numbers p.numbers n m (l ++ (d ++ (f ++ x))) (k ++ (c ++ (g ++ y)))
    a.numbers b.numbers
    all in
    let past = same_rest n m (l ++ (d ++ (f ++ x))) (k ++ (c ++ (g ++ y))) numbers.1 all in
    let base : o.numbers.opcode_base ≡ p.numbers.opcode_base = ap (λ q. q.opcode_base) numbers.0 in
    let others : LengthsBytes o.numbers.opcode_base k k = subst (λ (i : ℕ). LengthsBytes i k k) (sym base) b.lengths in
    let lengths = (lengths_code o.numbers.opcode_base).one l k l k (d ++ (f ++ x)) (c ++ (g ++ y)) a.lengths others past in
    let lists = same_rest l k (d ++ (f ++ x)) (c ++ (g ++ y)) lengths.1 past in
    let directories = same_listed format order directory_pairs a.directories b.directories o.directories.bytes.now
    p.directories.bytes.now (f ++ x) (g ++ y) a.lie.directories_lie b.lie.directories_lie lists in
    let files = same_listed format order file_pairs a.files b.files o.files.bytes.now p.files.bytes.now x y a.lie.files_lie
    b.lie.files_lie directories.past in
    record {
      numbers = numbers.0;
      lengths = lengths.1;
      directory_count = sym a.lie.directory_count ∙ directories.count ∙ b.lie.directory_count;
      directories = directories.bytes;
      file_count = sym a.lie.file_count ∙ files.count ∙ b.lie.file_count;
      files = files.bytes;
      extra = files.past;
    }

-- ---- units

-- Two units say the same.
pub record SameUnit (u v : OlderUnit) : Type 0 where
  pub format_is : u.format ≡ v.format
  pub order_is : u.order ≡ v.order
  pub header : SameHeader u.header v.header
  pub program_is : u.program.now ≡ v.program.now

-- The bytes of a unit are joined from its parts.
record IsJoined (unit : OlderUnit) (order : Order) (bytes : List ℕ) : Type 0 where
  pub version : OlderVersion
  pub order_is : unit.order ≡ order
  pub parts : HasParts version unit.format order unit.header
  pub fits : LengthFits unit.format (length (body_bytes unit.format order version (header_spelling version unit.header) unit.program.now))
  pub joined : bytes ≡ frame_bytes order unit.format
      (body_bytes unit.format order version (header_spelling version unit.header) unit.program.now)

-- in one format and order the bytes of a frame are those of one body
frame_body : (format : Format) (order : Order) (body other : List ℕ) → frame_bytes order format body ≡ frame_bytes order format other
    → body ≡ other
frame_body format order body other e = grind (arith, common_steps, same_rest, same_prefix, length-initial-same)

joined_here : (unit : OlderUnit) (size : ℕ) (at next : At) (bytes : List ℕ) → IsAddressSize size → ReadsOlder unit at next
    → at.rest ≡ bytes ++ next.rest → IsJoined unit unit.order bytes
joined_here unit size at next bytes is_size r whole =
    let s = r.read size is_size in
    let q = s.spelled.spelled in
    let fields = header_spelling r.version unit.header in
    let program = unit.program.now in
    let body = body_bytes unit.format unit.order r.version fields program in
    let other = body_bytes unit.format unit.order q.version q.fields program in
    let here : bytes ≡ frame_bytes unit.order unit.format body =
    append_cancel_right bytes (frame_bytes unit.order unit.format body) next.rest (sym whole ∙ r.joined) in
    let there : bytes ≡ s.spelling = append_cancel_right bytes s.spelling next.rest (sym whole ∙ s.whole) in
    let bodies : body ≡ other = frame_body unit.format unit.order body other (sym here ∙ there ∙ q.joined) in
    let versions = one_version unit.format unit.order r.version q.version fields q.fields program program bodies in
    let some : 0 < unit.header.numbers.opcode_base = omega (arith, q.counted.numbers.opcode_base) in
    record {
      version = r.version;
      order_is = refl;
      parts = record {
        directories = r.directories;
        files = r.files;
        lie = r.lie;
        numbers = record {
          spelled = refl;
          says = rw versions.0 q.counted.operations;
          line_base = q.counted.numbers.line_base;
          max_ops = q.counted.numbers.max_ops;
          line_range = q.counted.numbers.line_range;
          opcode_base = some;
        };
        lengths = (q.counted.numbers.opcode_base, q.counted.numbers.lengths, refl);
      };
      fits = subst (λ (z : List ℕ). LengthFits unit.format (length z)) (sym bodies) q.fits;
      joined = here;
    }

unit_joined : (unit : OlderUnit) (size : ℕ) (order : Order) (at next : At) (bytes : List ℕ) → IsAddressSize size → at.order ≡ order
    → ReadsOlder unit at next → at.rest ≡ bytes ++ next.rest → IsJoined unit order bytes
unit_joined unit size order at next bytes is_size order_is r whole =
    subst (λ (k : Order). IsJoined unit k bytes) (r.order_is ∙ order_is) (joined_here unit size at next bytes is_size r whole)

joined_once : (u v : OlderUnit) (order : Order) (bytes : List ℕ) → IsJoined u order bytes → IsJoined v order bytes → SameUnit u v
joined_once u v order bytes a b =
    let fields = header_spelling a.version u.header in
    let others = header_spelling b.version v.header in
    let program = u.program.now in
    let past = v.program.now in
    let body = body_bytes u.format order a.version fields program in
    let other = body_bytes v.format order b.version others past in
    let found = one_body order u.format v.format body other [] [] (frame_bytes order u.format body ++ []) a.fits b.fits refl
    (ap (λ (z : List ℕ). z ++ []) (sym b.joined ∙ a.joined)) in
    let fits : LengthFits u.format (length (body_bytes u.format order b.version others past)) = rw (← found.0) b.fits in
    let same = same_body u.format order a.version b.version fields others program past a.fits fits
    (sym found.1 ∙ ap (λ (f : Format). body_bytes f order b.version others past) found.0) in
    let parts : HasParts a.version u.format order v.header = rw (same.version, ← found.0) b.parts in
    record {
      format_is = sym found.0;
      order_is = a.order_is ∙ sym b.order_is;
      header = same_header a.version u.format order u.header v.header a.parts parts
          (same.fields_are ∙ ap (λ (w : OlderVersion). header_spelling w v.header) (sym same.version));
      program_is = same.program_is;
    }

pub same_unit : (u v : OlderUnit) (size : ℕ) (order : Order) (at next bt after : At) (bytes : List ℕ) → IsAddressSize size
    → at.order ≡ order → bt.order ≡ order → ReadsOlder u at next → at.rest ≡ bytes ++ next.rest → ReadsOlder v bt after
    → bt.rest ≡ bytes ++ after.rest → SameUnit u v
same_unit u v size order at next bt after bytes is_size here there r first s second =
    joined_once u v order bytes (unit_joined u size order at next bytes is_size here r first)
    (unit_joined v size order bt after bytes is_size there s second)

-- with the same directories and files both have one header
pub one_header : (u v : OlderUnit) (size : ℕ) (directories files : List Entry) → SameUnit u v
    → unit_header v size directories files ≡ unit_header u size directories files
one_header u v size directories files s = grind (arith, common_steps)

-- what lies in the lists of one unit lies in those of the other
pub lies_in : (u v : OlderUnit) (directories files : List Entry) → SameUnit u v
    → ListsLie v.format v.order v.header directories files → ListsLie u.format u.order u.header directories files
lies_in u v directories files s lie = grind (arith, common_steps)
