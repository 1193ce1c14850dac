-- Headers that are read.
use Rattle.std.proofs.Common.{◌≡◌, ℕ, ◌<◌, List, [], ◌++◌, get_or, refl, sym, subst, ◌∙◌, append_assoc, arith}
use Rattle.std.specs.List.{AllByRecursion}
use Rattle.lnt_wire.specs.Reading.{At, Reads}
use Rattle.lnt_wire.specs.declared.format.Format.{Format}
use Rattle.lnt_wire.specs.declared.format.Order.{Order}
use Rattle.lnt_header.specs.HeaderRules.{AreHeaderNumbers, IsAddressSize, single_bytes}
use Rattle.lnt_header.specs.declared.header.Entry.{Entry}
use Rattle.lnt_header.specs.Parts.{HeaderParts}
use Rattle.lnt_header_bytes.specs.HeaderFaults.{LengthsBytes}
use Rattle.lnt_older.specs.Lists.{PassesList}
use Rattle.lnt_older.specs.OlderBytes.{directory_pairs, file_pairs, has_max_ops, older_bytes}
use Rattle.lnt_older.specs.OlderBytes.{OlderFieldsBytes, OlderVersion, SaysOperations}
use Rattle.lnt_older.specs.UnitReading.{ReadsParts}
use Rattle.lnt_older.specs.OlderFields.{FieldsOf, header_of, IsReadHeader}
use Rattle.lnt_header_bytes.specs.HeaderFaults.{SinglesBytes, single_fields}
use Rattle.lnt_header_bytes.proofs.HeaderFrames.{singles_of}
use Rattle.lnt_older.specs.declared.header.OlderHeader.{OlderHeader}
use Rattle.lnt_header_bytes.specs.declared.numbers.Singles.{Singles}
use Rattle.lnt_header_bytes.proofs.DecodeLemmas.{are_bytes, prefix_bytes, to_right}
use Rattle.lnt_older.proofs.FieldLemmas.{fields_read}
use Rattle.std.proofs.lemmas.Grind.{common_steps}

pub singles_in : (version : OlderVersion) (h : HeaderParts)
    → older_bytes version h.numbers ≡ single_fields (has_max_ops version) (singles_of h) ++ h.numbers.standard_lengths
singles_in version h = grind (arith, common_steps)

numbers_small : (version : OlderVersion) (h : HeaderParts) → SaysOperations version h.numbers.max_ops
    → AllByRecursion (λ byte. byte < 256) (older_bytes version h.numbers) → AllByRecursion (λ byte. byte < 256) (single_bytes h.numbers)
numbers_small version h says all = grind (arith, common_steps)

-- the numbers of a header are sound in any format and order, and with any directories and files
pub moved_numbers : (f : Format) {o p : Order} {size : ℕ} {n : Singles} {lengths : List ℕ}
    → AreHeaderNumbers (header_of f o size n lengths [] [] []).numbers
    → AreHeaderNumbers (header_of f p size n lengths [] [] []).numbers
moved_numbers f n = grind (arith, common_steps)

spelled_at : (version : OlderVersion) (format : Format) (order : Order) (bytes : List ℕ) (n : Singles) (lengths : List ℕ)
    (directories files : List Entry) (extra : List ℕ) (old new : At) → ((i : ℕ) → get_or bytes i 0 < 256) → old.rest ≡ bytes
    → extra ≡ new.rest → Reads (FieldsOf version format order) (n, (lengths, (directories, files))) old new
    → (size : ℕ) → IsAddressSize size → OlderFieldsBytes version (header_of format order size n lengths directories files extra) bytes
spelled_at version format order bytes n lengths directories files extra old new small rest_is extra_is r size is =
    let h = header_of format order size n lengths directories files extra in
    let p1 = r.spelled in
    let p2 = p1.second in
    let p3 = p2.second in
    let joined : bytes ≡ older_bytes version h.numbers ++ p3.prefix ++ p3.back ++ extra =
    sym rest_is ∙ simp (
      r.whole,
      p1.joined,
      p2.joined,
      p3.joined,
      p1.first.spelled,
      p2.first.2,
      ← extra_is,
      singles_in version h,
      append_assoc,
    ) in
    let all = prefix_bytes (older_bytes version h.numbers) (p3.prefix ++ (p3.back ++ extra))
    (rw (joined ∙ to_right (older_bytes version h.numbers) p3.prefix p3.back extra) at (are_bytes bytes small)) in
    record {
      directories = p3.prefix;
      files = p3.back;
      numbers = record {
        address_size = is;
        line_base = p1.first.line_base;
        bytes = numbers_small version h p1.first.says all;
        max_ops = p1.first.max_ops;
        line_range = p1.first.line_range;
        opcode_base = p2.first.0;
        lengths = p2.first.1;
      };
      operations = p1.first.says;
      directory_format = refl;
      file_format = refl;
      directory_list = p3.first;
      file_list = p3.second;
      joined = joined;
    }

pub parts_read : (version : OlderVersion) (format : Format) (o : OlderHeader) (old m1 m2 m3 new : At)
    → Reads (SinglesBytes (has_max_ops version)) o.numbers old m1 → Reads (LengthsBytes o.numbers.opcode_base) o.standard_lengths.now m1 m2
    → PassesList format directory_pairs o.directories.count o.directories.bytes.now m2 m3
    → PassesList format file_pairs o.files.count o.files.bytes.now m3 new → o.extra.now ≡ new.rest → ReadsParts version format o old new
parts_read version format o old m1 m2 m3 new r s d f extra_is = grind (arith, common_steps, fields_read, append_assoc)

pub header_read : (version : OlderVersion) (format : Format) (order : Order) (bytes : List ℕ) (o : OlderHeader) (old new : At)
    → ((i : ℕ) → get_or bytes i 0 < 256) → old.rest ≡ bytes → old.order ≡ order → ReadsParts version format o old new
    → IsReadHeader version format order bytes o
header_read version format order bytes o old new small rest_is order_is p = record {
  directories = p.directories;
  files = p.files;
  lie = rw order_is at p.lie;
  spelled = spelled_at version format order bytes o.numbers o.standard_lengths.now p.directories p.files o.extra.now old new small rest_is
      p.extra_is (subst (λ (z : Order). Reads (FieldsOf version format z) (o.numbers, (o.standard_lengths.now, (p.directories, p.files)))
      old new) order_is p.read);
  joined = sym rest_is ∙ p.joined;
}
