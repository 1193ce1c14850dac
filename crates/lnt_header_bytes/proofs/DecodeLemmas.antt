-- What the steps of decoding a header find.
use Rattle.std.proofs.Common.{◌≡◌, ℕ, suc, ◌<◌, List, [], ◌∷◌, ◌++◌, get_or, refl, sym, ap, subst, ◌∙◌, append_assoc}
use Rattle.std.specs.List.{AllByRecursion}
use Rattle.lnt_wire.specs.Reading.{At, Reads}
use Rattle.lnt_wire.specs.declared.format.Format.{Format}
use Rattle.lnt_wire.specs.declared.format.Order.{Order}
use Rattle.lnt_header_bytes.specs.declared.numbers.Singles.{Singles}
use Rattle.lnt_header_bytes.specs.FieldsBytes.{Table, FieldsBytes}
use Rattle.lnt_header_bytes.specs.HeaderReading.{HasFields, numbers_with}
use Rattle.lnt_header.specs.HeaderRules.{header_of, IsAddressSize, AreHeaderNumbers, single_bytes}

-- ---- bytes

pub are_bytes : (bytes : List ℕ) → ((i : ℕ) → get_or bytes i 0 < 256) → AllByRecursion (λ byte. byte < 256) bytes
are_bytes [] h = tt
are_bytes (b ∷ bytes) h = (h 0, are_bytes bytes (λ i. h (suc i)))

pub prefix_bytes : (x y : List ℕ) → AllByRecursion (λ byte. byte < 256) (x ++ y) → AllByRecursion (λ byte. byte < 256) x
prefix_bytes [] y h = tt
prefix_bytes (b ∷ x) y h = (h.0, prefix_bytes x y h.1)

-- ---- the fields that header_length counts

pub joined_fields : (a b c d e : List ℕ) → (a ++ (b ++ (c ++ d))) ++ e ≡ (a ++ b) ++ c ++ d ++ e
joined_fields a b c d e = simp append_assoc

pub to_right : (a b c d : List ℕ) → a ++ b ++ c ++ d ≡ a ++ (b ++ (c ++ d))
to_right a b c d = simp append_assoc

pub fields_found : (format : Format) (order : Order) (size : ℕ) (bytes : List ℕ) (s : Singles) (lengths : List ℕ) (d f : Table)
    (old new : At) → IsAddressSize size → ((i : ℕ) → get_or bytes i 0 < 256) → old.rest ≡ bytes → old.order ≡ order
    → Reads (FieldsBytes format old.order) (s, (lengths, (d, f))) old new
    → HasFields format order size bytes (header_of format (numbers_with order size s lengths) d.0 d.1 f.0 f.1 new.rest)
fields_found format order size bytes s lengths d f old new is small rest_is same_order there =
    let r : Reads (FieldsBytes format order) (s, (lengths, (d, f))) old new =
    subst (λ (o : Order). Reads (FieldsBytes format o) (s, (lengths, (d, f))) old new) same_order there in
    let p1 = r.spelled in
    let p2 = p1.second in
    let p3 = p2.second in
    let n = numbers_with order size s lengths in
    let singles : single_bytes n ≡ p1.prefix ++ p2.prefix =
    let six = p1.first.spelled in
    let rest = p2.first.2 in
    cc (six, rest) in
    let joined : bytes ≡ single_bytes n ++ p3.prefix ++ p3.back ++ new.rest =
    sym rest_is ∙ r.whole ∙ ap (λ (z : List ℕ). z ++ new.rest)
    (p1.joined ∙ ap (λ (z : List ℕ). p1.prefix ++ z) (p2.joined ∙ ap (λ (z : List ℕ). p2.prefix ++ z) p3.joined))
    ∙ joined_fields p1.prefix p2.prefix p3.prefix p3.back new.rest
    ∙ ap (λ (z : List ℕ). z ++ p3.prefix ++ p3.back ++ new.rest) (sym singles) in
    let nested : bytes ≡ single_bytes n ++ (p3.prefix ++ (p3.back ++ new.rest)) =
    joined ∙ to_right (single_bytes n) p3.prefix p3.back new.rest in
    let all : AllByRecursion (λ byte. byte < 256) (single_bytes n ++ (p3.prefix ++ (p3.back ++ new.rest))) =
    subst (λ (z : List ℕ). AllByRecursion (λ byte. byte < 256) z) nested (are_bytes bytes small) in
    let numbers : AreHeaderNumbers n = record {
      address_size = is;
      line_base = p1.first.line_base;
      bytes = prefix_bytes (single_bytes n) (p3.prefix ++ (p3.back ++ new.rest)) all;
      max_ops = p1.first.max_ops;
      line_range = p1.first.line_range;
      opcode_base = p2.first.0;
      lengths = p2.first.1;
    } in
    record {
      format_is = refl;
      order_is = refl;
      size_is = refl;
      fields = record {
        directories = p3.prefix;
        files = p3.back;
        numbers = numbers;
        directory_table = p3.first;
        file_table = p3.second;
        joined = joined;
      };
    }
