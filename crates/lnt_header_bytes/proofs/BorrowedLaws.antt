-- What is spelled is found, whatever follows; and what of a header is told by its numbers.
use Rattle.std.proofs.Common.{◌≡◌, ℕ, zero, suc, List, [], ◌∷◌, ◌++◌, length, drop, refl, sym, ap, ◌∙◌, append_assoc, arith}
use Rattle.std.proofs.Math.Seq.{drop-append_seam}
use Rattle.std.proofs.lemmas.List.{length-append, append-nil}
use Rattle.lnt_wire.specs.declared.format.Order.{Order}
use Rattle.lnt_wire.specs.declared.format.Format.{Format}
use Rattle.lnt_wire.specs.declared.form.FormValue.{FormValue}
use Rattle.lnt_wire.specs.FirstValues.{first_value, first_size}
use Rattle.lnt_wire.proofs.FirstValueLaws.{IsFound, value_found}
use Rattle.lnt_header_bytes.specs.Borrowed.{first_values, first_values_size, first_entries}
use Rattle.lnt_header.specs.declared.header.Entry.{Entry}
use Rattle.lnt_header.specs.declared.header.Pair.{Pair}
use Rattle.lnt_header.specs.Joins.{Each}
use Rattle.lnt_header_bytes.proofs.PassedLaws.{one_after}
use Rattle.lnt_header_bytes.proofs.TableLaws.{entry_code}
use Rattle.lnt_header_bytes.specs.TableBytes.{ValuesBytes, EntryBytes}
use Rattle.std.proofs.lemmas.Grind.{common_steps}

-- The values and their size, where the bytes begin with these.
pub record AreFound (format : Format) (order : Order) (pairs : List Pair) (values : List FormValue) (x more : List ℕ) : Type 0 where
  pub values_are : first_values format order pairs (x ++ more) ≡ values
  pub size_is : first_values_size format order pairs (x ++ more) ≡ length x

pub values_found : (format : Format) (order : Order) (pairs : List Pair) (values : List FormValue) (x more : List ℕ)
    → ValuesBytes format order pairs values x → AreFound format order pairs values x more
values_found format order [] [] x more p = record { values_are = refl; size_is = sym (ap length p) }
values_found format order [] (v ∷ values) x more p = absurd p
values_found format order (pair ∷ pairs) [] x more p = absurd p
values_found format order (pair ∷ pairs) (v ∷ values) x more p =
    let whole : x ++ more ≡ p.1.prefix ++ (p.1.back ++ more) =
    ap (λ (z : List ℕ). z ++ more) p.1.joined ∙ append_assoc p.1.prefix p.1.back more in
    let one : IsFound format order pair.form v p.1.prefix (p.1.back ++ more) =
    value_found format order pair.form v p.1.prefix (p.1.back ++ more) (record { form_is = p.0; spelled = p.1.first }) in
    let size : first_size format order pair.form (x ++ more) ≡ length p.1.prefix =
    ap (first_size format order pair.form) whole ∙ one.size_is in
    let value : first_value format order pair.form (x ++ more) ≡ v = ap (first_value format order pair.form) whole ∙ one.value_is in
    let past : drop (first_size format order pair.form (x ++ more)) (x ++ more) ≡ p.1.back ++ more =
    ap (λ (n : ℕ). drop n (x ++ more)) size ∙ ap (drop (length p.1.prefix)) whole ∙ drop-append_seam p.1.prefix (p.1.back ++ more) in
    let rest = values_found format order pairs values p.1.back more p.1.second in
    let others : first_values format order pairs (drop (first_size format order pair.form (x ++ more)) (x ++ more)) ≡ values =
    ap (first_values format order pairs) past ∙ rest.values_are in
    let other_size : first_values_size format order pairs (drop (first_size format order pair.form (x ++ more)) (x ++ more))
    ≡ length p.1.back = ap (first_values_size format order pairs) past ∙ rest.size_is in
    record {
      values_are = ap (λ (w : FormValue). w ∷ first_values format order pairs
          (drop (first_size format order pair.form (x ++ more)) (x ++ more))) value ∙ ap (λ (ws : List FormValue). v ∷ ws) others;
      size_is = omega (arith, size, other_size, ap length p.1.joined, length-append p.1.prefix p.1.back);
    }

-- the first of several, by the bytes that spell it
pub first_found : (format : Format) (order : Order) (pairs : List Pair) (count : ℕ) (entry : Entry) (x rest bytes : List ℕ)
    → EntryBytes format order pairs entry x → bytes ≡ x ++ rest
    → first_entries format order pairs (suc count) bytes ≡ entry ∷ first_entries format order pairs count rest
first_found format order pairs count entry x rest bytes p whole = grind (arith, common_steps, values_found, drop-append_seam)

pub entries_found : (format : Format) (order : Order) (pairs : List Pair) (entries : List Entry) (x more : List ℕ)
    → Each (EntryBytes format order pairs) entries x → first_entries format order pairs (length entries) (x ++ more) ≡ entries
entries_found format order pairs [] x more p = refl
entries_found format order pairs (entry ∷ entries) x more p =
    first_found format order pairs (length entries) entry p.prefix (p.back ++ more) (x ++ more) p.first
    (ap (λ (z : List ℕ). z ++ more) p.joined ∙ append_assoc p.prefix p.back more)
    ∙ ap (λ (es : List Entry). entry ∷ es) (entries_found format order pairs entries p.back more p.second)

-- the others, after it
pub others_spelled : (format : Format) (order : Order) (pairs : List Pair) (entry : Entry) (entries : List Entry) (x rest bytes : List ℕ)
    → Each (EntryBytes format order pairs) (entry ∷ entries) bytes
    → EntryBytes format order pairs entry x → bytes ≡ x ++ rest → Each (EntryBytes format order pairs) entries rest
others_spelled format order pairs entry entries x rest bytes each p whole = one_after (EntryBytes format order pairs)
    (entry_code format order pairs) (entry ∷ entries) 0 entry x rest bytes (omega arith) p each whole

-- all of the bytes
pub all_found : (format : Format) (order : Order) (pairs : List Pair) (count : ℕ) (entries : List Entry) (x : List ℕ)
    → length entries ≡ count → Each (EntryBytes format order pairs) entries x → first_entries format order pairs count x ≡ entries
all_found format order pairs count entries x count_is p = ap (λ (n : ℕ). first_entries format order pairs n x) (sym count_is)
    ∙ ap (first_entries format order pairs (length entries)) (sym (append-nil x)) ∙ entries_found format order pairs entries x [] p

pub length_found : (format : Format) (order : Order) (pairs : List Pair) (count : ℕ) (x : List ℕ)
    → length (first_entries format order pairs count x) ≡ count
length_found format order pairs zero x = refl
length_found format order pairs (suc count) x =
    ap suc (length_found format order pairs count (drop (first_values_size format order pairs x) x))
