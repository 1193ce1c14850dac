-- What is spelled is allowed.
use Rattle.std.proofs.Common.{◌≡◌, ℕ, List, [], ◌∷◌, refl, map, arith}
use Rattle.std.specs.List.{AllByRecursion}
use Rattle.lnt_wire.specs.declared.format.Order.{Order}
use Rattle.lnt_wire.specs.declared.format.Format.{Format}
use Rattle.lnt_wire.specs.declared.form.FormValue.{FormValue}
use Rattle.lnt_wire.specs.declared.form.FormValue.TheVariants.{Text, Block1, Block2, Block4}
use Rattle.lnt_header.specs.Joins.{Each}
use Rattle.lnt_wire.specs.FormBytes.{form_of, HasSpelling, FormBytes}
use Rattle.lnt_header.specs.Parts.{HeaderParts}
use Rattle.lnt_header.specs.declared.header.Entry.{Entry}
use Rattle.lnt_header.specs.declared.header.Pair.{Pair}
use Rattle.lnt_header.specs.HeaderRules.{IsEntryOf, IsEntryTable, IsHeader}
use Rattle.lnt_header_bytes.specs.HeaderBytes.{HeaderFieldsBytes}
use Rattle.lnt_header_bytes.specs.HeaderReading.{HasFields}
use Rattle.lnt_header_bytes.specs.TableBytes.{ValuesBytes, EntryBytes, TableBytes}
use Rattle.std.proofs.lemmas.Grind.{common_steps}

pub spelled_value : (format : Format) (order : Order) (v : FormValue) (x : List ℕ) → FormBytes format order v x → HasSpelling v
spelled_value format order (Text t) x p = p.no_zero
spelled_value format order (Block1 t) x p = p.first.fits
spelled_value format order (Block2 t) x p = p.first.fits
spelled_value format order (Block4 t) x p = p.first.fits
spelled_value format order v x p = tt

pub record AreValuesOf (pairs : List Pair) (values : List FormValue) : Type 0 where
  pub forms : map form_of values ≡ map (λ pair. pair.form) pairs
  pub spelled : AllByRecursion HasSpelling values

pub spelled_values : (format : Format) (order : Order) (pairs : List Pair) (values : List FormValue) (x : List ℕ)
    → ValuesBytes format order pairs values x → AreValuesOf pairs values
spelled_values format order [] [] x p = record { forms = refl; spelled = tt }
spelled_values format order [] (v ∷ values) x p = absurd p
spelled_values format order (pair ∷ pairs) [] x p = absurd p
spelled_values format order (pair ∷ pairs) (v ∷ values) x p =
    let rest = spelled_values format order pairs values p.1.back p.1.second in
    let head : form_of v ≡ pair.form = p.0 in
    let tails = rest.forms in
    record { forms = cc; spelled = (spelled_value format order v p.1.prefix p.1.first, rest.spelled) }

spelled_entries : (format : Format) (order : Order) (pairs : List Pair) (entries : List Entry) (x : List ℕ)
    → Each (EntryBytes format order pairs) entries x → AllByRecursion (IsEntryOf pairs) entries
spelled_entries format order pairs [] x p = tt
spelled_entries format order pairs (entry ∷ entries) x p =
    let first = spelled_values format order pairs entry.values p.prefix p.first in
    (record { forms = first.forms; spelled = first.spelled }, spelled_entries format order pairs entries p.back p.second)

spelled_table : (format : Format) (order : Order) (pairs : List Pair) (entries : List Entry) (x : List ℕ)
    → TableBytes format order pairs entries x → IsEntryTable pairs entries
spelled_table format order pairs entries x p = grind (arith, common_steps, spelled_entries)

pub spelled_header : (h : HeaderParts) (x : List ℕ) → HeaderFieldsBytes h x → IsHeader h
spelled_header h x p = record {
  numbers = p.numbers;
  directories = spelled_table h.format h.numbers.order h.directory_format h.directories p.directories p.directory_table;
  files = spelled_table h.format h.numbers.order h.file_format h.files p.files p.file_table;
}

pub found_header : (format : Format) (order : Order) (size : ℕ) (bytes : List ℕ) (h : HeaderParts) → HasFields format order size bytes h
    → IsHeader h
found_header format order size bytes h has = spelled_header h bytes has.fields
