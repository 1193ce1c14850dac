-- The two tables of a header (DWARF 5, section 6.2.4.1).
use Rattle.std.specs.Prelude.{◌≡◌, ℕ, ◌<◌, List, [], ◌∷◌, length}
use Rattle.lnt_wire.specs.declared.format.Order.{Order}
use Rattle.lnt_wire.specs.declared.format.Format.{Format}
use Rattle.lnt_wire.specs.declared.form.FormValue.{FormValue}
use Rattle.lnt_wire.specs.Bytes.{Exactly, ◌⨾◌}
use Rattle.lnt_wire.specs.Leb128.{UnsignedLeb}
use Rattle.lnt_wire.specs.FormBytes.{form_code, form_of, FormBytes}
use Rattle.lnt_header.specs.Joins.{Each}
use Rattle.lnt_header.specs.declared.header.Entry.{Entry}
use Rattle.lnt_header.specs.declared.header.Pair.{Pair}

-- a content type and a form code
abbrev pub PairBytes : Pair → List ℕ → Type 0
PairBytes pair = UnsignedLeb pair.content ⨾ UnsignedLeb (form_code pair.form)

-- one value for each pair, in the pair's form
abbrev pub ValuesBytes : Format → Order → List Pair → List FormValue → List ℕ → Type 0
ValuesBytes format order [] [] bytes = bytes ≡ []
ValuesBytes format order (pair ∷ pairs) (value ∷ values) bytes =
    (form_of value ≡ pair.form) × (FormBytes format order value ⨾ ValuesBytes format order pairs values) bytes
ValuesBytes format order [] (value ∷ values) bytes = ⊥
ValuesBytes format order (pair ∷ pairs) [] bytes = ⊥

abbrev pub EntryBytes : Format → Order → List Pair → Entry → List ℕ → Type 0
EntryBytes format order pairs entry bytes = ValuesBytes format order pairs entry.values bytes

-- A table: the number of pairs, the pairs, the number of entries, the entries. Without pairs there are no entries.
pub record TableBytes (format : Format) (order : Order) (pairs : List Pair) (entries : List Entry) (bytes : List ℕ) : Type 0 where
  pub few_pairs : length pairs < 256
  pub none_without_pairs : pairs ≡ [] → entries ≡ []
  pub spelled : (Exactly (length pairs ∷ []) ⨾ Each PairBytes pairs ⨾ UnsignedLeb (length entries) ⨾ Each (EntryBytes format order pairs)
      entries) bytes

-- the pairs and the entries of a table
abbrev pub TableOf : Format → Order → List Pair × List Entry → List ℕ → Type 0
TableOf format order table bytes = TableBytes format order table.0 table.1 bytes
