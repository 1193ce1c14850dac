-- Headers that are allowed have bytes, where their offsets and lengths fit their format.
use Rattle.std.proofs.Common.{◌≡◌, ℕ, ◌^◌, ◌<◌, List, [], ◌∷◌, ◌++◌, length, refl, arith}
use Rattle.std.specs.List.{AllByRecursion}
use Rattle.lnt_wire.specs.declared.format.Format.{Format}
use Rattle.lnt_wire.specs.declared.format.Format.TheVariants.{D64}
use Rattle.lnt_wire.specs.declared.format.Order.{Order}
use Rattle.lnt_wire.specs.declared.form.Form.{Form}
use Rattle.lnt_wire.specs.declared.form.Form.TheVariants as forms
use Rattle.lnt_wire.specs.declared.form.FormValue.{FormValue}
use Rattle.lnt_wire.specs.declared.form.FormValue.TheVariants.{LineStrp, Strp}
use Rattle.lnt_wire.specs.Bytes.{Appends}
use Rattle.lnt_wire.specs.FormBytes.{form_code, FormBytes, HasSpelling, IsTooLarge}
use Rattle.lnt_wire.specs.FrameBytes.{frame_bytes}
use Rattle.lnt_wire.specs.Laws as wire
use Rattle.lnt_wire.specs.Leb128.{UnsignedLeb}
use Rattle.lnt_wire.specs.Spelled.{FitsForm, HasShortest}
use Rattle.lnt_header.specs.declared.header.Entry.{Entry}
use Rattle.lnt_header.specs.Parts.{HeaderParts}
use Rattle.lnt_header.specs.declared.header.Pair.{Pair}
use Rattle.lnt_header_bytes.specs.HeaderPuts.{EntryParts}
use Rattle.lnt_header_bytes.specs.HeaderBytes.{HeaderBytes, HeaderFieldsBytes, unit_body}
use Rattle.lnt_header.specs.HeaderRules.{IsEntryOf, IsHeader, IsEntryTable, six_bytes}
use Rattle.lnt_header.specs.Joins.{Each}
use Rattle.lnt_header_bytes.specs.Spelled.{AllowedHeaderIsSpelled, FitsFields, FitsTable, HasSmallOffsets, LengthsFit, OffsetsFit}
use Rattle.lnt_header_bytes.proofs.ProgramLaws.{fits_less, length-body}
use Rattle.lnt_header.proofs.ShortestLaws.{each_shortest}
use Rattle.lnt_header_bytes.specs.TableBytes.{EntryBytes, PairBytes, TableBytes, TableOf, ValuesBytes}
use Rattle.lnt_header_bytes.proofs.AllowedLaws.{spelled_header}
use Rattle.lnt_header_bytes.proofs.EncodeLemmas.{fields_put, pair_put, table_put}
use Rattle.std.proofs.lemmas.Grind.{common_steps}

-- ---- what is spelled is put

put_after : {X : Type 0} (Spells : X → List ℕ → Type 0) (x : X) (old : List ℕ) → (s : HasShortest Spells x)
    → Appends Spells x old (old ++ s.0)
put_after Spells x old s = record { spelling = s.0; spelled = s.1; joined = refl }

was_put : {X : Type 0} (Spells : X → List ℕ → Type 0) (x : X) (old new : List ℕ) → Appends Spells x old new → HasShortest Spells x
was_put Spells x old new p = (p.spelling, p.spelled)

-- ---- formats

small_code : (form : Form) → form_code form < 2 ^ 64
small_code forms.Block2 = omega arith
small_code form = omega arith

pairs_spelled : wire.SpelledValues → (pairs : List Pair) → AllByRecursion (λ (pair : Pair). pair.content < 2 ^ 64) pairs
    → AllByRecursion (HasShortest PairBytes) pairs
pairs_spelled law [] fits = tt
pairs_spelled law (pair ∷ pairs) fits =
    let content = law.unsigned pair.content fits.0 in
    let code = law.unsigned (form_code pair.form) (small_code pair.form) in (
      was_put PairBytes pair [] (([] ++ content.0) ++ code.0)
          (pair_put pair (form_code pair.form) [] ([] ++ content.0) (([] ++ content.0) ++ code.0)
          (put_after UnsignedLeb pair.content [] content) refl (put_after UnsignedLeb (form_code pair.form) ([] ++ content.0) code)),
      pairs_spelled law pairs fits.1,
    )

-- ---- entries

values_spelled : wire.SpelledValues → (format : Format) (order : Order) (values : List FormValue) → AllByRecursion HasSpelling values
    → AllByRecursion FitsForm values
    → AllByRecursion (λ value. IsTooLarge format value → ⊥) values → AllByRecursion (HasShortest (FormBytes format order)) values
values_spelled law format order [] is fits small = tt
values_spelled law format order (value ∷ values) is fits small =
    (law.value format order value is.0 fits.0 small.0, values_spelled law format order values is.1 fits.1 small.1)

entries_spelled : wire.SpelledValues → (format : Format) (order : Order) (pairs : List Pair) (entries : List Entry)
    → AllByRecursion (IsEntryOf pairs) entries
    → AllByRecursion (λ (entry : Entry). AllByRecursion FitsForm entry.values) entries → OffsetsFit format entries
    → AllByRecursion (HasShortest (EntryParts format order)) entries
entries_spelled law format order pairs [] is fits small = tt
entries_spelled law format order pairs (entry ∷ entries) is fits small =
    let one = each_shortest (FormBytes format order) entry.values
    (values_spelled law format order entry.values is.0.spelled fits.0 small.0) in (
      (one.0, record { spelled = one.1.spelled; shortest = one.1.shortest }),
      entries_spelled law format order pairs entries is.1 fits.1 small.1,
    )

table_spelled : wire.SpelledValues → (format : Format) (order : Order) (pairs : List Pair) (entries : List Entry)
    → IsEntryTable pairs entries → FitsTable pairs entries → OffsetsFit format entries → HasShortest (TableOf format order) (pairs, entries)
table_spelled law format order pairs entries is fits small =
    let p = each_shortest PairBytes pairs (pairs_spelled law pairs fits.contents) in
    let n = law.unsigned (length entries) fits.count in
    let e = each_shortest (EntryParts format order) entries
    (entries_spelled law format order pairs entries is.of_format fits.values small) in
    let m1 : List ℕ = [] ++ length pairs ∷ [] in
    let m2 : List ℕ = m1 ++ p.0 in
    let m3 : List ℕ = m2 ++ n.0 in
    was_put (TableOf format order) (pairs, entries) [] (m3 ++ e.0)
    (table_put format order pairs entries [] m1 m2 m3 (m3 ++ e.0) is refl (put_after (Each PairBytes) pairs m1 p)
    (put_after UnsignedLeb (length entries) m2 n) (put_after (Each (EntryParts format order)) entries m3 e))

-- ---- headers

fields_spelled : wire.SpelledValues → (h : HeaderParts) → IsHeader h → FitsFields h → HasSmallOffsets h → HasShortest HeaderFieldsBytes h
fields_spelled law h is fits small =
    let d = table_spelled law h.format h.numbers.order h.directory_format h.directories is.directories fits.directories small.directories in
    let f = table_spelled law h.format h.numbers.order h.file_format h.files is.files fits.files small.files in
    let o2 : List ℕ = ([] ++ six_bytes h.numbers) ++ h.numbers.standard_lengths in
    let o3 : List ℕ = o2 ++ d.0 in
    let o4 : List ℕ = o3 ++ f.0 in (
      o4 ++ h.extra,
      fields_put h [] o2 o3 o4 (o4 ++ h.extra) is refl refl
          (put_after (TableOf h.format h.numbers.order) (h.directory_format, h.directories) o2 d)
          (put_after (TableOf h.format h.numbers.order) (h.file_format, h.files) o3 f) refl,
    )

unit_spelled : wire.SpelledValues → (h : HeaderParts) (program : List ℕ) → IsHeader h → FitsFields h → HasSmallOffsets h
    → LengthsFit h program → (bytes : List ℕ) × HeaderBytes h program bytes
unit_spelled law h program is fits small short =
    let s = fields_spelled law h is fits small in (
      frame_bytes h.numbers.order h.format (unit_body h s.0 program),
      record { fields = s.0; counted = s.1.spelled; fits = short s.0 s.1; joined = refl },
    )

-- ---- what is spelled

pairs_fit : (pairs : List Pair) (x : List ℕ) → Each PairBytes pairs x → AllByRecursion (λ (pair : Pair). pair.content < 2 ^ 64) pairs
pairs_fit [] x p = tt
pairs_fit (pair ∷ pairs) x p = (p.first.first.fits, pairs_fit pairs p.back p.second)

values_fit : wire.SpelledValues → (format : Format) (order : Order) (pairs : List Pair) (values : List FormValue) (x : List ℕ)
    → ValuesBytes format order pairs values x
    → AllByRecursion FitsForm values × AllByRecursion (λ value. IsTooLarge format value → ⊥) values
values_fit law format order [] [] x p = (tt, tt)
values_fit law format order [] (value ∷ values) x p = absurd p
values_fit law format order (pair ∷ pairs) [] x p = absurd p
values_fit law format order (pair ∷ pairs) (value ∷ values) x p =
    let one = law.allowed format order value p.1.prefix p.1.first in
    let rest = values_fit law format order pairs values p.1.back p.1.second in
    ((one.1, rest.0), (one.2, rest.1))

entries_fit : wire.SpelledValues → (format : Format) (order : Order) (pairs : List Pair) (entries : List Entry) (x : List ℕ)
    → Each (EntryBytes format order pairs) entries x
    → AllByRecursion (λ (entry : Entry). AllByRecursion FitsForm entry.values) entries × OffsetsFit format entries
entries_fit law format order pairs [] x p = (tt, tt)
entries_fit law format order pairs (entry ∷ entries) x p =
    let one = values_fit law format order pairs entry.values p.prefix p.first in
    let rest = entries_fit law format order pairs entries p.back p.second in
    ((one.0, rest.0), (one.1, rest.1))

table_fits : wire.SpelledValues → (format : Format) (order : Order) (pairs : List Pair) (entries : List Entry) (x : List ℕ)
    → TableBytes format order pairs entries x → FitsTable pairs entries × OffsetsFit format entries
table_fits law format order pairs entries x p = grind (arith, common_steps, entries_fit, pairs_fit)

allowed : wire.SpelledValues → (h : HeaderParts) (program bytes : List ℕ) → HeaderBytes h program bytes
    → IsHeader h × FitsFields h × HasSmallOffsets h × LengthsFit h program
allowed law h program bytes p =
    let d = table_fits law h.format h.numbers.order h.directory_format h.directories p.counted.directories p.counted.directory_table in
    let f = table_fits law h.format h.numbers.order h.file_format h.files p.counted.files p.counted.file_table in (
      spelled_header h p.fields p.counted,
      record { directories = d.0; files = f.0 },
      record { directories = d.1; files = f.1 },
      λ fields s. fits_less h.format (length (unit_body h fields program)) (length (unit_body h p.fields program))
          (omega (arith, length-body h fields program, length-body h p.fields program, s.shortest p.fields p.counted)) p.fits,
    )

-- ---- the 64-bit format

wide_value : (value : FormValue) → IsTooLarge D64 value → ⊥
wide_value (LineStrp n) large = large
wide_value (Strp n) large = large
wide_value value large = large

wide_values : (values : List FormValue) → AllByRecursion (λ value. IsTooLarge D64 value → ⊥) values
wide_values [] = tt
wide_values (value ∷ values) = (wide_value value, wide_values values)

wide_entries : (entries : List Entry) → OffsetsFit D64 entries
wide_entries [] = tt
wide_entries (entry ∷ entries) = (wide_values entry.values, wide_entries entries)

wide : (h : HeaderParts) → h.format ≡ D64 → HasSmallOffsets h
wide h is = grind (arith, common_steps, wide_entries)

pub allowed_is_spelled : wire.SpelledValues → AllowedHeaderIsSpelled
allowed_is_spelled law = record { fields = fields_spelled law; unit = unit_spelled law; allowed = allowed law; wide = wide }
