-- What is written of a header.
use Rattle.std.proofs.Common.{◌≡◌, ℕ, ◌+◌, ◌≤◌, List, [], ◌∷◌, ◌++◌, length, refl, sym, ap, subst, ◌∙◌, append_assoc, arith, map}
use Rattle.std.proofs.Common.{length-append}
use Rattle.std.specs.List.{AllByRecursion}
use Rattle.lnt_wire.specs.declared.format.Format.{Format}
use Rattle.lnt_wire.specs.declared.format.Format.TheVariants.{D32, D64}
use Rattle.lnt_wire.specs.declared.format.Order.{Order}
use Rattle.lnt_wire.specs.declared.form.FormValue.{FormValue}
use Rattle.lnt_wire.specs.declared.form.FormValue.TheVariants.{LineStrp, Strp}
use Rattle.lnt_wire.specs.Bytes.{Exactly, Then, IsShortest, Appends}
use Rattle.lnt_wire.specs.FormBytes.{form_of, form_code, FormBytes, IsTooLarge}
use Rattle.lnt_wire.specs.Leb128.{UnsignedLeb}
use Rattle.lnt_wire.specs.FrameBytes.{frame_bytes, initial_length, LengthFits}
use Rattle.lnt_wire.specs.Numbers.{NumberBytes, OffsetBytes, IsLargeOffset, offset_size}
use Rattle.lnt_header.specs.declared.header.Entry.{Entry}
use Rattle.lnt_header.specs.Parts.{HeaderParts}
use Rattle.lnt_header_bytes.specs.HeaderBytes.{HeaderFieldsBytes, HeaderBytesIn, unit_body}
use Rattle.lnt_header.specs.declared.header.Pair.{Pair}
use Rattle.lnt_header_bytes.specs.HeaderPuts.{EntryParts, AddsAround}
use Rattle.lnt_header.specs.HeaderRules.{IsEntryOf, IsEntryTable, IsHeader, six_bytes, single_bytes}
use Rattle.lnt_header.specs.Joins.{Each}
use Rattle.lnt_header_bytes.proofs.ProgramLaws.{length-initial-same, length-around, length-body}
use Rattle.lnt_header.proofs.PutLaws.{byte_put, join_put, put_as}
use Rattle.lnt_header_bytes.proofs.TableLaws.{parts_as}
use Rattle.lnt_header_bytes.specs.TableBytes.{PairBytes, ValuesBytes, EntryBytes, TableOf}
use Rattle.std.proofs.lemmas.Grind.{common_steps}

-- ---- pairs

pub pair_put : (pair : Pair) (code : ℕ) (old middle new : List ℕ) → Appends UnsignedLeb pair.content old middle → code ≡ form_code pair.form
    → Appends UnsignedLeb code middle new → Appends PairBytes pair old new
pair_put pair code old middle new p is q = grind (arith, common_steps, put_as, join_put)

-- ---- values

pub large_value : (format : Format) (order : Order) (value : FormValue) (x : List ℕ) → IsTooLarge format value
    → FormBytes format order value x → ⊥
large_value D32 order (Strp n) x large p = omega (arith, p.fits, large)
large_value D32 order (LineStrp n) x large p = omega (arith, p.fits, large)
large_value D64 order (Strp n) x large p = large
large_value D64 order (LineStrp n) x large p = large
large_value format order value x large p = absurd large

-- ---- tables

values_as : (format : Format) (order : Order) (pairs : List Pair) (values : List FormValue) (x : List ℕ)
    → map form_of values ≡ map (λ pair. pair.form) pairs → Each (FormBytes format order) values x → ValuesBytes format order pairs values x
values_as format order [] [] x e p = p
values_as format order [] (v ∷ values) x e p = absurd cc
values_as format order (pair ∷ pairs) [] x e p = absurd cc
values_as format order (pair ∷ pairs) (v ∷ values) x e p =
    let first : form_of v ≡ pair.form = cc in
    let past : map form_of values ≡ map (λ pair. pair.form) pairs = cc in
    (first, parts_as p p.first (values_as format order pairs values p.back past p.second))

as_values : (format : Format) (order : Order) (pairs : List Pair) (values : List FormValue) (x : List ℕ)
    → ValuesBytes format order pairs values x → Each (FormBytes format order) values x
as_values format order [] [] x p = p
as_values format order [] (v ∷ values) x p = absurd p
as_values format order (pair ∷ pairs) [] x p = absurd p
as_values format order (pair ∷ pairs) (v ∷ values) x p = parts_as p.1 p.1.first (as_values format order pairs values p.1.back p.1.second)

entries_as : (format : Format) (order : Order) (pairs : List Pair) (entries : List Entry) (x : List ℕ)
    → AllByRecursion (IsEntryOf pairs) entries → Each (EntryParts format order) entries x → Each (EntryBytes format order pairs) entries x
entries_as format order pairs [] x h p = p
entries_as format order pairs (entry ∷ entries) x h p = parts_as p (values_as format order pairs entry.values p.prefix h.0.forms p.first)
    (entries_as format order pairs entries p.back h.1 p.second)

pub as_entries : (format : Format) (order : Order) (pairs : List Pair) (entries : List Entry) (x : List ℕ)
    → Each (EntryBytes format order pairs) entries x → Each (EntryParts format order) entries x
as_entries format order pairs [] x p = p
as_entries format order pairs (entry ∷ entries) x p =
    parts_as p (as_values format order pairs entry.values p.prefix p.first) (as_entries format order pairs entries p.back p.second)

-- the same parts before other entries
with_entries : {A B C D D' : List ℕ → Type 0} {x : List ℕ} → (t : Then A (Then B (Then C D)) x) → D' t.second.second.back
    → Then A (Then B (Then C D')) x
with_entries t d = parts_as t t.first (parts_as t.second t.second.first (parts_as t.second.second t.second.second.first d))

abbrev TableParts : Format → Order → ℕ × (List Pair × (ℕ × List Entry)) → List ℕ → Type 0
TableParts format order t bytes =
    Then (Exactly (t.0 ∷ [])) (Then (Each PairBytes t.1.0) (Then (UnsignedLeb t.1.1.0) (Each (EntryParts format order) t.1.1.1))) bytes

pub table_put : (format : Format) (order : Order) (pairs : List Pair) (entries : List Entry) (old m1 m2 m3 new : List ℕ)
    → IsEntryTable pairs entries → m1 ≡ old ++ length pairs ∷ [] → Appends (Each PairBytes) pairs m1 m2
    → Appends UnsignedLeb (length entries) m2 m3 → Appends (Each (EntryParts format order)) entries m3 new
    → Appends (TableOf format order) (pairs, entries) old new
table_put format order pairs entries old m1 m2 m3 new is pushed p q r =
    let count : Appends (λ (k : ℕ). Exactly (k ∷ [])) (length pairs) old m1 =
    subst (λ (z : List ℕ). Appends (λ (k : ℕ). Exactly (k ∷ [])) (length pairs) old z) (sym pushed) (byte_put (length pairs) old) in
    let back = join_put UnsignedLeb (Each (EntryParts format order)) (length entries) entries m2 m3 new q r in
    let past = join_put (Each PairBytes) (λ (w : ℕ × List Entry). Then (UnsignedLeb w.0) (Each (EntryParts format order) w.1)) pairs
    (length entries, entries) m1 m2 new p back in
    let all = join_put (λ (k : ℕ). Exactly (k ∷ [])) (λ (w : List Pair × (ℕ × List Entry)). Then (Each PairBytes w.0)
    (Then (UnsignedLeb w.1.0) (Each (EntryParts format order) w.1.1))) (length pairs) (pairs, (length entries, entries)) old m1 new
    count past in
    put_as (TableParts format order) (TableOf format order) (length pairs, (pairs, (length entries, entries))) (pairs, entries) old new
    (λ x t. record {
      few_pairs = is.few_pairs;
      none_without_pairs = is.none_without_pairs;
      spelled = with_entries t (entries_as format order pairs entries t.second.second.back is.of_format t.second.second.second);
    }) (λ x t. let s = t.spelled in with_entries s (as_entries format order pairs entries s.second.second.back s.second.second.second)) all

-- ---- what header_length counts

length-four : (a b c d : List ℕ) → length (a ++ b ++ c ++ d) ≡ length a + length b + length c + length d
length-four a b c d = simp length-append refl

pub fields_put : (h : HeaderParts) (o0 o2 o3 o4 o5 : List ℕ) → IsHeader h → o0 ≡ []
    → o2 ≡ (o0 ++ six_bytes h.numbers) ++ h.numbers.standard_lengths
    → Appends (TableOf h.format h.numbers.order) (h.directory_format, h.directories) o2 o3
    → Appends (TableOf h.format h.numbers.order) (h.file_format, h.files) o3 o4 → o5 ≡ o4 ++ h.extra → IsShortest HeaderFieldsBytes h o5
fields_put h o0 o2 o3 o4 o5 is begun first d f last =
    let prefix : o2 ≡ single_bytes h.numbers =
    first ∙ ap (λ (z : List ℕ). (z ++ six_bytes h.numbers) ++ h.numbers.standard_lengths) begun in
    let whole : o5 ≡ single_bytes h.numbers ++ d.spelling ++ f.spelling ++ h.extra = last ∙ ap (λ (z : List ℕ). z ++ h.extra) (f.joined
    ∙ ap (λ (z : List ℕ). z ++ f.spelling) (d.joined ∙ ap (λ (z : List ℕ). z ++ d.spelling) prefix)) in
    record {
      spelled = record {
        directories = d.spelling;
        files = f.spelling;
        numbers = is.numbers;
        directory_table = d.spelled.spelled;
        file_table = f.spelled.spelled;
        joined = whole;
      };
      shortest = λ other p.
          omega (
            arith,
            ap length whole,
            length-four (single_bytes h.numbers) d.spelling f.spelling h.extra,
            ap length p.joined,
            length-four (single_bytes h.numbers) p.directories p.files h.extra,
            d.spelled.shortest p.directories p.directory_table,
            f.spelled.shortest p.files p.file_table,
          );
    }

-- ---- the whole unit

regroup_out : (o a b c d e f g : List ℕ) → ((((((o ++ a) ++ b) ++ c) ++ d) ++ e) ++ f) ++ g ≡ o ++ (a ++ (b ++ (c ++ d) ++ e ++ f ++ g))
regroup_out o a b c d e f g = simp append_assoc

pub around_put : (order : Order) (format : Format) (address_size : ℕ) (program fields : List ℕ) (n count : ℕ)
    (o0 o1 o2 size o3 o4 o5 o6 : List ℕ) → n ≡ 4 + offset_size format + length fields + length program → LengthFits format n
    → o1 ≡ o0 ++ initial_length format order n → Appends (NumberBytes order 2) 5 o1 o2 → size ≡ o2 ++ address_size ∷ []
    → o3 ≡ size ++ 0 ∷ [] → count ≡ length fields → Appends (OffsetBytes format order) count o3 o4
    → o5 ≡ o4 ++ fields → o6 ≡ o5 ++ program → AddsAround order format address_size fields program o0 o6
around_put order format address_size program fields n count o0 o1 o2 size o3 o4 o5 o6 n_is fits initial version size_put selector_put
    count_is length_put counted last =
    grind (arith, common_steps, length-around, regroup_out)

-- an offset within a unit whose length fits is never too large
pub offset_fits : (format : Format) (n length_is : ℕ) → n ≤ length_is → LengthFits format length_is → IsLargeOffset format n → ⊥
offset_fits D32 n length_is le fits large = omega (arith, le, fits, large)
offset_fits D64 n length_is le fits large = large

-- fields and a program in their shortest spellings
pub header_put : (h : HeaderParts) (program fields named old new : List ℕ) (size : ℕ) → IsShortest HeaderFieldsBytes h fields
    → named ≡ fields → size ≡ h.numbers.address_size → AddsAround h.numbers.order h.format size named program old new
    → Appends (HeaderBytesIn h.numbers.order) (h, program) old new
header_put h program fields named old new size p is sized added =
    let a : AddsAround h.numbers.order h.format h.numbers.address_size fields program old new = rw (← is, ← sized) added in
    let body = unit_body h fields program in
    record {
      spelling = frame_bytes h.numbers.order h.format body;
      spelled = record {
        spelled = record { order_is = refl; spelled = record { fields = fields; counted = p.spelled; fits = a.fits; joined = refl } };
        shortest = λ other q.
            let t = q.spelled in
            let body' = unit_body h t.fields program in
            omega (
              arith,
              length-append (initial_length h.format h.numbers.order (length body)) body,
              ap length t.joined,
              length-append (initial_length h.format h.numbers.order (length body')) body',
              length-initial-same h.format h.numbers.order (length body) (length body'),
              length-body h fields program,
              length-body h t.fields program,
              p.shortest t.fields t.counted,
            );
      };
      joined = a.joined;
    }
