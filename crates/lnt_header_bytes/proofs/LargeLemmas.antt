-- What is too large for a format where something isn't written.
use Rattle.std.proofs.Common.{◌≡◌, ◌⊎◌, ℕ, ◌<◌, List, length, get_or, sym, subst, arith, inl, inr, Contains}
use Rattle.std.proofs.lemmas.List.Elements.{Contains-get_or}
use Rattle.lnt_wire.specs.declared.format.Format.{Format}
use Rattle.lnt_wire.specs.declared.format.Order.{Order}
use Rattle.lnt_wire.specs.declared.form.FormValue.{FormValue}
use Rattle.lnt_wire.specs.declared.put.EncodeFault.{EncodeFault}
use Rattle.lnt_wire.specs.declared.put.EncodeFault.TheVariants.{Memory, TooLarge}
use Rattle.lnt_wire.specs.FormBytes.{FormBytes, IsTooLarge}
use Rattle.lnt_header.specs.declared.header.Entry.{Entry}
use Rattle.lnt_header.specs.Parts.{HeaderParts}
use Rattle.lnt_header.specs.declared.header.Pair.{Pair}
use Rattle.lnt_header.specs.Encoding.{NoSpelling, RefusedPut}
use Rattle.lnt_header.specs.Joins.{Each}
use Rattle.lnt_header.proofs.PutLaws.{each_at}
use Rattle.lnt_header_bytes.specs.TableBytes.{TableOf}
use Rattle.lnt_header_bytes.proofs.EncodeLemmas.{as_entries, large_value}
use Rattle.lnt_header_bytes.proofs.ProgramLaws.{fits_less, length-body}
use Rattle.lnt_header_bytes.specs.HeaderBytes.{HeaderBytesIn, unit_body}
use Rattle.lnt_header_bytes.specs.HeaderPuts.{EntryParts}
use Rattle.lnt_header_bytes.specs.Large.{HasLargeEntry, HasLargeOffset, HasLargeValue, IfTooLarge, IsTooLong}

-- want of memory says nothing
pub memory_not_large : (IsSo : Type 0) (fault : EncodeFault) → fault ≡ Memory → IfTooLarge IsSo fault
memory_not_large IsSo fault is = record { is_so = λ large. absurd cc }

place_of : {X : Type 0} (xs : List X) (i : ℕ) (x : X) → i < length xs → x ≡ get_or xs i x → Contains xs x
place_of xs i x lt is = subst (Contains xs) (sym is) (Contains-get_or xs i x lt)

pub value_large : (format : Format) (values : List FormValue) (i : ℕ) (value : FormValue) (fault : EncodeFault) → i < length values
    → value ≡ get_or values i value → (fault ≡ TooLarge → IsTooLarge format value) → IfTooLarge (HasLargeValue format values) fault
value_large format values i value fault lt is large = record { is_so = λ e. (value, place_of values i value lt is, large e) }

pub entry_large : (format : Format) (entries : List Entry) (i : ℕ) (entry : Entry) (values : List FormValue) (fault : EncodeFault)
    → i < length entries → entry ≡ get_or entries i entry
    → values ≡ entry.values → IfTooLarge (HasLargeValue format values) fault → IfTooLarge (HasLargeEntry format entries) fault
entry_large format entries i entry values fault lt is same large =
    record { is_so = λ e. (entry, place_of entries i entry lt is, subst (HasLargeValue format) same (large.is_so e)) }

-- ---- where one of these is so, no bytes are an encoding

no_value : (format : Format) (order : Order) (values : List FormValue) → HasLargeValue format values
    → NoSpelling (Each (FormBytes format order)) values
no_value format order values h bytes p =
    let one = each_at (FormBytes format order) values h.1.0 h.0 bytes h.1.1 p in
    large_value format order h.0 one.0 h.2 (subst (λ (v : FormValue). FormBytes format order v one.0) h.1.2 one.1)

no_entry : (format : Format) (order : Order) (pairs : List Pair) (entries : List Entry) → HasLargeEntry format entries
    → NoSpelling (TableOf format order) (pairs, entries)
no_entry format order pairs entries h bytes p =
    let past = p.spelled.second.second in
    let one =
    each_at (EntryParts format order) entries h.1.0 h.0 past.back h.1.1 (as_entries format order pairs entries past.back past.second) in
    no_value format order h.0.values h.2 one.0 (subst (λ (e : Entry). EntryParts format order e one.0) h.1.2 one.1)

no_unit : (h : HeaderParts) (program : List ℕ) → HasLargeOffset h ⊎ IsTooLong h program
    → NoSpelling (HeaderBytesIn h.numbers.order) (h, program)
no_unit h program (inl (inl large)) bytes p =
    let c = p.spelled.counted in
    no_entry h.format h.numbers.order h.directory_format h.directories large c.directories c.directory_table
no_unit h program (inl (inr large)) bytes p =
    let c = p.spelled.counted in
    no_entry h.format h.numbers.order h.file_format h.files large c.files c.file_table
no_unit h program (inr long) bytes p =
    let t = p.spelled in
    long.too_long (fits_less h.format (length (unit_body h long.fields program)) (length (unit_body h t.fields program))
    (omega (arith, length-body h long.fields program, length-body h t.fields program, long.shortest.shortest t.fields t.counted)) t.fits)

pub too_large_refused : (h : HeaderParts) (program : List ℕ) (fault : EncodeFault)
    → IfTooLarge (HasLargeOffset h ⊎ IsTooLong h program) fault → RefusedPut (HeaderBytesIn h.numbers.order) (h, program) fault
too_large_refused h program fault large = record { none = λ e. no_unit h program (large.is_so e) }
