-- Marks in a table.
use Rattle.std.proofs.Common.{◌≡◌, ℕ, ◌+◌, ◌-◌, ◌<◌, ◌≤◌, List, ◌++◌, length, drop, sym, ap, subst, ◌∙◌, append_assoc, drop-drop}
use Rattle.std.proofs.Common.{length-drop, arith, length-append}
use Rattle.std.proofs.Math.Seq.{drop-append_seam}
use Rattle.lnt_wire.specs.Reading.{At}
use Rattle.lnt_wire.specs.Bytes.{NoneSpelled}
use Rattle.lnt_wire.specs.declared.format.Order.{Order}
use Rattle.lnt_header.specs.declared.header.Entry.{Entry}
use Rattle.lnt_header.specs.Joins.{Each, Several}
use Rattle.lnt_header_bytes.specs.Borrowed.{BorrowedTable, AreEntryBytes}
use Rattle.lnt_header_bytes.specs.Stepping.{PassesAll}
use Rattle.lnt_header_bytes.proofs.PassedLaws.{others_after, several_there}
use Rattle.lnt_header_bytes.proofs.TableLaws.{entry_code}
use Rattle.lnt_header_bytes.specs.Marks.{from_entry, BeginsAt}
use Rattle.lnt_header_bytes.specs.TableBytes.{EntryBytes}
use Rattle.std.proofs.lemmas.Grind.{common_steps}

-- A cursor stands before the entry of this number.
pub record StandsAt (table : BorrowedTable) (bytes : List ℕ) (number : ℕ) (at : At) : Type 0 where
  pub order_is : at.order ≡ table.order
  pub prefix : List ℕ
  pub joined : bytes ≡ prefix ++ at.rest
  pub lies : AreEntryBytes (from_entry number table) at.rest

-- the next one, once one was passed
pub stands_next : (table : BorrowedTable) (bytes : List ℕ) (number : ℕ) (at new : At) (passed : List ℕ)
    → StandsAt table bytes number at → number < length table.entries
    → PassesAll 1 (EntryBytes table.format at.order table.pairs) passed at new → StandsAt table bytes (number + 1) new
stands_next table bytes number at new passed m lt p =
    let past = m.prefix ++ p.read.spelling in
    let whole : bytes ≡ past ++ new.rest =
    m.joined ∙ ap (λ (z : List ℕ). m.prefix ++ z) p.read.whole ∙ sym (append_assoc m.prefix p.read.spelling new.rest) in
    let spelled : Each (EntryBytes table.format table.order table.pairs) p.values p.read.spelling =
    subst (λ (o : Order). Each (EntryBytes table.format o table.pairs) p.values p.read.spelling) m.order_is p.read.spelled in
    let left : length p.values ≤ length (drop number table.entries) = omega (arith, p.count_is, length-drop number table.entries, lt) in
    let others : Each (EntryBytes table.format table.order table.pairs) (drop (length p.values) (drop number table.entries)) new.rest =
    others_after (EntryBytes table.format table.order table.pairs) (entry_code table.format table.order table.pairs) p.values
    (drop number table.entries) p.read.spelling new.rest at.rest left spelled m.lies p.read.whole in
    let next : number + length p.values ≡ number + 1 = omega (arith, p.count_is) in
    let entries : drop (length p.values) (drop number table.entries) ≡ drop (number + 1) table.entries =
    drop-drop (length p.values) number table.entries ∙ ap (λ (k : ℕ). drop k table.entries) next in
    record {
      order_is = p.read.order ∙ m.order_is;
      prefix = past;
      joined = whole;
      lies = subst (λ (es : List Entry). Each (EntryBytes table.format table.order table.pairs) es new.rest) entries others;
    }

-- where it begins
pub begins_there : (table : BorrowedTable) (bytes : List ℕ) (number place : ℕ) (at : At) → StandsAt table bytes number at
    → number ≤ length table.entries → place ≡ length bytes - length at.rest → BeginsAt table bytes number place
begins_there table bytes number place at m le place_is = grind (arith, common_steps, length-append, drop-append_seam)

-- the entry of this number is there
pub never_refused : (table : BorrowedTable) (bytes : List ℕ) (number : ℕ) (at : At) → StandsAt table bytes number at
    → number < length table.entries → NoneSpelled (Several 1 (EntryBytes table.format at.order table.pairs)) at.rest → ⊥
never_refused table bytes number at m lt none =
    several_there (EntryBytes table.format table.order table.pairs) 1 (drop number table.entries) at.rest
    (omega (arith, length-drop number table.entries, lt)) m.lies
    (subst (λ (o : Order). NoneSpelled (Several 1 (EntryBytes table.format o table.pairs)) at.rest) m.order_is none)
