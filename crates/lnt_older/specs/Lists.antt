-- The lists of older units that are read, and what is wrong where one isn't: its first entry that isn't there whole, where the first
-- byte isn't zero; or the zero byte after them.
--     before   the bytes from the list's first one up to the place of the fault
--     left     the bytes from the place on, up to the end of the header
use Rattle.std.specs.Prelude.{◌≡◌, ℕ, List, [], ◌∷◌, ◌++◌, length}
use Rattle.lnt_wire.specs.Reading.{At, Reads}
use Rattle.lnt_wire.specs.declared.fault.Reason.{Reason}
use Rattle.lnt_wire.specs.declared.fault.Reason.TheVariants.{Truncated}
use Rattle.lnt_wire.specs.declared.form.Form.TheVariants.{Text}
use Rattle.lnt_wire.specs.declared.format.Format.{Format}
use Rattle.lnt_wire.specs.declared.format.Order.{Order}
use Rattle.lnt_header.specs.Joins.{Each}
use Rattle.lnt_header.specs.declared.header.Entry.{Entry}
use Rattle.lnt_header.specs.declared.header.Pair.{Pair}
use Rattle.lnt_header_bytes.specs.TableFaults.{IsEntryFault}
use Rattle.lnt_older.specs.OlderBytes.{BeginsEntry, ListBytes, ListedBytes}

-- An entry begins with a path.
pub record BeginsWithPath (pairs : List Pair) : Type 0 where
  pub pair : Pair
  pub past : List Pair
  pub joined : pairs ≡ pair ∷ past
  pub is_text : pair.form ≡ Text

-- The read moved past a list of so many entries, whose bytes these are, and past the zero byte after them.
pub record PassesList (format : Format) (pairs : List Pair) (count : ℕ) (bytes : List ℕ) (old new : At) : Type 0 where
  pub entries : List Entry
  pub count_is : length entries ≡ count
  pub each : Each (ListedBytes format old.order pairs) entries bytes
  pub read : Reads (ListBytes format old.order pairs) entries old new
  pub joined : old.rest ≡ (bytes ++ 0 ∷ []) ++ new.rest

pub data IsListFault (format : Format) (order : Order) (pairs : List Pair) (reason : Reason) (before left : List ℕ) : Type 0 where
  no_entry : (entries : List Entry) (prefix past : List ℕ) → Each (ListedBytes format order pairs) entries prefix → before ≡ prefix ++ past
      → BeginsEntry (past ++ left) → IsEntryFault format order pairs reason past left → IsListFault format order pairs reason before left
  no_end : (entries : List Entry) → Each (ListedBytes format order pairs) entries before → left ≡ [] → reason ≡ Truncated
      → IsListFault format order pairs reason before left
