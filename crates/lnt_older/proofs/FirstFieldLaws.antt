-- The first field that header_length counts of an older unit, and that isn't there, is one.
use Rattle.std.proofs.Common.{◌≡◌, ℕ, suc, ◌+◌, List, [], ◌∷◌, ◌++◌, length, refl, sym, ap, ◌∙◌, append_assoc, arith}
use Rattle.std.proofs.lemmas.List.{append-nil}
use Rattle.lnt_wire.specs.Bytes.{NoneSpelled}
use Rattle.lnt_wire.specs.declared.fault.Reason.{Reason}
use Rattle.lnt_wire.specs.declared.fault.Reason.TheVariants.{Truncated}
use Rattle.lnt_wire.specs.declared.format.Format.{Format}
use Rattle.lnt_wire.specs.declared.format.Order.{Order}
use Rattle.lnt_header.specs.FieldFaults.FirstOfSeveral.{next}
use Rattle.lnt_header.specs.Joins.{Each}
use Rattle.lnt_header.specs.declared.header.Entry.{Entry}
use Rattle.lnt_header.specs.declared.header.Pair.{Pair}
use Rattle.lnt_header.proofs.FirstFaultLaws.{AreOne, first_of, IsOneFault, several_of}
use Rattle.lnt_header_bytes.specs.HeaderFaults.{SinglesBytes, IsSinglesFault, IsLengthsFault, LengthsBytes}
use Rattle.lnt_header_bytes.specs.TableFaults.{IsEntryFault}
use Rattle.lnt_header_bytes.proofs.TableReaders.{entry_fault}
use Rattle.lnt_older.specs.Lists.{IsListFault}
use Rattle.lnt_older.specs.Lists.IsListFault.{no_entry, no_end}
use Rattle.lnt_older.specs.OlderBytes.{has_max_ops, BeginsEntry, directory_pairs, file_pairs, ListBytes, ListedBytes, OlderVersion}
use Rattle.lnt_older.specs.OlderFields.{AfterNumbers, AfterNumbersFault, FieldsOf, IsFieldsFault}
use Rattle.lnt_older.specs.OlderFields.{TwoLists, TwoListsFault}
use Rattle.lnt_header_bytes.specs.declared.numbers.Singles.{Singles}
use Rattle.lnt_header_bytes.proofs.HeaderReaders.{lengths_code, lengths_fault}
use Rattle.lnt_older.proofs.FieldLemmas.{list_code}
use Rattle.lnt_older.proofs.ListFaultLemmas.{begins_prefix, listed_code, none_list}
use Rattle.lnt_older.proofs.ListLemmas.{zero_begins}
use Rattle.lnt_header_bytes.proofs.SoundLemmas.{singles_code, singles_fault}

-- ---- the lists

module _ (format : Format) (order : Order) (pairs : List Pair) where
  -- What is wrong after some entries: the next one, or the zero byte.
  data IsNextFault (reason : Reason) (before left : List ℕ) : Type 0 where
    of_entry : BeginsEntry (before ++ left) → IsEntryFault format order pairs reason before left → IsNextFault reason before left
    of_end : before ≡ [] → left ≡ [] → reason ≡ Truncated → IsNextFault reason before left

  nothing_begins : (bytes : List ℕ) → bytes ≡ [] → BeginsEntry bytes → ⊥
  nothing_begins bytes none b = absurd (cc (none, b.joined))

  next_none : (reason : Reason) (before left : List ℕ) → IsNextFault reason before left
      → NoneSpelled (ListedBytes format order pairs) (before ++ left)
  next_none reason before left (of_entry begins h) entry x more p e =
      (entry_fault format order pairs).none reason before left h entry x more p.spelled e
  next_none reason before left (of_end nothing ends is) entry x more p e =
      nothing_begins (before ++ left) (rw (nothing, ends) refl) (begins_prefix x more (before ++ left) p.some (sym e))

  next_one : AreOne IsNextFault
  next_one reason other before before' left left' (of_entry begins h) (of_entry begins' k) e =
      (entry_fault format order pairs).one reason other before before' left left' h k e
  next_one reason other before before' left left' (of_entry begins h) (of_end nothing ends is) e =
      absurd (nothing_begins (before ++ left) (e ∙ rw (nothing, ends) refl) begins)
  next_one reason other before before' left left' (of_end nothing ends is) (of_entry begins k) e =
      absurd (nothing_begins (before' ++ left') (sym e ∙ rw (nothing, ends) refl) begins)
  next_one reason other before before' left left' (of_end nothing ends is) (of_end nothing' ends' is') e =
      (is ∙ sym is', nothing ∙ sym nothing')

  next_fault : IsOneFault (ListedBytes format order pairs) IsNextFault
  next_fault = record { none = next_none; one = next_one }

  -- The fault of a list, after the entries that are there.
  record IsAfter (reason : Reason) (before left : List ℕ) : Type 0 where
    entries : List Entry
    prefix : List ℕ
    past : List ℕ
    each : Each (ListedBytes format order pairs) entries prefix
    joined : before ≡ prefix ++ past
    next_is : IsNextFault reason past left

  after_of : (reason : Reason) (before left : List ℕ) → IsListFault format order pairs reason before left → IsAfter reason before left
  after_of reason before left (no_entry entries prefix past each joined begins h) =
      record { entries = entries; prefix = prefix; past = past; each = each; joined = joined; next_is = of_entry begins h }
  after_of reason before left (no_end entries each ends is) = record {
    entries = entries;
    prefix = before;
    past = [];
    each = each;
    joined = sym (append-nil before);
    next_is = of_end refl ends is;
  }

  no_zero : (reason : Reason) (before left more : List ℕ) → IsNextFault reason before left → 0 ∷ more ≡ before ++ left → ⊥
  no_zero reason before left more (of_entry begins h) e = zero_begins more (before ++ left) e begins
  no_zero reason before left more (of_end nothing ends is) e = absurd (cc (e, nothing, ends))

  list_fault : IsOneFault (ListBytes format order pairs) (IsListFault format order pairs)
  list_fault = record {
    none = λ reason before left h.
        let a = after_of reason before left h in
        none_list format order pairs a.entries a.prefix (a.past ++ left) (before ++ left) a.each
        (ap (λ (z : List ℕ). z ++ left) a.joined ∙ append_assoc a.prefix a.past left) (next_none reason a.past left a.next_is)
        (λ more e. no_zero reason a.past left more a.next_is e);
    one = λ reason other before before' left left' h k e.
        let a = after_of reason before left h in
        let b = after_of other before' left' k in
        (several_of (ListedBytes format order pairs) IsNextFault (listed_code format order pairs) next_fault
        (suc (length a.entries + length b.entries))).one reason other before before' left left'
        (next a.entries a.prefix a.past (omega arith) a.each a.joined a.next_is)
        (next b.entries b.prefix b.past (omega arith) b.each b.joined b.next_is) e;
  }

-- ---- all fields

module _ (format : Format) (order : Order) where
  lists_fault : IsOneFault (TwoLists format order) (TwoListsFault format order)
  lists_fault =
      first_of (ListBytes format order directory_pairs) (IsListFault format order directory_pairs)
      (λ _. IsListFault format order file_pairs) (list_code format order directory_pairs) (λ _. ListBytes format order file_pairs)
      (list_fault format order directory_pairs) (λ _. list_fault format order file_pairs)

  after_numbers : (n : Singles) → IsOneFault (AfterNumbers format order n) (AfterNumbersFault format order n)
  after_numbers n =
      first_of (LengthsBytes n.opcode_base) (IsLengthsFault n.opcode_base) (λ _. TwoListsFault format order) (lengths_code n.opcode_base)
      (λ _. TwoLists format order) (lengths_fault n.opcode_base) (λ _. lists_fault)

  pub fields_fault : (version : OlderVersion) → IsOneFault (FieldsOf version format order) (IsFieldsFault version format order)
  fields_fault version =
      let six = has_max_ops version in
      first_of (SinglesBytes six) (IsSinglesFault six) (AfterNumbersFault format order) (singles_code six) (AfterNumbers format order)
      (singles_fault six) after_numbers
