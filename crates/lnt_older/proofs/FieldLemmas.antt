-- The fields that header_length counts, which are read, and the first that isn't there.
use Rattle.std.proofs.Common.{◌≡◌, ℕ, List, [], ◌∷◌, ◌++◌, refl, sym, ◌∙◌, append_assoc, arith}
use Rattle.lnt_wire.specs.Reading.{At, Reads, Refuses}
use Rattle.lnt_wire.specs.Bytes.{IsCode}
use Rattle.lnt_wire.specs.declared.fault.Fault.{Fault}
use Rattle.lnt_wire.specs.declared.format.Format.{Format}
use Rattle.lnt_wire.specs.declared.format.Order.{Order}
use Rattle.lnt_wire.proofs.CodeLaws.{peel}
use Rattle.lnt_header.proofs.ReaderLaws.{first_refused, second_refused, reads_both}
use Rattle.lnt_header.specs.declared.header.Entry.{Entry}
use Rattle.lnt_header.specs.declared.header.Pair.{Pair}
use Rattle.lnt_header_bytes.proofs.HeaderReaders.{lengths_code}
use Rattle.lnt_header_bytes.specs.HeaderFaults.{SinglesBytes, IsSinglesFault, LengthsBytes, IsLengthsFault}
use Rattle.lnt_older.specs.Lists.{IsListFault}
use Rattle.lnt_older.specs.OlderBytes.{has_max_ops, BeginsEntry, directory_pairs, file_pairs, ListBytes, OlderVersion}
use Rattle.lnt_older.specs.OlderFields.{AfterNumbers, AfterNumbersFault, FieldsOf, IsFieldsFault, TwoLists}
use Rattle.lnt_older.specs.OlderFields.{TwoListsFault}
use Rattle.lnt_header_bytes.specs.declared.numbers.Singles.{Singles}
use Rattle.lnt_older.proofs.ListFaultLemmas.{begins_prefix, ends_here, listed_code}
use Rattle.lnt_header_bytes.proofs.SoundLemmas.{singles_code}
use Rattle.std.proofs.lemmas.Grind.{common_steps}

-- ---- one value for its bytes

-- a list that isn't empty begins with an entry
begins_list : (format : Format) (order : Order) (pairs : List Pair) (v : Entry) (vs : List Entry) (y : List ℕ)
    → ListBytes format order pairs (v ∷ vs) y → (rest : List ℕ) → BeginsEntry (y ++ rest)
begins_list format order pairs v vs y q rest = grind (arith, common_steps, begins_prefix, append_assoc)

end_of : (format : Format) (order : Order) (pairs : List Pair) (x : List ℕ) → ListBytes format order pairs [] x → x ≡ 0 ∷ []
end_of format order pairs x p = rw (p.joined, p.first, p.second) refl

same_list : (format : Format) (order : Order) (pairs : List Pair) (us vs : List Entry) (x y r s : List ℕ)
    → ListBytes format order pairs us x → ListBytes format order pairs vs y → x ++ r ≡ y ++ s → (us ≡ vs) × (x ≡ y)
same_list format order pairs [] [] x y r s p q e = (refl, end_of format order pairs x p ∙ sym (end_of format order pairs y q))
same_list format order pairs [] (v ∷ vs) x y r s p q e =
    absurd (ends_here x r (y ++ s) (end_of format order pairs x p) e (begins_list format order pairs v vs y q s))
same_list format order pairs (u ∷ us) [] x y r s p q e =
    absurd (ends_here y s (x ++ r) (end_of format order pairs y q) (sym e) (begins_list format order pairs u us x p r))
same_list format order pairs (u ∷ us) (v ∷ vs) x y r s p q e =
    let all : p.prefix ++ (p.back ++ r) ≡ q.prefix ++ (q.back ++ s) = simp (p.joined, q.joined, append_assoc) at e in
    let one = peel (listed_code format order pairs) u v p.prefix q.prefix (p.back ++ r) (q.back ++ s) p.first q.first all in
    let rest = same_list format order pairs us vs (p.first.back ++ p.back) (q.first.back ++ q.back) r s
    (record { prefix = p.first.back; back = p.back; first = p.first.second; second = p.second; joined = refl })
    (record { prefix = q.first.back; back = q.back; first = q.first.second; second = q.second; joined = refl })
    (simp append_assoc one.past) in (
      cc (one.value, rest.0),
      simp (p.joined, p.first.joined, q.joined, q.first.joined, append_assoc, one.bytes, rest.1),
    )

pub list_code : (format : Format) (order : Order) (pairs : List Pair) → IsCode (ListBytes format order pairs)
list_code format order pairs = record { one = same_list format order pairs }

-- ---- the fields

pub numbers_missing : (version : OlderVersion) (format : Format) (old : At) (fault : Fault)
    → Refuses (IsSinglesFault (has_max_ops version)) (SinglesBytes (has_max_ops version)) old fault
    → Refuses (IsFieldsFault version format old.order) (FieldsOf version format old.order) old fault
numbers_missing version format old fault r = first_refused (SinglesBytes (has_max_ops version)) (AfterNumbers format old.order) old fault r

after_numbers : (version : OlderVersion) (format : Format) (n : Singles) (old m1 : At) (fault : Fault)
    → Reads (SinglesBytes (has_max_ops version)) n old m1
    → Refuses (AfterNumbersFault format m1.order n) (AfterNumbers format m1.order n) m1 fault
    → Refuses (IsFieldsFault version format old.order) (FieldsOf version format old.order) old fault
after_numbers version format n old m1 fault r t =
    second_refused (AfterNumbersFault format) (SinglesBytes (has_max_ops version)) (AfterNumbers format) n old m1 fault
    (singles_code (has_max_ops version)) r t

pub lengths_missing : (version : OlderVersion) (format : Format) (n : Singles) (old m1 : At) (fault : Fault)
    → Reads (SinglesBytes (has_max_ops version)) n old m1 → Refuses (IsLengthsFault n.opcode_base) (LengthsBytes n.opcode_base) m1 fault
    → Refuses (IsFieldsFault version format old.order) (FieldsOf version format old.order) old fault
lengths_missing version format n old m1 fault r t = after_numbers version format n old m1 fault r
    (first_refused (LengthsBytes n.opcode_base) (λ _. TwoLists format m1.order) m1 fault t)

after_lengths : (version : OlderVersion) (format : Format) (n : Singles) (ls : List ℕ) (old m1 m2 : At) (fault : Fault)
    → Reads (SinglesBytes (has_max_ops version)) n old m1 → Reads (LengthsBytes n.opcode_base) ls m1 m2
    → Refuses (TwoListsFault format m2.order) (TwoLists format m2.order) m2 fault
    → Refuses (IsFieldsFault version format old.order) (FieldsOf version format old.order) old fault
after_lengths version format n ls old m1 m2 fault r t u =
    after_numbers version format n old m1 fault r (second_refused (λ order _. TwoListsFault format order) (LengthsBytes n.opcode_base)
    (λ order _. TwoLists format order) ls m1 m2 fault (lengths_code n.opcode_base) t u)

pub directories_missing : (version : OlderVersion) (format : Format) (n : Singles) (ls : List ℕ) (old m1 m2 : At) (fault : Fault)
    → Reads (SinglesBytes (has_max_ops version)) n old m1 → Reads (LengthsBytes n.opcode_base) ls m1 m2
    → Refuses (IsListFault format m2.order directory_pairs) (ListBytes format m2.order directory_pairs) m2 fault
    → Refuses (IsFieldsFault version format old.order) (FieldsOf version format old.order) old fault
directories_missing version format n ls old m1 m2 fault r t u = after_lengths version format n ls old m1 m2 fault r t
    (first_refused (ListBytes format m2.order directory_pairs) (λ _. ListBytes format m2.order file_pairs) m2 fault u)

pub files_missing : (version : OlderVersion) (format : Format) (n : Singles) (ls : List ℕ) (directories : List Entry)
    (old m1 m2 m3 : At) (fault : Fault) → Reads (SinglesBytes (has_max_ops version)) n old m1 → Reads (LengthsBytes n.opcode_base) ls m1 m2
    → Reads (ListBytes format m2.order directory_pairs) directories m2 m3
    → Refuses (IsListFault format m3.order file_pairs) (ListBytes format m3.order file_pairs) m3 fault
    → Refuses (IsFieldsFault version format old.order) (FieldsOf version format old.order) old fault
files_missing version format n ls directories old m1 m2 m3 fault r t u v = after_lengths version format n ls old m1 m2 fault r t
    (second_refused (λ order _. IsListFault format order file_pairs) (ListBytes format m2.order directory_pairs)
    (λ order _. ListBytes format order file_pairs) directories m2 m3 fault (list_code format m2.order directory_pairs) u v)

pub fields_read : (version : OlderVersion) (format : Format) (n : Singles) (ls : List ℕ) (directories files : List Entry)
    (old m1 m2 m3 new : At) → Reads (SinglesBytes (has_max_ops version)) n old m1 → Reads (LengthsBytes n.opcode_base) ls m1 m2
    → Reads (ListBytes format m2.order directory_pairs) directories m2 m3 → Reads (ListBytes format m3.order file_pairs) files m3 new
    → Reads (FieldsOf version format old.order) (n, (ls, (directories, files))) old new
fields_read version format n ls directories files old m1 m2 m3 new r t u v =
    let lists = reads_both (ListBytes format m2.order directory_pairs) (λ order _. ListBytes format order file_pairs) directories files m2
    m3 new u v in
    let past = reads_both (LengthsBytes n.opcode_base) (λ order _. TwoLists format order) ls (directories, files) m1 m2 new t lists in
    reads_both (SinglesBytes (has_max_ops version)) (AfterNumbers format) n (ls, (directories, files)) old m1 new r past

-- The lemmas of `read_parts`.
pub ruleset read_parts_lemmas = (numbers_missing, lengths_missing, directories_missing, files_missing)
