-- What is wrong where a table isn't read, by its place among the bytes before it alone.
use Rattle.std.proofs.Common.{◌≡◌, ℕ, ◌<◌, ◌≤◌, List, [], ◌∷◌, ◌++◌, length, sym, ap, subst, ◌∙◌, append_assoc, arith, inl, append-nil}
use Rattle.lnt_wire.specs.FormBytes.{IsUnknownForm}
use Rattle.lnt_wire.specs.FormFaults.{IsCutText, IsBlockFault, IsValueFault}
use Rattle.lnt_wire.specs.FormFaults.IsBlockFault.{no_length, cut_block}
use Rattle.lnt_wire.specs.Leb128.{UnsignedLeb, IsLargeUnsigned, IsLebFault}
use Rattle.lnt_wire.specs.Numbers.{NumberBytes, offset_size}
use Rattle.lnt_wire.specs.Reading.{IsCutShort}
use Rattle.lnt_wire.specs.declared.fault.Reason.{Reason}
use Rattle.lnt_wire.specs.declared.fault.Reason.TheVariants.{Truncated, UnknownForm, EmptyFormat, LebTooLarge}
use Rattle.lnt_wire.specs.declared.form.Form.{Form}
use Rattle.lnt_wire.specs.declared.form.Form.TheVariants as forms
use Rattle.lnt_wire.specs.declared.format.Format.{Format}
use Rattle.lnt_wire.specs.declared.format.Format.TheVariants.{D32, D64}
use Rattle.lnt_wire.specs.declared.format.Order.{Order}
use Rattle.lnt_header.specs.FieldFaults.{IsCutField, IsLargeLeb}
use Rattle.lnt_header.specs.FieldFaults.IsCutField.{number, text, leb, block, sized_block}
use Rattle.lnt_header.specs.FieldFaults.FirstOf.{first, second}
use Rattle.lnt_header.specs.FieldFaults.FirstOfSeveral.{next}
use Rattle.lnt_header.specs.Joins.{Each, Several}
use Rattle.lnt_header.proofs.ReaderLaws.{cut_later}
use Rattle.lnt_header.proofs.ByteLaws.{one_digit}
use Rattle.lnt_header_bytes.specs.TableBytes.{PairBytes}
use Rattle.lnt_header_bytes.specs.TableFaults.{IsNumberFault, IsCodeFault, IsPairFault, IsEntryFault, AfterPairsFault, IsTableFault}
use Rattle.lnt_header_bytes.specs.TableFaults.IsCodeFault.{no_code, unknown}
use Rattle.lnt_header_bytes.specs.TableFaults.IsEntryFault.{no_value}
use Rattle.lnt_header_bytes.specs.TableFaults.IsSizeFault.{no_size, empty}
use Rattle.lnt_header.specs.declared.header.Pair.{Pair}

-- a form code that no form has
abbrev IsUnknownCode : ℕ → List ℕ → Type 0
IsUnknownCode code left = (spelling : List ℕ) × (rest : List ℕ) × (left ≡ spelling ++ rest) × UnsignedLeb code spelling × IsUnknownForm code

-- a number of entries after a format of no pairs
abbrev IsEmptyFormat : List ℕ → List ℕ → Type 0
IsEmptyFormat before left =
    (n : ℕ) × (spelling : List ℕ) × (rest : List ℕ) × (earlier : List ℕ) × (left ≡ spelling ++ rest) × UnsignedLeb n spelling × (0 < n)
    × (before ≡ earlier ++ 0 ∷ [])

-- the reasons
abbrev pub IsWrongTable : Reason → List ℕ → List ℕ → Type 0
IsWrongTable Truncated before left = IsCutField before left
IsWrongTable LebTooLarge before left = IsLargeLeb left
IsWrongTable (UnknownForm code) before left = IsUnknownCode code left
IsWrongTable EmptyFormat before left = IsEmptyFormat before left
IsWrongTable _ before left = ⊥

later : (reason : Reason) (prefix before left : List ℕ) → IsWrongTable reason before left → IsWrongTable reason (prefix ++ before) left
later Truncated prefix before left h = cut_later prefix before left h
later LebTooLarge prefix before left h = h
later (UnknownForm code) prefix before left h = h
later EmptyFormat prefix before left h =
    (h.0, h.1, h.2, prefix ++ h.3, h.4, h.5, h.6, ap (λ (z : List ℕ). prefix ++ z) h.7 ∙ sym (append_assoc prefix h.3 (0 ∷ [])))
later reason prefix before left h = absurd h

short_is_wrong : (n : ℕ) (reason : Reason) (bytes : List ℕ) → n ≤ 16 → IsCutShort n reason bytes → IsWrongTable reason [] bytes
short_is_wrong n reason bytes small h = subst (λ (c : Reason). IsWrongTable c [] bytes) (sym h.reason_is) (number n small h.short)

leb_is_wrong : (reason : Reason) (bytes : List ℕ) → IsLebFault IsLargeUnsigned reason bytes → IsWrongTable reason [] bytes
leb_is_wrong Truncated bytes h = leb h
leb_is_wrong LebTooLarge bytes h = (h.0, h.1, h.2, h.4, inl h.3)
leb_is_wrong reason bytes h = absurd h

text_is_wrong : (reason : Reason) (bytes : List ℕ) → IsCutText reason bytes → IsWrongTable reason [] bytes
text_is_wrong reason bytes h = subst (λ (c : Reason). IsWrongTable c [] bytes) (sym h.reason_is) (text h.no_zero)

block_is_wrong : (reason : Reason) (bytes : List ℕ) → IsBlockFault UnsignedLeb (IsLebFault IsLargeUnsigned) reason bytes
    → IsWrongTable reason [] bytes
block_is_wrong reason bytes (no_length h) = leb_is_wrong reason bytes h
block_is_wrong reason bytes (cut_block n spelling rest e p joined lt) =
    subst (λ (c : Reason). IsWrongTable c [] bytes) (sym e) (block n spelling rest p joined lt)

sized_is_wrong : (order : Order) (size : ℕ) (reason : Reason) (bytes : List ℕ) → size ≤ 4
    → IsBlockFault (NumberBytes order size) (IsCutShort size) reason bytes → IsWrongTable reason [] bytes
sized_is_wrong order size reason bytes small (no_length h) = short_is_wrong size reason bytes (omega arith) h
sized_is_wrong order size reason bytes small (cut_block n spelling rest e p joined lt) =
    subst (λ (c : Reason). IsWrongTable c [] bytes) (sym e) (sized_block order size n spelling rest small p joined lt)

pub small_offset : (format : Format) → offset_size format ≤ 16
small_offset D32 = omega arith
small_offset D64 = omega arith

value_is_wrong : (format : Format) (order : Order) (form : Form) (reason : Reason) (bytes : List ℕ)
    → IsValueFault format order form reason bytes
    → IsWrongTable reason [] bytes
value_is_wrong format order forms.Data1 reason bytes h = short_is_wrong 1 reason bytes (omega arith) h
value_is_wrong format order forms.Data2 reason bytes h = short_is_wrong 2 reason bytes (omega arith) h
value_is_wrong format order forms.Data4 reason bytes h = short_is_wrong 4 reason bytes (omega arith) h
value_is_wrong format order forms.Data8 reason bytes h = short_is_wrong 8 reason bytes (omega arith) h
value_is_wrong format order forms.Data16 reason bytes h = short_is_wrong 16 reason bytes (omega arith) h
value_is_wrong format order forms.Strp reason bytes h = short_is_wrong (offset_size format) reason bytes (small_offset format) h
value_is_wrong format order forms.LineStrp reason bytes h = short_is_wrong (offset_size format) reason bytes (small_offset format) h
value_is_wrong format order forms.Udata reason bytes h = leb_is_wrong reason bytes h
value_is_wrong format order forms.Text reason bytes h = text_is_wrong reason bytes h
value_is_wrong format order forms.Block reason bytes h = block_is_wrong reason bytes h
value_is_wrong format order forms.Block1 reason bytes h = sized_is_wrong order 1 reason bytes (omega arith) h
value_is_wrong format order forms.Block2 reason bytes h = sized_is_wrong order 2 reason bytes (omega arith) h
value_is_wrong format order forms.Block4 reason bytes h = sized_is_wrong order 4 reason bytes (omega arith) h

-- after bytes of which nothing is asked
pub wrong_after : (reason : Reason) (prefix past before left : List ℕ) → before ≡ prefix ++ past → IsWrongTable reason past left
    → IsWrongTable reason before left
wrong_after reason prefix past before left e h = subst (λ (z : List ℕ). IsWrongTable reason z left) (sym e)
    (later reason prefix past left h)

wrong_here : (reason : Reason) (before left : List ℕ) → before ≡ [] → IsWrongTable reason [] left → IsWrongTable reason before left
wrong_here reason before left e h = subst (λ (z : List ℕ). IsWrongTable reason z left) (sym e) h

wrong_number : (reason : Reason) (before left : List ℕ) → IsNumberFault reason before left → IsWrongTable reason before left
wrong_number reason before left h = wrong_here reason before left h.0 (leb_is_wrong reason left h.1)

wrong_code : (reason : Reason) (before left : List ℕ) → IsCodeFault reason before left → IsWrongTable reason before left
wrong_code reason before left (no_code h) = wrong_number reason before left h
wrong_code reason before left (unknown code spelling rest e nothing p joined u) =
    subst (λ (c : Reason). IsWrongTable c before left) (sym e) (spelling, rest, joined, p, u)

wrong_pair : (reason : Reason) (before left : List ℕ) → IsPairFault reason before left → IsWrongTable reason before left
wrong_pair reason before left (first h) = wrong_number reason before left h
wrong_pair reason before left (second content prefix past p e h) =
    wrong_after reason prefix past before left e (wrong_code reason past left h)

wrong_entry : (format : Format) (order : Order) (pairs : List Pair) (reason : Reason) (before left : List ℕ)
    → IsEntryFault format order pairs reason before left → IsWrongTable reason before left
wrong_entry format order pairs reason before left (no_value done pair past values e p h) =
    wrong_after reason before [] before left (sym (append-nil before)) (value_is_wrong format order pair.form reason left h)

no_pairs : (pairs : List Pair) (x : List ℕ) → Each PairBytes pairs x → pairs ≡ [] → x ≡ []
no_pairs [] x p e = p
no_pairs (pair ∷ pairs) x p e = absurd cc

-- after the pairs of a format, where the byte that counts them stands before them
wrong_after_pairs : (format : Format) (order : Order) (n : ℕ) (pairs : List Pair) (count kinds past left : List ℕ) (reason : Reason)
    → NumberBytes order 1 n count → Several n PairBytes pairs kinds
    → AfterPairsFault format order pairs reason past left → IsWrongTable reason (count ++ (kinds ++ past)) left
wrong_after_pairs format order n pairs count kinds past left reason p q (first (no_size h)) =
    later reason count (kinds ++ past) left (later reason kinds past left (wrong_number reason past left h))
wrong_after_pairs format order n pairs count kinds past left reason p q (first (empty m spelling rest e nothing none u joined some)) =
    let zero_pairs : n ≡ 0 = sym q.0 ∙ ap length none in
    let digit : count ≡ 0 ∷ [] = p.spelled ∙ one_digit order n p.fits ∙ ap (λ (k : ℕ). k ∷ []) zero_pairs in
    let no_kinds : kinds ≡ [] = no_pairs pairs kinds q.1 none in
    let before : count ++ (kinds ++ past) ≡ 0 ∷ [] = cc (digit, no_kinds, nothing) in
    subst (λ (c : Reason). IsWrongTable c (count ++ (kinds ++ past)) left) (sym e) (m, spelling, rest, [], joined, u, some, before)
wrong_after_pairs format order n pairs count kinds past left reason p q
    (second size spelling more u e (next entries done here lt each e2 h)) =
    let at_entry = wrong_after reason done here more left e2 (wrong_entry format order pairs reason here left h) in
    later reason count (kinds ++ past) left (later reason kinds past left (wrong_after reason spelling more past left e at_entry))

pub wrong_table : (format : Format) (order : Order) (reason : Reason) (before left : List ℕ) → IsTableFault format order reason before left
    → IsWrongTable reason before left
wrong_table format order reason before left (first h) = wrong_here reason before left h.0 (short_is_wrong 1 reason left (omega arith) h.1)
wrong_table format order reason before left (second n prefix past p e (first (next pairs done more lt each e2 h))) =
    wrong_after reason prefix past before left e (wrong_after reason done more past left e2 (wrong_pair reason more left h))
wrong_table format order reason before left (second n prefix past p e (second pairs kinds more q e2 h)) =
    let all : before ≡ prefix ++ (kinds ++ more) = e ∙ ap (λ (z : List ℕ). prefix ++ z) e2 in
    subst (λ (z : List ℕ). IsWrongTable reason z left) (sym all)
    (wrong_after_pairs format order n pairs prefix kinds more left reason p q h)
