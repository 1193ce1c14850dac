-- Texts of items, one after another.
use Rattle.std.proofs.Common.{◌≡◌, ◌∙◌, ℕ, ◌+◌, ◌<◌, ◌≤◌, suc, List, [], ◌∷◌, ◌++◌, append-nil, length, get_or, take, Option, ap}
use Rattle.std.proofs.Common.{append_assoc, sym, subst, arith, ◌-◌, zero, flat_map}
use Rattle.std.specs.Io.KnownBytes.{Appends}
use Rattle.std.proofs.KnownBytes.{Appends-nil, Appends-trans}
use Rattle.std.proofs.lemmas.List.{take_all, take_more}
use Rattle.std.proofs.lemmas.List.Concat.{flat_map-append}
use Rattle.lnt_io.specs.Prefixes.{AppendsPrefix}
use Rattle.lnt_io.proofs.PrefixLaws.{prefix_after, prefix_before, prefix_same}
use Rattle.lnt_lines.specs.Indexed.{Indexed}
use Rattle.lnt_answers.specs.Lines.{file_record, lists_below}

-- the lists of one item more end with its list
pub lists_of_more : {X A : Type 0} (f : X → List A) (items : List X) (i : ℕ) (d : X) → i < length items
    → flat_map f (take (i + 1) items) ≡ flat_map f (take i items) ++ f (get_or items i d)
lists_of_more f items i d lt =
    ap (flat_map f) (take_more items i d lt) ∙ flat_map-append f (take i items) (get_or items i d ∷ [])
    ∙ ap (λ list. flat_map f (take i items) ++ list) (append-nil (f (get_or items i d)))

-- The lists of fewer numbers begin those of more.
fewer_below : {X : Type 0} (list : ℕ → List X) (n k : ℕ) → (rest : List X) × (lists_below list n ++ rest ≡ lists_below list (k + n))
fewer_below list n zero = let same : n ≡ 0 + n = omega arith in ([], append-nil (lists_below list n) ∙ ap (lists_below list) same)
fewer_below {X} list n (suc k) =
    let before = fewer_below list n k in
    let next : suc (k + n) ≡ suc k + n = omega arith in (
      before.0 ++ list (k + n),
      sym (append_assoc (lists_below list n) before.0 (list (k + n))) ∙ ap (λ (z : List X). z ++ list (k + n)) before.1
          ∙ ap (lists_below list) next,
    )

pub below_later : {X : Type 0} (list : ℕ → List X) (n count : ℕ) → n < count
    → (rest : List X) × (lists_below list (suc n) ++ rest ≡ lists_below list count)
below_later {X} list n count lt =
    let all : (count - suc n) + suc n ≡ count = omega (arith, lt) in
    subst (λ (m : ℕ). (rest : List X) × (lists_below list (suc n) ++ rest ≡ lists_below list m)) all
    (fewer_below list (suc n) (count - suc n))

-- a writer that has appended a head and the texts of some items gains the text of one more
pub appended_more : {X : Type 0} (f : X → List ℕ) (head : List ℕ) (items : List X) (i : ℕ) (d : X) (a b c : Option (List ℕ))
    → i < length items
    → Appends a b (head ++ flat_map f (take i items)) → Appends b c (f (get_or items i d))
    → Appends a c (head ++ flat_map f (take (i + 1) items))
appended_more f head items i d a b c lt before here =
    subst (Appends a c) (append_assoc head (flat_map f (take i items)) (f (get_or items i d))
    ∙ ap (λ text. head ++ text) (sym (lists_of_more f items i d lt)))
    (Appends-trans a b c (head ++ flat_map f (take i items)) (f (get_or items i d)) before here)

-- all items
pub appended_all : {X : Type 0} (f : X → List ℕ) (head : List ℕ) (items : List X) (i : ℕ) (a b : Option (List ℕ)) → length items ≤ i
    → Appends a b (head ++ flat_map f (take i items)) → Appends a b (head ++ flat_map f items)
appended_all f head items i a b le appended = subst (λ all. Appends a b (head ++ flat_map f all)) (take_all i items le) appended

-- ---- the records of a unit's files

pub records_none : (index : Indexed) (unit : ℕ) (a : Option (List ℕ)) → Appends a a (lists_below (file_record index unit) 0)
records_none index unit a = Appends-nil a

-- with one record more
pub records_more : (index : Indexed) (unit file : ℕ) (a b c : Option (List ℕ)) → Appends a b (lists_below (file_record index unit) file)
    → Appends b c (file_record index unit file) → Appends a c (lists_below (file_record index unit) (file + 1))
records_more index unit file a b c before here =
    let next : suc file ≡ file + 1 = omega arith in
    subst (λ (n : ℕ). Appends a c (lists_below (file_record index unit) n)) next
    (Appends-trans a b c (lists_below (file_record index unit) file) (file_record index unit file) before here)

-- a writer that was stopped within a record
pub records_stopped : (index : Indexed) (unit file count : ℕ) (a b c : Option (List ℕ)) → file < count
    → Appends a b (lists_below (file_record index unit) file) → AppendsPrefix b c (file_record index unit file)
    → AppendsPrefix a c (lists_below (file_record index unit) count)
records_stopped index unit file count a b c lt before here =
    let records = file_record index unit in
    let after = below_later records file count lt in
    prefix_same a c (lists_below records (suc file) ++ after.0) _ after.1
    (prefix_before a c (lists_below records (suc file)) after.0 (prefix_after a b c (lists_below records file) (records file) before here))
