-- Prefixes of what is written: laws that the proofs of the crates above cite.
use Rattle.std.proofs.Common.{◌≡◌, ◌∙◌, ℕ, ◌+◌, ◌<◌, List, [], ◌∷◌, ◌++◌, append-nil, append_assoc, length, get_or, take, drop, Option}
use Rattle.std.proofs.Common.{Result, OnErr, ap, subst, sym, take-append-drop, refl, arith, flat_map}
use Rattle.std.specs.Io.KnownBytes.{Appends, Keeps, append_known}
use Rattle.std.proofs.KnownBytes.{Appends-nil}
use Rattle.std.proofs.lemmas.List.{take_more}
use Rattle.std.proofs.lemmas.List.Concat.{flat_map-append}
use Rattle.lnt_io.specs.Prefixes.{AppendsPrefix}
use Rattle.std.proofs.lemmas.Grind.{common_steps}

-- nothing was written: the empty prefix
pub prefix_none : (old : Option (List ℕ)) (bytes : List ℕ) → AppendsPrefix old old bytes
prefix_none old bytes = record { prefix = []; rest = bytes; joined = refl; appended = Appends-nil old }

Appends_kept : (old new : Option (List ℕ)) → Keeps old new → Appends old new []
Appends_kept old new k = grind (arith, common_steps, append-nil)

-- everything was written: the whole
pub prefix_all : (old new : Option (List ℕ)) (bytes : List ℕ) → Appends old new bytes → AppendsPrefix old new bytes
prefix_all old new bytes a = record { prefix = bytes; rest = []; joined = append-nil bytes; appended = a }

-- a prefix stays one when more bytes follow
pub prefix_before : (old new : Option (List ℕ)) (bytes more : List ℕ) → AppendsPrefix old new bytes → AppendsPrefix old new (bytes ++ more)
prefix_before old new bytes more f = grind (arith, common_steps, append_assoc)

-- some bytes, and then a prefix of others
pub prefix_after : (old now new : Option (List ℕ)) (first second : List ℕ) → Appends old now first → AppendsPrefix now new second
    → AppendsPrefix old new (first ++ second)
prefix_after old now new first second a f = grind (arith, common_steps, append_assoc)

-- a prefix of the bytes, where the writer first kept what it held
pub prefix_since : (old now new : Option (List ℕ)) (bytes : List ℕ) → Keeps old now → AppendsPrefix now new bytes
    → AppendsPrefix old new bytes
prefix_since old now new bytes k f = prefix_after old now new [] bytes (Appends_kept old now k) f

-- replacing the bytes by equal ones
pub prefix_same : (old new : Option (List ℕ)) (bytes other : List ℕ) → bytes ≡ other → AppendsPrefix old new bytes
    → AppendsPrefix old new other
prefix_same old new bytes other same f = subst (AppendsPrefix old new) same f

-- a header and the texts of the first items, and then a prefix of the next item's text
pub prefix_in_items : {X : Type 0} (f : X → List ℕ) (head : List ℕ) (items : List X) (i : ℕ) (d : X) (a b c : Option (List ℕ))
    → i < length items
    → Appends a b (head ++ flat_map f (take i items)) → AppendsPrefix b c (f (get_or items i d))
    → AppendsPrefix a c (head ++ flat_map f items)
prefix_in_items f head items i d a b c lt before here =
    let texts = flat_map f (take i items) in
    let now = f (get_or items i d) in
    let more = flat_map f (drop (i + 1) items) in
    let first : flat_map f (take (i + 1) items) ≡ texts ++ now =
    ap (flat_map f) (take_more items i d lt) ∙ flat_map-append f (take i items) (get_or items i d ∷ [])
    ∙ ap (λ (l : List ℕ). texts ++ l) (append-nil now) in
    let all : flat_map f items ≡ (texts ++ now) ++ more =
    ap (flat_map f) (sym (take-append-drop (i + 1) items)) ∙ flat_map-append f (take (i + 1) items) (drop (i + 1) items)
    ∙ ap (λ (l : List ℕ). l ++ more) first in
    let joined : ((head ++ texts) ++ now) ++ more ≡ head ++ flat_map f items =
    ap (λ (l : List ℕ). l ++ more) (append_assoc head texts now) ∙ append_assoc head (texts ++ now) more
    ∙ ap (λ (l : List ℕ). head ++ l) (sym all) in
    prefix_same a c _ _ joined (prefix_before a c ((head ++ texts) ++ now) more (prefix_after a b c (head ++ texts) now before here))

-- appending to known bytes gives what `append_known` says
pub appends_known : (old : Option (List ℕ)) (bytes : List ℕ) → Appends old (append_known old bytes) bytes
appends_known old bytes = grind (arith, common_steps)

-- what holds in any case holds on an error too
pub so_stopped : {T E : Type 0} (result : Result T E) (IsSo : Type 0) → IsSo → OnErr result IsSo
so_stopped result IsSo so = grind (arith, common_steps)
