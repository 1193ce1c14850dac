-- A table has one value for its bytes, and none begins another.
use Rattle.std.proofs.Common.{◌≡◌, ℕ, List, [], ◌∷◌, ◌++◌, length, refl, sym, ap, subst, ◌∙◌, arith}
use Rattle.lnt_wire.specs.declared.format.Order.{Order}
use Rattle.lnt_wire.specs.declared.format.Format.{Format}
use Rattle.lnt_wire.specs.declared.form.Form.{Form}
use Rattle.lnt_wire.specs.declared.form.FormValue.{FormValue}
use Rattle.lnt_wire.specs.Bytes.{IsCode, Then}
use Rattle.lnt_wire.specs.FormBytes.{form_code}
use Rattle.lnt_wire.proofs.CodeLaws.{unsigned_code, peel, peel_by, same_join}
use Rattle.lnt_wire.proofs.LengthLaws.{same_rest}
use Rattle.lnt_header.specs.Joins.{Each}
use Rattle.lnt_wire.proofs.ValueLaws.{same_value, same_code}
use Rattle.lnt_header.specs.declared.header.Entry.{Entry}
use Rattle.lnt_header.specs.declared.header.Pair.{Pair}
use Rattle.lnt_header.proofs.ByteLaws.{byte_code}
use Rattle.lnt_header.proofs.ListLaws.{same_each}
use Rattle.lnt_header_bytes.specs.TableBytes.{PairBytes, ValuesBytes, EntryBytes, TableBytes}
use Rattle.std.proofs.lemmas.Grind.{common_steps}

-- the same bytes as parts of other kinds
pub parts_as : {A B A' B' : List ℕ → Type 0} {x : List ℕ} → (t : Then A B x) → A' t.prefix → B' t.back → Then A' B' x
parts_as t a b = record { prefix = t.prefix; back = t.back; first = a; second = b; joined = t.joined }

pub joins : {A B : List ℕ → Type 0} (x y : List ℕ) → A x → B y → Then A B (x ++ y)
joins x y a b = record { prefix = x; back = y; first = a; second = b; joined = refl }

abbrev pair_of : ℕ → Form → Pair
pair_of content form = record { content = content; form = form }

same_pair : (a b : Pair) (x y r s : List ℕ) → PairBytes a x → PairBytes b y → x ++ r ≡ y ++ s → (a ≡ b) × (x ≡ y)
same_pair a b x y r s p q e =
    let content = peel unsigned_code a.content b.content x y r s p q e in
    let code = unsigned_code.one (form_code a.form) (form_code b.form) p.back q.back r s p.second q.second content.past in
    let form : a.form ≡ b.form = same_code a.form b.form code.0 in
    let both : pair_of a.content a.form ≡ pair_of b.content b.form =
    ap (λ (c : ℕ). pair_of c a.form) content.value ∙ ap (pair_of b.content) form in
    (both, same_join x y p q content.bytes code.1)

pub pair_code : IsCode PairBytes
pair_code = record { one = same_pair }

same_values : (format : Format) (order : Order) (pairs : List Pair) (us vs : List FormValue) (x y r s : List ℕ)
    → ValuesBytes format order pairs us x → ValuesBytes format order pairs vs y → x ++ r ≡ y ++ s → (us ≡ vs) × (x ≡ y)
same_values format order [] [] [] x y r s p q e = (refl, p ∙ sym q)
same_values format order [] [] (v ∷ vs) x y r s p q e = absurd q
same_values format order [] (u ∷ us) vs x y r s p q e = absurd p
same_values format order (pair ∷ pairs) [] vs x y r s p q e = absurd p
same_values format order (pair ∷ pairs) (u ∷ us) [] x y r s p q e = absurd q
same_values format order (pair ∷ pairs) (u ∷ us) (v ∷ vs) x y r s p q e =
    let one = peel_by u v x y r s (λ a b c d. same_value format order u v a b c d (p.0 ∙ sym q.0)) p.1 q.1 e in
    let rest = same_values format order pairs us vs p.1.back q.1.back r s p.1.second q.1.second one.past in
    let heads : u ≡ v = one.value in
    let tails : us ≡ vs = rest.0 in
    (cc, same_join x y p.1 q.1 one.bytes rest.1)

pub entry_code : (format : Format) (order : Order) (pairs : List Pair) → IsCode (EntryBytes format order pairs)
entry_code format order pairs = grind (arith, common_steps, same_values)

pub record SameTable (pairs pairs' : List Pair) (entries entries' : List Entry) (x y r s : List ℕ) : Type 0 where
  pub format : pairs ≡ pairs'
  pub values : entries ≡ entries'
  pub bytes : x ≡ y
  pub past : r ≡ s

pub same_table : (format : Format) (order : Order) (pairs pairs' : List Pair) (entries entries' : List Entry) (x y r s : List ℕ)
    → TableBytes format order pairs entries x → TableBytes format order pairs' entries' y → x ++ r ≡ y ++ s
    → SameTable pairs pairs' entries entries' x y r s
same_table format order pairs pairs' entries entries' x y r s p q e =
    let p1 = p.spelled in
    let q1 = q.spelled in
    let count = peel byte_code (length pairs) (length pairs') x y r s p1 q1 e in
    let p2 = p1.second in
    let q2 = q1.second in
    let kinds =
    peel_by pairs pairs' p1.back q1.back r s (λ a b c d. same_each pair_code pairs pairs' a b c d count.value) p2 q2 count.past in
    let p3 = p2.second in
    let q3 = q2.second in
    let number = peel unsigned_code (length entries) (length entries') p2.back q2.back r s p3 q3 kinds.past in
    let spelled : Each (EntryBytes format order pairs) entries' q3.back =
    subst (λ (ps : List Pair). Each (EntryBytes format order ps) entries' q3.back) (sym kinds.value) q3.second in
    let all = same_each (entry_code format order pairs) entries entries' p3.back q3.back r s number.value p3.second spelled number.past in
    let back2 : p2.back ≡ q2.back = same_join p2.back q2.back p3 q3 number.bytes all.1 in
    let back1 : p1.back ≡ q1.back = same_join p1.back q1.back p2 q2 kinds.bytes back2 in
    let bytes : x ≡ y = same_join x y p1 q1 count.bytes back1 in
    record { format = kinds.value; values = all.0; bytes = bytes; past = same_rest x y r s bytes e }
