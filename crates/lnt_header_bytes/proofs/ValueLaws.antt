-- The values of an entry, one after another: what is read of an entry so far, and when there is none.
use Rattle.std.proofs.Common.{◌≡◌, ℕ, ◌+◌, ◌<◌, ◌≤◌, List, [], ◌∷◌, ◌++◌, length, take, drop, get_or, refl, sym, ap, subst, ◌∙◌}
use Rattle.std.proofs.Common.{append_assoc, add-zero, take_all, arith}
use Rattle.std.proofs.lemmas.List.{length-append, append-nil, take_more, drop_more, take-append-drop}
use Rattle.lnt_wire.specs.Reading.{At, Reads}
use Rattle.lnt_wire.specs.Bytes.{NoneSpelled}
use Rattle.lnt_wire.specs.FormBytes.{ValueBytes}
use Rattle.lnt_wire.specs.declared.form.FormValue.{FormValue}
use Rattle.lnt_wire.specs.declared.format.Format.{Format}
use Rattle.lnt_wire.specs.declared.format.Order.{Order}
use Rattle.lnt_wire.proofs.CodeLaws.{peel_by}
use Rattle.lnt_wire.proofs.ValueLaws.{same_value}
use Rattle.lnt_header.specs.declared.header.Pair.{Pair}
use Rattle.lnt_header.proofs.ReaderLaws.{reads_map}
use Rattle.lnt_header_bytes.specs.Borrowed.{entry_of}
use Rattle.lnt_header_bytes.specs.TableBytes.{ValuesBytes, EntryBytes}
use Rattle.std.proofs.lemmas.Grind.{common_steps}

values_push : (format : Format) (order : Order) (pairs : List Pair) (pair : Pair) (values : List FormValue) (value : FormValue)
    (x y : List ℕ) → ValuesBytes format order pairs values x → ValueBytes format order pair.form value y
    → ValuesBytes format order (pairs ++ pair ∷ []) (values ++ value ∷ []) (x ++ y)
values_push format order [] pair [] value x y p q = (
  q.form_is,
  record { prefix = y; back = []; first = q.spelled; second = refl; joined = ap (λ (z : List ℕ). z ++ y) p ∙ sym (append-nil y) },
)
values_push format order [] pair (v ∷ values) value x y p q = absurd p
values_push format order (a ∷ pairs) pair [] value x y p q = absurd p
values_push format order (a ∷ pairs) pair (v ∷ values) value x y p q = (
  p.0,
  record {
    prefix = p.1.prefix;
    back = p.1.back ++ y;
    first = p.1.first;
    second = values_push format order pairs pair values value p.1.back y p.1.second q;
    joined = ap (λ (z : List ℕ). z ++ y) p.1.joined ∙ append_assoc p.1.prefix p.1.back y;
  },
)

pub values_more : (format : Format) (pairs : List Pair) (pair : Pair) (values : List FormValue) (value : FormValue) (old middle new : At)
    → Reads (ValuesBytes format old.order pairs) values old middle → Reads (ValueBytes format middle.order pair.form) value middle new
    → Reads (ValuesBytes format old.order (pairs ++ pair ∷ [])) (values ++ value ∷ []) old new
values_more format pairs pair values value old middle new r s =
    let one : ValueBytes format old.order pair.form value s.spelling =
    subst (λ (o : Order). ValueBytes format o pair.form value s.spelling) r.order s.spelled in
    record {
      spelling = r.spelling ++ s.spelling;
      spelled = values_push format old.order pairs pair values value r.spelling s.spelling r.spelled one;
      whole = r.whole ∙ ap (λ (z : List ℕ). r.spelling ++ z) s.whole ∙ sym (append_assoc r.spelling s.spelling new.rest);
      place = omega (arith, s.place, r.place, length-append r.spelling s.spelling);
      order = s.order ∙ r.order;
    }

pub none_values : (format : Format) (order : Order) (pairs : List Pair) (pair : Pair) (past : List Pair) (us : List FormValue)
    (x rest bytes : List ℕ) → ValuesBytes format order pairs us x → bytes ≡ x ++ rest
    → NoneSpelled (ValueBytes format order pair.form) rest → NoneSpelled (ValuesBytes format order (pairs ++ pair ∷ past)) bytes
none_values format order [] pair past [] x rest bytes p whole none [] y more q e = q
none_values format order [] pair past [] x rest bytes p whole none (v ∷ vs) y more q e =
    none v q.1.prefix (q.1.back ++ more) (record { form_is = q.0; spelled = q.1.first })
    (sym (append_assoc q.1.prefix q.1.back more) ∙ ap (λ (z : List ℕ). z ++ more) (sym q.1.joined) ∙ e ∙ whole
    ∙ ap (λ (z : List ℕ). z ++ rest) p)
none_values format order [] pair past (u ∷ us) x rest bytes p whole none vs y more q e = p
none_values format order (a ∷ pairs) pair past [] x rest bytes p whole none vs y more q e = p
none_values format order (a ∷ pairs) pair past (u ∷ us) x rest bytes p whole none [] y more q e = q
none_values format order (a ∷ pairs) pair past (u ∷ us) x rest bytes p whole none (v ∷ vs) y more q e =
    let one = peel_by v u y x more rest (λ c d s t. same_value format order v u c d s t (q.0 ∙ sym p.0)) q.1 p.1 (e ∙ whole) in
    none_values format order pairs pair past us p.1.back rest (p.1.back ++ rest) p.1.second refl none vs q.1.back more q.1.second one.past

pub values_none : (format : Format) (at : At) → Reads (ValuesBytes format at.order []) [] at at
values_none format at = record { spelling = []; spelled = refl; whole = refl; place = sym (add-zero at.place); order = refl }

-- the same by the place in the list
pub values_next : (format : Format) (pairs : List Pair) (i : ℕ) (d : Pair) (values : List FormValue) (value : FormValue)
    (old middle new : At) → i < length pairs → Reads (ValuesBytes format old.order (take i pairs)) values old middle
    → Reads (ValueBytes format middle.order (get_or pairs i d).form) value middle new
    → Reads (ValuesBytes format old.order (take (i + 1) pairs)) (values ++ value ∷ []) old new
values_next format pairs i d values value old middle new lt r s =
    subst (λ (ps : List Pair). Reads (ValuesBytes format old.order ps) (values ++ value ∷ []) old new) (sym (take_more pairs i d lt))
    (values_more format (take i pairs) (get_or pairs i d) values value old middle new r s)

-- ---- an entry that is read value by value

-- The values of so many pairs were read.
pub record AreReadTo (format : Format) (pairs : List Pair) (count : ℕ) (values : List FormValue) (old now : At) : Type 0 where
  pub read : Reads (ValuesBytes format old.order (take count pairs)) values old now

pub read_none : (format : Format) (pairs : List Pair) (at : At) → AreReadTo format pairs 0 [] at at
read_none format pairs at = record { read = values_none format at }

pub read_more : (format : Format) (pairs : List Pair) (i : ℕ) (d : Pair) (values : List FormValue) (value : FormValue) (old middle new : At)
    → i < length pairs → AreReadTo format pairs i values old middle
    → Reads (ValueBytes format middle.order (get_or pairs i d).form) value middle new
    → AreReadTo format pairs (i + 1) (values ++ value ∷ []) old new
read_more format pairs i d values value old middle new lt p r =
    record { read = values_next format pairs i d values value old middle new lt p.read r }

-- all values are an entry's
pub entry_read : (format : Format) (pairs : List Pair) (count : ℕ) (values : List FormValue) (old new : At) → length pairs ≤ count
    → AreReadTo format pairs count values old new → Reads (EntryBytes format old.order pairs) (entry_of values) old new
entry_read format pairs count values old new le p = grind (arith, common_steps, reads_map, take_all)

-- there is no entry where the next of its values isn't there
pub no_entry : (format : Format) (pairs : List Pair) (i : ℕ) (d : Pair) (values : List FormValue) (old middle : At) → i < length pairs
    → AreReadTo format pairs i values old middle → NoneSpelled (ValueBytes format middle.order (get_or pairs i d).form) middle.rest
    → NoneSpelled (EntryBytes format old.order pairs) old.rest
no_entry format pairs i d values old middle lt p none entry x more q e =
    let whole : take i pairs ++ get_or pairs i d ∷ drop (i + 1) pairs ≡ pairs =
    ap (λ (ps : List Pair). take i pairs ++ ps) (sym (drop_more pairs i d lt)) ∙ take-append-drop i pairs in
    let here : NoneSpelled (ValueBytes format old.order (get_or pairs i d).form) middle.rest =
    subst (λ (o : Order). NoneSpelled (ValueBytes format o (get_or pairs i d).form) middle.rest) p.read.order none in
    let there : NoneSpelled (ValuesBytes format old.order pairs) old.rest =
    subst (λ (ps : List Pair). NoneSpelled (ValuesBytes format old.order ps) old.rest) whole
    (none_values format old.order (take i pairs) (get_or pairs i d) (drop (i + 1) pairs) values p.read.spelling middle.rest old.rest
    p.read.spelled p.read.whole here) in
    there entry.values x more q e

-- The lemmas of `read_values`.
pub ruleset read_values_lemmas = (values_none, values_next)
