-- Of a section one thing is wrong first.
use Rattle.std.proofs.Common.{◌≡◌, ℕ, ◌+◌, List, [], ◌∷◌, ◌++◌, length, refl, sym, ap, subst, ◌∙◌, append_assoc, Option}
use Rattle.std.specs.List.{AllByRecursion}
use Rattle.lnt_wire.specs.Bytes.{NoneSpelled}
use Rattle.lnt_wire.specs.declared.fault.Fault.{Fault}
use Rattle.lnt_wire.specs.declared.format.Order.{Order}
use Rattle.lnt_wire.proofs.LengthLaws.{same_rest}
use Rattle.lnt_header.specs.declared.unit_parts.UnitParts.{UnitParts}
use Rattle.lnt_unit.specs.Laws.{OneTrueFault}
use Rattle.lnt_unit.proofs.UnitLaws.{one_section, one_spelling}
use Rattle.lnt_unit.specs.UnitBytes.{UnitBytesIn, UnitsFrom}
use Rattle.lnt_sequences.specs.declared.extent.Overlap.{Overlap}
use Rattle.lnt_sequences.specs.Extents.{IsFirstOverlap}
use Rattle.lnt_sequences.specs.Laws.{FallIsNotOrdered, MissingFileIsNotThere}
use Rattle.lnt_sequences.proofs.KeptLaws.{kept_distinct}
use Rattle.lnt_sequences.specs.Sequences.{kept_sequences, live_sequences}
use Rattle.lnt_lines.specs.declared.no.No.TheVariants as no
use Rattle.lnt_lines.specs.Good.{IsSoundUnit, selected, Options}
use Rattle.lnt_lines.specs.Laws.{OneNo}
use Rattle.lnt_lines.specs.Nos.{IsFirstFlaw, IsFlaw, IsMalformed, IsOverlap, IsTrueNo, No}
use Rattle.lnt_lines.proofs.DraftLemmas.{distinct}
use Rattle.lnt_lines.proofs.FlawLemmas.{all_at, same_pair, sound_well, units_begin}
use Rattle.lnt_lines.proofs.OneFlawLemmas.{one_flaw}
use Rattle.lnt_lines.proofs.OneOverlapLemmas.{one_overlap}

-- ---- the first unit of the same bytes

record SameHead (u v : ℕ × UnitParts) (x y r s : List ℕ) : Type 0 where
  unit : u ≡ v
  bytes : x ≡ y
  past : r ≡ s

-- the rests are compared with what follows them
same_head : (order : Order) (offset : ℕ) (u v : ℕ × UnitParts) (us vs : List (ℕ × UnitParts)) (x y r s : List ℕ)
    → (p : UnitsFrom order offset (u ∷ us) x) → (q : UnitsFrom order offset (v ∷ vs) y) → x ++ r ≡ y ++ s
    → SameHead u v p.0 q.0 (p.1 ++ r) (q.1 ++ s)
same_head order offset u v us vs x y r s p q e =
    let all : p.0 ++ (p.1 ++ r) ≡ q.0 ++ (q.1 ++ s) = sym (append_assoc p.0 p.1 r) ∙ ap (λ (z : List ℕ). z ++ r) (sym p.4) ∙ e
    ∙ ap (λ (z : List ℕ). z ++ s) q.4 ∙ append_assoc q.0 q.1 s in
    let one = (one_spelling order).one u.1 v.1 p.0 q.0 (p.1 ++ r) (q.1 ++ s) p.3 q.3 all in
    record { unit = same_pair u v (p.2 ∙ sym q.2) one.0; bytes = one.1; past = same_rest p.0 q.0 (p.1 ++ r) (q.1 ++ s) one.1 all }

-- ---- the first flaw

module _ (falls : FallIsNotOrdered) (missing : MissingFileIsNotThere) (text general : List ℕ) (dead : Option ℕ) (order : Order) where
  -- after sound units the first with a flaw is one
  same_flawed : (offset : ℕ) (us vs : List (ℕ × UnitParts)) (u v : ℕ × UnitParts) (x y r s : List ℕ) (one two : No)
      → UnitsFrom order offset (us ++ u ∷ []) x → UnitsFrom order offset (vs ++ v ∷ []) y
      → x ++ r ≡ y ++ s → AllByRecursion (IsSoundUnit text general dead) us → AllByRecursion (IsSoundUnit text general dead) vs
      → IsFlaw text general dead u one → IsFlaw text general dead v two → u ≡ v
  same_flawed offset [] [] u v x y r s one two p q e sound sound' f g =
      (same_head order offset u v [] [] x y r s p q e).unit
  same_flawed offset [] (w ∷ vs) u v x y r s one two p q e sound sound' f g =
      let h = same_head order offset u w [] (vs ++ v ∷ []) x y r s p q e in
      absurd (sound_well falls missing text general dead u one (subst (IsSoundUnit text general dead) (sym h.unit) sound'.0) f)
  same_flawed offset (w ∷ us) [] u v x y r s one two p q e sound sound' f g =
      let h = same_head order offset w v (us ++ u ∷ []) [] x y r s p q e in
      absurd (sound_well falls missing text general dead v two (subst (IsSoundUnit text general dead) h.unit sound.0) g)
  same_flawed offset (a ∷ us) (b ∷ vs) u v x y r s one two p q e sound sound' f g =
      let h = same_head order offset a b (us ++ u ∷ []) (vs ++ v ∷ []) x y r s p q e in
      let later : UnitsFrom order (offset + length p.0) (vs ++ v ∷ []) q.1 =
      subst (λ (z : List ℕ). UnitsFrom order (offset + length z) (vs ++ v ∷ []) q.1) (sym h.bytes) q.5 in
      same_flawed (offset + length p.0) us vs u v p.1 q.1 r s one two p.5 later h.past sound.1 sound'.1 f g

  -- where no unit stands after sound ones, none has a flaw
  none_flawed : (offset : ℕ) (us vs : List (ℕ × UnitParts)) (v : ℕ × UnitParts) (x y r s : List ℕ) (two : No) → UnitsFrom order offset us x
      → UnitsFrom order offset (vs ++ v ∷ []) y
      → x ++ r ≡ y ++ s → NoneSpelled (UnitBytesIn order) r → AllByRecursion (IsSoundUnit text general dead) us
      → IsFlaw text general dead v two → ⊥
  none_flawed offset [] [] v x y r s two p q e none sound g =
      none v.1 q.0 (q.1 ++ s) q.3 (sym (append_assoc q.0 q.1 s) ∙ ap (λ (z : List ℕ). z ++ s) (sym q.4) ∙ sym e
      ∙ ap (λ (z : List ℕ). z ++ r) p)
  none_flawed offset [] (b ∷ vs) v x y r s two p q e none sound g =
      none b.1 q.0 (q.1 ++ s) q.3 (sym (append_assoc q.0 q.1 s) ∙ ap (λ (z : List ℕ). z ++ s) (sym q.4) ∙ sym e
      ∙ ap (λ (z : List ℕ). z ++ r) p)
  none_flawed offset (a ∷ us) [] v x y r s two p q e none sound g =
      let h = same_head order offset a v us [] x y r s p q e in
      sound_well falls missing text general dead v two (subst (IsSoundUnit text general dead) h.unit sound.0) g
  none_flawed offset (a ∷ us) (b ∷ vs) v x y r s two p q e none sound g =
      let h = same_head order offset a b us (vs ++ v ∷ []) x y r s p q e in
      let later : UnitsFrom order (offset + length p.0) (vs ++ v ∷ []) q.1 =
      subst (λ (z : List ℕ). UnitsFrom order (offset + length z) (vs ++ v ∷ []) q.1) (sym h.bytes) q.5 in
      none_flawed (offset + length p.0) us vs v p.1 q.1 r s two p.5 later h.past none sound.1 g

-- ---- reasons, by their kinds

data Kind (text general : List ℕ) (options : Options) (section : List ℕ) (reason : No) : Type 0 where
  malformed : (fault : Fault) → reason ≡ no.Malformed fault → IsMalformed text general options section fault
      → Kind text general options section reason
  overlaps : (overlap : Overlap) → reason ≡ no.Overlap overlap.first overlap.second overlap.position
      → IsOverlap text general options section overlap → Kind text general options section reason
  flawed : IsFirstFlaw text general options section reason → Kind text general options section reason

kind_of : (text general : List ℕ) (options : Options) (section : List ℕ) (reason : No) → IsTrueNo text general options section reason
    → Kind text general options section reason
kind_of text general options section (no.Malformed fault) h = malformed fault refl h
kind_of text general options section (no.Overlap first second position) h =
    overlaps (record { first = first; second = second; position = position }) refl h
kind_of text general options section reason h = flawed h

-- a flaw, and an overlap of sound units
flaw_and_overlap : FallIsNotOrdered → MissingFileIsNotThere
    → (text general : List ℕ) (options : Options) (section : List ℕ) (reason : No) (overlap : Overlap)
    → IsFirstFlaw text general options section reason
    → IsOverlap text general options section overlap → ⊥
flaw_and_overlap falls missing text general options section reason overlap f o =
    let more = units_begin options.order 0 (f.units ++ f.unit ∷ []) o.units f.prefix f.rest section f.spelled o.spelled f.split in
    sound_well falls missing text general options.dead f.unit reason
    (all_at (IsSoundUnit text general options.dead) f.units more.0 f.unit
    (subst (AllByRecursion (IsSoundUnit text general options.dead)) more.1 o.sound)) f.flaw

flaw_and_malformed : FallIsNotOrdered → MissingFileIsNotThere
    → (text general : List ℕ) (options : Options) (section : List ℕ) (reason : No) (fault : Fault)
    → IsFirstFlaw text general options section reason
    → IsMalformed text general options section fault → ⊥
flaw_and_malformed falls missing text general options section reason fault f m =
    let t = m.broken.true_fault in
    none_flawed falls missing text general options.dead options.order 0 t.units f.units f.unit t.prefix f.prefix
    t.rest f.rest reason t.sound
    f.spelled (sym t.split ∙ f.split) t.broken.broken.none m.sound f.flaw

two_overlaps : (text general : List ℕ) (options : Options) (section : List ℕ) (a b : Overlap) → IsOverlap text general options section a
    → IsOverlap text general options section b → a ≡ b
two_overlaps text general options section a b o q =
    let same : q.units ≡ o.units = one_section.units options.order q.units o.units section q.spelled o.spelled in
    one_overlap (kept_sequences (selected options o.units)) a b
    (kept_distinct options.skip_copies (live_sequences options.dead o.units)
    (distinct options.order options.dead o.units section o.spelled)) o.first
    (subst (λ (units : List (ℕ × UnitParts)). IsFirstOverlap (kept_sequences (selected options units)) b) same q.first)

two_flaws : FallIsNotOrdered → MissingFileIsNotThere → (text general : List ℕ) (options : Options) (section : List ℕ) (r s : No)
    → IsFirstFlaw text general options section r
    → IsFirstFlaw text general options section s → r ≡ s
two_flaws falls missing text general options section r s f g =
    let same : f.unit ≡ g.unit = same_flawed falls missing text general options.dead options.order 0 f.units g.units f.unit g.unit f.prefix
    g.prefix f.rest g.rest r s f.spelled g.spelled (sym f.split ∙ g.split) f.sound g.sound f.flaw g.flaw in
    one_flaw missing text general options.dead g.unit r s
    (subst (λ (unit : ℕ × UnitParts). IsFlaw text general options.dead unit r) same f.flaw) g.flaw

by_kinds : FallIsNotOrdered → MissingFileIsNotThere → OneTrueFault
    → (text general : List ℕ) (options : Options) (section : List ℕ) (r s : No) → Kind text general options section r
    → Kind text general options section s → r ≡ s
by_kinds falls missing faults text general options section r s (malformed f e m) (malformed g e' n) =
    e ∙ ap no.Malformed (faults.fault options.order section f g m.broken.true_fault n.broken.true_fault) ∙ sym e'
by_kinds falls missing faults text general options section r s (malformed f e m) (overlaps o e' q) =
    absurd (m.broken.none q.units q.spelled)
by_kinds falls missing faults text general options section r s (malformed f e m) (flawed g) =
    absurd (flaw_and_malformed falls missing text general options section s f g m)
by_kinds falls missing faults text general options section r s (overlaps o e q) (malformed g e' n) =
    absurd (n.broken.none q.units q.spelled)
by_kinds falls missing faults text general options section r s (overlaps o e q) (overlaps o' e' q') =
    e ∙ ap (λ (overlap : Overlap). no.Overlap overlap.first overlap.second overlap.position)
    (two_overlaps text general options section o o' q q') ∙ sym e'
by_kinds falls missing faults text general options section r s (overlaps o e q) (flawed g) =
    absurd (flaw_and_overlap falls missing text general options section s o g q)
by_kinds falls missing faults text general options section r s (flawed f) (malformed g e' n) =
    absurd (flaw_and_malformed falls missing text general options section r g f n)
by_kinds falls missing faults text general options section r s (flawed f) (overlaps o e' q) =
    absurd (flaw_and_overlap falls missing text general options section r o f q)
by_kinds falls missing faults text general options section r s (flawed f) (flawed g) =
    two_flaws falls missing text general options section r s f g

pub one_no : FallIsNotOrdered → MissingFileIsNotThere → OneTrueFault → OneNo
one_no falls missing faults = record {
  one = λ text general options section r s h k.
      by_kinds falls missing faults text general options section r s (kind_of text general options section r h)
      (kind_of text general options section s k);
}
