-- A section judged, unit by unit.
use Rattle.std.proofs.Common.{◌≡◌, ℕ, ◌+◌, ◌<◌, List, [], ◌∷◌, ◌++◌, length, sym, ap, subst, ◌∙◌, append_assoc, arith, IfSome, None, Option}
use Rattle.std.proofs.Common.{Some, length-append}
use Rattle.lnt_header.specs.Joins.{AreRising}
use Rattle.lnt_wire.specs.declared.fault.Fault.{Fault}
use Rattle.lnt_wire.specs.declared.format.Order.{Order}
use Rattle.lnt_wire.specs.declared.format.Format.{Format}
use Rattle.lnt_wire.specs.FrameBytes.{FrameBytes, initial_length}
use Rattle.lnt_wire.proofs.LengthLaws.{length-initial}
use Rattle.lnt_io.proofs.PullLaws.{pulls_append}
use Rattle.lnt_io.specs.Pulling.{Pulls}
use Rattle.lnt_io.specs.declared.stop.Stop.{Stop}
use Rattle.lnt_io.specs.declared.stop.Stop.TheVariants as stops
use Rattle.lnt_unit.specs.declared.stop.SectionStop.{SectionStop}
use Rattle.lnt_unit.specs.declared.stop.SectionStop.TheVariants as section
use Rattle.lnt_unit.specs.Stops.{IfFault}
use Rattle.lnt_unit.specs.Units.{IsNextUnit, IsWholeUnit, SectionEndsBy, BufferedUnit}
use Rattle.lnt_header.specs.declared.unit_parts.UnitParts.{UnitParts}
use Rattle.lnt_unit.specs.BrokenUnits.{BrokenUnit, IsTrueFault}
use Rattle.lnt_unit.proofs.BrokenLaws.{frame_broken}
use Rattle.lnt_unit.proofs.FrameLaws.{broken_more}
use Rattle.lnt_unit.proofs.UnitLaws.{no_section, units_push}
use Rattle.lnt_unit.specs.UnitBytes.{SectionBytes, UnitBytesIn}
use Rattle.lnt_sequences.specs.Copies.{AreExtentsOf}
use Rattle.lnt_sequences.specs.Rules.{AreApart}
use Rattle.lnt_sequences.specs.Sequences.{kept_of, live_sequences, Placed}
use Rattle.lnt_sequences.specs.Watching.{Collects}
use Rattle.lnt_lines.specs.declared.draft.Draft.{Draft}
use Rattle.lnt_lines.specs.declared.no.No.TheVariants as bad
use Rattle.lnt_lines.specs.declared.options.Options.{Options}
use Rattle.lnt_lines.specs.declared.refusal.Refusal.TheVariants as refusal
use Rattle.lnt_lines.specs.Judging.{IsIndexOfSection, IsIndexWithCopies, HasFlaw, IsUnitNo, IsUnitRefusal, Refusal}
use Rattle.lnt_lines.specs.Stepping.{HasAdded, IsDraftOf, IsDraftOfSection, IsRefusal, IsWholeDraft}
use Rattle.lnt_lines.specs.Indexed.{Indexed, IsIndexOf}
use Rattle.lnt_lines.specs.Nos.{IsFirstFlaw, IsMalformed, IsTrueNo, No}
use Rattle.lnt_lines.specs.Running.{IsStopRefusal}
use Rattle.lnt_lines.proofs.DraftLemmas.{distinct, numbers_from, rising_from}

-- ---- units judged one after another

-- what was judged so far: of the bytes that the source had to give, old, the prefix was taken, and now the others are left
pub record JudgedSoFar (text general : List ℕ) (options : Options) (old now : Option (List ℕ)) (offset : ℕ) (draft : Draft) : Type 0 where
  pub units : List (ℕ × UnitParts)
  pub prefix : List ℕ
  pub spelled : SectionBytes options.order units prefix
  pub pulls : Pulls old now prefix
  pub place : offset ≡ length prefix
  pub draft_is : IsDraftOf text general options.dead units draft

pub judged_more : (text general : List ℕ) (options : Options) (old now now' : Option (List ℕ)) (order : Order) (offset offset' : ℕ)
    (buffer : BufferedUnit) (draft draft' : Draft)
    → JudgedSoFar text general options old now offset draft → order ≡ options.order → IsNextUnit offset order now now' buffer
    → offset' ≡ offset + length buffer.bytes
    → HasAdded text general options.dead buffer draft draft' → JudgedSoFar text general options old now' offset' draft'
judged_more text general options old now now' order offset offset' buffer draft draft' so_far same next at added =
    let spelled : UnitBytesIn options.order added.unit buffer.bytes =
    subst (λ (o : Order). UnitBytesIn o added.unit buffer.bytes) (next.order_is ∙ same) added.spelled in
    record {
      units = so_far.units ++ (buffer.offset, added.unit) ∷ [];
      prefix = so_far.prefix ++ buffer.bytes;
      spelled = units_push options.order 0 so_far.units (buffer.offset, added.unit) so_far.prefix buffer.bytes so_far.spelled
          (omega (arith, next.offset_is, so_far.place)) spelled;
      pulls = pulls_append old now now' so_far.prefix buffer.bytes so_far.pulls next.pulls;
      place = omega (arith, at, so_far.place, length-append so_far.prefix buffer.bytes);
      draft_is = added.drafts so_far.units so_far.draft_is;
    }

-- ---- a unit that isn't sound

-- a frame has some byte
frame_is_some : (order : Order) (frame : Format × List ℕ) (bytes : List ℕ) → FrameBytes order frame bytes → 0 < length bytes
frame_is_some order frame bytes f = omega (
  arith,
  ap length f.joined,
  length-append (initial_length frame.0 order (length frame.1)) frame.1,
  length-initial frame.0 order (length frame.1),
)

-- no unit begins what stands after the sound ones
malformed : {text general : List ℕ} {options : Options} {old now : Option (List ℕ)} {offset : ℕ} {draft : Draft} (bytes rest : List ℕ)
    (fault : Fault) → (so_far : JudgedSoFar text general options old now offset draft) → bytes ≡ so_far.prefix ++ rest → 0 < length rest
    → BrokenUnit options.order fault offset rest → IsMalformed text general options bytes fault
malformed {options = options} bytes rest fault so_far whole some b =
    let t : IsTrueFault options.order fault bytes = record {
      units = so_far.units;
      prefix = so_far.prefix;
      rest = rest;
      sound = so_far.spelled;
      some = some;
      split = whole;
      broken = subst (λ (n : ℕ). BrokenUnit options.order fault n rest) so_far.place b;
    } in
    record { broken = record { none = no_section options.order fault bytes t; true_fault = t }; sound = so_far.draft_is.sound }

-- the unit after the sound ones
module _ {text general : List ℕ} {options : Options} {old now : Option (List ℕ)} {offset : ℕ} {draft : Draft} (bytes rest : List ℕ)
    (buffer : BufferedUnit) (so_far : JudgedSoFar text general options old now offset draft) (at : buffer.offset ≡ offset)
    (same : buffer.order ≡ options.order) (whole : bytes ≡ so_far.prefix ++ (buffer.bytes ++ rest)) where
  -- has the flaw
  first_flaw : (reason : No) → HasFlaw text general options.dead buffer reason → IsFirstFlaw text general options bytes reason
  first_flaw reason flaw = record {
    units = so_far.units;
    unit = (buffer.offset, flaw.unit);
    prefix = so_far.prefix ++ buffer.bytes;
    rest = rest;
    spelled = units_push options.order 0 so_far.units (buffer.offset, flaw.unit) so_far.prefix buffer.bytes so_far.spelled
        (omega (arith, at, so_far.place)) (subst (λ (o : Order). UnitBytesIn o flaw.unit buffer.bytes) same flaw.spelled);
    split = whole ∙ sym (append_assoc so_far.prefix buffer.bytes rest);
    sound = so_far.draft_is.sound;
    flaw = flaw.flaw;
  }

  malformed_in : (fault : Fault) → IsWholeUnit buffer → BrokenUnit buffer.order fault buffer.offset buffer.bytes
      → IsMalformed text general options bytes fault
  malformed_in fault is b =
      let more : BrokenUnit buffer.order fault buffer.offset (buffer.bytes ++ rest) =
      broken_more buffer.order fault buffer.offset (is.format, is.body) buffer.bytes rest is.spelled b in
      let here : BrokenUnit options.order fault offset (buffer.bytes ++ rest) =
      subst (λ (n : ℕ). BrokenUnit options.order fault n (buffer.bytes ++ rest)) at
      (subst (λ (o : Order). BrokenUnit o fault buffer.offset (buffer.bytes ++ rest)) same more) in
      malformed bytes (buffer.bytes ++ rest) fault so_far whole
      (omega (arith, length-append buffer.bytes rest, frame_is_some buffer.order (is.format, is.body) buffer.bytes is.spelled)) here

  refused : (reason : No) → IsWholeUnit buffer → IsUnitNo text general options.dead buffer reason
      → IsTrueNo text general options bytes reason
  refused (bad.Malformed fault) is b = malformed_in fault is b
  refused (bad.Overlap first second position) is h = absurd h.flaw
  refused reason is h = first_flaw reason h

pub unit_refused : (text general : List ℕ) (options : Options) (old now now' : Option (List ℕ)) (order : Order) (offset : ℕ)
    (buffer : BufferedUnit) (draft : Draft) (told : Refusal)
    → JudgedSoFar text general options old now offset draft → order ≡ options.order → IsNextUnit offset order now now' buffer
    → IsUnitRefusal text general options.dead buffer told
    → IfSome old (λ bytes. IsRefusal text general options bytes told)
unit_refused text general options None now now' order offset buffer draft told so_far same next r = tt
unit_refused text general options (Some bytes) now now' order offset buffer draft (refusal.Stop stop) so_far same next r = tt
unit_refused text general options (Some bytes) now now' order offset buffer draft (refusal.No reason) so_far same next r =
    by_left now now' so_far.pulls next.pulls
  where
    by_left : (a b : Option (List ℕ)) → Pulls (Some bytes) a so_far.prefix → Pulls a b buffer.bytes
        → IsTrueNo text general options bytes reason
    by_left None b p q = absurd p
    by_left (Some x) None p q = absurd q
    by_left (Some x) (Some y) p q =
        refused bytes y buffer so_far next.offset_is (next.order_is ∙ same) (p ∙ ap (λ (z : List ℕ). so_far.prefix ++ z) q) reason
        next.whole r

-- ---- no unit comes

fault_refused : (text general : List ℕ) (options : Options) (old now : Option (List ℕ)) (order : Order) (offset : ℕ) (draft : Draft)
    (fault : Fault)
    → JudgedSoFar text general options old now offset draft → order ≡ options.order → SectionEndsBy offset order now (Some fault)
    → IfSome old (λ bytes. IsMalformed text general options bytes fault)
fault_refused text general options None now order offset draft fault so_far same ends = tt
fault_refused text general options (Some bytes) now order offset draft fault so_far same ends = by_left now so_far.pulls ends
  where
    by_left : (a : Option (List ℕ)) → Pulls (Some bytes) a so_far.prefix → SectionEndsBy offset order a (Some fault)
        → IsMalformed text general options bytes fault
    by_left None p e = absurd p
    by_left (Some x) p e =
        malformed bytes x fault so_far p e.0
        (subst (λ (o : Order). BrokenUnit o fault offset x) same
        (frame_broken order (record { place = offset; rest = x; order = order }) fault e.1))

stopped : (text general : List ℕ) (options : Options) (old : Option (List ℕ)) (stop : Stop) (told : Refusal) → told ≡ refusal.Stop stop
    → IfSome old (λ bytes. IsRefusal text general options bytes told)
stopped text general options None stop told is = tt
stopped text general options (Some bytes) stop told is = subst (IsRefusal text general options bytes) (sym is) tt

pub stop_refused : (text general : List ℕ) (options : Options) (old now : Option (List ℕ)) (order : Order) (offset : ℕ) (draft : Draft)
    (stop : SectionStop) (told : Refusal)
    → JudgedSoFar text general options old now offset draft → order ≡ options.order
    → IfFault stop (λ fault. SectionEndsBy offset order now (Some fault)) → IsStopRefusal stop told
    → IfSome old (λ bytes. IsRefusal text general options bytes told)
stop_refused text general options old now order offset draft (section.Fault fault) told so_far same ends is =
    subst (λ (r : Refusal). IfSome old (λ bytes. IsRefusal text general options bytes r)) (sym is)
    (fault_refused text general options old now order offset draft fault so_far same ends)
stop_refused text general options old now order offset draft section.Memory told so_far same ends is =
    stopped text general options old stops.Memory told is
stop_refused text general options old now order offset draft section.Read told so_far same ends is =
    stopped text general options old stops.Read told is
stop_refused text general options old now order offset draft section.TooLong told so_far same ends is =
    stopped text general options old stops.TooLong told is
stop_refused text general options old now order offset draft section.Failed told so_far same ends is = absurd is

-- ---- the section ends

weaker : (o : Option (List ℕ)) (P Q : List ℕ → Type 0) → ((bytes : List ℕ) → P bytes → Q bytes) → IfSome o P → IfSome o Q
weaker None P Q f p = tt
weaker (Some bytes) P Q f p = f bytes p

-- what the end of the draft needs
pub whole_draft : (text general : List ℕ) (options : Options) (section : Option (List ℕ)) (draft : Draft)
    → IsDraftOfSection text general options section draft → IsWholeDraft text general draft
whole_draft text general options section draft all = record {
  dead = options.dead;
  units = all.units;
  draft_is = all.draft_is;
  numbers = numbers_from options.order 0 all.units all.bytes all.spelled;
  distinct = distinct options.order options.dead all.units all.bytes all.spelled;
  rising = subst AreRising (sym all.draft_is.offsets) (rising_from options.order 0 all.units all.bytes all.spelled);
}

-- The index of a draft of the section is the section's.
index_of_bytes : (text general : List ℕ) (options : Options) (section : Option (List ℕ)) (draft : Draft) (index : Indexed) (bytes : List ℕ)
    → (all : IsDraftOfSection text general options section draft) → all.bytes ≡ bytes
    → ((sequences : List Placed) → Collects draft.collected sequences → AreApart (kept_of options.skip_copies sequences))
    → ((dead : Option ℕ) (units : List (ℕ × UnitParts))
    → IsDraftOf text general dead units draft → IsIndexOf (record { dead = dead; skip = options.skip_copies; units = units }) index)
    → index.line ≡ text → index.general ≡ general → IsIndexOfSection text general options bytes index
index_of_bytes text general options section draft index bytes all whole apart is line_is general_is = record {
  units = all.units;
  good = record {
    spelled = subst (SectionBytes options.order all.units) whole all.spelled;
    sound = all.draft_is.sound;
    apart = apart (live_sequences options.dead all.units) all.draft_is.collects;
  };
  index_is = is options.dead all.units all.draft_is;
  line_is = line_is;
  general_is = general_is;
}

pub indexed : (text general : List ℕ) (options : Options) (section : Option (List ℕ)) (draft : Draft) (index : Indexed)
    → IsDraftOfSection text general options section draft → ((sequences : List Placed) → Collects draft.collected sequences
    → AreApart (kept_of options.skip_copies sequences)) → ((dead : Option ℕ) (units : List (ℕ × UnitParts))
    → IsDraftOf text general dead units draft → IsIndexOf (record { dead = dead; skip = options.skip_copies; units = units }) index)
    → index.line ≡ text → index.general ≡ general → IfSome section (λ bytes. IsIndexOfSection text general options bytes index)
indexed text general options section draft index all apart is line_is general_is =
    weaker section (λ bytes. all.bytes ≡ bytes) (λ bytes. IsIndexOfSection text general options bytes index)
    (λ bytes whole. index_of_bytes text general options section draft index bytes all whole apart is line_is general_is) all.whole

-- the same with the extents of all live sequences
pub indexed_with_copies : (text general : List ℕ) (options : Options) (section : Option (List ℕ)) (draft : Draft) (index : Indexed)
    → IsDraftOfSection text general options section draft → ((sequences : List Placed) → Collects draft.collected sequences
    → AreApart (kept_of options.skip_copies sequences)) → ((dead : Option ℕ) (units : List (ℕ × UnitParts))
    → IsDraftOf text general dead units draft → IsIndexOf (record { dead = dead; skip = options.skip_copies; units = units }) index)
    → index.line ≡ text → index.general ≡ general
    → ((sequences : List Placed) → Collects draft.collected sequences → AreExtentsOf sequences index.live)
    → IfSome section (λ bytes. IsIndexWithCopies text general options bytes index)
unfolding index_of_bytes
indexed_with_copies text general options section draft index all apart is line_is general_is live =
    weaker section (λ bytes. all.bytes ≡ bytes) (λ bytes. IsIndexWithCopies text general options bytes index)
    (λ bytes whole. record {
      indexed = index_of_bytes text general options section draft index bytes all whole apart is line_is general_is;
      live = live (live_sequences options.dead all.units) all.draft_is.collects;
    })
    all.whole
