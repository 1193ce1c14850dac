-- The exits of the readers of texts and blocks: what is read, and why nothing is.
use Rattle.std.proofs.Common.{◌≡◌, ℕ, ◌+◌, ◌<◌, ◌≤◌, List, [], ◌∷◌, ◌++◌, length, get_or, take, drop, refl, sym, ap, subst, ◌∙◌}
use Rattle.std.proofs.Common.{append_assoc, arith}
use Rattle.std.proofs.lemmas.List.{length-append, length-take-le, take_more, take-append-drop}
use Rattle.lnt_wire.specs.Reading.{At, Reads, RefusesField, Fault, Skips}
use Rattle.lnt_wire.specs.declared.fault.Reason.TheVariants.{Truncated}
use Rattle.lnt_wire.specs.FormBytes.{HasNoZero, TextBytes, BlockBytes}
use Rattle.lnt_wire.specs.FormFaults.{IsCutText}
use Rattle.lnt_wire.specs.BlockLengths.{LengthBytes, IsLengthFault, IsBlockValueFault, BlockLength}
use Rattle.lnt_wire.specs.FormFaults.IsBlockFault.{cut_block}
use Rattle.lnt_wire.proofs.LengthLaws.{same_rest}
use Rattle.lnt_wire.proofs.ValueLaws.{length_code}
use Rattle.std.proofs.lemmas.Grind.{common_steps}

-- ---- texts

pub no_text : (bytes text more : List ℕ) → HasNoZero bytes → (text ++ 0 ∷ []) ++ more ≡ bytes → ⊥
no_text [] [] more h e = cc
no_text [] (b ∷ text) more h e = cc
no_text (a ∷ bytes) [] more h e = let heads : 0 ≡ a = cc in omega (arith, h.0)
no_text (a ∷ bytes) (b ∷ text) more h e = let tails : (text ++ 0 ∷ []) ++ more ≡ bytes = cc in no_text bytes text more h.1 tails

pub refuses_text : (old : At) (fault : Fault) (bytes : List ℕ) → bytes ≡ old.rest → HasNoZero bytes → fault.place ≡ old.place
    → fault.reason ≡ Truncated → RefusesField IsCutText TextBytes old fault
refuses_text old fault bytes same no_zero place reason = grind (arith, common_steps, no_text)

pub reads_text : (old new : At) (bytes text : List ℕ) (size : ℕ) → bytes ≡ old.rest → size < length bytes → HasNoZero (take size bytes)
    → get_or bytes size 0 ≡ 0 → text ≡ take size bytes → Skips (size + 1) old new → Reads TextBytes text old new
reads_text old new bytes text size same lt no_zero zero_is is s = grind (arith, common_steps, take_more, take-append-drop, length-take-le)

-- ---- blocks

pub refuses_no_length : (encoding : BlockLength) (old at : At) (fault : Fault) → at ≡ old
    → RefusesField (IsLengthFault encoding) (LengthBytes at.order encoding) at fault
    → RefusesField (IsBlockValueFault old.order encoding) (BlockBytes (LengthBytes old.order encoding)) old fault
refuses_no_length encoding old at fault same there = grind (arith, common_steps, append_assoc)

pub refuses_cut_block : (encoding : BlockLength) (old at ahead : At) (size : ℕ) (bytes : List ℕ) (fault : Fault) → at ≡ old
    → Reads (LengthBytes at.order encoding) size at ahead → bytes ≡ ahead.rest → length bytes < size
    → fault.place ≡ old.place → fault.reason ≡ Truncated
    → RefusesField (IsBlockValueFault old.order encoding) (BlockBytes (LengthBytes old.order encoding)) old fault
refuses_cut_block encoding old at ahead size bytes fault same there rest short place reason =
    let r : Reads (LengthBytes old.order encoding) size old ahead =
    subst (λ (a : At). Reads (LengthBytes a.order encoding) size a ahead) same there in
    let short_here : length ahead.rest < size = omega (arith, short, ap length rest) in
    record {
      place = place;
      reason = cut_block size r.spelling ahead.rest reason r.spelled r.whole short_here;
      none = λ block spelling more p e.
          let all : p.prefix ++ (p.back ++ more) ≡ r.spelling ++ ahead.rest =
          sym (append_assoc p.prefix p.back more) ∙ ap (λ (z : List ℕ). z ++ more) (sym p.joined) ∙ e ∙ r.whole in
          let found =
          (length_code old.order encoding).one (length block) size p.prefix r.spelling (p.back ++ more) ahead.rest p.first r.spelled all in
          let past : p.back ++ more ≡ ahead.rest = same_rest p.prefix r.spelling (p.back ++ more) ahead.rest found.1 all in
          omega (arith, found.0, short_here, ap length past, length-append p.back more, ap length p.second);
    }

pub reads_block : (encoding : BlockLength) (old at ahead new : At) (size : ℕ) (bytes block : List ℕ) → at ≡ old
    → Reads (LengthBytes at.order encoding) size at ahead → bytes ≡ ahead.rest → size ≤ length bytes → block ≡ take size bytes
    → Skips size ahead new → Reads (BlockBytes (LengthBytes old.order encoding)) block old new
reads_block encoding old at ahead new size bytes block same there rest le is s =
    let r : Reads (LengthBytes old.order encoding) size old ahead =
    subst (λ (a : At). Reads (LengthBytes a.order encoding) size a ahead) same there in
    let count : length block ≡ size = ap length is ∙ length-take-le size bytes le in
    let joined : ahead.rest ≡ block ++ new.rest =
    sym rest
    ∙ sym (take-append-drop size bytes)
    ∙ ap (λ (z : List ℕ). z ++ drop size bytes) (sym is)
    ∙ ap (λ (z : List ℕ). block ++ drop size z) rest
    ∙ ap (λ (z : List ℕ). block ++ z) (sym s.rest) in
    record {
      spelling = r.spelling ++ block;
      spelled =
          record {
            prefix = r.spelling;
            back = block;
            first = subst (λ (n : ℕ). LengthBytes old.order encoding n r.spelling) (sym count) r.spelled;
            second = refl;
            joined = refl;
          };
      whole = r.whole ∙ ap (λ (z : List ℕ). r.spelling ++ z) joined ∙ sym (append_assoc r.spelling block new.rest);
      place = omega (arith, s.place, r.place, count, length-append r.spelling block);
      order = s.order ∙ r.order;
    }
