-- The answers to a text of positions, block by block.
use Rattle.std.proofs.Common.{◌≡◌, ◌∙◌, ◌==◌, Bool, true, false, cond, IsTrue, ℕ, ◌+◌, ◌<◌, ◌≤◌, List, [], ◌∷◌, ◌++◌, length, map, take}
use Rattle.std.proofs.Common.{drop, get_or, Option, Some, None, IfSome, refl, sym, ap, subst, append_assoc, append-nil, arith, ⊎_elim}
use Rattle.std.proofs.Common.{eqb-true}
use Rattle.std.proofs.KnownBytes.{Appends-nil, Appends-trans}
use Rattle.std.proofs.lemmas.Bool.Decides.{nat_tests}
use Rattle.std.proofs.lemmas.Grind.{common_steps}
use Rattle.std.proofs.lemmas.List.{drop_more, length-take-le, map-append, take-append-drop}
use Rattle.std.proofs.lemmas.List.Elements.{All-append}
use Rattle.std.proofs.lemmas.List.Concat.{flat_map-append}
use Rattle.std.proofs.lemmas.List.Splits.{slice_split_at, slice_split_none, length-slice_split}
use Rattle.std.proofs.ByRecursion.{All-append as all_append}
use Rattle.std.specs.List.{flat_map, slice_split}
use Rattle.std.specs.Str.Lines.{lines, lines_of_parts, strip_carriage_return}
use Rattle.std.specs.Io.KnownBytes.{Appends, Keeps}
use Rattle.lnt_io.proofs.PullLaws.{more_from_start}
use Rattle.lnt_io.specs.Pulling.{HasMoreThan, Pulls, IsAtEnd}
use Rattle.lnt_io.specs.declared.status.Status.{Status}
use Rattle.lnt_io.specs.declared.status.Status.TheVariants.{Done}
use Rattle.lnt_spans.specs.declared.position.Position.{Position}
use Rattle.lnt_lines.specs.Indexed.{Indexed, OfUnits}
use Rattle.lnt_answers.specs.AddressBlocks.{AreFirstPrinted, BeginsWithLine, HasNo, IsCut}
use Rattle.lnt_answers.proofs.RoomLaws.{text_in_room}
use Rattle.lnt_answers.specs.AddressLines.{AreAddressesPrinted, AreLinesPrinted, NamesPositionIfAny, line_status}
use Rattle.lnt_answers.specs.AddressLines.{lines_status, printed_line}
use Rattle.lnt_answers.specs.Lines.{lookup_line}

-- ---- where a line ends

pub cut_found : (byte : ℕ) (text : List ℕ) (k : ℕ) → k < length text → ((j : ℕ) → j < k → (get_or text j 0 == byte) ≡ false)
    → get_or text k 0 ≡ byte → IsCut byte text (take k text) (drop (k + 1) text)
cut_found byte text k lt before is = (
  sym (take-append-drop k text) ∙ ap (λ (z : List ℕ). take k text ++ z) (drop_more text k 0 lt ∙ ap (λ (b : ℕ). b ∷ drop (k + 1) text) is),
  λ j d few. let other = before j in grind (arith, common_steps),
)

pub cut_missing : (byte : ℕ) (text : List ℕ) (k : ℕ) → length text ≤ k → ((j : ℕ) → j < k → (get_or text j 0 == byte) ≡ false)
    → HasNo byte text
cut_missing byte text k le before = λ j d few. let other = before j in grind (arith, common_steps)

parts_cons : (x : List ℕ) (parts : List (List ℕ)) → 0 < length parts
    → lines_of_parts (x ∷ parts) ≡ strip_carriage_return x ∷ lines_of_parts parts
parts_cons x [] l = absurd (omega arith)
parts_cons x (y ∷ more) l = refl

line_cut : (line more : List ℕ) → HasNo 10 line → lines (line ++ 10 ∷ more) ≡ strip_carriage_return line ∷ lines more
line_cut line more whole =
    ap lines_of_parts (slice_split_at (λ b. b == 10) line 10 more whole refl)
    ∙ parts_cons line (slice_split (λ b. b == 10) more) (let size = length-slice_split (λ b. b == 10) more in omega (arith, size))

pub line_last : (b : ℕ) (line : List ℕ) → HasNo 10 (b ∷ line) → lines (b ∷ line) ≡ (b ∷ line) ∷ []
line_last b line whole =
    ap lines_of_parts (slice_split_none (λ b. b == 10) (b ∷ line) whole)
    ∙ ap (λ (t : Bool). cond t [] ((b ∷ line) ∷ [])) (is_some (b ∷ line) (omega arith))
  where
    is_some : (text : List ℕ) → 0 < length text → (length text == 0) ≡ false
    is_some text some = grind (arith, nat_tests)

-- ---- lines that were answered

status_append : (before : Status) (a b : List (List ℕ × Option Position))
    → lines_status before (a ++ b) ≡ lines_status (lines_status before a) b
status_append before [] b = refl
status_append before (named ∷ a) b = status_append (line_status before named.1) a b

module _ {index : Indexed} {op : ℕ} where
  pub told_none : (old : Option (List ℕ)) (status : Status) → AreLinesPrinted index op [] old old status status
  told_none old status =
      record { named = []; lines_are = refl; so = tt; printed = λ selection is. Appends-nil old; status_is = refl }

  -- one line
  pub told_one : {line : List ℕ} {old new : Option (List ℕ)} {before after : Status} (position : Option Position)
      → NamesPositionIfAny op (line, position)
      → OfUnits index (λ selection. Appends old new (printed_line index selection (line, position)))
      → after ≡ line_status before position → AreLinesPrinted index op (line ∷ []) old new before after
  told_one {line} {old} {new} position tells printed status = record {
    named = (line, position) ∷ [];
    lines_are = refl;
    so = (tells, tt);
    printed = λ selection is. subst (Appends old new) (sym (append-nil (printed_line index selection (line, position))))
        (printed selection is);
    status_is = status;
  }

  -- and others after them
  pub told_append : {xs ys : List (List ℕ)} {old now new : Option (List ℕ)} {s t u : Status} → AreLinesPrinted index op xs old now s t
      → AreLinesPrinted index op ys now new t u → AreLinesPrinted index op (xs ++ ys) old new s u
  told_append {xs} {ys} {old} {now} {new} {s} a b = record {
    named = a.named ++ b.named;
    lines_are = map-append (λ line. line.0) a.named b.named ∙ ap (λ (z : List (List ℕ)). z ++ map (λ line. line.0) b.named) a.lines_are
        ∙ ap (λ (z : List (List ℕ)). xs ++ z) b.lines_are;
    so = all_append (NamesPositionIfAny op) a.named b.named a.so b.so;
    printed = λ selection is.
        let text = printed_line index selection in
        subst (Appends old new) (sym (flat_map-append text a.named b.named))
        (Appends-trans old now new (flat_map text a.named) (flat_map text b.named) (a.printed selection is)
        (b.printed selection is));
    status_is = b.status_is ∙ ap (λ (z : Status). lines_status z b.named) a.status_is ∙ sym (status_append s a.named b.named);
  }

  -- Their lines were made in an empty buffer, and are then written.
  told_sent : {texts : List (List ℕ)} {none made : List ℕ} {old new : Option (List ℕ)} {s t : Status}
      → AreLinesPrinted index op texts (Some none) (Some made) s t → none ≡ [] → Appends old new made
      → AreLinesPrinted index op texts old new s t
  told_sent {none = none} {made = made} {old = old} {new = new} all empty appended = record {
    named = all.named;
    lines_are = all.lines_are;
    so = all.so;
    printed = λ selection is. subst (Appends old new) (text_in_room none made made
        (flat_map (printed_line index selection) all.named) empty (all.printed selection is) refl) appended;
    status_is = all.status_is;
  }

  -- ---- the first lines of a text

  pub first_none : (text : List ℕ) (old : Option (List ℕ)) (status : Status) → AreFirstPrinted index op text text old old status status
  first_none text old status = record { texts = []; printed = told_none old status; cut = λ more. refl }

  -- the first one
  pub first_line : {text rest stripped : List ℕ} {old new : Option (List ℕ)} {s t : Status} (line : List ℕ) → IsCut 10 text line rest
      → stripped ≡ strip_carriage_return line → AreLinesPrinted index op (stripped ∷ []) old new s t
      → AreFirstPrinted index op text rest old new s t
  first_line {rest = rest} {stripped = stripped} line at stripped_is printed = record {
    texts = stripped ∷ [];
    printed = printed;
    cut = λ more.
        ap (λ (z : List ℕ). lines (z ++ more)) at.0 ∙ ap lines (append_assoc line (10 ∷ rest) more) ∙ line_cut line (rest ++ more) at.1
        ∙ ap (λ (z : List ℕ). z ∷ lines (rest ++ more)) (sym stripped_is);
  }

  -- and those after it
  pub first_more : {text mid rest : List ℕ} {old now new : Option (List ℕ)} {s t u : Status} → AreFirstPrinted index op text mid old now s t
      → AreFirstPrinted index op mid rest now new t u → AreFirstPrinted index op text rest old new s u
  first_more {rest = rest} a b = record {
    texts = a.texts ++ b.texts;
    printed = told_append a.printed b.printed;
    cut = λ more. a.cut more ∙ ap (λ (z : List (List ℕ)). a.texts ++ z) (b.cut more)
        ∙ sym (append_assoc a.texts b.texts (lines (rest ++ more)));
  }

  -- The lines were made in an empty buffer, and are then written.
  pub first_sent : {text rest none made : List ℕ} {old new : Option (List ℕ)} {s t : Status}
      → AreFirstPrinted index op text rest (Some none) (Some made) s t → none ≡ [] → Appends old new made
      → AreFirstPrinted index op text rest old new s t
  first_sent first empty appended = record { texts = first.texts; printed = told_sent first.printed empty appended; cut = first.cut }

  -- the first one, in which a position was found
  pub first_found : {text rest : List ℕ} {place : Position} {old new : List ℕ} {s : Status} → BeginsWithLine op text place rest
      → OfUnits index (λ selection. new ≡ old ++ lookup_line index selection place)
      → AreFirstPrinted index op text rest (Some old) (Some new) s s
  first_found {place = place} begins printed = first_line begins.line begins.cut refl (told_one (Some place) begins.tells printed refl)

  -- A line that began before this text ends in it, and others follow.
  pub first_joined : {back next rest : List ℕ} {old now new : Option (List ℕ)} {s t u : Status} (line text prefix : List ℕ)
      → HasNo 10 line → IsCut 10 text prefix back → AreLinesPrinted index op (strip_carriage_return (line ++ prefix) ∷ []) old now s t
      → next ≡ back
      → AreFirstPrinted index op next rest now new t u → AreFirstPrinted index op (line ++ text) rest old new s u
  first_joined {back} {next} {rest} {old} {now} {new} {s} {t} {u} line text prefix whole at printed next_is more =
      let joined : IsCut 10 (line ++ text) (line ++ prefix) back = (
        ap (λ (z : List ℕ). line ++ z) at.0 ∙ sym (append_assoc line prefix (10 ∷ back)),
        All-append (λ other. (other == 10) ≡ false) line prefix whole at.1,
      ) in
      first_more (first_line (line ++ prefix) joined refl printed)
      (subst (λ (z : List ℕ). AreFirstPrinted index op z rest now new t u) next_is more)

  -- the rest after a line that is empty
  pub first_emptied : {text rest line : List ℕ} {old new : Option (List ℕ)} {s t : Status}
      → AreFirstPrinted index op text rest old new s t → line ≡ [] → AreFirstPrinted index op text (line ++ rest) old new s t
  first_emptied {text} {rest} {line} {old} {new} {s} {t} first empty =
      subst (λ (z : List ℕ). AreFirstPrinted index op text (z ++ rest) old new s t) (sym empty) first

-- ---- the current line

pub none_in : (byte : ℕ) (line : List ℕ) → line ≡ [] → HasNo byte line
none_in byte line empty = subst (HasNo byte) (sym empty) (λ j d few. absurd (omega arith))

pub none_in_joined : (byte : ℕ) (line rest all : List ℕ) → HasNo byte line → HasNo byte rest → all ≡ line ++ rest → HasNo byte all
none_in_joined byte line rest all first second joined =
    subst (HasNo byte) (sym joined) (All-append (λ other. (other == byte) ≡ false) line rest first second)

-- ---- a whole text

-- The lines of the text are these, and then those of the current line joined with the bytes that the source still has.
abbrev pub IsTextCut : Option (List ℕ) → Option (List ℕ) → List (List ℕ) → List ℕ → Type 0
IsTextCut None now texts line = Unit {0}
IsTextCut (Some text) None texts line = ⊥
IsTextCut (Some text) (Some rest) texts line = lines text ≡ texts ++ lines (line ++ rest)

pub record IsTextTold (index : Indexed) (op : ℕ) (start now : Option (List ℕ)) (line : List ℕ) (old new : Option (List ℕ))
    (status : Status) : Type 0 where
  pub texts : List (List ℕ)
  pub printed : AreLinesPrinted index op texts old new Done status
  pub cut : IsTextCut start now texts line
  pub whole : HasNo 10 line

cut_begun : (start : Option (List ℕ)) → IsTextCut start start [] []
cut_begun start = grind (arith, common_steps)

cut_more : (start mid now : Option (List ℕ)) (texts more : List (List ℕ)) (line block left : List ℕ) → IsTextCut start mid texts line
    → Pulls mid now block
    → ((rest : List ℕ) → lines ((line ++ block) ++ rest) ≡ more ++ lines (left ++ rest)) → IsTextCut start now (texts ++ more) left
cut_more None mid now texts more line block left c p cut = tt
cut_more (Some text) None now texts more line block left c p cut = absurd c
cut_more (Some text) (Some x) None texts more line block left c p cut = absurd p
cut_more (Some text) (Some x) (Some y) texts more line block left c p cut =
    c ∙ ap (λ (z : List ℕ). texts ++ lines (line ++ z)) p ∙ ap (λ (z : List ℕ). texts ++ lines z) (sym (append_assoc line block y))
    ∙ ap (λ (z : List (List ℕ)). texts ++ z) (cut y) ∙ sym (append_assoc texts more (lines (left ++ y)))

cut_pulled : (start mid now : Option (List ℕ)) (texts : List (List ℕ)) (line : List ℕ) → IsTextCut start mid texts line → Pulls mid now []
    → IsTextCut start now texts line
cut_pulled start mid now texts line c p = grind (arith, common_steps)

-- The text is at its end: its lines are those answered, and the current line, if it isn't empty.
pub cut_ended : (start now : Option (List ℕ)) (texts : List (List ℕ)) (line : List ℕ) (ended : Bool) → IsTextCut start now texts line
    → IsAtEnd now ended → ended ≡ false
    → IfSome start (λ text. lines text ≡ texts ++ lines line)
cut_ended None now texts line ended c e short = tt
cut_ended (Some text) None texts line ended c e short = absurd c
cut_ended (Some text) (Some rest) texts line ended c e short =
    ⊎_elim (λ nothing. c ∙ ap (λ (z : List ℕ). texts ++ lines z) (ap (λ (z : List ℕ). line ++ z) nothing ∙ append-nil line))
    (λ (long : IsTrue ended). absurd (let not_long = short in grind (arith, long, not_long))) e

-- ---- a writer that was flushed

appends_kept : (a b c : Option (List ℕ)) (text : List ℕ) → Appends a b text → Keeps b c → Appends a c text
appends_kept a b c text appended kept = grind (arith, common_steps)

told_lines : {index : Indexed} {op : ℕ} {old new : Option (List ℕ)} {status : Status} (start : Option (List ℕ)) (texts all : List (List ℕ))
    → IfSome start (λ text. lines text ≡ all) → texts ≡ all → AreLinesPrinted index op texts old new Done status
    → AreAddressesPrinted index op start old new status
told_lines start texts all e same printed = grind (arith, common_steps)

module _ {index : Indexed} {op : ℕ} {start old : Option (List ℕ)} where
  pub text_begun : {line : List ℕ} {status : Status} → line ≡ [] → status ≡ Done → IsTextTold index op start start line old old status
  text_begun {status = status} empty done =
      subst (λ (z : List ℕ). IsTextTold index op start start z old old status) (sym empty)
      (subst (λ (z : Status). IsTextTold index op start start [] old old z) (sym done)
      (record { texts = []; printed = told_none old Done; cut = cut_begun start; whole = λ j d few. absurd (omega arith) }))

  -- with one block more
  pub text_more : {mid now then new : Option (List ℕ)} {line left : List ℕ} {s t : Status} (block : List ℕ)
      → IsTextTold index op start mid line old then s → Pulls mid now block → AreFirstPrinted index op (line ++ block) left then new s t
      → HasNo 10 left → IsTextTold index op start now left old new t
  text_more {mid} {now} {line = line} {left = left} block before pulls more whole = record {
    texts = before.texts ++ more.texts;
    printed = told_append before.printed more.printed;
    cut = cut_more start mid now before.texts more.texts line block left before.cut pulls more.cut;
    whole = whole;
  }

  module _ {now : Option (List ℕ)} {line : List ℕ} {then : Option (List ℕ)} {s : Status} where
    -- nothing more came
    pub text_pulled : {mid : Option (List ℕ)} → IsTextTold index op start mid line old then s → Pulls mid now []
        → IsTextTold index op start now line old then s
    text_pulled {mid} before pulls = record {
      texts = before.texts;
      printed = before.printed;
      cut = cut_pulled start mid now before.texts line before.cut pulls;
      whole = before.whole;
    }

    pub text_ended : {ended : Bool} → IsTextTold index op start now line old then s → IsAtEnd now ended → ended ≡ false → line ≡ []
        → AreAddressesPrinted index op start old then s
    text_ended {ended} before at short empty =
        told_lines start before.texts (before.texts ++ lines line)
        (cut_ended start now before.texts line ended before.cut at short)
        (sym (append-nil before.texts) ∙ ap (λ (z : List ℕ). before.texts ++ lines z) (sym empty)) before.printed

    pub text_kept : {new : Option (List ℕ)} → IsTextTold index op start now line old then s → Keeps then new
        → IsTextTold index op start now line old new s
    text_kept {new} before kept = record {
      texts = before.texts;
      printed = record {
        named = before.printed.named;
        lines_are = before.printed.lines_are;
        so = before.printed.so;
        printed = λ selection is. appends_kept old then new (flat_map (printed_line index selection) before.printed.named)
            (before.printed.printed selection is) kept;
        status_is = before.printed.status_is;
      };
      cut = before.cut;
      whole = before.whole;
    }

  pub text_ended_within : {now then new : Option (List ℕ)} {line : List ℕ} {s t : Status} {ended : Bool}
      → IsTextTold index op start now line old then s → IsAtEnd now ended → ended ≡ false → 0 < length line
      → AreLinesPrinted index op (line ∷ []) then new s t → AreAddressesPrinted index op start old new t
  text_ended_within {line = []} before at short some printed = absurd (omega arith)
  text_ended_within {now} {line = b ∷ line} {ended = ended} before at short some printed =
      told_lines start (before.texts ++ (b ∷ line) ∷ []) (before.texts ++ lines (b ∷ line))
      (cut_ended start now before.texts (b ∷ line) ended before.cut at short)
      (ap (λ (z : List (List ℕ)). before.texts ++ z) (sym (line_last b line before.whole))) (told_append before.printed printed)

-- ---- numbers and prefixes, in the code's terms

pub not_empty : (n : ℕ) (line : List ℕ) → n ≡ length line → (n == 0) ≡ false → 0 < length line
not_empty n line same other = let some = is_some n other in omega (arith, same, some)
  where
    is_some : (m : ℕ) → (m == 0) ≡ false → 0 < m
    is_some m e = grind (arith, nat_tests)

pub is_empty : (n : ℕ) (line : List ℕ) → n ≡ length line → (n == 0) ≡ true → line ≡ []
is_empty n [] same zero_is = refl
is_empty n (b ∷ line) same zero_is = absurd (omega (arith, eqb-true n 0 zero_is, same))

prefix_of : (n : ℕ) (prefix rest : List ℕ) → n ≡ length prefix → take n (prefix ++ rest) ≡ prefix
prefix_of n prefix rest same = grind (arith, common_steps)

-- what was pulled into a room, of which the block is all
pub pulls_prefix : (old new : Option (List ℕ)) (k n : ℕ) (room rest block : List ℕ) → n ≡ length room → block ≡ take n (room ++ rest)
    → Pulls old new (take k room) → Pulls old new (take k block)
pulls_prefix old new k n room rest block whole same pulls =
    subst (λ (z : List ℕ). Pulls old new (take k z)) (sym (same ∙ prefix_of n room rest whole)) pulls

-- where a source that gave some bytes has more than it may give, it had more before
pub more_before : (old new : Option (List ℕ)) (k : ℕ) (room : List ℕ) (before after : ℕ) → k ≤ length room → Pulls old new (take k room)
    → after + k ≡ before → HasMoreThan new after → HasMoreThan old before
more_before old new k room before after fits pulls same more =
    more_from_start old new (take k room) before after pulls (grind (arith, common_steps, length-take-le)) more
