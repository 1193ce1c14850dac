-- The answers to a text of positions, where the writer was stopped.
use Rattle.std.proofs.Common.{◌≡◌, ◌∙◌, Bool, false, ℕ, ◌<◌, List, [], ◌∷◌, ◌++◌, length, map, Option, Some, None, IfSome, refl, sym, ap}
use Rattle.std.proofs.Common.{subst, append_assoc, append-nil, arith, flat_map}
use Rattle.std.proofs.lemmas.List.{map-append}
use Rattle.std.proofs.lemmas.List.Concat.{flat_map-append}
use Rattle.std.proofs.ByRecursion.{All-append as all_append}
use Rattle.std.specs.Str.Lines.{lines}
use Rattle.lnt_io.specs.Prefixes.{AppendsPrefix}
use Rattle.lnt_io.proofs.PrefixLaws.{prefix_after, prefix_all, prefix_before, prefix_none, prefix_same}
use Rattle.lnt_io.specs.Pulling.{Pulls, IsAtEnd}
use Rattle.lnt_io.specs.declared.status.Status.{Status}
use Rattle.lnt_lines.specs.Indexed.{Indexed}
use Rattle.lnt_answers.specs.AddressBlocks.{AreFirstBegun, AreFirstPrinted}
use Rattle.lnt_answers.specs.AddressLines.{AreAddressesBegun, AreLinesBegun, AreLinesPrinted, NamesPositionIfAny, printed_line}
use Rattle.lnt_answers.proofs.AddressLemmas.{IsTextTold, cut_ended, line_last}
use Rattle.lnt_answers.proofs.AddressWholes.{tell_lines}
use Rattle.lnt_answers.proofs.RoomLaws.{text_in_room}

-- ---- lines

module _ {index : Indexed} {op : ℕ} where
  -- lines that were all answered
  begun_told : {texts : List (List ℕ)} {old new : Option (List ℕ)} {s t : Status} → AreLinesPrinted index op texts old new s t
      → AreLinesBegun index op texts old new
  begun_told {old = old} {new = new} all = record {
    named = all.named;
    lines_are = all.lines_are;
    so = all.so;
    prefix = λ selection is. prefix_all old new (flat_map (printed_line index selection) all.named) (all.printed selection is);
  }

  -- those before some of which a prefix was written
  begun_append : {xs ys : List (List ℕ)} {old now new : Option (List ℕ)} {s t : Status} → AreLinesPrinted index op xs old now s t
      → AreLinesBegun index op ys now new → AreLinesBegun index op (xs ++ ys) old new
  begun_append {xs} {ys} {old} {now} {new} a b = record {
    named = a.named ++ b.named;
    lines_are = map-append (λ line. line.0) a.named b.named ∙ ap (λ (z : List (List ℕ)). z ++ map (λ line. line.0) b.named) a.lines_are
        ∙ ap (λ (z : List (List ℕ)). xs ++ z) b.lines_are;
    so = all_append (NamesPositionIfAny op) a.named b.named a.so b.so;
    prefix = λ selection is.
        let text = printed_line index selection in
        prefix_same old new _ _ (sym (flat_map-append text a.named b.named))
        (prefix_after old now new (flat_map text a.named) (flat_map text b.named) (a.printed selection is) (b.prefix selection is));
  }

  -- Others follow, whatever they tell: what was appended of these is a prefix of what is printed of all of them.
  begun_before : {xs : List (List ℕ)} {old new : Option (List ℕ)} (ys : List (List ℕ)) → AreLinesBegun index op xs old new
      → AreLinesBegun index op (xs ++ ys) old new
  begun_before {xs} {old} {new} ys begun =
      let others = tell_lines op ys in
      record {
        named = begun.named ++ others.0;
        lines_are = map-append (λ line. line.0) begun.named others.0
            ∙ ap (λ (z : List (List ℕ)). z ++ map (λ line. line.0) others.0) begun.lines_are
            ∙ ap (λ (z : List (List ℕ)). xs ++ z) others.1.0;
        so = all_append (NamesPositionIfAny op) begun.named others.0 begun.so others.1.1;
        prefix = λ selection is.
            let text = printed_line index selection in
            prefix_same old new _ _ (sym (flat_map-append text begun.named others.0))
            (prefix_before old new (flat_map text begun.named) (flat_map text others.0) (begun.prefix selection is));
      }

  -- nothing was written
  pub begun_nothing : (texts : List (List ℕ)) (old : Option (List ℕ)) → AreLinesBegun index op texts old old
  begun_nothing texts old =
      begun_before {xs = []} texts (record { named = []; lines_are = refl; so = tt; prefix = λ selection is. prefix_none old [] })

  -- within their lines, which were made in an empty buffer
  begun_sending : {texts : List (List ℕ)} {none made : List ℕ} {old new : Option (List ℕ)} {s t : Status}
      → AreLinesPrinted index op texts (Some none) (Some made) s t → none ≡ [] → AppendsPrefix old new made
      → AreLinesBegun index op texts old new
  begun_sending {none = none} {made = made} {old = old} {new = new} all empty prefix = record {
    named = all.named;
    lines_are = all.lines_are;
    so = all.so;
    prefix = λ selection is. prefix_same old new made _
        (text_in_room none made made (flat_map (printed_line index selection) all.named) empty (all.printed selection is) refl) prefix;
  }

  -- ---- the first lines of a text

  -- after a line
  pub first_kept : {text rest : List ℕ} {old new : Option (List ℕ)} {s t : Status} → AreFirstPrinted index op text rest old new s t
      → AreFirstBegun index op text old new
  first_kept {rest = rest} first =
      record { texts = first.texts; begun = begun_told first.printed; cut = λ more. (lines (rest ++ more), sym (first.cut more)) }

  -- within those after some
  pub first_stopped : {text mid rest none made : List ℕ} {old now new : Option (List ℕ)} {s t u : Status}
      → AreFirstPrinted index op text mid old now s t → AreFirstPrinted index op mid rest (Some none) (Some made) t u → none ≡ []
      → AppendsPrefix now new made → AreFirstBegun index op text old new
  first_stopped {rest = rest} a b empty prefix = record {
    texts = a.texts ++ b.texts;
    begun = begun_append a.printed (begun_sending b.printed empty prefix);
    cut = λ more. (
      lines (rest ++ more),
      append_assoc a.texts b.texts (lines (rest ++ more)) ∙ ap (λ (z : List (List ℕ)). a.texts ++ z) (sym (b.cut more)) ∙ sym (a.cut more),
    );
  }

  -- ---- a whole text

  -- the first lines of the text
  begun_in : (start : Option (List ℕ)) (texts rest : List (List ℕ)) (old new : Option (List ℕ))
      → IfSome start (λ text. texts ++ rest ≡ lines text) → AreLinesBegun index op texts old new → AreAddressesBegun index op start old new
  begun_in None texts rest old new e begun = tt
  begun_in (Some text) texts rest old new e begun =
      subst (λ (z : List (List ℕ)). AreLinesBegun index op z old new) e (begun_before rest begun)

pub text_unbegun : (index : Indexed) (op : ℕ) (start : Option (List ℕ)) (old : Option (List ℕ)) → AreAddressesBegun index op start old old
text_unbegun index op None old = tt
text_unbegun index op (Some text) old = begun_nothing (lines text) old

-- between two blocks
pub text_kept_begun : {index : Indexed} {op : ℕ} {start now : Option (List ℕ)} {line : List ℕ} {old new : Option (List ℕ)}
    {status : Status} → IsTextTold index op start now line old new status → AreAddressesBegun index op start old new
text_kept_begun {start = None} before = tt
text_kept_begun {start = Some text} {now = None} before = absurd before.cut
text_kept_begun {start = Some text} {now = Some rest} {line = line} {old = old} {new = new} before =
    begun_in (Some text) before.texts (lines (line ++ rest)) old new (sym before.cut) (begun_told before.printed)

-- within a block
pub text_stopped : {index : Indexed} {op : ℕ} {start mid : Option (List ℕ)} {line : List ℕ} {old then new : Option (List ℕ)} {s : Status}
    (now : Option (List ℕ)) (block : List ℕ) → IsTextTold index op start mid line old then s → Pulls mid now block
    → AreFirstBegun index op (line ++ block) then new → AreAddressesBegun index op start old new
text_stopped {start = None} now block before pulls begun = tt
text_stopped {start = Some text} {mid = None} now block before pulls begun = absurd before.cut
text_stopped {start = Some text} {mid = Some x} None block before pulls begun = absurd pulls
text_stopped {start = Some text} {mid = Some x} {line = line} {old = old} {new = new} (Some y) block before pulls begun =
    let after = begun.cut y in
    begun_in (Some text) (before.texts ++ begun.texts) after.0 old new
    (append_assoc before.texts begun.texts after.0 ∙ ap (λ (z : List (List ℕ)). before.texts ++ z) after.1
    ∙ sym (before.cut ∙ ap (λ (z : List ℕ). before.texts ++ lines (line ++ z)) pulls
    ∙ ap (λ (z : List ℕ). before.texts ++ lines z) (sym (append_assoc line block y))))
    (begun_append before.printed begun.begun)

-- within the answer to a last line without a line feed
pub last_stopped : {index : Indexed} {op : ℕ} {start now : Option (List ℕ)} {line : List ℕ} {old then new : Option (List ℕ)} {s : Status}
    {ended : Bool} → IsTextTold index op start now line old then s → IsAtEnd now ended → ended ≡ false → 0 < length line
    → AreLinesBegun index op (line ∷ []) then new → AreAddressesBegun index op start old new
last_stopped {line = []} before at short some begun = absurd (omega arith)
last_stopped {start = start} {now = now} {line = b ∷ line} {old = old} {new = new} {ended = ended} before at short some begun =
    let texts = before.texts ++ (b ∷ line) ∷ [] in
    begun_in start texts [] old new
    (last_in start texts (before.texts ++ lines (b ∷ line)) (cut_ended start now before.texts (b ∷ line) ended before.cut at short)
    (ap (λ (z : List (List ℕ)). before.texts ++ z) (sym (line_last b line before.whole)))) (begun_append before.printed begun)
  where
    last_in : (start : Option (List ℕ)) (texts all : List (List ℕ)) → IfSome start (λ text. lines text ≡ all) → texts ≡ all
        → IfSome start (λ text. texts ++ [] ≡ lines text)
    last_in None texts all e same = tt
    last_in (Some text) texts all e same = append-nil texts ∙ same ∙ sym e
