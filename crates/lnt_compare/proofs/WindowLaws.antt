-- The bytes of a table are taken from a source and passed.
use Rattle.std.proofs.Common.{◌≡◌, ◌∙◌, ℕ, ◌+◌, List, [], ◌++◌, Option, IfSome, append-nil, append_assoc, drop, length, length-append, ap}
use Rattle.std.proofs.Common.{sym, arith, drop-drop}
use Rattle.lnt_io.specs.Pulling.{GivesMore, HasMoreThan}
use Rattle.lnt_io.proofs.PullLaws.{more_from_start, pulls_all, pulls_append, pulls_none}
use Rattle.lnt_compare.specs.Passing.{Ends, Passes}

pub passes_none : (a : Option (List ℕ)) (l : ℕ) (window : List ℕ) → Passes a a l l window window []
passes_none a l window = record { given = []; joined = append-nil window; pulls = pulls_none a; count = omega arith }

-- bytes passed in two steps
pub passes_both : (a b c : Option (List ℕ)) (la lb lc : ℕ) (w0 w1 w2 one two : List ℕ) → Passes a b la lb w0 w1 one
    → Passes b c lb lc w1 w2 two → Passes a c la lc w0 w2 (one ++ two)
passes_both a b c la lb lc w0 w1 w2 one two p q = record {
  given = p.given ++ q.given;
  joined =
      sym (append_assoc w0 p.given q.given) ∙ ap (λ (t : List ℕ). t ++ q.given) p.joined ∙ append_assoc one w1 q.given
      ∙ ap (λ (t : List ℕ). one ++ t) q.joined ∙ sym (append_assoc one two w2);
  pulls = pulls_append a b c p.given q.given p.pulls q.pulls;
  count = omega (arith, p.count, q.count, length-append p.given q.given);
}

-- one more block was taken
pub passes_block : (a b c : Option (List ℕ)) (la lb lc : ℕ) (w0 w1 w2 : List ℕ) (k : ℕ) → Passes a b la lb w0 w1 [] → GivesMore b c w1 w2 k
    → lc + k ≡ lb → Passes a c la lc w0 w2 []
passes_block a b c la lb lc w0 w1 w2 k p more count =
    passes_both a b c la lb lc w0 w1 w2 [] [] p (record
    { given = more.given; joined = sym more.joined; pulls = more.pulls; count = omega (arith, count, more.count) })

-- one more line was passed
pub passes_line : (a b : Option (List ℕ)) (la lb : ℕ) (w0 w1 w2 text line : List ℕ) → Passes a b la lb w0 w1 text → w1 ≡ line ++ w2
    → Passes a b la lb w0 w2 (text ++ line)
passes_line a b la lb w0 w1 w2 text line p e = record {
  given = p.given;
  joined = p.joined ∙ ap (λ (t : List ℕ). text ++ t) e ∙ sym (append_assoc text line w2);
  pulls = p.pulls;
  count = p.count;
}

pub passes_all : (a b : Option (List ℕ)) (la lb : ℕ) (w0 w1 : List ℕ) → Passes a b la lb w0 w1 [] → IfSome b (λ bytes. bytes ≡ [])
    → Ends a la w0 w1
passes_all a b la lb w0 w1 p none = record {
  given = p.given;
  joined = sym p.joined;
  whole = pulls_all a b p.given p.pulls none;
}

-- a source that now has more bytes than it may give had more from the start
pub longer_from_start : (a b : Option (List ℕ)) (la lb : ℕ) (w0 w1 text : List ℕ) → Passes a b la lb w0 w1 text → HasMoreThan b lb
    → HasMoreThan a la
longer_from_start a b la lb w0 w1 text p more = more_from_start a b p.given la lb p.pulls p.count more

-- the bytes after a text that is at an index
pub text_passed : (block text window : List ℕ) (at : ℕ) → window ≡ drop at block → window ≡ text ++ drop (length text) window
    → window ≡ text ++ drop (at + length text) block
text_passed block text window at e f =
    f ∙ ap (λ (t : List ℕ). text ++ drop (length text) t) e ∙ ap (λ (t : List ℕ). text ++ t) (drop-drop (length text) at block)

-- The lemmas of `read_rest`.
pub ruleset read_rest_lemmas = (passes_none, passes_block, passes_all, longer_from_start)
