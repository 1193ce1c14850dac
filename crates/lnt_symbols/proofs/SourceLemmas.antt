-- The bytes of a file as they come from its source.
use Rattle.std.proofs.Common.{◌≡◌, ◌∙◌, ◌<◌, ℕ, List, [], ◌++◌, Option}
use Rattle.std.proofs.Common.{Some, None, IfSome, ap, append_assoc, arith, drop, length, refl, subst}
use Rattle.std.proofs.Common.{suc, zero, ◌⊎◌, inr, OnErr, sym, take, ◌+◌, ◌-◌, ◌≤◌}
use Rattle.std.proofs.lemmas.List.{append-nil, length-append, length-drop, take-append-drop}
use Rattle.std.proofs.lemmas.Option.{same_Some}
use Rattle.std.specs.Prelude.{Err, IfOk, IsErrOf, Ok, Result}
use Rattle.lnt_io.specs.Pulling.{Pulls}
use Rattle.lnt_io.specs.declared.stop.Stop.{Stop}
use Rattle.lnt_compare.specs.Passing.{Ends, Passes}
use Rattle.lnt_symbols.specs.BreakpadLines.{lines_of}
use Rattle.lnt_symbols.specs.declared.breakpad.file.Reader.{Reader}
use Rattle.lnt_symbols.specs.declared.breakpad.file.ReadingStop.{ReadingStop}
use Rattle.lnt_symbols.specs.declared.breakpad.file.ReadingStop.TheVariants.{Fault, Stop as Stopped}
use Rattle.lnt_symbols.specs.Stepping.{AreTaken, HasRead}
use Rattle.lnt_symbols.proofs.ReadingLemmas.{read_whole}

pub if_some : {X : Type 0} (o : Option X) (P : X → Type 0) → ((x : X) → o ≡ Some x → P x) → IfSome o P
if_some None P h = tt
if_some (Some x) P h = h x refl

-- a source whose bytes are known has known bytes left
pub known_left : (a b : Option (List ℕ)) (given more : List ℕ) → Pulls a b given → a ≡ Some more
    → (later : List ℕ) × (b ≡ Some later) × (more ≡ given ++ later)
known_left None b given more pulls e = cc e
known_left (Some old) None given more pulls e = absurd pulls
known_left (Some old) (Some later) given more pulls e = (later, refl, sym (same_Some old more e) ∙ pulls)

-- those of the file are those that were passed, those in the window, and those to come
pub bytes_are : (a b : Option (List ℕ)) (la lb : ℕ) (w0 w1 passed : List ℕ) → Passes a b la lb w0 w1 passed → (more : List ℕ)
    → a ≡ Some more → (later : List ℕ) → b ≡ Some later → w0 ++ more ≡ passed ++ (w1 ++ later)
bytes_are a b la lb w0 w1 passed p more e later f =
    let left = known_left a b p.given more p.pulls e in
    let same : left.0 ≡ later = same_Some left.0 later (sym left.1 ∙ f) in
    ap (λ t. w0 ++ t) (left.2 ∙ ap (λ t. p.given ++ t) same) ∙ sym (append_assoc w0 p.given later) ∙ ap (λ t. t ++ later) p.joined
    ∙ append_assoc passed w1 later

-- all that is left
pub rest_is : (a : Option (List ℕ)) (la : ℕ) (window all later : List ℕ) → Ends a la ([] ++ window) all → a ≡ Some later
    → all ≡ window ++ later
rest_is a la window all later ends e =
    let given : ends.given ≡ later = subst (λ (o : Option (List ℕ)). IfSome o (λ bytes. ends.given ≡ bytes)) e ends.whole in
    ends.joined ∙ ap (λ t. window ++ t) given

-- lines to which nothing is added
pub with_none : (whole bytes : List ℕ) (reader : Reader) → HasRead whole reader (lines_of bytes)
    → HasRead whole reader (lines_of (bytes ++ []))
with_none whole bytes reader h = subst (λ (t : List ℕ). HasRead whole reader (lines_of t)) (sym (append-nil bytes)) h

-- all lines were read
pub taken_all : (base : ℕ) (whole : List ℕ) (reader : Reader) → reader.base ≡ base → 0 < reader.number → HasRead whole reader []
    → AreTaken base whole reader.reading
taken_all base whole reader same some h =
    subst (λ (b : ℕ). AreTaken b whole reader.reading) same (read_whole whole reader some h)

-- what was read up to some bytes of the window, when more were taken into it
pub filled : (a b : Option (List ℕ)) (la lb k : ℕ) (w w2 w3 : List ℕ) → w2 ≡ drop k w → Passes a b la lb w2 w3 [] → (whole : List ℕ)
    (reader : Reader) (mid later : List ℕ) → a ≡ Some mid → b ≡ Some later → HasRead whole reader (lines_of (drop k w ++ mid))
    → HasRead whole reader (lines_of (w3 ++ later))
filled a b la lb k w w2 w3 passed p whole reader mid later e f h =
    subst (λ (t : List ℕ). HasRead whole reader (lines_of t))
    (ap (λ t. t ++ mid) (sym passed) ∙ bytes_are a b la lb w2 w3 [] p mid e later f) h

-- the bytes in front of those that are kept
pub split_at : (k : ℕ) (w w2 : List ℕ) → w2 ≡ drop k w → w ≡ take k w ++ w2
split_at k w w2 passed = sym (take-append-drop k w) ∙ ap (λ t. take k w ++ t) (sym passed)

-- if the window is longer than what was left in it, the source gave bytes
pub gave : (a b : Option (List ℕ)) (la lb k left : ℕ) (w w2 w3 : List ℕ) → k ≡ length w - left → left ≤ length w → w2 ≡ drop k w
    → Passes a b la lb w2 w3 [] → (length w3 ≡ left → ⊥) → lb < la
gave a b la lb k left w w2 w3 is upto passed p other =
    let short : length w2 ≡ length w - k = ap length passed ∙ length-drop k w in
    let long : length w2 + length p.given ≡ length w3 = sym (length-append w2 p.given) ∙ ap length p.joined in
    let some : 0 < length p.given = by_length (length p.given) refl in
    omega (arith, some, p.count)
  where
    by_length : (n : ℕ) → length p.given ≡ n → 0 < length p.given
    by_length zero e =
        let short : length w2 ≡ length w - k = ap length passed ∙ length-drop k w in
        let long : length w2 + length p.given ≡ length w3 = sym (length-append w2 p.given) ∙ ap length p.joined in
        absurd (other (omega (arith, short, long, e, is, upto)))
    by_length (suc n) e = omega (arith, e)

-- the stop of a source, if it is one
abbrev stop_in : {A : Type 0} → Stop → Result A ReadingStop → Stop
stop_in other (Ok value) = other
stop_in other (Err (Fault fault)) = other
stop_in other (Err (Stopped stop)) = stop

pub same_stop : {A : Type 0} (a b : Stop) → IsErrOf {T = A} (Err (Stopped a)) (Stopped b) → a ≡ b
same_stop a b e = ap (stop_in a) e

pub ok_if_some : {T E X : Type 0} (result : Result T E) (o : Option X) (P : T → X → Type 0)
    → ((x : X) → o ≡ Some x → IfOk result (λ value. P value x)) → IfOk result (λ value. IfSome o (P value))
ok_if_some (Err stop) o P h = tt
ok_if_some (Ok value) o P h = if_some o (P value) h

pub err_if_some : {T E X : Type 0} (result : Result T E) (o : Option X) (Kept : Type 0) (P : X → Type 0)
    → ((x : X) → o ≡ Some x → OnErr result (Kept ⊎ P x)) → OnErr result (Kept ⊎ IfSome o P)
err_if_some (Ok value) o Kept P h = tt
err_if_some (Err stop) None Kept P h = inr tt
err_if_some (Err stop) (Some x) Kept P h = h x refl
