-- Words that ask for nothing: no request fits them.
use Rattle.std.proofs.Common.{◌≡◌, ◌<◌, ℕ, zero, suc, arith, List, [], ◌∷◌, Option, Some, None, Result, codes, get_or, ap, length, subst}
use Rattle.std.proofs.Common.{sym, ◌≢◌, IfErr, Bor, Bool, IsTrue, IsSome}
use Rattle.clap.specs.Words.{HasKind, IsAmong, Kinds, Row, Text, first_of, kind_of}
use Rattle.clap.specs.declared.error.Error.{Error}
use Rattle.clap.specs.declared.error.kind.ErrorKind.TheVariants.{OutOfMemory}
use Rattle.lnt_text.specs.Digits.{IsAddress}
use Rattle.lnt_words.specs.declared.request.AddressSize.{AddressSize}
use Rattle.lnt_words.specs.declared.request.Request.{Request}
use Rattle.lnt_words.specs.Words.{AreAddresses, AreCheckWords, IsAskedIn, IsBase, IsFlagGiven, IsMarker, IsSize}
use Rattle.lnt_words.specs.Words.{IsWord}
use Rattle.lnt_words.proofs.WordLemmas.{texts_of}
use Rattle.std.proofs.lemmas.Grind.{common_steps}

-- what is true of each stop
pub err_all : {T E : Type 0} (ended : Result T E) (P : E → Type 0) → ((stop : E) → P stop) → IfErr ended P
err_all ended P so = grind (arith, common_steps)

-- an error that doesn't say that memory ran out has a kind that clap's rules allow
pub kind_among : (kinds : Kinds) (error : Error) → HasKind kinds error → (kind_of error ≢ OutOfMemory) → IsAmong (kind_of error) kinds
kind_among kinds error h other = grind (arith, common_steps)

-- ---- words that are no addresses

address_of_first : (word : Text) (words : List Text) (addresses : List ℕ) → AreAddresses (word ∷ words) addresses
    → (address : ℕ) × IsAddress word address
address_of_first word words addresses so = grind (arith, common_steps)

-- a word that is no address is none of words that spell addresses
pub no_addresses : (given : List (Bor Text)) (i : ℕ) (d : Bor Text) (addresses : List ℕ) → i < length given
    → ((address : ℕ) → IsAddress (get_or given i d).now address → ⊥) → AreAddresses (texts_of given) addresses → ⊥
no_addresses [] i d addresses lt bad so = absurd (omega arith)
no_addresses (word ∷ given) zero d addresses lt bad so =
    let one = address_of_first word.now (texts_of given) addresses so in bad one.0 one.1
no_addresses (word ∷ given) (suc i) d [] lt bad so = absurd so
no_addresses (word ∷ given) (suc i) d (address ∷ addresses) lt bad so = no_addresses given i d addresses (omega arith) bad so.1

two_words : (rows : List Row) (name first second : Text) → IsWord rows name first → IsWord rows name second → first ≡ second
two_words rows name first second is_first is_second = cc

-- a word that is no address tells no marker
pub no_marker : (rows : List Row) (word : Text) → first_of (codes "dead") rows ≡ Some word → ((address : ℕ) → IsAddress word address → ⊥)
    → (dead : Option ℕ) → IsMarker rows dead → ⊥
no_marker rows word is bad None so = cc
no_marker rows word is bad (Some address) so =
    bad address (subst (λ (w : Text). IsAddress w address) (two_words rows (codes "dead") so.0 word so.1 is) so.2)

-- ---- a word that is no size of addresses

-- the name of another subcommand
other_name : (name : Text) → codes "upgrade" ≡ name → get_or name 1 0 ≡ 112
other_name name e = ap (λ (n : Text). get_or n 1 0) (sym e)

pub no_size : (rows : List Row) → ((size : AddressSize) → IsSize rows size → ⊥) → (request : Request) → IsAskedIn (codes "upgrade") rows request → ⊥
no_size rows none request so = grind (arith, common_steps, other_name, codes)

-- ---- a word that is no base

other_letter : (name : Text) → codes "symbols" ≡ name → get_or name 1 0 ≡ 121
other_letter name e = ap (λ (n : Text). get_or n 1 0) (sym e)

pub no_base : (rows : List Row) → ((base : ℕ) → IsBase rows base → ⊥) → (request : Request) → IsAskedIn (codes "symbols") rows request → ⊥
no_base rows none request so = grind (arith, common_steps, other_letter, codes)

-- ---- flags and a percentage that don't fit together

-- a flag has one value
one_flag : (rows : List Row) (name : Text) (one other : Bool) → IsFlagGiven rows name one → IsFlagGiven rows name other → IsTrue one
    → IsTrue other
one_flag rows name one other h k set = k.1 (h.0 set)

-- ends are told of all positions alone
pub no_ends : (rows : List Row) (all ends : Bool) → IsFlagGiven rows (codes "all") all → IsFlagGiven rows (codes "ends") ends
    → IsTrue ends → (IsTrue all → ⊥) → (all' ends' partial : Bool) (at_least : ℕ) (any_copy : Bool)
    → AreCheckWords rows all' ends' partial at_least any_copy → ⊥
no_ends rows all ends is_all has_ends set unset all' ends' partial at_least any_copy so =
    unset (one_flag rows (codes "all") all' all so.is_all is_all
    (so.ends_of_all (one_flag rows (codes "ends") ends ends' has_ends so.has_ends set)))

-- and a percentage is one of a part
pub no_part : (rows : List Row) (partial : Bool) → IsFlagGiven rows (codes "partial") partial
    → IsSome (first_of (codes "at-least") rows) → (IsTrue partial → ⊥) → (all ends partial' : Bool) (at_least : ℕ) (any_copy : Bool)
    → AreCheckWords rows all ends partial' at_least any_copy → ⊥
no_part rows partial is_partial given unset all ends partial' at_least any_copy so =
    unset (one_flag rows (codes "partial") partial' partial so.is_partial is_partial (so.of_partial given))
