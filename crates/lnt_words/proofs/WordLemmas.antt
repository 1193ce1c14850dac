-- clap's matches of the words, in terms of their rows.
use Rattle.std.proofs.Common.{◌≡◌, ◌⊎◌, ◌++◌, ◌∷◌, [], ℕ, List, Option, Some, map, option_map, refl, true, arith, Bor}
use Rattle.std.proofs.Common.{◌==◌, false, get_or, length, subst, sym}
use Rattle.std.proofs.lemmas.Bool.{false≢true}
use Rattle.clap.proofs.OnLiterals.{clap_on_literals}
use Rattle.clap.specs.Words.{HasKind, IsAmong, Kinds, Row, Text, is_simple, is_simple_and_free, kind_of}
use Rattle.clap.specs.Words.{subcommand_name_of, subcommand_rows_of}
use Rattle.clap.specs.declared.error.Error.{Error}
use Rattle.clap.specs.declared.error.kind.ErrorKind.TheVariants as kind
use Rattle.clap.specs.declared.parser.matches.ArgMatches.{ArgMatches}
use Rattle.clap.specs.declared.parser.matches.ArgMatches.TheViews.{out-ArgMatches}
use Rattle.lnt_text.specs.Digits.{IsAddress}
use Rattle.lnt_words.specs.Words.{AreAddresses, IsAskedOf, IsNoYes, Asked, linetab}
use Rattle.lnt_words.specs.Described.{IsAskedOfMatches}
use Rattle.std.proofs.lemmas.Grind.{common_steps}

-- for this command clap's matches and the kinds of its errors are known for all words
pub linetab_is_simple : is_simple linetab ≡ true
unfolding linetab clap_on_literals
linetab_is_simple = refl

pub linetab_is_free : is_simple_and_free linetab ≡ true
unfolding linetab clap_on_literals
linetab_is_free = refl

paired : {X A B : Type 0} (f : X → A) (g : X → B) (found : Option X) (a : A) (b : B) → Some a ≡ option_map f found
    → Some b ≡ option_map (λ (p : A × B). p.1) (option_map {U = A × B} (λ x. (f x, g x)) found)
    → option_map {U = A × B} (λ x. (f x, g x)) found ≡ Some (a, b)
paired f g found a b is_a is_b = grind (arith, common_steps)

-- the subcommand that was found, from its name and its rows
pub found_pair : (matches : ArgMatches) (name : Text) (rows : List Row) → Some name ≡ subcommand_name_of matches
    → Some rows ≡ option_map (λ (named : Text × List Row). named.1) (subcommand_rows_of matches)
    → subcommand_rows_of matches ≡ Some (name, rows)
found_pair matches name rows is_name is_rows = paired _ _ (out-ArgMatches matches).subcommand name rows is_name is_rows

pub by_rows : (matches : ArgMatches) (asked : Asked) → IsAskedOfMatches matches asked → IsAskedOf (subcommand_rows_of matches) asked
by_rows matches asked so = grind (arith, common_steps, found_pair)

-- ---- texts that don't begin with the letter y

pub no_first : (bytes : List ℕ) → length bytes ≡ 0 → IsNoYes bytes
no_first [] empty = tt
no_first (byte ∷ bytes) empty = absurd (omega arith)

pub other_first : (bytes : List ℕ) → (get_or bytes 0 0 == 121) ≡ false → IsNoYes bytes
other_first [] other = tt
other_first (byte ∷ bytes) other = λ is. false≢true (sym (subst (λ (b : ℕ). (b == 121) ≡ false) is other))

-- ---- addresses

pub addresses_more : (words : List Text) (addresses : List ℕ) (word : Text) (address : ℕ) → AreAddresses words addresses
    → IsAddress word address → AreAddresses (words ++ word ∷ []) (addresses ++ address ∷ [])
addresses_more [] [] word address so is = (is, tt)
addresses_more [] (a ∷ addresses) word address so is = absurd so
addresses_more (w ∷ words) [] word address so is = absurd so
addresses_more (w ∷ words) (a ∷ addresses) word address so is = (so.0, addresses_more words addresses word address so.1 is)

abbrev pub texts_of : List (Bor Text) → List Text
texts_of = map (λ word. word.now)

-- ---- help

-- an error whose kind is help or the version has a kind that clap's rules allow
pub help_among : (kinds : Kinds) (error : Error) → HasKind kinds error
    → (kind_of error ≡ kind.DisplayHelp) ⊎ (kind_of error ≡ kind.DisplayVersion)
    → IsAmong kind.DisplayHelp kinds ⊎ IsAmong kind.DisplayVersion kinds
help_among kinds error h k = grind (arith, common_steps)
