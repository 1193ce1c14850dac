-- The words that the command takes, and the requests that they make. Its subcommands, and the arguments of each, are in clap's terms,
-- as README.md lists them. Help texts aren't part of them, nor which arguments exclude one another: each request says what isn't given.
-- clap's result is a function of the words and of the command (`linetab`): the subcommand's name, and a row for each of its arguments,
-- with the values that it was given or has by default.
use Rattle.std.specs.Prelude.{◌≡◌, ◌≢◌, ◌↔◌, ◌⊎◌, ◌∷◌, ◌++◌, Bool, IsTrue, true, false, ℕ, map, List, []}
use Rattle.std.specs.Prelude.{Option, Some, None, codes, IsSome, IsSomeAnd, MatchOption, option_copied, string_bytes}
use Rattle.std.specs.List.{AllZip}
use Rattle.clap.specs.Words.{IsAmong, Row, Text, all_of, fault_of, first_of, subcommand_of, App, Rule, Shape, new_rule}
use Rattle.clap.specs.declared.error.kind.ErrorKind.{ErrorKind}
use Rattle.clap.specs.declared.error.kind.ErrorKind.TheVariants.{DisplayHelp, DisplayVersion}
use Rattle.lnt_text.specs.Digits.{IsAddress, IsDecimal, IsPercentage}
use Rattle.lnt_spans.specs.declared.answer.Version.TheVariants.{One, Two}
use Rattle.lnt_spans.specs.declared.position.Position.{Position}
use Rattle.lnt_wire.specs.declared.format.Format.{Format}
use Rattle.lnt_wire.specs.declared.format.Format.TheVariants.{D32, D64}
use Rattle.lnt_wire.specs.declared.format.Order.{Order}
use Rattle.lnt_wire.specs.declared.format.Order.TheVariants.{Little, Big}
use Rattle.lnt_words.specs.declared.request.AddressSize.{AddressSize}
use Rattle.lnt_words.specs.declared.request.AddressSize.TheVariants as sizes
pub use Rattle.lnt_words.specs.declared.request.Asked.{Asked}
use Rattle.lnt_words.specs.declared.request.FileQuestion.TheVariants.{Lines, Check}
use Rattle.lnt_words.specs.declared.request.Judging.{Judging}
use Rattle.lnt_words.specs.declared.request.Question.{Question}
use Rattle.lnt_words.specs.declared.request.Question.TheVariants.{Verify, Lookup, Files, Table, TableByPath, Md5}
use Rattle.lnt_words.specs.declared.request.Reading.{Reading}
use Rattle.lnt_words.specs.declared.request.Reading.TheVariants.{Units, Dump, Convert}
use Rattle.lnt_words.specs.declared.request.Request.{Request}
use Rattle.lnt_words.specs.declared.request.Request.TheVariants.{Help, Read, Upgrade, Symbols, Judge, JudgeWith}
use Rattle.clap.specs.Lexer.{usize_max}
use Rattle.clap.specs.Simple.{new_shape}
use Rattle.clap.specs.declared.builder.action.ArgAction.TheVariants.{Set, Append, SetTrue}

-- ---- sizes of addresses

-- how many bytes an address has
abbrev pub size_bytes : AddressSize → ℕ
size_bytes sizes.Two = 2
size_bytes sizes.Four = 4
size_bytes sizes.Eight = 8

-- ---- the words that an argument takes

-- The argument is required.
abbrev pub required : Rule → Rule
required rule = record rule { required = true }

-- a required word
abbrev pub word : Text → Rule
word name = record (new_rule name) { required = true; action = Some Set }

-- the flag --name
abbrev pub flag : Text → Rule
flag name = record (new_rule name) { long = Some name; action = Some SetTrue }

-- the option --name VALUE
abbrev pub option : Text → Rule
option name = record (new_rule name) { long = Some name; action = Some Set; value_names = 1 }

-- the argument takes one or more words each time that it is given
abbrev pub several : Rule → Rule
several rule = record rule { action = Some Append; range = Some (record { start_inclusive = 1; end_inclusive = usize_max }) }

-- ---- the subcommands

-- the arguments of a subcommand that reads a section
abbrev pub reading : List Rule
reading = flag (codes "big") ∷ flag (codes "quiet") ∷ []

-- the arguments of a subcommand that judges a section
abbrev pub judging : List Rule
judging = reading ++ option (codes "line-str") ∷ option (codes "str") ∷ option (codes "dead") ∷ flag (codes "skip-copies") ∷ []

abbrev pub subcommand : Text → List Rule → Shape
subcommand name rules = record (new_shape name) { rules = word (codes "SECTION") ∷ rules }

-- the subcommand that reads a symbol file
abbrev pub symbols : Shape
symbols = record (new_shape (codes "symbols")) { rules = word (codes "FILE") ∷ option (codes "base") ∷ flag (codes "quiet") ∷ [] }

abbrev pub subcommands : List Shape
subcommands =
    subcommand (codes "units") reading
    ∷ subcommand (codes "dump") (flag (codes "ops") ∷ flag (codes "rows") ∷ reading)
    ∷ subcommand (codes "check") (word (codes "TABLE") ∷ flag (codes "all") ∷ flag (codes "ends") ∷ flag (codes "partial")
    ∷ option (codes "at-least") ∷ flag (codes "any-copy") ∷ judging)
    ∷ subcommand (codes "verify") judging
    ∷ subcommand (codes "lookup") (several (new_rule (codes "ADDRESS")) ∷ option (codes "addresses") ∷ option (codes "op") ∷ judging)
    ∷ subcommand (codes "files") judging
    ∷ subcommand (codes "table") (flag (codes "wide") ∷ flag (codes "paths") ∷ flag (codes "lines") ∷ judging)
    ∷ subcommand (codes "convert") (required (option (codes "format")) ∷ required (option (codes "order")) ∷ reading)
    ∷ subcommand (codes "upgrade") (required (option (codes "address-size")) ∷ option (codes "directories") ∷ reading)
    ∷ symbols
    ∷ subcommand (codes "md5") judging
    ∷ []

-- the command: it requires a subcommand, and has --version
unfoldable pub linetab : App
linetab = record {
  top = record (new_shape (codes "linetab")) { is_leaf = false; has_version = true; subcommand_required = true };
  subs = subcommands;
}

-- ---- what the words ask for

-- This is the word that was given for the argument.
abbrev pub IsWord : List Row → Text → Text → Type 0
IsWord rows name word = first_of name rows ≡ Some word

-- The flag is set exactly if clap's value for it is "true".
abbrev pub IsFlagGiven : List Row → Text → Bool → Type 0
IsFlagGiven rows name is_set = IsTrue is_set ↔ (first_of name rows ≡ Some (codes "true"))

-- Numbers are big-endian if the flag --big is set, and otherwise little-endian.
abbrev pub IsOrder : List Row → Order → Type 0
IsOrder rows Big = IsFlagGiven rows (codes "big") true
IsOrder rows Little = IsFlagGiven rows (codes "big") false

-- The address of dead code is that in the word of --dead; there is none if no such word was given.
abbrev pub IsMarker : List Row → Option ℕ → Type 0
IsMarker rows None = first_of (codes "dead") rows ≡ None
IsMarker rows (Some address) = (word : Text) × IsWord rows (codes "dead") word × IsAddress word address

-- The files and options for judging a section are those that the words give.
pub record IsJudging (rows : List Row) (from : Judging) : Type 0 where
  pub section : IsWord rows (codes "SECTION") from.section.now
  pub line_strings : option_copied from.line_strings ≡ first_of (codes "line-str") rows
  pub strings : option_copied from.strings ≡ first_of (codes "str") rows
  pub order : IsOrder rows from.order
  pub dead : IsMarker rows from.dead
  pub copies : IsFlagGiven rows (codes "skip-copies") from.skip_copies

-- the format that a conversion writes: 32-bit or 64-bit DWARF
abbrev pub IsWrittenFormat : List Row → Format → Type 0
IsWrittenFormat rows D32 = IsWord rows (codes "format") (codes "32")
IsWrittenFormat rows D64 = IsWord rows (codes "format") (codes "64")

abbrev pub IsWrittenOrder : List Row → Order → Type 0
IsWrittenOrder rows Little = IsWord rows (codes "order") (codes "little")
IsWrittenOrder rows Big = IsWord rows (codes "order") (codes "big")

-- the size of addresses in units that don't say it
abbrev pub IsSize : List Row → AddressSize → Type 0
IsSize rows sizes.Two = IsWord rows (codes "address-size") (codes "2")
IsSize rows sizes.Four = IsWord rows (codes "address-size") (codes "4")
IsSize rows sizes.Eight = IsWord rows (codes "address-size") (codes "8")

-- the address that --base gives, or 0
abbrev pub IsBase : List Row → ℕ → Type 0
IsBase rows base = MatchOption (first_of (codes "base") rows) (base ≡ 0) (λ word. IsAddress word base)

-- the reading of a section that the subcommand of this name asks for
abbrev pub IsReading : Text → List Row → Reading → Type 0
IsReading name rows Units = name ≡ codes "units"
IsReading name rows (Dump ops shown) = (name ≡ codes "dump") × IsFlagGiven rows (codes "ops") ops × IsFlagGiven rows (codes "rows") shown
IsReading name rows (Convert format to) = (name ≡ codes "convert") × IsWrittenFormat rows format × IsWrittenOrder rows to

-- which of the flags that choose a table are given
pub record AreTableFlags (rows : List Row) (wide paths lines : Bool) : Type 0 where
  pub is_wide : IsFlagGiven rows (codes "wide") wide
  pub has_paths : IsFlagGiven rows (codes "paths") paths
  pub has_lines : IsFlagGiven rows (codes "lines") lines

-- These words are texts of these addresses, in their order.
abbrev pub AreAddresses : List Text → List ℕ → Type 0
AreAddresses = AllZip IsAddress

-- these addresses are given as words
abbrev pub AreAddressesIn : List Row → List ℕ → Type 0
AreAddressesIn rows addresses = IsSomeAnd (all_of (codes "ADDRESS") rows) (λ words. AreAddresses words addresses)

-- the operation index that --op gives, or 0
abbrev pub IsOp : List Row → ℕ → Type 0
IsOp rows op = MatchOption (first_of (codes "op") rows) (op ≡ 0) (λ word. IsDecimal word op)

abbrev pub position_at : ℕ → ℕ → Position
position_at op address = record { address = address; op = op }

-- the positions at the addresses that are given, in their order, each with the operation index that is given
pub record ArePositionsIn (rows : List Row) (positions : List Position) : Type 0 where
  pub addresses : List ℕ
  pub op : ℕ
  pub are_addresses : AreAddressesIn rows addresses
  pub is_op : IsOp rows op
  pub same : positions ≡ map (position_at op) addresses

-- the percentage in a word, or 0 without one
abbrev pub IsPercentageIn : Option Text → ℕ → Type 0
IsPercentageIn None percentage = percentage ≡ 0
IsPercentageIn (Some word) percentage = IsPercentage word percentage

-- How a table is checked: ends are those of all positions, and a percentage is that of the positions at which the table answers.
pub record AreCheckWords (rows : List Row) (all ends partial : Bool) (at_least : ℕ) (any_copy : Bool) : Type 0 where
  pub is_all : IsFlagGiven rows (codes "all") all
  pub has_ends : IsFlagGiven rows (codes "ends") ends
  pub ends_of_all : IsTrue ends → IsTrue all
  pub is_partial : IsFlagGiven rows (codes "partial") partial
  pub percentage : IsPercentageIn (first_of (codes "at-least") rows) at_least
  pub of_partial : IsSome (first_of (codes "at-least") rows) → IsTrue partial
  pub is_any_copy : IsFlagGiven rows (codes "any-copy") any_copy

-- The question about a good section that the subcommand of this name asks.
abbrev pub IsQuestion : Text → List Row → Question → Type 0
IsQuestion name rows Verify = name ≡ codes "verify"
IsQuestion name rows (Lookup positions) = (name ≡ codes "lookup") × (first_of (codes "addresses") rows ≡ None)
    × ArePositionsIn rows positions.items
IsQuestion name rows Files = name ≡ codes "files"
IsQuestion name rows (Table One) = (name ≡ codes "table") × AreTableFlags rows false false false
IsQuestion name rows (Table Two) = (name ≡ codes "table") × AreTableFlags rows true false false
IsQuestion name rows (TableByPath true) = (name ≡ codes "table") × AreTableFlags rows false true false
IsQuestion name rows (TableByPath false) = (name ≡ codes "table") × AreTableFlags rows false false true
IsQuestion name rows Md5 = name ≡ codes "md5"

-- The subcommand of this name asks for this request.
abbrev pub IsAskedIn : Text → List Row → Request → Type 0
IsAskedIn name rows (Help text) = ⊥
IsAskedIn name rows (Read section order reading) =
    IsWord rows (codes "SECTION") section.now × IsOrder rows order × IsReading name rows reading
IsAskedIn name rows (Upgrade from) =
    (name ≡ codes "upgrade") × IsWord rows (codes "SECTION") from.section.now × IsOrder rows from.order × IsSize rows from.address_size
    × (option_copied from.directories ≡ first_of (codes "directories") rows)
IsAskedIn name rows (Symbols file base) = (name ≡ codes "symbols") × IsWord rows (codes "FILE") file.now × IsBase rows base
IsAskedIn name rows (Judge from question) = IsJudging rows from × IsQuestion name rows question
IsAskedIn name rows (JudgeWith from file (Lines op)) =
    (name ≡ codes "lookup") × IsJudging rows from × IsWord rows (codes "addresses") file.now
    × (all_of (codes "ADDRESS") rows ≡ None) × IsOp rows op
IsAskedIn name rows (JudgeWith from file (Check all ends partial at_least any_copy)) =
    (name ≡ codes "check") × IsJudging rows from × IsWord rows (codes "TABLE") file.now
    × AreCheckWords rows all ends partial at_least any_copy

-- The subcommand that clap found, with its rows, asks for this request.
pub record IsAskedOf (found : Option (Text × List Row)) (asked : Asked) : Type 0 where
  pub name : Text
  pub rows : List Row
  pub found_is : found ≡ Some (name, rows)
  pub request : IsAskedIn name rows asked.request
  pub quiet : IsFlagGiven rows (codes "quiet") asked.quiet

-- the text doesn't begin with the letter y, with which `yes` begins
abbrev pub IsNoYes : Text → Type 0
IsNoYes [] = Unit {0}
IsNoYes (byte ∷ bytes) = byte ≢ 121

-- A text of help, or of the version. It isn't the answer `yes`, nor does it begin so.
abbrev pub IsHelp : Request → Type 0
IsHelp (Help text) = IsNoYes (string_bytes text)
IsHelp _ = ⊥

-- These words ask for help or for the version, by clap's rules. Of its text no more is said than that it doesn't begin with `yes`.
abbrev pub AskForHelp : List Text → Type 0
AskForHelp words = IsAmong DisplayHelp (fault_of linetab words) ⊎ IsAmong DisplayVersion (fault_of linetab words)

-- These words ask for this request. The first word is the program's own name. If clap accepts all of them, the request is
-- that of the subcommand that they name.
abbrev pub IsAskedBy : List Text → Asked → Type 0
IsAskedBy words asked = (AskForHelp words × IsHelp asked.request)
    ⊎ ((fault_of linetab words ≡ []) × IsAskedOf (subcommand_of linetab words) asked)

-- These words ask for nothing that the command does: by clap's rules they are refused, and not for help or the version; or they
-- name a subcommand, and it asks for no request.
abbrev pub AskForNothing : List Text → Type 0
AskForNothing words =
    ((kind : ErrorKind) × IsAmong kind (fault_of linetab words) × (kind ≢ DisplayHelp) × (kind ≢ DisplayVersion))
    ⊎ ((fault_of linetab words ≡ []) × ((asked : Asked) → IsAskedOf (subcommand_of linetab words) asked → ⊥))
