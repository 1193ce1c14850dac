-- The rules that descriptions of arguments and subcommands stand for, in clap's terms, and the requests that matches make. No
-- public contract speaks of this.
use Rattle.std.specs.Prelude.{◌≡◌, IfErr, IfOk, List, Result, Some, codes, false, fold, option_map}
use Rattle.clap.specs.Words.{App, Row, Rule, Text, app_of, new_app, new_rule, rule_of, with_rule, with_subcommand}
use Rattle.clap.specs.Words.{found_of, rows_of, subcommand_name_of, subcommand_rows_of}
use Rattle.clap.specs.declared.builder.arg.Arg.{Arg}
use Rattle.clap.specs.declared.builder.command.Command.{Command}
use Rattle.clap.specs.declared.builder.command.Command.TheViews.{out-Command as fields_of}
use Rattle.clap.specs.declared.parser.matches.ArgMatches.{ArgMatches}
use Rattle.lnt_words.specs.Words.{IsAskedIn, IsFlagGiven, Asked, flag, option, required, several, word}
use Rattle.lnt_words.specs.declared.description.ArgumentRule.{ArgumentRule}
use Rattle.lnt_words.specs.declared.description.Kind.{Kind}
use Rattle.lnt_words.specs.declared.description.Kind.TheVariants.{Word, WordsUnless, Flag, FlagWithout, FlagWithoutBoth, FlagWith, Valued}
use Rattle.lnt_words.specs.declared.description.Kind.TheVariants.{ValuedWith, Required}
use Rattle.lnt_words.specs.declared.description.Subcommand.{Subcommand}
use Rattle.lnt_words.specs.declared.stop.WordsStop.{WordsStop}

-- The argument has this rule, and isn't global: subcommands don't inherit it.
pub record IsArgument (rule : Rule) (argument : Arg) : Type 0 where
  pub rule_is : rule_of argument ≡ rule
  pub local : argument.global ≡ false

-- The command is this one, and none of its arguments is global.
pub record IsCommand (app : App) (command : Command) : Type 0 where
  pub app_is : app_of command ≡ app
  pub local : (fields_of command).has_globals ≡ false

-- Which arguments exclude or require one another isn't part of a rule.
abbrev pub rule_of_kind : Text → Kind → Rule
rule_of_kind name Word = word name
rule_of_kind name (WordsUnless other) = several (new_rule name)
rule_of_kind name Flag = flag name
rule_of_kind name (FlagWithout other) = flag name
rule_of_kind name (FlagWithoutBoth one other) = flag name
rule_of_kind name (FlagWith other) = flag name
rule_of_kind name (Valued value) = option name
rule_of_kind name (ValuedWith value other) = option name
rule_of_kind name (Required value) = required (option name)

abbrev pub rule_in : ArgumentRule → Rule
rule_in argument = rule_of_kind argument.name.now argument.kind

abbrev pub with_argument_in : App → ArgumentRule → App
with_argument_in app argument = with_rule app (rule_in argument)

abbrev pub app_in : Subcommand → App
app_in subcommand = fold with_argument_in (fold with_argument_in (new_app subcommand.name.now) subcommand.own.now) subcommand.shared.now

abbrev pub with_subcommand_in : App → Subcommand → App
with_subcommand_in app subcommand = with_subcommand app (app_in subcommand).top

-- the rows that clap found
abbrev pub rows_in : ArgMatches → List Row
rows_in matches = rows_of (found_of matches)

-- What the words ask for was found, or they ask for nothing.
pub record IsFound {T : Type 0} (IsAsked : T → Type 0) (found : Result T WordsStop) : Type 0 where
  pub asked : IfOk found IsAsked
  pub refused : IfErr found (λ stop. (value : T) → IsAsked value → ⊥)

-- The subcommand that clap found, and its matches, ask for this request.
pub record IsAskedOfMatches (matches : ArgMatches) (asked : Asked) : Type 0 where
  pub name : Text
  pub words : ArgMatches
  pub name_is : Some name ≡ subcommand_name_of matches
  pub words_are : Some (rows_in words) ≡ option_map (λ named. named.1) (subcommand_rows_of matches)
  pub request : IsAskedIn name (rows_in words) asked.request
  pub quiet : IsFlagGiven (rows_in words) (codes "quiet") asked.quiet
