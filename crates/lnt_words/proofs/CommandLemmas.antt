-- The rules of arguments and commands after a step of clap's builders.
use Rattle.std.proofs.Common.{◌≡◌, ◌<◌, ◌≤◌, ◌+◌, [], ℕ, List, Option, Some, ap₂, codes, false, fold, get_or, length, subst, sym, take}
use Rattle.std.proofs.Common.{true, arith, take_all, IsSomeAnd, Bor}
use Rattle.std.proofs.lemmas.List.Sums.{fold_more}
use Rattle.clap.specs.Lexer.{usize_max}
use Rattle.clap.specs.Simple.{new_shape}
use Rattle.clap.specs.Words.{AddsArg, AddsSubcommand, App, Rule, app_of, new_app, with_rule, with_subcommand}
use Rattle.clap.specs.declared.builder.action.ArgAction.TheVariants.{Append}
use Rattle.clap.specs.declared.builder.arg.Arg.{Arg}
use Rattle.clap.specs.declared.builder.command.Command.{Command}
use Rattle.clap.specs.declared.builder.command.Command.TheViews.{out-Command as fields_of}
use Rattle.clap.specs.declared.builder.range.ValueRange.{ValueRange}
use Rattle.lnt_words.specs.Described.{IsArgument, IsCommand}
use Rattle.lnt_words.specs.Words.{several}
use Rattle.std.proofs.lemmas.Grind.{common_steps}

several_range : (range : Option ValueRange) (wanted : ValueRange) → IsSomeAnd range (λ r. r ≡ wanted) → range ≡ Some wanted
several_range range wanted is = grind (arith, common_steps)

-- An argument that takes one word or more.
pub several_taken : (rule : Rule) (old ranged new : Arg) → IsArgument rule old → ranged ≡ record old { num_vals = ranged.num_vals }
    → IsSomeAnd ranged.num_vals (λ r. r ≡ record { start_inclusive = 1; end_inclusive = usize_max })
    → new ≡ record ranged { action = Some Append } → IsArgument (several rule) new
several_taken rule old ranged new is range_alone range action = grind (arith, common_steps, several_range)

-- A command with one more argument.
pub argument_added : (app : App) (rule : Rule) (old new : Command) (argument : Arg) → IsCommand app old → IsArgument rule argument
    → AddsArg old argument new → IsCommand (with_rule app rule) new
argument_added app rule old new argument is of adds = grind (arith, common_steps, ap₂)

-- A command with one more subcommand.
pub subcommand_added : (app sub : App) (old new below : Command) → IsCommand app old → IsCommand sub below
    → AddsSubcommand old below new → IsCommand (with_subcommand app sub.top) new
subcommand_added app sub old new below is of adds = grind (arith, common_steps, ap₂)

-- ---- loops

module _ {X : Type 0} (f : App → X → App) (app : App) (xs : List X) where
  pub one_more : (i : ℕ) (x : X) (made : Command) → i < length xs → IsCommand (f (fold f app (take i xs)) (get_or xs i x)) made
      → IsCommand (fold f app (take (i + 1) xs)) made
  one_more i x made lt is = subst (λ (whole : App). IsCommand whole made) (sym (fold_more f app xs i x lt)) is

  pub all_done : (i : ℕ) (made : Command) → length xs ≤ i → IsCommand (fold f app (take i xs)) made → IsCommand (fold f app xs) made
  all_done i made past is = subst (λ (ys : List X). IsCommand (fold f app ys) made) (take_all i xs past) is

-- ---- the command without its subcommands

abbrev pub alone : App
alone = record {
  top = record (new_shape (codes "linetab")) { has_version = true; subcommand_required = true };
  subs = [];
}

pub alone_made : (named described versioned_is made : Command) (about version : Bor (List ℕ)) → app_of named ≡ new_app (codes "linetab")
    → (fields_of named).has_globals ≡ false → fields_of described ≡ record (fields_of named) { about = Some about }
    → fields_of versioned_is ≡ record (fields_of described) { version = Some version }
    → fields_of made ≡ record (fields_of versioned_is) { subcommand_required = true } → IsCommand alone made
alone_made named described with_version made about version app local first second third = grind (arith, common_steps)
