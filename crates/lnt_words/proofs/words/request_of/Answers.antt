use Rattle.std.proofs.Common.{◌≡◌, ◌∙◌, List, Option, [], ap, inl, inr, map, refl, subst, string_bytes}
use Rattle.std.proofs.lemmas.Result.{IfErr-weaker, IfOk-weaker}
use Rattle.clap.specs.Words.{App, HasKind, Row, Text, fault_of, is_simple, is_simple_and_free, kind_of, subcommand_of, subcommand_rows_of}
use Rattle.lnt_words.specs.Words.{IsAskedOf, Asked, linetab}
use Rattle.lnt_words.proofs.RefusalLemmas.{kind_among}
use Rattle.lnt_words.proofs.WordLemmas.{by_rows, help_among, linetab_is_free, linetab_is_simple}
use Rattle.lnt_words.proofs.words.request_of.Goals as goal

pub returns-in-Ok : goal.returns-in-Ok
returns-in-Ok c =
    let built = c.in_ok-command_of.ensures refl in
    let found : subcommand_rows_of c.in-Ok.matches ≡ subcommand_of linetab (map string_bytes c.args.words.now) =
    (c.in-Ok.ensures.matches (ap is_simple built ∙ linetab_is_simple)).1
    ∙ ap (λ (a : App). subcommand_of a (map string_bytes c.args.words.now)) built in
    let fine : fault_of linetab (map string_bytes c.args.words.now) ≡ [] =
    subst (λ (a : App). fault_of a (map string_bytes c.args.words.now) ≡ []) built
    (c.in-Ok.ensures.kinds (ap is_simple_and_free built ∙ linetab_is_free)) in
    record {
      asked = IfOk-weaker c.asked_in.result _ _ (λ asked so. inr (fine, subst (λ of. IsAskedOf of asked) found (by_rows _ asked so)))
          c.asked_in.ensures.asked;
      refused = IfErr-weaker c.asked_in.result _ _ (λ stop none said.
          inr (fine, subst (λ (of : Option (Text × List Row)). (asked : Asked) → IsAskedOf of asked → ⊥) found (none said)))
          c.asked_in.ensures.refused;
    }

pub returns-in-Err : goal.returns-in-Err
returns-in-Err c =
    let built = c.in_ok-command_of.ensures refl in
    let kinds : HasKind (fault_of linetab (map string_bytes c.args.words.now)) c.in-Err.error =
    subst (λ (a : App). HasKind (fault_of a (map string_bytes c.args.words.now)) c.in-Err.error) built
    (c.in-Err.ensures.kinds (ap is_simple_and_free built ∙ linetab_is_free)) in
    record {
      asked = IfOk-weaker c.help_in.result _ _ (λ asked so. inl (help_among _ c.in-Err.error kinds so.1, so.0)) c.help_in.ensures.asked;
      refused = IfErr-weaker c.help_in.result _ _ (λ stop none said.
          let not = none said in inl (kind_of c.in-Err.error, kind_among _ c.in-Err.error kinds not.0, not.1, not.2))
          c.help_in.ensures.refused;
    }
