use Rattle.std.proofs.Common.{rules}
use Rattle.lnt_words.specs.Described.{rows_in}
use Rattle.lnt_words.proofs.RefusalLemmas.{err_all, no_base}
use Rattle.lnt_words.proofs.words.symbols_in.Goals as goal

pub returns-in_err-base_in : goal.returns-in_err-base_in
returns-in_err-base_in c = record {
  asked = search rules;
  refused = err_all c.from_residual-in_err-base_in.result _ (λ stop request so.
      no_base (rows_in c.args.words.now) c.in_err-base_in.ensures.refused request so);
}
