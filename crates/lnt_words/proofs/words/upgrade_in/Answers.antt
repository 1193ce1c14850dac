use Rattle.std.proofs.Common.{rules}
use Rattle.lnt_words.specs.Described.{rows_in}
use Rattle.lnt_words.proofs.RefusalLemmas.{err_all, no_size}
use Rattle.lnt_words.proofs.words.upgrade_in.Goals as goal

pub returns-in_err-size_in : goal.returns-in_err-size_in
returns-in_err-size_in c = record {
  asked = search rules;
  refused = err_all c.from_residual-in_err-size_in.result _ (λ stop request so.
      no_size (rows_in c.args.words.now) c.in_err-size_in.ensures.refused request so);
}
