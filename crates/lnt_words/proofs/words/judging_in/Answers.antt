use Rattle.std.proofs.Common.{rules, sym}
use Rattle.lnt_words.specs.Described.{rows_in}
use Rattle.lnt_words.proofs.RefusalLemmas.{err_all, no_marker}
use Rattle.lnt_words.proofs.words.judging_in.Goals as goal

pub returns-in_err-address_of-in-Some : goal.returns-in_err-address_of-in-Some
returns-in_err-address_of-in-Some c = record {
  asked = search rules;
  refused = err_all c.from_residual.result _ (λ stop from so.
      no_marker (rows_in c.args.words.now) c.in-Some.word.now (rw c.in-Some.is at (sym c.str_in.ensures))
      c.in_err-address_of-in-Some.ensures.refused from.dead so.dead);
}
