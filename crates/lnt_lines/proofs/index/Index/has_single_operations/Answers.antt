use Rattle.std.proofs.Common.{subst, ◌↔◌, IsTrue, All}
use Rattle.lnt_lines.specs.Indexed.{HasOneOperation, Indexed}
use Rattle.lnt_lines.proofs.InstructionLemmas.{spans_of_instructions}
use Rattle.lnt_lines.proofs.index.Index.has_single_operations.Goals as goal

pub returns-clause-single : goal.returns-clause-single
returns-clause-single c =
    let programs = rw c.deref.ensures.value at c.are_single.ensures in
    subst (λ (i : Indexed). IsTrue c.are_single.result ↔ All HasOneOperation i.programs) c.self.view_is programs

pub returns-clause-spans : goal.returns-clause-spans
returns-clause-spans c single selection is spans same =
    let programs = rw c.deref.ensures.value at c.are_single.ensures.0 single in
    let all = subst (λ (i : Indexed). All HasOneOperation i.programs) c.self.view_is programs in
    spans_of_instructions c.args.self.now selection spans all is same
