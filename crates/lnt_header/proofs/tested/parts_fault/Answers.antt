use Rattle.std.proofs.Common.{rules}
use Rattle.lnt_header.proofs.TestLemmas.{tests_passed}
use Rattle.lnt_header.proofs.tested.parts_fault.Goals as goal

pub returns : goal.returns
returns c = search (rules, tests_passed)
