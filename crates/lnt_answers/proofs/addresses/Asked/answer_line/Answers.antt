use Rattle.std.proofs.Common.{[], ◌∷◌}
use Rattle.lnt_io.proofs.PrefixLaws.{so_stopped}
use Rattle.lnt_answers.proofs.AddressPrefixes.{begun_nothing}
use Rattle.lnt_answers.proofs.addresses.Asked.answer_line.Goals as goal

pub returns-in_err-put_line-clause-stopped : goal.returns-in_err-put_line-clause-stopped
returns-in_err-put_line-clause-stopped g c =
    so_stopped c.from_residual.result _
    (begun_nothing (c.args.self.now.line.items ∷ []) (g.W.Write.contents c.args.out.now))
