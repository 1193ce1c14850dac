use Rattle.std.proofs.Common.{rules}
use Rattle.lnt_ops.proofs.OpPutLemmas.{appended_extends, extends_more, unchanged_extends, on_err_to, address_put}
use Rattle.lnt_ops.proofs.put.add_address.Goals as goal

pub returns-clause-extends : goal.returns-clause-extends
returns-clause-extends c =
    on_err_to c.add_sized.result (λ same. extends_more _ _ _ (appended_extends _ _ _ _ c.in_ok-start_extended.ensures.ok)
    (unchanged_extends _ _ same)) c.add_sized.ensures.unchanged

pub returns-clause-ok : goal.returns-clause-ok
returns-clause-ok c = search (rules, address_put)
