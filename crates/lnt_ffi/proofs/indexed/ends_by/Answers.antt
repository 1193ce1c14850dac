use Rattle.std.proofs.Common.{◌∙◌, sym}
use Rattle.lnt_spans.proofs.DerivedOrder.{at_most_from_ge}
use Rattle.lnt_ffi.proofs.LookLemmas.{ended}
use Rattle.lnt_ffi.proofs.indexed.ends_by.Goals as goal

pub returns : goal.returns
returns c = λ is o.
    let here = at_most_from_ge {p = c.args.position} {q = c.high_end.result} (sym is ∙ c.ge.ensures) in
    ended c.args.spans.now _ _ _ o c.requires (λ _. rw c.high_end.ensures at here)
