use Rattle.std.proofs.Common.{rules}
use Rattle.std.proofs.lemmas.Slice.Eq.{slice_eq-Decides}
use Rattle.lnt_header.specs.declared.header.Pair.{Pair}
use Rattle.lnt_header_bytes.proofs.kept.are_pairs_same.Goals as goal

pub returns : goal.returns
returns c = λ t. (slice_eq-Decides (λ (a b : Pair). search rules) c.args.one.now c.args.other.now c.eq.result c.eq.ensures).0 t
