-- Canonical lists of spans by path.
use Rattle.lnt_spans.proofs.CanonicalLaws.{one_list}
use Rattle.lnt_writing.specs.Laws.{OneCanonicalOfPaths}
use Rattle.lnt_records.specs.PathSpans.{path_spans}

pub one_path_list : OneCanonicalOfPaths
one_path_list = one_list path_spans (λ x y low high answer. λ i. record { low = low i; high = high i; answer = answer i })
