-- What the law of spans by path says.
use Rattle.lnt_spans.specs.SpanKinds.{OneCanonicalOf}
use Rattle.lnt_records.specs.PathSpans.{path_spans}

-- Canonical lists that answer alike everywhere are the same list.
abbrev pub OneCanonicalOfPaths : Type 0
OneCanonicalOfPaths = OneCanonicalOf path_spans
