use Rattle.lnt_compare.specs.PathStretches.{stretches_of}
use Rattle.lnt_compare.proofs.PathStretchLemmas.{told_next}
use Rattle.lnt_compare.proofs.path_tables.path_differences.DifferencesByPath.next_difference.Goals as goal

pub next_stretch-requires-clause-sound : goal.next_stretch-requires-clause-sound
next_stretch-requires-clause-sound g c =
    c.in_ok-memory.ensures (g.P.Paths.bytes_of c.args.paths.now) (rw c.take.ensures.value c.requires.3.remembered)

pub next_stretch-requires-clause-given : goal.next_stretch-requires-clause-given
next_stretch-requires-clause-given g c = let h = c.requires in (h.0, h.1, stretches_of h.2, h.3.given)

pub returns-clause-given : goal.returns-clause-given
returns-clause-given g c f f' told h =
    told_next g.S.SpanSource.to_come (g.P.Paths.bytes_of c.args.paths.now) c.args.self.now.version c.next_stretch.new.stretches
    c.keep.new.kept f f' told c.in_ok-found.found _ _ (rw c.keep.ensures c.in_ok-found.ensures.sound)
    (c.in_ok-found.ensures.given f f' (stretches_of told) h.given)

pub returns-clause-missed : goal.returns-clause-missed
returns-clause-missed g c f f' told h e =
    let all = rw e at c.in_ok-found.ensures.given f f' (stretches_of told) h.given in
    (all.1, all.2)

pub returns-clause-going : goal.returns-clause-going
returns-clause-going g c f f' told h = c.in_ok-found.ensures.going f f' (stretches_of told) h.given
