use Rattle.lnt_compare.specs.PathStretches.{stretches_of}
use Rattle.lnt_compare.proofs.path_tables.path_differences.DifferencesByPath.stretch_end.Goals as goal

pub stretch_end-requires-clause-sound : goal.stretch_end-requires-clause-sound
stretch_end-requires-clause-sound g c =
    c.in_ok-memory.ensures (g.P.Paths.bytes_of c.args.paths.now) (rw c.take.ensures.value c.requires.3.remembered)

pub stretch_end-requires-clause-given : goal.stretch_end-requires-clause-given
stretch_end-requires-clause-given g c = let h = c.requires in (h.0, h.1, stretches_of h.2, h.3.given)

pub returns-clause-given : goal.returns-clause-given
returns-clause-given g c f f' told h = record {
  given = c.in_ok-end.ensures.given f f' (stretches_of told) h.given;
  remembered = rw c.keep.ensures c.in_ok-end.ensures.sound;
}

pub returns-clause-end : goal.returns-clause-end
returns-clause-end g c f f' told last h going = c.in_ok-end.ensures.end f f' (stretches_of told) last h.given going
