use Rattle.lnt_lines.proofs.CursorLemmas.{begun, begun_fewer}
use Rattle.lnt_lines.proofs.spans.Spans.begin.Goals as goal

pub returns-clause-fewer : goal.returns-clause-fewer
returns-clause-fewer c e =
    rw (← c.self.view_is)
    (begun_fewer c.self.inside.programs.now c.self.inside.entries.now c.in-Some.entries.now c.in-Some.entry.now c.rows_of-self-inside.result
    c.in-Some.ensures.cases.0 c.rows_of-self-inside.ensures.left)

pub returns-clause-begins : goal.returns-clause-begins
returns-clause-begins c spans later =
    begun (record {
      units = c.self.inside.units.now;
      programs = c.self.inside.programs.now;
      entries = c.self.inside.entries.now;
      unit = c.self.inside.unit;
      rows = c.self.inside.rows;
      last = c.self.inside.last;
    })
    c.in-Some.entry.now c.in-Some.entries.now c.rows_of-self-inside.result spans c.in-Some.ensures.cases.0
    c.rows_of-self-inside.ensures.rows (rw (← c.self.view_is) at later)
