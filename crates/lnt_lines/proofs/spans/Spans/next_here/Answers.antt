use Rattle.lnt_lines.proofs.CursorLemmas.{given_here}
use Rattle.lnt_lines.proofs.spans.Spans.next_here.Goals as goal

pub returns-clause-gives : goal.returns-clause-gives
returns-clause-gives c spans come =
    given_here c.self.inside.units.now c.self.inside.programs.now c.self.inside.entries.now c.self.inside.unit c.self.inside.rows
    c.in-Some.rows c.next_span.new.rows c.self.inside.last c.next_span.new.last
    c.next_span.result spans c.in-Some.is c.next_span.ensures.gives (rw (← c.self.view_is) at come)
