use Rattle.std.proofs.Common.{◌≡◌, ◌≤◌, List, Option}
use Rattle.lnt_spans.specs.declared.position.Position.{Position}
use Rattle.lnt_sequences.specs.Sequences.{Selection}
use Rattle.lnt_table.specs.WrongStretches.{CanGoOn, HasFoundWrong, wrong_left}
use Rattle.lnt_table.proofs.wrong.WrongStretches.next_wrong.Given as goal

abbrev pub invariant-loop-ended : goal.invariant-loop-ended
invariant-loop-ended g l = record {
  most : wrong_left g.K.KeptStretches.left l.self ≤ wrong_left g.K.KeptStretches.left l.fn.self;
  scope : l.self.scope ≡ l.fn.self.scope;
  tell : g.K.KeptStretches.tell l.self.kept ≡ g.K.KeptStretches.tell l.fn.self.kept;
  going : CanGoOn g.K.KeptStretches.has_given l.self;
  found : (selection : Selection) (f f' : Position → Option g.K.KeptStretches.Told) (given : List g.row.D.Denot)
      → HasFoundWrong g.K.KeptStretches.tell g.K.KeptStretches.value_of g.K.KeptStretches.has_given l.fn.self selection f f' given
      → HasFoundWrong g.K.KeptStretches.tell g.K.KeptStretches.value_of g.K.KeptStretches.has_given l.self selection f f' given;
}

abbrev pub decreases-loop-ended : goal.decreases-loop-ended
decreases-loop-ended g l = wrong_left g.K.KeptStretches.left l.self
