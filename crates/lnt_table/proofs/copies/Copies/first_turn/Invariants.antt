use Rattle.std.proofs.Common.{◌≡◌, ◌-◌, length, Some}
use Rattle.lnt_spans.specs.Positions.{IsAtMost, IsBelow}
use Rattle.lnt_sequences.specs.Copies.{IsAnyAnswer}
use Rattle.lnt_table.specs.Asked.{AreAllReady, AreCopies, AreReady, IsPassed, IsSoFrom, OfLive}
use Rattle.lnt_table.specs.Groups.{NextIsAfter}
use Rattle.lnt_table.proofs.copies.Copies.first_turn.Given as goal

abbrev pub invariant-loop-to : goal.invariant-loop-to
invariant-loop-to g l = record {
  copies : AreCopies l.self;
  held : AreAllReady l.self;
  index : l.self.index ≡ l.fn.self.index;
  at : l.self.group.at ≡ l.at;
  ahead : NextIsAfter l.self.group.extents.now l.self.group.begun l.at;
  past : IsAtMost l.fn.low l.at;
  below : IsBelow l.at l.fn.high;
  so : OfLive l.fn.self.index.now (λ selection.
      AreReady (g.A.TableAnswer.tell l.answer) selection l.fn.self (Some (g.A.TableAnswer.said l.answer)) l.fn.low l.fn.high
      → IsSoFrom
      (λ p. IsPassed l.is_said (IsAnyAnswer (g.A.TableAnswer.tell l.answer) selection p (Some (g.A.TableAnswer.said l.answer))))
      l.fn.low l.at
      × AreReady (g.A.TableAnswer.tell l.answer) selection l.self (Some (g.A.TableAnswer.said l.answer)) l.at l.fn.high);
}

abbrev pub decreases-loop-to : goal.decreases-loop-to
decreases-loop-to g l = length l.self.group.extents.now - l.self.group.begun
