use Rattle.std.proofs.Common.{refl}
use Rattle.lnt_sequences.proofs.KeptLaws.{kept_differ, kept_live}
use Rattle.lnt_sequences.proofs.UnitLaws.{distinct_sequences}
use Rattle.lnt_sequences.specs.Sequences.{live_sequences}
use Rattle.lnt_sequences.proofs.laws.kept_sequences.Goals as goal

pub returns : goal.returns
returns c = record {
  all = λ selection. refl;
  live = λ selection placed k. kept_live selection.skip (live_sequences selection.dead selection.units) placed k;
  differ = λ selection differ.
      kept_differ (live_sequences selection.dead selection.units) (distinct_sequences selection.dead selection.units differ);
}
