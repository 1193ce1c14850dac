-- Operations that are given and run, one after another, and make no row.
use Rattle.std.proofs.Common.{◌≡◌, List, [], ◌∷◌, ◌++◌, refl, sym, subst, Option, Some, None}
use Rattle.lnt_header.specs.declared.op.OpView.{OpView}
use Rattle.lnt_ops.specs.Walks.{GivesEach, GivesOperation, Walk}
use Rattle.lnt_machine.specs.declared.fault.RowFault.TheVariants.{Run}
use Rattle.lnt_machine.specs.declared.fault.RunFault.{RunFault}
use Rattle.lnt_machine.specs.declared.fault.RunFault.TheVariants.{LineOutOfRange}
use Rattle.lnt_machine.specs.declared.row.Row.{Row}
use Rattle.lnt_machine.specs.RowWalks.{RunsToRow, RunsQuietly, Stops}
use Rattle.lnt_machine.specs.Running.{RunsOn, RunState}
use Rattle.lnt_machine.specs.State.{LeavesRange}

gives_more : (items : List OpView) (item : OpView) (old middle new : Walk) → GivesEach items old middle
    → GivesOperation item middle new
    → GivesEach (items ++ item ∷ []) old new
gives_more [] item old middle new same step = (new, subst (λ (w : Walk). GivesOperation item w new) same step, refl)
gives_more (first ∷ items) item old middle new (next, one, more) step = (next, one, gives_more items item next middle new more step)

runs_more : (items : List OpView) (item : OpView) (old middle new : RunState) → RunsQuietly items old middle → RunsOn item middle new None
    → RunsQuietly (items ++ item ∷ []) old new
runs_more [] item old middle new same on = (new, subst (λ (r : RunState). RunsOn item r new None) same on, refl)
runs_more (first ∷ items) item old middle new (next, one, more) on = (next, one, runs_more items item next middle new more on)

pub passes_more : {item : OpView} {run run' new : RunState} {walk walk' next : Walk} {made : Option Row} → RunsToRow run walk run' walk'
    → GivesOperation item walk' next → RunsOn item run' new made → ((row : Row) → made ≡ Some row → ⊥) → RunsToRow run walk new next
passes_more {made = Some row} passes step on none = absurd (none row refl)
passes_more {item = item} {run = run} {run' = run'} {new = new} {walk = walk} {walk' = walk'} {next = next} {made = None} passes step on
    none = record {
      items = passes.items ++ item ∷ [];
      given = gives_more passes.items item walk walk' next passes.given step;
      quiet = runs_more passes.items item run run' new passes.quiet on;
    }

-- an operation that leads out of the range of lines
pub leaves_here : {item : OpView} {run run' new : RunState} {walk walk' next : Walk} {fault : RunFault} → RunsToRow run walk run' walk'
    → GivesOperation item walk' next → LeavesRange item run'.machine → fault ≡ LineOutOfRange run'.machine.count → new ≡ run'
    → Stops (Run fault) run walk new next
leaves_here {item} {run} {run'} {new} {walk} {walk'} {next} {fault} passes step leaves is same =
    subst (λ (r : RunState). Stops (Run fault) run walk r next) (sym same)
    (subst (λ (f : RunFault). Stops (Run f) run walk run' next) (sym is)
    (record { walk_before = walk'; passes = passes; item = item; step = step; leaves = leaves; index_is = refl }))
