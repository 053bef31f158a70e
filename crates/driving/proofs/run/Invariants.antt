-- A turn for each unit of fuel, while the run goes on.
use Prim.Native.Nat.{◌-◌}
use Rattle.model.specs.Forecast.{going, lent_of, forecast_run, fuel_for}
use Rattle.scoreboard.specs.View.{view_engine}
use Rattle.driving.proofs.Turns.{Left}
use Rattle.driving.proofs.run.Given as goal

abbrev pub invariant-loop-turn : goal.invariant-loop-turn
invariant-loop-turn l =
    let i = l.initial in
    Left l.input (forecast_run (fuel_for l.input) (going (lent_of (view_engine i.engine) i.cells) l.input 0)) (l._turn-end - l._turn) l.engine l.run
    l.cells
