use mathlib.Core.Path.{refl, ap}
use native.Mathlib.Omega.{arith}
use Rattle.model.specs.Forecast.{going, lent_of, forecast_run, fuel_for}
use Rattle.scoreboard.specs.View.{view_engine}
use Rattle.driving.specs.Runs.{view_run, run_by}
use Rattle.driving.proofs.Turns.{left-spent, left-next, left-ended}
use Rattle.driving.proofs.run.Goals as goal
use Rattle.driving.proofs.run.Goals.{in-Running, in_default}

pub loop-turn-init : goal.loop-turn-init
unfolding fuel_for view_run run_by
loop-turn-init c =
    record {
      is = ap (λ n. forecast_run n (going (lent_of (view_engine c.args.engine.now) c.args.cells.now) c.args.input.now 0)) (omega arith);
      valid = c.requires.valid;
      runs = record { stands = refl; at = omega arith; lines = omega arith };
    }

pub loop-turn-preserved : goal.loop-turn-preserved
loop-turn-preserved c =
    left-next c.loop-turn.invariant c.turn.ensures (omega arith) (elim c.match-matches.branch [ in-Running w ↦ w.in-Running.is | in_default w ↦ cc ])

pub returns-after-loop-turn : goal.returns-after-loop-turn
returns-after-loop-turn c = left-spent c.loop-turn.invariant (omega arith)

pub returns-then-not-matches : goal.returns-then-not-matches
returns-then-not-matches c =
    left-ended c.loop-turn.invariant c.turn.ensures (omega arith)
    (elim c.match-matches.branch [ in-Running w ↦ cc | in_default w ↦ w.in_default.not-Running ])
