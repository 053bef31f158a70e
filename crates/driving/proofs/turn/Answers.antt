use mathlib.Core.Path.{sym, ◌∙◌}
use native.Mathlib.Omega.{arith}
use Rattle.engine.specs.View.{view_engine}
use Rattle.scoreboard.specs.View.{frame_of}
use Rattle.driving.specs.Runs.{view_run, run_by}
use Rattle.driving.proofs.Taken.{goes_on}
use Rattle.driving.proofs.Turns.{invited, uninvited, used_up, turn-ends, turn-busy, turn-left, goes-as}
use Rattle.driving.proofs.turn.Goals as goal
use Rattle.driving.proofs.turn.Goals.{
  else-run-input-via-then-run-input+else-is_idle,
  else-run-input-via-else-run-input,
  else-engine-via-then-engine+else-run-input-2,
  else-engine-via-else-engine,
}

pub returns-then-is_idle : goal.returns-then-is_idle
unfolding view_run run_by view_engine
returns-then-is_idle c =
    let v = c.requires in
    let e = c.args.engine.now in
    record {
      is = sym (turn-ends e _ _ _ _ c.if-run-input.true (sym (c.is_idle.ensures (frame_of e)) ∙ c.if-is_idle.true));
      valid = v.valid;
      at = v.running.at;
      lines = v.running.lines;
    }

pub returns-then-run-input-2 : goal.returns-then-run-input-2
returns-then-run-input-2 c =
    goes-as (turn-left _ _ _ _ _ c.if-run-input-2.true ∙ invited c.cycle.ensures _ _ _ c.if-engine.true c.if-run-input-2.true) c.take_line.ensures

pub returns-else-engine : goal.returns-else-engine
unfolding view_engine
returns-else-engine c =
    let e = c.args.engine.now in
    let input = c.args.input.now in
    let run = c.args.run.now in
    let running = c.requires.running in
    goes_on c.cycle.ensures.valid running
    ((elim c.else-run-input.branch [
      | else-run-input-via-then-run-input+else-is_idle w ↦ turn-busy e _ input run.at run.lines (sym (w.is_idle.ensures (frame_of e)) ∙ w.if-is_idle.false)
      | else-run-input-via-else-run-input w ↦ turn-left e _ input run.at run.lines (omega arith)
    ])
    ∙ (elim c.else-engine.branch [
      | else-engine-via-then-engine+else-run-input-2 w ↦ used_up c.cycle.ensures input run.at run.lines (omega arith)
      | else-engine-via-else-engine w ↦ uninvited c.cycle.ensures input run.at run.lines w.if-engine.false
    ]))
