-- By what the pass tells, and whether the room is short.
use Rattle.std.proofs.Common.{sym, ◌∙◌}
use Rattle.calls.proofs.Outcomes.{Outcome, decoded, tallied, outcome-unformed, outcome-lent, outcome-room, outcome-played}
use Rattle.calls.proofs.calls_play.Goals as goal
use Rattle.calls.proofs.calls_play.Goals.{then-cells-t-via-then-cells-t as few, then-cells-t-via-else-cells-t+then-out-t as small}

pub returns-in_default : goal.returns-in_default
returns-in_default c =
    let t = outcome-unformed c.args.list.now c.args.cells.now c.args.out.now (sym c.in_default.is ∙ c.scan.ensures) in
    record { answer = t.0; memory = t.1.0; answers = t.1.1 }

pub returns-then-cells-t : goal.returns-then-cells-t
returns-then-cells-t c =
    let q = c.in-Some.ensures in
    let t : Outcome c.args.list.now c.args.cells.now c.args.out.now 13 c.args.cells.now c.args.out.now =
    elim c.then-cells-t.branch [
      | few w ↦ outcome-lent c.args.list.now c.args.cells.now c.args.out.now q w.if-cells-t.true
      | small w ↦ outcome-room c.args.list.now c.args.cells.now c.args.out.now q w.if-out-t.true
    ] in
    record { answer = t.0; memory = t.1.0; answers = t.1.1 }

pub play_script-requires : goal.play_script-requires
play_script-requires c =
    let q = c.in-Some.ensures in
    record {
      list_value = decoded _ q;
      t_value = tallied _ q;
      lent_in_bounds = c.if-cells-t.false;
      bytes_in_bounds = c.if-out-t.false;
    }

pub returns : goal.returns
returns c =
    let t =
    outcome-played c.args.list.now c.args.cells.now c.args.out.now c.in-Some.ensures c.if-cells-t.false c.if-out-t.false c.play_script.ensures.memory
    c.play_script.ensures.answers in
    record { answer = t.0; memory = t.1.0; answers = t.1.1 }
