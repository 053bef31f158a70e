-- The log has the waits; the board knows the registers that they name.
use Rattle.model.specs.Requests.{trace_detail, text_at}
use Rattle.stalls.specs.View.{view_trace, view_traces, view_log}
use Rattle.board.specs.View.{known_names, view_board}
use Rattle.scoreboard.specs.View.{view_engine}
use Rattle.engine.specs.View.{view_engine as engine-view}
use Rattle.views.proofs.Told.{told}
use Rattle.views.proofs.texts.trace_detail.Goals as goal

pub returns : goal.returns
unfolding text_at engine-view view_board known_names view_log view_traces view_trace
returns c =
    let e = c.args.engine.now in
    let t = told (view_engine e) (trace_detail c.args.index) (c.write_detail.ensures e.decoded e.board.claims.len c.requires.parts.board.known) in
    record { answer = t.0; buffer = t.1 }
