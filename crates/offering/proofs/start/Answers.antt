use Rattle.std.proofs.Common.{rules}
use Rattle.model.specs.Calls.{checks, refusal}
use Rattle.board.specs.View.{view_board}
use Rattle.engine.specs.View.{view_engine, answer_by}
use Rattle.engine.proofs.Does.{does-exit, passes}
use Rattle.offering.proofs.Results.{does-start}
use Rattle.offering.proofs.start.Goals as goal

pub returns-in_err-start : goal.returns-in_err-start
unfolding view_engine view_board refusal checks
returns-in_err-start c e v = does-exit v _ c.in_err-start.was c.start.ensures (search rules)

pub returns : goal.returns
unfolding view_engine answer_by view_board refusal checks
returns c e v = does-start v (passes c.in_ok-start.was c.start.ensures) c.start-2.ensures _ c.offered.ensures
