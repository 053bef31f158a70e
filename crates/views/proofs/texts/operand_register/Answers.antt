-- The board knows the registers of its units.
use Rattle.model.specs.Requests.{operand_register, operand_text, text_at}
use Rattle.board.specs.View.{known_names, view_board}
use Rattle.scoreboard.specs.View.{legend_of, view_engine}
use Rattle.engine.specs.View.{view_engine as engine-view}
use Rattle.views.proofs.Told.{told}
use Rattle.views.proofs.texts.operand_register.Goals as goal

pub returns : goal.returns
unfolding text_at operand_text engine-view view_board known_names
returns c =
    let e = c.args.engine.now in
    let t = told (view_engine e) (operand_register c.args.station c.args.slot)
    (c.write_operand.ensures (legend_of e) e.board.claims.len c.requires.parts.board.knows) in
    record { answer = t.0; buffer = t.1 }
