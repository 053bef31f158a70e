-- The operation at the place, and its text in the pool.
use Rattle.model.specs.Requests.{slot_text}
use Rattle.config.specs.View.{view_machine}
use Rattle.requests.specs.View.{view_place, view_field}
use Rattle.scoreboard.specs.View.{legend_of, frame_of, view_engine}
use Rattle.engine.specs.View.{view_engine as engine-view}
use Rattle.views.proofs.Told.{told, slot_told}
use Rattle.views.proofs.texts.slot_text.Goals as goal

pub write_field-requires : goal.write_field-requires
write_field-requires c =
    let p = c.requires.parts in
    record { maybe_op_ok = (c.op_at-op.ensures (view_machine c.args.engine.now.machine)).ok; text_pool_ok = p.texts; table_ok = p.table }

pub returns : goal.returns
unfolding engine-view
returns c =
    let e = c.args.engine.now in
    let t =
    told (view_engine e) (slot_text (view_place c.args.place) (view_field c.args.field))
    (slot_told (frame_of e) e.board (view_place c.args.place) (view_field c.args.field) ((c.op_at-op.ensures (view_machine e.machine)).is (legend_of e))
    (c.write_field.ensures e.decoded)) in
    record { answer = t.0; buffer = t.1 }
