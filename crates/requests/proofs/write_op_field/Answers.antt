-- Each arm writes the text that it was told.
use mathlib.Core.List.{map}
use Rattle.std.specs.Prelude.{slice_get, Some}
use Rattle.model.specs.Registers.{name_of}
use mathlib.Core.Path.{ap}
use Rattle.model.specs.Requests.{field}
use Rattle.registers.specs.View.{view_held}
use Rattle.flight.specs.View.{op_with, view_queued}
use Rattle.flight.specs.Pool.{legend}
use Rattle.words.proofs.Shown.{wrote-is}
use Rattle.requests.specs.View.{view_field}
use Rattle.requests.proofs.Asked.{told-field}
use Rattle.requests.proofs.write_op_field.Goals as goal

pub returns-in-Disassembly : goal.returns-in-Disassembly
unfolding field view_field view_queued op_with
returns-in-Disassembly c = let a = c.args in
    λ ds. told-field (view_queued (legend ds a.texts.now (view_held a.table.now)) a.op.now).info c.in-Disassembly.is (wrote-is (ap Some (c.text_at.ensures.is ds (view_held a.table.now))) c.write_bytes.ensures)

pub returns-in-Destination : goal.returns-in-Destination
unfolding field view_field view_queued op_with
returns-in-Destination c = let a = c.args in
    λ ds. told-field (view_queued (legend ds a.texts.now (view_held a.table.now)) a.op.now).info c.in-Destination.is (wrote-is (c.destination_at.ensures.is ds (view_held a.table.now)) c.write_maybe_text.ensures)

pub returns-in-Fault : goal.returns-in-Fault
unfolding field view_field view_queued op_with
returns-in-Fault c = let a = c.args in
    λ ds. told-field (view_queued (legend ds a.texts.now (view_held a.table.now)) a.op.now).info c.in-Fault.is (wrote-is (c.fault_at.ensures.is ds (view_held a.table.now)) c.write_maybe_text-in-Fault.ensures)

pub returns-in-Source : goal.returns-in-Source
unfolding field view_field view_queued op_with
returns-in-Source c = let a = c.args in
    λ ds. told-field (view_queued (legend ds a.texts.now (view_held a.table.now)) a.op.now).info c.in-Source.is (wrote-is (ap (λ l. slice_get (map (name_of (view_held a.table.now)) l) c.in-Source.i) c.reads.ensures) c.write_nth.ensures)

pub returns-in-Write : goal.returns-in-Write
unfolding field view_field view_queued op_with
returns-in-Write c = let a = c.args in
    λ ds. told-field (view_queued (legend ds a.texts.now (view_held a.table.now)) a.op.now).info c.in-Write.is (wrote-is (ap (λ l. slice_get (map (name_of (view_held a.table.now)) l) c.in-Write.i) c.writes.ensures) c.write_nth-in-Write.ensures)
