-- By its parts.
use Rattle.std.proofs.Common.{rules}
use Rattle.traces.proofs.Written.{laid_next}
use Rattle.occupants.specs.View.{view_slot}
use Rattle.inspect.specs.View.{view_operand, view_station}
use Rattle.answers.specs.Bytes.{slot_bytes, slot_part, index_part, operand_bytes, operand_part, station_bytes}
use Rattle.answers.proofs.Laid.{laid_same}
use Rattle.answers.proofs.Lengths.{part_map}
use Rattle.answers.proofs.operations.PipelineStationViewPut.put.Goals as goal

pub returns-clause-laid : goal.returns-clause-laid
unfolding station_bytes index_part slot_part operand_part view_station
returns-clause-laid c =
    let v = c.args.self in
    let slot = part_map 17 slot_bytes view_slot v.slot in
    let first = part_map 4 operand_bytes view_operand v.operand_0 in
    let second = part_map 4 operand_bytes view_operand v.operand_1 in
    laid_same
    (laid_next c.put-a.ensures.laid
    (laid_next c.put_part-b.ensures.laid
    (laid_next c.put_part-c.ensures.laid
    (laid_next c.put-d.ensures.laid (laid_next c.put_part-e.ensures.laid c.put_part.ensures.laid)))))
    (search (rules, slot, first, second))
