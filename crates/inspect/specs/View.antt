-- What stages, kinds, stations and waits mean to the model.
use Rattle.model.specs.Views.{StageView, UnitView, TraceView, OperandView, StationView}
use Rattle.occupants.specs.View.{view_slot}
use Rattle.std.specs.Prelude.{option_map}
use Rattle.inspect.specs.declared.stages.PipelineStageView.{PipelineStageView}
use Rattle.inspect.specs.declared.kinds.PipelineUnitView.{PipelineUnitView}
use Rattle.inspect.specs.declared.stations.PipelineOperandView.{PipelineOperandView}
use Rattle.inspect.specs.declared.stations.PipelineStationView.{PipelineStationView}
use Rattle.inspect.specs.declared.waits.PipelineTraceView.{PipelineTraceView}

-- ── Stages ──────────────────────────────────────────────────────────────────

unfoldable pub view_stage : PipelineStageView → StageView
view_stage v = record { role = v.role; slot = option_map view_slot v.slot }

-- ── Kinds and waits ─────────────────────────────────────────────────────────

unfoldable pub view_kind : PipelineUnitView → UnitView
view_kind v =
    record {
      capacity = v.capacity;
      active = v.active;
      first = option_map view_slot v.first;
      latency_class = v.latency_class;
      latency = v.latency;
    }

unfoldable pub view_trace : PipelineTraceView → TraceView
view_trace v = record { kind = v.kind; from_stage = v.from_stage; to_stage = v.to_stage }

-- ── Stations ────────────────────────────────────────────────────────────────

unfoldable pub view_operand : PipelineOperandView → OperandView
view_operand v = record { register = v.register; producer = v.producer }

unfoldable pub view_station : PipelineStationView → StationView
view_station v =
    record {
      unit = v.unit;
      tag = v.tag;
      slot = option_map view_slot v.slot;
      phase = v.phase;
      operand_0 = option_map view_operand v.operand_0;
      operand_1 = option_map view_operand v.operand_1;
    }

-- All of these unfold where a line says `unfolding inspected`.
unfoldable pub inspected : Unit {0}
unfolding view_stage view_kind view_trace view_operand view_station
inspected = tt
