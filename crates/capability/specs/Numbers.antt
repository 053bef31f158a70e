-- The number of each case of each enum: its place in the Rust's declaration.
use Rattle.std.specs.Prelude.{ℕ}
use Rattle.capability.specs.declared.PipelineInstructionClass.{PipelineInstructionClass}
use Rattle.capability.specs.declared.PipelineInstructionClass.TheVariants.{
  Alu,
  Multiply,
  Divide,
  Load,
  Store,
  Branch,
  Jump,
  System,
  FloatingPoint,
  Unknown,
}
use Rattle.capability.specs.declared.PipelineHazardKind.{PipelineHazardKind}
use Rattle.capability.specs.declared.PipelineHazardKind.TheVariants.{
  ReadAfterWrite,
  LoadUse,
  BranchFlush,
  FunctionalUnitBusy,
  MemoryLatency,
  WriteAfterWrite,
  WriteAfterRead,
}
use Rattle.capability.specs.declared.PipelineTraceKind.{PipelineTraceKind}
use Rattle.capability.specs.declared.PipelineTraceKind.TheVariants.{Hazard, Forward}
use Rattle.capability.specs.declared.PipelineStageRole.{PipelineStageRole}
use Rattle.capability.specs.declared.PipelineStageRole.TheVariants as role
use Rattle.capability.specs.declared.PipelineEdgeKind.{PipelineEdgeKind}
use Rattle.capability.specs.declared.PipelineEdgeKind.TheVariants as edge
use Rattle.capability.specs.declared.PipelineTimelineState.{PipelineTimelineState}
use Rattle.capability.specs.declared.PipelineTimelineState.TheVariants as state
use Rattle.capability.specs.declared.PipelineEntryPhase.{PipelineEntryPhase}
use Rattle.capability.specs.declared.PipelineEntryPhase.TheVariants as entry
use Rattle.capability.specs.declared.Phase.{Phase}
use Rattle.capability.specs.declared.Phase.TheVariants as phase

-- PipelineInstructionClass::as_usize
unfoldable pub class_number : PipelineInstructionClass → ℕ
class_number Alu = 0
class_number Multiply = 1
class_number Divide = 2
class_number Load = 3
class_number Store = 4
class_number Branch = 5
class_number Jump = 6
class_number System = 7
class_number FloatingPoint = 8
class_number Unknown = 9

unfoldable pub hazard_number : PipelineHazardKind → ℕ
hazard_number ReadAfterWrite = 0
hazard_number LoadUse = 1
hazard_number BranchFlush = 2
hazard_number FunctionalUnitBusy = 3
hazard_number MemoryLatency = 4
hazard_number WriteAfterWrite = 5
hazard_number WriteAfterRead = 6

-- A hazard has its own number; Forward comes after them.
unfoldable pub trace_number : PipelineTraceKind → ℕ
trace_number (Hazard h) = hazard_number h
trace_number Forward = 7

unfoldable pub role_number : PipelineStageRole → ℕ
role_number role.Fetch = 0
role_number role.Decode = 1
role_number role.Issue = 2
role_number role.Execute = 3
role_number role.Memory = 4
role_number role.Writeback = 5
role_number role.Commit = 6
role_number role.Other = 7

unfoldable pub edge_number : PipelineEdgeKind → ℕ
edge_number edge.Sequential = 0
edge_number edge.Forward = 1
edge_number edge.Feedback = 2

unfoldable pub state_number : PipelineTimelineState → ℕ
state_number state.Empty = 0
state_number state.Active = 1
state_number state.Speculative = 2
state_number state.Stalled = 3
state_number state.Bubble = 4
state_number state.Flushed = 5

-- 0 free, 1 waiting, 2 armed, 3 executing, 4 finished
unfoldable pub entry_number : PipelineEntryPhase → ℕ
entry_number entry.Free = 0
entry_number entry.Waiting = 1
entry_number entry.Armed = 2
entry_number entry.Executing = 3
entry_number entry.Finished = 4
entry_number entry.Committing = 5

unfoldable pub phase_number : Phase → ℕ
phase_number phase.Wait = 0
phase_number phase.Read = 1
phase_number phase.Execute = 2
phase_number phase.Write = 3

-- All of these unfold where a line says `unfolding numbers`.
unfoldable pub numbers : Unit {0}
unfolding class_number hazard_number trace_number role_number edge_number state_number entry_number phase_number
numbers = tt
