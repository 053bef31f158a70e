-- The text that each case is shown as, byte for byte the Rust's.
use Rattle.laws.specs.Texts.{Text, bytes, texts}
use Rattle.capability.specs.declared.PipelineInstructionClass.{PipelineInstructionClass}
use Rattle.capability.specs.declared.PipelineInstructionClass.TheVariants.{
  Alu,
  Multiply,
  Divide,
  Load,
  Store,
  Branch,
  Jump,
  System,
  FloatingPoint,
  Unknown,
}
use Rattle.capability.specs.declared.PipelineHazardKind.{PipelineHazardKind}
use Rattle.capability.specs.declared.PipelineHazardKind.TheVariants.{
  ReadAfterWrite,
  LoadUse,
  BranchFlush,
  FunctionalUnitBusy,
  MemoryLatency,
  WriteAfterWrite,
  WriteAfterRead,
}
use Rattle.capability.specs.declared.PipelineTraceKind.{PipelineTraceKind}
use Rattle.capability.specs.declared.PipelineTraceKind.TheVariants.{Hazard, Forward}
use Rattle.capability.specs.declared.PipelineEntryPhase.{PipelineEntryPhase}
use Rattle.capability.specs.declared.PipelineEntryPhase.TheVariants.{
  Free,
  Waiting,
  Armed,
  Executing,
  Finished,
  Committing,
}

-- PipelineInstructionClass::label
unfoldable pub class_label : PipelineInstructionClass → Text
class_label Alu = bytes "ALU"
class_label Multiply = bytes "MUL"
class_label Divide = bytes "DIV"
class_label Load = bytes "Load"
class_label Store = bytes "Store"
class_label Branch = bytes "Branch"
class_label Jump = bytes "Jump"
class_label System = bytes "System"
class_label FloatingPoint = bytes "FP"
class_label Unknown = bytes "?"

-- PipelineHazardKind::label
unfoldable pub hazard_label : PipelineHazardKind → Text
hazard_label ReadAfterWrite = bytes "RAW"
hazard_label LoadUse = bytes "load-use"
hazard_label BranchFlush = bytes "branch flush"
hazard_label FunctionalUnitBusy = bytes "FU busy"
hazard_label MemoryLatency = bytes "cache stall"
hazard_label WriteAfterWrite = bytes "WAW"
hazard_label WriteAfterRead = bytes "WAR"

-- A hazard in PipelineTraceKind::short_label
unfoldable pub hazard_tag : PipelineHazardKind → Text
hazard_tag ReadAfterWrite = bytes "RAW"
hazard_tag LoadUse = bytes "LOAD"
hazard_tag BranchFlush = bytes "CTRL"
hazard_tag FunctionalUnitBusy = bytes "FU"
hazard_tag MemoryLatency = bytes "MEM"
hazard_tag WriteAfterWrite = bytes "WAW"
hazard_tag WriteAfterRead = bytes "WAR"

-- PipelineTraceKind::short_label
unfoldable pub trace_label : PipelineTraceKind → Text
trace_label (Hazard h) = hazard_tag h
trace_label Forward = bytes "FWD"

-- PipelineEntryPhase::label
unfoldable pub entry_label : PipelineEntryPhase → Text
entry_label Free = bytes "free"
entry_label Waiting = bytes "wait"
entry_label Armed = bytes "armed"
entry_label Executing = bytes "exec"
entry_label Finished = bytes "ready"
entry_label Committing = bytes "commit"

-- All of these unfold, to their bytes, where a line says `unfolding labels`.
unfoldable pub labels : Unit {0}
unfolding texts class_label hazard_label hazard_tag trace_label entry_label
labels = tt
