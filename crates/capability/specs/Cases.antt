-- What is told of a case besides its number and its label.
use Rattle.std.specs.Prelude.{ℕ, ◌<◌, ◌≡◌, Bool, true, false, List, [], ◌∷◌, Option, None, Some, slice_get}
use Rattle.capability.specs.declared.PipelineInstructionClass.{PipelineInstructionClass}
use Rattle.capability.specs.declared.PipelineInstructionClass.TheVariants.{
  Alu,
  Multiply,
  Divide,
  Load,
  Store,
  Branch,
  Jump,
  System,
  FloatingPoint,
  Unknown,
}
use Rattle.capability.specs.declared.PipelineHazardKind.{PipelineHazardKind}
use Rattle.capability.specs.declared.PipelineHazardKind.TheVariants.{
  ReadAfterWrite,
  LoadUse,
  BranchFlush,
  FunctionalUnitBusy,
  MemoryLatency,
  WriteAfterWrite,
  WriteAfterRead,
}
use Rattle.capability.specs.declared.PipelineStageRole.{PipelineStageRole}
use Rattle.capability.specs.declared.PipelineStageRole.TheVariants as role
use Rattle.capability.specs.declared.PipelineEdgeKind.TheVariants as edge
use Rattle.capability.specs.declared.PipelineEntryPhase.{PipelineEntryPhase}
use Rattle.capability.specs.declared.PipelineEntryPhase.TheVariants as entry
use Rattle.capability.specs.declared.PipelineStats.{PipelineStats}
use Rattle.capability.specs.declared.PipelineEdge.{PipelineEdge}

-- Cases have numbers below a count, each its own, and `of` is the way back.
pub record Numbered {A : Type 0} (number : A → ℕ) (of : ℕ → Option A) (count : ℕ) : Type 0 where
  pub back : (a : A) → of (number a) ≡ Some a
  pub only : (n : ℕ) (a : A) → of n ≡ Some a → number a ≡ n
  pub below : (a : A) → number a < count
  pub one_to_one : (a b : A) → number a ≡ number b → a ≡ b

-- PipelineInstructionClass::ALL
abbrev pub classes : List PipelineInstructionClass
classes = Alu ∷ Multiply ∷ Divide ∷ Load ∷ Store ∷ Branch ∷ Jump ∷ System ∷ FloatingPoint ∷ Unknown ∷ []

-- The class with a number.
unfoldable pub class_of : ℕ → Option PipelineInstructionClass
class_of n = slice_get classes n

-- All roles, in the Rust's order.
abbrev pub roles : List PipelineStageRole
roles =
    role.Fetch
    ∷ role.Decode
    ∷ role.Issue
    ∷ role.Execute
    ∷ role.Memory
    ∷ role.Writeback
    ∷ role.Commit
    ∷ role.Other
    ∷ []

-- The role with a number.
unfoldable pub role_of : ℕ → Option PipelineStageRole
role_of n = slice_get roles n

-- PipelineHazardKind::as_stall_index
abbrev pub stall_index : PipelineHazardKind → Option ℕ
stall_index ReadAfterWrite = Some 0
stall_index LoadUse = Some 1
stall_index BranchFlush = Some 2
stall_index FunctionalUnitBusy = Some 3
stall_index MemoryLatency = Some 4
stall_index WriteAfterWrite = None
stall_index WriteAfterRead = None

-- PipelineEntryPhase::occupied
abbrev pub occupied : PipelineEntryPhase → Bool
occupied entry.Free = false
occupied entry.Waiting = true
occupied entry.Armed = true
occupied entry.Executing = true
occupied entry.Finished = true
occupied entry.Committing = true

-- PipelineStats::default
abbrev pub no_stats : PipelineStats
no_stats = record {
  cycles = 0;
  committed = 0;
  stalls = 0;
  raw_stalls = 0;
  load_use_stalls = 0;
  branch_stalls = 0;
  functional_unit_stalls = 0;
  memory_stalls = 0;
  waw_stalls = 0;
  war_stalls = 0;
  flushes = 0;
  branches = 0;
}

-- PipelineEdge::sequential
abbrev pub sequential_edge : ℕ → ℕ → PipelineEdge
sequential_edge a b = record { from = a; to = b; kind = edge.Sequential }
