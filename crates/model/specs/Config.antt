-- config.rs: timing, kinds of unit, and the machine.
use Rattle.std.specs.Prelude.{ℕ, ◌+◌, ◌-◌, min, max, Bool, ◌||◌, List, [], ◌∷◌, map, eqb, length, Option, slice_get}
use Rattle.laws.specs.Optional.{value_or, when_some}
use Rattle.laws.specs.Lists.{is_empty, find_at}
use Rattle.std.specs.List.{list_any}
use Rattle.laws.specs.Texts.{Text, bytes}
use Rattle.capability.specs.declared.PipelineInstructionClass.{PipelineInstructionClass}
use Rattle.capability.specs.declared.PipelineInstructionClass.TheVariants.{
  Alu,
  Multiply,
  Divide,
  Load,
  Store,
  Branch,
  Jump,
  System,
  FloatingPoint,
  Unknown,
}
use Rattle.capability.specs.declared.PipelineStageRole.{PipelineStageRole}
use Rattle.capability.specs.declared.PipelineStageRole.TheVariants as role
use Rattle.capability.specs.Numbers.{class_number, role_number}

-- ── Classes ─────────────────────────────────────────────────────────────────

unfoldable pub same_class : PipelineInstructionClass → PipelineInstructionClass → Bool
same_class a b = eqb (class_number a) (class_number b)

unfoldable pub is_memory : PipelineInstructionClass → Bool
is_memory c = same_class c Load || same_class c Store

unfoldable pub is_system : PipelineInstructionClass → Bool
is_system c = same_class c System

-- ── PipelineTiming: the seven extras that a latency reads ────────────────────

pub record Timing : Type 0 where
  pub alu : ℕ
  pub mul : ℕ
  pub div : ℕ
  pub load : ℕ
  pub store : ℕ
  pub system : ℕ
  pub fp : ℕ

abbrev pub timing : ℕ → ℕ → ℕ → ℕ → ℕ → ℕ → ℕ → Timing
timing a m d l s y f = record { alu = a; mul = m; div = d; load = l; store = s; system = y; fp = f }

-- PipelineTiming::default
abbrev pub default_timing : Timing
default_timing = timing 0 2 19 0 0 9 4

unfoldable pub extra_cycles : Timing → PipelineInstructionClass → ℕ
extra_cycles t Alu = t.alu
extra_cycles t Multiply = t.mul
extra_cycles t Divide = t.div
extra_cycles t Load = t.load
extra_cycles t Store = t.store
extra_cycles t Branch = 0
extra_cycles t Jump = 0
extra_cycles t System = t.system
extra_cycles t FloatingPoint = t.fp
extra_cycles t Unknown = 0

unfoldable pub latency : Timing → PipelineInstructionClass → ℕ
latency t c = min (1 + extra_cycles t c) 255

-- ── UnitSpec: a kind of unit ────────────────────────────────────────────────

-- Of the classes only the set counts.
pub record UnitSpec : Type 0 where
  pub name : Text
  pub classes : List PipelineInstructionClass
  pub latency_class : PipelineInstructionClass
  pub capacity : ℕ

abbrev pub unit_spec : Text → List PipelineInstructionClass → PipelineInstructionClass → ℕ → UnitSpec
unit_spec n cs l c = record { name = n; classes = cs; latency_class = l; capacity = c }

-- A capacity of 0 reads as 1.
abbrev pub with_capacity : ℕ → UnitSpec → UnitSpec
with_capacity n k = unit_spec k.name k.classes k.latency_class (max 1 n)

-- An empty list takes every class.
unfoldable pub handles : PipelineInstructionClass → UnitSpec → Bool
handles c k = is_empty k.classes || list_any (same_class c) k.classes

-- GENERIC_UNIT: stands in where no kind is declared.
unfoldable pub generic_unit : UnitSpec
generic_unit = unit_spec (bytes "EX") [] Alu 1

-- The first kind that takes the class, or else kind 0.
unfoldable pub spec_index : List UnitSpec → PipelineInstructionClass → ℕ
spec_index ks c = value_or 0 (find_at (λ (i : ℕ) (k : UnitSpec). handles c k) 0 ks)

unfoldable pub spec_name : List UnitSpec → ℕ → Text
spec_name ks i = when_some (slice_get ks i) [] (λ (k : UnitSpec). k.name)

unfoldable pub at_least_one : UnitSpec → UnitSpec
at_least_one k = with_capacity k.capacity k

unfoldable pub specs_or_generic : List UnitSpec → List UnitSpec
specs_or_generic [] = generic_unit ∷ []
specs_or_generic (k ∷ ks) = map at_least_one (k ∷ ks)

unfoldable pub capacities : List UnitSpec → ℕ
capacities [] = 0
capacities (k ∷ ks) = k.capacity + capacities ks

-- ── PipelineShape: the machine as declared; of a stage only the role ─────────

pub record PipelineShape : Type 0 where
  pub stages : List PipelineStageRole
  pub instruction_bytes : Option ℕ
  pub times : Timing
  pub units : List UnitSpec
  pub history : ℕ

abbrev pub pipeline_shape : List PipelineStageRole → Option ℕ → Timing → List UnitSpec → ℕ → PipelineShape
pipeline_shape s b t u h = record { stages = s; instruction_bytes = b; times = t; units = u; history = h }

unfoldable pub is_execute : ℕ → PipelineStageRole → Bool
is_execute i r = eqb (role_number r) (role_number role.Execute)

-- The first Execute stage, or else the last stage.
unfoldable pub execute_stage : List PipelineStageRole → ℕ
execute_stage stages = value_or (length stages - 1) (find_at is_execute 0 stages)

unfoldable pub queue_depth : List PipelineStageRole → ℕ
queue_depth stages = max 1 (execute_stage stages)

-- ── The machine as the engine keeps it: `specs` changes with a capacity change ─

pub record Machine : Type 0 where
  pub specs : List UnitSpec
  pub times : Timing
  pub depth : ℕ
  pub history : ℕ
  pub instruction_bytes : Option ℕ

abbrev pub machine : List UnitSpec → Timing → ℕ → ℕ → Option ℕ → Machine
machine ks t d h b = record { specs = ks; times = t; depth = d; history = h; instruction_bytes = b }

abbrev pub with_specs : List UnitSpec → Machine → Machine
with_specs ks m = machine ks m.times m.depth m.history m.instruction_bytes

unfoldable pub machine_of : PipelineShape → Machine
machine_of d = machine (specs_or_generic d.units) d.times (queue_depth d.stages) (max 1 d.history) d.instruction_bytes

-- All of these unfold where a line says `unfolding config`.
unfoldable pub config : Unit {0}
unfolding same_class is_memory is_system extra_cycles latency handles generic_unit spec_index spec_name at_least_one
    specs_or_generic capacities is_execute execute_stage queue_depth machine_of
config = tt
