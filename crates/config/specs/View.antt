-- What the structs mean to the model: those of a caller for every value.
use Rattle.std.specs.Prelude.{ℕ, ◌-◌, Bool, false, cond, List, [], ◌++◌, map, length, get_or, take, replicate}
use Rattle.laws.specs.Lists.{keep}
use Rattle.capability.specs.declared.PipelineInstructionClass.{PipelineInstructionClass}
use Rattle.capability.specs.declared.PipelineStageRole.{PipelineStageRole}
use Rattle.capability.specs.declared.PipelineStageRole.TheVariants.{Other}
use Rattle.capability.specs.Numbers.{class_number}
use Rattle.capability.specs.Cases.{classes}
use Rattle.model.specs.Config.{Timing, timing, UnitSpec, unit_spec, generic_unit, PipelineShape, pipeline_shape, Machine, machine}
use Rattle.op.specs.Chars.{view_text}
use Rattle.config.specs.declared.PipelineTiming.{PipelineTiming}
use Rattle.config.specs.declared.UnitSpec.{UnitSpec as DeclaredUnit}
use Rattle.config.specs.declared.StageSpec.{StageSpec}
use Rattle.config.specs.declared.PipelineShape.{PipelineShape as DeclaredShape}
use Rattle.config.specs.declared.Spec.{Spec}
use Rattle.config.specs.declared.Machine.{Machine as KeptMachine}

abbrev pub view_timing : PipelineTiming → Timing
view_timing t = timing t.alu t.mul t.div t.load t.store t.system t.fp

-- ── As declared ─────────────────────────────────────────────────────────────

-- Is the flag of a class set?
unfoldable pub flag : List Bool → PipelineInstructionClass → Bool
flag flags c = get_or flags (class_number c) false

-- The classes whose flag is set, in class order.
unfoldable pub flagged : List Bool → List PipelineInstructionClass
flagged flags = keep (flag flags) classes

unfoldable pub view_unit_spec : DeclaredUnit → UnitSpec
view_unit_spec u = unit_spec (view_text u.name) (flagged u.classes) u.latency_class u.capacity

unfoldable pub view_stage : StageSpec → PipelineStageRole
view_stage s = s.role

-- n entries: the array's, and past its end spare ones.
unfoldable pub padded : {A : Type 0} → A → ℕ → List A → List A
padded spare n l = take n l ++ replicate (n - length l) spare

unfoldable pub view_shape : DeclaredShape → PipelineShape
view_shape d =
    pipeline_shape (padded Other d.stages_len (map view_stage d.stages)) d.instruction_bytes
    (view_timing d.timing) (padded generic_unit d.units_len (map view_unit_spec d.units)) d.history

-- ── As kept ─────────────────────────────────────────────────────────────────

-- `every` is kept of an empty list; the flags are then all set.
unfoldable pub view_spec : Spec → UnitSpec
view_spec k =
    unit_spec (view_text k.name) (cond k.every [] (flagged k.classes)) k.latency_class k.capacity

-- The first n kinds.
unfoldable pub view_specs : ℕ → List Spec → List UnitSpec
view_specs n ks = take n (map view_spec ks)

unfoldable pub view_machine : KeptMachine → Machine
view_machine m =
    machine (view_specs m.specs_len m.specs) (view_timing m.timing) m.depth m.history
    m.instruction_bytes

-- All of these unfold where a line says `unfolding views`.
unfoldable pub views : Unit {0}
unfolding flag flagged view_unit_spec view_stage padded view_shape view_spec view_specs view_machine
views = tt
