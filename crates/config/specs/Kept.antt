-- What holds of the machine that the engine keeps.
use Rattle.std.specs.Prelude.{◌≤◌, ◌≡◌, false, List, length}
use Rattle.laws.specs.Lists.{All}
use Rattle.capability.specs.declared.PipelineInstructionClass.{PipelineInstructionClass}
use Rattle.model.specs.Config.{UnitSpec, handles, capacities}
use Rattle.model.specs.Calls.{bad_spec_name, extra_overflows}
use Rattle.config.specs.declared.Spec.{Spec}
use Rattle.config.specs.declared.Machine.{Machine}
use Rattle.config.specs.View.{flag, view_spec, view_machine}

-- A kind within the limits, before its capacity is read as at least 1.
pub record KindOk (k : UnitSpec) : Type 0 where
  pub named : bad_spec_name k ≡ false
  pub most : k.capacity ≤ 64

-- The flag of a class says whether the kind takes it.
pub record SpecOk (k : Spec) : Type 0 where
  pub bytes : length k.name.bytes ≡ 8
  pub flags : length k.classes ≡ 10
  pub takes : (c : PipelineInstructionClass) → flag k.classes c ≡ handles c (view_spec k)
  pub kind : KindOk (view_spec k)
  pub least : 1 ≤ k.capacity

pub record SpecsOk (ks : List Spec) : Type 0 where
  pub size : length ks ≡ 16
  pub each : All SpecOk ks

pub record MachineOk (m : Machine) : Type 0 where
  pub specs : SpecsOk m.specs
  pub some : 1 ≤ m.specs_len
  pub few : m.specs_len ≤ 16
  pub units : capacities (view_machine m).specs ≤ 64
  pub timed : extra_overflows (view_machine m).times ≡ false
  pub depth_least : 1 ≤ m.depth
  pub depth_most : m.depth ≤ 15
  pub history_least : 1 ≤ m.history
  pub history_most : m.history ≤ 256
