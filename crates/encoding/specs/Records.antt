-- The bytes of an operation (382), of a kind of unit (28) and of a machine (555): the parts in order.
use Rattle.std.specs.Prelude.{ℕ, Bool, length}
use mathlib.Core.List.{List, [], ◌∷◌, map, flatten}
use Rattle.std.specs.List.{list_any}
use Rattle.laws.specs.Texts.{Text}
use Rattle.capability.specs.declared.PipelineInstructionClass.{PipelineInstructionClass}
use Rattle.capability.specs.declared.PipelineInstructionClass.TheVariants.{Alu}
use Rattle.capability.specs.declared.PipelineStageRole.TheVariants.{Fetch}
use Rattle.capability.specs.Cases.{classes}
use Rattle.model.specs.Op.{Given}
use Rattle.model.specs.Config.{same_class, Timing, UnitSpec, unit_spec, PipelineShape}
use Rattle.encoding.specs.Parts.{byte, number_bytes, flag_bytes, class_bytes, role_bytes, text_bytes, optional_bytes, parts_bytes}

abbrev pub text_of : Text → List ℕ
text_of t = text_bytes 64 t

abbrev pub name_of : Text → List ℕ
name_of t = text_bytes 16 t

abbrev pub op_parts : Given → List (List ℕ)
op_parts g =
    number_bytes g.decoded.address
    ∷ number_bytes g.decoded.size
    ∷ class_bytes g.decoded.class
    ∷ flag_bytes g.decoded.branch
    ∷ flag_bytes g.decoded.atomic
    ∷ number_bytes g.info.payload
    ∷ text_of g.info.disassembly
    ∷ optional_bytes text_of [] g.info.fault
    ∷ optional_bytes name_of [] g.info.destination
    ∷ byte (length g.info.sources)
    ∷ parts_bytes name_of 8 [] g.info.sources
    ∷ byte (length g.info.writes)
    ∷ parts_bytes name_of 4 [] g.info.writes
    ∷ []

unfoldable pub op_bytes : Given → List ℕ
op_bytes g = flatten (op_parts g)

-- Ten flags, one a class: is it listed?
unfoldable pub flags_of : List PipelineInstructionClass → List Bool
flags_of cs = map (λ (c : PipelineInstructionClass). list_any (same_class c) cs) classes

abbrev pub kind_parts : UnitSpec → List (List ℕ)
kind_parts k =
    text_bytes 8 k.name
    ∷ flatten (map flag_bytes (flags_of k.classes))
    ∷ class_bytes k.latency_class
    ∷ number_bytes k.capacity
    ∷ []

unfoldable pub kind_bytes : UnitSpec → List ℕ
kind_bytes k = flatten (kind_parts k)

-- 28 bytes of 0.
abbrev pub spare_kind : UnitSpec
spare_kind = unit_spec [] [] Alu 0

abbrev pub extras : Timing → List ℕ
extras t = t.alu ∷ t.mul ∷ t.div ∷ t.load ∷ t.store ∷ t.system ∷ t.fp ∷ []

-- A machine, the address to start at, and the bytes of cell memory lent to making.
abbrev pub machine_parts : PipelineShape → ℕ → ℕ → List (List ℕ)
machine_parts d entry lent =
    flatten (map number_bytes (extras d.times))
    ∷ optional_bytes number_bytes 0 d.instruction_bytes
    ∷ number_bytes entry
    ∷ number_bytes d.history
    ∷ number_bytes lent
    ∷ byte (length d.stages)
    ∷ parts_bytes role_bytes 16 Fetch d.stages
    ∷ byte (length d.units)
    ∷ parts_bytes kind_bytes 16 spare_kind d.units
    ∷ []

unfoldable pub machine_bytes : PipelineShape → ℕ → ℕ → List ℕ
machine_bytes d entry lent = flatten (machine_parts d entry lent)
