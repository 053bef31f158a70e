-- List 9 of the sample, from seed 766. Made by the harness: see docs/SAMPLES.md.
use Rattle.std.specs.Prelude.{ℕ, List, [], ◌∷◌, None}
use Rattle.laws.specs.Texts.{bytes}
use Rattle.capability.specs.declared.PipelineInstructionClass.TheVariants.{
  Alu,
  Multiply,
  Divide,
  Load,
  Store,
  Branch,
  Jump,
  System,
  FloatingPoint,
  Unknown,
}
use Rattle.model.specs.Config.{timing, unit_spec, PipelineShape, pipeline_shape}
use Rattle.samples.specs.Lists.{Step, Case, case_of}
use Rattle.capability.specs.declared.PipelineStageRole.TheVariants as role

abbrev shape : PipelineShape
shape =
    pipeline_shape (role.Writeback ∷ role.Fetch ∷ role.Issue ∷ role.Execute ∷ []) None (timing 2 3 8 1 8 1 8) (unit_spec
    (bytes "SYS") (Branch ∷ Alu ∷ Divide ∷ []) FloatingPoint 1 ∷ unit_spec (bytes "FPU") [] Store 1 ∷ unit_spec (bytes "A") (Multiply
    ∷ []) Load 1 ∷ unit_spec (bytes "A") (Multiply ∷ Alu ∷ Divide ∷ Divide ∷ []) Store 1 ∷ unit_spec (bytes "12345678") (Jump ∷
    FloatingPoint ∷ Jump ∷ []) Divide 1 ∷ unit_spec (bytes "12345678") [] FloatingPoint 1 ∷ unit_spec (bytes "DIV") (Alu ∷
    FloatingPoint ∷ Branch ∷ FloatingPoint ∷ Load ∷ []) Divide 1 ∷ unit_spec (bytes "WR") (System ∷ Alu ∷ []) Store 1 ∷ unit_spec
    (bytes "ALU") (Divide ∷ []) System 1 ∷ unit_spec (bytes "FPU") (FloatingPoint ∷ Load ∷ System ∷ Multiply ∷ Store ∷ Multiply ∷
    Jump ∷ Store ∷ []) Branch 1 ∷ unit_spec (bytes "ALU") (Store ∷ System ∷ Store ∷ Load ∷ Alu ∷ FloatingPoint ∷ Alu ∷ Multiply ∷ [])
    Load 1 ∷ unit_spec (bytes "IF") (Jump ∷ Branch ∷ FloatingPoint ∷ Unknown ∷ Multiply ∷ Branch ∷ Jump ∷ Jump ∷ Store ∷ Alu ∷ [])
    Load 1 ∷ unit_spec (bytes "12345678") (Unknown ∷ Multiply ∷ Unknown ∷ Divide ∷ []) Unknown 1 ∷ unit_spec (bytes " ") (Divide ∷
    Divide ∷ FloatingPoint ∷ Multiply ∷ []) FloatingPoint 1 ∷ unit_spec (bytes "IF") [] Multiply 1 ∷ unit_spec (bytes "EX") (Alu ∷
    System ∷ []) Unknown 1 ∷ unit_spec (bytes "123456789") (Alu ∷ []) FloatingPoint 1 ∷ []) 1

abbrev steps : List Step
steps =
    []

abbrev numbers : List ℕ
numbers =
    35563176793803848 ∷ []

abbrev pub case_9 : Case
case_9 = case_of shape 0 200 steps numbers
