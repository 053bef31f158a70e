-- List 4 of the sample, from seed 603. Made by the harness: see docs/SAMPLES.md.
use Rattle.std.specs.Prelude.{ℕ, List, [], ◌∷◌, None}
use Rattle.laws.specs.Texts.{bytes}
use Rattle.capability.specs.declared.PipelineInstructionClass.TheVariants.{
  Alu,
  Multiply,
  Divide,
  Load,
  Store,
  Branch,
  Jump,
  System,
  FloatingPoint,
  Unknown,
}
use Rattle.model.specs.Config.{timing, unit_spec, PipelineShape, pipeline_shape}
use Rattle.samples.specs.Lists.{Step, Case, case_of}
use Rattle.capability.specs.declared.PipelineStageRole.TheVariants as role

abbrev shape : PipelineShape
shape =
    pipeline_shape (role.Decode ∷ role.Decode ∷ role.Other ∷ role.Other ∷ role.Execute ∷ role.Writeback ∷ role.Fetch ∷ role.Commit ∷
    role.Commit ∷ role.Decode ∷ role.Memory ∷ role.Decode ∷ role.Fetch ∷ role.Decode ∷ []) None (timing 2 0 1 5 0 3 1) (unit_spec
    (bytes "DIV") [] Multiply 1 ∷ unit_spec (bytes "A") [] Jump 1 ∷ unit_spec (126 ∷ 34 ∷ 92 ∷ 120 ∷ []) [] FloatingPoint 1 ∷
    unit_spec (bytes "WR") [] FloatingPoint 1 ∷ unit_spec (bytes " ") [] Store 1 ∷ unit_spec (bytes " ") (Load ∷ Divide ∷ Divide ∷
    []) Alu 1 ∷ unit_spec (bytes "FPU") [] Load 1 ∷ unit_spec (bytes "SYS") (Load ∷ []) Jump 1 ∷ unit_spec (bytes "IF") (Load ∷
    Divide ∷ Divide ∷ Multiply ∷ Alu ∷ Multiply ∷ Divide ∷ Alu ∷ []) Load 1 ∷ unit_spec (bytes "12345678") [] Unknown 1 ∷ unit_spec
    (bytes "WR") [] Unknown 1 ∷ unit_spec (bytes "FPU") [] Load 1 ∷ unit_spec (bytes "DIV") (Branch ∷ Store ∷ Divide ∷ Multiply ∷ [])
    Multiply 1 ∷ unit_spec (bytes "WR") (Jump ∷ Multiply ∷ Jump ∷ Load ∷ Load ∷ []) Store 1 ∷ unit_spec (bytes "12345678") [] Branch
    1 ∷ unit_spec (bytes "EX") (Load ∷ Store ∷ []) System 1 ∷ []) 257

abbrev steps : List Step
steps =
    []

abbrev numbers : List ℕ
numbers =
    35563176793803848 ∷ []

abbrev pub case_4 : Case
case_4 = case_of shape 1267219569 200 steps numbers
