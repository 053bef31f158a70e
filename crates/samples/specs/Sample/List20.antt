-- List 20 of the sample, from seed 411. Made by the harness: see docs/SAMPLES.md.
use Rattle.std.specs.Prelude.{ℕ, List, [], ◌∷◌, None}
use Rattle.laws.specs.Texts.{bytes}
use Rattle.capability.specs.declared.PipelineInstructionClass.TheVariants.{Alu, Multiply, Divide, Load, Jump, System, FloatingPoint}
use Rattle.model.specs.Config.{timing, unit_spec, PipelineShape, pipeline_shape}
use Rattle.samples.specs.Lists.{Step, Case, case_of}
use Rattle.capability.specs.declared.PipelineStageRole.TheVariants as role

abbrev shape : PipelineShape
shape =
    pipeline_shape (role.Commit ∷ role.Memory ∷ role.Execute ∷ role.Memory ∷ role.Memory ∷ role.Issue ∷ role.Decode ∷ role.Execute ∷
    role.Decode ∷ role.Memory ∷ role.Issue ∷ role.Fetch ∷ role.Other ∷ role.Other ∷ role.Other ∷ role.Other ∷ []) None (timing 8 8 0
    0 2 2 0) (unit_spec (bytes "ALU") (Divide ∷ Alu ∷ Divide ∷ Alu ∷ FloatingPoint ∷ []) Jump 2 ∷ unit_spec (bytes "BR") [] Multiply
    1 ∷ unit_spec (bytes "SYS") (Multiply ∷ System ∷ Load ∷ []) System 1 ∷ []) 1

abbrev steps : List Step
steps =
    []

abbrev numbers : List ℕ
numbers =
    2094296988058129859 ∷ []

abbrev pub case_20 : Case
case_20 = case_of shape 0 199 steps numbers
