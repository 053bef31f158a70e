-- List 10 of the sample, from seed 327. Made by the harness: see docs/SAMPLES.md.
use Rattle.std.specs.Prelude.{ℕ, List, [], ◌∷◌, None}
use Rattle.laws.specs.Texts.{bytes}
use Rattle.capability.specs.declared.PipelineInstructionClass.TheVariants.{Alu, Multiply, Divide, Load, System, FloatingPoint, Unknown}
use Rattle.model.specs.Config.{timing, unit_spec, PipelineShape, pipeline_shape}
use Rattle.samples.specs.Lists.{Step, Case, case_of}
use Rattle.capability.specs.declared.PipelineStageRole.TheVariants as role

abbrev shape : PipelineShape
shape =
    pipeline_shape (role.Writeback ∷ role.Memory ∷ role.Fetch ∷ role.Other ∷ role.Execute ∷ role.Other ∷ role.Other ∷ role.Other ∷
    role.Other ∷ role.Other ∷ role.Other ∷ role.Other ∷ role.Other ∷ role.Other ∷ role.Other ∷ role.Other ∷ role.Other ∷ []) None
    (timing 0 5 2 2 0 2 18446744073709551615) (unit_spec (bytes "SYS") (Multiply ∷ Divide ∷ Unknown ∷ Alu ∷ System ∷ Load ∷ [])
    FloatingPoint 3 ∷ []) 1

abbrev steps : List Step
steps =
    []

abbrev numbers : List ℕ
numbers =
    35563176793803848 ∷ []

abbrev pub case_10 : Case
case_10 = case_of shape 1 200 steps numbers
