-- List 11 of the sample, from seed 692. Made by the harness: see docs/SAMPLES.md.
use Rattle.std.specs.Prelude.{ℕ, List, [], ◌∷◌, None}
use Rattle.laws.specs.Texts.{bytes}
use Rattle.capability.specs.declared.PipelineInstructionClass.TheVariants.{Divide, Branch, Jump, System, FloatingPoint, Unknown}
use Rattle.model.specs.Config.{timing, unit_spec, PipelineShape, pipeline_shape}
use Rattle.samples.specs.Lists.{Step, Case, case_of}
use Rattle.capability.specs.declared.PipelineStageRole.TheVariants as role

abbrev shape : PipelineShape
shape =
    pipeline_shape (role.Commit ∷ role.Decode ∷ role.Commit ∷ role.Other ∷ role.Issue ∷ []) None (timing 18446744073709551615 0 3 0 0
    1 0) (unit_spec (126 ∷ 34 ∷ 92 ∷ 120 ∷ []) [] Jump 0 ∷ unit_spec (bytes "DIV") (Branch ∷ System ∷ Divide ∷ Unknown ∷ []) Unknown
    0 ∷ unit_spec (bytes "SYS") [] FloatingPoint 0 ∷ unit_spec (bytes "FPU") (System ∷ Unknown ∷ []) System 61 ∷ []) 0

abbrev steps : List Step
steps =
    []

abbrev numbers : List ℕ
numbers =
    459045872200350026 ∷ []

abbrev pub case_11 : Case
case_11 = case_of shape 0 200 steps numbers
