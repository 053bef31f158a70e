-- List 21 of the sample, from seed 2438. Made by the harness: see docs/SAMPLES.md.
use Rattle.std.specs.Prelude.{ℕ, List, [], ◌∷◌, Some}
use Rattle.laws.specs.Texts.{bytes}
use Rattle.capability.specs.declared.PipelineInstructionClass.TheVariants.{Alu, Multiply, Divide, Jump, System, FloatingPoint, Unknown}
use Rattle.model.specs.Config.{timing, unit_spec, PipelineShape, pipeline_shape}
use Rattle.samples.specs.Lists.{Step, Case, case_of}
use Rattle.capability.specs.declared.PipelineStageRole.TheVariants as role

abbrev shape : PipelineShape
shape =
    pipeline_shape (role.Writeback ∷ role.Decode ∷ role.Execute ∷ []) (Some 0) (timing 8 2 18446744073709551615 2 3 0 1) (unit_spec
    (bytes "EX") (Divide ∷ System ∷ Unknown ∷ Divide ∷ Multiply ∷ System ∷ Jump ∷ FloatingPoint ∷ Alu ∷ []) Divide 2 ∷ unit_spec
    (bytes "LSU") [] FloatingPoint 1 ∷ []) 2

abbrev steps : List Step
steps =
    []

abbrev numbers : List ℕ
numbers =
    1214387596381961688 ∷ []

abbrev pub case_21 : Case
case_21 = case_of shape 0 393 steps numbers
