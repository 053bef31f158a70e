-- List 19 of the sample, from seed 1022. Made by the harness: see docs/SAMPLES.md.
use Rattle.std.specs.Prelude.{ℕ, List, [], ◌∷◌, Some}
use Rattle.laws.specs.Texts.{bytes}
use Rattle.capability.specs.declared.PipelineInstructionClass.TheVariants.{Alu, Divide, Store, Branch, Jump}
use Rattle.model.specs.Config.{timing, unit_spec, PipelineShape, pipeline_shape}
use Rattle.samples.specs.Lists.{Step, Case, case_of}
use Rattle.capability.specs.declared.PipelineStageRole.TheVariants as role

abbrev shape : PipelineShape
shape =
    pipeline_shape (role.Memory ∷ role.Execute ∷ role.Issue ∷ []) (Some 4) (timing 0 0 1 3 0 8 0) (unit_spec (bytes "A") (Store ∷
    Branch ∷ Alu ∷ Divide ∷ Jump ∷ Store ∷ []) Jump 65 ∷ []) 0

abbrev steps : List Step
steps =
    []

abbrev numbers : List ℕ
numbers =
    1300493896065386334 ∷ []

abbrev pub case_19 : Case
case_19 = case_of shape 0 198 steps numbers
