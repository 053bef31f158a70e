-- List 6 of the sample, from seed 1992. Made by the harness: see docs/SAMPLES.md.
use Rattle.std.specs.Prelude.{ℕ, List, [], ◌∷◌, None}
use Rattle.capability.specs.declared.PipelineInstructionClass.TheVariants.{Divide, System}
use Rattle.model.specs.Config.{timing, unit_spec, PipelineShape, pipeline_shape}
use Rattle.samples.specs.Lists.{Step, Case, case_of}
use Rattle.capability.specs.declared.PipelineStageRole.TheVariants as role

abbrev shape : PipelineShape
shape =
    pipeline_shape (role.Decode ∷ role.Writeback ∷ []) None (timing 2 0 8 1 3 18446744073709551615 0) (unit_spec (97 ∷ 127 ∷ [])
    (System ∷ []) Divide 1 ∷ []) 1

abbrev steps : List Step
steps =
    []

abbrev numbers : List ℕ
numbers =
    1767741698654592746 ∷ []

abbrev pub case_6 : Case
case_6 = case_of shape 0 194 steps numbers
