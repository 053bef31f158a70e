-- List 14 of the sample, from seed 2138. Made by the harness: see docs/SAMPLES.md.
use Rattle.std.specs.Prelude.{ℕ, true, false, List, [], ◌∷◌, None, Some}
use Rattle.laws.specs.Texts.{bytes}
use Rattle.capability.specs.declared.PipelineInstructionClass.TheVariants.{Store, Branch}
use Rattle.model.specs.Config.{timing, PipelineShape, pipeline_shape}
use Rattle.model.specs.Calls.{entry_stages, start, retire, advance, fetch, view}
use Rattle.samples.specs.Lists.{Step, shown, rest, Case, case_of, op, idle}
use Rattle.capability.specs.declared.PipelineStageRole.TheVariants as role

abbrev shape : PipelineShape
shape =
    pipeline_shape (role.Writeback ∷ role.Issue ∷ role.Execute ∷ role.Issue ∷ role.Decode ∷ role.Commit ∷ []) None (timing 1 120 120
    190 254 1 253) [] 1

abbrev steps : List Step
steps =
    shown start ∷ shown (advance None 200)
    ∷ shown (fetch (op 0 9223372036854775808 Store false false [] None (Some (bytes "x2")) [] (bytes "x2" ∷ []) 18446744073709551615)
    200)
    ∷ shown start ∷ shown (advance None 200)
    ∷ shown start ∷ shown (advance None 200)
    ∷ idle 207 200
    ∷ shown start ∷ shown (advance (Some 252) 200)
    ∷ shown start ∷ shown (advance None 200)
    ∷ shown start ∷ shown (advance None 200) ∷ shown (view entry_stages)
    ∷ shown start ∷ shown (advance None 200) ∷ shown (advance None 0)
    ∷ shown start ∷ shown (advance None 200)
    ∷ idle 45 200 ∷ shown retire ∷ shown (advance (Some 208) 200)
    ∷ shown (fetch (op 208 7 Branch true false (34 ∷ 113 ∷ 34 ∷ 32 ∷ 120 ∷ 55 ∷ []) None (Some (bytes "x2")) (bytes "x3" ∷ bytes "x2"
    ∷ bytes "x0" ∷ bytes "x2" ∷ bytes "x0" ∷ bytes "x2" ∷ bytes "x1" ∷ bytes "x0" ∷ []) (bytes "x3" ∷ bytes "x3" ∷ bytes "x1" ∷
    bytes "x1" ∷ []) 145) 200)
    ∷ shown start ∷ shown (advance None 200)
    ∷ rest ∷ []

abbrev numbers : List ℕ
numbers =
    268502256541470111 ∷ 936020539815915051 ∷ 1256210011579020245 ∷ 1884053784535953513 ∷ 1001536696243966406
    ∷ 1535106182977669913 ∷ 1206369073742552390 ∷ 910381882284503814 ∷ 2239764728123822100 ∷ 528877375744213344
    ∷ 1480877278357960351 ∷ 32318232921921101 ∷ 2276531629531215538 ∷ 703949229925299828 ∷ 642319617320900314 ∷ 1755410505416741330
    ∷ 1375580226928678555 ∷ 1313950614324279041 ∷ 1186076070632437474 ∷ 2047211223932057282 ∷ 1985581611327657768
    ∷ 1954408603642902272 ∷ 2120254612714891958 ∷ 1759033711931462824 ∷ 911768288145523988 ∷ 910910928242284859
    ∷ 1944322926179587460 ∷ 2032818714530225642 ∷ []

abbrev pub case_14 : Case
case_14 = case_of shape 0 209 steps numbers
