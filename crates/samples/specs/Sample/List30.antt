-- List 30 of the sample, from seed 2476. Made by the harness: see docs/SAMPLES.md.
use Rattle.std.specs.Prelude.{ℕ, true, false, List, [], ◌∷◌, None, Some}
use Rattle.laws.specs.Texts.{bytes}
use Rattle.capability.specs.declared.PipelineInstructionClass.TheVariants.{Alu, Multiply, Branch, Jump, Unknown}
use Rattle.model.specs.Config.{timing, unit_spec, PipelineShape, pipeline_shape}
use Rattle.model.specs.Requests.{cell_label}
use Rattle.model.specs.Calls.{rename_count, start, retire, advance, fetch, overlap, view, text}
use Rattle.samples.specs.Lists.{Step, shown, rest, Case, case_of, op, idle}
use Rattle.capability.specs.declared.PipelineStageRole.TheVariants as role

abbrev shape : PipelineShape
shape =
    pipeline_shape (role.Decode ∷ []) (Some 18446744073709551614) (timing 1 255 18446744073709551614 120 190 255 255) (unit_spec
    (bytes "DIV") (Multiply ∷ Unknown ∷ Alu ∷ []) Branch 0 ∷ []) 1

abbrev steps : List Step
steps =
    shown (overlap true)
    ∷ shown start ∷ shown (advance None 200)
    ∷ shown (fetch (op 0 13 Alu false false (bytes "ecall x8") None (Some (bytes "shown")) (bytes "x6" ∷ bytes "a.0" ∷ bytes "b.0" ∷
    bytes "x1" ∷ []) (bytes "x5" ∷ bytes "x2" ∷ bytes "x2" ∷ []) 416) 200)
    ∷ shown start ∷ shown (advance None 200)
    ∷ shown (fetch (op 18446744073709551614 13 Unknown false false (bytes "div x7") (Some
    (bytes "ffffffffffffffffffffffffffffffffffffffffffffffffffffffffffffffff")) None [] [] 365) 200) ∷ shown (text (cell_label 9) 0)
    ∷ idle 5 200 ∷ shown retire ∷ shown (advance None 200)
    ∷ shown (fetch (op 18446744073709551612 13 Alu false false (bytes "? x2") None (Some (bytes "x5")) (bytes "x5" ∷ bytes "x6" ∷
    bytes "x4" ∷ bytes "x7" ∷ bytes "x0" ∷ bytes "x2" ∷ bytes "x2" ∷ bytes "x4" ∷ []) (bytes "x4" ∷ bytes "x2" ∷ bytes "x0" ∷
    bytes "x2" ∷ bytes "x0" ∷ []) 309) 200)
    ∷ shown (fetch (op 18446744073709551612 0 Jump false true (bytes "div x4") None (Some (bytes "sixteen-bytes-ok")) (bytes "c.0" ∷
    bytes "x2" ∷ bytes "x7" ∷ []) (bytes "x5" ∷ bytes "d.0" ∷ []) 965) 200)
    ∷ shown start ∷ shown (advance None 200)
    ∷ idle 3 200 ∷ shown retire ∷ shown (advance None 200)
    ∷ shown (fetch (op 18446744073709551610 0 Jump false true (bytes "? x8") None (Some (bytes "x2")) (bytes "x5" ∷ bytes "x7" ∷ [])
    (bytes "x2" ∷ bytes "x3" ∷ []) 324) 200)
    ∷ shown start ∷ shown (advance None 205) ∷ shown (view rename_count)
    ∷ idle 3 200 ∷ shown retire ∷ shown (advance None 200)
    ∷ rest ∷ []

abbrev numbers : List ℕ
numbers =
    757632374595929639 ∷ 1262975092302046228 ∷ 281147383993995914 ∷ 1567287188101645042 ∷ 1070335126989968441 ∷ 44720142701552060
    ∷ 989901019698712896 ∷ 718830731779436014 ∷ 634630837915519425 ∷ 135720558164253443 ∷ 571199578756116396 ∷ 837129448687642414
    ∷ 405273355879311375 ∷ 1128918501694608856 ∷ 2056313583164288372 ∷ 1433169701626573180 ∷ 885194457877326676
    ∷ 1778878280480216452 ∷ 769169555886505334 ∷ 1629226897066096790 ∷ 1879508341117683870 ∷ 1103600482748268934
    ∷ 1039096121524402026 ∷ 2279243415112788524 ∷ 385693809582227055 ∷ 1673465063056431478 ∷ 118688693913040565 ∷ []

abbrev pub case_30 : Case
case_30 = case_of shape 0 201 steps numbers
