-- List 8 of the sample, from seed 2305. Made by the harness: see docs/SAMPLES.md.
use Rattle.std.specs.Prelude.{ℕ, true, false, List, [], ◌∷◌, None, Some}
use Rattle.laws.specs.Texts.{bytes}
use Rattle.capability.specs.declared.PipelineInstructionClass.TheVariants.{
  Alu,
  Multiply,
  Divide,
  Load,
  Store,
  Branch,
  Jump,
  System,
  FloatingPoint,
  Unknown,
}
use Rattle.model.specs.Config.{timing, unit_spec, PipelineShape, pipeline_shape}
use Rattle.model.specs.Calls.{start, retire, resolve, advance, fetch, overlap}
use Rattle.samples.specs.Lists.{Step, shown, rest, Case, case_of, op}
use Rattle.capability.specs.declared.PipelineStageRole.TheVariants as role

abbrev shape : PipelineShape
shape =
    pipeline_shape (role.Commit ∷ role.Commit ∷ role.Commit ∷ role.Execute ∷ role.Commit ∷ role.Memory ∷ role.Issue ∷ role.Commit ∷
    role.Other ∷ role.Memory ∷ role.Issue ∷ role.Fetch ∷ role.Issue ∷ role.Issue ∷ role.Fetch ∷ role.Fetch ∷ []) None (timing 0 3 1 0
    0 5 5) (unit_spec (bytes " ") (Alu ∷ Branch ∷ Divide ∷ Multiply ∷ []) FloatingPoint 2 ∷ unit_spec (bytes " ") [] Multiply 2 ∷
    unit_spec (bytes "A") (System ∷ Store ∷ Load ∷ Branch ∷ []) Divide 2 ∷ unit_spec (bytes "DIV") [] Store 2 ∷ unit_spec
    (bytes "DIV") (Jump ∷ Divide ∷ Store ∷ Load ∷ []) Divide 3 ∷ []) 1

abbrev steps : List Step
steps =
    shown (overlap true)
    ∷ shown start ∷ shown (advance None 200)
    ∷ shown (fetch (op 9223372036854775808 5 Unknown false false (bytes "nop x0") (Some (bytes "page fault")) None (bytes "x7" ∷
    bytes "x4" ∷ bytes "x3" ∷ []) [] 775) 200)
    ∷ shown start ∷ shown (advance None 200)
    ∷ shown (fetch (op 9223372036854775813 8 Unknown false false (34 ∷ 113 ∷ 34 ∷ 32 ∷ 120 ∷ 55 ∷ []) None (Some (31 ∷ []))
    (bytes "x7" ∷ bytes "x1" ∷ bytes "x2" ∷ []) (bytes "a.0" ∷ bytes "x1" ∷ bytes "x2" ∷ bytes "x7" ∷ bytes "x0" ∷ []) 735) 200)
    ∷ shown (fetch (op 9223372036854775813 13 Alu false true [] None (Some (bytes "x2")) (bytes "rflags" ∷ bytes "x1" ∷ bytes "x5" ∷
    []) (bytes "x2" ∷ bytes "x4" ∷ []) 987) 200)
    ∷ shown start ∷ shown (advance None 200)
    ∷ shown (fetch (op 9223372036854775826 2 Alu false false (bytes "jal x6") None None [] [] 159) 200)
    ∷ shown start ∷ shown (advance None 200)
    ∷ shown start ∷ shown (advance None 200)
    ∷ shown start ∷ shown retire ∷ shown (advance None 200)
    ∷ shown (fetch (op 1 5 FloatingPoint false false (32 ∷ 126 ∷ 92 ∷ 34 ∷ []) (Some
    (bytes "ffffffffffffffffffffffffffffffffffffffffffffffffffffffffffffffff")) None (bytes "x2" ∷ bytes "x3" ∷ bytes "x1" ∷ [])
    (bytes "x6" ∷ bytes "b.0" ∷ bytes "x7" ∷ []) 585) 200)
    ∷ shown start ∷ shown retire ∷ shown (advance None 200)
    ∷ shown (fetch (op 6 0 Branch true true (bytes "  lw  x1 ") None (Some (bytes "x3")) (bytes "x1" ∷ []) (bytes "x3" ∷ []) 902) 200)
    ∷ shown start ∷ shown retire ∷ shown (advance None 200)
    ∷ shown (fetch (op 7 4 FloatingPoint false false (bytes "beq x9") None (Some (bytes "shown")) (bytes "c.0" ∷ bytes " x 1" ∷ [])
    (bytes "x4" ∷ bytes "x4" ∷ []) 335) 200)
    ∷ shown start ∷ shown (advance None 200)
    ∷ shown start ∷ shown (advance None 200)
    ∷ shown (fetch (op 11 1 FloatingPoint false true (bytes "jal x7") (Some []) (Some (bytes "shown")) (bytes "x2" ∷ bytes "x1" ∷
    bytes "x3" ∷ bytes "x5" ∷ []) (bytes "x5" ∷ bytes "x4" ∷ []) 615) 200)
    ∷ shown start ∷ shown (advance None 200)
    ∷ shown (fetch (op 12 3 Unknown false false (bytes "div x7") None (Some (bytes "x1")) (bytes "x1" ∷ bytes "x5" ∷ bytes "x7" ∷ [])
    (bytes "x1" ∷ []) 18446744073709551615) 200)
    ∷ shown start ∷ shown (advance None 200)
    ∷ shown start ∷ shown (advance None 200)
    ∷ shown start ∷ shown (advance None 200)
    ∷ shown start ∷ shown (advance None 200)
    ∷ shown start ∷ shown retire ∷ shown (resolve 16) ∷ shown (advance None 200)
    ∷ shown start ∷ shown (resolve 7) ∷ shown (resolve 212) ∷ shown retire ∷ shown retire ∷ shown (advance (Some 212) 200)
    ∷ shown (fetch (op 212 10 Divide false false (bytes "lw x4") (Some []) (Some (bytes "x6")) [] (bytes "x6" ∷ []) 530) 199)
    ∷ rest ∷ []

abbrev numbers : List ℕ
numbers =
    697960317076875081 ∷ 1953308101460267573 ∷ 1687224706187041926 ∷ 733329222216256162 ∷ 1699221980482928843
    ∷ 961528927695888224 ∷ 795241743511162980 ∷ 306024040677042632 ∷ 1121323292615888332 ∷ 219345133802590212 ∷ 31016681173340043
    ∷ 1175929929618558108 ∷ 2271039668788513073 ∷ 1679866728523455873 ∷ 516169643681136827 ∷ 1507663471056512611 ∷ 71495931108926022
    ∷ 1910311714730758729 ∷ 771155068412122189 ∷ 1943351357144202493 ∷ 1792928608291698358 ∷ 1074566804067886825
    ∷ 418311094063960545 ∷ 726188425651783401 ∷ 907216411497080760 ∷ 1497927678017909640 ∷ 2104671103369927815 ∷ 1375163353711628544
    ∷ 856134489784638971 ∷ 774737007750258938 ∷ 2030836262448070115 ∷ 526201888107348466 ∷ 1825908921588050973 ∷ 1280033219473392821
    ∷ 1599767415210190937 ∷ 611090731910582186 ∷ 65417707959862731 ∷ 640225064381063685 ∷ 1417835887278191992 ∷ 1103366415815104250
    ∷ 2274065474869039793 ∷ 951359005196498574 ∷ 2462034983632393 ∷ 1487421844862101758 ∷ 1253016914233385565 ∷ 639240767621471696
    ∷ 1311049110319145329 ∷ 2015413004787728975 ∷ 1325777231137028670 ∷ 1971446637336597812 ∷ 777702254552853401
    ∷ 777290410941807188 ∷ 879871151779591292 ∷ 2303977426767757253 ∷ 616773820161267720 ∷ 1914558834503041172 ∷ []

abbrev pub case_8 : Case
case_8 = case_of shape 9223372036854775808 200 steps numbers
