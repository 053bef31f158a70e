-- List 32 of the sample, from seed 1392. Made by the harness: see docs/SAMPLES.md.
use Rattle.std.specs.Prelude.{ℕ, true, false, List, [], ◌∷◌, None, Some}
use Rattle.laws.specs.Texts.{bytes}
use Rattle.capability.specs.declared.PipelineInstructionClass.TheVariants.{
  Alu,
  Multiply,
  Divide,
  Load,
  Store,
  Branch,
  FloatingPoint,
  Unknown,
}
use Rattle.model.specs.Config.{timing, unit_spec, PipelineShape, pipeline_shape}
use Rattle.model.specs.Calls.{start, retire, retry, resolve, advance, fetch, capacity, overlap}
use Rattle.samples.specs.Lists.{Step, shown, rest, Case, case_of, op}
use Rattle.capability.specs.declared.PipelineStageRole.TheVariants as role

abbrev shape : PipelineShape
shape =
    pipeline_shape (role.Decode ∷ role.Decode ∷ role.Execute ∷ []) (Some 18446744073709551615) (timing 0 9 14 1 0 4 0) (unit_spec
    (bytes "MUL") [] Branch 5 ∷ []) 2

abbrev steps : List Step
steps =
    shown (overlap true)
    ∷ shown start ∷ shown (advance None 400)
    ∷ shown (fetch (op 4263557633 9 Load false false (bytes "sw x7") None (Some (bytes "shown")) [] ([] ∷ []) 449) 400)
    ∷ shown start ∷ shown (advance None 400)
    ∷ shown (fetch (op 4263557632 12 Load false false (bytes "  add  x1 ") None (Some (bytes "sixteen-bytes-ok")) ([] ∷ bytes "x1" ∷
    []) (bytes "x5" ∷ bytes "x7" ∷ bytes "x8" ∷ []) 374) 400)
    ∷ shown start ∷ shown (advance None 400)
    ∷ shown (fetch (op 4263557631 8 Alu false true (bytes "sub x3") (Some
    (bytes "ffffffffffffffffffffffffffffffffffffffffffffffffffffffffffffffff")) (Some []) [] [] 202) 400)
    ∷ shown start ∷ shown (advance None 400)
    ∷ shown (fetch (op 4263557630 6 Divide false false (bytes "sw x8") None (Some []) (bytes "x0" ∷ []) (bytes "x3" ∷ []) 827) 400)
    ∷ shown start ∷ shown (advance None 400)
    ∷ shown (fetch (op 4263557629 2 Load false false (bytes "? x1") None None (bytes "x0" ∷ bytes "x8" ∷ []) [] 18446744073709551615)
    400)
    ∷ shown start ∷ shown (advance None 400)
    ∷ shown (fetch (op 4263557628 5 Unknown false false (bytes "add x6") None (Some (bytes "x7")) (bytes "x0" ∷ []) (bytes "x7" ∷ [])
    111) 400)
    ∷ shown start ∷ shown retire ∷ shown (advance None 400)
    ∷ shown (fetch (op 4263557627 5 Load false false (bytes "sub x8") None (Some (bytes "rflags")) ([] ∷ bytes "x3" ∷ [])
    (bytes "rflags" ∷ bytes "x7" ∷ bytes "rflags" ∷ []) 619) 400)
    ∷ shown start ∷ shown (retry []) ∷ shown (advance None 400)
    ∷ shown start ∷ shown retire ∷ shown (advance None 400)
    ∷ shown start ∷ shown (advance None 400)
    ∷ shown start ∷ shown retire ∷ shown (advance None 400)
    ∷ shown (fetch (op 4263557626 2 Multiply false false (bytes "lw x8") None (Some (97 ∷ 98 ∷ 127 ∷ [])) (bytes "x3" ∷ bytes "x7" ∷
    bytes "x1" ∷ bytes "x1" ∷ bytes "x3" ∷ [] ∷ bytes " x 1" ∷ bytes "x7" ∷ bytes "x5" ∷ []) (bytes "x6" ∷ bytes "a.0" ∷ bytes "x3" ∷
    []) 227) 400)
    ∷ shown (fetch (op 4263557626 3 Store false false (bytes "   ") None (Some []) (bytes "x5" ∷ []) (bytes "x6" ∷ []) 907) 400)
    ∷ shown start ∷ shown (advance None 400)
    ∷ shown start ∷ shown (advance None 400)
    ∷ shown start ∷ shown (advance None 400)
    ∷ shown start ∷ shown retire ∷ shown (advance None 400)
    ∷ shown start ∷ shown retire ∷ shown (advance None 400)
    ∷ shown (fetch (op 4263557625 1 Multiply false false (bytes "~~~~~~~~~~~~~~~~~~~~~~~~~~~~~~~~~~~~~~~~~~~~~~~~~~~~~~~~~~~~~~~~")
    (Some []) (Some []) [] [] 440) 400)
    ∷ shown start ∷ shown (advance None 400)
    ∷ shown (fetch (op 4263557624 6 Alu false false (bytes "? x4") None (Some (bytes "x5")) (bytes "x1" ∷ bytes "x0" ∷ bytes "x1" ∷
    bytes "x0" ∷ bytes "x5" ∷ bytes "x8" ∷ bytes "x6" ∷ bytes "x6" ∷ []) (bytes "x5" ∷ bytes "x2" ∷ bytes "x3" ∷ bytes "x6" ∷ [])
    345) 400)
    ∷ shown start ∷ shown (advance None 405)
    ∷ shown (fetch (op 4263557623 0 Store false false (bytes "sub x4") None (Some (bytes "x7")) (bytes "x6" ∷ []) (bytes "x7" ∷ [])
    1) 400)
    ∷ shown start ∷ shown (advance None 400)
    ∷ shown start ∷ shown (advance None 400)
    ∷ shown start ∷ shown (capacity 0 0) ∷ shown (advance None 400)
    ∷ shown start ∷ shown (advance None 400)
    ∷ shown start ∷ shown retire ∷ shown (advance None 400)
    ∷ shown start ∷ shown (advance None 400)
    ∷ shown start ∷ shown (advance None 400)
    ∷ shown start ∷ shown (advance None 400)
    ∷ shown start ∷ shown retire ∷ shown (advance None 400)
    ∷ shown start ∷ shown (resolve 20) ∷ shown retire ∷ shown (advance None 400)
    ∷ shown (fetch (op 4263557622 6 Store false false (bytes "mul x5") None (Some (bytes "x6")) (bytes "x6" ∷ bytes "x0" ∷ bytes "x6"
    ∷ bytes "x8" ∷ []) (bytes "x6" ∷ bytes "x8" ∷ []) 375) 400)
    ∷ shown start ∷ shown (advance None 400)
    ∷ shown (fetch (op 4263557621 13 Load false false (bytes "sw x9") None None (bytes "x8" ∷ bytes "x3" ∷ bytes "x6" ∷ []) [] 321)
    399)
    ∷ shown (fetch (op 4263557621 0 FloatingPoint false false (bytes "add x8") None (Some (bytes "shown")) [] (bytes "x0" ∷ []) 314)
    400)
    ∷ shown start ∷ shown (advance None 400)
    ∷ shown start ∷ shown retire ∷ shown (advance None 400)
    ∷ shown start ∷ shown retire ∷ shown (advance None 400)
    ∷ shown (fetch (op 4263557620 1 Load false false (32 ∷ 126 ∷ 92 ∷ 34 ∷ []) None (Some (128 ∷ [])) (bytes "x3" ∷
    bytes "sixteen-bytes-ok" ∷ bytes "x5" ∷ bytes "x3" ∷ bytes "x5" ∷ [] ∷ bytes "x4" ∷ bytes "sixteen-bytes-ok" ∷ bytes "x4" ∷ [])
    [] 0) 400)
    ∷ shown start ∷ shown (advance None 400)
    ∷ shown (fetch (op 4263557620 1 Multiply false false (bytes "div x2") None (Some (bytes "x3")) (bytes "x7" ∷ bytes "x2" ∷ [])
    (bytes "x3" ∷ []) 97) 400) ∷ shown (overlap true)
    ∷ shown start ∷ shown (advance None 400)
    ∷ shown (fetch (op 4263557619 11 Load false false (bytes "sw x6") None (Some (bytes "zzzzzzzzzzzzzzzzz")) (bytes "x8" ∷
    bytes "x8" ∷ []) (bytes "x7" ∷ bytes "x2" ∷ []) 845) 400)
    ∷ shown (fetch (op 4263557619 15 Unknown false false (bytes "nop x1") None None (bytes "x5" ∷ bytes "x4" ∷ bytes "x6" ∷ [])
    (bytes "x3" ∷ bytes "x7" ∷ bytes "x4" ∷ []) 750) 400)
    ∷ shown start ∷ shown retire ∷ shown (advance None 400)
    ∷ shown start ∷ shown retire ∷ shown (advance None 400)
    ∷ shown (fetch (op 4263557618 5 Multiply false true (34 ∷ 113 ∷ 34 ∷ 32 ∷ 120 ∷ 52 ∷ []) None (Some []) (bytes "x2" ∷
    bytes "rflags" ∷ []) (bytes "x7" ∷ bytes "x1" ∷ []) 298) 400)
    ∷ shown start ∷ shown retire ∷ shown (advance None 400)
    ∷ shown start ∷ shown (advance None 400)
    ∷ shown start ∷ shown (advance None 400)
    ∷ shown start ∷ shown (advance None 400)
    ∷ shown start ∷ shown (advance (Some 116) 400)
    ∷ shown (fetch (op 116 0 Store false false (bytes "add x7") None (Some (bytes "x0")) (bytes "x1" ∷ []) (bytes "x0" ∷ []) 843) 400)
    ∷ shown start ∷ shown (advance None 400)
    ∷ shown (fetch (op 115 0 Alu false false (bytes "sub x8") (Some []) None (bytes "x0" ∷ bytes "x6" ∷ []) [] 24) 400)
    ∷ shown start ∷ shown (advance None 400)
    ∷ shown (fetch (op 114 11 Store false false (bytes "beq x6") (Some (bytes "page fault")) None (bytes "x3" ∷ []) (bytes "x8" ∷ [])
    81) 400)
    ∷ shown start ∷ shown (advance None 400)
    ∷ shown (fetch (op 113 14 Multiply false false (bytes "xor x8") None (Some (bytes "x8")) (bytes "x2" ∷ bytes "x6" ∷ bytes "x5" ∷
    []) (bytes "x8" ∷ []) 657) 400)
    ∷ shown start ∷ shown (advance None 400)
    ∷ shown (fetch (op 112 4 FloatingPoint false false (bytes "beq x7") None (Some (bytes "sixteen-bytes-ok")) (bytes "x0" ∷
    bytes "x1" ∷ bytes "x7" ∷ []) [] 959) 400)
    ∷ shown start
    ∷ shown start ∷ shown retire ∷ shown (advance None 400)
    ∷ shown start ∷ shown retire ∷ shown (advance None 400)
    ∷ shown start ∷ shown (advance None 214) ∷ shown (advance None 400)
    ∷ shown start ∷ shown retire ∷ shown (advance None 400)
    ∷ shown start ∷ shown retire ∷ shown (advance None 400)
    ∷ rest ∷ []

abbrev numbers : List ℕ
numbers =
    528814434784536660 ∷ 1169468875702791012 ∷ 2070135903977638776 ∷ 865285054106132052 ∷ 785074251628888297
    ∷ 1979825923661215679 ∷ 2044374253157363982 ∷ 785193280841869357 ∷ 340389843552779233 ∷ 1632082444787377185 ∷ 226703544270709942
    ∷ 989736925659299808 ∷ 618142794271093831 ∷ 1964888326991643028 ∷ 1446961363374381629 ∷ 2301952633675011339 ∷ 292408794137500033
    ∷ 783331691054194817 ∷ 815248761972804916 ∷ 72950100525578684 ∷ 1803361699641062974 ∷ 1936482551138334358 ∷ 129024553678593231
    ∷ 1594464069706259026 ∷ 52675441398185086 ∷ 1439997521026273115 ∷ 18107876454479078 ∷ 1961014061501723724 ∷ 1804970616140885623
    ∷ 1295759789539522945 ∷ 2298211094916048920 ∷ 1806348257866771986 ∷ 846587457802761848 ∷ 1650760712106505427
    ∷ 1602518023466995884 ∷ 2089454003999320043 ∷ 264042138613552291 ∷ 1878583011437263160 ∷ 237138621661113076 ∷ 766830821247807558
    ∷ 449944859794867417 ∷ 1362632861621058884 ∷ 1860028777312141718 ∷ 33066232139274431 ∷ 1299518231541402574 ∷ 1207454384616071079
    ∷ 1869978139725608890 ∷ 1737741570583625427 ∷ 1739572634494529659 ∷ 1353815044453951573 ∷ 1746172545681142375
    ∷ 2101936674212356384 ∷ 218926024651313268 ∷ 48463521971160009 ∷ 1889403209862668678 ∷ 1406087437395918903 ∷ 813915976720691423
    ∷ 1186988132913574870 ∷ 190938547070036942 ∷ 2053918693125599430 ∷ 2184931244500791336 ∷ 2173162778009876841
    ∷ 477130193514793628 ∷ 2171703234095470991 ∷ 51239749161869219 ∷ 608833411658786458 ∷ 1516532527543710582 ∷ 1136116407704523056
    ∷ 1131784610728562133 ∷ 1354371398134672633 ∷ 1279547641904215386 ∷ 251531116488619498 ∷ 559134493351908788
    ∷ 1269581226636455096 ∷ 476117082751715844 ∷ 818692960802861473 ∷ 108868861995016818 ∷ 1496741416377091813 ∷ 2279395972471033090
    ∷ 1911242023796329989 ∷ 1185056490319952932 ∷ 1904307673333116183 ∷ 288329674110119425 ∷ 645527478399431850
    ∷ 1139602054040611346 ∷ 915863324623809527 ∷ 1216210137247898285 ∷ 1034959659107758669 ∷ 841521880612210309 ∷ 346662199782239806
    ∷ 532250574752076942 ∷ 155972572576625492 ∷ 1710095658687937734 ∷ 801460549661557800 ∷ 1190976532462242777 ∷ 1758109447296786434
    ∷ 1184641393346776843 ∷ 2098733794045626978 ∷ 2098733794045626978 ∷ 678248674123792276 ∷ 2179375853129961894
    ∷ 1305354878469812470 ∷ 1401505821400902549 ∷ 136171798813495145 ∷ 1802487957258312576 ∷ 1495622811205829045
    ∷ 2108669188294647939 ∷ 2104706512070539570 ∷ 1092190184210164006 ∷ 1153960826925198693 ∷ 922942728703972864
    ∷ 820377917634643326 ∷ 419176633082622310 ∷ 422688555476235319 ∷ 1950211753888567194 ∷ 316805925698038219 ∷ 739466458271707578
    ∷ 1842213965424854326 ∷ 2048850010954379123 ∷ 1322012527547501939 ∷ 786335067384807559 ∷ 449724271901442066 ∷ 624571089672188906
    ∷ 2001961992817864912 ∷ 2140676912325321288 ∷ 2211153404719576424 ∷ 2017535060027089580 ∷ 1650549006942885075
    ∷ 984644878233637408 ∷ 1831600547367918370 ∷ 1683315415984296007 ∷ 1781270402765201517 ∷ 2305417142226583181
    ∷ 328519684794318542 ∷ 948809273830612685 ∷ 1179748978418803405 ∷ 1566251693637934517 ∷ 964163464896571915 ∷ 1051313096228912070
    ∷ 224540342541571941 ∷ 1441670540151246841 ∷ 2026346865034709744 ∷ 779077486564946954 ∷ 590590690245936865 ∷ 2237226277337468576
    ∷ 1200828794788542078 ∷ 1439178875055926596 ∷ 1949733105561407886 ∷ 1468840635766937725 ∷ 362158898287007482
    ∷ 165494068899205924 ∷ []

abbrev pub case_32 : Case
case_32 = case_of shape 4263557633 408 steps numbers
