-- List 12 of the sample, from seed 824. Made by the harness: see docs/SAMPLES.md.
use Rattle.std.specs.Prelude.{ℕ, true, false, List, [], ◌∷◌, None, Some}
use Rattle.laws.specs.Texts.{bytes}
use Rattle.capability.specs.declared.PipelineInstructionClass.TheVariants.{Alu, Divide, Load, Store, System, FloatingPoint, Unknown}
use Rattle.model.specs.Config.{timing, unit_spec, PipelineShape, pipeline_shape}
use Rattle.model.specs.Requests.{in_unit, source, slot_text}
use Rattle.model.specs.Calls.{start, retire, retry, advance, fetch, capacity, overlap, halt, redirect, cell, text}
use Rattle.samples.specs.Lists.{Step, shown, rest, Case, case_of, op}
use Rattle.capability.specs.declared.PipelineStageRole.TheVariants as role

abbrev shape : PipelineShape
shape =
    pipeline_shape (role.Issue ∷ []) None (timing 2 0 1 2 3 0 0) (unit_spec (bytes "12345678") [] System 4 ∷ []) 2

abbrev steps : List Step
steps =
    shown (overlap true)
    ∷ shown start ∷ shown (advance (Some 18446744073709551614) 400)
    ∷ shown (fetch (op 18446744073709551614 0 Store false false (bytes "jal x6") None None (bytes "x2" ∷ bytes "x6" ∷ bytes "x1" ∷
    []) [] 385) 400)
    ∷ shown start ∷ shown (advance None 400)
    ∷ shown (fetch (op 18446744073709551615 4 FloatingPoint false false (32 ∷ 32 ∷ 34 ∷ 113 ∷ 34 ∷ 32 ∷ 32 ∷ 120 ∷ 49 ∷ 32 ∷ []) None
    (Some (bytes "sixteen-bytes-ok")) [] (bytes "x1" ∷ []) 53) 400)
    ∷ shown start
    ∷ shown (fetch (op 3 5 Load false false (bytes "div x3") (Some (97 ∷ 98 ∷ 127 ∷ [])) None (bytes "x1" ∷ bytes "x5" ∷ bytes "x7" ∷
    bytes "rflags" ∷ bytes "x0" ∷ bytes "x6" ∷ bytes "x3" ∷ bytes "x7" ∷ bytes "x4" ∷ []) (bytes "x3" ∷ []) 687) 0) ∷ shown (advance
    (Some 15638719518231225374) 400)
    ∷ shown start ∷ shown (advance None 400)
    ∷ shown (fetch (op 15638719518231225374 15 Divide false false (bytes "   ") None (Some (bytes "sixteen-bytes-ok")) [] [] 957) 400)
    ∷ shown start ∷ shown (advance None 400)
    ∷ shown (fetch (op 15638719518231225389 2 Divide false false (bytes "add x9") None None (bytes "x3" ∷ bytes "x3" ∷ bytes "x0" ∷
    []) [] 325) 400)
    ∷ shown start ∷ shown (advance None 400)
    ∷ shown (fetch (op 15638719518231225391 11 Unknown false false (34 ∷ 113 ∷ 34 ∷ 32 ∷ 120 ∷ 56 ∷ []) None (Some
    (bytes "sixteen-bytes-ok")) (bytes "x5" ∷ bytes "x3" ∷ []) (bytes "x2" ∷ bytes "x7" ∷ bytes "x0" ∷ []) 412) 400)
    ∷ shown start ∷ shown (advance None 400)
    ∷ shown (fetch (op 15638719518231225402 2 Load false false (bytes "sw x6") None None [] [] 18446744073709551614) 400)
    ∷ shown start ∷ shown (advance None 400)
    ∷ shown start ∷ shown (retry (31 ∷ [])) ∷ shown retire ∷ shown (advance None 400)
    ∷ shown (fetch (op 15638719518231225404 3 Alu false false (32 ∷ 126 ∷ 92 ∷ 34 ∷ []) None (Some (bytes "x3")) (bytes "x2" ∷
    bytes "x5" ∷ []) (bytes "x3" ∷ []) 279) 400)
    ∷ shown start ∷ shown retire ∷ shown (advance None 400)
    ∷ shown start ∷ shown retire ∷ shown (advance None 400)
    ∷ shown (fetch (op 15638719518231225407 6 Store false false (bytes "ecall x7") None None (bytes "a.0" ∷ bytes "rflags" ∷
    bytes "x2" ∷ []) [] 88) 400)
    ∷ shown start ∷ shown retire ∷ shown (advance None 400) ∷ shown halt ∷ shown (redirect 184)
    ∷ shown start ∷ shown (advance None 400)
    ∷ shown (fetch (op 184 14 Unknown false true (bytes "lw x2") None None (bytes "x6" ∷ bytes "x1" ∷ []) (bytes "x1" ∷ []) 747) 400)
    ∷ shown start ∷ shown (advance None 400)
    ∷ shown start ∷ shown (advance None 400)
    ∷ shown start ∷ shown (advance None 400)
    ∷ shown (fetch (op 198 5 Alu false true (32 ∷ 126 ∷ 92 ∷ 34 ∷ []) None (Some (bytes "x3")) (bytes "x4" ∷ bytes "x4" ∷ bytes "x5"
    ∷ []) (bytes "x3" ∷ []) 13) 400)
    ∷ shown start ∷ shown (advance None 352) ∷ shown (advance None 400)
    ∷ shown (fetch (op 203 15 Alu false false (34 ∷ 113 ∷ 34 ∷ 32 ∷ 120 ∷ 55 ∷ []) None (Some (bytes "sixteen-bytes-ok")) (bytes "x6"
    ∷ bytes "x5" ∷ bytes "x6" ∷ []) (bytes "x2" ∷ []) 968) 401)
    ∷ shown start ∷ shown retire ∷ shown (advance (Some 12) 400)
    ∷ shown (fetch (op 12 1 Store false false (bytes "sub x8") None (Some (bytes "shown")) (bytes "x7" ∷ []) (bytes "x3" ∷ []) 68)
    400)
    ∷ shown start ∷ shown (advance None 400) ∷ shown (capacity 0 3)
    ∷ shown start ∷ shown (advance None 400)
    ∷ shown start ∷ shown (advance None 400)
    ∷ shown start ∷ shown (advance None 400)
    ∷ shown start ∷ shown retire ∷ shown (advance None 400)
    ∷ shown (fetch (op 1 3 Alu false true (bytes "add x6") None None (bytes "x1" ∷ bytes "x4" ∷ bytes "x2" ∷ bytes "x1" ∷ bytes "x1"
    ∷ bytes "sixteen-bytes-ok" ∷ bytes "x0" ∷ bytes "x7" ∷ bytes "x6" ∷ []) (bytes "x5" ∷ bytes "x4" ∷ bytes "x2" ∷ bytes "x3" ∷
    bytes "zzzzzzzzzzzzzzzzz" ∷ bytes "x1" ∷ []) 488) 400)
    ∷ shown (fetch (op 13 10 Alu false false (bytes "xor x9") None (Some (bytes "x1")) (bytes "rflags" ∷ bytes "x3" ∷ bytes "x2" ∷
    bytes "rflags" ∷ []) (bytes "x1" ∷ bytes "x1" ∷ bytes "x2" ∷ []) 18446744073709551615) 400)
    ∷ shown start ∷ shown (advance None 400)
    ∷ shown (fetch (op 23 18446744073709551615 System false false (bytes "sw x9") None None [] [] 429) 400)
    ∷ shown start ∷ shown (advance None 400)
    ∷ shown (fetch (op 22 14 System false false (bytes "ecall x6") None (Some (bytes "shown")) [] (bytes "x0" ∷ []) 720) 400)
    ∷ shown start ∷ shown (advance None 400)
    ∷ shown start ∷ shown (advance None 400)
    ∷ shown start ∷ shown (advance None 400) ∷ shown (text (slot_text (in_unit 2) (source 3)) 0)
    ∷ shown start ∷ shown (advance None 400)
    ∷ shown start ∷ shown retire ∷ shown (advance None 400)
    ∷ shown start ∷ shown (advance None 400)
    ∷ shown start ∷ shown (cell 1 8 400) ∷ shown (advance None 400)
    ∷ shown start ∷ shown (advance None 400)
    ∷ shown start ∷ shown (advance None 400)
    ∷ shown start ∷ shown retire
    ∷ rest ∷ []

abbrev numbers : List ℕ
numbers =
    1731988175925928133 ∷ 2100069021105508258 ∷ 1557518514772321471 ∷ 1757972042003424288 ∷ 1134072629251441747
    ∷ 1569349086834904643 ∷ 1207804744801967500 ∷ 1381549479275658921 ∷ 1963328545318518096 ∷ 1820638530274770829
    ∷ 2268307679500543784 ∷ 889935750288601307 ∷ 1533180558392317071 ∷ 1847109286418080342 ∷ 696144988284441328 ∷ 911939404076709856
    ∷ 2282609703982802569 ∷ 1353498429130049175 ∷ 36306149555061560 ∷ 2234620270635977502 ∷ 1460212922827611852 ∷ 603276807453997468
    ∷ 68682868659665692 ∷ 981244554364591684 ∷ 1787841857610472386 ∷ 2175291683645670296 ∷ 1470940507561628217 ∷ 1950608086170693080
    ∷ 1522707745035877888 ∷ 852005142870753079 ∷ 323783861026751892 ∷ 899285974344933544 ∷ 2238560765759283220 ∷ 643033125794889413
    ∷ 1425799634633271554 ∷ 1500178057935746243 ∷ 1585349337951697678 ∷ 1615871505416162485 ∷ 1770460450973446749
    ∷ 2210119909859878655 ∷ 1563732700159483786 ∷ 752073727596551537 ∷ 777792768918871683 ∷ 1558692182095458656
    ∷ 2188326885807777850 ∷ 2220450408726712586 ∷ 1571212356739993635 ∷ 239662230105906621 ∷ 35775114882997475 ∷ 2239891479067917180
    ∷ 1476733842533446318 ∷ 1243179089130737179 ∷ 1346125345114508743 ∷ 780028920099508516 ∷ 664750304303580199 ∷ 101127829813504816
    ∷ 190490579043680889 ∷ 1727876134256622073 ∷ 95728178856120929 ∷ 346768750193544156 ∷ 1165658932568455843 ∷ 1285518375251723693
    ∷ 1405854591062959689 ∷ 1997976637420717802 ∷ 1469424158611939840 ∷ 1452559305222794568 ∷ 452249565150477673
    ∷ 902213062741500980 ∷ 91985696365599808 ∷ 1858546531108311219 ∷ 1586658043974046992 ∷ 2075173934884058737 ∷ 271563542698518785
    ∷ 249786850153062432 ∷ 831565916195921607 ∷ 861265190728330706 ∷ 815546949433249525 ∷ 1650396074948280956 ∷ 1581913588280434619
    ∷ 1765124237701007631 ∷ 993543299260538355 ∷ 1032950554853234377 ∷ 1870973241591153269 ∷ 2149031274975415198
    ∷ 2300293040633114438 ∷ 1374463543647186735 ∷ 1199457281298212863 ∷ 1489133825851156510 ∷ 240431329710083308
    ∷ 2164009558050745273 ∷ 1478667482247943142 ∷ 1501782885061316410 ∷ 1871315984707866128 ∷ 700081195810987105
    ∷ 135359225120167743 ∷ 1708581050283934176 ∷ 2012614383749797664 ∷ 2183163142189994147 ∷ 1858951886672388116
    ∷ 898596298098773579 ∷ 1027406741801524590 ∷ 907984113689223603 ∷ 1601416687651082523 ∷ 1289619561278945202 ∷ []

abbrev pub case_12 : Case
case_12 = case_of shape 9223372036854775808 400 steps numbers
