-- List 26 of the sample, from seed 871. Made by the harness: see docs/SAMPLES.md.
use Rattle.std.specs.Prelude.{ℕ, true, false, List, [], ◌∷◌, None, Some}
use Rattle.laws.specs.Texts.{bytes}
use Rattle.capability.specs.declared.PipelineInstructionClass.TheVariants.{Alu, Multiply, Divide, Jump, FloatingPoint, Unknown}
use Rattle.model.specs.Config.{timing, unit_spec, PipelineShape, pipeline_shape}
use Rattle.model.specs.Requests.{unit_name}
use Rattle.model.specs.Calls.{start, retire, advance, fetch, overlap, cell, text}
use Rattle.samples.specs.Lists.{Step, shown, rest, Case, case_of, op}
use Rattle.capability.specs.declared.PipelineStageRole.TheVariants as role

abbrev shape : PipelineShape
shape =
    pipeline_shape (role.Decode ∷ role.Writeback ∷ role.Execute ∷ role.Other ∷ role.Commit ∷ role.Decode ∷ role.Memory ∷ role.Decode
    ∷ role.Memory ∷ role.Other ∷ role.Memory ∷ role.Fetch ∷ []) None (timing 0 0 14 0 0 14 14) (unit_spec (bytes "ALU") [] Jump 5 ∷
    []) 1

abbrev steps : List Step
steps =
    shown (overlap true)
    ∷ shown start ∷ shown (advance None 200)
    ∷ shown (fetch (op 0 7 Divide false false (bytes "xor x7") (Some []) (Some (bytes "sixteen-bytes-ok")) (bytes "rflags" ∷ [] ∷
    bytes "x3" ∷ bytes "x4" ∷ bytes "x5" ∷ bytes "sixteen-bytes-ok" ∷ bytes "x4" ∷ bytes "x6" ∷ []) (bytes "sixteen-bytes-ok" ∷
    bytes "x4" ∷ bytes "sixteen-bytes-ok" ∷ bytes "rflags" ∷ []) 362) 200)
    ∷ shown start ∷ shown (advance None 200)
    ∷ shown (fetch (op 7 14 Alu false false (bytes "beq x0") None None (bytes "x6" ∷ bytes "x0" ∷ []) (bytes "x1" ∷ bytes "x5" ∷ [])
    73) 200)
    ∷ shown start ∷ shown (advance None 200)
    ∷ shown (fetch (op 21 5 Alu false false (bytes "add x3") (Some (bytes "page fault")) (Some (bytes "x6")) (bytes "x3" ∷ [])
    (bytes "x6" ∷ []) 9223372036854775808) 200)
    ∷ shown start ∷ shown (advance None 200)
    ∷ shown (fetch (op 18446744073709551614 9223372036854775808 Divide false false (34 ∷ 113 ∷ 34 ∷ 32 ∷ 120 ∷ 48 ∷ []) None (Some
    (bytes "x5")) (bytes "sixteen-bytes-ok" ∷ bytes "x6" ∷ bytes "x2" ∷ bytes "x3" ∷ []) (bytes "x5" ∷ bytes "x0" ∷ []) 812) 204)
    ∷ shown start ∷ shown (advance None 200)
    ∷ shown (fetch (op 9223372036854775806 9223372036854775808 Unknown false false (bytes "sw x1") None (Some (bytes "shown"))
    (bytes "x6" ∷ bytes "x2" ∷ bytes "x5" ∷ bytes "x4" ∷ []) (bytes "x3" ∷ bytes "x3" ∷ []) 533) 200)
    ∷ shown start ∷ shown (advance None 200)
    ∷ shown start ∷ shown (advance None 200)
    ∷ shown start ∷ shown (advance None 200)
    ∷ shown start ∷ shown (advance None 200)
    ∷ shown start ∷ shown (advance None 200)
    ∷ shown start ∷ shown (advance None 200)
    ∷ shown start ∷ shown (advance None 200)
    ∷ shown start ∷ shown (advance None 200)
    ∷ shown start ∷ shown (advance None 200)
    ∷ shown start ∷ shown (advance None 200)
    ∷ shown start ∷ shown (advance (Some 40) 200)
    ∷ shown (fetch (op 40 2 FloatingPoint false false (bytes "mul x4") None (Some (bytes "x6")) (bytes "x3" ∷ bytes "x2" ∷ bytes "x6"
    ∷ bytes "x2" ∷ []) (bytes "x6" ∷ [] ∷ bytes "x3" ∷ []) 227) 200)
    ∷ shown start ∷ shown (advance None 200)
    ∷ shown (fetch (op 42 14 Multiply false false (bytes "xor x3") (Some []) None (bytes "x0" ∷ bytes "x4" ∷ bytes "x6" ∷ bytes "x4"
    ∷ []) (bytes "x4" ∷ bytes "x0" ∷ bytes "x3" ∷ []) 670) 200)
    ∷ shown start ∷ shown (advance None 200)
    ∷ shown start ∷ shown (advance None 200)
    ∷ shown start ∷ shown retire ∷ shown (advance None 200)
    ∷ shown start ∷ shown retire ∷ shown (advance None 200)
    ∷ shown start ∷ shown retire ∷ shown (advance None 200)
    ∷ shown (fetch (op 56 18446744073709551615 Unknown false false (bytes "mul x4") (Some []) None (bytes "x1" ∷ bytes "x1" ∷
    bytes "x6" ∷ bytes "x1" ∷ []) ([] ∷ bytes "x3" ∷ bytes "x5" ∷ []) 891) 200)
    ∷ shown start ∷ shown (advance None 200)
    ∷ shown start ∷ shown (advance (Some 216) 200)
    ∷ shown (fetch (op 216 1 Multiply false false (bytes "ecall x6") None (Some (bytes "sixteen-bytes-ok")) (bytes "x4" ∷ bytes "a.0"
    ∷ []) (bytes "x2" ∷ []) 935) 200)
    ∷ shown start ∷ shown (advance None 200)
    ∷ shown (fetch (op 217 6 Alu false false (bytes "aaaaaaaaaaaaaaaaaaaaaaaaaaaaaaaaaaaaaaaaaaaaaaaaaaaaaaaaaaaaaaaa") None (Some
    (bytes "shown")) [] [] 824) 200)
    ∷ shown start ∷ shown (advance None 200)
    ∷ shown (fetch (op 223 1 Divide false true (bytes "ecall x1") None (Some (bytes "sixteen-bytes-ok")) (bytes "x5" ∷ bytes "x1" ∷
    bytes "x6" ∷ bytes "x3" ∷ []) (bytes "sixteen-bytes-ok" ∷ bytes "x0" ∷ []) 205) 200)
    ∷ shown start ∷ shown (advance None 200)
    ∷ shown (fetch (op 224 9 FloatingPoint false false (bytes "  add  x1 ") None (Some (bytes "x0")) (bytes "rflags" ∷ bytes "x1" ∷
    bytes "x5" ∷ bytes "x1" ∷ bytes "x5" ∷ bytes " x 1" ∷ bytes "x2" ∷ bytes "x1" ∷ []) (bytes "x0" ∷ bytes "x4" ∷ bytes "x2" ∷
    bytes "x6" ∷ []) 175) 200)
    ∷ shown start ∷ shown (advance None 200)
    ∷ shown (fetch (op 233 0 Multiply false false (bytes "jal x6") None (Some (bytes "x3")) (bytes "sixteen-bytes-ok" ∷ bytes "x5" ∷
    bytes "x1" ∷ []) (bytes "x3" ∷ bytes "x0" ∷ bytes "x0" ∷ []) 515) 200)
    ∷ shown start ∷ shown (advance None 200)
    ∷ shown start ∷ shown retire ∷ shown (advance None 200)
    ∷ shown start ∷ shown (advance (Some 220) 200)
    ∷ shown (fetch (op 220 7 Divide false false (bytes "add x8") None (Some (bytes "shown")) [] [] 869) 200)
    ∷ shown start ∷ shown (advance None 200)
    ∷ shown (fetch (op 58 4 Alu false false (bytes "xor x4") None None (bytes "x0" ∷ bytes "x4" ∷ []) [] 6) 200)
    ∷ shown start ∷ shown (advance None 200)
    ∷ shown (fetch (op 62 14 Alu false true (bytes "xor x8") (Some []) (Some (bytes "x5")) (bytes "x1" ∷ bytes "x5" ∷ []) (bytes "x5"
    ∷ bytes "x5" ∷ bytes "x0" ∷ []) 807) 200)
    ∷ shown start ∷ shown (advance None 200)
    ∷ shown (fetch (op 76 1 Alu false false (34 ∷ 113 ∷ 34 ∷ 32 ∷ 120 ∷ 51 ∷ []) (Some
    (bytes "ffffffffffffffffffffffffffffffffffffffffffffffffffffffffffffffff")) None (bytes "x3" ∷ []) (bytes "x4" ∷ []) 437) 200)
    ∷ shown start ∷ shown (advance None 200)
    ∷ shown start ∷ shown (advance None 200)
    ∷ shown start ∷ shown (advance None 200)
    ∷ shown start ∷ shown (advance None 200)
    ∷ shown start ∷ shown (advance (Some 8) 200)
    ∷ shown (fetch (op 8 10 Unknown false false (bytes "xor x1") (Some (bytes "page fault")) None (bytes "x5" ∷ []) [] 0) 200)
    ∷ shown start ∷ shown (cell 0 0 200) ∷ shown retire ∷ shown (advance None 200)
    ∷ shown start ∷ shown retire ∷ shown (advance None 200)
    ∷ shown start ∷ shown (advance None 200)
    ∷ shown (fetch (op 18 9223372036854775808 FloatingPoint false false (bytes "sw x3") None None (bytes "x4" ∷ bytes "x2" ∷
    bytes "x4" ∷ []) [] 18446744073709551615) 200)
    ∷ shown start ∷ shown (advance None 200)
    ∷ shown (fetch (op 9223372036854775826 1 Alu false false (bytes "nop x3") None (Some (bytes "shown")) [] [] 944) 200)
    ∷ shown start ∷ shown retire ∷ shown (advance None 200)
    ∷ shown (fetch (op 9223372036854775827 0 Alu false false (bytes "fadd x3") None None (bytes "x4" ∷ []) [] 676) 200) ∷ shown (text
    (unit_name 0) 200)
    ∷ shown start ∷ shown (advance None 200)
    ∷ shown (fetch (op 9223372036854775828 14 Alu false false (bytes "jal x6") None (Some (bytes "shown")) (bytes "x4" ∷ bytes "x2" ∷
    []) (bytes "x5" ∷ []) 1) 200)
    ∷ shown start ∷ shown (advance None 200)
    ∷ shown start
    ∷ rest ∷ []

abbrev numbers : List ℕ
numbers =
    1567060512514241472 ∷ 1041639887412552372 ∷ 1942306915687400136 ∷ 304109942910520010 ∷ 1585258575538462592
    ∷ 677628526192229271 ∷ 600224687261291221 ∷ 548376972413652263 ∷ 1280918679218357186 ∷ 1657653284808527753 ∷ 1555070690112260815
    ∷ 404147304541748783 ∷ 1397589904389461201 ∷ 1380929913411896109 ∷ 493255048438231449 ∷ 2184494673928990164
    ∷ 1806059951631741917 ∷ 866112409549685543 ∷ 1538150583167737100 ∷ 529549661133704849 ∷ 1182484240820519131
    ∷ 1175384042209687862 ∷ 82997106994021199 ∷ 1289713694772123390 ∷ 161789169654403148 ∷ 915855311995358944 ∷ 687706317821305637
    ∷ 2226254798251201154 ∷ 2270477935590074154 ∷ 1644343618571776813 ∷ 1480666163053161475 ∷ 1002163365281937488
    ∷ 185407884765503534 ∷ 632863444237486672 ∷ 1455992693674104781 ∷ 51407258989179646 ∷ 376975463081591102 ∷ 1252848922514966976
    ∷ 1177878051183598047 ∷ 1779872212034391236 ∷ 1000674142421659480 ∷ 2035482397179088070 ∷ 1843210089592497254
    ∷ 947840188704451697 ∷ 1752387549775344039 ∷ 741617147832644432 ∷ 446470448738679709 ∷ 480745383290211484 ∷ 2230379623373858928
    ∷ 1796474014431315373 ∷ 460104842713247440 ∷ 291733814485846029 ∷ 586157212563151261 ∷ 2180466267329451567 ∷ 1491937863967175472
    ∷ 1184181236390229971 ∷ 519816786600211572 ∷ 1110792888018226757 ∷ 150982938499299294 ∷ 1417416427292462446 ∷ 321323614287220660
    ∷ 898467661874264383 ∷ 226336951690619910 ∷ 2300483633759261340 ∷ 1796808597270298064 ∷ 2153211753051741561
    ∷ 1981788092114746222 ∷ 2264508795807780879 ∷ 1984160481232775777 ∷ 541567931030099348 ∷ 915249046652568539
    ∷ 1452510035775278966 ∷ 2118251944923537135 ∷ 282818952992111254 ∷ 1641196264699447009 ∷ 573837779099841060
    ∷ 1680109328685135562 ∷ 1465761133784821647 ∷ 1107344659314175685 ∷ 171119933192521631 ∷ 1331727950038977764
    ∷ 343579168388155684 ∷ 831375504775691533 ∷ 324951388952601717 ∷ 2002715235066092530 ∷ 1484108919668029254 ∷ 1035829030471148378
    ∷ 681102296078093061 ∷ 569196564292674359 ∷ 119747746001348296 ∷ 1340946027462983540 ∷ 1463447463704728016 ∷ 2202737385291951505
    ∷ 926551168638088207 ∷ 1314480537918539560 ∷ 1231659443389364371 ∷ 397713943204605101 ∷ 581893912414780698 ∷ 1983288840261078430
    ∷ 994252248528450711 ∷ 211171311401817317 ∷ 756469044175304330 ∷ 767240215121426236 ∷ 588832645724874998 ∷ 1197994692666440868
    ∷ 642141261669153551 ∷ 1940174847845310848 ∷ 538718460562116756 ∷ 862753241018340595 ∷ 1733963704346273105 ∷ 703983760296780458
    ∷ 373318793163147166 ∷ 1294044335368732830 ∷ 66693974539111457 ∷ 613658516378581234 ∷ 1297986749712504995 ∷ 1932721760442279779
    ∷ 1610703520086226751 ∷ 2071468989386678826 ∷ 1722510434713568687 ∷ 665729328340817558 ∷ 1144315461845433686
    ∷ 2281550255214015578 ∷ 1207629205808189301 ∷ 1552473060391619849 ∷ 1393488061327941119 ∷ 1792964114760144223 ∷ []

abbrev pub case_26 : Case
case_26 = case_of shape 0 200 steps numbers
