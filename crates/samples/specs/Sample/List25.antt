-- List 25 of the sample, from seed 1051. Made by the harness: see docs/SAMPLES.md.
use Rattle.std.specs.Prelude.{ℕ, true, false, List, [], ◌∷◌, None, Some}
use Rattle.laws.specs.Texts.{bytes}
use Rattle.capability.specs.declared.PipelineInstructionClass.TheVariants.{
  Alu,
  Multiply,
  Divide,
  Load,
  Store,
  Branch,
  Jump,
  System,
  FloatingPoint,
  Unknown,
}
use Rattle.model.specs.Config.{timing, unit_spec, PipelineShape, pipeline_shape}
use Rattle.model.specs.Calls.{stage, start, retire, resolve, advance, fetch, overlap, redirect, view}
use Rattle.samples.specs.Lists.{Step, shown, rest, Case, case_of, op}
use Rattle.capability.specs.declared.PipelineStageRole.TheVariants as role

abbrev shape : PipelineShape
shape =
    pipeline_shape (role.Commit ∷ role.Fetch ∷ role.Issue ∷ role.Decode ∷ role.Execute ∷ []) (Some 4) (timing 0 2 1 1 0 8 0)
    (unit_spec (bytes "FPU") [] System 5 ∷ []) 1

abbrev steps : List Step
steps =
    shown (overlap true)
    ∷ shown start ∷ shown (advance None 200)
    ∷ shown (fetch (op 0 12 Load false true (bytes "fadd x1") None (Some (bytes "x0")) (bytes "x1" ∷ bytes "x0" ∷ []) (bytes "x0" ∷
    bytes "x2" ∷ []) 0) 200)
    ∷ shown start ∷ shown (advance None 200)
    ∷ shown (fetch (op 4 12 Load false false (bytes "sw x9") None None (bytes " x 1" ∷ bytes "x2" ∷ []) [] 214) 199)
    ∷ shown (fetch (op 4 3 System true false (bytes "? x3") None (Some (97 ∷ 98 ∷ 127 ∷ [])) (bytes "x2" ∷ bytes "x0" ∷
    bytes "sixteen-bytes-ok" ∷ bytes "x0" ∷ bytes "x3" ∷ bytes "x1" ∷ bytes "x1" ∷ bytes "zzzzzzzzzzzzzzzzz" ∷ bytes "x0" ∷ [])
    (bytes "x0" ∷ []) 300) 200)
    ∷ shown (fetch (op 4 10 Store false false (bytes "ecall x2") None (Some (bytes "x0")) (bytes "x1" ∷ bytes "x3" ∷ []) (bytes "x0"
    ∷ bytes "x1" ∷ []) 551) 200)
    ∷ shown start ∷ shown (advance None 200)
    ∷ shown (fetch (op 8 1 Jump true false (32 ∷ 32 ∷ 34 ∷ 113 ∷ 34 ∷ 32 ∷ 32 ∷ 120 ∷ 49 ∷ 32 ∷ []) None (Some (bytes "shown"))
    (bytes " x 1" ∷ []) [] 374) 200)
    ∷ shown start ∷ shown (advance None 200)
    ∷ shown (fetch (op 12 18446744073709551614 Multiply false false (bytes "mul x4") None (Some (bytes "rflags")) (bytes "x3" ∷
    bytes "x0" ∷ bytes "x1" ∷ []) (bytes "rflags" ∷ bytes "x2" ∷ bytes "x2" ∷ []) 278) 200)
    ∷ shown start ∷ shown (advance None 200)
    ∷ shown (fetch (op 16 0 FloatingPoint false false (bytes "add x3") (Some (bytes "page fault")) None (bytes "x1" ∷ bytes "x1" ∷
    []) [] 881) 51)
    ∷ shown (fetch (op 16 15 Unknown false false (bytes "div x9") None (Some (bytes "x3")) (bytes "x2" ∷ bytes "x2" ∷ bytes "x0" ∷
    []) (bytes "x3" ∷ bytes "x1" ∷ bytes "x3" ∷ []) 18446744073709551615) 200)
    ∷ shown start ∷ shown (advance None 144) ∷ shown (advance None 200)
    ∷ shown start ∷ shown retire ∷ shown (advance None 200)
    ∷ shown (fetch (op 20 9223372036854775808 Branch true false (bytes "jal x0") (Some
    (bytes "ffffffffffffffffffffffffffffffffffffffffffffffffffffffffffffffff")) (Some (bytes "x3")) (bytes "x3" ∷ bytes "x1" ∷
    bytes "x1" ∷ bytes "x1" ∷ []) (bytes "x3" ∷ bytes "x3" ∷ [] ∷ []) 133) 199)
    ∷ shown (fetch (op 20 13 Alu false false (bytes "xor x5") (Some (31 ∷ [])) None (bytes "x2" ∷ bytes "x2" ∷ bytes "x3" ∷
    bytes "x0" ∷ bytes "x1" ∷ bytes "x0" ∷ []) (bytes "x3" ∷ bytes "x2" ∷ bytes "x1" ∷ bytes "x2" ∷ bytes "x1" ∷ []) 872) 200)
    ∷ shown (fetch (op 20 5 Store false false (bytes "add x7") None None [] (bytes "x2" ∷ bytes "x3" ∷ []) 1) 200)
    ∷ shown start ∷ shown (advance (Some 64) 200)
    ∷ shown (fetch (op 64 18446744073709551615 Branch true false (bytes "xor x5") None (Some []) (bytes "x0" ∷ bytes "x1" ∷ [])
    (bytes "x3" ∷ bytes "x0" ∷ []) 174) 200)
    ∷ shown start ∷ shown (advance None 200)
    ∷ shown (fetch (op 68 15 Alu false false (34 ∷ 113 ∷ 34 ∷ 32 ∷ 120 ∷ 55 ∷ []) None (Some []) [] [] 175) 200)
    ∷ shown start ∷ shown (advance None 200)
    ∷ shown (fetch (op 1 5 Jump true false (bytes "sub x7") None (Some (bytes "x2")) (bytes "x1" ∷ bytes "x2" ∷ bytes "x3" ∷
    bytes "x1" ∷ []) (bytes "x2" ∷ bytes "x1" ∷ []) 364) 200)
    ∷ shown start ∷ shown retire ∷ shown (view (stage 6)) ∷ shown (advance None 199) ∷ shown (advance None 200)
    ∷ shown (fetch (op 5 15 Unknown false false (bytes "xor x5") None (Some (bytes "x3")) (bytes "x3" ∷ bytes "x2" ∷ bytes "x3" ∷
    bytes "x2" ∷ []) (bytes "x3" ∷ bytes "x1" ∷ bytes "rflags" ∷ []) 18446744073709551615) 200)
    ∷ shown start ∷ shown (advance (Some 172) 200)
    ∷ shown (fetch (op 172 0 Load false false (bytes "beq x1") None (Some (bytes "shown")) (bytes "x1" ∷ bytes " x 1" ∷ [])
    (bytes "x2" ∷ bytes "x1" ∷ []) 695) 200)
    ∷ shown start ∷ shown (advance None 200)
    ∷ shown (fetch (op 176 0 Multiply false false (bytes "nop x1") None (Some (bytes "x2")) (bytes "x1" ∷ bytes "x1" ∷ [] ∷ [])
    (bytes "x2" ∷ []) 226) 191)
    ∷ shown (fetch (op 58 4 Branch false true (32 ∷ 126 ∷ 92 ∷ 34 ∷ []) None None (bytes "x0" ∷ []) [] 863) 200)
    ∷ shown start ∷ shown (advance None 200)
    ∷ shown (fetch (op 62 15 Jump true false (bytes "sw x2") (Some
    (bytes "zzzzzzzzzzzzzzzzzzzzzzzzzzzzzzzzzzzzzzzzzzzzzzzzzzzzzzzzzzzzzzzzz")) (Some (bytes "zzzzzzzzzzzzzzzzz"))
    (bytes "sixteen-bytes-ok" ∷ bytes "x3" ∷ []) (bytes "x2" ∷ bytes "x3" ∷ [] ∷ []) 42) 200)
    ∷ shown start ∷ shown (resolve 68) ∷ shown (resolve 68) ∷ shown (resolve 172) ∷ shown retire
    ∷ shown start ∷ shown (advance (Some 172) 200)
    ∷ shown (fetch (op 172 13 Divide false false (bytes "sub x6") None (Some (bytes "x0")) (bytes "sixteen-bytes-ok" ∷ [])
    (bytes "x0" ∷ []) 408) 200)
    ∷ shown start ∷ shown (advance None 200)
    ∷ shown (fetch (op 176 5 Alu false false (bytes "beq x1") None (Some (bytes "x1")) (bytes "x2" ∷ bytes "x1" ∷ []) (bytes "x1" ∷
    bytes "x1" ∷ []) 722) 200)
    ∷ shown start ∷ shown (advance None 200)
    ∷ shown (fetch (op 180 8 Alu false false (bytes "jal x1") (Some
    (bytes "ffffffffffffffffffffffffffffffffffffffffffffffffffffffffffffffff")) (Some (bytes "x2")) (bytes "x3" ∷ bytes "x1" ∷
    bytes "x2" ∷ []) (bytes "x2" ∷ [] ∷ []) 18446744073709551615) 200)
    ∷ shown start ∷ shown (advance None 200)
    ∷ shown (fetch (op 184 2 Store false false (bytes "jal x5") None (Some (bytes "x1")) (bytes "x3" ∷ bytes "x0" ∷ []) (bytes "x1" ∷
    []) 0) 200)
    ∷ shown start ∷ shown (advance None 200)
    ∷ shown (fetch (op 188 10 Store false true (bytes "jal x5") None (Some (bytes "x2")) (bytes "x2" ∷ bytes "x0" ∷ [] ∷ bytes "x3" ∷
    bytes "x3" ∷ bytes "x1" ∷ bytes "x1" ∷ bytes "x0" ∷ []) (bytes "x2" ∷ bytes "x2" ∷ bytes "x1" ∷ bytes "x2" ∷ []) 800) 200)
    ∷ shown start ∷ shown (advance None 200)
    ∷ shown (fetch (op 192 2 Branch true false (bytes "sub x9") None (Some (bytes "x0")) (bytes "x3" ∷ bytes "x0" ∷ []) (bytes "x0" ∷
    bytes "x0" ∷ []) 355) 200)
    ∷ shown start ∷ shown retire ∷ shown (advance None 200)
    ∷ shown (fetch (op 196 15 Unknown false true (32 ∷ 126 ∷ 92 ∷ 34 ∷ []) (Some
    (bytes "ffffffffffffffffffffffffffffffffffffffffffffffffffffffffffffffff")) (Some (bytes "sixteen-bytes-ok")) (bytes "x0" ∷
    bytes "x1" ∷ bytes "x1" ∷ bytes "x1" ∷ []) (bytes "sixteen-bytes-ok" ∷ bytes "x1" ∷ []) 79) 200)
    ∷ shown start ∷ shown (resolve 180) ∷ shown retire ∷ shown (advance None 200)
    ∷ shown start ∷ shown (advance None 200) ∷ shown (redirect 1)
    ∷ shown start ∷ shown (advance None 200)
    ∷ shown (fetch (op 1 15 Unknown false false (bytes "   ") None None [] [] 414) 199)
    ∷ shown (fetch (op 1 0 Jump true false (bytes "div x4") None (Some (bytes "shown")) (bytes "x0" ∷ bytes "x0" ∷ bytes "x2" ∷ [])
    (bytes "x3" ∷ bytes "x0" ∷ []) 653) 200)
    ∷ shown start ∷ shown (advance None 200)
    ∷ shown (fetch (op 5 6 FloatingPoint false false (bytes "beq x1") (Some (bytes "page fault")) (Some (bytes "sixteen-bytes-ok"))
    (bytes "x2" ∷ bytes "x2" ∷ []) [] 35) 200)
    ∷ shown start ∷ shown (advance None 200)
    ∷ shown (fetch (op 9 1 FloatingPoint false false [] None (Some (bytes "rflags")) (bytes "x1" ∷ bytes "x3" ∷ bytes "x0" ∷
    bytes "x0" ∷ bytes "x0" ∷ bytes "x3" ∷ bytes "x2" ∷ bytes "x3" ∷ []) (bytes "rflags" ∷ bytes "x1" ∷ bytes "x2" ∷ bytes "x3" ∷ [])
    371) 200)
    ∷ shown start ∷ shown (advance None 200)
    ∷ shown (fetch (op 13 8 System false false (bytes "nop x1") None (Some (bytes "x2")) (bytes "x0" ∷ bytes "x0" ∷ bytes "a.0" ∷
    bytes "x3" ∷ bytes "x2" ∷ bytes "x1" ∷ bytes "x1" ∷ bytes "b.0" ∷ []) (bytes "x2" ∷ bytes "rflags" ∷ bytes "x1" ∷ bytes "x2" ∷
    []) 901) 200)
    ∷ shown start ∷ shown (advance None 200)
    ∷ shown (fetch (op 17 0 Store false false (bytes "add x7") None (Some []) (bytes "x0" ∷ bytes "x0" ∷ []) (bytes "x3" ∷ bytes "x3"
    ∷ []) 865) 200)
    ∷ shown start ∷ shown (resolve 64) ∷ shown retire ∷ shown (advance (Some 64) 200)
    ∷ shown (fetch (op 25 1 Branch true false (bytes "beq x3") None (Some (bytes "shown")) (bytes "x2" ∷ bytes "x1" ∷
    bytes "sixteen-bytes-ok" ∷ []) (bytes "x0" ∷ bytes "x1" ∷ bytes "sixteen-bytes-ok" ∷ []) 568) 200)
    ∷ shown start ∷ shown (advance None 200)
    ∷ shown (fetch (op 29 3 Branch true false (bytes "add x6") None None (bytes "x2" ∷ [] ∷ []) [] 453) 200)
    ∷ shown start ∷ shown (advance None 200)
    ∷ shown start ∷ shown (advance None 200)
    ∷ shown (fetch (op 33 14 Divide false false (bytes "fadd x9") (Some []) (Some (bytes "x2")) (bytes "x1" ∷ bytes "x1" ∷ [])
    (bytes "x2" ∷ bytes "x2" ∷ bytes "x0" ∷ bytes "x1" ∷ []) 286) 200)
    ∷ shown start ∷ shown (advance None 200)
    ∷ shown (fetch (op 37 11 Alu false false (bytes "sw x2") None (Some (bytes "sixteen-bytes-ok")) (bytes "x3" ∷ bytes "x2" ∷
    bytes "x0" ∷ []) (bytes "x1" ∷ bytes "x0" ∷ []) 18446744073709551614) 200)
    ∷ shown start ∷ shown (resolve 148) ∷ shown retire ∷ shown (advance (Some 148) 200)
    ∷ shown (fetch (op 148 0 Jump true false (bytes "fadd x4") None (Some (bytes "x0")) (bytes "x0" ∷ bytes "x3" ∷ bytes "x1" ∷
    bytes "x2" ∷ bytes "sixteen-bytes-ok" ∷ bytes "x2" ∷ bytes "x1" ∷ bytes " x 1" ∷ []) (bytes "x0" ∷ bytes "x1" ∷ bytes "x3" ∷
    bytes "x0" ∷ []) 153) 200)
    ∷ shown start ∷ shown (advance None 200)
    ∷ shown (fetch (op 152 14 Store false false (bytes "div x0") (Some (bytes "page fault")) (Some (bytes "x1")) (bytes "x0" ∷
    bytes "x2" ∷ []) (bytes "x1" ∷ bytes "x3" ∷ bytes "x3" ∷ []) 603) 200)
    ∷ shown start ∷ shown (advance None 200)
    ∷ shown (fetch (op 0 2 Jump true false (32 ∷ 126 ∷ 92 ∷ 34 ∷ []) None (Some []) ([] ∷ bytes "x0" ∷ bytes "x1" ∷ []) (bytes "x1" ∷
    bytes "x3" ∷ []) 18446744073709551615) 200)
    ∷ shown start ∷ shown (advance None 200)
    ∷ rest ∷ []

abbrev numbers : List ℕ
numbers =
    1249553977097373940 ∷ 459758259241173969 ∷ 1360425287516021733 ∷ 2028071323952835558 ∷ 1166355888904194069
    ∷ 308158690571449769 ∷ 1740831799546106476 ∷ 349294061553173053 ∷ 275988829220671290 ∷ 892987007817967402 ∷ 1633472097179308623
    ∷ 1315491128085210917 ∷ 261826821027576228 ∷ 2266474887473514995 ∷ 867423942643532031 ∷ 2128809695318350411 ∷ 234691002908829772
    ∷ 1117005271897390875 ∷ 118009512704288631 ∷ 1658715897564026019 ∷ 1083519450091731749 ∷ 1414541389570137168
    ∷ 2061929358971804187 ∷ 1228143518407275850 ∷ 1383571951777426862 ∷ 1011344634514036754 ∷ 1738774172819358768
    ∷ 347557503880979092 ∷ 1421496693419051738 ∷ 834075274957756650 ∷ 525931495505036572 ∷ 1913604946511410341 ∷ 540075596879368564
    ∷ 1506773949190318746 ∷ 1101556285380400042 ∷ 2297163344305478248 ∷ 480534606728833850 ∷ 183027974528019890 ∷ 821254672343769873
    ∷ 1775963211891160051 ∷ 1771014216221943727 ∷ 132008092293781074 ∷ 1118455777868836216 ∷ 597346614912759784 ∷ 17739847608883656
    ∷ 2042441907547486036 ∷ 2160912767651500671 ∷ 1773695075455631138 ∷ 2103338679030882039 ∷ 1808049007646493010
    ∷ 347820578307656910 ∷ 2064061788489730232 ∷ 1937377297136936168 ∷ 2238135466186617711 ∷ 1412666234017602587
    ∷ 603629259463809990 ∷ 603629259463809990 ∷ 2003630890791490732 ∷ 2202648373985079020 ∷ 774652454269199795 ∷ 112366888317406744
    ∷ 776226167179527284 ∷ 874891239696824110 ∷ 1547605727534490362 ∷ 1083846321373169678 ∷ 17971466533258033 ∷ 24900730014482567
    ∷ 113899685201202078 ∷ 2059544958962710704 ∷ 1584863765677522343 ∷ 2290209005598478435 ∷ 1536729162617464920
    ∷ 1457046507500162559 ∷ 741903912226880329 ∷ 2029328017907653557 ∷ 2135860984881915618 ∷ 606008708009161184
    ∷ 1647112947125633554 ∷ 543543493574006595 ∷ 2206557848810620388 ∷ 1164963660165085378 ∷ 2230663306793713123
    ∷ 679091108056684779 ∷ 2281740157708274448 ∷ 104532951832598535 ∷ 1816757653282328994 ∷ 143881571306281445 ∷ 678813687175610482
    ∷ 2060557269485074801 ∷ 717903706147150897 ∷ 2077083094223725891 ∷ 1141846383134023782 ∷ 1541079109980375202
    ∷ 1663749337453894232 ∷ 279560007800719976 ∷ 691179559647359490 ∷ 1957290877039157419 ∷ 977776212925129060 ∷ 2273155021049499894
    ∷ 1033314359488842511 ∷ 955592147503383743 ∷ 1723673611899468459 ∷ 1348927603514806487 ∷ 1212871249641971505
    ∷ 108686304312345238 ∷ 465190689098824387 ∷ 662270666202889355 ∷ 867314217794979432 ∷ 824108975835207695 ∷ 1401206895756680582
    ∷ 1814260512286331302 ∷ 1581013583962037867 ∷ 355754334427241346 ∷ 1632185387551873433 ∷ 1232912153243211269
    ∷ 2087076606903664272 ∷ 1516814871589526906 ∷ 1530656395600294027 ∷ 79212551466741662 ∷ 1971517161129943522
    ∷ 1942098681616681910 ∷ 1437759175321056810 ∷ 851866273616296411 ∷ 2304971608739269604 ∷ 53335661424098513 ∷ 688100050988873489
    ∷ 523402509323297946 ∷ 1438104096169003462 ∷ 672593001673162611 ∷ 2040967907585503473 ∷ 2195528899065701726
    ∷ 1664664849940494967 ∷ 284402660796164208 ∷ 283128316781380554 ∷ []

abbrev pub case_25 : Case
case_25 = case_of shape 0 202 steps numbers
