-- List 7 of the sample, from seed 1866. Made by the harness: see docs/SAMPLES.md.
use Rattle.std.specs.Prelude.{ℕ, true, false, List, [], ◌∷◌, None, Some}
use Rattle.laws.specs.Texts.{bytes}
use Rattle.capability.specs.declared.PipelineInstructionClass.TheVariants.{Alu, Multiply, Divide, Load, Store, Jump, System, FloatingPoint}
use Rattle.model.specs.Config.{timing, unit_spec, PipelineShape, pipeline_shape}
use Rattle.model.specs.Calls.{start, retire, advance, fetch, overlap, cell}
use Rattle.samples.specs.Lists.{Step, shown, rest, Case, case_of, op}
use Rattle.capability.specs.declared.PipelineStageRole.TheVariants as role

abbrev shape : PipelineShape
shape =
    pipeline_shape (role.Issue ∷ role.Execute ∷ role.Fetch ∷ role.Commit ∷ role.Other ∷ role.Memory ∷ role.Writeback ∷ role.Memory ∷
    role.Writeback ∷ []) (Some 0) (timing 0 2 0 0 8 3 1) (unit_spec (bytes "BR") (Load ∷ []) Multiply 2 ∷ unit_spec (bytes "EX")
    (Divide ∷ Load ∷ System ∷ []) System 1 ∷ unit_spec (bytes "FPU") [] Load 4 ∷ []) 2

abbrev steps : List Step
steps =
    shown (overlap true)
    ∷ shown start ∷ shown (advance None 400)
    ∷ shown (fetch (op 0 9 FloatingPoint false false (32 ∷ 126 ∷ 92 ∷ 34 ∷ []) (Some (bytes "page fault")) (Some (bytes "x2"))
    (bytes "x5" ∷ bytes "x0" ∷ bytes "x2" ∷ []) (bytes "x2" ∷ bytes "x1" ∷ []) 449) 400)
    ∷ shown start ∷ shown (advance None 400)
    ∷ shown (fetch (op 1 15 Multiply false false (bytes "ecall x5") None (Some (bytes "x3")) (bytes "x2" ∷ bytes "x1" ∷ bytes "x2" ∷
    []) (bytes "x3" ∷ []) 123) 400)
    ∷ shown start ∷ shown (advance None 400)
    ∷ shown (fetch (op 2 9223372036854775808 Store false false (bytes "? x3") None (Some (bytes "x4")) (bytes "x2" ∷ bytes "x2" ∷ [])
    (bytes "x4" ∷ []) 678) 400)
    ∷ shown start ∷ shown (advance None 400)
    ∷ shown (fetch (op 3 3 Store false false (bytes "add x4") None None [] [] 124) 400)
    ∷ shown start ∷ shown (advance None 400)
    ∷ shown start ∷ shown (advance None 400)
    ∷ shown (fetch (op 4 8 Store false false (bytes "add x7") None (Some (bytes "shown")) (bytes "zzzzzzzzzzzzzzzzz" ∷ bytes "x1" ∷
    bytes "x4" ∷ []) (bytes "x4" ∷ bytes "x3" ∷ bytes "x1" ∷ []) 18446744073709551615) 400)
    ∷ shown start ∷ shown retire ∷ shown (advance None 400)
    ∷ shown (fetch (op 4 14 Load false true (bytes "  div  x1 ") None None (bytes "x2" ∷ bytes "x0" ∷ [] ∷ []) [] 904) 400)
    ∷ shown start ∷ shown (advance None 400)
    ∷ shown (fetch (op 5 12 Store false false (bytes "nop x3") None (Some (bytes "x2")) (bytes "x4" ∷ []) (bytes "x2" ∷ [])
    9223372036854775808) 400)
    ∷ shown start ∷ shown (advance None 400)
    ∷ shown (fetch (op 6 11 Load false false (bytes "sub x6") None (Some (bytes "x1")) [] (bytes "x1" ∷ []) 1) 400)
    ∷ shown start ∷ shown (advance (Some 204) 400)
    ∷ shown (fetch (op 204 2 Load false true (bytes "lw x8") None (Some []) (bytes "x3" ∷ []) [] 18) 400)
    ∷ shown start ∷ shown (advance None 400)
    ∷ shown (fetch (op 205 4 Store false false (bytes "ecall x3") None (Some (bytes "sixteen-bytes-ok")) (bytes "x2" ∷ bytes "x4" ∷
    []) [] 0) 400)
    ∷ shown start ∷ shown retire ∷ shown (advance None 400)
    ∷ shown (fetch (op 206 8 Alu false false (bytes "beq x7") (Some []) None (bytes "x5" ∷ [] ∷ bytes "x1" ∷ []) (bytes "x0" ∷ [])
    772) 400)
    ∷ shown start ∷ shown (advance None 400)
    ∷ shown start ∷ shown (advance None 400)
    ∷ shown start ∷ shown (advance None 400)
    ∷ shown start ∷ shown (advance None 399) ∷ shown (advance None 400) ∷ shown (advance None 0)
    ∷ shown start ∷ shown (advance None 400)
    ∷ shown start ∷ shown retire ∷ shown (advance None 400)
    ∷ shown (fetch (op 207 12 Alu false false (34 ∷ 113 ∷ 34 ∷ 32 ∷ 120 ∷ 50 ∷ []) None (Some (bytes "sixteen-bytes-ok")) (bytes "x3"
    ∷ bytes "x1" ∷ bytes "x0" ∷ bytes "x1" ∷ bytes "x3" ∷ bytes "x3" ∷ bytes "x0" ∷ bytes "x3" ∷ []) (bytes "x3" ∷ bytes "x1" ∷
    bytes "x2" ∷ bytes "sixteen-bytes-ok" ∷ bytes "x4" ∷ []) 319) 400)
    ∷ shown (fetch (op 207 0 Store false false (bytes "   ") None (Some (bytes "x2")) ([] ∷ bytes "x0" ∷ bytes "x2" ∷ bytes "x0" ∷
    bytes "x3" ∷ bytes "x5" ∷ bytes "x3" ∷ bytes "x2" ∷ []) (bytes "x2" ∷ bytes "x0" ∷ bytes "x2" ∷ [] ∷ []) 683) 400)
    ∷ shown start ∷ shown retire ∷ shown (cell 0 1 400) ∷ shown (advance None 400)
    ∷ shown start ∷ shown retire ∷ shown (advance None 400) ∷ shown (advance None 400)
    ∷ shown start ∷ shown (advance None 400)
    ∷ shown start ∷ shown retire ∷ shown (advance None 400)
    ∷ shown start ∷ shown (advance (Some 1570561573949654578) 228) ∷ shown (advance None 400)
    ∷ shown start ∷ shown (advance None 400)
    ∷ shown start ∷ shown (advance None 400)
    ∷ shown start ∷ shown (advance None 400)
    ∷ shown start ∷ shown (advance None 400)
    ∷ shown start ∷ shown (advance None 400)
    ∷ shown start ∷ shown retire ∷ shown (advance None 400)
    ∷ shown (fetch (op 208 6 Load false false (bytes "lw x1") (Some (bytes "page fault")) None (bytes "sixteen-bytes-ok" ∷ bytes "x1"
    ∷ []) (bytes "x4" ∷ []) 640) 400)
    ∷ shown start ∷ shown retire ∷ shown (advance None 400)
    ∷ shown (fetch (op 209 7 Jump true false (bytes "add x4") None None [] [] 599) 400)
    ∷ shown start ∷ shown (advance None 400)
    ∷ shown (fetch (op 210 14 Store false false (bytes "cccccccccccccccccccccccccccccccccccccccccccccccccccccccccccccccc") (Some
    (bytes "page fault")) None (bytes "x0" ∷ bytes "x2" ∷ bytes "x1" ∷ bytes "x3" ∷ bytes "x3" ∷ bytes "x3" ∷
    bytes "sixteen-bytes-ok" ∷ bytes "x5" ∷ []) (bytes "x0" ∷ bytes "rflags" ∷ bytes "x3" ∷ bytes "x5" ∷ []) 778) 400)
    ∷ shown start
    ∷ rest ∷ []

abbrev numbers : List ℕ
numbers =
    59727049934056774 ∷ 210161730184407038 ∷ 2208367508040417128 ∷ 1925438707950568026 ∷ 2251193718752673641 ∷ 872050982108604722
    ∷ 131275393772885331 ∷ 2038941525373285699 ∷ 52714603350989813 ∷ 1054300937259544824 ∷ 1884986271298342366 ∷ 2102351677071295978
    ∷ 293028458699312766 ∷ 1478700038913840177 ∷ 2128346870937657727 ∷ 807101603359293782 ∷ 1963974039195880053 ∷ 94973641681541451
    ∷ 1427893532528725262 ∷ 671970512483938848 ∷ 196132403578638114 ∷ 134576530558601486 ∷ 452135414057197397 ∷ 829964225459249498
    ∷ 605750096668187724 ∷ 2255329129945933427 ∷ 1522421149801150220 ∷ 704360650172934217 ∷ 1439032297583683529
    ∷ 2235102093941826498 ∷ 2043313755899900117 ∷ 2002243579347635462 ∷ 1609719070905130050 ∷ 1082539666112111341
    ∷ 769108225081713920 ∷ 102920624794358340 ∷ 1645436312888006822 ∷ 1438117767039624763 ∷ 1970419613208966481 ∷ 360260573608402381
    ∷ 34277180571731292 ∷ 200663605319216170 ∷ 803160079129896291 ∷ 356620896731783766 ∷ 1795207308389233213 ∷ 1339743423753538816
    ∷ 1710450652921464103 ∷ 1650294612279066377 ∷ 1589558507745539884 ∷ 1568831264939440659 ∷ 1506634409179434114
    ∷ 1349457908364875115 ∷ 1030479696641454958 ∷ 1126327125542832732 ∷ 723635415636974386 ∷ 38341809715284922 ∷ 330536782592267559
    ∷ 1821174305102113377 ∷ 1511995030309422454 ∷ 1624196090036299425 ∷ 1854231674710026121 ∷ 2212118905451912983
    ∷ 1550995898459797286 ∷ 1296858568203310981 ∷ 2193361204948911166 ∷ 361433258232793667 ∷ 2140364381892010462
    ∷ 1215960989177575888 ∷ 84247274882473439 ∷ 701565333333053144 ∷ 784606743112768821 ∷ 730356509625663110 ∷ 580258704309539986
    ∷ 1465365812554874771 ∷ 2061881235825220063 ∷ 1171558484904005081 ∷ 284659944930712454 ∷ 736510212303093206 ∷ 458156730608538792
    ∷ 2287383993410454502 ∷ 1012666451711030309 ∷ 103946915161463358 ∷ 2003055177834874037 ∷ 2037498257535090643
    ∷ 1026588548863647592 ∷ 1354052367593672455 ∷ 163175845029793510 ∷ 1398839157648090582 ∷ 895585675066988184 ∷ 33969794242976947
    ∷ 2135997708031687475 ∷ 2181491377407328095 ∷ 1434456713188450429 ∷ 974743746666673525 ∷ 361316607584477764 ∷ []

abbrev pub case_7 : Case
case_7 = case_of shape 0 400 steps numbers
