-- List 27 of the sample, from seed 1826. Made by the harness: see docs/SAMPLES.md.
use Rattle.std.specs.Prelude.{ℕ, true, false, List, [], ◌∷◌, None, Some}
use Rattle.laws.specs.Texts.{bytes}
use Rattle.capability.specs.declared.PipelineInstructionClass.TheVariants.{Alu, Divide, Load, Store, Branch, Unknown}
use Rattle.model.specs.Config.{timing, unit_spec, PipelineShape, pipeline_shape}
use Rattle.model.specs.Requests.{
  in_station,
  in_unit,
  destination,
  source,
  status_message,
  slot_text,
  trace_detail,
  stage_name,
  unit_name,
  station_label,
  rename_register,
  cell_label,
  operand_register,
}
use Rattle.model.specs.Calls.{
  enabled,
  rename_count,
  stage,
  unit,
  buffer_entry,
  start,
  retire,
  retry,
  resolve,
  advance,
  fetch,
  capacity,
  overlap,
  halt,
  fault,
  reset,
  view,
  cell,
  text,
}
use Rattle.samples.specs.Lists.{Step, shown, rest, Case, case_of, op}
use Rattle.capability.specs.declared.PipelineStageRole.TheVariants as role

abbrev shape : PipelineShape
shape =
    pipeline_shape (role.Execute ∷ role.Decode ∷ role.Fetch ∷ role.Decode ∷ role.Decode ∷ role.Other ∷ role.Memory ∷ role.Issue ∷
    role.Fetch ∷ role.Memory ∷ []) (Some 4) (timing 3 0 3 1 5 3 8) (unit_spec (bytes "A") [] Branch 1 ∷ []) 4

abbrev steps : List Step
steps =
    shown (overlap true) ∷ shown (text (slot_text (in_station 1) (source 3)) 0) ∷ shown (text (station_label 0) 2) ∷ shown (reset 196
    800) ∷ shown (capacity 0 1)
    ∷ shown start ∷ shown (text (stage_name 6) 0) ∷ shown (advance None 800) ∷ shown (view (unit 0))
    ∷ shown (fetch (op 196 1 Alu false false (bytes "jal x5") (Some (bytes "page fault")) (Some (bytes "x2")) [] (bytes "x2" ∷ [])
    459) 800) ∷ shown (advance None 800) ∷ shown (view rename_count) ∷ shown (text (cell_label 24) 0) ∷ shown (cell
    18446744073709551615 0 800)
    ∷ shown start ∷ shown (advance None 800) ∷ shown (cell 1 0 800)
    ∷ shown (fetch (op 200 8 Store false false (bytes "cccccccccccccccccccccccccccccccccccccccccccccccccccccccccccccccc") None None
    (bytes "x5" ∷ bytes "x3" ∷ bytes "x2" ∷ bytes "x1" ∷ bytes "x4" ∷ bytes "x4" ∷ bytes "x7" ∷ []) [] 18446744073709551614) 800) ∷
    shown (view (stage 2))
    ∷ shown start ∷ shown (advance None 800) ∷ shown (retry (31 ∷ []))
    ∷ shown start ∷ shown (cell 18446744073709551615 0 800) ∷ shown (advance None 800) ∷ shown (cell 1 2 800) ∷ shown (fault
    (bytes "waiting"))
    ∷ shown start ∷ shown retire ∷ shown (view (buffer_entry 0)) ∷ shown (text (unit_name 0) 2) ∷ shown (capacity 0
    18446744073709551615) ∷ shown (overlap false) ∷ shown (text (slot_text (in_unit 0) destination) 0) ∷ shown (cell 0 1 800) ∷ shown
    (text status_message 200) ∷ shown (advance None 800) ∷ shown halt ∷ shown (retry (bytes "waiting")) ∷ shown (text (cell_label 9)
    0) ∷ shown retire
    ∷ shown (fetch (op 204 18446744073709551614 Store false false (34 ∷ 113 ∷ 34 ∷ 32 ∷ 120 ∷ 48 ∷ []) (Some []) (Some []) ((31 ∷ [])
    ∷ bytes "x3" ∷ []) ((255 ∷ []) ∷ bytes "x5" ∷ bytes "x7" ∷ bytes "x7" ∷ bytes "x4" ∷ []) 472) 0)
    ∷ shown start ∷ shown (text (station_label 2) 0) ∷ shown (resolve 13240337085818291334)
    ∷ shown (fetch (op 204 14 Divide false true (bytes "sw x5") None None (bytes "x0" ∷ bytes "x5" ∷ bytes "x2" ∷ bytes "x3" ∷
    bytes "x4" ∷ bytes "x7" ∷ bytes "x7" ∷ bytes "x4" ∷ bytes "x0" ∷ []) (bytes "x2" ∷ bytes "x2" ∷ bytes "x2" ∷ bytes "x2" ∷ (31 ∷
    []) ∷ []) 834) 800) ∷ shown (text (stage_name 3) 200) ∷ shown (advance None 800) ∷ shown (capacity 0 2)
    ∷ shown start ∷ shown (advance None 800)
    ∷ shown start ∷ shown (view enabled) ∷ shown (advance None 800)
    ∷ shown start ∷ shown (advance None 800) ∷ shown (reset 208 800)
    ∷ shown start
    ∷ shown start ∷ shown (advance None 800) ∷ shown (capacity 2 3) ∷ shown (retry
    (bytes "zzzzzzzzzzzzzzzzzzzzzzzzzzzzzzzzzzzzzzzzzzzzzzzzzzzzzzzzzzzzzzzzz"))
    ∷ shown (fetch (op 208 4 Unknown false false (bytes "div x7") (Some (97 ∷ 98 ∷ 127 ∷ [])) None [] [] 573) 405)
    ∷ shown start ∷ shown (text (rename_register 0) 0) ∷ shown (advance None 800) ∷ shown (capacity 0 3)
    ∷ shown (fetch (op 208 7 Load false false (bytes "mul x4") None (Some []) (bytes "x7" ∷ []) (bytes "x2" ∷ []) 76) 800) ∷ shown
    (resolve 228)
    ∷ shown start ∷ shown (text (station_label 1) 2) ∷ shown (overlap true) ∷ shown (view (unit 0)) ∷ shown (advance None 800) ∷
    shown (text (slot_text (in_station 3) (source 1)) 0)
    ∷ shown start ∷ shown (capacity 0 4) ∷ shown (advance None 800) ∷ shown (text (slot_text (in_unit 1) (source 5)) 0) ∷ shown (text
    (stage_name 18446744073709551615) 200)
    ∷ shown (fetch (op 212 11 Alu false false (bytes "lw x1") (Some (bytes "page fault")) (Some (bytes "x6")) (bytes "x4" ∷
    bytes "x0" ∷ bytes "x2" ∷ []) (bytes "x6" ∷ bytes "x7" ∷ []) 9223372036854775808) 800)
    ∷ shown start ∷ shown (advance None 800) ∷ shown (retry (bytes "waiting"))
    ∷ shown (fetch (op 216 7 Load false false (bytes "bbbbbbbbbbbbbbbbbbbbbbbbbbbbbbbbbbbbbbbbbbbbbbbbbbbbbbbbbbbbbbbb") (Some
    (bytes "page fault")) (Some (bytes "x4")) [] (bytes "x4" ∷ []) 67) 800)
    ∷ shown start ∷ shown (advance None 800)
    ∷ shown (fetch (op 7 10 Store false true (bytes "fadd x6") None (Some (bytes "sixteen-bytes-ok")) (bytes "x1" ∷ bytes "x5" ∷ [])
    [] 375) 800)
    ∷ shown start ∷ shown (advance None 800) ∷ shown (resolve 5147220572574518608)
    ∷ shown start ∷ shown (advance None 800) ∷ shown (text (trace_detail 18446744073709551615) 0) ∷ shown (text (operand_register 1
    2) 0) ∷ shown retire ∷ shown (advance None 800)
    ∷ shown (fetch (op 9223372036854775808 1 Load false true
    (bytes "ecall                                                           ") None (Some (bytes "x0")) (bytes "x5" ∷ bytes "x6" ∷
    bytes "x0" ∷ bytes "x5" ∷ bytes "a.0" ∷ bytes "x7" ∷ bytes "b.0" ∷ bytes "rflags" ∷ []) (bytes "x0" ∷ bytes "sixteen-bytes-ok" ∷
    bytes "x1" ∷ bytes "x1" ∷ []) 144) 800) ∷ shown (reset 12477539769185324842 800)
    ∷ shown (fetch (op 48 18446744073709551614 Load false false (bytes "beq x3") (Some (bytes "page fault")) (Some (bytes "x6"))
    (bytes "x5" ∷ bytes "x4" ∷ bytes "x7" ∷ []) (bytes "x7" ∷ bytes "x1" ∷ bytes "rflags" ∷ bytes "x7" ∷ bytes "x4" ∷ []) 392) 0)
    ∷ shown (fetch (op 12477539769185324842 13 Load false false (bytes "? x0") None (Some (bytes "shown")) (bytes "x4" ∷ bytes "x7" ∷
    bytes "x1" ∷ bytes "x3" ∷ bytes "rflags" ∷ bytes "x2" ∷ bytes "x0" ∷ bytes "x6" ∷ []) (bytes "x0" ∷ bytes "x3" ∷ bytes "x0" ∷
    bytes "x4" ∷ bytes "x4" ∷ []) 0) 800)
    ∷ shown start ∷ shown (advance None 800) ∷ shown (capacity 2 4) ∷ shown (overlap false) ∷ shown (overlap false)
    ∷ shown (fetch (op 12477539769185324842 6 Divide false true (34 ∷ 113 ∷ 34 ∷ 32 ∷ 120 ∷ 56 ∷ []) (Some []) None [] [] 462) 800)
    ∷ shown start ∷ shown (advance None 800)
    ∷ shown start ∷ shown (advance None 800)
    ∷ shown start ∷ shown (advance None 800)
    ∷ shown start ∷ shown (advance None 800) ∷ shown (advance None 800)
    ∷ shown start
    ∷ shown (fetch (op 12477539769185324846 11 Alu false false (bytes "jal x0") (Some []) None (bytes "x3" ∷ bytes "x5" ∷ bytes "x0"
    ∷ []) (bytes "zzzzzzzzzzzzzzzzz" ∷ []) 515) 800) ∷ shown (advance None 800) ∷ shown (capacity 0 2)
    ∷ rest ∷ []

abbrev numbers : List ℕ
numbers =
    1188311742796663240 ∷ 2281285310394481593 ∷ 497315994711705916 ∷ 1699492201828727292 ∷ 1342884832997748927
    ∷ 1342884832997748927 ∷ 1621339911253578648 ∷ 1511836960982336322 ∷ 1054864164680148965 ∷ 1268028066303114911
    ∷ 1596039311166316027 ∷ 2124888495580641649 ∷ 232567567104086415 ∷ 474118081609461994 ∷ 1015147806120332861
    ∷ 1333151813197997998 ∷ 2157942131641397249 ∷ 777674064653010342 ∷ 1269094425199959830 ∷ 281131566584711582
    ∷ 1375867870721774950 ∷ 178159450445572780 ∷ 627179615291883186 ∷ 1298931436873968206 ∷ 1173051202845295399
    ∷ 1725986456727663030 ∷ 1890604777546661502 ∷ 432658449249945212 ∷ 2018929473439391871 ∷ 2058688366389774055
    ∷ 1076471982215982687 ∷ 2199817871781414732 ∷ 547475791398159409 ∷ 1740563739824298790 ∷ 65046616285676869 ∷ 2086871307389349469
    ∷ 328068543986913819 ∷ 948600514307622979 ∷ 1251980041482170257 ∷ 2088063289154832938 ∷ 1723035315308481563
    ∷ 2088063289154832938 ∷ 1236451112217332651 ∷ 1644222692757948510 ∷ 654471524904509295 ∷ 735628773105027241
    ∷ 1303370224396694099 ∷ 1436676556575778361 ∷ 849592258535869205 ∷ 1436585810586910986 ∷ 512201177982908886 ∷ 456112951913227502
    ∷ 1621669768315916154 ∷ 1481449203141712694 ∷ 1565581542246234770 ∷ 425295349435229471 ∷ 369207123365548087
    ∷ 2158669616034306517 ∷ 312726047440255161 ∷ 2088864670792405162 ∷ 1377779614028602550 ∷ 74435928486414391 ∷ 972369949549021084
    ∷ 2016011104065479367 ∷ 1544731838070522837 ∷ 368200724610303074 ∷ 303942395445176275 ∷ 1569610787718780774
    ∷ 2027374656359943730 ∷ 1000271203858860762 ∷ 1418725505678557632 ∷ 214270509905718959 ∷ 473461876991580418
    ∷ 1159152954040145176 ∷ 1344130211687346244 ∷ 945694996794156068 ∷ 1823081768107892608 ∷ 1542061962176364840
    ∷ 471658124879701796 ∷ 1115450526401043258 ∷ 1115450526401043258 ∷ 1314583136442422885 ∷ 1905411758795694280
    ∷ 386853559407994803 ∷ 97985037826066633 ∷ 825455608760486394 ∷ 75431311318119228 ∷ 1906632404660893333 ∷ 51323439851010507
    ∷ 1127028351460339030 ∷ 1327812784857972490 ∷ 598607022651243168 ∷ 111937016346230878 ∷ 1298757268448747602
    ∷ 1850177577516013043 ∷ 1850177577516013043 ∷ 132274952943837394 ∷ 904605295099940505 ∷ 34477933448090909 ∷ 945750395263211470
    ∷ 1080118727748880412 ∷ 1080118727748880412 ∷ 436189811284817114 ∷ 1687500927547844166 ∷ 2219853724905790204
    ∷ 2290265068560550331 ∷ 2290265068560550331 ∷ 454047803456773680 ∷ 642825935743455804 ∷ 2176873618413963341
    ∷ 2000110413034685918 ∷ 909143604452779442 ∷ 937296150482559833 ∷ 1467864795862786252 ∷ 1532584205912101989
    ∷ 1077421729952187016 ∷ 687698668193038186 ∷ 274706828128692102 ∷ 1105386350251039491 ∷ 2303966192062844407 ∷ 224832534341574293
    ∷ 1488772189753978906 ∷ []

abbrev pub case_27 : Case
case_27 = case_of shape 0 800 steps numbers
