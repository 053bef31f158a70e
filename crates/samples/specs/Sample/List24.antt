-- List 24 of the sample, from seed 2089. Made by the harness: see docs/SAMPLES.md.
use Rattle.std.specs.Prelude.{ℕ, true, false, List, [], ◌∷◌, None, Some}
use Rattle.laws.specs.Texts.{bytes}
use Rattle.capability.specs.declared.PipelineInstructionClass.TheVariants.{
  Alu,
  Multiply,
  Divide,
  Store,
  Branch,
  Jump,
  System,
  FloatingPoint,
  Unknown,
}
use Rattle.model.specs.Config.{timing, unit_spec, PipelineShape, pipeline_shape}
use Rattle.model.specs.Requests.{
  in_unit,
  write,
  status_message,
  slot_text,
  trace_detail,
  row_disassembly,
  stage_name,
  unit_name,
  station_label,
  rename_register,
  operand_register,
}
use Rattle.model.specs.Calls.{
  trace_count,
  buffer_capacity,
  stage,
  unit,
  trace,
  queued,
  start,
  retire,
  retry,
  resolve,
  advance,
  fetch,
  capacity,
  overlap,
  halt,
  fault,
  reset,
  redirect,
  view,
  cell,
  text,
}
use Rattle.samples.specs.Lists.{Step, shown, rest, Case, case_of, op}
use Rattle.capability.specs.declared.PipelineStageRole.TheVariants as role

abbrev shape : PipelineShape
shape =
    pipeline_shape (role.Memory ∷ role.Memory ∷ role.Decode ∷ role.Execute ∷ role.Commit ∷ role.Decode ∷ []) (Some 4) (timing 3 0 2 1
    1 0 1) (unit_spec (bytes "MUL") (Divide ∷ Store ∷ Multiply ∷ Store ∷ System ∷ []) Branch 3 ∷ []) 2

abbrev steps : List Step
steps =
    shown (overlap true)
    ∷ shown start ∷ shown (advance (Some 160) 406) ∷ shown (view trace_count)
    ∷ shown (fetch (op 160 9 Branch true false (bytes "add x6") (Some (bytes "page fault")) None (bytes "x1" ∷ bytes "x1" ∷
    bytes "x1" ∷ bytes "x1" ∷ bytes "x0" ∷ bytes "x1" ∷ bytes "x0" ∷ bytes "x2" ∷ []) [] 613) 407) ∷ shown (fault
    (bytes "wwwwwwwwwwwwwwwwwwwwwwwwwwwwwwwwwwwwwwwwwwwwwwwwwwwwwwwwwwwwwwww")) ∷ shown (redirect 20)
    ∷ shown start ∷ shown (text status_message 0) ∷ shown (view (unit 0)) ∷ shown (advance None 400) ∷ shown (text (slot_text
    (in_unit 0) (write 0)) 0) ∷ shown (capacity 0 4)
    ∷ shown (fetch (op 20 0 Alu false false (bytes "sub x5") None None [] [] 545) 400)
    ∷ shown start ∷ shown (text (station_label 0) 4) ∷ shown (text (rename_register 0) 1) ∷ shown (view (queued 0)) ∷ shown (text
    (unit_name 1) 1)
    ∷ shown (fetch (op 24 12 Multiply false false (bytes "sub x5") (Some
    (bytes "zzzzzzzzzzzzzzzzzzzzzzzzzzzzzzzzzzzzzzzzzzzzzzzzzzzzzzzzzzzzzzzzz")) (Some (bytes "x0")) (bytes "x0" ∷ bytes " x 1" ∷
    bytes "x0" ∷ []) (bytes "x0" ∷ bytes "x1" ∷ []) 915) 400) ∷ shown (advance None 400)
    ∷ shown (fetch (op 24 0 FloatingPoint false false (bytes "add                                                             ") None
    (Some (bytes "sixteen-bytes-ok")) (bytes "x0" ∷ bytes "x1" ∷ bytes "x1" ∷ bytes "rflags" ∷ []) (bytes "x1" ∷ bytes "x1" ∷ [])
    466) 400)
    ∷ shown (fetch (op 18446744073709551615 1 Divide false false (bytes "jal x4") None (Some []) (bytes "x0" ∷ bytes "x1" ∷
    bytes "x0" ∷ bytes "a.0" ∷ bytes "x0" ∷ bytes "x1" ∷ bytes "x2" ∷ bytes "x0" ∷ bytes "x0" ∷ []) (bytes "x1" ∷ []) 55) 400)
    ∷ shown start ∷ shown (advance None 400)
    ∷ shown (fetch (op 28 5 Jump true true (bytes "nop x6") (Some
    (bytes "ffffffffffffffffffffffffffffffffffffffffffffffffffffffffffffffff")) (Some (bytes "x0")) (bytes "x2" ∷ []) (bytes "x0" ∷
    []) 532) 400) ∷ shown (capacity 0 3) ∷ shown halt ∷ shown (cell 1 0 400)
    ∷ shown start ∷ shown retire ∷ shown (retry (bytes "waiting")) ∷ shown (text (row_disassembly 3) 0) ∷ shown (advance None 400) ∷
    shown (text (trace_detail 0) 0)
    ∷ shown start ∷ shown (cell 0 1 400) ∷ shown (redirect 72)
    ∷ shown start ∷ shown (view (stage 2)) ∷ shown (overlap true) ∷ shown retire ∷ shown (advance None 400) ∷ shown (view (unit 2)) ∷
    shown (fault (bytes "waiting")) ∷ shown (reset 120 400)
    ∷ shown start ∷ shown (view buffer_capacity)
    ∷ shown (fetch (op 120 12 Alu false false (97 ∷ 98 ∷ 127 ∷ []) (Some (255 ∷ [])) (Some (bytes "shown")) (bytes "x2" ∷ bytes "x2"
    ∷ bytes "x2" ∷ bytes "x1" ∷ []) (bytes "x2" ∷ bytes "x1" ∷ bytes "x1" ∷ []) 609) 400) ∷ shown (advance None 400) ∷ shown (overlap
    false) ∷ shown (capacity 1 3)
    ∷ shown (fetch (op 18446744073709551615 0 Branch true false (bytes "add x4") None None (bytes "x1" ∷ bytes "x1" ∷ bytes "x2" ∷
    bytes "x0" ∷ bytes "x0" ∷ bytes "x1" ∷ []) (bytes "x0" ∷ bytes "x2" ∷ []) 1) 400)
    ∷ shown start ∷ shown (advance None 400)
    ∷ shown (fetch (op 3 0 Branch true false (bytes "? x9") None (Some (bytes "sixteen-bytes-ok")) (bytes "x1" ∷
    bytes "sixteen-bytes-ok" ∷ bytes "x0" ∷ bytes "x2" ∷ bytes "x0" ∷ bytes "x0" ∷ bytes "x0" ∷ bytes "x1" ∷ []) (bytes "x2" ∷ [])
    26) 400)
    ∷ shown start ∷ shown (advance None 400)
    ∷ shown start ∷ shown (advance None 400) ∷ shown (text (operand_register 2 3) 0) ∷ shown (text status_message 0)
    ∷ shown start ∷ shown (cell 0 1 400) ∷ shown (advance None 51) ∷ shown (advance None 400) ∷ shown (advance (Some 28) 401)
    ∷ shown start ∷ shown (text (stage_name 4) 2) ∷ shown retire
    ∷ shown (fetch (op 3 0 Unknown false false (bytes "sw x7") None (Some (31 ∷ [])) (bytes "b.0" ∷ bytes "x0" ∷ bytes "x2" ∷ [])
    (bytes "x0" ∷ []) 811) 400) ∷ shown (resolve 3) ∷ shown (view (trace 0)) ∷ shown retire ∷ shown (view (stage
    18446744073709551615)) ∷ shown (view buffer_capacity) ∷ shown (resolve 224) ∷ shown (advance (Some 224) 400)
    ∷ shown (fetch (op 224 11 Unknown false false (bytes "sub x1") None None [] [] 443) 400)
    ∷ shown start ∷ shown (advance None 400)
    ∷ shown start ∷ shown (advance None 400) ∷ shown (capacity 0 3)
    ∷ shown start ∷ shown (advance None 399) ∷ shown (advance None 400)
    ∷ shown (fetch (op 228 0 FloatingPoint false false (34 ∷ 113 ∷ 34 ∷ 32 ∷ 120 ∷ 50 ∷ []) None (Some []) [] (bytes "x2" ∷
    bytes "x2" ∷ (97 ∷ 98 ∷ 127 ∷ []) ∷ []) 854) 400)
    ∷ shown start ∷ shown (advance (Some 112) 400) ∷ shown (capacity 0 0)
    ∷ shown start ∷ shown (capacity 0 2) ∷ shown (retry (10 ∷ [])) ∷ shown (capacity 0 3) ∷ shown retire ∷ shown (advance None 408)
    ∷ rest ∷ []

abbrev numbers : List ℕ
numbers =
    2303853476060010500 ∷ 2082513975143235848 ∷ 2299842683791352354 ∷ 54507500884824676 ∷ 2101544286441396358
    ∷ 114248837280617804 ∷ 1681201968391051818 ∷ 529772494443751331 ∷ 2285184611808763364 ∷ 129808388844164978 ∷ 2282150160822618595
    ∷ 1026642457536336890 ∷ 129808388844164978 ∷ 374047095811630569 ∷ 1727056963682067123 ∷ 2060398843992020530 ∷ 646007894456974771
    ∷ 917225367116794613 ∷ 760414643162201275 ∷ 917225367116794613 ∷ 802325031964697547 ∷ 183259608345268818 ∷ 67984740945711253
    ∷ 2304062808918448492 ∷ 1303854850317705912 ∷ 1087907564624270772 ∷ 1305987863141183605 ∷ 2236631468327988571
    ∷ 1580087283775922809 ∷ 1475792156953541074 ∷ 297569511585464662 ∷ 573166859212216100 ∷ 573166859212216100 ∷ 45506112196022953
    ∷ 2302482355081142653 ∷ 45506112196022953 ∷ 1096529464027742161 ∷ 907756115034979441 ∷ 1831073944097345980 ∷ 1407121018172548059
    ∷ 1864269644294941086 ∷ 2055925019905521688 ∷ 1491480513836491323 ∷ 1924967666384128088 ∷ 424910189501100602
    ∷ 650705199659584881 ∷ 482444425714208997 ∷ 699773134362325503 ∷ 253859597708923956 ∷ 1288046003555398640 ∷ 627310186710947279
    ∷ 789434689501347678 ∷ 41820437365584742 ∷ 1624340833524674944 ∷ 884857156523484321 ∷ 1393304829125830331 ∷ 1804341393812137686
    ∷ 509024189387122735 ∷ 1186799031433023949 ∷ 296523733820655353 ∷ 1971425307538994544 ∷ 1153459914959813754
    ∷ 1153459914959813754 ∷ 1356331995823166068 ∷ 2196497492821258376 ∷ 1815190980213647051 ∷ 1439529533902958843
    ∷ 2060957924642353447 ∷ 604003200503829634 ∷ 1512651913329078523 ∷ 1728009775606710037 ∷ 2301925513615638661
    ∷ 557351374095884137 ∷ 1534318529935472540 ∷ 1130206797998444930 ∷ 416587895082077279 ∷ 2198756456622525314
    ∷ 2099196644035172111 ∷ 2141732678753927763 ∷ 259575218950580419 ∷ 1836933904722841862 ∷ 1732499139954404102
    ∷ 160426022504021254 ∷ 1374241625725628755 ∷ 1956049896720505415 ∷ 798014229174634568 ∷ 345053769658396893 ∷ 1594326323608829680
    ∷ 596077484399023866 ∷ 351012932753792016 ∷ 2283148230677627420 ∷ 1235548650599360859 ∷ 417264022124003653 ∷ 1679380287419028742
    ∷ 1394021035938156645 ∷ 1679380287419028742 ∷ 2283137621013771891 ∷ 864846797317486238 ∷ 1013607920307440294 ∷ []

abbrev pub case_24 : Case
case_24 = case_of shape 0 408 steps numbers
