-- List 29 of the sample, from seed 499. Made by the harness: see docs/SAMPLES.md.
use Rattle.std.specs.Prelude.{ℕ, true, false, List, [], ◌∷◌, None, Some}
use Rattle.laws.specs.Texts.{bytes}
use Rattle.capability.specs.declared.PipelineInstructionClass.TheVariants.{Alu, Multiply, Divide, Load, Store, Branch, System, Unknown}
use Rattle.model.specs.Config.{timing, unit_spec, PipelineShape, pipeline_shape}
use Rattle.model.specs.Requests.{
  in_queue,
  in_station,
  destination,
  fault as fault_note,
  source,
  slot_text,
  trace_detail,
  row_disassembly,
  stage_name,
  station_label,
  rename_register,
  operand_register,
}
use Rattle.model.specs.Calls.{
  stats,
  enabled,
  unit_count,
  station,
  queued,
  start,
  retire,
  retry,
  resolve,
  advance,
  fetch,
  capacity,
  overlap,
  halt,
  reset,
  redirect,
  view,
  cell,
  text,
}
use Rattle.samples.specs.Lists.{Step, shown, rest, Case, case_of, op}
use Rattle.capability.specs.declared.PipelineStageRole.TheVariants as role

abbrev shape : PipelineShape
shape =
    pipeline_shape (role.Decode ∷ role.Execute ∷ role.Writeback ∷ role.Issue ∷ role.Other ∷ role.Memory ∷ role.Other ∷ role.Decode ∷
    role.Other ∷ role.Memory ∷ role.Memory ∷ role.Issue ∷ role.Other ∷ role.Decode ∷ role.Decode ∷ []) None (timing 0 5 0 2 8 5 8)
    (unit_spec (bytes "12345678") [] Unknown 2 ∷ []) 1

abbrev steps : List Step
steps =
    shown (overlap true)
    ∷ shown start ∷ shown (advance (Some 6190588161699076636) 200) ∷ shown (text (slot_text (in_queue 0) fault_note) 0)
    ∷ shown (fetch (op 6190588161699076636 0 Load false false (bytes "nop x1") None (Some (bytes "sixteen-bytes-ok")) (bytes "x5" ∷
    bytes "x3" ∷ bytes "x1" ∷ []) [] 787) 200)
    ∷ shown start ∷ shown (advance None 200)
    ∷ shown start ∷ shown (advance None 200) ∷ shown (advance (Some 88) 200) ∷ shown (overlap false) ∷ shown (view stats) ∷ shown
    (text (rename_register 0) 1) ∷ shown (text (slot_text (in_station 3) destination) 0) ∷ shown (capacity 0 65)
    ∷ shown (fetch (op 6190588161699076637 11 Alu false false (bytes "add x2") None (Some []) (bytes "x6" ∷ [] ∷ []) (bytes "x3" ∷
    []) 463) 200) ∷ shown (overlap false) ∷ shown (text (rename_register 0) 0) ∷ shown halt
    ∷ shown start ∷ shown (advance None 200) ∷ shown (reset 18446744073709551614 200)
    ∷ shown start ∷ shown (advance (Some 8861283483217574691) 200) ∷ shown (capacity 0 65)
    ∷ shown (fetch (op 8861283483217574691 4 Divide false false (bytes "sub x9") None None (bytes "x1" ∷ bytes "x1" ∷ bytes "x1" ∷
    bytes "x1" ∷ bytes "x1" ∷ (10 ∷ []) ∷ []) (bytes "x2" ∷ bytes "x2" ∷ bytes "x2" ∷ (31 ∷ []) ∷ []) 608) 9) ∷ shown (view
    unit_count) ∷ shown (text (rename_register 0) 200)
    ∷ shown (fetch (op 8861283483217574691 9223372036854775808 Load false false (bytes "lw x7") (Some
    (bytes "ffffffffffffffffffffffffffffffffffffffffffffffffffffffffffffffff")) (Some (bytes "x7")) [] (bytes "x7" ∷ []) 741) 200) ∷
    shown (capacity 0 0) ∷ shown (cell 0 0 200)
    ∷ shown start ∷ shown (advance None 200)
    ∷ shown start ∷ shown (advance None 200) ∷ shown (overlap true)
    ∷ shown start ∷ shown (text (trace_detail 0) 0) ∷ shown (advance None 200)
    ∷ shown (fetch (op 18084655520072350499 0 Unknown false false (bytes "lw x0") None (Some []) (bytes "x7" ∷ bytes "x4" ∷
    bytes "x3" ∷ []) ([] ∷ bytes "x3" ∷ bytes "x6" ∷ []) 792) 200) ∷ shown (retry (bytes "waiting"))
    ∷ shown start ∷ shown (resolve 188) ∷ shown (redirect 12)
    ∷ shown start ∷ shown (advance None 200) ∷ shown (reset 0 200)
    ∷ shown start ∷ shown (advance None 200)
    ∷ shown (fetch (op 0 15 Alu false false (bytes "mul x5") None (Some (bytes "sixteen-bytes-ok")) (bytes "x4" ∷ []) [] 685) 200)
    ∷ shown start ∷ shown (advance None 200) ∷ shown retire
    ∷ shown (fetch (op 15 15 System false false (bytes "ecall x3") (Some
    (bytes "ffffffffffffffffffffffffffffffffffffffffffffffffffffffffffffffff")) None (bytes "x6" ∷ bytes "x7" ∷ bytes "x4" ∷ [])
    (bytes "x1" ∷ bytes "x0" ∷ []) 527) 200) ∷ shown (overlap false) ∷ shown (capacity 0 1)
    ∷ shown start ∷ shown (advance None 200)
    ∷ shown start ∷ shown (text (stage_name 0) 2) ∷ shown (view (station 0)) ∷ shown (advance None 200)
    ∷ shown start ∷ shown (advance None 200) ∷ shown (text (row_disassembly 0) 8)
    ∷ shown start ∷ shown retire ∷ shown (view (queued 0))
    ∷ shown (fetch (op 30 0 Store false false (bytes "add x1") None (Some []) (bytes "x7" ∷ bytes "x4" ∷ bytes "x4" ∷ bytes "x4" ∷
    bytes "x1" ∷ bytes "sixteen-bytes-ok" ∷ bytes "x1" ∷ bytes "x0" ∷ bytes "x2" ∷ []) (bytes "x6" ∷ []) 896) 200) ∷ shown (text
    (slot_text (in_station 0) (source 1)) 0) ∷ shown (advance None 200) ∷ shown (view enabled)
    ∷ shown start ∷ shown (advance None 200)
    ∷ shown start ∷ shown (cell 0 0 200) ∷ shown (advance None 200) ∷ shown (text (rename_register 1) 2) ∷ shown (overlap true)
    ∷ shown start
    ∷ shown (fetch (op 30 1 Alu false false (bytes "add x0") None (Some (97 ∷ 98 ∷ 127 ∷ [])) (bytes "x4" ∷ bytes "x5" ∷ bytes "x2" ∷
    bytes "x4" ∷ bytes "x7" ∷ bytes "x4" ∷ bytes "x1" ∷ bytes "x1" ∷ (10 ∷ []) ∷ []) (bytes "x2" ∷ bytes "x2" ∷ bytes "x2" ∷
    bytes "zzzzzzzzzzzzzzzzz" ∷ []) 413) 200) ∷ shown (resolve 232) ∷ shown (resolve 208) ∷ shown (advance None 200)
    ∷ shown (fetch (op 30 5 Branch true false (bytes "? x1") (Some []) (Some (bytes "sixteen-bytes-ok")) (bytes "x3" ∷ bytes "x2" ∷
    []) (bytes "x7" ∷ []) 364) 200) ∷ shown (capacity 2 1) ∷ shown (advance (Some 32) 200)
    ∷ shown start ∷ shown (advance None 200)
    ∷ shown start ∷ shown (advance None 200)
    ∷ shown start ∷ shown (advance None 0) ∷ shown (resolve 116) ∷ shown (cell 1 0 200) ∷ shown (advance None 200)
    ∷ shown start ∷ shown retire ∷ shown (advance None 200) ∷ shown (resolve 17465787988831859147)
    ∷ shown start ∷ shown (advance None 200)
    ∷ shown start ∷ shown retire ∷ shown (text (station_label 1) 0) ∷ shown (advance (Some 104) 200) ∷ shown (view enabled)
    ∷ shown (fetch (op 104 0 Store false false (bytes "ecall x2") None (Some (bytes "x5")) (bytes "x5" ∷ bytes "x7" ∷ bytes "x0" ∷
    bytes "x4" ∷ bytes "x2" ∷ bytes "x1" ∷ bytes "x3" ∷ bytes "x0" ∷ []) (bytes "x5" ∷ bytes "x7" ∷ bytes "x2" ∷ bytes "x7" ∷ [])
    355) 200)
    ∷ shown (fetch (op 105 4 Multiply false false (34 ∷ 113 ∷ 34 ∷ 32 ∷ 120 ∷ 53 ∷ []) None (Some (bytes "x6")) (bytes "x6" ∷
    bytes "x3" ∷ bytes "x2" ∷ bytes "x4" ∷ bytes " x 1" ∷ bytes "x3" ∷ bytes "x6" ∷ bytes "x4" ∷ bytes "x5" ∷ []) (bytes "x6" ∷ [])
    327) 200)
    ∷ shown start ∷ shown (text (operand_register 1 1) 0) ∷ shown (retry (31 ∷ []))
    ∷ rest ∷ []

abbrev numbers : List ℕ
numbers =
    2026175138268718566 ∷ 235321636365919987 ∷ 2043474976227565219 ∷ 1901386131989606467 ∷ 1054906515133707593
    ∷ 2123319721455214596 ∷ 781508609310606198 ∷ 1284560938482887543 ∷ 1095563368898086856 ∷ 1737747366264849626
    ∷ 652721327973136448 ∷ 1229671299726799550 ∷ 1161112007096525715 ∷ 166118628346042768 ∷ 166118628346042768 ∷ 2281231370208527118
    ∷ 1375073410244213669 ∷ 1375073410244213669 ∷ 114203394643450274 ∷ 896143152962585165 ∷ 1183522394282441411
    ∷ 1674363741391301684 ∷ 1011620188167109573 ∷ 513930518815060854 ∷ 1940446237552347593 ∷ 1905679739067267138
    ∷ 1952730472693219804 ∷ 785237914803875931 ∷ 62270801270895587 ∷ 804648679651068841 ∷ 850161358447708900 ∷ 1010573865582795872
    ∷ 1429759154098325181 ∷ 143543235316211916 ∷ 419964935550356625 ∷ 136526944929107843 ∷ 533232427925600828 ∷ 964483554237781951
    ∷ 1365557716725667885 ∷ 1625538471651843435 ∷ 1039723505167604041 ∷ 1495524818216084544 ∷ 972495995719308806
    ∷ 177313266976215951 ∷ 1982831371630066730 ∷ 1199248331924033299 ∷ 540968360099003623 ∷ 1894997673422629512
    ∷ 1150208464027656743 ∷ 1053513633332427202 ∷ 882707555134367901 ∷ 1274950206410146154 ∷ 1922553943043833902
    ∷ 468379760000187859 ∷ 514427283358332212 ∷ 1047017943238266354 ∷ 1047017943238266354 ∷ 1806935937046382276
    ∷ 1403571521023814049 ∷ 1558667532014287375 ∷ 947312242900043096 ∷ 848881655609404893 ∷ 1615420049607333125 ∷ 179322878799960055
    ∷ 2221800873039659215 ∷ 1438979522279744660 ∷ 471557650766880523 ∷ 1028544563088354895 ∷ 1614778320643436427
    ∷ 2068910156527905898 ∷ 1834425368834567904 ∷ 1639926696647601497 ∷ 974807748461219440 ∷ 1117203080095423409
    ∷ 2302663742635297919 ∷ 507284131097994996 ∷ 1583401255656768356 ∷ 344492062025132347 ∷ 1802947963586839476
    ∷ 1122473144805256816 ∷ 1055245635356961581 ∷ 1708373634733307222 ∷ 260062906613868726 ∷ 260062906613868726 ∷ 223377247244862879
    ∷ 2029527275168251138 ∷ 1051720898787838984 ∷ 112011940249602501 ∷ 1002386560857541535 ∷ 105469996847312393 ∷ 840458088224110289
    ∷ 1623402726384349651 ∷ 613237402017470819 ∷ 1117818040373769516 ∷ 1887156642821719856 ∷ 2046208393377270601
    ∷ 1907846817585253019 ∷ 1546903241739107771 ∷ 1115852366738534472 ∷ 1752715468371456700 ∷ 1180144282380469205
    ∷ 1274163178714007113 ∷ 987550943491714118 ∷ 505408990692486700 ∷ 1621897872977248058 ∷ 1453663728062064562
    ∷ 1048065996159975956 ∷ 1610187147702771828 ∷ 583677583585470819 ∷ 2139613964237354251 ∷ 1069033441344805460
    ∷ 780547842596308902 ∷ 513022894383115297 ∷ 150296797673026285 ∷ []

abbrev pub case_29 : Case
case_29 = case_of shape 0 200 steps numbers
