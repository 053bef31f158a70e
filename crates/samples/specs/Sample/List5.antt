-- List 5 of the sample, from seed 1566. Made by the harness: see docs/SAMPLES.md.
use Rattle.std.specs.Prelude.{ℕ, true, false, List, [], ◌∷◌, None, Some}
use Rattle.laws.specs.Texts.{bytes}
use Rattle.capability.specs.declared.PipelineInstructionClass.TheVariants.{Alu, Multiply, Divide, Load, Store, Branch, System, Unknown}
use Rattle.model.specs.Config.{timing, unit_spec, PipelineShape, pipeline_shape}
use Rattle.model.specs.Requests.{
  in_station,
  in_unit,
  source,
  write,
  status_message,
  slot_text,
  trace_detail,
  row_disassembly,
  station_label,
  rename_register,
  cell_label,
  operand_register,
}
use Rattle.model.specs.Calls.{
  status,
  stats,
  resume_pc,
  trace_count,
  rename_count,
  buffer_capacity,
  in_flight_before,
  rename,
  start,
  retire,
  resolve,
  advance,
  fetch,
  capacity,
  overlap,
  halt,
  reset,
  redirect,
  view,
  cell,
  text,
}
use Rattle.samples.specs.Lists.{Step, shown, rest, Case, case_of, op}
use Rattle.capability.specs.declared.PipelineStageRole.TheVariants as role

abbrev shape : PipelineShape
shape =
    pipeline_shape (role.Issue ∷ role.Execute ∷ role.Fetch ∷ role.Issue ∷ role.Writeback ∷ role.Commit ∷ role.Other ∷ role.Fetch ∷
    role.Other ∷ role.Memory ∷ role.Memory ∷ role.Writeback ∷ role.Fetch ∷ role.Other ∷ role.Other ∷ []) (Some 4) (timing 1 5 1 8 0 3
    0) (unit_spec (bytes "LSU") (System ∷ Divide ∷ Store ∷ Branch ∷ Unknown ∷ System ∷ Load ∷ Branch ∷ Alu ∷ Unknown ∷ []) Unknown 2
    ∷ []) 2

abbrev steps : List Step
steps =
    shown (overlap true)
    ∷ shown start ∷ shown (cell 0 0 400) ∷ shown (cell 0 0 400) ∷ shown (advance None 400)
    ∷ shown (fetch (op 0 11 Multiply false false (bytes "add x5") None (Some (bytes "x1")) [] (bytes "x1" ∷ []) 516) 400) ∷ shown
    (resolve 212)
    ∷ shown start ∷ shown halt ∷ shown (capacity 0 65) ∷ shown (advance None 400)
    ∷ shown start ∷ shown (overlap false) ∷ shown (advance None 400) ∷ shown (capacity 0 18446744073709551615) ∷ shown (view (rename
    1))
    ∷ shown start
    ∷ shown (fetch (op 4 15 Divide false false (bytes "? x2") None None [] (bytes "x6" ∷ bytes "x7" ∷ bytes "x1" ∷ bytes "x4" ∷ [])
    974) 0) ∷ shown (capacity 0 3) ∷ shown (text (cell_label 9) 0) ∷ shown (advance None 400) ∷ shown (cell 0 0 400)
    ∷ shown start ∷ shown (capacity 0 3) ∷ shown (advance None 400) ∷ shown (reset 1 400)
    ∷ shown start ∷ shown (capacity 2 3) ∷ shown (advance None 400) ∷ shown halt ∷ shown (advance (Some 248) 400) ∷ shown (resolve
    160) ∷ shown (view rename_count) ∷ shown (view resume_pc) ∷ shown (view trace_count) ∷ shown (view status)
    ∷ shown start ∷ shown (redirect 76) ∷ shown (text (cell_label 255) 0) ∷ shown (text (operand_register 0 2) 1) ∷ shown (text
    (station_label 0) 4) ∷ shown (view buffer_capacity)
    ∷ shown start
    ∷ shown (fetch (op 76 8 System false false (97 ∷ 98 ∷ 127 ∷ []) None (Some (bytes "x0")) (bytes " x 1" ∷ bytes "x6" ∷ bytes "x1"
    ∷ []) (bytes "x0" ∷ bytes "x2" ∷ []) 898) 400) ∷ shown (advance None 400)
    ∷ shown (fetch (op 76 4 Branch true false (bytes "div x1") None (Some (bytes "x5")) (bytes "x0" ∷ bytes "x3" ∷ []) (bytes "x5" ∷
    []) 489) 400) ∷ shown (view (in_flight_before 0))
    ∷ shown start ∷ shown (advance None 400) ∷ shown (capacity 0 3) ∷ shown (text (slot_text (in_unit 0) (write 5)) 0)
    ∷ shown start ∷ shown (view (in_flight_before 0)) ∷ shown (advance None 400) ∷ shown (text status_message 0)
    ∷ shown start ∷ shown (capacity 0 2) ∷ shown (advance None 400) ∷ shown (resolve 196)
    ∷ shown start ∷ shown (text (trace_detail 0) 0) ∷ shown (advance None 400) ∷ shown (overlap false) ∷ shown (cell 1 0 400)
    ∷ shown start ∷ shown (resolve 80) ∷ shown (cell 0 1 400) ∷ shown retire ∷ shown (resolve 1029074110373462920) ∷ shown retire ∷
    shown (advance (Some 1029074110373462920) 400) ∷ shown (overlap false)
    ∷ shown (fetch (op 1029074110373462920 12 Alu false false (bytes "sub x2") (Some (bytes "page fault")) (Some (bytes "x5"))
    (bytes "x1" ∷ bytes "x6" ∷ bytes "x1" ∷ []) (bytes "x5" ∷ bytes "x2" ∷ []) 493) 400) ∷ shown retire
    ∷ shown (fetch (op 1029074110373462924 3 Store false false (bytes "xor x0") None None (bytes "x1" ∷ bytes "x1" ∷ bytes "x1" ∷
    bytes "x1" ∷ bytes "x1" ∷ bytes "x1" ∷ (97 ∷ 98 ∷ 127 ∷ []) ∷ []) [] 18446744073709551615) 0) ∷ shown (cell 3 1 400) ∷ shown
    (text (rename_register 0) 0)
    ∷ shown start ∷ shown (overlap false) ∷ shown (advance None 400)
    ∷ shown start ∷ shown (cell 2 0 405) ∷ shown (resolve 12) ∷ shown (cell 0 3 399) ∷ shown (cell 0 1 169)
    ∷ shown (fetch (op 1029074110373462924 3 Unknown false true (bytes "sub x7") None None (bytes "x0" ∷ bytes "x7" ∷ bytes "x7" ∷
    bytes "sixteen-bytes-ok" ∷ bytes "rflags" ∷ bytes "x1" ∷ bytes "x1" ∷ bytes "a.0" ∷ bytes "x1" ∷ []) [] 63) 400) ∷ shown (advance
    None 400)
    ∷ shown start ∷ shown (view (in_flight_before 1)) ∷ shown (advance None 400)
    ∷ shown start ∷ shown (advance None 400)
    ∷ shown start ∷ shown (view buffer_capacity) ∷ shown (advance None 400) ∷ shown (redirect 6210811920114447489) ∷ shown (text
    (trace_detail 0) 0) ∷ shown (text (row_disassembly 0) 5)
    ∷ shown start ∷ shown (resolve 132)
    ∷ shown (fetch (op 6210811920114447489 9 Alu false false (bytes "  jal  x1 ") (Some
    (bytes "ffffffffffffffffffffffffffffffffffffffffffffffffffffffffffffffff")) (Some (bytes "x7")) (bytes "x4" ∷ bytes "b.0" ∷ [])
    (bytes " x 1" ∷ bytes "c.0" ∷ [] ∷ bytes "x3" ∷ bytes "x4" ∷ []) 194) 0) ∷ shown (overlap true) ∷ shown (advance None 400)
    ∷ shown (fetch (op 6210811920114447489 6 System false false (bytes "nop x9") None (Some (bytes "d.0")) (bytes "x7" ∷ bytes "x3" ∷
    bytes "rflags" ∷ bytes "x2" ∷ bytes "x6" ∷ bytes "x1" ∷ [] ∷ bytes "x3" ∷ []) (bytes "d.0" ∷ bytes "x6" ∷ bytes "x6" ∷ bytes "x6"
    ∷ []) 530) 400) ∷ shown (text (slot_text (in_station 1) (source 1)) 0)
    ∷ shown start ∷ shown (advance None 400)
    ∷ shown (fetch (op 6210811920114447493 1 Alu false false
    (bytes "ecall                                                           ") (Some []) (Some (bytes "x6")) (bytes "x7" ∷ bytes "x7"
    ∷ []) (bytes "x6" ∷ []) 282) 400) ∷ shown (view stats) ∷ shown (capacity 0 3) ∷ shown (capacity 0 65) ∷ shown (capacity 0 4)
    ∷ shown start ∷ shown (text (slot_text (in_station 18446744073709551615) (source 0)) 0) ∷ shown (advance None 400)
    ∷ shown start ∷ shown (advance None 400)
    ∷ shown start
    ∷ rest ∷ []

abbrev numbers : List ℕ
numbers =
    459945524699642667 ∷ 59823869450987414 ∷ 1858563310642490986 ∷ 1539026144458498277 ∷ 1539026144458498277
    ∷ 1268454171525613977 ∷ 1978693174309953358 ∷ 1414694380488532297 ∷ 899938492698266746 ∷ 506215372429729798
    ∷ 2247944801750208474 ∷ 1610516291042450553 ∷ 1337191700644087889 ∷ 308740358176939691 ∷ 1413041276789660446
    ∷ 1925278804990775022 ∷ 844660795023940844 ∷ 1139716686391297782 ∷ 1157584428547323314 ∷ 1157584428547323314
    ∷ 1638057676735807353 ∷ 520155917839565393 ∷ 7667750788057942 ∷ 246831327441202729 ∷ 264699069597228261 ∷ 1933113568103164291
    ∷ 609516822232731125 ∷ 102413254210540746 ∷ 514988096709409000 ∷ 2263746022265566409 ∷ 1218332869069775401 ∷ 1451328288129123815
    ∷ 1451328288129123815 ∷ 888845547381152409 ∷ 1015488415428289613 ∷ 888845547381152409 ∷ 753544866052614930 ∷ 96548137020914000
    ∷ 1339988656802763632 ∷ 397219918143698283 ∷ 397219918143698283 ∷ 1363919633787819691 ∷ 2086577833661657622 ∷ 832885088780573253
    ∷ 1245459931279441507 ∷ 1826490065495843726 ∷ 2123586386465217931 ∷ 1375118651313477716 ∷ 1467669594978365597
    ∷ 1167152166860183181 ∷ 2049345371335047847 ∷ 2284494517776047436 ∷ 891309703789177000 ∷ 1163628842934469083
    ∷ 1285760208378855412 ∷ 950716275174665182 ∷ 42446817523817748 ∷ 1849165407132608792 ∷ 1317023068356840847 ∷ 1578868122624370542
    ∷ 431914182619679361 ∷ 306710566113983738 ∷ 1564569361330834325 ∷ 758263937681617245 ∷ 1819199872560523096 ∷ 2045643076431127080
    ∷ 1652894842183595350 ∷ 861895854222800063 ∷ 1501093957262813377 ∷ 1976659169621184809 ∷ 727773982074382651
    ∷ 1131570102088266647 ∷ 1543674909905687543 ∷ 2064884112376047124 ∷ 263225871718607003 ∷ 250559462672974742 ∷ 333203319789901689
    ∷ 2037185997567563720 ∷ 597694852012408424 ∷ 631501279559503043 ∷ 27811856899493778 ∷ 2250159992888547487 ∷ 1551215332660929818
    ∷ 1830076894751309588 ∷ 1835332228338646470 ∷ 1835332228338646470 ∷ 1828575370869213336 ∷ 433655824914474032
    ∷ 2037793937967457078 ∷ 1448777147901387163 ∷ 351809089034149199 ∷ 36056401383655947 ∷ 1014187987442041811 ∷ 661614167347540927
    ∷ 325257723171132696 ∷ 314173800731972115 ∷ 1500350756060415657 ∷ 1908308126886838361 ∷ 381035806191564026 ∷ 576251329156186025
    ∷ 506948822847112917 ∷ 153020298374378296 ∷ 677557295777588047 ∷ 1566212836026853161 ∷ 1607602149436339618 ∷ 864136835938332945
    ∷ 903328673899265462 ∷ 84369279044964625 ∷ 1601868925701297309 ∷ 1825838909298549366 ∷ 1601868925701297309 ∷ 319661081231645529
    ∷ 594436118785228436 ∷ 2157636490232909857 ∷ 285936852614850520 ∷ 1362685540996037064 ∷ 1200241896326965430 ∷ 460508663331341002
    ∷ 2005476302034074230 ∷ 93756350952259521 ∷ []

abbrev pub case_5 : Case
case_5 = case_of shape 0 400 steps numbers
