-- List 28 of the sample, from seed 718. Made by the harness: see docs/SAMPLES.md.
use Rattle.std.specs.Prelude.{ℕ, true, false, List, [], ◌∷◌, None, Some}
use Rattle.laws.specs.Texts.{bytes}
use Rattle.capability.specs.declared.PipelineInstructionClass.TheVariants.{Alu, Multiply, Divide, FloatingPoint, Unknown}
use Rattle.model.specs.Config.{timing, PipelineShape, pipeline_shape}
use Rattle.model.specs.Requests.{
  in_station,
  in_unit,
  fault as fault_note,
  source,
  write,
  slot_text,
  trace_detail,
  rename_register,
  operand_register,
}
use Rattle.model.specs.Calls.{
  stats,
  fetch_pc,
  trace_count,
  rename_count,
  unit,
  timeline_row,
  buffer_entry,
  start,
  retire,
  retry,
  resolve,
  advance,
  fetch,
  capacity,
  overlap,
  halt,
  fault,
  reset,
  redirect,
  view,
  cell,
  text,
}
use Rattle.samples.specs.Lists.{Step, shown, rest, Case, case_of, op}
use Rattle.capability.specs.declared.PipelineStageRole.TheVariants as role

abbrev shape : PipelineShape
shape =
    pipeline_shape (role.Commit ∷ role.Issue ∷ role.Fetch ∷ []) None (timing 0 5 5 1 0 0 2) [] 2

abbrev steps : List Step
steps =
    shown start ∷ shown (view (timeline_row 0))
    ∷ shown start
    ∷ shown start ∷ shown (retry (bytes "zzzzzzzzzzzzzzzzzzzzzzzzzzzzzzzzzzzzzzzzzzzzzzzzzzzzzzzzzzzzzzzzz")) ∷ shown (cell 0 0 400)
    ∷ shown (advance None 400)
    ∷ shown (fetch (op 0 1 Divide false false (bytes "? x2") None (Some (bytes "shown")) (bytes "x6" ∷ bytes "x0" ∷ bytes "x5" ∷
    bytes "x1" ∷ bytes "x5" ∷ bytes "x0" ∷ bytes "x7" ∷ bytes " x 1" ∷ []) (bytes "x0" ∷ bytes "x0" ∷ bytes "x5" ∷ bytes "rflags" ∷
    []) 362) 400)
    ∷ shown start ∷ shown (reset 156 400)
    ∷ shown start ∷ shown (advance None 403)
    ∷ shown (fetch (op 156 2 Unknown false false (bytes "sub x3") None (Some (bytes "x0")) (bytes "x7" ∷ bytes "x2" ∷ bytes "x2" ∷
    []) (bytes "x0" ∷ bytes "x6" ∷ bytes "rflags" ∷ []) 373) 400)
    ∷ shown start ∷ shown (advance None 400) ∷ shown (text (rename_register 18446744073709551615) 0)
    ∷ shown start ∷ shown (advance None 402)
    ∷ shown start ∷ shown (retry (bytes "waiting")) ∷ shown (advance (Some 0) 0) ∷ shown (retry (bytes "waiting")) ∷ shown (advance
    None 400)
    ∷ shown start ∷ shown (retry (10 ∷ [])) ∷ shown (view trace_count) ∷ shown (text (trace_detail 0) 200) ∷ shown (cell 2
    18446744073709551615 400)
    ∷ shown (fetch (op 158 4 Divide false false (128 ∷ []) None (Some (bytes "shown")) (bytes "x7" ∷ bytes "x1" ∷ bytes "a.0" ∷
    bytes "x4" ∷ bytes "rflags" ∷ bytes "rflags" ∷ bytes "b.0" ∷ bytes "x4" ∷ []) [] 344) 400) ∷ shown (view (unit 0)) ∷ shown
    (capacity 0 3) ∷ shown (view stats) ∷ shown (resolve 192) ∷ shown (overlap false) ∷ shown retire ∷ shown (overlap true) ∷ shown
    (reset 18446744073709551615 400) ∷ shown (overlap true)
    ∷ shown start ∷ shown (advance None 400)
    ∷ shown (fetch (op 18446744073709551615 18446744073709551614 FloatingPoint false false
    (bytes "~~~~~~~~~~~~~~~~~~~~~~~~~~~~~~~~~~~~~~~~~~~~~~~~~~~~~~~~~~~~~~~~") None (Some (bytes "x4")) (bytes "x5" ∷ bytes "x0" ∷
    bytes "sixteen-bytes-ok" ∷ bytes "x7" ∷ []) (bytes "x4" ∷ bytes "x5" ∷ []) 655) 400)
    ∷ shown start ∷ shown (view fetch_pc) ∷ shown (reset 17119762476022827648 402)
    ∷ shown start ∷ shown (advance None 400)
    ∷ shown (fetch (op 17119762476022827648 1 FloatingPoint false false
    (bytes "~~~~~~~~~~~~~~~~~~~~~~~~~~~~~~~~~~~~~~~~~~~~~~~~~~~~~~~~~~~~~~~~") None None (bytes "x7" ∷ bytes "x6" ∷ bytes "x3" ∷ [])
    (bytes "x2" ∷ bytes "x6" ∷ []) 539) 400) ∷ shown (fault (bytes "waiting"))
    ∷ shown start ∷ shown (redirect 56) ∷ shown (view trace_count)
    ∷ shown start ∷ shown (text (operand_register 18446744073709551615 2) 0) ∷ shown (advance None 400) ∷ shown (view (buffer_entry
    0))
    ∷ shown (fetch (op 56 1 Multiply false true (bytes "div x3") None (Some (bytes "shown")) (bytes "x2" ∷ bytes "x1" ∷ bytes "x7" ∷
    []) [] 934) 400)
    ∷ shown start ∷ shown (text (slot_text (in_unit 18446744073709551615) (write 2)) 200) ∷ shown (advance (Some
    16468996918522085660) 400)
    ∷ shown (fetch (op 16468996918522085660 15 Alu false false (bytes "mul x5") None (Some []) (bytes "x0" ∷ bytes "c.0" ∷ bytes "x1"
    ∷ []) (bytes "x6" ∷ []) 18446744073709551615) 400) ∷ shown (view (timeline_row 0)) ∷ shown (text (slot_text (in_unit 0)
    fault_note) 0)
    ∷ shown start ∷ shown (advance None 399) ∷ shown (capacity 2 3) ∷ shown (advance None 400)
    ∷ shown (fetch (op 16468996918522085675 18446744073709551614 Alu false false (bytes "? x1") None (Some (bytes "x7")) (bytes "x1"
    ∷ []) (bytes "x7" ∷ []) 203) 400)
    ∷ shown start ∷ shown (text (rename_register 0) 2)
    ∷ shown (fetch (op 16468996918522085673 15 Multiply false false
    (bytes "bbbbbbbbbbbbbbbbbbbbbbbbbbbbbbbbbbbbbbbbbbbbbbbbbbbbbbbbbbbbbbbb") None None (bytes "x0" ∷ bytes "x1" ∷ []) (bytes "x2" ∷
    (0 ∷ []) ∷ []) 413) 0) ∷ shown (advance None 400)
    ∷ shown (fetch (op 16468996918522085673 0 Alu true false (bytes "? x7") None (Some []) (bytes "x1" ∷ bytes "x3" ∷ []) (bytes "x0"
    ∷ []) 485) 400)
    ∷ shown start ∷ shown (advance None 400) ∷ shown (text (rename_register 0) 2)
    ∷ shown start ∷ shown (view rename_count) ∷ shown (text (trace_detail 18446744073709551615) 1) ∷ shown (retry (10 ∷ [])) ∷ shown
    (text (slot_text (in_station 18446744073709551615) (source 1)) 200) ∷ shown (fault (bytes "waiting")) ∷ shown (text (trace_detail
    0) 1) ∷ shown (advance None 400) ∷ shown (reset 7706938830051440747 400) ∷ shown (capacity 0 0)
    ∷ shown start ∷ shown halt ∷ shown (reset 216 400)
    ∷ shown start
    ∷ rest ∷ []

abbrev numbers : List ℕ
numbers =
    1841598723115878296 ∷ 1711163319985368768 ∷ 89328046165447338 ∷ 1858256306784940508 ∷ 1858256306784940508
    ∷ 643728356092885950 ∷ 1107096611287300861 ∷ 2031352791748473962 ∷ 316348609572286960 ∷ 736269267574664494 ∷ 1467010377440447448
    ∷ 926107959922768008 ∷ 1052680655467069669 ∷ 2003657870731274845 ∷ 117735519519958428 ∷ 1345843041677140243 ∷ 997518908679149931
    ∷ 44301500954038872 ∷ 106232996770387407 ∷ 453534837960735468 ∷ 1881344566431822745 ∷ 1724990730936533971 ∷ 1881344566431822745
    ∷ 2298860014353275888 ∷ 126097918147352535 ∷ 2137120562260847389 ∷ 1284903950538453393 ∷ 1103538667375111015
    ∷ 331001312447710443 ∷ 1338023455068449009 ∷ 1714232796347464221 ∷ 1338023455068449009 ∷ 1607845803501701607
    ∷ 2137120562260847389 ∷ 297657861628898006 ∷ 2137120562260847389 ∷ 609085729705219334 ∷ 1927066657611493521
    ∷ 1927066657611493521 ∷ 1386164240093814081 ∷ 2067191902862116224 ∷ 650921579337651740 ∷ 1436904096102207058
    ∷ 309634497422031274 ∷ 1244205478434136948 ∷ 703303060916457508 ∷ 1071626101074796386 ∷ 1395179711465632230 ∷ 264097013863595702
    ∷ 871129306307438513 ∷ 73965046206194874 ∷ 2161221945858268369 ∷ 309635473514522964 ∷ 1655549211869547630 ∷ 1958019609833834099
    ∷ 1305102167352935126 ∷ 1954507238274275268 ∷ 1745703166199916782 ∷ 818675721276845220 ∷ 1302905992261733845
    ∷ 1633327550903623090 ∷ 1037982003250552976 ∷ 753461005257026306 ∷ 2244713316806839153 ∷ 118781879352461291
    ∷ 1478439307353432918 ∷ 1367365954285962754 ∷ 291224315806700516 ∷ 294787689841677887 ∷ 214712634535085575 ∷ 1126476925554088739
    ∷ 175261443635749213 ∷ 1475863546180684247 ∷ 1893557855467452905 ∷ 1093582952118641542 ∷ 727465271486467565 ∷ 833887056683972319
    ∷ 135414087488741944 ∷ 850953453380263816 ∷ 809673371581145104 ∷ 850953453380263816 ∷ 1934857905921425274 ∷ 1316875356839748726
    ∷ 695105160816161814 ∷ 346779595999177639 ∷ 346779595999177639 ∷ 2111720187695192150 ∷ 1362818112808261243 ∷ 343176153862925950
    ∷ 2108116745558940461 ∷ 1579729896819394994 ∷ []

abbrev pub case_28 : Case
case_28 = case_of shape 0 400 steps numbers
