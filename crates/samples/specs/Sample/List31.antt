-- List 31 of the sample, from seed 441. Made by the harness: see docs/SAMPLES.md.
use Rattle.std.specs.Prelude.{ℕ, true, false, List, [], ◌∷◌, None, Some}
use Rattle.laws.specs.Texts.{bytes}
use Rattle.capability.specs.declared.PipelineInstructionClass.TheVariants.{Alu, Multiply, Divide, Load, Store, Jump, System, FloatingPoint}
use Rattle.model.specs.Config.{timing, unit_spec, PipelineShape, pipeline_shape}
use Rattle.model.specs.Requests.{
  in_queue,
  in_station,
  in_stage,
  in_unit,
  disassembly,
  fault as fault_note,
  source,
  write,
  slot_text,
  trace_detail,
  row_disassembly,
  stage_name,
  unit_name,
  station_label,
  cell_label,
  operand_register,
}
use Rattle.model.specs.Calls.{
  status,
  resume_pc,
  entry_stages,
  station_count,
  queue_count,
  buffer_count,
  buffer_capacity,
  unit,
  trace,
  start,
  retire,
  retry,
  resolve,
  advance,
  fetch,
  capacity,
  overlap,
  fault,
  reset,
  redirect,
  view,
  cell,
  text,
}
use Rattle.samples.specs.Lists.{Step, shown, rest, Case, case_of, op}

abbrev shape : PipelineShape
shape =
    pipeline_shape [] None (timing 0 2 8 0 8 2 2) (unit_spec (bytes "SYS") (Divide ∷ Divide ∷ FloatingPoint ∷ Multiply ∷ []) Alu 2 ∷
    unit_spec (126 ∷ 34 ∷ 92 ∷ 120 ∷ []) (Divide ∷ FloatingPoint ∷ System ∷ []) Alu 4 ∷ []) 2

abbrev steps : List Step
steps =
    shown (overlap true)
    ∷ shown start ∷ shown (fault (bytes "waiting")) ∷ shown (redirect 192) ∷ shown (view queue_count)
    ∷ shown start ∷ shown (capacity 2 65) ∷ shown (advance None 400) ∷ shown (text (slot_text (in_queue 0) fault_note) 0)
    ∷ shown (fetch (op 192 4 Alu false false (bytes "~~~~~~~~~~~~~~~~~~~~~~~~~~~~~~~~~~~~~~~~~~~~~~~~~~~~~~~~~~~~~~~~") None (Some
    []) (bytes "x0" ∷ bytes "x0" ∷ bytes "x7" ∷ []) (bytes "x3" ∷ []) 240) 400)
    ∷ shown start ∷ shown (reset 14044098180716713324 400)
    ∷ shown start
    ∷ shown (fetch (op 14044098180716713324 6 Alu false false (bytes "mul x1") (Some (9 ∷ [])) (Some (bytes "x5")) (bytes "x7" ∷
    bytes "x7" ∷ bytes "x6" ∷ bytes "x1" ∷ bytes "x6" ∷ bytes "x4" ∷ bytes "x6" ∷ bytes "a.0" ∷ bytes "x2" ∷ []) (bytes "x5" ∷ (31 ∷
    []) ∷ []) 973) 400)
    ∷ shown (fetch (op 14044098180716713324 9 Multiply false false (bytes "fadd x1") None (Some (bytes "sixteen-bytes-ok"))
    (bytes "x6" ∷ bytes "x4" ∷ bytes "x2" ∷ bytes "x4" ∷ bytes "x6" ∷ bytes "x1" ∷ bytes "x0" ∷ []) (bytes "x1" ∷ bytes "x7" ∷
    bytes "b.0" ∷ bytes "x3" ∷ []) 527) 400) ∷ shown (text (slot_text (in_unit 0) (write 0)) 0) ∷ shown (capacity 1 3) ∷ shown (text
    (slot_text (in_station 7) (source 4)) 0) ∷ shown (advance None 400)
    ∷ shown (fetch (op 14044098180716713324 4 Multiply false false (bytes "ecall x7") None (Some (bytes "sixteen-bytes-ok"))
    (bytes "sixteen-bytes-ok" ∷ bytes "x2" ∷ []) (bytes "x1" ∷ []) 0) 400)
    ∷ shown start ∷ shown (advance None 400) ∷ shown (retry
    (bytes "zzzzzzzzzzzzzzzzzzzzzzzzzzzzzzzzzzzzzzzzzzzzzzzzzzzzzzzzzzzzzzzzz"))
    ∷ shown (fetch (op 14044098180716713328 10 Divide false false (bytes "beq x0") None (Some (bytes "shown")) (bytes "x4" ∷
    bytes "x5" ∷ []) (bytes "sixteen-bytes-ok" ∷ bytes "x5" ∷ []) 0) 400)
    ∷ shown (fetch (op 14044098180716713338 1 Alu false false
    (bytes "zzzzzzzzzzzzzzzzzzzzzzzzzzzzzzzzzzzzzzzzzzzzzzzzzzzzzzzzzzzzzzzzz") None (Some (31 ∷ [])) (bytes "x2" ∷ bytes "x3" ∷
    bytes "x3" ∷ bytes "x2" ∷ bytes "x3" ∷ bytes "x3" ∷ bytes "x6" ∷ bytes "x6" ∷ []) [] 692) 0) ∷ shown (capacity 0 65)
    ∷ shown start ∷ shown (advance None 400)
    ∷ shown (fetch (op 14044098180716713338 5 Load false false (bytes "beq x7") None (Some (bytes "x0")) (bytes "x3" ∷ [])
    (bytes "x0" ∷ []) 526) 400) ∷ shown (capacity 2 18446744073709551614)
    ∷ shown start ∷ shown (advance None 400)
    ∷ shown (fetch (op 14044098180716713343 13 Jump true true (bytes "? x0") None (Some []) (bytes "x7" ∷ bytes "x2" ∷ bytes "x4" ∷
    []) (bytes "x4" ∷ bytes "rflags" ∷ bytes "x7" ∷ bytes "rflags" ∷ []) 372) 400) ∷ shown (view buffer_count)
    ∷ shown start ∷ shown (advance None 400) ∷ shown (resolve 18446744073709551615)
    ∷ shown start ∷ shown (advance None 400)
    ∷ shown start ∷ shown (advance (Some 68) 0) ∷ shown (text (trace_detail 0) 0) ∷ shown (advance None 400)
    ∷ shown start ∷ shown retire ∷ shown (text (stage_name 2) 1) ∷ shown (overlap true) ∷ shown (advance None 404)
    ∷ shown (fetch (op 14044098180716713343 6 Alu false false (bytes "jal x4") None None (bytes "x6" ∷ []) ([] ∷ []) 47) 400) ∷ shown
    (cell 1 0 400)
    ∷ shown (fetch (op 14044098180716713349 5 Divide false false
    (bytes "zzzzzzzzzzzzzzzzzzzzzzzzzzzzzzzzzzzzzzzzzzzzzzzzzzzzzzzzzzzzzzzzz") (Some
    (bytes "ffffffffffffffffffffffffffffffffffffffffffffffffffffffffffffffff")) (Some (bytes "x0")) (bytes " x 1" ∷ []) (bytes "x0" ∷
    []) 325) 0)
    ∷ shown start ∷ shown (view buffer_capacity) ∷ shown (view status) ∷ shown (advance None 400)
    ∷ shown start ∷ shown (view station_count) ∷ shown (advance None 400)
    ∷ shown start ∷ shown (capacity 0 3) ∷ shown (advance None 400) ∷ shown (view (unit 0))
    ∷ shown start ∷ shown retire
    ∷ shown (fetch (op 14044098180716713349 9 Jump true false (31 ∷ []) None (Some (10 ∷ [])) [] (bytes "x6" ∷ []) 55) 400) ∷ shown
    (advance (Some 17604763866506897701) 400) ∷ shown (capacity 0 65)
    ∷ shown (fetch (op 17604763866506897701 2 Alu false false (bytes "sw x1") None None [] [] 204) 400) ∷ shown (view entry_stages) ∷
    shown (text (stage_name 0) 200)
    ∷ shown start ∷ shown (advance None 400)
    ∷ shown (fetch (op 17604763866506897703 6 Divide false false (bytes "fadd x1") (Some []) None [] [] 497) 400)
    ∷ shown start ∷ shown (advance None 400)
    ∷ shown (fetch (op 17604763866506897709 1 Alu false false (bytes "sw x2") None (Some (bytes "x5")) (bytes "x1" ∷ []) (bytes "x5"
    ∷ (10 ∷ []) ∷ []) 863) 400) ∷ shown (view resume_pc)
    ∷ shown start
    ∷ shown (fetch (op 17604763866506897709 0 Alu false false (bytes "beq x3") (Some (bytes "page fault")) (Some (97 ∷ 98 ∷ 127 ∷
    [])) (bytes "x0" ∷ bytes "x4" ∷ bytes "x0" ∷ bytes "x1" ∷ bytes " x 1" ∷ bytes "x6" ∷ bytes "x3" ∷ bytes "x6" ∷ bytes "x6" ∷ [])
    (bytes "x1" ∷ bytes "x2" ∷ bytes "x2" ∷ bytes "x7" ∷ bytes "x4" ∷ []) 637) 400) ∷ shown (text (slot_text (in_stage
    18446744073709551615) (source 0)) 0) ∷ shown retire ∷ shown (text (row_disassembly 1) 7) ∷ shown (overlap true) ∷ shown (retry
    (bytes "waiting")) ∷ shown (retry (bytes "waiting"))
    ∷ shown (fetch (op 17604763866506897709 6 Store false false (bytes "? x2") None (Some (bytes "x0")) (bytes "x0" ∷ bytes "x5" ∷
    bytes "x5" ∷ bytes "x1" ∷ bytes "x1" ∷ bytes "x0" ∷ bytes "x5" ∷ bytes "c.0" ∷ bytes "x1" ∷ []) (bytes "x0" ∷ bytes " x 1" ∷ [])
    739) 400) ∷ shown (view (trace 0)) ∷ shown (advance None 400)
    ∷ shown (fetch (op 17604763866506897709 6 Alu false false (bytes "mul x0") None (Some (bytes "sixteen-bytes-ok")) (bytes "x4" ∷
    []) [] 1) 405) ∷ shown (text (slot_text (in_stage 1) disassembly) 7)
    ∷ shown start ∷ shown (advance None 400)
    ∷ shown start ∷ shown (cell 0 0 400) ∷ shown retire ∷ shown (text (operand_register 3 0) 200) ∷ shown (text (station_label 2) 0)
    ∷ shown (resolve 112) ∷ shown (retry (bytes "zzzzzzzzzzzzzzzzzzzzzzzzzzzzzzzzzzzzzzzzzzzzzzzzzzzzzzzzzzzzzzzzz")) ∷ shown
    (advance None 400)
    ∷ shown (fetch (op 17604763866506897715 14 Divide false false (bytes "lw x1") None (Some (bytes "x2")) (bytes "x6" ∷ bytes "x6" ∷
    bytes "x5" ∷ []) (bytes "x2" ∷ []) 303) 400)
    ∷ shown start ∷ shown (resolve 13683309356205069886) ∷ shown (advance None 400) ∷ shown (text (unit_name 1) 3) ∷ shown (text
    (stage_name 0) 2) ∷ shown (text (stage_name 3) 2)
    ∷ shown start ∷ shown (fault (bytes "waiting")) ∷ shown retire ∷ shown (advance None 400) ∷ shown (resolve 124) ∷ shown (text
    (cell_label 7) 0)
    ∷ rest ∷ []

abbrev numbers : List ℕ
numbers =
    185632363686609594 ∷ 368788621848611977 ∷ 1935147954061115305 ∷ 163362310302294892 ∷ 115651384979059323 ∷ 115064886525020632
    ∷ 1682010717191562651 ∷ 127705995741533392 ∷ 457392109134420387 ∷ 1062155952602585830 ∷ 1444789681043088294 ∷ 762367157113112417
    ∷ 1327924373992510327 ∷ 588440696991319704 ∷ 1339978984754984396 ∷ 1339978984754984396 ∷ 2274428941616036834
    ∷ 1339978984754984396 ∷ 2274428941616036834 ∷ 895029903073485248 ∷ 606788278206799259 ∷ 1686144572307145854
    ∷ 1589726638245551808 ∷ 410926707145370154 ∷ 993291495006821048 ∷ 1174111099621175883 ∷ 889920388435873563 ∷ 1347803160298664170
    ∷ 1055675837301581422 ∷ 1011615230811331733 ∷ 1932785480497613527 ∷ 2297156783225545931 ∷ 1605631409572766963
    ∷ 2122626405260378291 ∷ 551945063439965240 ∷ 36500473678198456 ∷ 1047440597541222332 ∷ 833393907898313098 ∷ 1280423493709584271
    ∷ 266867947177874571 ∷ 50513524200792860 ∷ 1791157834904884611 ∷ 321860507420760871 ∷ 232942235839024516 ∷ 154738437734442516
    ∷ 103211825601372947 ∷ 1712170580608642730 ∷ 103211825601372947 ∷ 904979521341232335 ∷ 1938764000270535625 ∷ 1061916770815137693
    ∷ 173956702545540650 ∷ 1358739463446341849 ∷ 1040094189960831744 ∷ 1197977502335587702 ∷ 1802397054559418352
    ∷ 905187660659253636 ∷ 419842458027777146 ∷ 2020540522045535896 ∷ 647541031978179751 ∷ 1803669247138536811 ∷ 1592732226547762308
    ∷ 1655985656258518447 ∷ 2107731120282834275 ∷ 213110873649564509 ∷ 2151943787076066789 ∷ 474887177316995231
    ∷ 2220581806643234460 ∷ 1604084316641988393 ∷ 436805058939401485 ∷ 1343363244677687949 ∷ 1167129418010109476
    ∷ 1577657685854266428 ∷ 354728420044605828 ∷ 291666213756274212 ∷ 1715767300985164448 ∷ 2011982495434257282
    ∷ 1452392464150447019 ∷ 1316979275557105830 ∷ 1802641357649097355 ∷ 1586383235409101019 ∷ 1825435924011753822
    ∷ 1282144947571341404 ∷ 1825435924011753822 ∷ 893154674540338168 ∷ 893154674540338168 ∷ 732869200677149210 ∷ 847750661317299841
    ∷ 2074516423500066245 ∷ 2059218064985973996 ∷ 1982244477653207880 ∷ 69179087126834695 ∷ 238108869277565536 ∷ 999189498251112189
    ∷ 1671595916578926796 ∷ 1465721575176217336 ∷ 1742540917505990752 ∷ 388956918289783569 ∷ 13784521042042078 ∷ 788407965537228797
    ∷ 1656962265299881887 ∷ 160497876031450602 ∷ 1963417765116051698 ∷ 1536361460376489685 ∷ 1883268842926705792
    ∷ 436347397019752782 ∷ 1061391551819162925 ∷ 942007779398640600 ∷ 2255091965408987239 ∷ 387045881162156596 ∷ 887008513369866339
    ∷ 310481000025098941 ∷ 891230649718410426 ∷ 359347766353673192 ∷ 1799873171440677336 ∷ []

abbrev pub case_31 : Case
case_31 = case_of shape 0 400 steps numbers
