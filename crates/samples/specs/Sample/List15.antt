-- List 15 of the sample, from seed 1294. Made by the harness: see docs/SAMPLES.md.
use Rattle.std.specs.Prelude.{ℕ, true, false, List, [], ◌∷◌, None, Some}
use Rattle.laws.specs.Texts.{bytes}
use Rattle.capability.specs.declared.PipelineInstructionClass.TheVariants.{Multiply, Divide, Load, Store, System, FloatingPoint, Unknown}
use Rattle.model.specs.Config.{timing, unit_spec, PipelineShape, pipeline_shape}
use Rattle.model.specs.Requests.{
  in_station,
  in_unit,
  disassembly,
  write,
  status_message,
  slot_text,
  stage_name,
  unit_name,
  station_label,
  rename_register,
  operand_register,
}
use Rattle.model.specs.Calls.{
  unit_count,
  timeline_len,
  station_count,
  buffer_capacity,
  in_flight_before,
  stage,
  unit,
  rename,
  start,
  retire,
  retry,
  resolve,
  advance,
  fetch,
  capacity,
  overlap,
  halt,
  reset,
  redirect,
  view,
  cell,
  text,
}
use Rattle.samples.specs.Lists.{Step, shown, rest, Case, case_of, op}

abbrev shape : PipelineShape
shape =
    pipeline_shape [] (Some 18446744073709551614) (timing 5 0 0 3 1 3 3) (unit_spec (bytes "FPU") (Unknown ∷ Load ∷ Unknown ∷ [])
    FloatingPoint 4 ∷ []) 1

abbrev steps : List Step
steps =
    shown (overlap true)
    ∷ shown (fetch (op 0 18446744073709551614 Multiply false true (bytes "fadd x0") (Some (bytes "page fault")) None (bytes "x1" ∷ []
    ∷ bytes "x0" ∷ []) (bytes "zzzzzzzzzzzzzzzzz" ∷ []) 913) 0) ∷ shown (view timeline_len) ∷ shown (reset 96 200) ∷ shown retire
    ∷ shown start ∷ shown (text (rename_register 0) 200)
    ∷ shown start ∷ shown (advance None 200)
    ∷ shown (fetch (op 96 1 Unknown false false (bytes "nop x8") None (Some (bytes "a.0")) (bytes "x2" ∷ bytes " x 1" ∷ bytes "x1" ∷
    []) (bytes "a.0" ∷ bytes "x1" ∷ []) 818) 200)
    ∷ shown start ∷ shown (advance None 200) ∷ shown (text (stage_name 1) 1) ∷ shown (resolve 16) ∷ shown (view station_count) ∷
    shown (cell 0 2 200) ∷ shown (advance None 200)
    ∷ shown (fetch (op 94 11 Load false false (bytes "lw x9") None (Some (97 ∷ 98 ∷ 127 ∷ [])) (bytes "b.0" ∷ bytes "rflags" ∷
    bytes "x0" ∷ bytes "x2" ∷ bytes "sixteen-bytes-ok" ∷ bytes "x1" ∷ bytes "x1" ∷ bytes "x2" ∷ []) (bytes "x0" ∷ bytes "x1" ∷
    bytes "x2" ∷ bytes "x0" ∷ bytes "x1" ∷ []) 307) 200) ∷ shown (cell 0 3 200)
    ∷ shown (fetch (op 94 3 Load false false (bytes "nop x3") (Some []) (Some (bytes "x2")) (bytes "x1" ∷ bytes "x0" ∷ [])
    (bytes "x2" ∷ []) 72) 200)
    ∷ shown start ∷ shown (advance None 200)
    ∷ shown (fetch (op 92 4 Load false false (bytes "add x1") None (Some (bytes "sixteen-bytes-ok")) (bytes "x1" ∷ bytes "x1" ∷
    bytes "x2" ∷ bytes "x2" ∷ []) (bytes "x2" ∷ bytes "x1" ∷ []) 832) 200) ∷ shown (text (stage_name 0) 2)
    ∷ shown start ∷ shown (advance None 200)
    ∷ shown start ∷ shown (text (station_label 3) 0) ∷ shown (advance None 200)
    ∷ shown start ∷ shown (capacity 0 1) ∷ shown retire ∷ shown (view (rename 1)) ∷ shown (reset 232 200) ∷ shown (cell 0 0 200) ∷
    shown (text (station_label 1) 4)
    ∷ shown start ∷ shown (advance None 200)
    ∷ shown (fetch (op 232 7 Load false false (bytes "add x0") None (Some (bytes "x0")) (bytes "x1" ∷ bytes "x2" ∷ bytes "x0" ∷
    bytes "x2" ∷ bytes "x2" ∷ bytes "x2" ∷ bytes "x1" ∷ bytes "x1" ∷ bytes "sixteen-bytes-ok" ∷ []) (bytes "x0" ∷ bytes "x2" ∷ [])
    18446744073709551615) 200) ∷ shown (text status_message 0)
    ∷ shown (fetch (op 232 9223372036854775808 System false false (bytes "sw x6") None (Some []) (bytes "sixteen-bytes-ok" ∷
    bytes "x0" ∷ bytes "x0" ∷ []) (bytes "sixteen-bytes-ok" ∷ []) 586) 200)
    ∷ shown start ∷ shown (advance None 200) ∷ shown (retry
    (bytes "zzzzzzzzzzzzzzzzzzzzzzzzzzzzzzzzzzzzzzzzzzzzzzzzzzzzzzzzzzzzzzzzz"))
    ∷ shown start ∷ shown (advance None 200)
    ∷ shown (fetch (op 230 8 Multiply false false (bytes "sw x3") None (Some (bytes "shown")) (bytes "x2" ∷ bytes "x1" ∷ [])
    (bytes "x2" ∷ bytes "x0" ∷ bytes "x1" ∷ bytes "x2" ∷ []) 493) 200)
    ∷ shown start ∷ shown (text status_message 0) ∷ shown (advance None 200)
    ∷ shown start ∷ shown halt ∷ shown (advance None 200)
    ∷ shown start ∷ shown (advance None 200)
    ∷ shown start ∷ shown (view buffer_capacity) ∷ shown halt ∷ shown (advance None 200) ∷ shown (cell 2 18446744073709551615 58)
    ∷ shown start ∷ shown (view (rename 0)) ∷ shown (advance (Some 5214636875268669323) 200) ∷ shown (view (unit 2))
    ∷ shown start ∷ shown (advance (Some 8) 200) ∷ shown (text (rename_register 0) 0)
    ∷ shown (fetch (op 228 9223372036854775808 Load false false (bytes "lw x1") None (Some (bytes "sixteen-bytes-ok")) (bytes "x1" ∷
    bytes "x1" ∷ bytes " x 1" ∷ bytes "x0" ∷ bytes "x0" ∷ bytes "x1" ∷ bytes "rflags" ∷ bytes "x1" ∷ []) (bytes "x1" ∷ (31 ∷ []) ∷
    []) 206) 0) ∷ shown (redirect 208) ∷ shown retire
    ∷ shown start ∷ shown (cell 0 2 200) ∷ shown (retry (bytes "waiting")) ∷ shown (advance None 204)
    ∷ shown (fetch (op 208 3 Store false false (bytes "   ") None (Some (bytes "x1")) (bytes "x2" ∷ bytes " x 1" ∷ []) (bytes "x1" ∷
    bytes "x1" ∷ bytes "x0" ∷ []) 942) 200)
    ∷ shown start ∷ shown (advance None 200)
    ∷ shown (fetch (op 206 4 Divide false true (bytes "lw x3") None None (bytes "x0" ∷ bytes "x0" ∷ bytes "x0" ∷ bytes "x0" ∷ [])
    (bytes "x1" ∷ bytes "x1" ∷ bytes "x0" ∷ []) 824) 200) ∷ shown (cell 1 0 14) ∷ shown (text (slot_text (in_unit
    18446744073709551615) disassembly) 0) ∷ shown (view (in_flight_before 5))
    ∷ shown start ∷ shown (advance None 200)
    ∷ shown start ∷ shown (advance None 200) ∷ shown (text (unit_name 1) 0) ∷ shown (capacity 18446744073709551615 3) ∷ shown (retry
    (bytes "waiting"))
    ∷ shown start ∷ shown (advance (Some 4) 200)
    ∷ shown (fetch (op 4 2 Unknown false false (bytes "xor x7") (Some []) (Some (bytes "shown")) [] [] 18446744073709551614) 200) ∷
    shown (view (stage 0)) ∷ shown (text (slot_text (in_station 18446744073709551615) (write 0)) 200)
    ∷ shown start ∷ shown (capacity 0 3) ∷ shown (advance None 200) ∷ shown (view unit_count) ∷ shown (cell 0 0 200)
    ∷ shown (fetch (op 2 11 System false false (bytes "div                                                             ") None (Some
    (bytes "sixteen-bytes-ok")) (bytes "x0" ∷ []) [] 466) 200)
    ∷ shown (fetch (op 0 12 Store false false (32 ∷ 126 ∷ 92 ∷ 34 ∷ []) (Some (31 ∷ [])) (Some []) (bytes "x0" ∷ bytes "x1" ∷
    bytes "x1" ∷ bytes "x1" ∷ bytes "x1" ∷ bytes "x1" ∷ bytes "x1" ∷ bytes "x1" ∷ (0 ∷ []) ∷ []) (bytes "x1" ∷ []) 549) 0)
    ∷ shown start ∷ shown (view (in_flight_before 3)) ∷ shown retire ∷ shown (resolve 156) ∷ shown (advance None 200) ∷ shown halt ∷
    shown (capacity 0 4) ∷ shown (capacity 0 3)
    ∷ shown start ∷ shown (text (operand_register 4 2) 0) ∷ shown (advance None 200)
    ∷ shown start ∷ shown retire ∷ shown (reset 108 153) ∷ shown (cell 18446744073709551615 0 200) ∷ shown (text (rename_register
    18446744073709551615) 0) ∷ shown (resolve 88) ∷ shown (cell 18446744073709551615 0 200) ∷ shown (advance None 200)
    ∷ shown start ∷ shown (advance None 200)
    ∷ rest ∷ []

abbrev numbers : List ℕ
numbers =
    1298752247863078796 ∷ 2137100218047617894 ∷ 193904646071424755 ∷ 861685673205913993 ∷ 1580606948090692295
    ∷ 1234148299410277018 ∷ 1039754095663212103 ∷ 520295491390150198 ∷ 1729853397693816178 ∷ 1138149492948878021
    ∷ 577777745118017214 ∷ 588097021929141866 ∷ 1972923234556539285 ∷ 74970775605723408 ∷ 2009530347855378844 ∷ 1113742559400558274
    ∷ 941500389336756058 ∷ 2009530347855378844 ∷ 1582068682842152657 ∷ 941500389336756058 ∷ 2115768129559273415 ∷ 206880627893113930
    ∷ 31472100179593968 ∷ 1287963068437811597 ∷ 1219710835783025370 ∷ 1224900862149479981 ∷ 1479124913231702096
    ∷ 2021215849441183220 ∷ 1633791674037213541 ∷ 1459655823463063202 ∷ 1924208263757850850 ∷ 693676628241959954
    ∷ 716471194604616421 ∷ 1621284026496491106 ∷ 215780730014957542 ∷ 218487530552030119 ∷ 1556958950436545846 ∷ 1980770886801171301
    ∷ 406278043898188639 ∷ 778256319743376923 ∷ 1461312282528109396 ∷ 509879303546813155 ∷ 917339162931733190 ∷ 2105341153506889533
    ∷ 1273938270774012474 ∷ 1889846626935228227 ∷ 1848315738114026666 ∷ 393099269427222615 ∷ 1801413038487242731
    ∷ 594934824141879404 ∷ 1700907970467263776 ∷ 715306899278503628 ∷ 498388119905924002 ∷ 709544418192865155 ∷ 1695256350237564186
    ∷ 2118739045644110364 ∷ 798607968475115444 ∷ 2069056054694753978 ∷ 1010934365594720469 ∷ 1222090663881661622
    ∷ 1245402479403971650 ∷ 2207802595926360653 ∷ 772236793048069086 ∷ 325442282119212880 ∷ 2019373063745397592
    ∷ 1311154214163911911 ∷ 1734636909570458089 ∷ 299071106692166522 ∷ 516495859492969196 ∷ 1905867420895063231
    ∷ 1500212683132500452 ∷ 830598565739023644 ∷ 731820538113635729 ∷ 2089591152426994066 ∷ 1530731402901996363 ∷ 738596838282540115
    ∷ 484151512853171099 ∷ 831852719244387638 ∷ 927416174944199029 ∷ 657106559469315190 ∷ 1607071011177761422 ∷ 308357643318800835
    ∷ 1177697618995786109 ∷ 2304255958053122844 ∷ 654877273299573678 ∷ 926683620922720731 ∷ 161716996378445225 ∷ 88260034759174394
    ∷ 962899019942906390 ∷ 1249802979143742085 ∷ 169130248234294652 ∷ 1430494309079491869 ∷ 1404184566053974406
    ∷ 1750509821243808849 ∷ 1489785811079835356 ∷ 1225094264944289475 ∷ 1824755554912168479 ∷ 1217970574398760744
    ∷ 57220259376599683 ∷ 2164291228245316543 ∷ 2151279672751513214 ∷ 473308474236203926 ∷ 301566527546195652 ∷ 743707357370469364
    ∷ 508235158378927867 ∷ 469295163710709629 ∷ 1060641764767094658 ∷ 1060641764767094658 ∷ 1048146551422465590 ∷ 424634662927734270
    ∷ 1941259942453027355 ∷ 874336814544085686 ∷ 365731069726271196 ∷ 2299070362940226990 ∷ 467599363481530833 ∷ 982952046018861449
    ∷ 1882356349251564281 ∷ 2299070362940226990 ∷ 982952046018861449 ∷ 815433221342622612 ∷ 306827476524808122 ∷ 756529628141159538
    ∷ 106641574413660563 ∷ []

abbrev pub case_15 : Case
case_15 = case_of shape 0 200 steps numbers
