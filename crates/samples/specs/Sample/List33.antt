-- List 33 of the sample, from seed 71. Made by the harness: see docs/SAMPLES.md.
use Rattle.std.specs.Prelude.{ℕ, true, false, List, [], ◌∷◌, None, Some}
use Rattle.laws.specs.Texts.{bytes}
use Rattle.capability.specs.declared.PipelineInstructionClass.TheVariants.{Alu, Multiply, Divide, Load, Store}
use Rattle.model.specs.Config.{timing, unit_spec, PipelineShape, pipeline_shape}
use Rattle.model.specs.Requests.{
  in_queue,
  in_unit,
  source,
  write,
  slot_text,
  trace_detail,
  row_disassembly,
  unit_name,
  rename_register,
  cell_label,
  operand_register,
}
use Rattle.model.specs.Calls.{
  status,
  stage_order,
  stage,
  queued,
  start,
  retire,
  resolve,
  advance,
  fetch,
  capacity,
  overlap,
  halt,
  reset,
  redirect,
  view,
  cell,
  text,
}
use Rattle.samples.specs.Lists.{Step, shown, rest, Case, case_of, op}
use Rattle.capability.specs.declared.PipelineStageRole.TheVariants as role

abbrev shape : PipelineShape
shape =
    pipeline_shape (role.Writeback ∷ role.Execute ∷ role.Memory ∷ []) (Some 4) (timing 8 5 0 0 5 5 0) (unit_spec (bytes " ") []
    Divide 0 ∷ []) 4

abbrev steps : List Step
steps =
    shown (overlap true) ∷ shown (capacity 0 0)
    ∷ shown start ∷ shown (advance None 800)
    ∷ shown (fetch (op 0 11 Store false false (bytes "ecall x2") None (Some (bytes "sixteen-bytes-ok")) (bytes "x2" ∷ bytes "x7" ∷
    bytes "x4" ∷ bytes "x4" ∷ bytes "rflags" ∷ bytes "x3" ∷ bytes "x2" ∷ bytes "x1" ∷ bytes "x2" ∷ []) (bytes "x6" ∷ []) 564) 800) ∷
    shown retire ∷ shown (cell 0 0 399) ∷ shown (text (slot_text (in_unit 0) (source 0)) 0) ∷ shown (text (slot_text (in_queue
    18446744073709551615) (write 0)) 1)
    ∷ shown (fetch (op 0 0 Load false false (34 ∷ 113 ∷ 34 ∷ 32 ∷ 120 ∷ 49 ∷ []) (Some
    (bytes "zzzzzzzzzzzzzzzzzzzzzzzzzzzzzzzzzzzzzzzzzzzzzzzzzzzzzzzzzzzzzzzzz")) (Some (bytes "a.0")) [] (bytes "a.0" ∷ []) 1) 800) ∷
    shown retire
    ∷ shown (fetch (op 0 15 Multiply false false (bytes "xor x8") (Some
    (bytes "ffffffffffffffffffffffffffffffffffffffffffffffffffffffffffffffff")) (Some []) (bytes "x2" ∷ bytes "x3" ∷ bytes "x4" ∷
    bytes "x6" ∷ bytes "x2" ∷ bytes "x4" ∷ bytes "x1" ∷ bytes "x5" ∷ []) (bytes "x6" ∷ bytes "x2" ∷ bytes "x0" ∷ bytes "x6" ∷ [])
    955) 800)
    ∷ shown start ∷ shown (advance None 800)
    ∷ shown (fetch (op 4 8 Store false false (bytes "   ") (Some
    (bytes "ffffffffffffffffffffffffffffffffffffffffffffffffffffffffffffffff")) (Some (bytes "shown")) (bytes "x6" ∷ bytes "x1" ∷ [])
    (bytes "x2" ∷ bytes "x4" ∷ bytes "x5" ∷ []) 892) 800)
    ∷ shown start ∷ shown (advance None 800)
    ∷ shown start ∷ shown (cell 3 0 800) ∷ shown (advance None 800)
    ∷ shown start ∷ shown (advance None 800)
    ∷ shown start ∷ shown retire ∷ shown (advance None 800)
    ∷ shown start ∷ shown (advance None 800)
    ∷ shown start ∷ shown (text (trace_detail 0) 0) ∷ shown halt ∷ shown (advance None 800)
    ∷ shown start ∷ shown (advance (Some 9930876416839404254) 800) ∷ shown (capacity 1 3)
    ∷ shown start ∷ shown (advance None 800) ∷ shown (advance None 0) ∷ shown (view status) ∷ shown (advance (Some
    17438826007650544234) 800)
    ∷ shown start ∷ shown (reset 18446744073709551615 800)
    ∷ shown start ∷ shown (advance None 800)
    ∷ shown (fetch (op 18446744073709551615 1 Load false false (bytes "mul x8") None None [] [] 877) 800) ∷ shown (overlap true)
    ∷ shown start ∷ shown (view (queued 0)) ∷ shown (capacity 0 18446744073709551615)
    ∷ shown (fetch (op 3 7 Divide false false (bytes "mul x2") None (Some (bytes "x1")) (bytes "x2" ∷ bytes "x4" ∷ bytes "x7" ∷
    bytes "x4" ∷ bytes "x0" ∷ bytes "x3" ∷ bytes "x7" ∷ bytes "x6" ∷ bytes "x1" ∷ []) (bytes "x1" ∷ []) 876) 800) ∷ shown (advance
    None 800) ∷ shown retire
    ∷ shown (fetch (op 3 7 Alu false false (bytes "? x6") (Some []) None (bytes "x3" ∷ []) (bytes "x3" ∷ []) 176) 800) ∷ shown (view
    (stage 1)) ∷ shown retire ∷ shown (text (cell_label 24) 0) ∷ shown (capacity 18446744073709551615 1) ∷ shown (resolve
    13219608466198430684)
    ∷ shown start
    ∷ shown (fetch (op 7 2 Load false false (bytes "xor x9") (Some
    (bytes "zzzzzzzzzzzzzzzzzzzzzzzzzzzzzzzzzzzzzzzzzzzzzzzzzzzzzzzzzzzzzzzzz")) (Some (bytes "sixteen-bytes-ok")) [] [] 835) 800) ∷
    shown (advance None 800) ∷ shown retire ∷ shown (advance (Some 252) 800)
    ∷ shown start ∷ shown (advance None 800)
    ∷ shown start ∷ shown (advance None 800) ∷ shown halt
    ∷ shown start ∷ shown (advance None 800) ∷ shown (text (operand_register 0 3) 200)
    ∷ shown start ∷ shown (advance None 800) ∷ shown retire ∷ shown (text (rename_register 0) 200) ∷ shown (text (unit_name 0) 1) ∷
    shown (text (slot_text (in_queue 1) (write 0)) 1) ∷ shown retire ∷ shown (cell 18446744073709551615 18446744073709551615 800) ∷
    shown retire ∷ shown (text (cell_label 32) 1) ∷ shown (view (stage 3)) ∷ shown (text (row_disassembly 2) 1) ∷ shown (advance None
    0) ∷ shown (advance (Some 9223372036854775808) 0) ∷ shown (view stage_order)
    ∷ shown start ∷ shown (advance (Some 68) 800) ∷ shown (redirect 44)
    ∷ shown start
    ∷ shown (fetch (op 44 13 Load false false (bytes "xor x0") None (Some (bytes "zzzzzzzzzzzzzzzzz")) (bytes "sixteen-bytes-ok" ∷
    bytes "x2" ∷ []) (bytes "x4" ∷ bytes "x5" ∷ bytes "x0" ∷ bytes "x4" ∷ []) 706) 800)
    ∷ rest ∷ []

abbrev numbers : List ℕ
numbers =
    650733621710250975 ∷ 1869854668133849230 ∷ 1869854668133849230 ∷ 2148309746389678951 ∷ 456460021667525226
    ∷ 1314613212537250086 ∷ 1479878479041455224 ∷ 1115107427682502016 ∷ 2038806796118436625 ∷ 2038806796118436625
    ∷ 450905924312762102 ∷ 1479878479041455224 ∷ 2018296862312535686 ∷ 745734493997741778 ∷ 24134391350138025 ∷ 2304280084495424630
    ∷ 821160510521225538 ∷ 631858384014762071 ∷ 2146953571407023121 ∷ 1134888255682049790 ∷ 1117150364791997115
    ∷ 1512255339726585789 ∷ 1582952339973280959 ∷ 1159285836464250423 ∷ 1058981706940948229 ∷ 496638202410848742
    ∷ 1096007201238391864 ∷ 451217080041796837 ∷ 1257755866202135773 ∷ 1183698346189506672 ∷ 339415890339166345
    ∷ 1705392368625904230 ∷ 922792158653928002 ∷ 1246896750435853402 ∷ 1237892640311470289 ∷ 464296540463877174 ∷ 788401132245802574
    ∷ 214373811847255481 ∷ 2222271192053383526 ∷ 214373811847255481 ∷ 5800922273826346 ∷ 1342231149109602931 ∷ 1620686227365432652
    ∷ 792543790867766911 ∷ 193209862142664709 ∷ 193209862142664709 ∷ 46483923989050067 ∷ 1360996503988992024 ∷ 1909640384891836846
    ∷ 1909640384891836846 ∷ 260347394026440064 ∷ 81165045867867275 ∷ 347833541036855827 ∷ 1451460095390891232 ∷ 351711184629065702
    ∷ 848662178125701540 ∷ 2289042594644682200 ∷ 351711184629065702 ∷ 681175421346809234 ∷ 1728944618533180202 ∷ 1918503606702917138
    ∷ 1276055918226661693 ∷ 1276055918226661693 ∷ 1963373726541264094 ∷ 80501748198807224 ∷ 849613141980264414 ∷ 1157983445795641849
    ∷ 1469457104060082992 ∷ 1833599414429001745 ∷ 551746220813156488 ∷ 1314140810155939840 ∷ 1028444535209383634
    ∷ 2052434350807232328 ∷ 417683859736830438 ∷ 508985930936321729 ∷ 1850611703451123082 ∷ 508985930936321729 ∷ 417683859736830438
    ∷ 766849308954318292 ∷ 417683859736830438 ∷ 508985930936321729 ∷ 1220222465308600225 ∷ 508985930936321729 ∷ 417683859736830438
    ∷ 417683859736830438 ∷ 1014533696811145268 ∷ 223289655989765523 ∷ 1247279471587614217 ∷ 1710611712714448071
    ∷ 1881370836244740882 ∷ 1067169164591582181 ∷ 538895744194562204 ∷ []

abbrev pub case_33 : Case
case_33 = case_of shape 0 800 steps numbers
