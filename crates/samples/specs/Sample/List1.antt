-- List 1 of the sample, from seed 1519. Made by the harness: see docs/SAMPLES.md.
use Rattle.std.specs.Prelude.{ℕ, true, false, List, [], ◌∷◌, None, Some}
use Rattle.laws.specs.Texts.{bytes}
use Rattle.capability.specs.declared.PipelineInstructionClass.TheVariants.{Alu, Multiply, Load, Store, FloatingPoint}
use Rattle.model.specs.Config.{timing, unit_spec, PipelineShape, pipeline_shape}
use Rattle.model.specs.Requests.{in_queue, source, slot_text, trace_detail, stage_name, rename_register, cell_label, operand_register}
use Rattle.model.specs.Calls.{
  stats,
  fetch_pc,
  stage_order,
  start,
  retire,
  retry,
  resolve,
  advance,
  fetch,
  capacity,
  overlap,
  halt,
  reset,
  view,
  cell,
  text,
}
use Rattle.samples.specs.Lists.{Step, shown, rest, Case, case_of, op}
use Rattle.capability.specs.declared.PipelineStageRole.TheVariants as role

abbrev shape : PipelineShape
shape =
    pipeline_shape (role.Execute ∷ role.Fetch ∷ role.Memory ∷ role.Issue ∷ role.Writeback ∷ role.Memory ∷ role.Decode ∷
    role.Writeback ∷ role.Other ∷ role.Memory ∷ role.Memory ∷ role.Decode ∷ role.Execute ∷ role.Fetch ∷ role.Writeback ∷ role.Issue ∷
    []) None (timing 1 2 5 2 3 0 5) (unit_spec (bytes "A") [] Store 0 ∷ []) 1

abbrev steps : List Step
steps =
    shown (overlap true)
    ∷ shown start ∷ shown (advance None 200) ∷ shown (retry
    (bytes "zzzzzzzzzzzzzzzzzzzzzzzzzzzzzzzzzzzzzzzzzzzzzzzzzzzzzzzzzzzzzzzzz"))
    ∷ shown (fetch (op 0 0 Load false false (bytes "   ") (Some
    (bytes "ffffffffffffffffffffffffffffffffffffffffffffffffffffffffffffffff")) (Some (bytes "x5")) (bytes "x5" ∷ bytes "x0" ∷
    bytes "x2" ∷ bytes "x7" ∷ bytes "x5" ∷ bytes "rflags" ∷ [] ∷ bytes "x2" ∷ bytes "x6" ∷ []) (bytes "x5" ∷ []) 447) 0)
    ∷ shown (fetch (op 0 4 Store false false (bytes "sw x4") None (Some (bytes "sixteen-bytes-ok")) (bytes "x6" ∷ bytes "x4" ∷
    bytes "x0" ∷ []) (bytes "x4" ∷ []) 697) 46)
    ∷ shown (fetch (op 0 9 FloatingPoint false false (bytes "ecall x1") None (Some (bytes "shown")) (bytes "x6" ∷ bytes "x6" ∷ [])
    (bytes "x3" ∷ []) 504) 200)
    ∷ shown start ∷ shown (text (cell_label 3) 2)
    ∷ shown (fetch (op 9 15 FloatingPoint false false (bytes "zzzzzzzzzzzzzzzzzzzzzzzzzzzzzzzzzzzzzzzzzzzzzzzzzzzzzzzzzzzzzzzzz")
    (Some []) (Some (bytes "sixteen-bytes-ok")) [] [] 215) 200) ∷ shown (advance None 200)
    ∷ shown (fetch (op 36 5 Alu false true (bytes "nop x5") None None (bytes "x1" ∷ bytes "x7" ∷ bytes "x7" ∷ []) [] 579) 200)
    ∷ shown start ∷ shown (text (trace_detail 0) 0) ∷ shown (cell 2 0 200) ∷ shown (advance None 200)
    ∷ shown start ∷ shown (advance None 200) ∷ shown retire ∷ shown (text (slot_text (in_queue 0) (source 2)) 2)
    ∷ shown start ∷ shown (advance None 200) ∷ shown (capacity 2 2)
    ∷ shown start
    ∷ shown (fetch (op 41 11 Alu false false (bytes "div                                                             ") None (Some
    (bytes "x1")) [] (bytes "x6" ∷ bytes "sixteen-bytes-ok" ∷ bytes "x2" ∷ bytes "x2" ∷ bytes "x7" ∷ []) 248) 200) ∷ shown (view
    stats) ∷ shown (capacity 2 3) ∷ shown (advance None 200)
    ∷ shown start ∷ shown (advance None 200) ∷ shown (text (rename_register 0) 200)
    ∷ shown start
    ∷ shown start ∷ shown (advance (Some 0) 200)
    ∷ shown (fetch (op 0 0 Alu false false (bytes "mul x6") None (Some (bytes "x5")) (bytes "x1" ∷ []) (bytes "x5" ∷ []) 176) 200)
    ∷ shown start ∷ shown (advance None 200) ∷ shown (cell 0 18446744073709551615 200) ∷ shown (resolve 228)
    ∷ shown start ∷ shown (view stage_order) ∷ shown (capacity 0 65) ∷ shown (view stats)
    ∷ shown (fetch (op 1 18446744073709551614 Alu false false (bytes "mul x7") (Some
    (bytes "ffffffffffffffffffffffffffffffffffffffffffffffffffffffffffffffff")) (Some (bytes "shown")) (bytes "x4" ∷
    bytes "zzzzzzzzzzzzzzzzz" ∷ bytes "x1" ∷ bytes "x2" ∷ bytes "x3" ∷ bytes "x5" ∷ bytes "x6" ∷ bytes "x1" ∷ bytes "x6" ∷ []) []
    367) 200) ∷ shown (advance None 200)
    ∷ shown start ∷ shown (resolve 9) ∷ shown retire ∷ shown halt
    ∷ shown (fetch (op 1 5 Alu false false (bytes "   ") None (Some (bytes "x5")) (bytes "x2" ∷ []) (bytes "x2" ∷ bytes "x2" ∷
    bytes "x0" ∷ bytes "x1" ∷ bytes "x1" ∷ []) 961) 200) ∷ shown (advance None 200) ∷ shown (text (stage_name 2) 2) ∷ shown (reset
    120 200)
    ∷ shown start ∷ shown (capacity 2 65) ∷ shown (retry (bytes "waiting")) ∷ shown (advance None 200)
    ∷ shown (fetch (op 120 8 Alu false false (bytes "nop x8") None (Some (bytes "x5")) [] (bytes "x5" ∷ []) 425) 200) ∷ shown
    (capacity 0 3)
    ∷ shown start ∷ shown (overlap true) ∷ shown (advance None 200)
    ∷ shown (fetch (op 128 9 Alu false false (bytes "  lw  x1 ") (Some
    (bytes "ffffffffffffffffffffffffffffffffffffffffffffffffffffffffffffffff")) (Some (bytes "x5")) (bytes "x3" ∷ []) (bytes "x5" ∷
    []) 579) 200)
    ∷ shown start ∷ shown (advance None 200) ∷ shown (view fetch_pc)
    ∷ shown start ∷ shown (text (operand_register 0 1) 0) ∷ shown (retry (bytes "waiting")) ∷ shown (retry [])
    ∷ shown (fetch (op 137 11 Multiply false true (bytes "jal x0") None None (bytes "x7" ∷ bytes "x3" ∷ bytes "x7" ∷ bytes "x2" ∷
    bytes "x6" ∷ bytes "x2" ∷ bytes "x1" ∷ bytes "x7" ∷ bytes "x1" ∷ []) (bytes "x2" ∷ []) 836) 200)
    ∷ shown start ∷ shown (advance None 200)
    ∷ shown start ∷ shown (advance None 200) ∷ shown (retry
    (bytes "zzzzzzzzzzzzzzzzzzzzzzzzzzzzzzzzzzzzzzzzzzzzzzzzzzzzzzzzzzzzzzzzz"))
    ∷ shown start ∷ shown (advance None 200)
    ∷ shown start ∷ shown (cell 0 5 200) ∷ shown (overlap false)
    ∷ shown start ∷ shown (overlap true) ∷ shown retire ∷ shown (retry (128 ∷ [])) ∷ shown (advance None 200)
    ∷ shown (fetch (op 137 8 Alu false false (34 ∷ 113 ∷ 34 ∷ 32 ∷ 120 ∷ 51 ∷ []) None None (bytes "x7" ∷ bytes "x2" ∷ bytes "x1" ∷
    []) [] 446) 200)
    ∷ shown start ∷ shown (advance None 200)
    ∷ shown start
    ∷ rest ∷ []

abbrev numbers : List ℕ
numbers =
    1485202187683169885 ∷ 183012214356703928 ∷ 461467292612533649 ∷ 1075460577104073875 ∷ 2098879034478003873
    ∷ 1933613767973798735 ∷ 1768348501469593597 ∷ 1269122637087164084 ∷ 1457900769373846208 ∷ 1632250797338961394
    ∷ 750905033713898762 ∷ 1806487161158659049 ∷ 1555379964713858335 ∷ 106812819818942202 ∷ 1986999197036647780
    ∷ 1544602402397187644 ∷ 1299647537150525346 ∷ 624715952556783637 ∷ 820744608907185031 ∷ 1018091154638259046 ∷ 531572834499296337
    ∷ 392113256985826041 ∷ 1010531378647262463 ∷ 2275938430994849320 ∷ 660070387318333519 ∷ 2164254372800362967
    ∷ 1913926412401175147 ∷ 2164254372800362967 ∷ 1338078651388027038 ∷ 630553978935745547 ∷ 2105539139800504477
    ∷ 1324183335762390600 ∷ 1575706454803377193 ∷ 1924993534869598824 ∷ 281637786981243311 ∷ 1260974418688975978
    ∷ 1758702287862332013 ∷ 957349819094535552 ∷ 518228813418438272 ∷ 378662725382970244 ∷ 6690054854694239 ∷ 1402580761065368274
    ∷ 2114885628856522474 ∷ 757978273185254991 ∷ 2114885628856522474 ∷ 589865560180790315 ∷ 588512244619216799 ∷ 1948127025433907649
    ∷ 1511037450957627978 ∷ 412505362718604329 ∷ 885461263759135986 ∷ 2041704410129724113 ∷ 2154182691677586087
    ∷ 1679034216060796864 ∷ 1957489294316626585 ∷ 177452838987607167 ∷ 94820205735504598 ∷ 2225210602109400573 ∷ 1299164110337274531
    ∷ 308661263744073225 ∷ 1588889288669350795 ∷ 1339738504854760064 ∷ 101449917772365632 ∷ 1610844456605254151 ∷ 222750974296090897
    ∷ 1602287802161130398 ∷ 757494682613243481 ∷ 459237924168732618 ∷ 1429814547043871100 ∷ 1500712059733521828
    ∷ 1500712059733521828 ∷ 844216538054426588 ∷ 844216538054426588 ∷ 254466525531633405 ∷ 757983303175739437 ∷ 2042801046184770956
    ∷ 512849767852960786 ∷ 2210942330512247012 ∷ 886390744333049594 ∷ 729820345475091125 ∷ 434816779226932588 ∷ 52709288211160434
    ∷ 453021281993579080 ∷ 434003423684943602 ∷ 806011277415408893 ∷ 419394645382766347 ∷ 2022839452439724235 ∷ 2152394248021542671
    ∷ 220065083609385645 ∷ 1467600033456368638 ∷ 108805973021158790 ∷ 2300475186422171262 ∷ []

abbrev pub case_1 : Case
case_1 = case_of shape 0 200 steps numbers
