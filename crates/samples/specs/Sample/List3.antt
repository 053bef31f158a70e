-- List 3 of the sample, from seed 2167. Made by the harness: see docs/SAMPLES.md.
use Rattle.std.specs.Prelude.{ℕ, true, false, List, [], ◌∷◌, None, Some}
use Rattle.laws.specs.Texts.{bytes}
use Rattle.capability.specs.declared.PipelineInstructionClass.TheVariants.{
  Alu,
  Multiply,
  Divide,
  Load,
  Branch,
  Jump,
  System,
  FloatingPoint,
  Unknown,
}
use Rattle.model.specs.Config.{timing, unit_spec, PipelineShape, pipeline_shape}
use Rattle.model.specs.Requests.{
  in_station,
  in_unit,
  on_offer,
  destination,
  source,
  status_message,
  slot_text,
  trace_detail,
  stage_name,
  station_label,
  rename_register,
}
use Rattle.model.specs.Calls.{
  fetch_pc,
  rename_count,
  buffer_capacity,
  unit,
  start,
  retire,
  retry,
  advance,
  fetch,
  capacity,
  overlap,
  halt,
  redirect,
  view,
  cell,
  text,
}
use Rattle.samples.specs.Lists.{Step, shown, rest, Case, case_of, op}
use Rattle.capability.specs.declared.PipelineStageRole.TheVariants as role

abbrev shape : PipelineShape
shape =
    pipeline_shape (role.Decode ∷ role.Execute ∷ role.Decode ∷ []) (Some 4) (timing 0 1 2 8 0 0 2) (unit_spec (bytes "A")
    (FloatingPoint ∷ FloatingPoint ∷ Unknown ∷ Multiply ∷ Jump ∷ System ∷ Branch ∷ System ∷ System ∷ Load ∷ []) Load 3 ∷ []) 0

abbrev steps : List Step
steps =
    shown (overlap true)
    ∷ shown start ∷ shown (text (rename_register 18446744073709551615) 0) ∷ shown (advance None 200)
    ∷ shown (fetch (op 9223372036854775808 12 Jump true false (bytes "mul x4") (Some (97 ∷ 98 ∷ 127 ∷ [])) (Some (bytes "x2"))
    (bytes "x0" ∷ bytes "x1" ∷ []) (bytes "x2" ∷ []) 445) 0)
    ∷ shown start ∷ shown (cell 0 0 200) ∷ shown (advance None 200)
    ∷ shown (fetch (op 55 14 Branch true false (128 ∷ []) (Some []) (Some []) (bytes "x1" ∷ bytes "x2" ∷ bytes "x1" ∷ bytes "x0" ∷
    bytes "x1" ∷ bytes "x2" ∷ bytes "x2" ∷ bytes "x2" ∷ bytes "x1" ∷ []) (bytes "x2" ∷ bytes "x2" ∷ bytes " x 1" ∷ bytes "x1" ∷ [])
    582) 200) ∷ shown (advance None 200)
    ∷ shown (fetch (op 0 7 Alu false true (bytes "div x2") (Some (31 ∷ [])) None (bytes "x0" ∷ bytes "x1" ∷ bytes "x1" ∷ [])
    (bytes "x2" ∷ bytes "x2" ∷ (128 ∷ []) ∷ []) 248) 200) ∷ shown (text (slot_text on_offer (source 4)) 0)
    ∷ shown start ∷ shown (text (trace_detail 0) 200)
    ∷ shown (fetch (op 9223372036854775808 2 Alu false false (bytes "fadd x9") None (Some (bytes "shown")) (bytes "sixteen-bytes-ok"
    ∷ bytes "x1" ∷ bytes "x1" ∷ []) (bytes "x1" ∷ bytes "x0" ∷ bytes "x2" ∷ bytes "x2" ∷ []) 596) 0) ∷ shown (advance None 200)
    ∷ shown (fetch (op 9223372036854775808 15 Alu false false [] (Some []) (Some (bytes "sixteen-bytes-ok")) (bytes "x0" ∷ bytes "x1"
    ∷ [] ∷ bytes "x0" ∷ []) (bytes "x1" ∷ bytes "x0" ∷ []) 886) 200) ∷ shown (text (rename_register 0) 1)
    ∷ shown start ∷ shown (advance None 200)
    ∷ shown (fetch (op 9223372036854775812 1 Alu false false (34 ∷ 113 ∷ 34 ∷ 32 ∷ 120 ∷ 48 ∷ []) None None (bytes "x0" ∷ []) [] 373)
    206)
    ∷ shown start ∷ shown (advance None 200)
    ∷ shown (fetch (op 9223372036854775816 12 Divide true false (bytes "ecall x5") None (Some (bytes "x1")) (bytes "x2" ∷ bytes "x0"
    ∷ bytes "x2" ∷ bytes "x2" ∷ []) (bytes "x1" ∷ bytes "sixteen-bytes-ok" ∷ bytes "x2" ∷ []) 82) 200) ∷ shown (text (station_label
    4) 0) ∷ shown (view fetch_pc)
    ∷ shown start ∷ shown (advance None 200) ∷ shown (text status_message 0)
    ∷ shown start ∷ shown (overlap false) ∷ shown (advance None 200) ∷ shown (text (station_label 1) 2) ∷ shown (text (stage_name 5)
    0)
    ∷ shown start ∷ shown retire ∷ shown (capacity 0 3) ∷ shown retire ∷ shown (advance (Some 18446744073709551615) 200) ∷ shown
    (capacity 1 3)
    ∷ shown start ∷ shown (view rename_count) ∷ shown (advance None 200) ∷ shown (advance None 0)
    ∷ shown start ∷ shown (text (trace_detail 0) 0) ∷ shown halt ∷ shown halt ∷ shown (advance None 200)
    ∷ shown start ∷ shown (view buffer_capacity) ∷ shown (advance None 200) ∷ shown (redirect 1)
    ∷ shown start ∷ shown (advance None 200) ∷ shown (text (rename_register 0) 200)
    ∷ shown (fetch (op 1 1 Divide false false (34 ∷ 113 ∷ 34 ∷ 32 ∷ 120 ∷ 50 ∷ []) None (Some (bytes "x1")) [] (bytes "x1" ∷ []) 988)
    200)
    ∷ shown start ∷ shown (text (slot_text (in_unit 1) (source 0)) 200) ∷ shown (advance None 200)
    ∷ shown (fetch (op 5 12 Divide false false (bytes "sub x3") None (Some []) (bytes "x1" ∷ bytes "x1" ∷ bytes "x0" ∷ bytes "x1" ∷
    (31 ∷ []) ∷ []) (bytes "rflags" ∷ []) 18446744073709551614) 200)
    ∷ shown start ∷ shown (cell 0 3 200) ∷ shown (advance (Some 18446744073709551615) 200)
    ∷ shown start ∷ shown (advance None 200) ∷ shown (capacity 0 3) ∷ shown (view (unit 0)) ∷ shown (retry [])
    ∷ shown start ∷ shown (advance None 200) ∷ shown (capacity 18446744073709551615 3) ∷ shown (text (slot_text (in_station 1)
    (source 0)) 0)
    ∷ shown start ∷ shown (text (slot_text (in_station 4) destination) 0) ∷ shown (advance None 200)
    ∷ shown start ∷ shown (capacity 0 3)
    ∷ shown start ∷ shown (advance None 200)
    ∷ shown start ∷ shown (overlap true)
    ∷ rest ∷ []

abbrev numbers : List ℕ
numbers =
    1763710074481887768 ∷ 1005479523219271252 ∷ 495918939240876896 ∷ 1885745744098800492 ∷ 1436214933677502769
    ∷ 1606403496789430352 ∷ 444044990283341254 ∷ 557388954910232377 ∷ 1384340984719967127 ∷ 1554529547831894710
    ∷ 1295314752810881810 ∷ 1554529547831894710 ∷ 1833871795141264850 ∷ 392171041325805612 ∷ 1781997846183729208
    ∷ 2098460071931581785 ∷ 1332467035762431485 ∷ 66900497051697285 ∷ 911325256090144301 ∷ 711602582140900227 ∷ 1917436439872561197
    ∷ 619076105222513133 ∷ 1024233589759248910 ∷ 1094104821643005594 ∷ 683029702366549414 ∷ 258352871560025050 ∷ 1441733040691458480
    ∷ 1094649254213188928 ∷ 648496673709958523 ∷ 1439527245141140619 ∷ 2089508110856453513 ∷ 1003190512079115639
    ∷ 2148833439576752033 ∷ 66555550154107889 ∷ 526119157582016545 ∷ 685001308684756074 ∷ 337919140348392176 ∷ 1718607472544134973
    ∷ 1661577422414403415 ∷ 970636176187970062 ∷ 1550024379138981266 ∷ 100636855257317950 ∷ 1449743310106372198
    ∷ 1195004890853472146 ∷ 2281468458312691989 ∷ 686399146035657656 ∷ 2203024425560950741 ∷ 339617506542429655 ∷ 339617506542429655
    ∷ 1823018496204764861 ∷ 76730008574111626 ∷ 418106926414652301 ∷ 959136650925523168 ∷ 237979034226889961 ∷ 1993391151591901994
    ∷ 230317785994688731 ∷ 2143857937840997559 ∷ 133906963943660154 ∷ 1414134988868937724 ∷ 791120616649028381 ∷ 1382491088784744561
    ∷ 1401337262491237011 ∷ 274995563843587924 ∷ 1045015939556920057 ∷ 46795692455404938 ∷ 1478571092870702330 ∷ 175084883376500636
    ∷ 1894645094440284894 ∷ 336567499112411086 ∷ 2198696506495021936 ∷ 1920364135762605040 ∷ 836848684958407005 ∷ 251038992265825837
    ∷ 416186989435796625 ∷ 2002405501361095657 ∷ 1525655579768803893 ∷ 2119611130689485209 ∷ 599187807037449344 ∷ 318168001105921576
    ∷ 318168001105921576 ∷ 1202639894007827629 ∷ 30983292215913305 ∷ 86057655711946559 ∷ 1942026735978965847 ∷ []

abbrev pub case_3 : Case
case_3 = case_of shape 9223372036854775808 207 steps numbers
