-- List 22 of the sample, from seed 1379. Made by the harness: see docs/SAMPLES.md.
use Rattle.std.specs.Prelude.{ℕ, true, false, List, [], ◌∷◌, None, Some}
use Rattle.laws.specs.Texts.{bytes}
use Rattle.capability.specs.declared.PipelineInstructionClass.TheVariants.{Alu, Multiply, Divide, Load, Branch, FloatingPoint, Unknown}
use Rattle.model.specs.Config.{timing, unit_spec, PipelineShape, pipeline_shape}
use Rattle.model.specs.Requests.{in_stage, on_offer, fault as fault_note, source, status_message, slot_text}
use Rattle.model.specs.Calls.{
  unit,
  station,
  start,
  retire,
  retry,
  resolve,
  advance,
  fetch,
  capacity,
  overlap,
  halt,
  fault,
  redirect,
  view,
  cell,
  text,
}
use Rattle.samples.specs.Lists.{Step, shown, rest, Case, case_of, op}
use Rattle.capability.specs.declared.PipelineStageRole.TheVariants as role

abbrev shape : PipelineShape
shape =
    pipeline_shape (role.Commit ∷ role.Fetch ∷ []) (Some 9223372036854775808) (timing 0 5 5 1 0 0 0) (unit_spec (bytes "12345678")
    (Load ∷ Load ∷ Multiply ∷ Divide ∷ []) Branch 3 ∷ []) 1

abbrev steps : List Step
steps =
    shown (overlap true)
    ∷ shown start ∷ shown (advance None 200) ∷ shown (text (slot_text on_offer fault_note) 0)
    ∷ shown (fetch (op 0 11 FloatingPoint false false (bytes "add x1") None (Some []) [] (bytes "x2" ∷ []) 296) 200)
    ∷ shown start ∷ shown (advance None 200) ∷ shown (text status_message 0)
    ∷ shown start ∷ shown (capacity 2 1) ∷ shown (advance None 200) ∷ shown (advance None 200)
    ∷ shown (fetch (op 9223372036854775808 18446744073709551615 Alu false false (bytes "lw x9") None (Some (bytes "x2")) (bytes "x2"
    ∷ bytes "x7" ∷ bytes "x2" ∷ bytes "x7" ∷ bytes "x2" ∷ bytes "x5" ∷ bytes "x6" ∷ bytes "x2" ∷ []) (bytes "x2" ∷ bytes "x0" ∷
    bytes "x7" ∷ bytes " x 1" ∷ []) 620) 200)
    ∷ shown start ∷ shown (advance None 200)
    ∷ shown start ∷ shown (advance None 200)
    ∷ shown start ∷ shown (retry (bytes "waiting")) ∷ shown (advance None 200)
    ∷ shown start ∷ shown (capacity 0 65) ∷ shown retire ∷ shown (advance None 202)
    ∷ shown (fetch (op 0 4 Unknown false true (bytes "sw x8") (Some []) None (bytes "x7" ∷ []) [] 689) 200) ∷ shown (view (station 0))
    ∷ shown start ∷ shown (advance None 200)
    ∷ shown (fetch (op 9223372036854775808 0 Divide false false
    (bytes "cccccccccccccccccccccccccccccccccccccccccccccccccccccccccccccccc") None (Some (bytes "shown")) [] [] 388) 200) ∷ shown
    (resolve 28)
    ∷ shown start ∷ shown (advance None 200)
    ∷ shown (fetch (op 0 9 Unknown false true (bytes "lw x9") None (Some (bytes "sixteen-bytes-ok")) [] [] 344) 200)
    ∷ shown start ∷ shown (advance None 200)
    ∷ shown start ∷ shown (retry (bytes "waiting")) ∷ shown (advance (Some 232) 200) ∷ shown (advance (Some 1764421881263282091) 200)
    ∷ shown (fetch (op 232 6 FloatingPoint false false (bytes "div x3") (Some
    (bytes "ffffffffffffffffffffffffffffffffffffffffffffffffffffffffffffffff")) (Some (bytes "sixteen-bytes-ok")) (bytes "x2" ∷
    bytes "x5" ∷ bytes "rflags" ∷ bytes "x1" ∷ []) (bytes "x0" ∷ bytes "x4" ∷ bytes "x3" ∷ []) 696) 200)
    ∷ shown start ∷ shown (resolve 3798592162017850888) ∷ shown retire ∷ shown (cell 0 0 200) ∷ shown (advance None 200)
    ∷ shown (fetch (op 9223372036854776040 9223372036854775808 Divide false false (bytes "add x2") None (Some
    (bytes "sixteen-bytes-ok")) (bytes "x7" ∷ bytes "x1" ∷ []) (bytes "x7" ∷ []) 524) 200) ∷ shown halt
    ∷ shown start ∷ shown (redirect 152) ∷ shown (capacity 0 4) ∷ shown (view (station 0))
    ∷ shown start ∷ shown (advance None 200)
    ∷ shown (fetch (op 152 18446744073709551615 Alu false false
    (bytes "cccccccccccccccccccccccccccccccccccccccccccccccccccccccccccccccc") (Some
    (bytes "ffffffffffffffffffffffffffffffffffffffffffffffffffffffffffffffff")) None [] [] 964) 200)
    ∷ shown start ∷ shown (advance (Some 176) 200) ∷ shown (cell 0 18446744073709551615 10)
    ∷ shown (fetch (op 176 3 Multiply false false (bytes "jal x1") None (Some (bytes "x0")) (bytes "x5" ∷ bytes "x1" ∷ bytes "x0" ∷
    bytes "x1" ∷ bytes "x1" ∷ bytes "x1" ∷ bytes "x1" ∷ bytes "x1" ∷ (31 ∷ []) ∷ []) (bytes "x0" ∷ []) 292) 0)
    ∷ shown (fetch (op 176 0 Alu false false (bytes "div x3") None (Some (bytes "rflags")) (bytes "sixteen-bytes-ok" ∷ bytes "a.0" ∷
    bytes "x5" ∷ bytes "x1" ∷ bytes "sixteen-bytes-ok" ∷ bytes "x3" ∷ bytes "x6" ∷ bytes "x3" ∷ []) (bytes "rflags" ∷ bytes "x5" ∷
    bytes "x5" ∷ []) 707) 200)
    ∷ shown start ∷ shown (advance None 200)
    ∷ shown (fetch (op 9223372036854775984 12 FloatingPoint false false (bytes "lw x2") None None [] [] 583) 200)
    ∷ shown start ∷ shown (advance None 0)
    ∷ shown start ∷ shown (advance None 200)
    ∷ shown (fetch (op 176 14 Divide false false (bytes "ecall x9") None None [] [] 481) 200)
    ∷ shown start ∷ shown (text (slot_text (in_stage 4) (source 0)) 1) ∷ shown (advance None 200)
    ∷ shown (fetch (op 9223372036854775984 1 FloatingPoint false false (bytes "? x4") None (Some []) (bytes "b.0" ∷ bytes "x7" ∷ [])
    (bytes "x2" ∷ []) 379) 200)
    ∷ shown start ∷ shown (advance None 200)
    ∷ shown (fetch (op 176 0 FloatingPoint false false (bytes "xor x6") None (Some (bytes "sixteen-bytes-ok")) (bytes "x0" ∷
    bytes "x6" ∷ bytes "x6" ∷ bytes "x2" ∷ []) (bytes "x2" ∷ bytes "x2" ∷ bytes " x 1" ∷ []) 969) 200) ∷ shown (view (unit
    18446744073709551615))
    ∷ shown start ∷ shown retire ∷ shown (advance None 200) ∷ shown (overlap true) ∷ shown (advance (Some 17281402582946106964) 0)
    ∷ shown start ∷ shown (retry (bytes "waiting")) ∷ shown (fault (bytes "waiting")) ∷ shown (advance None 200)
    ∷ shown start ∷ shown (advance None 200)
    ∷ shown (fetch (op 9223372036854775984 9 Alu false false (34 ∷ 113 ∷ 34 ∷ 32 ∷ 120 ∷ 54 ∷ []) None None (bytes "x1" ∷ bytes "x2"
    ∷ bytes "x4" ∷ bytes "x6" ∷ bytes "x1" ∷ bytes "x5" ∷ bytes "x5" ∷ bytes "x1" ∷ []) [] 246) 200)
    ∷ shown start ∷ shown (advance None 200)
    ∷ shown start
    ∷ rest ∷ []

abbrev numbers : List ℕ
numbers =
    1173341890777337178 ∷ 840916538411056960 ∷ 2170790404295397017 ∷ 2239903017204428385 ∷ 463445929796270158
    ∷ 1978149097562263973 ∷ 2298024120239612175 ∷ 2160272435296039929 ∷ 333282867212986688 ∷ 2017995930087437237
    ∷ 1184635173772055927 ∷ 581346216902032749 ∷ 2094163678599008524 ∷ 981278579664067169 ∷ 1457642825523720333 ∷ 508826974919741640
    ∷ 2198312033433708634 ∷ 817253789973570039 ∷ 2275754101314805940 ∷ 1610580514482720440 ∷ 2074194391908845551
    ∷ 154131292042188804 ∷ 2049953350308336672 ∷ 381664128044671969 ∷ 819292624067137569 ∷ 2273033711859239424 ∷ 1640133089258630760
    ∷ 991896199135519418 ∷ 1916623298070229278 ∷ 220025571789921616 ∷ 175221691133847395 ∷ 1065371692738850234 ∷ 58888612774869218
    ∷ 1336456978266647059 ∷ 666244312568805232 ∷ 1169229789591860966 ∷ 1679428500902514182 ∷ 621810560049437328 ∷ 662983977864881762
    ∷ 2303577148020689783 ∷ 2254232866841332343 ∷ 74173088701398344 ∷ 519113480541532944 ∷ 2190248860980739640 ∷ 2160995812267956606
    ∷ 1036203782233741087 ∷ 1252827664544603659 ∷ 1085053670280371520 ∷ 104841668944952616 ∷ 2232375701601989120
    ∷ 2052671719498508547 ∷ 1444527389354374006 ∷ 88981524494426764 ∷ 1534594268840767447 ∷ 1506621404840705953 ∷ 680559307550935539
    ∷ 557922695068138982 ∷ 1677709272991810069 ∷ 477091040587372055 ∷ 1357336357911195723 ∷ 529849980348731127 ∷ 2169849205379917555
    ∷ 1962694299054113123 ∷ 2278498330408667773 ∷ 1082072805665186055 ∷ 2217625291245473673 ∷ 909601908375375645
    ∷ 317152988833747766 ∷ 2262798262595256392 ∷ 1776418272400081821 ∷ 200990179920246729 ∷ 1632993084047468731 ∷ 563020184205769439
    ∷ 1959411458092392730 ∷ 2163230197074765537 ∷ 1285735636903163020 ∷ 1591142657773758115 ∷ 910532291083374881 ∷ 60278640907510522
    ∷ 2104295180536419504 ∷ 1151831876493324611 ∷ 183773621899759422 ∷ 1334357968906693905 ∷ 623410340178364135
    ∷ 1684231023492441374 ∷ 886855959415571917 ∷ 2254244030084800989 ∷ 1126701065939278183 ∷ 1456868966007931532
    ∷ 518414027463466653 ∷ 2026881972600291147 ∷ 364865873037818559 ∷ []

abbrev pub case_22 : Case
case_22 = case_of shape 0 200 steps numbers
