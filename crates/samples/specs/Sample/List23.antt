-- List 23 of the sample, from seed 387. Made by the harness: see docs/SAMPLES.md.
use Rattle.std.specs.Prelude.{ℕ, true, false, List, [], ◌∷◌, None, Some}
use Rattle.laws.specs.Texts.{bytes}
use Rattle.capability.specs.declared.PipelineInstructionClass.TheVariants.{Alu, Multiply, Divide, Load, System, FloatingPoint, Unknown}
use Rattle.model.specs.Config.{timing, unit_spec, PipelineShape, pipeline_shape}
use Rattle.model.specs.Calls.{start, retire, advance, fetch, overlap}
use Rattle.samples.specs.Lists.{Step, shown, quiet, rest, Case, case_of, op}
use Rattle.capability.specs.declared.PipelineStageRole.TheVariants as role

abbrev shape : PipelineShape
shape =
    pipeline_shape (role.Other ∷ role.Commit ∷ role.Other ∷ role.Issue ∷ role.Decode ∷ role.Decode ∷ role.Decode ∷ role.Decode ∷
    role.Decode ∷ role.Decode ∷ role.Decode ∷ role.Decode ∷ role.Decode ∷ role.Decode ∷ role.Decode ∷ role.Execute ∷ []) (Some 0)
    (timing 0 1 200 1 200 0 0) (unit_spec (bytes " ") (FloatingPoint ∷ Load ∷ System ∷ System ∷ []) Divide 5 ∷ unit_spec (bytes " ")
    [] Unknown 59 ∷ []) 1

abbrev steps : List Step
steps =
    shown (overlap true)
    ∷ quiet start ∷ quiet (advance None 200)
    ∷ quiet (fetch (op 0 0 Divide false false (bytes "sub x5") None (Some (bytes "shown")) [] (bytes "x0" ∷ []) 782) 200)
    ∷ quiet start ∷ quiet (advance None 200)
    ∷ quiet (fetch (op 1 7 Alu false false (32 ∷ 32 ∷ 34 ∷ 113 ∷ 34 ∷ 32 ∷ 32 ∷ 120 ∷ 49 ∷ 32 ∷ []) None None (bytes "x0" ∷ []) []
    822) 200)
    ∷ shown start ∷ quiet (advance None 200)
    ∷ quiet (fetch (op 2 3 Multiply false false (bytes "xor x4") None None (bytes "x0" ∷ []) [] 621) 200)
    ∷ quiet start ∷ quiet (advance None 200)
    ∷ quiet (fetch (op 3 13 Divide false false (bytes "ecall x2") None None (bytes "x0" ∷ []) [] 379) 200)
    ∷ quiet start ∷ quiet (advance None 200)
    ∷ quiet (fetch (op 4 2 Divide false false (bytes "? x4") (Some []) None (bytes "x0" ∷ []) [] 9) 200)
    ∷ quiet start ∷ quiet (advance None 200)
    ∷ quiet (fetch (op 5 0 FloatingPoint false false (bytes "fadd                                                            ") None
    None (bytes "sixteen-bytes-ok" ∷ bytes " x 1" ∷ bytes "x28" ∷ []) [] 968) 200)
    ∷ quiet start ∷ quiet (advance None 200)
    ∷ quiet (fetch (op 6 2 Alu false false (bytes "sw x0") None (Some (bytes "x17")) (bytes "x15" ∷ bytes "x11" ∷ bytes "x2" ∷
    bytes "x19" ∷ []) (bytes "x17" ∷ bytes "x15" ∷ bytes "x19" ∷ []) 170) 200)
    ∷ shown start ∷ quiet (advance None 200)
    ∷ quiet (fetch (op 7 14 Alu false false (bytes "  fadd  x1 ") None (Some (bytes "sixteen-bytes-ok")) (bytes "x0" ∷ []) [] 929)
    200)
    ∷ quiet start ∷ quiet (advance None 199) ∷ quiet (advance None 200)
    ∷ shown (fetch (op 8 1 Alu false false [] None None (bytes "x0" ∷ []) [] 937) 200)
    ∷ quiet start ∷ quiet (advance None 200)
    ∷ shown (fetch (op 9 11 Multiply false false [] None (Some (bytes "shown")) (bytes "x0" ∷ []) [] 157) 200)
    ∷ shown start ∷ quiet retire ∷ quiet (advance None 200)
    ∷ quiet (fetch (op 0 14 Alu false false (bytes "mul x8") None (Some (bytes "sixteen-bytes-ok")) (bytes "x0" ∷ []) [] 828) 200)
    ∷ quiet start ∷ quiet retire ∷ quiet (advance None 200)
    ∷ quiet (fetch (op 1 9 Divide false false (34 ∷ 113 ∷ 34 ∷ 32 ∷ 120 ∷ 53 ∷ []) None (Some (bytes "x30")) (bytes "x11" ∷
    bytes "rflags" ∷ bytes "x2" ∷ bytes "x0" ∷ []) (bytes "x30" ∷ bytes "c.0" ∷ []) 55) 200)
    ∷ quiet start ∷ quiet (advance None 200)
    ∷ quiet (fetch (op 2 2 Alu false false (bytes "mul x5") None (Some []) (bytes "x0" ∷ []) [] 218) 200)
    ∷ quiet start ∷ quiet (advance None 200)
    ∷ quiet (fetch (op 3 5 Alu false false (bytes "sub x3") (Some (bytes "page fault")) None (bytes "x0" ∷ []) [] 577) 200)
    ∷ quiet start ∷ quiet (advance None 200) ∷ quiet (advance (Some 40) 0)
    ∷ shown (fetch (op 4 4 Alu false false [] (Some []) (Some []) (bytes "x31" ∷ bytes "x26" ∷ bytes "x10" ∷ []) (bytes "x4" ∷
    bytes "x35" ∷ bytes "x7" ∷ []) 1) 200)
    ∷ quiet start ∷ quiet (advance None 200)
    ∷ quiet (fetch (op 18446744073709551615 0 Divide false false (bytes "  lw  x1 ") (Some (bytes "page fault")) None (bytes "x0" ∷
    []) [] 110) 200)
    ∷ quiet start ∷ quiet (advance None 200)
    ∷ quiet (fetch (op 0 7 Alu false false (bytes "ecall x5") (Some
    (bytes "ffffffffffffffffffffffffffffffffffffffffffffffffffffffffffffffff")) (Some (bytes "shown")) (bytes "x0" ∷ []) [] 377) 200)
    ∷ shown start ∷ quiet (advance None 200)
    ∷ quiet (fetch (op 1 10 Divide false false (bytes "nop                                                             ") None None
    (bytes "x0" ∷ []) [] 939) 200)
    ∷ quiet start ∷ quiet (advance None 200)
    ∷ quiet (fetch (op 2 5 Alu false true (bytes "cccccccccccccccccccccccccccccccccccccccccccccccccccccccccccccccc") (Some
    (bytes "page fault")) None (bytes "x0" ∷ []) [] 419) 200)
    ∷ quiet start ∷ quiet retire ∷ quiet (advance None 200)
    ∷ quiet (fetch (op 3 1 Alu false true (bytes "add                                                             ") (Some
    (bytes "ffffffffffffffffffffffffffffffffffffffffffffffffffffffffffffffff")) (Some (bytes "shown")) (bytes "x7" ∷ []) (bytes "x31"
    ∷ []) 59) 200)
    ∷ quiet start ∷ quiet (advance None 143) ∷ quiet (advance None 200)
    ∷ quiet (fetch (op 4 3 FloatingPoint false false (bytes "aaaaaaaaaaaaaaaaaaaaaaaaaaaaaaaaaaaaaaaaaaaaaaaaaaaaaaaaaaaaaaaa") None
    None (bytes "x0" ∷ []) [] 70) 200)
    ∷ quiet start ∷ quiet (advance None 200)
    ∷ quiet (fetch (op 5 0 FloatingPoint false false (bytes "  lw  x1 ") None None (bytes "x0" ∷ []) [] 126) 200)
    ∷ quiet start ∷ quiet (advance None 200)
    ∷ quiet (fetch (op 6 7 Alu false false (34 ∷ 113 ∷ 34 ∷ 32 ∷ 120 ∷ 55 ∷ []) None None (bytes "x17" ∷ bytes "x7" ∷ bytes "x20" ∷
    bytes "x33" ∷ bytes "x13" ∷ bytes "x24" ∷ bytes "x20" ∷ bytes "x16" ∷ bytes "x0" ∷ []) [] 78) 200)
    ∷ quiet (fetch (op 6 7 Divide false false (bytes "div x7") None None (bytes "x0" ∷ []) [] 357) 200)
    ∷ quiet start ∷ quiet (advance None 200)
    ∷ quiet (fetch (op 7 5 Alu false false (bytes "nop x9") None (Some (bytes "x30")) (bytes "x28" ∷ bytes "x31" ∷ []) (bytes "x30" ∷
    bytes "x14" ∷ []) 275) 200)
    ∷ quiet start ∷ quiet retire ∷ quiet (advance None 200)
    ∷ quiet (fetch (op 8 11 Multiply false false (bytes "cccccccccccccccccccccccccccccccccccccccccccccccccccccccccccccccc") (Some [])
    (Some (bytes "shown")) (bytes "x0" ∷ []) [] 746) 200)
    ∷ shown start ∷ quiet (advance None 200)
    ∷ quiet (fetch (op 9 6 FloatingPoint false false (bytes "xor x6") None (Some []) (bytes "x0" ∷ []) [] 649) 200)
    ∷ quiet start ∷ quiet (advance None 200)
    ∷ quiet (fetch (op 10 18446744073709551615 FloatingPoint false false (34 ∷ 113 ∷ 34 ∷ 32 ∷ 120 ∷ 54 ∷ []) None None (bytes "x0" ∷
    []) [] 600) 200)
    ∷ quiet start ∷ quiet (advance None 200)
    ∷ shown (fetch (op 11 6 Multiply false false (bytes "lw x0") None (Some (bytes "shown")) (bytes "x0" ∷ []) [] 0) 200)
    ∷ quiet start ∷ quiet (advance None 200)
    ∷ quiet (fetch (op 12 12 Multiply false false (bytes "bbbbbbbbbbbbbbbbbbbbbbbbbbbbbbbbbbbbbbbbbbbbbbbbbbbbbbbbbbbbbbbb") (Some
    (bytes "page fault")) (Some []) (bytes "x0" ∷ []) [] 332) 199)
    ∷ quiet (fetch (op 12 3 Alu false false (bytes "mul x1") None (Some (bytes "shown")) (bytes "x0" ∷ []) [] 674) 200)
    ∷ quiet start ∷ quiet (advance None 200)
    ∷ quiet (fetch (op 13 5 Alu false false (32 ∷ 126 ∷ 92 ∷ 34 ∷ []) (Some
    (bytes "ffffffffffffffffffffffffffffffffffffffffffffffffffffffffffffffff")) (Some (bytes "x6")) (bytes "x8" ∷ bytes "x36" ∷
    bytes "f.0" ∷ []) (bytes "x6" ∷ bytes "x28" ∷ bytes "x8" ∷ []) 403) 200)
    ∷ quiet start ∷ quiet (advance None 200)
    ∷ quiet start ∷ quiet (advance None 200)
    ∷ quiet (fetch (op 14 15 Alu false true (32 ∷ 126 ∷ 92 ∷ 34 ∷ []) (Some (bytes "page fault")) None (bytes "x0" ∷ []) [] 946) 200)
    ∷ quiet start ∷ quiet (advance None 200)
    ∷ quiet start ∷ quiet (advance None 200)
    ∷ quiet (fetch (op 15 9 Divide false false (bytes "div x8") None None (bytes "x0" ∷ []) [] 674) 200)
    ∷ shown start ∷ quiet (advance None 200)
    ∷ quiet (fetch (op 16 9 Alu false false (bytes "mul x7") None (Some []) (bytes "x28" ∷ []) (bytes "x28" ∷ []) 622) 199)
    ∷ shown (fetch (op 16 9223372036854775808 FloatingPoint false false (bytes "  nop  x1 ") None (Some (bytes "sixteen-bytes-ok"))
    (bytes "x0" ∷ []) [] 177) 200)
    ∷ quiet start ∷ quiet (advance None 200)
    ∷ quiet (fetch (op 17 15 FloatingPoint false false (bytes "add x1") (Some
    (bytes "ffffffffffffffffffffffffffffffffffffffffffffffffffffffffffffffff")) None (bytes "x0" ∷ []) [] 206) 200)
    ∷ quiet start ∷ quiet (advance None 200)
    ∷ quiet (fetch (op 18 0 Divide false false (bytes "mul x5") (Some []) None (bytes "x0" ∷ []) [] 482) 200)
    ∷ shown start ∷ quiet (advance None 200)
    ∷ quiet (fetch (op 19 12 Alu false false (bytes "jal x8") None (Some (bytes "shown")) (bytes "x0" ∷ []) [] 836) 200)
    ∷ quiet start ∷ quiet (advance None 200)
    ∷ quiet (fetch (op 20 9223372036854775808 Unknown false false (bytes "fadd x1") None (Some (bytes "shown")) (bytes "x0" ∷ []) []
    1) 200)
    ∷ quiet start ∷ quiet (advance None 200)
    ∷ quiet (fetch (op 21 13 Alu false false [] (Some []) (Some (bytes "x1")) (bytes "x33" ∷ bytes "h.0" ∷ bytes "x12" ∷ bytes "x16"
    ∷ []) (bytes "x1" ∷ bytes "x28" ∷ []) 414) 200)
    ∷ quiet start ∷ quiet (advance None 200)
    ∷ quiet start ∷ shown (advance None 200)
    ∷ quiet start ∷ quiet (advance None 200)
    ∷ quiet start ∷ quiet (advance None 200)
    ∷ quiet start ∷ quiet (advance None 200)
    ∷ quiet start ∷ shown (advance None 200)
    ∷ quiet start ∷ quiet (advance None 200)
    ∷ quiet start ∷ quiet (advance None 199) ∷ quiet (advance None 200)
    ∷ shown start ∷ quiet (advance None 200)
    ∷ quiet start ∷ shown (advance None 200)
    ∷ quiet start ∷ quiet (advance None 200)
    ∷ quiet start ∷ quiet (advance None 200)
    ∷ quiet start ∷ quiet (advance None 200)
    ∷ quiet start ∷ quiet (advance None 200)
    ∷ quiet start ∷ quiet (advance None 199)
    ∷ rest ∷ []

abbrev numbers : List ℕ
numbers =
    643119745568720489 ∷ 534786629480468328 ∷ 82536972566918367 ∷ 1569682031952779120 ∷ 7000044000070 ∷ 82536972566918367
    ∷ 1692109085300247750 ∷ 7000044000070 ∷ 1738546570662114881 ∷ 1860870235339414454 ∷ 7000044000070 ∷ 82536972566918367
    ∷ 2029631385378581158 ∷ 7000044000070 ∷ 82536972566918367 ∷ 2198392535417747862 ∷ 7000044000070 ∷ 82536972566918367
    ∷ 61310676243220615 ∷ 7000044000070 ∷ 82536972566918367 ∷ 1133212315919174776 ∷ 7000044000070 ∷ 2075951186269088082
    ∷ 1187389367074298249 ∷ 7000044000070 ∷ 82536972566918367 ∷ 82534972567918388 ∷ 567594126360720727 ∷ 1646572436209431589
    ∷ 82536972566918367 ∷ 736355276399887431 ∷ 1705135960188826293 ∷ 1884300661370256528 ∷ 7000044000070 ∷ 905116426439054135
    ∷ 7000044000070 ∷ 1903054101842787336 ∷ 7000044000070 ∷ 1692119085360247840 ∷ 7000044000070 ∷ 82536972566918367
    ∷ 1812152161148556315 ∷ 7000044000070 ∷ 82536972566918367 ∷ 2029641385438581248 ∷ 7000044000070 ∷ 82536972566918367
    ∷ 2198402535477747952 ∷ 82534972559918364 ∷ 1535748148898438575 ∷ 82536972566918367 ∷ 365589354568837922 ∷ 7000044000070
    ∷ 82536972566918367 ∷ 1523363935357081190 ∷ 7000044000070 ∷ 462155265393651570 ∷ 1692125085396247894 ∷ 7000044000070
    ∷ 82536972566918367 ∷ 1860886235435414598 ∷ 7000044000070 ∷ 1371540539872630215 ∷ 7000044000070 ∷ 2029647385474581302
    ∷ 7000044000070 ∷ 82536972566918367 ∷ 82534972567918388 ∷ 1347325926620421181 ∷ 7000044000070 ∷ 82536972566918367
    ∷ 61326676339220759 ∷ 7000044000070 ∷ 82536972566918367 ∷ 230087826378387463 ∷ 82534972563918376 ∷ 7000044000070
    ∷ 82536972566918367 ∷ 398848976417554167 ∷ 7000044000070 ∷ 263368209012233405 ∷ 7000044000070 ∷ 102140256178259188
    ∷ 7000044000070 ∷ 323656352776701852 ∷ 1603216268890440711 ∷ 7000044000070 ∷ 82536972566918367 ∷ 798449272388928283
    ∷ 7000044000070 ∷ 82536972566918367 ∷ 2299525285101109806 ∷ 172867258961185280 ∷ 82536972566918367 ∷ 1494758288599597378
    ∷ 82534972567918388 ∷ 7000044000070 ∷ 82536972566918367 ∷ 689991292098084950 ∷ 7000044000070 ∷ 82536972566918367
    ∷ 2191067304810266473 ∷ 82536972566918367 ∷ 2191067304810266473 ∷ 7000044000070 ∷ 82536972566918367 ∷ 1386300308308754045
    ∷ 82536972566918367 ∷ 1386300308308754045 ∷ 7000044000070 ∷ 921427392632119648 ∷ 581533311807241617 ∷ 82534972567918388
    ∷ 2109479532535750211 ∷ 82536972566918367 ∷ 2082609324519423140 ∷ 7000044000070 ∷ 82536972566918367 ∷ 1277842328017910712
    ∷ 7000044000070 ∷ 1067781556714917538 ∷ 473075331516398284 ∷ 7000044000070 ∷ 82536972566918367 ∷ 1974151344228579807
    ∷ 7000044000070 ∷ 82536972566918367 ∷ 1169384347727067379 ∷ 7000044000070 ∷ 82536972566918367 ∷ 87803194789292734
    ∷ 82536972566918367 ∷ 2248946212935838787 ∷ 82536972566918367 ∷ 87803194789292734 ∷ 82536972566918367 ∷ 87803194789292734
    ∷ 82536972566918367 ∷ 87803194789292734 ∷ 82536972566918367 ∷ 37345510512445812 ∷ 82536972566918367 ∷ 87803194789292734
    ∷ 82536972566918367 ∷ 82534972567918388 ∷ 87803194789292734 ∷ 2221687550520135189 ∷ 87803194789292734 ∷ 82536972566918367
    ∷ 2219835780943273911 ∷ 82536972566918367 ∷ 87803194789292734 ∷ 82536972566918367 ∷ 87803194789292734 ∷ 82536972566918367
    ∷ 87803194789292734 ∷ 82536972566918367 ∷ 87803194789292734 ∷ 82536972566918367 ∷ 82534972567918388 ∷ 1907620995347885095 ∷ []

abbrev pub case_23 : Case
case_23 = case_of shape 0 200 steps numbers
