-- List 13 of the sample, from seed 630. Made by the harness: see docs/SAMPLES.md.
use Rattle.std.specs.Prelude.{ℕ, true, false, List, [], ◌∷◌, None, Some}
use Rattle.laws.specs.Texts.{bytes}
use Rattle.capability.specs.declared.PipelineInstructionClass.TheVariants.{Alu, Store, Branch, Unknown}
use Rattle.model.specs.Config.{timing, unit_spec, PipelineShape, pipeline_shape}
use Rattle.model.specs.Calls.{start, retire, advance, fetch, overlap, redirect}
use Rattle.samples.specs.Lists.{Step, shown, quiet, rest, Case, case_of, op}
use Rattle.capability.specs.declared.PipelineStageRole.TheVariants as role

abbrev shape : PipelineShape
shape =
    pipeline_shape (role.Issue ∷ role.Fetch ∷ role.Fetch ∷ role.Execute ∷ []) (Some 4) (timing 0 0 0 0 0 0 0) (unit_spec (bytes "WR")
    [] Store 4 ∷ []) 1

abbrev steps : List Step
steps =
    shown (overlap true)
    ∷ quiet start ∷ quiet (advance None 200)
    ∷ quiet (fetch (op 0 13 Unknown false false (bytes "nop x7") (Some (bytes "page fault")) (Some (bytes "shown")) (bytes "b.0" ∷
    bytes "c.0" ∷ bytes "d.0" ∷ bytes "e.0" ∷ bytes "f.0" ∷ bytes "g.0" ∷ bytes "h.0" ∷ bytes "i.0" ∷ []) (bytes "j.0" ∷ bytes "k.0"
    ∷ bytes "l.0" ∷ bytes "m.0" ∷ []) 718) 200)
    ∷ quiet start ∷ quiet (advance None 200)
    ∷ quiet (fetch (op 4 18446744073709551615 Unknown false false (bytes "beq x3") None (Some []) (bytes "n.0" ∷ bytes "o.0" ∷
    bytes "p.0" ∷ bytes "q.0" ∷ bytes "r.0" ∷ bytes "s.0" ∷ bytes "t.0" ∷ bytes "u.0" ∷ []) (bytes "v.0" ∷ bytes "w.0" ∷ bytes "x.0"
    ∷ bytes "y.0" ∷ []) 515) 200)
    ∷ quiet start ∷ quiet (advance None 200)
    ∷ quiet (fetch (op 8 9 Alu false false (bytes "div x5") None None (bytes "z.0" ∷ bytes "a.1" ∷ bytes "b.1" ∷ bytes "c.1" ∷
    bytes "d.1" ∷ bytes "e.1" ∷ bytes "f.1" ∷ bytes "g.1" ∷ []) (bytes "h.1" ∷ bytes "i.1" ∷ bytes "j.1" ∷ bytes "k.1" ∷ [])
    9223372036854775808) 200)
    ∷ quiet start ∷ quiet (advance None 200)
    ∷ quiet (fetch (op 12 10 Unknown false true (bytes "  mul  x1 ") None (Some (bytes "x4")) (bytes "l.1" ∷ bytes "m.1" ∷
    bytes "n.1" ∷ bytes "o.1" ∷ bytes "p.1" ∷ bytes "q.1" ∷ bytes "r.1" ∷ bytes "s.1" ∷ []) (bytes "t.1" ∷ bytes "u.1" ∷ bytes "v.1"
    ∷ bytes "w.1" ∷ []) 634) 200)
    ∷ quiet start ∷ quiet (advance None 200)
    ∷ quiet (fetch (op 16 5 Alu false false (bytes "mul x7") (Some
    (bytes "ffffffffffffffffffffffffffffffffffffffffffffffffffffffffffffffff")) None (bytes "x.1" ∷ bytes "y.1" ∷ bytes "z.1" ∷
    bytes "a.2" ∷ bytes "b.2" ∷ bytes "c.2" ∷ bytes "d.2" ∷ bytes "e.2" ∷ []) (bytes "f.2" ∷ bytes "g.2" ∷ bytes "h.2" ∷ bytes "i.2"
    ∷ []) 987) 200)
    ∷ quiet start ∷ quiet retire ∷ quiet (advance None 200)
    ∷ quiet (fetch (op 20 8 Unknown false false (bytes "  beq  x1 ") None (Some []) (bytes "j.2" ∷ bytes "k.2" ∷ bytes "l.2" ∷
    bytes "m.2" ∷ bytes "n.2" ∷ bytes "o.2" ∷ bytes "p.2" ∷ bytes "q.2" ∷ []) (bytes "r.2" ∷ bytes "s.2" ∷ bytes "t.2" ∷ bytes "u.2"
    ∷ []) 582) 200)
    ∷ quiet start ∷ quiet retire ∷ quiet (advance None 200)
    ∷ quiet (fetch (op 24 6 Unknown false false (bytes "lw x4") (Some (bytes "page fault")) (Some (bytes "sixteen-bytes-ok"))
    (bytes "v.2" ∷ bytes "w.2" ∷ bytes "x.2" ∷ bytes "y.2" ∷ bytes "z.2" ∷ bytes "a.3" ∷ bytes "b.3" ∷ bytes "c.3" ∷ []) (bytes "d.3"
    ∷ bytes "e.3" ∷ bytes "f.3" ∷ bytes "g.3" ∷ []) 18446744073709551615) 200)
    ∷ quiet start ∷ quiet retire ∷ quiet (advance None 200)
    ∷ quiet (fetch (op 28 3 Alu false false (bytes "? x6") None (Some (bytes "sixteen-bytes-ok")) (bytes "i.3" ∷ bytes "j.3" ∷
    bytes "k.3" ∷ bytes "l.3" ∷ bytes "m.3" ∷ bytes "n.3" ∷ bytes "o.3" ∷ bytes "p.3" ∷ []) (bytes "q.3" ∷ bytes "r.3" ∷ bytes "s.3"
    ∷ bytes "t.3" ∷ []) 212) 200)
    ∷ quiet start ∷ quiet retire ∷ quiet (advance None 200)
    ∷ quiet (fetch (op 32 0 Unknown false false (bytes "beq x8") None None (bytes "v.3" ∷ bytes "w.3" ∷ bytes "x.3" ∷ bytes "y.3" ∷
    bytes "z.3" ∷ bytes "a.4" ∷ bytes "b.4" ∷ bytes "c.4" ∷ []) (bytes "d.4" ∷ bytes "e.4" ∷ bytes "f.4" ∷ bytes "g.4" ∷ []) 3) 200)
    ∷ quiet start ∷ quiet retire ∷ quiet (advance None 200)
    ∷ quiet (fetch (op 36 15 Unknown false false (bytes "sub x3") None None (bytes "h.4" ∷ bytes "i.4" ∷ bytes "j.4" ∷ bytes "k.4" ∷
    bytes "l.4" ∷ bytes "m.4" ∷ bytes "n.4" ∷ bytes "o.4" ∷ []) (bytes "p.4" ∷ bytes "q.4" ∷ bytes "r.4" ∷ bytes "s.4" ∷ []) 865) 200)
    ∷ quiet start ∷ quiet retire ∷ quiet (advance None 200)
    ∷ quiet (fetch (op 40 12 Unknown false false (bytes "beq x1") None (Some (bytes "x0")) (bytes "u.4" ∷ bytes "v.4" ∷ bytes "w.4" ∷
    bytes "x.4" ∷ bytes "y.4" ∷ bytes "z.4" ∷ bytes "a.5" ∷ bytes "b.5" ∷ []) (bytes "c.5" ∷ bytes "d.5" ∷ bytes "e.5" ∷ bytes "f.5"
    ∷ []) 842) 200)
    ∷ quiet start ∷ quiet retire ∷ quiet (advance None 200)
    ∷ quiet (fetch (op 44 8 Alu false false (bytes "add x5") None (Some (bytes "sixteen-bytes-ok")) (bytes "g.5" ∷ bytes "h.5" ∷
    bytes "i.5" ∷ bytes "j.5" ∷ bytes "k.5" ∷ bytes "l.5" ∷ bytes "m.5" ∷ bytes "n.5" ∷ []) (bytes "o.5" ∷ bytes "p.5" ∷ bytes "q.5"
    ∷ bytes "r.5" ∷ []) 222) 200)
    ∷ quiet start ∷ quiet retire ∷ quiet (advance None 200)
    ∷ quiet (fetch (op 48 5 Alu false false (bytes "sw x4") None (Some (bytes "sixteen-bytes-ok")) (bytes "s.5" ∷ bytes "t.5" ∷
    bytes "u.5" ∷ bytes "v.5" ∷ bytes "w.5" ∷ bytes "x.5" ∷ bytes "y.5" ∷ bytes "z.5" ∷ []) (bytes "a.6" ∷ bytes "b.6" ∷ bytes "c.6"
    ∷ bytes "d.6" ∷ []) 580) 200)
    ∷ quiet start ∷ quiet retire ∷ quiet (advance None 200)
    ∷ quiet (fetch (op 52 6 Alu false false (bytes "  div  x1 ") None None (bytes "e.6" ∷ bytes "f.6" ∷ bytes "g.6" ∷ bytes "h.6" ∷
    bytes "i.6" ∷ bytes "j.6" ∷ bytes "k.6" ∷ bytes "l.6" ∷ []) (bytes "m.6" ∷ bytes "n.6" ∷ bytes "o.6" ∷ bytes "p.6" ∷ []) 50) 200)
    ∷ quiet start ∷ quiet retire ∷ quiet (advance None 200)
    ∷ quiet (fetch (op 56 18446744073709551615 Unknown false false (bytes "ecall x3") None None (bytes "q.6" ∷ bytes "r.6" ∷
    bytes "s.6" ∷ bytes "t.6" ∷ bytes "u.6" ∷ bytes "v.6" ∷ bytes "w.6" ∷ bytes "x.6" ∷ []) (bytes "y.6" ∷ bytes "z.6" ∷ bytes "a.7"
    ∷ bytes "b.7" ∷ []) 74) 200)
    ∷ quiet start ∷ quiet retire ∷ quiet (advance None 200)
    ∷ quiet (fetch (op 60 3 Alu false false (34 ∷ 113 ∷ 34 ∷ 32 ∷ 120 ∷ 56 ∷ []) None (Some []) (bytes "c.7" ∷ bytes "d.7" ∷
    bytes "e.7" ∷ bytes "f.7" ∷ bytes "g.7" ∷ bytes "h.7" ∷ bytes "i.7" ∷ bytes "j.7" ∷ []) (bytes "k.7" ∷ bytes "l.7" ∷ bytes "m.7"
    ∷ bytes "n.7" ∷ []) 15) 200)
    ∷ quiet start ∷ quiet retire ∷ quiet (advance None 200)
    ∷ quiet (fetch (op 64 10 Unknown false false (bytes "jal x1") None None (bytes "p.7" ∷ bytes "q.7" ∷ bytes "r.7" ∷ bytes "s.7" ∷
    bytes "t.7" ∷ bytes "u.7" ∷ bytes "v.7" ∷ bytes "w.7" ∷ []) (bytes "x.7" ∷ bytes "y.7" ∷ bytes "z.7" ∷ bytes "a.8" ∷ []) 1) 200)
    ∷ quiet start ∷ quiet retire ∷ quiet (advance None 200)
    ∷ quiet (fetch (op 68 1 Unknown false true (bytes "? x0") None None (bytes "b.8" ∷ bytes "c.8" ∷ bytes "d.8" ∷ bytes "e.8" ∷
    bytes "f.8" ∷ bytes "g.8" ∷ bytes "h.8" ∷ bytes "i.8" ∷ []) (bytes "j.8" ∷ bytes "k.8" ∷ bytes "l.8" ∷ bytes "m.8" ∷ []) 754) 200)
    ∷ quiet start ∷ quiet retire ∷ quiet (advance None 200)
    ∷ quiet (fetch (op 72 15 Alu false false (bytes "sw x4") (Some
    (bytes "ffffffffffffffffffffffffffffffffffffffffffffffffffffffffffffffff")) None (bytes "n.8" ∷ bytes "o.8" ∷ bytes "p.8" ∷
    bytes "q.8" ∷ bytes "r.8" ∷ bytes "s.8" ∷ bytes "t.8" ∷ bytes "u.8" ∷ []) (bytes "v.8" ∷ bytes "w.8" ∷ bytes "x.8" ∷ bytes "y.8"
    ∷ []) 528) 200)
    ∷ quiet start ∷ quiet retire ∷ quiet (advance None 200)
    ∷ quiet (fetch (op 76 10 Alu false false [] None None (bytes "z.8" ∷ bytes "a.9" ∷ bytes "b.9" ∷ bytes "c.9" ∷ bytes "d.9" ∷
    bytes "e.9" ∷ bytes "f.9" ∷ bytes "g.9" ∷ []) (bytes "h.9" ∷ bytes "i.9" ∷ bytes "j.9" ∷ bytes "k.9" ∷ []) 370) 200)
    ∷ quiet start ∷ quiet retire ∷ quiet (advance None 200)
    ∷ quiet (fetch (op 80 1 Unknown false false (bytes "? x3") None (Some (bytes "sixteen-bytes-ok")) (bytes "l.9" ∷ bytes "m.9" ∷
    bytes "n.9" ∷ bytes "o.9" ∷ bytes "p.9" ∷ bytes "q.9" ∷ bytes "r.9" ∷ bytes "s.9" ∷ []) (bytes "t.9" ∷ bytes "u.9" ∷ bytes "v.9"
    ∷ bytes "w.9" ∷ []) 143) 200)
    ∷ quiet start ∷ quiet retire ∷ quiet (advance None 200)
    ∷ shown (fetch (op 84 15 Branch true false (bytes "ecall x3") None (Some (bytes "x.9")) [] [] 969) 200)
    ∷ shown start ∷ shown retire ∷ shown (advance None 200)
    ∷ shown (fetch (op 88 1 Alu false true (bytes "fadd x7") None (Some (bytes "shown")) (bytes "y.9" ∷ bytes "z.9" ∷ bytes "a.10" ∷
    []) [] 228) 200)
    ∷ shown start ∷ shown retire ∷ shown (advance None 200)
    ∷ shown (fetch (op 92 14 Alu false false (bytes "mul x0") None (Some []) (bytes "b.10" ∷ []) (bytes "c.10" ∷ []) 838) 200)
    ∷ shown (fetch (op 92 3 Unknown false true [] None None (bytes "d.10" ∷ []) (bytes "e.10" ∷ []) 179) 199)
    ∷ shown (fetch (op 92 3 Unknown false true (97 ∷ 98 ∷ 127 ∷ []) None None (bytes "d.10" ∷ []) (bytes "e.10" ∷ []) 179) 200)
    ∷ shown (fetch (op 92 3 Unknown false true [] None None (bytes "f.10" ∷ bytes "g.10" ∷ bytes "h.10" ∷ bytes "i.10" ∷ bytes "j.10"
    ∷ bytes "k.10" ∷ bytes "l.10" ∷ bytes "m.10" ∷ bytes "n.10" ∷ []) (bytes "e.10" ∷ []) 179) 200)
    ∷ shown (fetch (op 92 12 Alu false false (bytes "mul x4") None (Some (bytes "x6")) (bytes "p.10" ∷ bytes "p.10" ∷ [])
    (bytes "p.10" ∷ []) 589) 200)
    ∷ shown (fetch (op 96 2 Alu false true (bytes "jal x9") (Some
    (bytes "ffffffffffffffffffffffffffffffffffffffffffffffffffffffffffffffff")) (Some (bytes "x3")) (bytes "q.10" ∷ []) [] 94) 200)
    ∷ shown start
    ∷ shown (fetch (op 96 4 Alu false false (bytes "mul x2") None (Some (bytes "x0")) [] (bytes "r.10" ∷ []) 166) 200) ∷ shown retire
    ∷ shown (advance None 200)
    ∷ shown (fetch (op 96 14 Unknown false false (bytes "? x6") None (Some (bytes "x5")) [] (bytes "s.10" ∷ []) 217) 200)
    ∷ shown (fetch (op 96 14 Unknown false false [] None None (bytes "b.0" ∷ bytes "c.0" ∷ bytes "d.0" ∷ bytes "e.0" ∷ bytes "f.0" ∷
    bytes "g.0" ∷ bytes "h.0" ∷ bytes "i.0" ∷ []) (bytes "w.9" ∷ bytes "v.9" ∷ bytes "u.9" ∷ bytes "t.9" ∷ []) 390) 200)
    ∷ shown start ∷ shown retire ∷ shown (advance None 200)
    ∷ shown start ∷ shown retire ∷ shown (advance None 200)
    ∷ shown start ∷ shown (advance None 200)
    ∷ shown start ∷ shown (advance None 200)
    ∷ shown start ∷ shown (advance None 200)
    ∷ shown start ∷ shown retire ∷ shown (advance None 200)
    ∷ shown (fetch (op 100 12 Unknown false false (bytes "  xor  x1 ") (Some
    (bytes "ffffffffffffffffffffffffffffffffffffffffffffffffffffffffffffffff")) None (bytes "t.10" ∷ []) (bytes "u.10" ∷ []) 184)
    200) ∷ shown (redirect 64)
    ∷ shown start ∷ shown (advance None 200)
    ∷ shown (fetch (op 64 3 Alu false false (bytes "jal x0") (Some (bytes "page fault")) (Some []) (bytes "v.10" ∷ bytes "w.10" ∷
    bytes "x.10" ∷ bytes "y.10" ∷ bytes "z.10" ∷ bytes "a.11" ∷ bytes "b.11" ∷ bytes "c.11" ∷ []) (bytes "d.11" ∷ bytes "e.11" ∷
    bytes "f.11" ∷ bytes "g.11" ∷ []) 891) 200)
    ∷ shown start ∷ shown (advance None 200)
    ∷ rest ∷ []

abbrev numbers : List ℕ
numbers =
    2172495135553555633 ∷ 1872793578649565599 ∷ 82536972566918367 ∷ 1569682031952779120 ∷ 7000044000070 ∷ 82536972566918367
    ∷ 2063618654043906311 ∷ 7000044000070 ∷ 82536972566918367 ∷ 1853870085312640211 ∷ 7000044000070 ∷ 82536972566918367
    ∷ 1644121516581374111 ∷ 7000044000070 ∷ 82536972566918367 ∷ 1434372947850108011 ∷ 7000044000070 ∷ 221475196891770503
    ∷ 7000044000070 ∷ 1224624379118841911 ∷ 7000044000070 ∷ 115695810156535500 ∷ 7000044000070 ∷ 1014875810387575811 ∷ 7000044000070
    ∷ 2293798371044562368 ∷ 7000044000070 ∷ 805127241656309711 ∷ 7000044000070 ∷ 629815563447415417 ∷ 7000044000070
    ∷ 595378672925043611 ∷ 7000044000070 ∷ 706147074694112193 ∷ 7000044000070 ∷ 385630104193777511 ∷ 7000044000070
    ∷ 3975144181409977 ∷ 7000044000070 ∷ 175881535462511411 ∷ 7000044000070 ∷ 1515992504153375641 ∷ 7000044000070
    ∷ 2271975975944939262 ∷ 7000044000070 ∷ 2248309884211825916 ∷ 7000044000070 ∷ 2062227407213673162 ∷ 7000044000070
    ∷ 272364337883168589 ∷ 7000044000070 ∷ 1852478838482407062 ∷ 7000044000070 ∷ 1166028094434240801 ∷ 7000044000070
    ∷ 1642730269751140962 ∷ 7000044000070 ∷ 544214011278137212 ∷ 7000044000070 ∷ 1432981701019874862 ∷ 7000044000070
    ∷ 1448542956045208054 ∷ 7000044000070 ∷ 1223233132288608762 ∷ 7000044000070 ∷ 826728873270105608 ∷ 7000044000070
    ∷ 1013484563557342662 ∷ 7000044000070 ∷ 1822711536686202281 ∷ 7000044000070 ∷ 803735994826076562 ∷ 7000044000070
    ∷ 1464562737669747436 ∷ 7000044000070 ∷ 593987426094810462 ∷ 7000044000070 ∷ 63048673784126010 ∷ 7000044000070
    ∷ 384238857363544362 ∷ 7000044000070 ∷ 978673490741626750 ∷ 7000044000070 ∷ 174490288632278262 ∷ 709923551603932213
    ∷ 1869132812442344926 ∷ 1357381317671356926 ∷ 1194289934551747844 ∷ 227282139141701674 ∷ 382437951918062984 ∷ 500186563464847737
    ∷ 1085053465731683027 ∷ 1308279780607713699 ∷ 1308279780607713699 ∷ 234539309490160861 ∷ 1750522974021443082
    ∷ 1467111829283318053 ∷ 1330153414458941238 ∷ 2112265835773589990 ∷ 1607616441205753659 ∷ 1737581715030789238
    ∷ 147899930775548073 ∷ 1283926079362033324 ∷ 1822352516912466103 ∷ 1327706740784559895 ∷ 429850205312987114
    ∷ 1183629508879845705 ∷ 487904710781132227 ∷ 805373600448257245 ∷ 186414306445880137 ∷ 972870934332744615 ∷ 907260319008642913
    ∷ 819843748012772502 ∷ 2150704420846631003 ∷ 2015721241892701851 ∷ 887235252400051538 ∷ 256748504696031120 ∷ 32080800446143597
    ∷ 257521960540857654 ∷ 542872417002788139 ∷ 1130227914709822152 ∷ 54959059553782565 ∷ 170457650534551451 ∷ 1069515783055086804
    ∷ 1848049391055017885 ∷ 1846794546176968041 ∷ 511133040952778311 ∷ []

abbrev pub case_13 : Case
case_13 = case_of shape 0 200 steps numbers
