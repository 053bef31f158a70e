-- List 16 of the sample, from seed 1283. Made by the harness: see docs/SAMPLES.md.
use Rattle.std.specs.Prelude.{ℕ, true, false, List, [], ◌∷◌, None, Some}
use Rattle.laws.specs.Texts.{bytes}
use Rattle.capability.specs.declared.PipelineInstructionClass.TheVariants.{Divide, Load, Branch, Jump, System}
use Rattle.model.specs.Config.{timing, PipelineShape, pipeline_shape}
use Rattle.model.specs.Requests.{
  in_queue,
  in_station,
  fault as fault_note,
  write,
  slot_text,
  row_disassembly,
  station_label,
  rename_register,
}
use Rattle.model.specs.Calls.{
  stage_order,
  buffer_count,
  unit,
  timeline_row,
  station,
  rename,
  queued,
  start,
  retire,
  retry,
  resolve,
  advance,
  fetch,
  capacity,
  overlap,
  fault,
  reset,
  view,
  cell,
  text,
}
use Rattle.samples.specs.Lists.{Step, shown, rest, Case, case_of, op}
use Rattle.capability.specs.declared.PipelineStageRole.TheVariants as role

abbrev shape : PipelineShape
shape =
    pipeline_shape (role.Other ∷ role.Decode ∷ role.Decode ∷ role.Decode ∷ role.Execute ∷ []) None (timing 8 3 0 0 2 1 3) [] 3

abbrev steps : List Step
steps =
    shown (capacity 0 1) ∷ shown (cell 1 0 600) ∷ shown (text (slot_text (in_queue 0) fault_note) 0) ∷ shown (text (row_disassembly
    0) 0)
    ∷ shown start ∷ shown (overlap true) ∷ shown (advance None 600) ∷ shown (text (row_disassembly 1) 0) ∷ shown (text (station_label
    0) 3)
    ∷ shown start ∷ shown (advance (Some 9155918282696302449) 600) ∷ shown (resolve 1) ∷ shown (text (rename_register 0) 1) ∷ shown
    (view (timeline_row 0))
    ∷ shown (fetch (op 9155918282696302449 6 Jump true false (bytes "fadd x6") None (Some (bytes "zzzzzzzzzzzzzzzzz")) (bytes "x6" ∷
    bytes "x6" ∷ []) (bytes "x4" ∷ []) 890) 600) ∷ shown retire ∷ shown retire
    ∷ shown (fetch (op 9 11 Branch true false [] (Some (bytes "ffffffffffffffffffffffffffffffffffffffffffffffffffffffffffffffff"))
    None [] [] 45) 600)
    ∷ shown start ∷ shown (view (queued 0)) ∷ shown (advance None 600)
    ∷ shown (fetch (op 20 8 Load false false (bytes "beq x8") None (Some (bytes "sixteen-bytes-ok")) (bytes "x5" ∷ bytes "x1" ∷
    bytes "x6" ∷ []) [] 459) 600) ∷ shown (view (rename 0))
    ∷ shown start ∷ shown (advance None 600)
    ∷ shown (fetch (op 28 14 Divide false false (bytes "sub x7") None (Some (bytes "x0")) (bytes "x7" ∷ bytes "x3" ∷ []) (bytes "x0"
    ∷ []) 384) 600)
    ∷ shown (fetch (op 42 4 Jump true false (bytes "xor x4") None None [] (bytes "x0" ∷ bytes "x3" ∷ bytes "x6" ∷ bytes "x1" ∷
    bytes "x2" ∷ []) 85) 600)
    ∷ shown start ∷ shown (view stage_order) ∷ shown (capacity 0 0) ∷ shown (capacity 1 65) ∷ shown (advance (Some
    18446744073709551614) 600)
    ∷ shown (fetch (op 18446744073709551614 0 Divide false false (bytes "   ") (Some
    (bytes "ffffffffffffffffffffffffffffffffffffffffffffffffffffffffffffffff")) None (bytes "x4" ∷ bytes "x4" ∷ []) [] 373) 600) ∷
    shown (view buffer_count) ∷ shown (view (unit 0))
    ∷ shown start ∷ shown (advance None 600) ∷ shown (retry (bytes "waiting"))
    ∷ shown (fetch (op 18446744073709551615 13 Jump true false (bytes "  div  x1 ") None (Some (bytes "shown")) [] (bytes "x0" ∷ [])
    613) 600)
    ∷ shown start ∷ shown retire ∷ shown (fault (bytes "waiting")) ∷ shown (advance None 600)
    ∷ shown start ∷ shown (capacity 0 65) ∷ shown (reset 32 600)
    ∷ shown start ∷ shown (cell 18446744073709551615 1 600) ∷ shown (advance None 600)
    ∷ shown (fetch (op 32 2 Branch true false (34 ∷ 113 ∷ 34 ∷ 32 ∷ 120 ∷ 55 ∷ []) (Some
    (bytes "ffffffffffffffffffffffffffffffffffffffffffffffffffffffffffffffff")) (Some (bytes "x4")) [] (bytes "x4" ∷ []) 434) 600)
    ∷ shown (fetch (op 34 1 Branch false false (bytes "beq x5") (Some (bytes "page fault")) (Some []) (bytes "x7" ∷ bytes "x5" ∷
    bytes "x1" ∷ bytes "zzzzzzzzzzzzzzzzz" ∷ []) (bytes "rflags" ∷ []) 992) 600)
    ∷ shown start ∷ shown (advance None 599) ∷ shown (advance None 600)
    ∷ shown (fetch (op 34 8 Load false false (10 ∷ []) None (Some (bytes "x3")) (bytes "x4" ∷ bytes "x3" ∷ bytes "rflags" ∷ [])
    (bytes "x3" ∷ bytes "x5" ∷ bytes "x2" ∷ []) 427) 0) ∷ shown (cell 1 0 600)
    ∷ shown (fetch (op 34 14 Divide false false (bytes "bbbbbbbbbbbbbbbbbbbbbbbbbbbbbbbbbbbbbbbbbbbbbbbbbbbbbbbbbbbbbbbb") None (Some
    (bytes "sixteen-bytes-ok")) (bytes "x3" ∷ bytes "x5" ∷ []) (bytes "x1" ∷ []) 572) 600)
    ∷ shown start ∷ shown (advance None 600) ∷ shown (text (slot_text (in_station 0) (write 0)) 2) ∷ shown (view (station 0))
    ∷ shown (fetch (op 48 10 System false false (bytes "nop x7") None (Some (bytes "shown")) (bytes "x1" ∷ bytes "x5" ∷ [])
    (bytes "x5" ∷ []) 180) 600)
    ∷ shown start ∷ shown (advance None 600) ∷ shown (fault (bytes "waiting"))
    ∷ shown start ∷ shown (text (station_label 0) 200)
    ∷ rest ∷ []

abbrev numbers : List ℕ
numbers =
    264542172220659318 ∷ 662609514574806374 ∷ 190512674549461672 ∷ 1955743925823181813 ∷ 1955743925823181813 ∷ 121707097057126934
    ∷ 1118945304934854328 ∷ 1571104645370682727 ∷ 106236706969535816 ∷ 2296720308746777231 ∷ 578042887417174888
    ∷ 2254442102742370769 ∷ 941511629742893281 ∷ 1215389201818096342 ∷ 2272665559045967731 ∷ 11546893462747079 ∷ 941511629742893281
    ∷ 941511629742893281 ∷ 1899273525249533124 ∷ 1438994767981799040 ∷ 727536151061295178 ∷ 1140567189024913015
    ∷ 1119810357799009934 ∷ 1318678196534330771 ∷ 1385739630787388054 ∷ 1853297035097192467 ∷ 516801421413976514
    ∷ 1783429653350256195 ∷ 195071420517392302 ∷ 59856429802988257 ∷ 1507718369012232437 ∷ 1507718369012232437 ∷ 163954913802011264
    ∷ 566821838969604750 ∷ 1785190777581180644 ∷ 1532582099899608107 ∷ 762367511377252157 ∷ 1568496212896622096
    ∷ 1546430686810528145 ∷ 770700351888332288 ∷ 106962279480202651 ∷ 78447141859922926 ∷ 545327588989217374 ∷ 906155634546203418
    ∷ 264548924500623743 ∷ 1934632530532560835 ∷ 743917898337918118 ∷ 203015480820238678 ∷ 1904791781335864722 ∷ 1843344824433716503
    ∷ 1676999196928835516 ∷ 358558332519512200 ∷ 964264780311166728 ∷ 1522124877580774235 ∷ 2132748757295771717
    ∷ 1110169207719386556 ∷ 1168950748953300389 ∷ 692990596951347723 ∷ 1493139069252061535 ∷ 1339417486663254547 ∷ 62640402867134924
    ∷ 1403312790309713993 ∷ 427382650153813365 ∷ 1740327391332645076 ∷ 1868971053147917927 ∷ 732710624543768445
    ∷ 1728525935778916754 ∷ 508978578079310881 ∷ 112982556611564734 ∷ []

abbrev pub case_16 : Case
case_16 = case_of shape 0 600 steps numbers
