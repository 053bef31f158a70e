-- List 2 of the sample, from seed 1699. Made by the harness: see docs/SAMPLES.md.
use Rattle.std.specs.Prelude.{ℕ, true, false, List, [], ◌∷◌, None, Some}
use Rattle.laws.specs.Texts.{bytes}
use Rattle.capability.specs.declared.PipelineInstructionClass.TheVariants.{
  Alu,
  Multiply,
  Divide,
  Load,
  Store,
  Branch,
  Jump,
  System,
  FloatingPoint,
  Unknown,
}
use Rattle.model.specs.Config.{timing, unit_spec, PipelineShape, pipeline_shape}
use Rattle.model.specs.Requests.{trace_detail, row_disassembly, stage_name, unit_name, rename_register}
use Rattle.model.specs.Calls.{
  enabled,
  entry_stages,
  timeline_len,
  queue_count,
  buffer_capacity,
  start,
  retire,
  retry,
  advance,
  fetch,
  capacity,
  overlap,
  fault,
  reset,
  view,
  cell,
  text,
}
use Rattle.samples.specs.Lists.{Step, shown, rest, Case, case_of, op}
use Rattle.capability.specs.declared.PipelineStageRole.TheVariants as role

abbrev shape : PipelineShape
shape =
    pipeline_shape (role.Decode ∷ role.Fetch ∷ role.Memory ∷ role.Execute ∷ role.Issue ∷ []) (Some 4) (timing 1 0 8 0 0 0 2)
    (unit_spec (bytes "FPU") (Store ∷ FloatingPoint ∷ System ∷ Branch ∷ Divide ∷ System ∷ FloatingPoint ∷ Load ∷ []) Multiply 1 ∷
    unit_spec (bytes "EX") [] Load 0 ∷ []) 2

abbrev steps : List Step
steps =
    shown (overlap true)
    ∷ shown start ∷ shown (view buffer_capacity) ∷ shown (capacity 1 3) ∷ shown (advance None 0) ∷ shown (view queue_count)
    ∷ shown start ∷ shown (advance None 400) ∷ shown (retry (31 ∷ []))
    ∷ shown start ∷ shown (advance None 400)
    ∷ shown (fetch (op 0 7 Alu false false (bytes "add x5") None (Some []) [] [] 987) 403) ∷ shown (view enabled) ∷ shown (capacity
    18446744073709551615 0) ∷ shown retire
    ∷ shown start ∷ shown (advance None 400) ∷ shown (fault (bytes "waiting"))
    ∷ shown start ∷ shown (advance None 400)
    ∷ shown start ∷ shown (text (row_disassembly 0) 6) ∷ shown (cell 2 18446744073709551615 400) ∷ shown (advance None 400)
    ∷ shown start ∷ shown (reset 188 400)
    ∷ shown start ∷ shown retire ∷ shown (advance None 400)
    ∷ shown (fetch (op 188 10 Unknown true true (bytes "beq x8") None (Some (bytes "x5")) [] (bytes "x5" ∷ []) 766) 400)
    ∷ shown start ∷ shown (view timeline_len) ∷ shown (advance None 400)
    ∷ shown (fetch (op 192 0 Jump true false (bytes "lw x8") (Some (bytes "page fault")) (Some (bytes "sixteen-bytes-ok"))
    (bytes "x0" ∷ bytes "x5" ∷ bytes " x 1" ∷ bytes "x5" ∷ bytes "x0" ∷ bytes "x3" ∷ bytes "sixteen-bytes-ok" ∷ bytes "x0" ∷ [])
    (bytes "x1" ∷ bytes "x2" ∷ bytes "x2" ∷ bytes "x5" ∷ []) 9223372036854775808) 400)
    ∷ shown start ∷ shown (cell 1 0 400) ∷ shown (advance None 400) ∷ shown (capacity 1 4) ∷ shown (capacity 1 3) ∷ shown (text
    (trace_detail 0) 42) ∷ shown (retry (31 ∷ []))
    ∷ shown (fetch (op 196 4 Divide false false (bytes "div x6") None None (bytes " x 1" ∷ []) [] 964) 400) ∷ shown (advance None
    400) ∷ shown (view entry_stages)
    ∷ shown (fetch (op 44 6 Jump false false (bytes "sub x4") None (Some (bytes "x2")) [] (bytes "x2" ∷ (31 ∷ []) ∷ []) 434) 400)
    ∷ shown start ∷ shown (advance None 400)
    ∷ shown (fetch (op 200 0 Branch true false (32 ∷ 32 ∷ 34 ∷ 113 ∷ 34 ∷ 32 ∷ 32 ∷ 120 ∷ 49 ∷ 32 ∷ []) None (Some (bytes "shown"))
    (bytes "x7" ∷ []) [] 461) 400) ∷ shown (text (unit_name 18446744073709551615) 0) ∷ shown (fault (97 ∷ 98 ∷ 127 ∷ [])) ∷ shown
    (retry (bytes "waiting"))
    ∷ shown start ∷ shown (retry (31 ∷ [])) ∷ shown (overlap false) ∷ shown (advance None 400) ∷ shown (text (trace_detail 0) 43) ∷
    shown (text (stage_name 2) 1) ∷ shown retire
    ∷ shown (fetch (op 204 3 Store false false (bytes "zzzzzzzzzzzzzzzzzzzzzzzzzzzzzzzzzzzzzzzzzzzzzzzzzzzzzzzzzzzzzzzzz") None (Some
    (bytes "x5")) (bytes "x4" ∷ (97 ∷ 98 ∷ 127 ∷ []) ∷ bytes "x0" ∷ []) (bytes "x2" ∷ bytes "x6" ∷ bytes "x5" ∷ bytes "x1" ∷
    bytes "x1" ∷ []) 752) 0)
    ∷ shown start ∷ shown (advance None 0) ∷ shown (retry (bytes "waiting")) ∷ shown (cell 1 1 400) ∷ shown (cell 0 0 400) ∷ shown
    (advance None 400) ∷ shown (fault (bytes "waiting"))
    ∷ shown start ∷ shown (advance None 399)
    ∷ shown start ∷ shown (advance (Some 224) 400)
    ∷ shown start ∷ shown retire ∷ shown (advance None 400) ∷ shown (text (trace_detail 18446744073709551615) 0)
    ∷ shown start ∷ shown (advance None 400) ∷ shown (text (rename_register 0) 200) ∷ shown (advance (Some 48) 400) ∷ shown (reset 8
    400)
    ∷ shown start ∷ shown (advance None 400)
    ∷ shown (fetch (op 8 0 Jump true false (bytes "sw x7") (Some []) (Some (bytes "x0")) (bytes "x0" ∷ bytes "x3" ∷ bytes "x7" ∷ [])
    (bytes "x0" ∷ []) 609) 400)
    ∷ shown start ∷ shown (advance None 400)
    ∷ shown (fetch (op 12 14 Jump true false (bytes "zzzzzzzzzzzzzzzzzzzzzzzzzzzzzzzzzzzzzzzzzzzzzzzzzzzzzzzzzzzzzzzzz") None (Some
    (31 ∷ [])) (bytes "x1" ∷ bytes "x1" ∷ bytes "x1" ∷ (10 ∷ []) ∷ []) (bytes "x0" ∷ []) 104) 400) ∷ shown retire
    ∷ rest ∷ []

abbrev numbers : List ℕ
numbers =
    1697264606953181318 ∷ 1682647309053408595 ∷ 1698641209264900828 ∷ 1771420201145462544 ∷ 555662171659300170
    ∷ 1497308094777660903 ∷ 1771420201145462544 ∷ 555662171659300170 ∷ 2087933738040265391 ∷ 2197518169259358441 ∷ 77708574718190192
    ∷ 467001103493554755 ∷ 1812082266713939031 ∷ 1336168789568387838 ∷ 859635773152913006 ∷ 1946754394464643028
    ∷ 1095538165447642103 ∷ 852662440577247190 ∷ 48411525823007422 ∷ 1691702797332720626 ∷ 550628016486884829 ∷ 100344570736603301
    ∷ 997613119295026929 ∷ 753809027486599449 ∷ 1265112799104461455 ∷ 814829353354179927 ∷ 981608187047583955 ∷ 997602087259076188
    ∷ 832492035639898121 ∷ 1072858930210406265 ∷ 571531735005192953 ∷ 2268725593537500806 ∷ 1322574109666486077 ∷ 573284095477659764
    ∷ 356592542465850035 ∷ 1728369426119048349 ∷ 1434244217520437124 ∷ 793363528585521531 ∷ 1313866572591938167 ∷ 514906620149660668
    ∷ 594873816372780462 ∷ 1122493630226138337 ∷ 1194882675074619174 ∷ 2211497795296350464 ∷ 1836878308742018138
    ∷ 147545184975230871 ∷ 1362369852142025500 ∷ 1314948548898409412 ∷ 60800262775415576 ∷ 1698201812668187125 ∷ 1864040797152248656
    ∷ 1824219341551135122 ∷ 1297919650683839620 ∷ 1134284473977470192 ∷ 196429886706188030 ∷ 1097441224211249421
    ∷ 2162139530069532629 ∷ 55762340317983381 ∷ 1444183043350003622 ∷ 58834151257860800 ∷ 1533990272438979758 ∷ 2181522100028756541
    ∷ 1220657151889161943 ∷ 1194928178841429007 ∷ 1194928178841429007 ∷ 739089740503633700 ∷ 262853320239712639 ∷ 713605040521106484
    ∷ 837245881169390154 ∷ 865327092003615356 ∷ 1061812008493096178 ∷ 2177236470940883114 ∷ 273080022936947318 ∷ 219600429699178857
    ∷ 525309680275407611 ∷ 1335024892146965793 ∷ 1683231860118955487 ∷ 1988941110695184241 ∷ 458807693886252331
    ∷ 1487995391116950019 ∷ 57002023216655491 ∷ 1723368181736374607 ∷ 1280724890726264696 ∷ 1291044167537389348 ∷ 280577667028965619
    ∷ 264261322057980891 ∷ 1012827734429282057 ∷ 1379004017428542752 ∷ []

abbrev pub case_2 : Case
case_2 = case_of shape 0 400 steps numbers
