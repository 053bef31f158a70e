-- List 18 of the sample, from seed 132. Made by the harness: see docs/SAMPLES.md.
use Rattle.std.specs.Prelude.{ℕ, true, false, List, [], ◌∷◌, None, Some}
use Rattle.laws.specs.Texts.{bytes}
use Rattle.capability.specs.declared.PipelineInstructionClass.TheVariants.{
  Alu,
  Multiply,
  Divide,
  Load,
  Store,
  Branch,
  Jump,
  System,
  FloatingPoint,
  Unknown,
}
use Rattle.model.specs.Config.{timing, unit_spec, PipelineShape, pipeline_shape}
use Rattle.model.specs.Calls.{start, retire, resolve, advance, fetch, overlap}
use Rattle.samples.specs.Lists.{Step, shown, rest, Case, case_of, op}

abbrev shape : PipelineShape
shape =
    pipeline_shape [] (Some 0) (timing 8 0 0 3 8 0 0) (unit_spec (bytes "SYS") (Unknown ∷ Divide ∷ []) Alu 4 ∷ unit_spec (bytes "EX")
    [] Multiply 4 ∷ unit_spec (bytes "SYS") (Jump ∷ Branch ∷ Alu ∷ []) Multiply 1 ∷ unit_spec (bytes "MUL") (Jump ∷ Jump ∷ Load ∷
    Branch ∷ Store ∷ System ∷ FloatingPoint ∷ []) Store 0 ∷ []) 2

abbrev steps : List Step
steps =
    shown (overlap true)
    ∷ shown start ∷ shown (advance None 400)
    ∷ shown (fetch (op 0 0 Alu false false (bytes "jal                                                             ") None (Some
    (bytes "sixteen-bytes-ok")) (bytes " x 1" ∷ bytes "x4" ∷ bytes "x4" ∷ bytes "x4" ∷ bytes "x4" ∷ bytes "x1" ∷ bytes "x3" ∷
    bytes "x3" ∷ []) (bytes "x2" ∷ bytes "sixteen-bytes-ok" ∷ bytes "x4" ∷ bytes "x4" ∷ []) 323) 400)
    ∷ shown start ∷ shown (advance None 400)
    ∷ shown (fetch (op 1 2 Store false false (bytes "   ") None (Some (bytes "x4")) (bytes "x5" ∷ bytes "x4" ∷ []) (bytes "x4" ∷ [])
    94) 400)
    ∷ shown start ∷ shown (advance None 400)
    ∷ shown start ∷ shown (advance None 400)
    ∷ shown start ∷ shown (advance None 400)
    ∷ shown start ∷ shown (advance None 400)
    ∷ shown start ∷ shown (advance None 400)
    ∷ shown start ∷ shown (advance None 400)
    ∷ shown start ∷ shown (advance None 400)
    ∷ shown start ∷ shown (advance None 400)
    ∷ shown start ∷ shown (advance None 400)
    ∷ shown start ∷ shown (advance None 400)
    ∷ shown start ∷ shown (advance None 400)
    ∷ shown start ∷ shown retire ∷ shown (advance None 400)
    ∷ shown (fetch (op 2 13 Alu false false (bytes "add x7") None None (bytes "x4" ∷ []) [] 680) 400)
    ∷ shown start ∷ shown (advance None 401)
    ∷ shown (fetch (op 3 0 Store false false (bytes "lw x8") (Some
    (bytes "ffffffffffffffffffffffffffffffffffffffffffffffffffffffffffffffff")) (Some (bytes "sixteen-bytes-ok")) (bytes "x5" ∷
    bytes "x1" ∷ bytes " x 1" ∷ []) (bytes "sixteen-bytes-ok" ∷ bytes "sixteen-bytes-ok" ∷ []) 688) 400)
    ∷ shown start ∷ shown (advance None 400)
    ∷ shown (fetch (op 4 5 Load false false (bytes "sw x8") (Some
    (bytes "ffffffffffffffffffffffffffffffffffffffffffffffffffffffffffffffff")) (Some (bytes "x1")) (bytes "x5" ∷ bytes "x0" ∷
    bytes "x1" ∷ []) (bytes "x1" ∷ bytes "x2" ∷ bytes "x5" ∷ []) 343) 400)
    ∷ shown start ∷ shown (advance None 400)
    ∷ shown (fetch (op 5 14 FloatingPoint false false (bytes "beq x9") (Some
    (bytes "ffffffffffffffffffffffffffffffffffffffffffffffffffffffffffffffff")) (Some (bytes "sixteen-bytes-ok")) (bytes "x0" ∷
    bytes "rflags" ∷ bytes "x3" ∷ bytes "sixteen-bytes-ok" ∷ bytes "x5" ∷ bytes "x5" ∷ bytes "x2" ∷ bytes "x5" ∷ []) (bytes "x4" ∷
    bytes "rflags" ∷ bytes "x1" ∷ []) 392) 400)
    ∷ shown start ∷ shown (advance None 400)
    ∷ shown start ∷ shown (advance None 400)
    ∷ shown start ∷ shown (advance None 400)
    ∷ shown start ∷ shown (advance None 400)
    ∷ shown start ∷ shown (advance None 400)
    ∷ shown start ∷ shown (advance None 400)
    ∷ shown start ∷ shown (advance None 400)
    ∷ shown start ∷ shown (advance None 400)
    ∷ shown start ∷ shown retire ∷ shown (resolve 12) ∷ shown (advance (Some 4) 400)
    ∷ shown start ∷ shown (advance None 400)
    ∷ shown (fetch (op 4 4 Unknown false false (bytes "? x2") (Some (bytes "page fault")) (Some (bytes "x1")) (bytes "x1" ∷
    bytes "x3" ∷ []) (bytes "x1" ∷ bytes "x0" ∷ []) 413) 400)
    ∷ shown start ∷ shown retire ∷ shown (advance None 400)
    ∷ rest ∷ []

abbrev numbers : List ℕ
numbers =
    1351045248529562232 ∷ 2095899336955720016 ∷ 1215964987840555987 ∷ 593671127963387969 ∷ 937126196018781044
    ∷ 2106728783943348123 ∷ 1118839345305765564 ∷ 618558550993565770 ∷ 184622014130013000 ∷ 1045975712332734345
    ∷ 1537146708193898759 ∷ 793373132272082727 ∷ 1873475607244725780 ∷ 877139080652491068 ∷ 869331004811427794 ∷ 663181211359783815
    ∷ 1037787161539056396 ∷ 1300699314503317075 ∷ 1601865936496133334 ∷ 1199077139761810175 ∷ 2049204024465604767
    ∷ 343780591346097685 ∷ 423082908552496416 ∷ 2100985166267378427 ∷ 1794147949760103566 ∷ 680477286537314318 ∷ 1561984208112567976
    ∷ 2072906463024784177 ∷ 609730769435704694 ∷ 1769168724588483342 ∷ 225927015663371824 ∷ 475282111772650486 ∷ 1588932886962606554
    ∷ 1478672937859654011 ∷ 698018745060002100 ∷ 864773192103693242 ∷ 178016330208590489 ∷ 266457768612405679 ∷ 652136430744512777
    ∷ 2131316908299978874 ∷ 186956083064357606 ∷ 279247101896669833 ∷ 242014021002387543 ∷ 1025821075121135326 ∷ 783754065025908967
    ∷ 1046266728487301943 ∷ 1555104839613233498 ∷ 12902011625056314 ∷ 834616275821372306 ∷ 798873872499221349 ∷ 1956113176794359614
    ∷ 1069156037752389333 ∷ 1910584258518739264 ∷ 2023154909870543565 ∷ 224537624892659091 ∷ 1212113171206034237
    ∷ 509718093302204295 ∷ 1405931394987072897 ∷ 935887170212227937 ∷ 645071108706687379 ∷ 2297357821274353027 ∷ 1114855468388069061
    ∷ 1592258526639236468 ∷ 1661060669203613798 ∷ 1505985866877968127 ∷ 1596203124341214718 ∷ 246835413551628895
    ∷ 131577458694774604 ∷ 829864756382409272 ∷ 1376103147643770913 ∷ []

abbrev pub case_18 : Case
case_18 = case_of shape 0 400 steps numbers
