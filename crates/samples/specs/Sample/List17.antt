-- List 17 of the sample, from seed 2330. Made by the harness: see docs/SAMPLES.md.
use Rattle.std.specs.Prelude.{ℕ, true, false, List, [], ◌∷◌, None, Some}
use Rattle.laws.specs.Texts.{bytes}
use Rattle.capability.specs.declared.PipelineInstructionClass.TheVariants.{Alu, Multiply, Load, Store, FloatingPoint, Unknown}
use Rattle.model.specs.Config.{timing, unit_spec, PipelineShape, pipeline_shape}
use Rattle.model.specs.Requests.{on_offer, write, status_message, slot_text, operand_register}
use Rattle.model.specs.Calls.{
  enabled,
  trace_count,
  rename_count,
  in_flight_before,
  start,
  retire,
  resolve,
  advance,
  fetch,
  capacity,
  overlap,
  redirect,
  view,
  cell,
  text,
}
use Rattle.samples.specs.Lists.{Step, shown, rest, Case, case_of, op}
use Rattle.capability.specs.declared.PipelineStageRole.TheVariants as role

abbrev shape : PipelineShape
shape =
    pipeline_shape (role.Writeback ∷ []) None (timing 2 0 1 3 3 8 1) (unit_spec (bytes "MUL") [] Store 3 ∷ unit_spec (bytes "FPU") []
    Alu 0 ∷ []) 4

abbrev steps : List Step
steps =
    shown (overlap true)
    ∷ shown start ∷ shown (resolve 13535429402420090196) ∷ shown (advance None 800)
    ∷ shown (fetch (op 9223372036854775808 7 Load false false (bytes "jal x4") None (Some (bytes "x0")) (bytes "x0" ∷ []) (bytes "x0"
    ∷ []) 636) 800) ∷ shown (advance (Some 180) 800)
    ∷ shown start ∷ shown (cell 0 0 800) ∷ shown (advance None 800)
    ∷ shown (fetch (op 9223372036854775815 7 FloatingPoint false false (bytes "sw x6") None (Some (bytes "x1")) (bytes "x1" ∷
    bytes "x0" ∷ bytes "x0" ∷ bytes "x2" ∷ []) (bytes "x1" ∷ bytes "x0" ∷ []) 1) 800) ∷ shown (overlap false)
    ∷ shown start ∷ shown (cell 1 1 800) ∷ shown (view trace_count) ∷ shown (advance None 800) ∷ shown (cell 0 0 800)
    ∷ shown start ∷ shown (advance None 800) ∷ shown (capacity 1 65) ∷ shown (view rename_count)
    ∷ shown start ∷ shown (capacity 1 0) ∷ shown (advance None 266) ∷ shown (advance None 800)
    ∷ shown (fetch (op 9223372036854775822 3 Alu false false (bytes "  jal  x1 ") None None (bytes "x1" ∷ bytes "x1" ∷ [])
    (bytes "x0" ∷ bytes "x2" ∷ (97 ∷ 98 ∷ 127 ∷ []) ∷ []) 258) 800)
    ∷ shown start ∷ shown (advance None 800) ∷ shown retire
    ∷ shown start ∷ shown (advance None 799) ∷ shown (capacity 1 65)
    ∷ shown (fetch (op 18446744073709551614 13 Alu false false (bytes "xor x7") None (Some (128 ∷ [])) (bytes "x2" ∷ bytes "x2" ∷ [])
    (bytes "x0" ∷ []) 578) 800)
    ∷ shown (fetch (op 9223372036854775822 1 Unknown false false (31 ∷ []) (Some (10 ∷ [])) (Some []) (bytes "x2" ∷ bytes "x2" ∷
    bytes "x2" ∷ bytes "x0" ∷ [] ∷ bytes "x2" ∷ bytes "x1" ∷ bytes "x2" ∷ bytes "x1" ∷ []) [] 1) 0) ∷ shown (advance None 799) ∷
    shown (text (operand_register 18446744073709551615 2) 0) ∷ shown (advance None 800)
    ∷ shown start
    ∷ shown (fetch (op 9223372036854775822 6 Multiply false false [] None None [] (bytes "x0" ∷ bytes "x1" ∷ bytes "sixteen-bytes-ok"
    ∷ bytes "x1" ∷ bytes "x2" ∷ []) 234) 800) ∷ shown (advance None 800)
    ∷ shown start ∷ shown retire ∷ shown (advance None 800) ∷ shown (resolve 20) ∷ shown (text status_message 0)
    ∷ shown start ∷ shown (advance None 800)
    ∷ shown start ∷ shown (advance None 800) ∷ shown (capacity 2 3)
    ∷ shown start ∷ shown (advance None 180) ∷ shown (advance None 800)
    ∷ shown start
    ∷ shown (fetch (op 9223372036854775822 0 Alu false false (bytes "mul x6") None (Some (bytes "sixteen-bytes-ok")) [] (bytes "x1" ∷
    bytes "x2" ∷ bytes "x1" ∷ bytes "x1" ∷ []) 984) 0) ∷ shown (advance None 724)
    ∷ shown (fetch (op 9223372036854775822 13 Load false false (10 ∷ []) None None ([] ∷ bytes "x0" ∷ []) (bytes "x1" ∷ []) 510) 0) ∷
    shown (advance None 800) ∷ shown (cell 18446744073709551615 0 800) ∷ shown (view enabled) ∷ shown (view (in_flight_before 1))
    ∷ shown start ∷ shown (text (slot_text on_offer (write 0)) 0) ∷ shown (redirect 172) ∷ shown (cell 2 0 800) ∷ shown (overlap true)
    ∷ shown start ∷ shown (cell 18446744073709551615 0 800) ∷ shown (resolve 18446744073709551615) ∷ shown (advance None 800)
    ∷ rest ∷ []

abbrev numbers : List ℕ
numbers =
    1981151399838883448 ∷ 55284323687835128 ∷ 675551645742678934 ∷ 940859446123961175 ∷ 2040762870323383454 ∷ 38693087966518275
    ∷ 911460107159756304 ∷ 698995811771461506 ∷ 2221853615706767523 ∷ 1236450350883971155 ∷ 2275759544099752744
    ∷ 1874460406569832669 ∷ 647973691456485313 ∷ 2243768342126795090 ∷ 142886525266177698 ∷ 761874098943205227 ∷ 1827159272720412256
    ∷ 1565261452556430081 ∷ 2183670407060381844 ∷ 1899052117712206174 ∷ 2214645513922753819 ∷ 1598017340834749078
    ∷ 14604756951327670 ∷ 140377045944199448 ∷ 154569461247202889 ∷ 434878337991039052 ∷ 511401599159145963 ∷ 1352521155718557316
    ∷ 1616944390255711849 ∷ 793085098812762053 ∷ 2261819114509180129 ∷ 1993975756567226063 ∷ 1993975756567226063
    ∷ 1993975756567226063 ∷ 2261819114509180129 ∷ 308329672710043810 ∷ 1970656163041697943 ∷ 1837066758838095354
    ∷ 1988653179525162209 ∷ 627055383230348610 ∷ 772490248490345812 ∷ 500782871661035889 ∷ 538554041241517761 ∷ 1425389275930530505
    ∷ 281453353863499673 ∷ 208927499589620105 ∷ 1043118361049135463 ∷ 979729504229936163 ∷ 1856297979707411478 ∷ 218468273017235781
    ∷ 1040353331399726581 ∷ 267368548853391493 ∷ 307345317392335476 ∷ 458042321646774193 ∷ 2301274592383700656 ∷ 2120473398737762491
    ∷ 2301274592383700656 ∷ 775204940985359214 ∷ 1358657518392486497 ∷ 2192060921667499719 ∷ 2192060921667499719
    ∷ 161932939424982526 ∷ 1452706091258935287 ∷ 1147340958117245649 ∷ 2086971996927489152 ∷ 1497046411761701457
    ∷ 339010744215830610 ∷ 1508209107836328816 ∷ 1738600585746944399 ∷ 2215947073459457405 ∷ 739590857344218930 ∷ []

abbrev pub case_17 : Case
case_17 = case_of shape 9223372036854775808 800 steps numbers
