-- The parts of answers as bytes (docs/CALLS.md, The answers).
use Rattle.std.specs.Prelude.{ℕ, ◌+◌, ◌-◌, Bool, List, [], ◌∷◌, ◌++◌, length, replicate, Option, None, Some}
use Rattle.std.specs.List.{flat_map}
use Rattle.std.specs.Int.{w64, to_le_bytes, from_bool}
use Rattle.laws.specs.Texts.{Text}
use Rattle.capability.specs.declared.PipelineHazardKind.{PipelineHazardKind}
use Rattle.capability.specs.Numbers.{class_number, hazard_number, trace_number, role_number, edge_number, state_number, entry_number}
use Rattle.model.specs.State.{Stats}
use Rattle.model.specs.Views.{SlotView, OfferView, StatusView, StageView, Edge, UnitView, TraceView, RowView, CellView, OperandView, StationView}

-- Eight bytes, the lowest first.
unfoldable pub number_bytes : ℕ → List ℕ
number_bytes x = to_le_bytes w64 x

unfoldable pub flag_byte : Bool → ℕ
flag_byte b = from_bool b

abbrev pub byte_of : ℕ → List ℕ
byte_of b = b ∷ []

-- Bytes of 0 up to a size.
unfoldable pub pad : ℕ → List ℕ → List ℕ
pad n l = l ++ replicate (n - length l) 0

-- A flag, and where it is 1 what is there.
unfoldable pub optional : {A : Type 0} → (A → List ℕ) → Option A → List ℕ
optional f None = 0 ∷ []
optional f (Some x) = 1 ∷ f x

-- How many bytes these are, where what is there takes n.
unfoldable pub optional_length : {A : Type 0} → ℕ → Option A → ℕ
optional_length n None = 1
optional_length n (Some x) = 1 + n

-- As `optional` in n bytes, also where the flag is 0.
unfoldable pub part : {A : Type 0} → ℕ → (A → List ℕ) → Option A → List ℕ
part n f o = pad n (optional f o)

-- ── Views ───────────────────────────────────────────────────────────────────

unfoldable pub offer_bytes : OfferView → List ℕ
offer_bytes v =
    number_bytes v.seq
    ++ (number_bytes v.address
    ++ (number_bytes v.size
    ++ (class_number v.class ∷ flag_byte v.branch ∷ flag_byte v.atomic
    ∷ (number_bytes v.predicted_next ++ number_bytes v.payload))))

unfoldable pub status_bytes : StatusView → List ℕ
status_bytes v = flag_byte v.enabled ∷ flag_byte v.sequential ∷ flag_byte v.halted ∷ flag_byte v.faulted ∷ []

unfoldable pub stats_bytes : Stats → List ℕ
stats_bytes s =
    flat_map number_bytes
    (s.cycles ∷ s.committed ∷ s.stalls ∷ s.raw_stalls ∷ s.load_use_stalls ∷ s.branch_stalls ∷ s.functional_unit_stalls
    ∷ s.memory_stalls ∷ s.waw_stalls ∷ s.war_stalls ∷ s.flushes ∷ s.branches ∷ [])

unfoldable pub edge_bytes : Edge → List ℕ
edge_bytes e = e.from ∷ e.to ∷ edge_number e.kind ∷ []

unfoldable pub hazard_byte : PipelineHazardKind → List ℕ
hazard_byte h = hazard_number h ∷ []

unfoldable pub slot_bytes : SlotView → List ℕ
slot_bytes v =
    number_bytes v.address
    ++ (class_number v.class ∷ flag_byte v.bubble ∷ flag_byte v.speculative ∷ flag_byte v.predicted_taken
    ∷ (part 2 hazard_byte v.hazard ++ (flag_byte v.atomic ∷ v.cycles_remaining ∷ [])))

unfoldable pub slot_part : Option SlotView → List ℕ
slot_part o = part 17 slot_bytes o

unfoldable pub stage_bytes : StageView → List ℕ
stage_bytes v = role_number v.role ∷ slot_part v.slot

unfoldable pub kind_bytes : UnitView → List ℕ
kind_bytes v =
    number_bytes v.capacity
    ++ (number_bytes v.active ++ (slot_part v.first ++ (class_number v.latency_class ∷ v.latency ∷ [])))

unfoldable pub wait_bytes : TraceView → List ℕ
wait_bytes v = trace_number v.kind ∷ v.from_stage ∷ v.to_stage ∷ []

unfoldable pub row_bytes : RowView → List ℕ
row_bytes v =
    number_bytes v.id
    ++ (number_bytes v.address
    ++ (class_number v.class ∷ (number_bytes v.first_cycle ++ (v.cells ∷ flag_byte v.atomic ∷ []))))

unfoldable pub cell_bytes : CellView → List ℕ
cell_bytes v = v.label ∷ state_number v.state ∷ role_number v.role ∷ []

unfoldable pub index_part : Option ℕ → List ℕ
index_part o = part 2 byte_of o

unfoldable pub operand_bytes : OperandView → List ℕ
operand_bytes v = v.register ∷ index_part v.producer

unfoldable pub operand_part : Option OperandView → List ℕ
operand_part o = part 4 operand_bytes o

unfoldable pub station_bytes : StationView → List ℕ
station_bytes v =
    v.unit
    ∷ (index_part v.tag
    ++ (slot_part v.slot ++ (entry_number v.phase ∷ (operand_part v.operand_0 ++ operand_part v.operand_1))))

unfoldable pub claim_bytes : ℕ × ℕ → List ℕ
claim_bytes p = p.0 ∷ p.1 ∷ []

unfoldable pub text_bytes : Text → List ℕ
text_bytes t = number_bytes (length t) ++ t

-- All of these unfold where a line says `unfolding laying`.
unfoldable pub laying : Unit {0}
unfolding number_bytes flag_byte pad optional optional_length part offer_bytes status_bytes stats_bytes edge_bytes
    hazard_byte slot_bytes slot_part stage_bytes kind_bytes wait_bytes row_bytes cell_bytes index_part operand_bytes operand_part station_bytes
    claim_bytes text_bytes
laying = tt
