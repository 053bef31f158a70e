-- How many bytes each part has, and a part that is padded.
use Prim.Native.Nat.{ℕ, suc, ◌+◌, ◌-◌, ◌≤◌}
use mathlib.Core.Path.{◌≡◌, refl, sym, ap, ◌∙◌}
use Rattle.std.specs.Prelude.{Option, None, Some, option_map}
use mathlib.Core.List.{List, ◌∷◌, ◌++◌, append-nil}
use native.Mathlib.Omega.{arith}
use lib.ListN.{length, replicate, length-append, length-replicate}
use Rattle.capability.specs.declared.PipelineHazardKind.{PipelineHazardKind}
use Rattle.model.specs.Views.{SlotView, StageView, UnitView, OperandView, StationView}
use Rattle.answers.specs.Bytes.{
  number_bytes,
  pad,
  optional,
  part,
  hazard_byte,
  byte_of,
  slot_bytes,
  slot_part,
  stage_bytes,
  kind_bytes,
  index_part,
  operand_bytes,
  operand_part,
  station_bytes,
}

-- ── Padded ──────────────────────────────────────────────────────────────────

pub pad-length : {n : ℕ} (l : List ℕ) → length l ≤ n → length (pad n l) ≡ n
unfolding pad
pad-length {n} l h = omega (arith, length-append l (replicate {A = ℕ} (n - length l) 0), length-replicate {A = ℕ} (n - length l) 0)

pub pad-whole : {n : ℕ} (l : List ℕ) → length l ≡ n → pad n l ≡ l
unfolding pad
pad-whole {n} l h = let z : n - length l ≡ 0 = omega arith in ap (λ k. l ++ replicate k 0) z ∙ append-nil l

-- By its flag.
module _ {A : Type 0} (n : ℕ) (f : A → List ℕ) where
  pub part_there : {o : Option A} {a : A} → o ≡ Some a → length (f a) ≡ n → part (1 + n) f o ≡ 1 ∷ f a
  unfolding part optional
  part_there {a = a} e h = ap (part (1 + n) f) e ∙ pad-whole (1 ∷ f a) (omega (arith, h))

  pub part_none : {o : Option A} → o ≡ None → part (1 + n) f o ≡ replicate (1 + n) 0
  unfolding part optional pad
  part_none e =
      let k : 1 + n ≡ suc n = omega arith in
      let j : suc n - 1 ≡ n = omega arith in
      ap (part (1 + n) f) e ∙ ap (λ i. 0 ∷ replicate (i - 1) 0) k ∙ ap (λ i. 0 ∷ replicate i 0) j ∙ ap (λ i. replicate i 0) (sym k)

-- Of what a view shows.
pub part_map : {A B : Type 0} (n : ℕ) (f : B → List ℕ) (view : A → B) (o : Option A) → part n f (option_map view o) ≡ part n (λ a. f (view a)) o
unfolding part optional
part_map n f view None = refl
part_map n f view (Some a) = refl

module _ {A : Type 0} (f : A → List ℕ) (n : ℕ) (size : (x : A) → length (f x) ≡ n) where
  pub optional-most : (o : Option A) → length (optional f o) ≤ suc n
  unfolding optional
  optional-most None = omega arith
  optional-most (Some x) = omega (arith, size x)

  pub part_length : (o : Option A) → length (part (suc n) f o) ≡ suc n
  unfolding part
  part_length o = pad-length (optional f o) (optional-most o)

  pub part-some : (x : A) → part (suc n) f (Some x) ≡ 1 ∷ f x
  unfolding part optional
  part-some x = pad-whole (1 ∷ f x) (ap suc (size x))

pub number-length : (x : ℕ) → length (number_bytes x) ≡ 8
unfolding number_bytes
number-length x = refl

-- ── Parts ───────────────────────────────────────────────────────────────────

pub hazard-length : (o : Option PipelineHazardKind) → length (part 2 hazard_byte o) ≡ 2
unfolding hazard_byte
hazard-length = part_length hazard_byte 1 (λ h. refl)

pub index-length : (o : Option ℕ) → length (index_part o) ≡ 2
unfolding index_part
index-length = part_length byte_of 1 (λ n. refl)

pub slot-length : (v : SlotView) → length (slot_bytes v) ≡ 16
unfolding number_bytes slot_bytes
slot-length v = simp length-append (omega (arith, hazard-length v.hazard))

pub slot_part-length : (o : Option SlotView) → length (slot_part o) ≡ 17
unfolding slot_part
slot_part-length = part_length slot_bytes 16 slot-length

pub stage-length : (v : StageView) → length (stage_bytes v) ≡ 18
unfolding stage_bytes
stage-length v = ap suc (slot_part-length v.slot)

pub kind-length : (v : UnitView) → length (kind_bytes v) ≡ 35
unfolding number_bytes kind_bytes
kind-length v = simp length-append (omega (arith, slot_part-length v.first))

pub operand-length : (v : OperandView) → length (operand_bytes v) ≡ 3
unfolding operand_bytes
operand-length v = ap suc (index-length v.producer)

pub operand_part-length : (o : Option OperandView) → length (operand_part o) ≡ 4
unfolding operand_part
operand_part-length = part_length operand_bytes 3 operand-length

pub station-length : (v : StationView) → length (station_bytes v) ≡ 29
unfolding station_bytes
station-length v =
    simp length-append
    (omega (arith, index-length v.tag, slot_part-length v.slot, operand_part-length v.operand_0, operand_part-length v.operand_1))
