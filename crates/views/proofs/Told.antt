-- What a text request says of the engine, from what was written to the buffer.
use Prim.Native.Nat.{ℕ}
use mathlib.Core.Path.{◌≡◌, refl, sym, ap, ◌∙◌}
use mathlib.Core.Bool.{Bool, true, false, cond}
use Rattle.std.specs.Prelude.{Option, None, Some, slice_get}
use mathlib.Core.List.{List}
use lib.ListN.{length}
use Rattle.laws.specs.Optional.{when_some}
use Rattle.model.specs.State.{State}
use Rattle.model.specs.Op.{Op}
use Rattle.model.specs.Write.{offered_op}
use Rattle.model.specs.Views.{oldest_in, stage_ops, stage_op, working}
use Rattle.model.specs.Requests.{
  Place,
  in_queue,
  in_station,
  in_stage,
  in_unit,
  on_offer,
  op_at,
  Field,
  field,
  Request,
  slot_text,
  stage_name,
  stage_names,
  text_at,
  short_for,
  buffer_with,
}
use Rattle.model.specs.Calls.{first_of, checks, refusal, buffer_after}
use Rattle.flight.specs.View.{view_queue}
use Rattle.traces.specs.Texts.{Written, written, Wrote}
use Rattle.bank.specs.View.{view_units}
use Rattle.occupants.specs.View.{with_offered}
use Rattle.board.specs.declared.Board.{Board}
use Rattle.board.specs.View.{Frame, view_board}
use Rattle.words.proofs.Shown.{wrote-is}

-- ── The answer, and the buffer after it ─────────────────────────────────────

-- One check: refused where it holds.
one-check : {A : Type 0} (n : ℕ) (b : Bool) (x y : A) → cond b y x ≡ when_some (cond b (Some n) None) x (λ (k : ℕ). y)
one-check n true x y = refl
one-check n false x y = refl

pub buffer_left : (s : State) (t : Request) (lent : List ℕ)
    → buffer_after s t lent ≡ cond (short_for (length lent) (text_at s t)) lent (buffer_with (text_at s t) lent)
unfolding buffer_after refusal checks first_of
buffer_left s t lent = sym (one-check 13 (short_for (length lent) (text_at s t)) (buffer_with (text_at s t) lent) lent)

module _ {lent out : List ℕ} {r : Written} where
  pub told : (s : State) (t : Request) → Wrote (text_at s t) lent out r
      → (r ≡ written (length lent) (text_at s t)) × (out ≡ buffer_after s t lent)
  unfolding buffer_after refusal checks first_of
  told s t w = (w.is, w.buffer ∙ one-check 13 (short_for (length lent) (text_at s t)) (buffer_with (text_at s t) lent) lent)

  -- The name of a stage is that of any engine.
  pub told-stage : (i : ℕ) → Wrote (slice_get stage_names i) lent out r
      → (r ≡ written (length lent) (slice_get stage_names i)) × ((s : State) → out ≡ buffer_after s (stage_name i) lent)
  unfolding text_at
  told-stage i w = (w.is, λ s. (told s (stage_name i) w).1)

-- ── The operation at a place ────────────────────────────────────────────────

module _ (f : Frame) (b : Board) where
  -- The parts of a board that tell it.
  abbrev parts : State
  parts = with_offered b.offer.writing f.machine (view_units f.legend b.units) (view_queue f.legend b.queue)

  place-parts : (p : Place) → op_at parts p ≡ op_at (view_board f b) p
  unfolding op_at view_board stage_op stage_ops oldest_in working offered_op
  place-parts (in_queue i) = refl
  place-parts (in_station i) = refl
  place-parts (in_stage i) = refl
  place-parts (in_unit i) = refl
  place-parts on_offer = refl

  pub slot_told : (p : Place) (a : Field) {o : Option Op} {lent out : List ℕ} {r : Written} → o ≡ op_at parts p
      → Wrote (when_some o None (λ (q : Op). field q.info a)) lent out r
      → Wrote (text_at (view_board f b) (slot_text p a)) lent out r
  unfolding text_at
  slot_told p a e = wrote-is (ap (λ w. when_some w None (λ (q : Op). field q.info a)) (e ∙ place-parts p))
