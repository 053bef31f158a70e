-- What operations in flight mean to the model as views show them.
use Rattle.flight.specs.declared.Queued.{Queued}
use Rattle.units.specs.declared.Unit.{Unit as Slot}
use Rattle.std.specs.Prelude.{ℕ, Bool, false, List, [], ltb, Option, None, IfSome, option_map}
use Rattle.laws.specs.Optional.{when_some}
use Rattle.model.specs.Config.{Machine}
use Rattle.model.specs.Op.{Op}
use Rattle.model.specs.Units.{FunctionalUnit}
use Rattle.model.specs.State.{no_stats, marks, offer_of, front_of, log_of, State, state}
use Rattle.model.specs.Views.{SlotView}
use Rattle.flight.specs.View.{Legend, view_queued, QueuedOk}
use Rattle.units.specs.View.{view_unit, UnitOk}
use Rattle.occupants.specs.declared.PipelineSlotView.{PipelineSlotView}

-- An engine of this machine, these units and this queue, with unit `writing` on offer. The views that take these parts read
-- nothing else.
abbrev pub with_offered : Option ℕ → Machine → List FunctionalUnit → List Op → State
with_offered writing m us q =
    state m us q [] [] (marks false false) (offer_of writing false) (front_of false false false false false 0 0 0)
    (log_of no_stats [] [] None)

abbrev pub of_parts : Machine → List FunctionalUnit → List Op → State
of_parts m us q = with_offered None m us q

-- ── An operation, a unit ────────────────────────────────────────────────────

abbrev pub view_maybe_op : Legend → Option Queued → Option Op
view_maybe_op g m = option_map (view_queued g) m

abbrev pub view_maybe_unit : Legend → Option Slot → Option FunctionalUnit
view_maybe_unit g m = option_map (view_unit g) m

abbrev pub MaybeOpOk : Option Queued → Type 0
MaybeOpOk m = IfSome m QueuedOk

abbrev pub MaybeUnitOk : Option Slot → Type 0
MaybeUnitOk m = IfSome m UnitOk

unfoldable pub view_slot : PipelineSlotView → SlotView
view_slot v =
    record {
      address = v.address;
      class = v.class;
      bubble = v.bubble;
      speculative = v.speculative;
      predicted_taken = v.predicted_taken;
      hazard = v.hazard;
      atomic = v.atomic;
      cycles_remaining = v.cycles_remaining;
    }

-- Older than a number.
abbrev pub is_before : ℕ → Op → Bool
is_before n o = ltb o.core.seq n

-- An operation's address, or another.
abbrev pub address_or : ℕ → Option Op → ℕ
address_or a o = when_some o a (λ (p : Op). p.core.decoded.address)

-- All of these unfold where a line says `unfolding occupied`.
unfoldable pub occupied : Unit {0}
unfolding view_slot
occupied = tt
