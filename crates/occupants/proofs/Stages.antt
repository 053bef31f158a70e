-- The occupant of a stage.
use Rattle.flight.specs.declared.Queued.{Queued}
use Rattle.units.specs.declared.Unit.{Unit}
use Prim.Native.Nat.{ℕ, ◌≤◌}
use mathlib.Core.Path.{◌≡◌, sym, ap, ◌∙◌}
use Rattle.std.specs.Prelude.{Option, None, option_map, slice_get}
use Rattle.laws.specs.Optional.{when_some}
use Rattle.laws.specs.Means.{MeansFor}
use Rattle.laws.proofs.Slices.{head-nth, nth_end}
use Rattle.capability.specs.declared.Phase.{Phase}
use Rattle.capability.specs.declared.Phase.TheVariants.{Wait, Read, Execute, Write}
use Rattle.model.specs.Config.{Machine}
use Rattle.model.specs.Op.{Op}
use Rattle.model.specs.Units.{in_phase, unit_op}
use Rattle.model.specs.State.{State}
use Rattle.model.specs.Views.{oldest, oldest_in, stage_ops, stage_op}
use Rattle.flight.specs.declared.Queue.{Queue}
use Rattle.flight.specs.View.{Legend, view_queue}
use Rattle.bank.specs.declared.Units.{Units}
use Rattle.bank.specs.View.{view_units}
use Rattle.occupants.specs.View.{of_parts, view_maybe_op, view_maybe_unit, MaybeOpOk, MaybeUnitOk}

-- Stage i is that of units in phase p.
abbrev pub Shows : ℕ → Phase → Type 0
Shows i p = (s : State) → stage_op s i ≡ oldest_in p s

module _ {i : ℕ} where
  pub shows-wait : i ≡ 1 → Shows i Wait
  unfolding stage_op stage_ops
  shows-wait e s = ap (stage_op s) e

  pub shows-read : i ≡ 2 → Shows i Read
  unfolding stage_op stage_ops
  shows-read e s = ap (stage_op s) e

  pub shows-execute : i ≡ 3 → Shows i Execute
  unfolding stage_op stage_ops
  shows-execute e s = ap (stage_op s) e

  pub shows-write : i ≡ 4 → Shows i Write
  unfolding stage_op stage_ops
  shows-write e s = ap (stage_op s) e

module _ (m : Machine) (us : Units) (q : Queue) (i : ℕ) where
  -- What the result is to mean.
  abbrev shown : Legend → Option Op
  shown g = stage_op (of_parts m (view_units g us) (view_queue g q)) i

  module _ {r : Option Queued} where
    pub stage-front : i ≡ 0 → MeansFor view_maybe_op MaybeOpOk r (λ g. slice_get (view_queue g q) 0) → MeansFor view_maybe_op MaybeOpOk r shown
    unfolding stage_op stage_ops
    stage-front e h =
        record {
          is = λ g. h.is g ∙ sym (head-nth (view_queue g q)) ∙ sym (ap (stage_op (of_parts m (view_units g us) (view_queue g q))) e);
          ok = h.ok;
        }

    pub stage-held : (p : Phase) {u : Option Unit} → Shows i p
        → MeansFor view_maybe_unit MaybeUnitOk u (λ g. oldest (in_phase p) (view_units g us))
        → MeansFor view_maybe_op MaybeOpOk r (λ g. option_map unit_op (view_maybe_unit g u))
        → MeansFor view_maybe_op MaybeOpOk r shown
    unfolding oldest_in
    stage-held p f e h =
        record {
          is = λ g. h.is g ∙ ap (option_map unit_op) (e.is g) ∙ sym (f (of_parts m (view_units g us) (view_queue g q)));
          ok = h.ok;
        }

  -- There are five.
  pub stage-past : 5 ≤ i → MeansFor view_maybe_op MaybeOpOk None shown
  unfolding stage_op stage_ops
  stage-past l =
      record {
        is = λ g.
            sym (ap (λ (o : Option (Option Op)). when_some o None (λ (x : Option Op). x)) (nth_end (stage_ops (of_parts m (view_units g us) (view_queue g q))) {i = i} l));
        ok = tt;
      }
