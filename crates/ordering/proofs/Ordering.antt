-- No turn of a run of `forecast` lists a wait for memory order.
use Prim.Native.Nat.{ℕ}
use mathlib.Core.Path.{◌≡◌, refl, sym, ◌∙◌, ap, subst}
use mathlib.Core.Bool.{true, false≢true}
use mathlib.Core.List.{List}
use Rattle.laws.specs.Lists.{All}
use Rattle.laws.specs.Texts.{Text}
use Rattle.model.specs.State.{new}
use Rattle.model.specs.Units.{FunctionalUnit, unit_at}
use Rattle.model.specs.Write.{start_cycle}
use Rattle.model.specs.Calls.{make_memory, overlap, start}
use Rattle.model.specs.Everything.{everything}
use Rattle.model.specs.Forecast.{Lent, Run, cycle, finished, forecast_run, forecast_shape, fuel_for, going, lent_of, line_refused, not_made, play, retire_offer}
use Rattle.invariant.proofs.Lists.{all-at}
use Rattle.ending.specs.Ending.{begun, begun_made}
use Rattle.ending.proofs.Played.{retire-played, start-played, started-open}
use Rattle.ending.proofs.Turn.{Between, cycle-is}
use Rattle.ending.proofs.Ending.{as-run}
use Rattle.ending.proofs.Along.{Along, EngineOf, Keeps, along, along-engine}
use Rattle.ordering.specs.Ordering.{NoneOrders, Ordering, OverwritingWaits, ThirdUnitOrders, waits, waits_of}
use Rattle.ordering.proofs.Ahead.{Quick, free-ahead}
use Rattle.ordering.proofs.Orderly.{Orderly, orderly-fetched}
use Rattle.ordering.proofs.Cycled.{orderly-cycled, retire-waits, start-waits}

-- ── A turn ──────────────────────────────────────────────────────────────────

module _ (input : Text) (e : Lent) (rest : Text) (n : ℕ) (h : Between input e rest n) (o : Orderly e.engine) where
  cycle-orderly : Orderly (cycle e).engine
  cycle-orderly = subst Orderly (sym (cycle-is input e rest n h)) (orderly-cycled e.engine h.invariant h.outside o h.running)

  started : play start e ≡ lent_of (start_cycle e.engine) e.cells
  started = start-played e.engine e.cells h.outside

  turn-start : NoneOrders (waits (play start e))
  turn-start = subst (λ (f : Lent). NoneOrders (waits f)) (sym started) (start-waits e.engine h.invariant h.outside o)

  turn-retire : NoneOrders (waits (retire_offer (play start e)))
  turn-retire =
      let t = start_cycle e.engine in
      subst (λ (f : Lent). NoneOrders (waits f))
      (sym (ap retire_offer started ∙ retire-played t e.cells (started-open e.engine).0 (started-open e.engine).1))
      (retire-waits e.engine h.invariant h.outside o)

-- ── The beginning ───────────────────────────────────────────────────────────

first-orderly : (cells : List ℕ) → Orderly (play (overlap true) (lent_of (new forecast_shape 0) (make_memory forecast_shape cells))).engine
unfolding everything
first-orderly cells =
    record {
      units = free-ahead us refl 0 (unit_at us 0) refl refl (λ i u e. all-at (λ (u : FunctionalUnit). Quick u.class u.op) us i u e quick);
      queue = tt;
      waits = tt;
    }
  where
    us : List FunctionalUnit
    us = (new forecast_shape 0).units

    quick : All (λ (u : FunctionalUnit). Quick u.class u.op) us
    quick = (λ e. absurd (false≢true e), (λ e. absurd (false≢true e), tt))

orderly-keeps : Keeps Orderly
orderly-keeps =
    record { first = first-orderly; cycle = cycle-orderly; fetch = λ g s i j m o. orderly-fetched g s m o }

-- ── The theorem ─────────────────────────────────────────────────────────────

orderly-waits : (r : Run) → EngineOf Orderly r → NoneOrders (waits_of r)
orderly-waits (not_made r m) o = tt
orderly-waits (line_refused n r m) o = tt
orderly-waits (finished e) o = o.waits
orderly-waits (going e rest n) o = o.waits

pub never-orders : (input : Text) (cells : List ℕ) → Ordering input cells
never-orders input cells =
    record {
      between_turns = after;
      at_the_end = subst (λ (r : Run). NoneOrders (waits_of r)) (sym (as-run input cells)) (after (fuel_for input));
      after_start = λ k e rest n q. let g = at k e rest n q in turn-start input e rest n g.0 g.1;
      after_retire = λ k e rest n q. let g = at k e rest n q in turn-retire input e rest n g.0 g.1;
      after_advance = λ k e rest n q. let g = at k e rest n q in (cycle-orderly input e rest n g.0 g.1).waits;
    }
  where
    after : (k : ℕ) → NoneOrders (waits_of (forecast_run k (begun input cells)))
    after k =
        let r = forecast_run k (begun input cells) in
        orderly-waits r (along-engine Orderly input r (along Orderly orderly-keeps input cells k))

    at
        : (k : ℕ) (e : Lent) (rest : Text) (n : ℕ) → forecast_run k (begun input cells) ≡ going e rest n
        → Along Orderly input (going e rest n)
    at k e rest n q = subst (Along Orderly input) q (along Orderly orderly-keeps input cells k)

pub overwriting-waits : OverwritingWaits
unfolding everything begun begun_made
overwriting-waits = refl

pub third-unit-orders : ThirdUnitOrders
unfolding everything
third-unit-orders = refl
