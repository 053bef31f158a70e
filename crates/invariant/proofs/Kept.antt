-- The same facts in five parts, as the proofs go: each is true of a new engine, and kept by every call.
use Prim.Native.Nat.{ℕ}
use native.Mathlib.Omega.{arith}
use mathlib.Core.Path.{◌≡◌, refl}
use Rattle.std.specs.Prelude.{Option, None, Some}
use Rattle.laws.specs.Optional.{when_some}
use Rattle.model.specs.Calls.{Call, after, calls, refusal, run, make_refusal}
use Rattle.model.specs.Config.{PipelineShape, machine_of}
use Rattle.model.specs.Registers.{registers}
use Rattle.model.specs.State.{State, engine, new}
use Rattle.invariant.proofs.Entries.{Flight}
use Rattle.invariant.proofs.Flight.{flight-new, flight-run}
use Rattle.invariant.proofs.Front.{Front, front-made, front-run}
use Rattle.invariant.proofs.NameCount.{NamesFew, names_few-run}
use Rattle.invariant.proofs.Sizes.{Sizes, sizes-made, sizes_run, units-count}
use Rattle.invariant.proofs.Taken.{make-taken}
use Rattle.invariant.proofs.UnitSteps.{LocalsIn, locals-built, locals-run}

pub record Kept (s : State) : Type 0 where
  -- Claims, waits, ages, marks, the queue's numbers, the offer.
  pub flight : Flight s
  -- Each unit by itself.
  pub local : LocalsIn s
  -- Numbers, rows and sizes.
  pub sizes : Sizes s
  -- Invitations, the wait list, the flags.
  pub front : Front s
  -- Names known and queued.
  pub names : NamesFew s

pub kept-after : (s : State) (c : Call) → Kept s → Kept (after s c)
unfolding calls
kept-after s c h = go (refusal s c) refl
  where
    go : (o : Option ℕ) → refusal s c ≡ o → Kept (when_some o (run s c) (λ (n : ℕ). s))
    go None p =
        record {
          flight = flight-run s c p h.sizes.few h.flight;
          local = locals-run s c p h.flight h.sizes h.front h.local;
          sizes = sizes_run s c p h.front.room h.sizes;
          front = front-run s c p (units-count s h.sizes.built.0 h.sizes.built.1).1 h.flight h.front;
          names = names_few-run s c p h.names;
        }
    go (Some n) p = h

pub kept-made : (d : PipelineShape) (entry lent : ℕ) → make_refusal d lent ≡ None → Kept (new d entry)
unfolding engine registers calls
kept-made d entry lent p =
    let z = sizes-made d entry (make-taken d lent p) in
    record {
      flight = flight-new d entry;
      local = locals-built _ 0 None (machine_of d).specs (omega arith) z.kinds.sum_few;
      sizes = z;
      front = front-made d entry;
      names = omega arith;
    }
