-- Sizes and numbers, after every call: the machine, its units, the queue, the timeline, the counters.
use Prim.Native.Nat.{ℕ, zero, suc, ◌+◌, ◌-◌, max, ◌≤◌, ◌<◌}
use native.Mathlib.Omega.{arith}
use mathlib.Core.Path.{◌≡◌, refl, sym, ◌∙◌, ap, subst}
use mathlib.Core.Bool.{Bool, true, false}
use Rattle.std.specs.Prelude.{Option, None, Some, slice_get}
use mathlib.Core.List.{List, [], ◌∷◌, ◌++◌, map}
use lib.ListN.{length, length-append}
use Rattle.laws.specs.Lists.{All, find_at, modify}
use Rattle.std.specs.List.{list_any}
use Rattle.laws.specs.Numbers.{max64, saturating_add}
use Rattle.laws.specs.Optional.{value_or}
use Rattle.laws.specs.Texts.{texts}
use Rattle.laws.proofs.Maps.{length-of}
use Rattle.capability.specs.declared.PipelineStageRole.{PipelineStageRole}
use Rattle.model.specs.Calls.{bad_spec_name, extra_overflows, Call, advance as advance-call, calls, capacity, cell, fault as fault-call, fetch, halt as halt-call, overlap, redirect, refusal, reset, resolve as resolve-call, retire as retire-call, retry as retry-call, run, start, text, view}
use Rattle.model.specs.Config.{Machine, PipelineShape, UnitSpec, at_least_one, capacities, config, is_execute, queue_depth, specs_or_generic, with_capacity}
use Rattle.model.specs.Op.{Given, operation}
use Rattle.model.specs.Scoreboard.{advance, fetched, fetched_op, rebuilt, reset_to, scoreboard, set_capacity, with_noted}
use Rattle.model.specs.State.{State, engine, new}
use Rattle.model.specs.Timeline.{row_of, Row, open_row}
use Rattle.model.specs.Units.{FunctionalUnit, build_units, idle_unit, instances, is_busy, units}
use Rattle.model.specs.Write.{retire, retry, start_cycle, writing}
use Rattle.runs.proofs.Names.{Distinct}
use Rattle.runs.proofs.Tracks.{all_append, all_map, all-modify}
use Rattle.invariant.specs.Invariant.{Built, Consecutive, CountersFit, KindsFit, OperationFits, RowFits, row_ids, unit_place}
use Rattle.invariant.proofs.Lists.{nth-image, nth_after, find-hit, length-modify, nth-short}
use Rattle.invariant.proofs.Counters.{counters-none, sum_few}
use Rattle.invariant.proofs.Timeline.{open-few, open-fits, open-ids}
use Rattle.invariant.proofs.Steps.{Fits, Step, step-advance, step-overlap, step-retire, step-retry, step_start, step-stopped}
use Rattle.invariant.proofs.Taken.{info-texts, FetchTaken, MakeTaken, capacity-taken, fetch-taken, next-number}
use Rattle.invariant.proofs.Flight.{noted}

pub record Sizes (s : State) : Type 0 where
  pub few : s.front.next_seq ≤ max64
  pub level : s.front.next_row ≡ s.front.next_seq
  pub queued : All OperationFits s.queue
  pub short : length s.queue ≤ s.machine.depth
  pub kinds : KindsFit s.machine.specs
  pub built : (ks : List UnitSpec) × Built s ks
  pub deep : (1 ≤ s.machine.depth) × (s.machine.depth ≤ 15)
  pub long : (1 ≤ s.machine.history) × (s.machine.history ≤ 256)
  pub times : extra_overflows s.machine.times ≡ false
  pub distinct : Distinct s.names
  pub names : All Fits s.names
  pub registers : length s.producer ≡ length s.names
  pub ids : Consecutive (row_ids s.log.rows) s.front.next_row
  pub rows_few : length s.log.rows ≤ s.machine.history
  pub rows : All RowFits s.log.rows
  pub counters : CountersFit s.log.stats

-- ── Steps that fetch nothing ────────────────────────────────────────────────

pub sizes_step : (s t : State) → Step s t → Sizes s → Sizes t
sizes_step s t m h =
    let e = sym m.machine in
    let long : length (row_ids t.log.rows) ≡ length (row_ids s.log.rows) = ap length m.ids in
    let d : t.machine.depth ≡ s.machine.depth = ap (λ (x : Machine). x.depth) m.machine in
    let y : t.machine.history ≡ s.machine.history = ap (λ (x : Machine). x.history) m.machine in
    record {
      few = omega (arith, m.next_seq, h.few);
      level = m.next_row ∙ h.level ∙ sym m.next_seq;
      queued = m.queued h.queued;
      short = omega (arith, m.shorter, h.short, d);
      kinds = subst (λ (x : Machine). KindsFit x.specs) e h.kinds;
      built = (
        h.built.0,
        record {
          kinds_fit = h.built.1.kinds_fit;
          same_kinds = h.built.1.same_kinds ∙ ap (λ (x : Machine). map (with_capacity 1) x.specs) e;
          same_places = m.places ∙ h.built.1.same_places;
        },
      );
      deep = subst (λ (x : Machine). (1 ≤ x.depth) × (x.depth ≤ 15)) e h.deep;
      long = subst (λ (x : Machine). (1 ≤ x.history) × (x.history ≤ 256)) e h.long;
      times = subst (λ (x : Machine). extra_overflows x.times ≡ false) e h.times;
      distinct = m.distinct h.distinct;
      names = m.names h.queued h.names;
      registers = m.registers h.registers;
      ids =
          subst (λ (z : ℕ). Consecutive (row_ids t.log.rows) z) (sym m.next_row)
          (subst (λ (z : List ℕ). Consecutive z s.front.next_row) (sym m.ids) h.ids);
      rows_few =
          omega (
            arith,
            h.rows_few,
            y,
            long,
            length-of (λ (r : Row). r.id) t.log.rows,
            length-of (λ (r : Row). r.id) s.log.rows,
          );
      rows = m.rows h.rows;
      counters = m.counters h.counters;
    }

-- ── Kinds and units ─────────────────────────────────────────────────────────

-- Units built are as many as the capacities say.
instances-length : (spec i n : ℕ) → length (instances spec i n) ≡ n
unfolding units
instances-length spec i zero = refl
instances-length spec i (suc n) = ap suc (instances-length spec (suc i) n)

built-length : (spec : ℕ) (ks : List UnitSpec) → length (build_units spec ks) ≡ capacities ks
unfolding config units
built-length spec [] = refl
built-length spec (k ∷ ks) =
    omega (
      arith,
      length-append (instances spec 0 k.capacity) (build_units (suc spec) ks),
      instances-length spec 0 k.capacity,
      built-length (suc spec) ks,
    )

-- There is a unit for each kind at least.
capacity-long : (ks : List UnitSpec) → All (λ (k : UnitSpec). 1 ≤ k.capacity) ks → length ks ≤ capacities ks
unfolding config
capacity-long [] h = omega arith
capacity-long (k ∷ ks) h = omega (arith, h.0, capacity-long ks h.1)

pub units-count : (s : State) (ks : List UnitSpec) → Built s ks → (1 ≤ length s.units) × (length s.units ≤ 64)
units-count s ks h =
    let e : length (map unit_place s.units) ≡ length (map unit_place (build_units 0 ks)) = ap length h.same_places in
    let n : length s.units ≡ capacities ks
    = sym (length-of unit_place s.units) ∙ e ∙ length-of unit_place (build_units 0 ks) ∙ built-length 0 ks in
    let k = h.kinds_fit in (
      omega (arith, n, k.some_kind, capacity-long ks k.each_capacity),
      omega (arith, n, k.sum_few),
    )

-- Each kind has a unit.
built-has
    : (spec : ℕ) (ks : List UnitSpec) → All (λ (k : UnitSpec). 1 ≤ k.capacity) ks → (k : ℕ) → k < length ks
    → (i : ℕ) × (u : FunctionalUnit) × (slice_get (build_units spec ks) i ≡ Some u) × (u.spec ≡ spec + k)
unfolding units
built-has spec [] h k l = absurd (omega arith)
built-has spec (x ∷ ks) h zero l = go x.capacity h.0
  where
    go
        : (c : ℕ) → 1 ≤ c
        → (i : ℕ) × (u : FunctionalUnit) × (slice_get (instances spec 0 c ++ build_units (suc spec) ks) i ≡ Some u) × (u.spec ≡ spec + 0)
    go zero e = absurd (omega arith)
    go (suc c) e = (0, idle_unit spec 0, refl, omega arith)
built-has spec (x ∷ ks) h (suc k) l =
    let w = built-has (suc spec) ks h.1 k (omega arith) in
    let j = nth_after (instances spec 0 x.capacity) (build_units (suc spec) ks) w.0 w.1 w.2 in
    (j.0, w.1, j.1, omega (arith, w.3))

pub kind-unit
    : (s : State) (ks : List UnitSpec) → Built s ks → (k : ℕ) → k < length s.machine.specs
    → (i : ℕ) × (u : FunctionalUnit) × (slice_get s.units i ≡ Some u) × (u.spec ≡ k)
kind-unit s ks b k l =
    let same : length (map (with_capacity 1) ks) ≡ length (map (with_capacity 1) s.machine.specs) = ap length b.same_kinds in
    let w =
    built-has 0 ks b.kinds_fit.each_capacity k
    (omega (arith, l, same, length-of (with_capacity 1) ks, length-of (with_capacity 1) s.machine.specs)) in
    let x = nth-image unit_place s.units (build_units 0 ks) w.0 w.1 b.same_places w.2 in
    (w.0, x.0, x.1, omega (arith, w.3, ap (λ (p : ℕ × ℕ). p.0) x.2))

same_noted : (m i : ℕ) (ks : List UnitSpec) → map (with_capacity 1) (modify i (with_capacity m) ks) ≡ map (with_capacity 1) ks
unfolding modify
same_noted m i [] = refl
same_noted m zero (k ∷ ks) = refl
same_noted m (suc i) (k ∷ ks) = ap (λ (l : List UnitSpec). with_capacity 1 k ∷ l) (same_noted m i ks)

kinds-noted
    : (m i : ℕ) (ks : List UnitSpec) → capacities (modify i (with_capacity m) ks) ≤ 64 → KindsFit ks
    → KindsFit (modify i (with_capacity m) ks)
unfolding calls
kinds-noted m i ks c h =
    let e = length-modify (with_capacity m) i ks in
    record {
      some_kind = omega (arith, e, h.some_kind);
      few_kinds = omega (arith, e, h.few_kinds);
      each_capacity =
          all-modify (λ (k : UnitSpec). 1 ≤ k.capacity) i (with_capacity m) (λ k x. omega arith) ks h.each_capacity;
      sum_few = c;
      names_fit = all-modify (λ (k : UnitSpec). bad_spec_name k ≡ false) i (with_capacity m) (λ k x. x) ks h.names_fit;
    }

sizes-noted
    : (k m : ℕ) (s : State) (us : List FunctionalUnit) → KindsFit (with_noted k m s) → (l : List UnitSpec) × Built (noted k m s us) l
    → Sizes s → Sizes (noted k m s us)
sizes-noted k m s us f b h =
    record {
      few = h.few;
      level = h.level;
      queued = h.queued;
      short = h.short;
      kinds = f;
      built = b;
      deep = h.deep;
      long = h.long;
      times = h.times;
      distinct = h.distinct;
      names = h.names;
      registers = h.registers;
      ids = h.ids;
      rows_few = h.rows_few;
      rows = h.rows;
      counters = h.counters;
    }

sizes-capacity : (k m : ℕ) (s : State) → capacities (with_noted k m s) ≤ 64 → Sizes s → Sizes (set_capacity k m s)
unfolding scoreboard
sizes-capacity k m s c h = go (list_any is_busy s.units) (kinds-noted m k s.machine.specs c h.kinds)
  where
    go : (b : Bool) → KindsFit (with_noted k m s) → Sizes (noted k m s (rebuilt b (with_noted k m s) s.units))
    go true f =
        let b = h.built.1 in
        sizes-noted k m s s.units f (
          h.built.0,
          record {
            kinds_fit = b.kinds_fit;
            same_kinds = b.same_kinds ∙ sym (same_noted m k s.machine.specs);
            same_places = b.same_places;
          },
        )
        h
    go false f =
        sizes-noted k m s (build_units 0 (with_noted k m s)) f
        (with_noted k m s, record { kinds_fit = f; same_kinds = refl; same_places = refl }) h

-- ── A fetch, and a reset ────────────────────────────────────────────────────

fetched-fits : (g : Given) (s : State) → FetchTaken s g → s.front.next_row ≡ s.front.next_seq → OperationFits (fetched_op g s)
unfolding scoreboard operation config
fetched-fits g s a e =
    record {
      row_is_number = e;
      cycles_few = omega arith;
      predicted_few = omega arith;
      sources_few = a.sources;
      writes_few = a.writes;
      texts_fit = a.texts;
    }

sizes-fetched
    : (g : Given) (s : State) → FetchTaken s g → length s.queue < s.machine.depth → Sizes s → Sizes (fetched g s)
unfolding scoreboard
sizes-fetched g s a l h =
    let n = s.front.next_seq in
    let r = s.front.next_row in
    let more : saturating_add n 1 ≡ suc n = next-number n h.few a.number in
    let more-r : saturating_add r 1 ≡ suc r = ap (λ (z : ℕ). saturating_add z 1) h.level ∙ more ∙ ap suc (sym h.level) in
    let row = row_of r g.decoded.address g.info.disassembly g.decoded.class s.log.stats.cycles g.decoded.atomic 0 1 in
    let fit : RowFits row
    = record {
      text_fits = (info-texts g.info a.texts).0;
      cells_some = omega arith;
      cells_few = omega arith;
      oldest_few = omega arith;
      first_few = h.counters.cycles_few;
    } in
    record {
      few = sum_few n 1;
      level = ap (λ (z : ℕ). saturating_add z 1) h.level;
      queued = all_append OperationFits s.queue (fetched_op g s ∷ []) h.queued (fetched-fits g s a h.level, tt);
      short = omega (arith, length-append s.queue (fetched_op g s ∷ []), l);
      kinds = h.kinds;
      built = (
        h.built.0,
        record {
          kinds_fit = h.built.1.kinds_fit;
          same_kinds = h.built.1.same_kinds;
          same_places = h.built.1.same_places;
        },
      );
      deep = h.deep;
      long = h.long;
      times = h.times;
      distinct = h.distinct;
      names = h.names;
      registers = h.registers;
      ids =
          subst (λ (z : ℕ). Consecutive (row_ids (open_row s.machine.history row s.log.rows)) z)
          (sym more-r) (open-ids s.machine.history row s.log.rows h.ids);
      rows_few = open-few s.machine.history row s.log.rows;
      rows = open-fits s.machine.history row s.log.rows fit h.rows;
      counters = h.counters;
    }

sizes-reset : (a : ℕ) (k : Bool) (s : State) → Sizes s → Sizes (reset_to a k s)
unfolding scoreboard
sizes-reset a true s h =
    record {
      few = h.few;
      level = h.level;
      queued = tt;
      short = omega arith;
      kinds = h.kinds;
      built = (s.machine.specs, record { kinds_fit = h.kinds; same_kinds = refl; same_places = refl });
      deep = h.deep;
      long = h.long;
      times = h.times;
      distinct = tt;
      names = tt;
      registers = refl;
      ids = h.ids;
      rows_few = h.rows_few;
      rows = h.rows;
      counters = h.counters;
    }
sizes-reset a false s h =
    record {
      few = omega arith;
      level = refl;
      queued = tt;
      short = omega arith;
      kinds = h.kinds;
      built = (s.machine.specs, record { kinds_fit = h.kinds; same_kinds = refl; same_places = refl });
      deep = h.deep;
      long = h.long;
      times = h.times;
      distinct = tt;
      names = tt;
      registers = refl;
      ids = tt;
      rows_few = omega arith;
      rows = tt;
      counters = counters-none;
    }

-- ── Making ──────────────────────────────────────────────────────────────────

kinds-made : (d : PipelineShape) → MakeTaken d → KindsFit (specs_or_generic d.units)
unfolding config calls texts
kinds-made d t = go d.units t.kinds t.capacity t.names
  where
    go
        : (ks : List UnitSpec) → length ks ≤ 16 → capacities (specs_or_generic ks) ≤ 64 → All (λ (k : UnitSpec). bad_spec_name k ≡ false) ks
        → KindsFit (specs_or_generic ks)
    go [] a b f =
        record {
          some_kind = omega arith;
          few_kinds = omega arith;
          each_capacity = (omega arith, tt);
          sum_few = b;
          names_fit = (refl, tt);
        }
    go (k ∷ ks) a b f =
        record {
          some_kind = omega arith;
          few_kinds = omega (arith, length-of at_least_one ks);
          each_capacity =
              all_map (λ (x : UnitSpec). bad_spec_name x ≡ false) (λ (x : UnitSpec). 1 ≤ x.capacity) at_least_one (λ x u. omega arith) (k ∷ ks) f;
          sum_few = b;
          names_fit =
              all_map (λ (x : UnitSpec). bad_spec_name x ≡ false) (λ (x : UnitSpec). bad_spec_name x ≡ false) at_least_one (λ x u. u) (k ∷ ks) f;
        }

depth-made : (stages : List PipelineStageRole) → length stages ≤ 16 → (1 ≤ queue_depth stages) × (queue_depth stages ≤ 15)
unfolding config
depth-made stages h = (omega arith, go (find_at is_execute 0 stages) refl)
  where
    go : (o : Option ℕ) → find_at is_execute 0 stages ≡ o → max 1 (value_or (length stages - 1) o) ≤ 15
    go None e = omega arith
    go (Some k) e =
        let w = find-hit is_execute 0 stages k e in omega (arith, w.1, nth-short stages w.0 w.2.0 w.2.1)

pub sizes-made : (d : PipelineShape) (entry : ℕ) → MakeTaken d → Sizes (new d entry)
unfolding engine config
sizes-made d entry t =
    record {
      few = omega arith;
      level = refl;
      queued = tt;
      short = omega arith;
      kinds = kinds-made d t;
      built = (specs_or_generic d.units, record { kinds_fit = kinds-made d t; same_kinds = refl; same_places = refl });
      deep = depth-made d.stages t.stages;
      long = (omega arith, omega (arith, t.history));
      times = t.times;
      distinct = tt;
      names = tt;
      registers = refl;
      ids = tt;
      rows_few = omega arith;
      rows = tt;
      counters = counters-none;
    }

-- ── Every call ──────────────────────────────────────────────────────────────

pub sizes_run
    : (s : State) (c : Call) → refusal s c ≡ None → (s.front.invited ≡ true → length s.queue < s.machine.depth) → Sizes s
    → Sizes (run s c)
unfolding calls scoreboard writing
sizes_run s start p v h = sizes_step s (start_cycle s) (step_start s) h
sizes_run s retire-call p v h = sizes_step s (retire s) (step-retire s) h
sizes_run s (retry-call x) p v h = sizes_step s (retry x s) (step-retry x s) h
sizes_run s (resolve-call a) p v h = h
sizes_run s (advance-call r ml) p v h = sizes_step s (advance r s) (step-advance r s) h
sizes_run s (fetch g ml) p v h = let a = fetch-taken s g ml p in sizes-fetched g s a (v a.invited) h
sizes_run s (capacity k m) p v h = sizes-capacity k m s (capacity-taken s k m p).1 h
sizes_run s (overlap b) p v h = sizes_step s (run s (overlap b)) (step-overlap b s) h
sizes_run s halt-call p v h = sizes_step s (run s halt-call) (step-stopped true false _ s) h
sizes_run s (fault-call x) p v h = sizes_step s (run s (fault-call x)) (step-stopped false true x s) h
sizes_run s (reset a ml) p v h = sizes-reset a false s h
sizes_run s (redirect a) p v h = sizes-reset a true s h
sizes_run s (view v) p w h = h
sizes_run s (text t m) p v h = h
sizes_run s (cell i j ml) p v h = h
