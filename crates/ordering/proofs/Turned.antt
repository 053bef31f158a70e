-- Where the older of two loads or stores is ahead, no finished unit is turned away for memory order.
use Prim.Native.Nat.{ℕ, suc, ◌+◌, ◌≤◌}
use native.Mathlib.Omega.{arith}
use mathlib.Core.Path.{◌≡◌, refl, sym, ◌∙◌, ap, subst}
use mathlib.Core.Bool.{Bool, true, false, cond, not, ◌&&◌}
use Rattle.std.specs.Prelude.{Option, None, Some, slice_get, option_map}
use mathlib.Core.List.{List, [], ◌∷◌, map}
use lib.Dec.{eqb, ltb}
use borrow.Author.Tests.{eqb-true, ltb-true}
use Rattle.laws.specs.Lists.{All, any_at, find_at}
use Rattle.laws.specs.Numbers.{max64}
use Rattle.laws.specs.Optional.{value_or}
use Rattle.std.specs.Option.{option_or}
use Rattle.laws.specs.Texts.{Text}
use Rattle.laws.proofs.Choices.{none-some, some_inj}
use Rattle.capability.specs.Numbers.{numbers, phase_number}
use Rattle.capability.specs.declared.Phase.{Phase}
use Rattle.capability.specs.declared.Phase.TheVariants.{Execute, Read, Wait, Write}
use Rattle.model.specs.Config.{is_memory, is_system}
use Rattle.model.specs.Traces.{Trace}
use Rattle.model.specs.Units.{FunctionalUnit, idle_unit, in_phase, seq_of, unit_at, units}
use Rattle.model.specs.Write.{Blocked, blocked_detail, blocked_trace, drain, drain_blocked, insert, memory, memory_blocked, older_memory, other_busy, ready_at, reads, try_one, try_writes, war, war_reader, writable_unit, write_blocked, writing}
use Rattle.runs.proofs.Tracks.{all_map}
use Rattle.invariant.proofs.Bools.{and_both}
use Rattle.invariant.proofs.Lists.{find-hit}
use Rattle.ending.proofs.Work.{phase-work, unit-work}
use Rattle.ordering.specs.Ordering.{NoneOrders, orders_memory}
use Rattle.ordering.proofs.Ahead.{Access, Ahead}

-- ── The units that are tried ────────────────────────────────────────────────

all_insert : (P : ℕ × ℕ → Type 0) (p : ℕ × ℕ) (qs : List (ℕ × ℕ)) → P p → All P qs → All P (insert p qs)
unfolding writing
all_insert P p [] a h = (a, tt)
all_insert P p (q ∷ qs) a h = go (ltb q.0 p.0) (all_insert P p qs a h.1)
  where
    go : (b : Bool) → All P (insert p qs) → All P (cond b (q ∷ insert p qs) (p ∷ q ∷ qs))
    go true k = (h.0, k)
    go false k = (a, h)

-- What holds of each finished unit.
all_ready
    : (P : ℕ × ℕ → Type 0) (i : ℕ) (us : List FunctionalUnit)
    → ((m : ℕ) (u : FunctionalUnit) → slice_get us m ≡ Some u → in_phase Write u ≡ true → P (seq_of u, i + m)) → All P (ready_at i us)
unfolding writing
all_ready P i [] h = tt
all_ready P i (u ∷ us) h =
    go (in_phase Write u) refl
    (all_ready P (suc i) us
    (λ m v e p. let z : i + suc m ≡ suc i + m = omega arith in subst (λ (k : ℕ). P (seq_of v, k)) z (h (suc m) v e p)))
  where
    go
        : (b : Bool) → in_phase Write u ≡ b → All P (ready_at (suc i) us)
        → All P (cond b (insert (seq_of u, i)) (λ (qs : List (ℕ × ℕ)). qs) (ready_at (suc i) us))
    go false e k = k
    go true e k =
        let z : i + 0 ≡ i = omega arith in
        all_insert P (seq_of u, i) (ready_at (suc i) us) (subst (λ (k : ℕ). P (seq_of u, k)) z (h 0 u refl e)) k

-- What holds of each that is tried and blocked.
all-turned-away
    : (P : ℕ × Blocked → Type 0) (us : List FunctionalUnit) (qs : List (ℕ × ℕ))
    → All (λ (q : ℕ × ℕ). (b : Blocked) → write_blocked us q.1 ≡ Some b → P (q.1, b)) qs → All P (try_writes us qs).turned_away
unfolding writing
all-turned-away P us [] h = tt
all-turned-away P us (q ∷ qs) h = go (write_blocked us q.1) refl (all-turned-away P us qs h.1)
  where
    go
        : (o : Option Blocked) → write_blocked us q.1 ≡ o → All P (try_writes us qs).turned_away
        → All P (try_one q.1 o (try_writes us qs)).turned_away
    go None e k = tt
    go (Some b) e k = (h.0 b e, k)

-- ── Why one is blocked ──────────────────────────────────────────────────────

-- It is not for memory order.
abbrev Other : Blocked → Type 0
Other (war r j) = Unit {0}
Other (memory j) = ⊥
Other drain = Unit {0}

war-other : (us : List FunctionalUnit) (i : ℕ) (rs : List ℕ) (b : Blocked) → war_reader us i rs ≡ Some b → Other b
unfolding writing
war-other us i [] b h = none-some b h
war-other us i (r ∷ rs) b h = go (war-other us i rs b) (find_at (reads i r) 0 us) h
  where
    go
        : (war_reader us i rs ≡ Some b → Other b) → (o : Option ℕ) → option_or (option_map (war r) o) (war_reader us i rs) ≡ Some b → Other b
    go ih None k = ih k
    go ih (Some j) k = subst Other (some_inj (war r j) b k) tt

blocked-other
    : (us : List FunctionalUnit) (i : ℕ) → memory_blocked us i ≡ None → (b : Blocked) → write_blocked us i ≡ Some b → Other b
unfolding writing
blocked-other us i m b h =
    go (war_reader us i (unit_at us i).destinations) refl
    (sym (ap (λ (o : Option Blocked). option_or (war_reader us i (unit_at us i).destinations) (option_or o (drain_blocked us i))) m) ∙ h)
  where
    drains : (d : Bool) → cond d (Some drain) None ≡ Some b → Other b
    drains false k = none-some b k
    drains true k = subst Other (some_inj drain b k) tt

    go : (o : Option Blocked) → war_reader us i (unit_at us i).destinations ≡ o → option_or o (drain_blocked us i) ≡ Some b → Other b
    go (Some x) e k = war-other us i (unit_at us i).destinations b (e ∙ k)
    go None e k = drains (is_system (unit_at us i).class && any_at (other_busy i) 0 us) k

-- ── The older is ahead ──────────────────────────────────────────────────────

busy-work : (u : FunctionalUnit) → u.busy ≡ true → 1 ≤ unit-work u
unfolding unit-work phase-work
busy-work u b =
    let x : unit-work u ≡ phase-work u.phase u.op.core.cycles_left
    = ap (λ (t : Bool). cond t (phase-work u.phase u.op.core.cycles_left) 0) b in
    omega (arith, x, go u.phase u.op.core.cycles_left)
  where
    go : (p : Phase) (c : ℕ) → 1 ≤ phase-work p c
    go Wait c = omega arith
    go Read c = omega arith
    go Execute c = omega arith
    go Write c = omega arith

finished-work : (u : FunctionalUnit) → in_phase Write u ≡ true → (u.busy ≡ true) × (unit-work u ≡ 1)
unfolding unit-work phase-work units numbers
finished-work u h =
    let a = and_both u.busy (eqb (phase_number u.phase) 3) h in
    (a.0, ap (λ (t : Bool). cond t (phase-work u.phase u.op.core.cycles_left) 0) a.0 ∙ go u.phase a.1)
  where
    go : (p : Phase) → eqb (phase_number p) 3 ≡ true → phase-work p u.op.core.cycles_left ≡ 1
    go Wait e = absurd (omega (arith, eqb-true 0 3 e))
    go Read e = absurd (omega (arith, eqb-true 1 3 e))
    go Execute e = absurd (omega (arith, eqb-true 2 3 e))
    go Write e = refl

module _ (us : List FunctionalUnit) (a : Ahead us) where
  no-order : (i : ℕ) (u : FunctionalUnit) → slice_get us i ≡ Some u → in_phase Write u ≡ true → memory_blocked us i ≡ None
  unfolding writing units
  no-order i u e p = go (is_memory (unit_at us i).class) refl (find_at (older_memory i (seq_of (unit_at us i))) 0 us) refl
    where
      here : unit_at us i ≡ u
      here = ap (value_or (idle_unit 0 0)) e

      busy-seq : (v : FunctionalUnit) → v.busy ≡ true → seq_of v ≡ v.op.core.seq
      busy-seq v t = ap (λ (x : Bool). cond x v.op.core.seq max64) t

      none-older
          : is_memory (unit_at us i).class ≡ true → (j : ℕ) (v : FunctionalUnit) → slice_get us j ≡ Some v
          → older_memory i (seq_of (unit_at us i)) (0 + j) v ≡ true → ⊥
      none-older m j v q t =
          let t1 = and_both (not (eqb (0 + j) i) && v.busy && is_memory v.class) (ltb (seq_of v) (seq_of (unit_at us i))) t in
          let t2 = and_both (not (eqb (0 + j) i) && v.busy) (is_memory v.class) t1.0 in
          let t3 = and_both (not (eqb (0 + j) i)) v.busy t2.0 in
          let f = finished-work u p in
          let l = ltb-true (seq_of v) (seq_of (unit_at us i)) t1.1 in
          let z : seq_of (unit_at us i) ≡ u.op.core.seq = ap seq_of here ∙ busy-seq u f.0 in
          let x : Access v = record { busy = t3.1; memory = t2.1 } in
          let y : Access u = record { busy = f.0; memory = sym (ap (λ (w : FunctionalUnit). is_memory w.class) here) ∙ m } in
          omega (arith, f.1, busy-work v t3.1, a.ahead j i v u q e x y (omega (arith, l, z, busy-seq v t3.1)))

      go
          : (d : Bool) → is_memory (unit_at us i).class ≡ d → (o : Option ℕ) → find_at (older_memory i (seq_of (unit_at us i))) 0 us ≡ o
          → cond d (option_map memory o) None ≡ None
      go false m o q = refl
      go true m None q = refl
      go true m (Some j) q =
          let w = find-hit (older_memory i (seq_of (unit_at us i))) 0 us j q in
          absurd
          (none-older m w.0 w.2.0 w.2.1
          (subst (λ (k : ℕ). older_memory i (seq_of (unit_at us i)) k w.2.0 ≡ true) w.1 w.2.2))

  pub none-turned_away : (vs : List FunctionalUnit) (ns : List Text) → NoneOrders (map (blocked_trace vs ns) (writable_unit us).turned_away)
  unfolding writing
  none-turned_away vs ns =
      all_map (λ (b : ℕ × Blocked). Other b.1) (λ (t : Trace). orders_memory t.detail ≡ false) (blocked_trace vs ns) told
      (writable_unit us).turned_away
      (all-turned-away (λ (b : ℕ × Blocked). Other b.1) us (ready_at 0 us)
      (all_ready (λ (q : ℕ × ℕ). (b : Blocked) → write_blocked us q.1 ≡ Some b → Other b) 0 us
      (λ m u e p b h.
      let z : m ≡ 0 + m = omega arith in
      blocked-other us (0 + m) (subst (λ (k : ℕ). memory_blocked us k ≡ None) z (no-order m u e p)) b h)))
    where
      told : (b : ℕ × Blocked) → Other b.1 → orders_memory (blocked_trace vs ns b).detail ≡ false
      told (i, b) h = at b h
        where
          at : (b : Blocked) → Other b → orders_memory (blocked_detail vs ns i b) ≡ false
          at (war r j) k = refl
          at (memory j) k = absurd k
          at drain k = refl
