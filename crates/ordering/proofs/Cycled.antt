-- A cycle in which every offer is retired keeps loads and stores in order, and lists no wait for memory order.
use Prim.Native.Nat.{ℕ, ◌≤◌, ◌<◌}
use mathlib.Core.Path.{◌≡◌, refl, sym, ◌∙◌, ap, subst}
use mathlib.Core.Bool.{Bool, true, false, ◌||◌, false≢true}
use Rattle.std.specs.Prelude.{Option, None, Some, slice_get, option_map}
use mathlib.Core.List.{List, ◌∷◌, map}
use mathlib.Core.Logic.{◌⊎◌, inl, inr}
use lib.ListN.{length}
use Rattle.laws.specs.Lists.{All, modify}
use Rattle.laws.proofs.Choices.{none-some}
use Rattle.laws.proofs.Maps.{length-of, nth-map}
use Rattle.capability.specs.Numbers.{numbers}
use Rattle.capability.specs.declared.Phase.TheVariants.{Wait}
use Rattle.model.specs.Config.{config, is_memory}
use Rattle.model.specs.Op.{Op, with_hazard}
use Rattle.model.specs.Registers.{producer_of}
use Rattle.model.specs.State.{Log, State, stall_all}
use Rattle.model.specs.Units.{FunctionalUnit, clear, clear_hazard, units, with_busy, without_waits}
use Rattle.model.specs.Write.{start_cycle, writable_unit, writing}
use Rattle.model.specs.Issue.{issue}
use Rattle.model.specs.Scoreboard.{closed, stops}
use Rattle.runs.proofs.Tracks.{all_map}
use Rattle.invariant.specs.Invariant.{Holds, Invariant, front_number, offered}
use Rattle.invariant.proofs.Lists.{length-modify, map_same, nth-image, nth-same, omap-back}
use Rattle.invariant.proofs.Consistent.{Consistent}
use Rattle.invariant.proofs.Entries.{entry, entry_at, entry-held, marked-same}
use Rattle.book.proofs.Blocking.{busy-holds, holds-busy}
use Rattle.book.proofs.Holds.{outside}
use Rattle.book.proofs.Oldest.{oldest-offered, oldest-unwaiting as oldest-unheld}
use Rattle.ending.proofs.Oldest.{Oldest, oldest-unwaiting}
use Rattle.ending.proofs.Cycle.{advance-runs, cleared, closed-log, closed-queue, cycled, found, marked, settled, settled_same, still-finished}
use Rattle.ending.proofs.Progress.{before, closed-found, closed-marked, middle, unoffered}
use Rattle.ending.proofs.Cycled.{middle-running}
use Rattle.ordering.specs.Ordering.{NoneOrders}
use Rattle.ordering.proofs.Ahead.{Access, Ahead, FreeToGo, Part, Quick, ahead-as, ahead-three, busy-oldest, free-ahead, free-to-go, modify-back, older-oldest, part}
use Rattle.ordering.proofs.Turned.{none-turned_away}
use Rattle.ordering.proofs.Placed.{waits-no-more}
use Rattle.ordering.proofs.Orderly.{Orderly, QuickOp, Room, before-units, orderly-after, orderly-before, orderly-issue}

-- ── A result is completed ───────────────────────────────────────────────────

-- The units after: unit i was on offer, and is cleared.
abbrev completed : ℕ → List FunctionalUnit → List FunctionalUnit
completed i us = map (without_waits i) (modify i clear (modify i (with_busy false) us))

completed-quick : (us : List FunctionalUnit) → Ahead us → (i k : ℕ) (u : FunctionalUnit) → slice_get (completed i us) k ≡ Some u → Quick u.class u.op
unfolding units config numbers
completed-quick us a i k u e =
    let b = omap-back (without_waits i) (slice_get (modify i clear (modify i (with_busy false) us)) k) u
    (sym (nth-map (without_waits i) (modify i clear (modify i (with_busy false) us)) k) ∙ e) in
    subst (λ (x : FunctionalUnit). Quick x.class x.op) b.2 (cleared-or b.0 (modify-back clear i (modify i (with_busy false) us) k b.0 b.1))
  where
    blank : (v : FunctionalUnit) → Quick (clear v).class (clear v).op
    blank v m = absurd (false≢true m)

    taken-or : (v : FunctionalUnit) → ((x : FunctionalUnit) × (slice_get us k ≡ Some x) × (v ≡ with_busy false x)) ⊎ (slice_get us k ≡ Some v) → Quick v.class v.op
    taken-or v (inl (x, n, q)) = subst (λ (y : FunctionalUnit). Quick y.class y.op) (sym q) (a.quick k x n)
    taken-or v (inr n) = a.quick k v n

    cleared-or
        : (v : FunctionalUnit)
        → ((x : FunctionalUnit) × (slice_get (modify i (with_busy false) us) k ≡ Some x) × (v ≡ clear x)) ⊎ (slice_get (modify i (with_busy false) us) k ≡ Some v)
        → Quick v.class v.op
    cleared-or v (inl (x, n, q)) = subst (λ (y : FunctionalUnit). Quick y.class y.op) (sym q) (blank x)
    cleared-or v (inr n) = taken-or v (modify-back (with_busy false) i us k v n)

-- Ahead, and nothing holds the older up.
abbrev Going : List FunctionalUnit → Type 0
Going us = Ahead us × FreeToGo us

going-completed : (us : List FunctionalUnit) → Ahead us → (i : ℕ) (u : FunctionalUnit) → slice_get us i ≡ Some u → Going (completed i us)
unfolding units
going-completed us a i u e =
    (free-ahead (completed i us) two i gone there refl (completed-quick us a i), free-to-go (completed i us) two i gone there refl)
  where
    gone : FunctionalUnit
    gone = without_waits i (clear (with_busy false u))

    two : length (completed i us) ≡ 2
    two =
        length-of (without_waits i) (modify i clear (modify i (with_busy false) us)) ∙ length-modify clear i (modify i (with_busy false) us)
        ∙ length-modify (with_busy false) i us ∙ a.two

    there : slice_get (completed i us) i ≡ Some gone
    there =
        nth-map (without_waits i) (modify i clear (modify i (with_busy false) us)) i
        ∙ ap (option_map (without_waits i))
        (nth-same clear (modify i (with_busy false) us) i ∙ ap (option_map clear) (nth-same (with_busy false) us i ∙ ap (option_map (with_busy false)) e))

-- ── Nothing is completed ────────────────────────────────────────────────────

-- What counts of a unit, and what it waits for.
abbrev Seen : Type 0
Seen = Part × List (ℕ × ℕ)

abbrev seen : FunctionalUnit → Seen
seen u = (part u, u.pending)

free-as : (us vs : List FunctionalUnit) → map seen us ≡ map seen vs → FreeToGo vs → FreeToGo us
free-as us vs h f i j u v d e x y l =
    let w = nth-image seen vs us i u (sym h) d in
    let z = nth-image seen vs us j v (sym h) e in
    let g =
    f i j w.0 z.0 w.1 z.1 (access w.0 u w.2 x) (access z.0 v z.2 y)
    (subst (λ (p : Seen). p.0.seq < z.0.op.core.seq) (sym w.2)
    (subst (λ (p : Seen). u.op.core.seq < p.0.seq) (sym z.2) l)) in
    (sym (ap (λ (p : Seen). p.1) w.2) ∙ g.0, λ k. g.1 (ap (λ (p : Seen). p.0.phase) w.2 ∙ k))
  where
    access : (u v : FunctionalUnit) → seen u ≡ seen v → Access v → Access u
    access u v e x =
        record { busy = ap (λ (p : Seen). p.0.busy) e ∙ x.busy; memory = ap (λ (p : Seen). is_memory p.0.class) e ∙ x.memory }

-- ── A cycle ─────────────────────────────────────────────────────────────────

module _ (s : State) (h : Invariant s) (out : s.front.in_cycle ≡ false) (o : Orderly s) where
  ahead-cleared : Ahead (cleared s)
  unfolding units
  ahead-cleared = ahead-as (cleared s) s.units (map_same part clear_hazard (λ u. refl) s.units) o.units

  ahead-marked : Ahead (marked s)
  unfolding units
  ahead-marked =
      ahead-as (marked s) (cleared s) (marked-same part (λ x u. refl) (writable_unit (cleared s)).turned_away (cleared s)) ahead-cleared

  no_offer : s.offer.writing ≡ None
  no_offer = outside s h out

  -- No offer: the older of two waits for nothing, and is not finished.
  free-units : found s ≡ None → FreeToGo s.units
  unfolding writing
  free-units e i j u v a b x y l =
      let q = older-oldest s.units o.units.two i j u v a b x.busy l in
      let held = busy-holds s i u a x.busy in (
        oldest-unheld s h no_offer i u held (least i u q),
        λ p. none-some i (sym e ∙ oldest-offered s h no_offer i u held (least i u q) p),
      )
    where
      least
          : (i : ℕ) (u : FunctionalUnit) → Oldest s.units i u → (j : ℕ) (v : FunctionalUnit) → Holds s j v
          → u.op.core.seq ≤ v.op.core.seq
      least i u q j v k = q.least j v k.there (holds-busy s no_offer j v k)

  free-marked : found s ≡ None → FreeToGo (marked s)
  unfolding units
  free-marked e =
      free-as (marked s) s.units
      (marked-same seen (λ x u. refl) (writable_unit (cleared s)).turned_away (cleared s) ∙ map_same seen clear_hazard (λ u. refl) s.units)
      (free-units e)

  abbrev halfway : State
  halfway = middle s h out

  going-closed : Going (closed halfway).units
  going-closed = go (found s) refl
    where
      go : (f : Option ℕ) → found s ≡ f → Going (closed halfway).units
      go None e = subst Going (sym (closed-marked s h out e)) (ahead-marked, free-marked e)
      go (Some i) e =
          let u = still-finished s i e in
          subst Going (sym (closed-found s h out i e)) (going-completed (marked s) ahead-marked i u.0 u.1)

  -- ── The waits, and the queue ────────────────────────────────────────────────

  pub start-waits : NoneOrders (start_cycle s).log.traces
  unfolding writing stall_all
  start-waits = none-turned_away (cleared s) ahead-cleared (cleared s) s.names

  settled-traces : (w : Option ℕ) (t : State) → (settled w t).log.traces ≡ t.log.traces
  unfolding settled writing
  settled-traces None t = refl
  settled-traces (Some i) t = refl

  pub retire-waits : NoneOrders halfway.log.traces
  retire-waits = subst NoneOrders (sym (settled-traces (start_cycle s).offer.writing (start_cycle s))) start-waits

  closed-waits : NoneOrders (closed halfway).log.traces
  closed-waits = subst (λ (l : Log). NoneOrders l.traces) (sym (closed-log halfway)) retire-waits

  closed-quick : All QuickOp (closed halfway).queue
  unfolding writing
  closed-quick =
      subst (All QuickOp) (sym (closed-queue halfway ∙ (settled_same (start_cycle s).offer.writing (start_cycle s)).queue))
      (all_map QuickOp QuickOp (with_hazard None) (λ o q. q) s.queue o.queue)

  -- ── The advance ─────────────────────────────────────────────────────────────

  ready : Orderly (before s h out)
  ready = orderly-before (closed halfway) (ahead-three (closed halfway).units going-closed.0 going-closed.1) closed-quick closed-waits

  room : Room (before s h out)
  room = record { younger = younger; begun = begun }
    where
      t : State
      t = before s h out

      younger
          : (o : Op) (rest : List Op) → t.queue ≡ o ∷ rest → (i : ℕ) (u : FunctionalUnit) → slice_get t.units i ≡ Some u → u.busy ≡ true
          → u.op.core.seq < o.core.seq
      younger o rest q i u e b =
          let w = t.offer.writing in
          let held = ap (entry_at w i) e ∙ entry-held w i u (ap (λ (x : Bool). x || offered w i) b) in
          subst (λ (x : List Op). u.op.core.seq < front_number x t.front.next_seq) q ((unoffered s h out).core.young i (entry u) held)

      consistent
          : Consistent (λ j. entry_at None j (slice_get t.units j)) (producer_of t.producer) t.marks.branch t.marks.system
          (front_number t.queue t.front.next_seq)
      consistent =
          subst
          (λ (w : Option ℕ).
          Consistent (λ j. entry_at w j (slice_get t.units j)) (producer_of t.producer) t.marks.branch t.marks.system
          (front_number t.queue t.front.next_seq))
          (unoffered s h out).no_offer (unoffered s h out).core

      begun
          : (k : ℕ) (f : FunctionalUnit) → slice_get t.units k ≡ Some f → f.busy ≡ false → (i : ℕ) (u : FunctionalUnit)
          → slice_get t.units i ≡ Some u → u.busy ≡ true → u.phase ≡ Wait → ⊥
      begun k f c n i u e b =
          waits-no-more (closed halfway).units i u (sym (ap (λ (us : List FunctionalUnit). slice_get us i) (before-units (closed halfway))) ∙ e) b
          (oldest-unwaiting t.units (producer_of t.producer) t.marks.branch t.marks.system
          (front_number t.queue t.front.next_seq) consistent i u (busy-oldest t.units ready.units.two k f c n i u e b))

  pub orderly-cycled : stops s ≡ false → Orderly (cycled s)
  unfolding cycled
  orderly-cycled running =
      subst Orderly (sym (advance-runs halfway (middle-running s h out running)))
      (orderly-after (issue (before s h out)) (orderly-issue (before s h out) room ready))
