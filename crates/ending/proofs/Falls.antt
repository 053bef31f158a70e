-- While anything counted is in flight, each cycle lessens its work. The operations counted are those whose numbers are among p, which has
-- with a number all smaller ones.
use Prim.Native.Nat.{ℕ, ◌+◌, ◌≤◌, ◌<◌}
use native.Mathlib.Omega.{arith}
use mathlib.Core.Path.{◌≡◌, refl, sym, ◌∙◌, ap, ap₂, subst}
use mathlib.Core.Bool.{Bool, true, false, cond, true≢false}
use Rattle.std.specs.Prelude.{Option, None, Some, slice_get}
use mathlib.Core.List.{List, [], ◌∷◌, map}
use mathlib.Core.Logic.{◌⊎◌, inl, inr}
use lib.Dec.{eqb}
use borrow.Author.Tests.{eqb-true, eqb-false}
use Rattle.laws.proofs.Choices.{none-some, some_inj}
use Rattle.model.specs.Op.{Op, with_hazard}
use Rattle.model.specs.State.{State}
use Rattle.model.specs.Units.{FunctionalUnit, clear_hazard, units}
use Rattle.model.specs.Write.{start_cycle, writable_unit, writing}
use Rattle.model.specs.Issue.{issue}
use Rattle.model.specs.Scoreboard.{closed}
use Rattle.runs.proofs.Tracks.{all_map}
use Rattle.invariant.specs.Invariant.{Holds, Invariant, Rising, front_number}
use Rattle.invariant.proofs.Lists.{all-at}
use Rattle.invariant.proofs.Start.{no-cycle}
use Rattle.invariant.proofs.Invariant.{kept_of}
use Rattle.book.proofs.Blocking.{busy-holds, holds-busy}
use Rattle.book.proofs.Oldest.{oldest-offered, oldest-unwaiting}
use Rattle.ending.proofs.Oldest.{Oldest, Quiet, quiet-or-oldest}
use Rattle.ending.proofs.Totals.{total, total-zero}
use Rattle.ending.proofs.Work.{op-work, phase-work, unit-work}
use Rattle.ending.proofs.Share.{counted_none, op-share, share, share-before, share-before-less, share-closed, share-issue, share-issue-less, unit-share}
use Rattle.ending.proofs.Cycle.{advanced, cleared, closed-queue, found, marked, settled_same, share-after, share-started, share-started-less, still-finished}
use Rattle.ending.proofs.Progress.{Part, before, clear-before, closed-marked, closed-stands, middle, queue-before, queue-started, quiet-before, quiet-marked, stands}

abbrev pub Down : (ℕ → Bool) → Type 0
Down p = (a b : ℕ) → a ≤ b → p b ≡ true → p a ≡ true

module _ (p : ℕ → Bool) (down : Down p) where
  -- ── Nothing counted ─────────────────────────────────────────────────────────

  up : (a b : ℕ) → a ≤ b → p a ≡ false → p b ≡ false
  up a b l e = go (p b) refl
    where
      go : (c : Bool) → p b ≡ c → c ≡ false
      go true t = absurd (true≢false (sym (down a b l t) ∙ e))
      go false t = refl

  no_units
      : (us : List FunctionalUnit)
      → ((j : ℕ) (v : FunctionalUnit) → slice_get us j ≡ Some v → v.busy ≡ true → p v.op.core.seq ≡ false) → total (unit-share p) us ≡ 0
  unfolding unit-share unit-work
  no_units us h = total-zero (unit-share p) us (λ j v e. go j v e v.busy refl)
    where
      go
          : (j : ℕ) (v : FunctionalUnit) → slice_get us j ≡ Some v → (b : Bool) → v.busy ≡ b
          → cond (p v.op.core.seq) (cond b (phase-work v.phase v.op.core.cycles_left) 0) 0 ≡ 0
      go j v e false t = counted_none (p v.op.core.seq)
      go j v e true t = ap (λ (x : Bool). cond x (phase-work v.phase v.op.core.cycles_left) 0) (h j v e t)

  no_queue : (q : List Op) (n a : ℕ) → Rising q n → a < front_number q n → p a ≡ false → total (op-share p) q ≡ 0
  unfolding total op-share
  no_queue [] n a r l e = refl
  no_queue (o ∷ os) n a r l e =
      let f = up a o.core.seq (omega arith) e in
      let x : op-share p o ≡ 0 = ap (λ (b : Bool). cond b (op-work o) 0) f in
      omega (arith, x, no_queue os n o.core.seq r.1 r.0 f)

  -- Where any of the queue is counted, its first is.
  first_counted : (o : Op) (os : List Op) (n : ℕ) → Rising (o ∷ os) n → 0 < total (op-share p) (o ∷ os) → p o.core.seq ≡ true
  unfolding total op-share
  first_counted o os n r l = go (p o.core.seq) refl
    where
      go : (b : Bool) → p o.core.seq ≡ b → p o.core.seq ≡ true
      go true e = e
      go false e =
          let x : op-share p o ≡ 0 = ap (λ (b : Bool). cond b (op-work o) 0) e in
          absurd (omega (arith, l, x, no_queue os n o.core.seq r.1 r.0 e))

  -- ── A cycle ─────────────────────────────────────────────────────────────────

  module _ (s : State) (h : Invariant s) (out : s.front.in_cycle ≡ false) where
    abbrev last : State
    last = advanced (middle s h out)

    no_offer : s.offer.writing ≡ None
    no_offer = no-cycle s (kept_of s h).flight out

    rest-most : share p last ≤ share p (before s h out)
    rest-most = omega (arith, share-after p (issue (before s h out)), share-issue p (before s h out))

    middle-share : share p (middle s h out) ≡ share p (start_cycle s)
    unfolding share
    middle-share =
        let a = settled_same (start_cycle s).offer.writing (start_cycle s) in
        ap₂ (λ (q : List Op) (us : List FunctionalUnit). total (op-share p) q + total (unit-share p) us) a.queue a.units

    before-most : share p (before s h out) ≤ share p (start_cycle s)
    before-most =
        omega (arith, share-before p (closed (middle s h out)), share-closed p (middle s h out), middle-share)

    pub share_most : share p last ≤ share p s
    share_most = omega (arith, rest-most, before-most, share-started s p)

    -- The oldest unit is counted: it is offered, or it goes on.
    module _ (i : ℕ) (u : FunctionalUnit) (o : Oldest s.units i u) (t : p u.op.core.seq ≡ true) where
      held : Holds s i u
      held = busy-holds s i u o.at o.busy

      least : (j : ℕ) (v : FunctionalUnit) → Holds s j v → u.op.core.seq ≤ v.op.core.seq
      least j v k = o.least j v k.there (holds-busy s no_offer j v k)

      offered-now : found s ≡ Some i → share p last < share p s
      offered-now e =
          let w = still-finished s i e in
          let v = stands s h out i u o.at in
          let same : v.0 ≡ w.0 = some_inj v.0 w.0 (sym v.1 ∙ w.1) in
          let n : p w.0.op.core.seq ≡ true
          = ap (λ (x : FunctionalUnit). p x.op.core.seq) (sym same) ∙ ap (λ (z : Part). p z.3) v.2 ∙ t in
          omega (arith, rest-most, before-most, share-started-less s p i w.0 e w.1 w.2 w.3 n)

      goes_on : (found s ≡ Some i → ⊥) → share p last < share p s
      unfolding writing
      goes_on n =
          let waits = oldest-unwaiting s h no_offer i u held least in
          let v = stands s h out i u o.at in
          let c = closed-stands s h out i v.0 v.1 (ap (λ (z : Part). z.2) v.2 ∙ waits) n in
          let e = c.2 ∙ v.2 in
          let less =
          share-before-less p (closed (middle s h out)) i c.0 c.1 (ap (λ (z : Part). z.0) e ∙ o.busy) (ap (λ (z : Part). z.2) e ∙ waits)
          (λ w. n (oldest-offered s h no_offer i u held least (sym (ap (λ (z : Part). z.1) e) ∙ w)))
          (ap (λ (z : Part). p z.3) e ∙ t) in
          omega (arith, rest-most, less, share-closed p (middle s h out), middle-share, share-started s p)

      oldest-falls : share p last < share p s
      oldest-falls = go (found s) refl
        where
          go : (f : Option ℕ) → found s ≡ f → share p last < share p s
          go None e = goes_on (λ q. none-some i (sym e ∙ q))
          go (Some j) e = at (eqb j i) refl
            where
              at : (b : Bool) → eqb j i ≡ b → share p last < share p s
              at true b = offered-now (e ∙ ap (λ (x : ℕ). Some x) (eqb-true j i b))
              at false b = goes_on (λ q. eqb-false j i b (some_inj j i (sym e ∙ q)))

    -- No unit is busy: the first of the queue issues.
    none-offered : Quiet (cleared s) → found s ≡ None
    none-offered q = go (found s) refl
      where
        go : (f : Option ℕ) → found s ≡ f → f ≡ None
        go None e = refl
        go (Some i) e =
            let f = still-finished s i e in
            absurd
            (true≢false
            (sym f.2
            ∙ all-at (λ (u : FunctionalUnit). u.busy ≡ false) (marked s) i f.0 f.1 (quiet-marked (writable_unit (cleared s)).turned_away (cleared s) q)))

    first-issues : Quiet (cleared s) → (o : Op) (rest : List Op) → s.queue ≡ o ∷ rest → p o.core.seq ≡ true → share p last < share p s
    first-issues q o rest k t =
        let e = none-offered q in
        let m = middle s h out in
        let quiet =
        quiet-before (closed m)
        (subst Quiet (sym (closed-marked s h out e)) (quiet-marked (writable_unit (cleared s)).turned_away (cleared s) q)) in
        let less =
        share-issue-less p (before s h out) (with_hazard None o) (map (with_hazard None) rest) front-of-queue t (clear-before s h out quiet) in
        omega (arith, share-after p (issue (before s h out)), less, before-most, share-started s p)
      where
        front-of-queue : (before s h out).queue ≡ with_hazard None o ∷ map (with_hazard None) rest
        front-of-queue =
            queue-before (closed (middle s h out)) ∙ closed-queue (middle s h out)
            ∙ (settled_same (start_cycle s).offer.writing (start_cycle s)).queue
            ∙ queue-started s
            ∙ ap (map (with_hazard None)) k

    pub share-falls : 0 < share p s → share p last < share p s
    unfolding share units total
    share-falls l = go (quiet-or-oldest s.units)
      where
        queued : Quiet s.units → (q : List Op) → s.queue ≡ q → share p last < share p s
        queued n q e =
            let z = no_units s.units (λ j v a b. absurd (true≢false (sym b ∙ all-at (λ (u : FunctionalUnit). u.busy ≡ false) s.units j v a n))) in
            at q e (omega (arith, l, z, ap (total (op-share p)) e)) (subst (λ (x : List Op). Rising x s.front.next_seq) e h.queue_rising)
          where
            at : (q : List Op) → s.queue ≡ q → 0 < total (op-share p) q → Rising q s.front.next_seq → share p last < share p s
            at [] e g r = absurd (omega (arith, g))
            at (o ∷ rest) e g r =
                first-issues
                (all_map (λ (u : FunctionalUnit). u.busy ≡ false) (λ (u : FunctionalUnit). u.busy ≡ false) clear_hazard (λ u b. b) s.units n)
                o rest e (first_counted o rest s.front.next_seq r g)

        older : (i : ℕ) (u : FunctionalUnit) → Oldest s.units i u → (b : Bool) → p u.op.core.seq ≡ b → share p last < share p s
        older i u o true e = oldest-falls i u o e
        older i u o false e =
            let x = no_units s.units (λ j v a b. up u.op.core.seq v.op.core.seq (o.least j v a b) e) in
            let y =
            no_queue s.queue s.front.next_seq u.op.core.seq h.queue_rising
            (h.before_queue i u (busy-holds s i u o.at o.busy)) e in
            absurd (omega (arith, l, x, y))

        go : Quiet s.units ⊎ ((i : ℕ) × (u : FunctionalUnit) × Oldest s.units i u) → share p last < share p s
        go (inl n) = queued n s.queue refl
        go (inr (i, u, o)) = older i u o (p u.op.core.seq) refl
