-- A cycle gives a row at most one cell, as operations in flight have numbers of their own; and it gives one only to an operation in flight.
use Prim.Native.Nat.{ℕ, suc, ◌+◌, ◌≤◌, ◌<◌}
use native.Mathlib.Omega.{arith}
use mathlib.Core.Path.{◌≡◌, refl, sym, ◌∙◌, ap, ap₂}
use mathlib.Core.Bool.{Bool, true, false, cond}
use Rattle.std.specs.Prelude.{Some, slice_get}
use mathlib.Core.List.{List, [], ◌∷◌, map}
use mathlib.Core.Logic.{◌⊎◌, inl, inr}
use lib.Dec.{eqb, ltb}
use lib.ListN.{length}
use borrow.Author.Tests.{eqb-true, lt-ltb, ltb-true, ne_eqb}
use Rattle.laws.specs.Lists.{All, keep}
use Rattle.laws.proofs.Tests.{lt-or-ge}
use Rattle.capability.specs.declared.Phase.{Phase}
use Rattle.capability.specs.declared.Phase.TheVariants.{Execute, Read, Wait, Write}
use Rattle.model.specs.Op.{Op}
use Rattle.model.specs.State.{State}
use Rattle.model.specs.Units.{FunctionalUnit, is_busy, units}
use Rattle.model.specs.Issue.{issuing, queue_cell, timeline_cells, unit_cell}
use Rattle.invariant.specs.Invariant.{Invariant, OperationFits, Rising, UnitFits, front_number}
use Rattle.invariant.proofs.Lists.{all-at}
use Rattle.book.proofs.Blocking.{busy-holds}
use Rattle.ending.proofs.Totals.{total, total-append}
use Rattle.ending.proofs.Work.{op-work, phase-work, unit-work}
use Rattle.ending.proofs.Share.{op-share, share, unit-share}
use Rattle.ending.proofs.Falls.{Down}
use Rattle.spans.proofs.Cells.{hit}
use Rattle.spans.proofs.Sums.{total-below, total_kept, total_of, total-once, total-some}

-- Numbers up to k.
unfoldable pub up_to : ℕ → ℕ → Bool
up_to k n = ltb n (suc k)

pub up-to-down : (k : ℕ) → Down (up_to k)
unfolding up_to
up-to-down k a b l t = let x = ltb-true b (suc k) t in lt-ltb a (suc k) (omega (arith, l, x))

-- ── The cells of row k, by the operations in flight ─────────────────────────

module _ (k : ℕ) where
  abbrev op-hit : Op → ℕ
  op-hit o = cond (eqb k o.core.row) 1 0

  abbrev unit-hit : FunctionalUnit → ℕ
  unit-hit u = cond u.busy (cond (eqb k u.op.core.row) 1 0) 0

  hits-split : (s : State) → total (hit k) (timeline_cells s) ≡ total op-hit s.queue + total unit-hit s.units
  unfolding issuing units
  hits-split s =
      total-append (hit k) (map queue_cell s.queue) (map unit_cell (keep is_busy s.units))
      ∙ ap₂ ◌+◌ (total_of (hit k) queue_cell s.queue)
      (total_of (hit k) unit_cell (keep is_busy s.units) ∙ total_kept (λ (u : FunctionalUnit). hit k (unit_cell u)) is_busy s.units)

  one-most : (b : Bool) → cond {A = ℕ} b 1 0 ≤ 1
  one-most true = omega arith
  one-most false = omega arith

  -- ── At most one ─────────────────────────────────────────────────────────────

  -- Numbers in the queue rise.
  queue-none : (q : List Op) (n : ℕ) → Rising q n → All OperationFits q → k < front_number q n → total op-hit q ≡ 0
  unfolding total
  queue-none [] n r f l = refl
  queue-none (o ∷ os) n r f l =
      let same = f.0.row_is_number in
      let x : op-hit o ≡ 0 = ap (λ (b : Bool). cond b 1 0) (ne_eqb k o.core.row (λ e. omega (arith, e, same, l))) in
      omega (arith, x, queue-none os n r.1 f.1 (omega (arith, l, r.0)))

  queue-once : (q : List Op) (n : ℕ) → Rising q n → All OperationFits q → total op-hit q ≤ 1
  unfolding total
  queue-once [] n r f = omega arith
  queue-once (o ∷ os) n r f = go (eqb k o.core.row) refl (queue-once os n r.1 f.1)
    where
      go : (b : Bool) → eqb k o.core.row ≡ b → total op-hit os ≤ 1 → cond b 1 0 + total op-hit os ≤ 1
      go false e ih = omega (arith, ih)
      go true e ih =
          let same = f.0.row_is_number in
          let here = eqb-true k o.core.row e in
          omega (arith, queue-none os n r.1 f.1 (omega (arith, here, same, r.0)))

  unit-told : (u : FunctionalUnit) → 0 < unit-hit u → (u.busy ≡ true) × (k ≡ u.op.core.row)
  unit-told u = go u.busy (eqb k u.op.core.row) refl refl
    where
      go
          : (b c : Bool) → u.busy ≡ b → eqb k u.op.core.row ≡ c → 0 < cond b (cond {A = ℕ} c 1 0) 0
          → (u.busy ≡ true) × (k ≡ u.op.core.row)
      go true true e f l = (e, eqb-true k u.op.core.row f)
      go true false e f l = absurd (omega (arith, l))
      go false c e f l = absurd (omega (arith, l))

  module _ (s : State) (h : Invariant s) where
    unit-number : (i : ℕ) (u : FunctionalUnit) → slice_get s.units i ≡ Some u → 0 < unit-hit u → u.op.core.seq ≡ k
    unit-number i u e l =
        let f = all-at (UnitFits (length s.machine.specs) (length s.names)) s.units i u e h.units_fit in
        sym f.operation_fits.row_is_number ∙ sym (unit-told u l).1

    units-once : total unit-hit s.units ≤ 1
    units-once =
        total-once unit-hit (λ u. unit-most u.busy (eqb k u.op.core.row)) s.units
        (λ i j u v a b x y.
        h.number_distinct i j u v (busy-holds s i u a (unit-told u x).0) (busy-holds s j v b (unit-told v y).0)
        (unit-number i u a x ∙ sym (unit-number j v b y)))
      where
        unit-most : (b c : Bool) → cond b (cond {A = ℕ} c 1 0) 0 ≤ 1
        unit-most true c = one-most c
        unit-most false c = omega arith

    pub one_cell : total (hit k) (timeline_cells s) ≤ 1
    one_cell = go (lt-or-ge 0 (total unit-hit s.units))
      where
        n : ℕ
        n = s.front.next_seq

        go : (0 < total unit-hit s.units) ⊎ (total unit-hit s.units ≤ 0) → total (hit k) (timeline_cells s) ≤ 1
        go (inr z) = omega (arith, hits-split s, z, queue-once s.queue n h.queue_rising h.queue_fits)
        go (inl l) =
            let w = total-some unit-hit s.units l in
            let number = unit-number w.0 w.1 w.2 w.3 in
            let before = h.before_queue w.0 w.1 (busy-holds s w.0 w.1 w.2 (unit-told w.1 w.3).0) in
            omega (
              arith,
              hits-split s,
              units-once,
              queue-none s.queue n h.queue_rising h.queue_fits (omega (arith, number, before)),
            )

    -- ── Of an operation that is counted ─────────────────────────────────────────

    up-to-it : (n : ℕ) → k ≡ n → up_to k n ≡ true
    unfolding up_to
    up-to-it n e = lt-ltb n (suc k) (omega (arith, e))

    op-counted : (o : Op) → OperationFits o → op-hit o ≤ op-share (up_to k) o
    unfolding op-share op-work
    op-counted o f = go (eqb k o.core.row) refl
      where
        go : (b : Bool) → eqb k o.core.row ≡ b → cond b 1 0 ≤ cond (up_to k o.core.seq) (op-work o) 0
        go false e = omega arith
        go true e =
            let t = up-to-it o.core.seq (eqb-true k o.core.row e ∙ f.row_is_number) in
            let x : cond (up_to k o.core.seq) (op-work o) 0 ≡ op-work o = ap (λ (b : Bool). cond b (op-work o) 0) t in
            omega (arith, x)

    phase-some : (q : Phase) (c : ℕ) → 1 ≤ phase-work q c
    unfolding phase-work
    phase-some Wait c = omega arith
    phase-some Read c = omega arith
    phase-some Execute c = omega arith
    phase-some Write c = omega arith

    unit-counted : (a b : ℕ) (u : FunctionalUnit) → UnitFits a b u → unit-hit u ≤ unit-share (up_to k) u
    unfolding unit-share unit-work
    unit-counted a b u f = go u.busy (eqb k u.op.core.row) refl
      where
        w : ℕ
        w = phase-work u.phase u.op.core.cycles_left

        go
            : (c d : Bool) → eqb k u.op.core.row ≡ d
            → cond c (cond d 1 0) 0 ≤ cond (up_to k u.op.core.seq) (cond c w 0) 0
        go false d e = omega arith
        go true false e = omega arith
        go true true e =
            let t = up-to-it u.op.core.seq (eqb-true k u.op.core.row e ∙ f.operation_fits.row_is_number) in
            let x : cond (up_to k u.op.core.seq) w 0 ≡ w = ap (λ (b : Bool). cond b w 0) t in
            omega (arith, x, phase-some u.phase u.op.core.cycles_left)

    pub cells-counted : total (hit k) (timeline_cells s) ≤ share (up_to k) s
    unfolding share
    cells-counted =
        omega (
          arith,
          hits-split s,
          total-below op-hit (op-share (up_to k)) OperationFits op-counted s.queue h.queue_fits,
          total-below unit-hit (unit-share (up_to k)) (UnitFits (length s.machine.specs) (length s.names)) (unit-counted _ _) s.units h.units_fit,
        )
