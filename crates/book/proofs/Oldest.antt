-- The oldest operation in the units is held up by nothing: it waits for no register, and nothing blocks its write; once finished it is what
-- a start offers.
use Prim.Native.Nat.{ℕ, ◌≤◌, ◌<◌}
use native.Mathlib.Omega.{arith}
use mathlib.Core.Path.{◌≡◌, refl, sym, subst}
use mathlib.Core.Bool.{true}
use Rattle.std.specs.Prelude.{None, Some}
use mathlib.Core.List.{List, [], ◌∷◌}
use mathlib.Core.Logic.{◌⊎◌, inl, inr}
use Rattle.capability.specs.declared.Phase.TheVariants.{Write}
use Rattle.model.specs.Config.{is_system}
use Rattle.model.specs.State.{State, new}
use Rattle.model.specs.Calls.{runs}
use Rattle.model.specs.Units.{FunctionalUnit}
use Rattle.model.specs.Write.{start_cycle, write_blocked}
use Rattle.invariant.specs.Invariant.{Holds, In, Invariant}
use Rattle.invariant.proofs.Invariant.{invariant-always}
use Rattle.book.specs.Conditions.{OldestUnheld, Writable}
use Rattle.book.proofs.Blocking.{Unread, unblocked, unread-none}
use Rattle.book.proofs.Holds.{outside}
use Rattle.book.proofs.Offering.{offers-same}
use Rattle.book.proofs.Rows.{holds-one, in-owed}

module _
    (s : State)
    (h : Invariant s)
    (n : s.offer.writing ≡ None)
    (i : ℕ)
    (u : FunctionalUnit)
    (held : Holds s i u)
    (least : (j : ℕ) (v : FunctionalUnit) → Holds s j v → u.op.core.seq ≤ v.op.core.seq)
  where
    pub oldest-unwaiting : u.pending ≡ []
    oldest-unwaiting = go u.pending refl
      where
        go : (ws : List (ℕ × ℕ)) → u.pending ≡ ws → ws ≡ []
        go [] e = refl
        go (w ∷ ws) e =
            let m : In {A = ℕ × ℕ} (w.0, w.1) u.pending = subst (λ (z : List (ℕ × ℕ)). In {A = ℕ × ℕ} (w.0, w.1) z) (sym e) (inl refl) in
            let f = (h.waits i u w.0 w.1 held m).2 in
            let l = least w.1 f.0 f.1 in
            absurd (omega (arith, l, f.2))

    -- A reader that is not owed the register is older than the unit that is to write it.
    unread : Unread s i u
    unread j v r k ne m d q =
        go (h.unwaiting_older j v r i k m (λ a p. in-owed r a v.pending p q) (h.claimed i u r held d))
      where
        go : (i ≡ j) ⊎ ((w : FunctionalUnit) × Holds s i w × v.op.core.seq < w.op.core.seq) → ⊥
        go (inl e) = ne (sym e)
        go (inr (w, z, l)) =
            let a = least j v k in
            let b : w ≡ u = holds-one s i u w held z in
            let c = subst (λ (x : FunctionalUnit). v.op.core.seq < x.op.core.seq) b l in
            omega arith

    alone : is_system u.class ≡ true → (j : ℕ) (v : FunctionalUnit) → Holds s j v → j ≡ i
    alone e j v k =
        let a = h.system_youngest i j u v held e k in
        let b = least j v k in
        h.number_distinct j i v u k held (omega arith)

    pub oldest-unblocked : write_blocked s.units i ≡ None
    oldest-unblocked = unblocked s n i u held unread (λ e j v k m. least j v k) alone

    pub oldest-writable : u.phase ≡ Write → Writable s i u
    oldest-writable p =
        record {
          holds = held;
          finished = p;
          unread_by = unread-none s i u held unread;
          memory_order = λ e j v k m. least j v k;
          drained = alone;
        }

    pub oldest-offered : u.phase ≡ Write → (start_cycle s).offer.writing ≡ Some i
    oldest-offered p = (offers-same s h n i).1 (u, oldest-writable p, (λ j v w. least j v w.holds))

pub oldest-unheld : OldestUnheld
oldest-unheld d entry lent cs p c i u o =
    let s = runs (new d entry) cs in
    let h = invariant-always d entry lent cs p in
    let n = outside s h c in
    record {
      unwaiting = oldest-unwaiting s h n i u o.holds o.least;
      unblocked = oldest-unblocked s h n i u o.holds o.least;
      offered_next = oldest-offered s h n i u o.holds o.least;
    }
