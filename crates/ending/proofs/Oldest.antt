-- The oldest operation in the units waits for no register.
use Prim.Native.Nat.{ℕ, zero, suc, ◌≤◌, ◌<◌}
use native.Mathlib.Omega.{arith}
use mathlib.Core.Path.{◌≡◌, refl, sym, ◌∙◌, ap, subst}
use mathlib.Core.Bool.{Bool, true, false, cond, true≢false}
use Rattle.std.specs.Prelude.{Option, None, Some, slice_get}
use mathlib.Core.List.{List, [], ◌∷◌}
use mathlib.Core.Logic.{◌⊎◌, inl, inr}
use Rattle.laws.specs.Lists.{All}
use Rattle.laws.proofs.Choices.{none-some, some_inj}
use Rattle.laws.proofs.Tests.{lt-or-ge}
use Rattle.model.specs.Units.{FunctionalUnit}
use Rattle.invariant.specs.Invariant.{In}
use Rattle.invariant.proofs.Bools.{or-false}
use Rattle.invariant.proofs.Lists.{all-at}
use Rattle.invariant.proofs.Consistent.{Consistent, Entry}
use Rattle.invariant.proofs.Entries.{entry, entry_at, entry-held}

-- ── The oldest unit that is busy ────────────────────────────────────────────

-- Unit i is u, it is busy, and no busy unit is older.
pub record Oldest (us : List FunctionalUnit) (i : ℕ) (u : FunctionalUnit) : Type 0 where
  pub at : slice_get us i ≡ Some u
  pub busy : u.busy ≡ true
  pub least : (j : ℕ) (v : FunctionalUnit) → slice_get us j ≡ Some v → v.busy ≡ true → u.op.core.seq ≤ v.op.core.seq

abbrev pub Quiet : List FunctionalUnit → Type 0
Quiet us = All (λ (u : FunctionalUnit). u.busy ≡ false) us

-- None is busy, or one is the oldest.
pub quiet-or-oldest : (us : List FunctionalUnit) → Quiet us ⊎ ((i : ℕ) × (u : FunctionalUnit) × Oldest us i u)
quiet-or-oldest [] = inl tt
quiet-or-oldest (x ∷ xs) = go x.busy refl (quiet-or-oldest xs)
  where
    none-busy : Quiet xs → (j : ℕ) (v : FunctionalUnit) → slice_get xs j ≡ Some v → v.busy ≡ true → ⊥
    none-busy q j v e b = true≢false (sym b ∙ all-at (λ (u : FunctionalUnit). u.busy ≡ false) xs j v e q)

    alone : x.busy ≡ true → Quiet xs → Oldest (x ∷ xs) 0 x
    alone b q = record { at = refl; busy = b; least = go }
      where
        go : (j : ℕ) (v : FunctionalUnit) → slice_get (x ∷ xs) j ≡ Some v → v.busy ≡ true → x.op.core.seq ≤ v.op.core.seq
        go zero v e t = let q : x.op.core.seq ≡ v.op.core.seq = ap (λ (u : FunctionalUnit). u.op.core.seq) (some_inj x v e) in omega arith
        go (suc j) v e t = absurd (none-busy q j v e t)

    first
        : x.busy ≡ true → (i : ℕ) (u : FunctionalUnit) → Oldest xs i u → x.op.core.seq < u.op.core.seq → Oldest (x ∷ xs) 0 x
    first b i u o l = record { at = refl; busy = b; least = go }
      where
        go : (j : ℕ) (v : FunctionalUnit) → slice_get (x ∷ xs) j ≡ Some v → v.busy ≡ true → x.op.core.seq ≤ v.op.core.seq
        go zero v e t = let q : x.op.core.seq ≡ v.op.core.seq = ap (λ (u : FunctionalUnit). u.op.core.seq) (some_inj x v e) in omega arith
        go (suc j) v e t = omega (arith, l, o.least j v e t)

    later : (i : ℕ) (u : FunctionalUnit) → Oldest xs i u → (x.busy ≡ true → u.op.core.seq ≤ x.op.core.seq) → Oldest (x ∷ xs) (suc i) u
    later i u o l = record { at = o.at; busy = o.busy; least = go }
      where
        go : (j : ℕ) (v : FunctionalUnit) → slice_get (x ∷ xs) j ≡ Some v → v.busy ≡ true → u.op.core.seq ≤ v.op.core.seq
        go zero v e t =
            let q = some_inj x v e in
            let s : x.op.core.seq ≡ v.op.core.seq = ap (λ (y : FunctionalUnit). y.op.core.seq) q in
            let k = l (ap (λ (y : FunctionalUnit). y.busy) q ∙ t) in
            omega arith
        go (suc j) v e t = o.least j v e t

    go
        : (b : Bool) → x.busy ≡ b → Quiet xs ⊎ ((i : ℕ) × (u : FunctionalUnit) × Oldest xs i u)
        → Quiet (x ∷ xs) ⊎ ((i : ℕ) × (u : FunctionalUnit) × Oldest (x ∷ xs) i u)
    go false e (inl q) = inl (e, q)
    go false e (inr (i, u, o)) = inr (suc i, u, later i u o (λ t. absurd (true≢false (sym t ∙ e))))
    go true e (inl q) = inr (0, x, alone e q)
    go true e (inr (i, u, o)) = by (lt-or-ge x.op.core.seq u.op.core.seq)
      where
        by
            : (x.op.core.seq < u.op.core.seq) ⊎ (u.op.core.seq ≤ x.op.core.seq)
            → Quiet (x ∷ xs) ⊎ ((i : ℕ) × (u : FunctionalUnit) × Oldest (x ∷ xs) i u)
        by (inl l) = inr (0, x, first e i u o l)
        by (inr l) = inr (suc i, u, later i u o (λ t. l))

-- ── It waits for nothing ────────────────────────────────────────────────────

module _
    (us : List FunctionalUnit)
    (p : ℕ → Option ℕ)
    (b y : Bool)
    (lo : ℕ)
    (h : Consistent (λ j. entry_at None j (slice_get us j)) p b y lo)
    (i : ℕ)
    (u : FunctionalUnit)
    (o : Oldest us i u)
  where
    held : (j : ℕ) (v : FunctionalUnit) → slice_get us j ≡ Some v → v.busy ≡ true → entry_at None j (slice_get us j) ≡ Some (entry v)
    held j v e t = ap (entry_at None j) e ∙ entry-held None j v (or-false v.busy ∙ t)

    -- What is in flight is not older.
    not-older : (k : ℕ) (f : Entry) → entry_at None k (slice_get us k) ≡ Some f → u.op.core.seq ≤ f.seq
    not-older k f e = go (slice_get us k) refl e
      where
        go : (x : Option FunctionalUnit) → slice_get us k ≡ x → entry_at None k x ≡ Some f → u.op.core.seq ≤ f.seq
        go None q z = none-some f z
        go (Some v) q z = at v.busy refl (sym (ap (λ (t : Bool). cond t (Some (entry v)) None) (or-false v.busy)) ∙ z)
          where
            at : (t : Bool) → v.busy ≡ t → cond t (Some (entry v)) None ≡ Some f → u.op.core.seq ≤ f.seq
            at false t r = none-some f r
            at true t r =
                let s : v.op.core.seq ≡ f.seq = ap (λ (x : Entry). x.seq) (some_inj (entry v) f r) in
                omega (arith, s, o.least k v q t)

    -- It waits for nothing.
    pub oldest-unwaiting : u.pending ≡ []
    oldest-unwaiting = go u.pending refl
      where
        go : (ws : List (ℕ × ℕ)) → u.pending ≡ ws → ws ≡ []
        go [] e = refl
        go (w ∷ ws) e =
            let m : In {A = ℕ × ℕ} (w.0, w.1) u.pending = subst (λ (z : List (ℕ × ℕ)). In {A = ℕ × ℕ} (w.0, w.1) z) (sym e) (inl refl) in
            let f = (h.waits i (entry u) w.0 w.1 (held i u o.at o.busy) m).2 in
            absurd (omega (arith, not-older w.1 f.0 f.1, f.2))
