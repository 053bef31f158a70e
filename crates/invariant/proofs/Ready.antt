-- Finished units: each is tried, and one that nothing blocks leads to an offer.
use Prim.Native.Nat.{ℕ, zero, suc, ◌+◌}
use native.Mathlib.Omega.{arith}
use mathlib.Core.Path.{◌≡◌, refl, sym, ◌∙◌, ap, ap₂, subst}
use mathlib.Core.Bool.{Bool, true, false, cond}
use Rattle.std.specs.Prelude.{Option, None, Some, slice_get}
use mathlib.Core.List.{List, [], ◌∷◌}
use mathlib.Core.Logic.{◌⊎◌, inl, inr}
use lib.Dec.{ltb}
use Rattle.laws.specs.Lists.{lists}
use Rattle.laws.proofs.Choices.{none-some, some_inj}
use Rattle.capability.specs.declared.Phase.TheVariants.{Write}
use Rattle.model.specs.Units.{FunctionalUnit, in_phase, seq_of}
use Rattle.model.specs.Write.{Blocked, insert, ready_at, try_one, try_writes, write_blocked, writing}
use Rattle.invariant.specs.Invariant.{In}

insert-in : (p q : ℕ × ℕ) (qs : List (ℕ × ℕ)) → (p ≡ q) ⊎ In p qs → In p (insert q qs)
unfolding writing
insert-in p q [] h = h
insert-in p q (x ∷ qs) h = go (insert-in p q qs) (ltb x.0 q.0) h
  where
    go : ((p ≡ q) ⊎ In p qs → In p (insert q qs)) → (b : Bool) → (p ≡ q) ⊎ In p (x ∷ qs) → In p (cond b (x ∷ insert q qs) (q ∷ x ∷ qs))
    go ih true (inl e) = inr (ih (inl e))
    go ih true (inr (inl e)) = inl e
    go ih true (inr (inr k)) = inr (ih (inr k))
    go ih false k = k

pub in-ready
    : (i : ℕ) (us : List FunctionalUnit) (m : ℕ) (u : FunctionalUnit) → slice_get us m ≡ Some u → in_phase Write u ≡ true
    → In {A = ℕ × ℕ} (seq_of u, i + m) (ready_at i us)
unfolding writing lists
in-ready i [] m u e p = none-some u e
in-ready i (v ∷ us) zero u e p =
    let z : i + 0 ≡ i = omega arith in
    let vu : v ≡ u = some_inj v u e in
    subst (λ (b : Bool). In {A = ℕ × ℕ} (seq_of u, i + 0) (cond b (insert (seq_of v, i)) (λ (qs : List (ℕ × ℕ)). qs) (ready_at (suc i) us)))
    (sym (ap (in_phase Write) vu ∙ p))
    (insert-in (seq_of u, i + 0) (seq_of v, i) (ready_at (suc i) us) (inl (ap₂ (λ (a b : ℕ). (a, b)) (sym (ap seq_of vu)) z)))
in-ready i (v ∷ us) (suc m) u e p =
    let z : suc i + m ≡ i + suc m = omega arith in
    subst (λ (k : ℕ). In {A = ℕ × ℕ} (seq_of u, k) (ready_at i (v ∷ us))) z (go (in_phase Write v) (in-ready (suc i) us m u e p))
  where
    go
        : (b : Bool) → In {A = ℕ × ℕ} (seq_of u, suc i + m) (ready_at (suc i) us)
        → In {A = ℕ × ℕ} (seq_of u, suc i + m) (cond b (insert (seq_of v, i)) (λ (qs : List (ℕ × ℕ)). qs) (ready_at (suc i) us))
    go true h = insert-in (seq_of u, suc i + m) (seq_of v, i) (ready_at (suc i) us) (inr h)
    go false h = h

-- The first that nothing blocks is found.
pub try-some
    : (us : List FunctionalUnit) (qs : List (ℕ × ℕ)) (m j : ℕ) → In {A = ℕ × ℕ} (m, j) qs → write_blocked us j ≡ None
    → (i : ℕ) × ((try_writes us qs).found ≡ Some i)
unfolding writing
try-some us [] m j n b = absurd n
try-some us (q ∷ qs) m j n b = go (write_blocked us q.1) refl n (λ k. try-some us qs m j k b)
  where
    go
        : (o : Option Blocked) → write_blocked us q.1 ≡ o → In {A = ℕ × ℕ} (m, j) (q ∷ qs)
        → (In {A = ℕ × ℕ} (m, j) qs → (i : ℕ) × ((try_writes us qs).found ≡ Some i))
        → (i : ℕ) × ((try_one q.1 o (try_writes us qs)).found ≡ Some i)
    go None f n ih = (q.1, refl)
    go (Some c) f (inl z) ih = none-some c (sym b ∙ ap (write_blocked us) (ap (λ (y : ℕ × ℕ). y.1) z) ∙ f)
    go (Some c) f (inr k) ih = ih k
