-- The operation that resume_pc takes has the least number in flight, and in_flight_before finds one that is older.
use Prim.Native.Nat.{ℕ, zero, suc, ◌≤◌}
use native.Mathlib.Omega.{arith}
use mathlib.Core.Path.{◌≡◌, refl, ap, ◌∙◌}
use mathlib.Core.Bool.{Bool, true, false, cond, ◌||◌, false≢true}
use Rattle.std.specs.Prelude.{Some, slice_get}
use mathlib.Core.List.{List, [], ◌∷◌}
use lib.Dec.{ltb}
use borrow.Author.Tests.{ltb-true, ltb-false, lt-ltb}
use Rattle.laws.specs.Optional.{when_some}
use Rattle.std.specs.List.{list_any}
use Rattle.laws.proofs.Choices.{none-some, some_inj}
use Rattle.laws.proofs.Tests.{or_yes, or-yes-second}
use Rattle.model.specs.Op.{Op}
use Rattle.model.specs.State.{State}
use Rattle.model.specs.Scoreboard.{in_flight, older_op, oldest_op, resume_pc, in_flight_before}
use Rattle.occupants.specs.View.{is_before}
use Rattle.occupants.specs.Questions.{ResumesAt, OlderThan, Questions}

-- ── The oldest has the least number ─────────────────────────────────────────

-- o is one of them, and none has a smaller number.
record Least (os : List Op) (o : Op) : Type 0 where
  pub there : (i : ℕ) × (slice_get os i ≡ Some o)
  pub least : (i : ℕ) (p : Op) → slice_get os i ≡ Some p → o.core.seq ≤ p.core.seq

same-seq : (o p : Op) → Some o ≡ Some p → o.core.seq ≡ p.core.seq
same-seq o p e = ap (λ (x : Op). x.core.seq) (some_inj o p e)

-- What the oldest is, where o stands before the others.
oldest-of : (o : Op) (os : List Op) → (p : Op) × ((oldest_op (o ∷ os) ≡ Some p) × Least (o ∷ os) p)
unfolding oldest_op older_op
oldest-of o [] = (o, (refl, record { there = (0, refl); least = alone }))
  where
    alone : (i : ℕ) (p : Op) → slice_get (o ∷ []) i ≡ Some p → o.core.seq ≤ p.core.seq
    alone zero p e = omega (arith, same-seq o p e)
    alone (suc i) p e = none-some p e
oldest-of o (x ∷ xs) = go (oldest-of x xs)
  where
    go : (q : Op) × ((oldest_op (x ∷ xs) ≡ Some q) × Least (x ∷ xs) q) → (p : Op) × ((oldest_op (o ∷ x ∷ xs) ≡ Some p) × Least (o ∷ x ∷ xs) p)
    go (q, (e, l)) = by (ltb q.core.seq o.core.seq) refl
      where
        is : {b : Bool} → ltb q.core.seq o.core.seq ≡ b → oldest_op (o ∷ x ∷ xs) ≡ cond b (Some q) (Some o)
        is t = ap (older_op o) e ∙ ap (λ b. cond b (Some q) (Some o)) t

        later : q.core.seq ≤ o.core.seq → Least (o ∷ x ∷ xs) q
        later h = record { there = (suc l.there.0, l.there.1); least = each }
          where
            each : (i : ℕ) (p : Op) → slice_get (o ∷ x ∷ xs) i ≡ Some p → q.core.seq ≤ p.core.seq
            each zero p z = omega (arith, h, same-seq o p z)
            each (suc i) p z = l.least i p z

        first : o.core.seq ≤ q.core.seq → Least (o ∷ x ∷ xs) o
        first h = record { there = (0, refl); least = each }
          where
            each : (i : ℕ) (p : Op) → slice_get (o ∷ x ∷ xs) i ≡ Some p → o.core.seq ≤ p.core.seq
            each zero p z = omega (arith, same-seq o p z)
            each (suc i) p z = omega (arith, h, l.least i p z)

        by : (b : Bool) → ltb q.core.seq o.core.seq ≡ b → (p : Op) × ((oldest_op (o ∷ x ∷ xs) ≡ Some p) × Least (o ∷ x ∷ xs) p)
        by true t = (q, (is t, later (omega (arith, ltb-true q.core.seq o.core.seq t))))
        by false t = (o, (is t, first (ltb-false q.core.seq o.core.seq t)))

oldest-least : (os : List Op) (i : ℕ) (p : Op) → slice_get os i ≡ Some p → (o : Op) × ((oldest_op os ≡ Some o) × Least os o)
oldest-least [] i p e = none-some p e
oldest-least (o ∷ os) i p e = oldest-of o os

-- ── Some element passes ─────────────────────────────────────────────────────

module _ {A : Type 0} (q : A → Bool) where
  any-there : (xs : List A) → list_any q xs ≡ true → (i : ℕ) × ((x : A) × ((slice_get xs i ≡ Some x) × (q x ≡ true)))
  any-there [] h = absurd (false≢true h)
  any-there (x ∷ xs) h = go (q x) refl h (any-there xs)
    where
      go
          : (b : Bool) → q x ≡ b → (b || list_any q xs) ≡ true → (list_any q xs ≡ true → (i : ℕ) × ((y : A) × ((slice_get xs i ≡ Some y) × (q y ≡ true))))
          → (i : ℕ) × ((y : A) × ((slice_get (x ∷ xs) i ≡ Some y) × (q y ≡ true)))
      go true e k ih = (0, (x, (refl, e)))
      go false e k ih = let w = ih k in (suc w.0, w.1)

  there-any : (xs : List A) (i : ℕ) (x : A) → slice_get xs i ≡ Some x → q x ≡ true → list_any q xs ≡ true
  there-any [] i x e t = none-some x e
  there-any (y ∷ ys) zero x e t = or_yes (list_any q ys) (ap q (some_inj y x e) ∙ t)
  there-any (y ∷ ys) (suc i) x e t = or-yes-second (q y) (there-any ys i x e t)

-- ── The questions ───────────────────────────────────────────────────────────

resumes : (s : State) (i : ℕ) (p : Op) → slice_get (in_flight s) i ≡ Some p → (o : Op) × ResumesAt s o
unfolding resume_pc
resumes s i p e = go (oldest-least (in_flight s) i p e)
  where
    go : (o : Op) × ((oldest_op (in_flight s) ≡ Some o) × Least (in_flight s) o) → (o : Op) × ResumesAt s o
    go (o, (z, l)) =
        (o, record { there = l.there; oldest = l.least; address = ap (λ m. when_some m s.front.fetch_pc (λ (x : Op). x.core.decoded.address)) z })

pub questions : Questions
unfolding resume_pc oldest_op in_flight_before
questions =
    record {
      idle = λ s e. ap (λ l. when_some (oldest_op l) s.front.fetch_pc (λ (x : Op). x.core.decoded.address)) e;
      resumes = resumes;
      before = λ n s. (found n s, λ w. there-any (is_before n) (in_flight s) w.0 w.1.0 w.1.1.0 (lt-ltb _ _ w.1.1.1));
    }
  where
    found : (n : ℕ) (s : State) → list_any (is_before n) (in_flight s) ≡ true → OlderThan n s
    found n s h = let w = any-there (is_before n) (in_flight s) h in (w.0, (w.1.0, (w.1.1.0, ltb-true _ _ w.1.1.1)))
