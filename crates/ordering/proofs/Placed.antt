-- An operation that issues is behind the other unit, which then waits for no register.
use Prim.Native.Nat.{ℕ, ◌+◌, ◌-◌, ◌≤◌, ◌<◌}
use native.Mathlib.Omega.{arith}
use mathlib.Core.Path.{◌≡◌, refl, sym, ◌∙◌, ap, ap₂, subst}
use mathlib.Core.Bool.{Bool, true, cond, ◌&&◌}
use Rattle.std.specs.Prelude.{Some, slice_get}
use mathlib.Core.List.{List, [], map}
use mathlib.Core.Logic.{◌⊎◌, inl, inr}
use lib.Dec.{eqb}
use Rattle.laws.specs.Lists.{is_empty, modify}
use Rattle.capability.specs.Numbers.{numbers, phase_number}
use Rattle.capability.specs.declared.Phase.{Phase}
use Rattle.capability.specs.declared.Phase.TheVariants.{Execute, Read, Wait, Write}
use Rattle.model.specs.Op.{Op}
use Rattle.model.specs.Units.{FunctionalUnit, begin, occupy, read_one, tick, units}
use Rattle.invariant.proofs.Lists.{length-modify}
use Rattle.ending.proofs.Work.{phase-work, three, unit-work}
use Rattle.ordering.proofs.Ahead.{Access, Ahead, Quick, modify-back, three_back}

-- A busy unit that is past its wait needs at most three cycles, if it is quick.
work-begun : (u : FunctionalUnit) → u.busy ≡ true → (u.phase ≡ Wait → ⊥) → u.op.core.cycles_left ≤ 1 → unit-work u ≤ 3
unfolding unit-work phase-work
work-begun u b n l =
    let x : unit-work u ≡ phase-work u.phase u.op.core.cycles_left
    = ap (λ (t : Bool). cond t (phase-work u.phase u.op.core.cycles_left) 0) b in
    omega (arith, x, go u.phase n)
  where
    go : (p : Phase) → (p ≡ Wait → ⊥) → phase-work p u.op.core.cycles_left ≤ 3
    go Wait k = absurd (k refl)
    go Read k = omega (arith, l)
    go Execute k = omega (arith, l)
    go Write k = omega arith

-- A busy unit that waits for nothing has left phase Wait when operands are read.
read-on : (u : FunctionalUnit) → (read_one u).busy ≡ true → (read_one u).pending ≡ [] → (read_one u).phase ≡ Wait → ⊥
unfolding units numbers is_empty
read-on u b w p = go u.phase (sym (ap₂ (λ (x : Bool) (y : List (ℕ × ℕ)). next x u.phase (is_empty y)) b w) ∙ p)
  where
    next : Bool → Phase → Bool → Phase
    next x q y = cond ((x && eqb (phase_number q) 0) && y) Read q

    go : (q : Phase) → cond ((true && eqb (phase_number q) 0) && true) Read q ≡ Wait → ⊥
    go Wait e = let n = ap phase_number e in omega arith
    go Read e = let n = ap phase_number e in omega arith
    go Execute e = let n = ap phase_number e in omega arith
    go Write e = let n = ap phase_number e in omega arith

pub waits-no-more
    : (us : List FunctionalUnit) (i : ℕ) (u : FunctionalUnit) → slice_get (map three us) i ≡ Some u → u.busy ≡ true → u.pending ≡ []
    → u.phase ≡ Wait → ⊥
waits-no-more us i u e =
    let t = three_back us i u e in
    subst (λ (x : FunctionalUnit). x.busy ≡ true → x.pending ≡ [] → x.phase ≡ Wait → ⊥) t.2 (read-on (begin (tick t.0)))

module _
    (o : Op)
    (r w : List ℕ)
    (p : List (ℕ × ℕ))
    (us : List FunctionalUnit)
    (a : Ahead us)
    (k : ℕ)
    (quick : Quick o.core.decoded.class o)
    (younger : (i : ℕ) (u : FunctionalUnit) → slice_get us i ≡ Some u → u.busy ≡ true → u.op.core.seq < o.core.seq)
    (begun : (i : ℕ) (u : FunctionalUnit) → slice_get us i ≡ Some u → u.busy ≡ true → u.phase ≡ Wait → ⊥)
  where
    abbrev placed : List FunctionalUnit
    placed = modify k (occupy o r w p) us

    -- It is the new unit.
    abbrev New : FunctionalUnit → Type 0
    New u = (v : FunctionalUnit) × (u ≡ occupy o r w p v)

    new-or-old : (i : ℕ) (u : FunctionalUnit) → slice_get placed i ≡ Some u → New u ⊎ (slice_get us i ≡ Some u)
    new-or-old i u e = go (modify-back (occupy o r w p) k us i u e)
      where
        go : ((v : FunctionalUnit) × (slice_get us i ≡ Some v) × (u ≡ occupy o r w p v)) ⊎ (slice_get us i ≡ Some u) → New u ⊎ (slice_get us i ≡ Some u)
        go (inl (v, n, q)) = inl (v, q)
        go (inr n) = inr n

    new-seq : (u : FunctionalUnit) → New u → u.op.core.seq ≡ o.core.seq
    unfolding units
    new-seq u (v, e) = ap (λ (x : FunctionalUnit). x.op.core.seq) e

    new-work : (u : FunctionalUnit) → New u → unit-work u ≡ 4 + (o.core.cycles_left - 1)
    unfolding units unit-work phase-work
    new-work u (v, e) = ap unit-work e

    new-quick : (u : FunctionalUnit) → New u → Quick u.class u.op
    unfolding units
    new-quick u (v, e) = subst (λ (x : FunctionalUnit). Quick x.class x.op) (sym e) quick

    pub ahead-placed : Ahead placed
    ahead-placed =
        record {
          two = length-modify (occupy o r w p) k us ∙ a.two;
          quick = λ i u e. quick-at i u (new-or-old i u e);
          ahead = λ i j u v d e x y l. ahead-at i j u v (new-or-old i u d) (new-or-old j v e) x y l;
        }
      where
        quick-at : (i : ℕ) (u : FunctionalUnit) → New u ⊎ (slice_get us i ≡ Some u) → Quick u.class u.op
        quick-at i u (inl e) = new-quick u e
        quick-at i u (inr e) = a.quick i u e

        ahead-at
            : (i j : ℕ) (u v : FunctionalUnit) → New u ⊎ (slice_get us i ≡ Some u) → New v ⊎ (slice_get us j ≡ Some v)
            → Access u → Access v → u.op.core.seq < v.op.core.seq → unit-work u < unit-work v
        ahead-at i j u v (inl d) (inl e) x y l = absurd (omega (arith, new-seq u d, new-seq v e, l))
        ahead-at i j u v (inl d) (inr e) x y l = absurd (omega (arith, new-seq u d, younger j v e y.busy, l))
        ahead-at i j u v (inr d) (inl e) x y l =
            omega (arith, new-work v e, work-begun u x.busy (begun i u d x.busy) (a.quick i u d x.memory))
        ahead-at i j u v (inr d) (inr e) x y l = a.ahead i j u v d e x y l
