-- Of two loads or stores in the two units the older is ahead: it needs fewer cycles.
use Prim.Native.Nat.{ℕ, ◌-◌, ◌≤◌, ◌<◌}
use native.Mathlib.Omega.{arith}
use mathlib.Core.Path.{◌≡◌, refl, sym, ◌∙◌, ap, subst}
use mathlib.Core.Bool.{Bool, true, false, cond, true≢false}
use Rattle.std.specs.Prelude.{Some, slice_get}
use mathlib.Core.List.{List, [], map}
use mathlib.Core.Logic.{◌⊎◌, inl, inr}
use lib.Dec.{eqb}
use lib.ListN.{length}
use borrow.Author.Tests.{eqb-false, eqb-true}
use Rattle.laws.specs.Lists.{modify}
use Rattle.laws.proofs.Choices.{some_inj}
use Rattle.laws.proofs.Maps.{length-of, nth-map}
use Rattle.laws.proofs.Tests.{lt-or-ge}
use Rattle.capability.specs.declared.Phase.{Phase}
use Rattle.capability.specs.declared.Phase.TheVariants.{Execute, Read, Write}
use Rattle.capability.specs.declared.PipelineInstructionClass.{PipelineInstructionClass}
use Rattle.model.specs.Config.{is_memory}
use Rattle.model.specs.Op.{Op}
use Rattle.model.specs.Units.{FunctionalUnit, begin, in_phase, tick, units}
use Rattle.invariant.proofs.Lists.{nth-image, nth-other, nth-same, nth-short, omap-back}
use Rattle.ending.proofs.Work.{phase-work, three, unit-work, work_less, work-slow}
use Rattle.ending.proofs.Oldest.{Oldest}

-- What stands in a list with one element changed.
pub modify-back
    : {A : Type 0} (f : A → A) (k : ℕ) (xs : List A) (i : ℕ) (a : A) → slice_get (modify k f xs) i ≡ Some a
    → ((x : A) × (slice_get xs i ≡ Some x) × (a ≡ f x)) ⊎ (slice_get xs i ≡ Some a)
modify-back {A} f k xs i a e = go (eqb i k) refl
  where
    go : (b : Bool) → eqb i k ≡ b → ((x : A) × (slice_get xs i ≡ Some x) × (a ≡ f x)) ⊎ (slice_get xs i ≡ Some a)
    go true t =
        let q = eqb-true i k t in
        let w = omap-back f (slice_get xs k) a (sym (nth-same f xs k) ∙ ap (slice_get (modify k f xs)) (sym q) ∙ e) in
        inl (w.0, ap (slice_get xs) q ∙ w.1, sym w.2)
    go false t = inr (sym (nth-other f xs k i (eqb-false i k t)) ∙ e)

-- ── The record ──────────────────────────────────────────────────────────────

-- A load or store is in the unit.
pub record Access (u : FunctionalUnit) : Type 0 where
  pub busy : u.busy ≡ true
  pub memory : is_memory u.class ≡ true

abbrev Older : FunctionalUnit → FunctionalUnit → Type 0
Older u v = u.op.core.seq < v.op.core.seq

-- A load or store has at most one cycle left to execute.
abbrev pub Quick : PipelineInstructionClass → Op → Type 0
Quick c o = is_memory c ≡ true → o.core.cycles_left ≤ 1

pub record Ahead (us : List FunctionalUnit) : Type 0 where
  pub two : length us ≡ 2
  pub quick : (i : ℕ) (u : FunctionalUnit) → slice_get us i ≡ Some u → Quick u.class u.op
  pub ahead
      : (i j : ℕ) (u v : FunctionalUnit) → slice_get us i ≡ Some u → slice_get us j ≡ Some v → Access u → Access v → Older u v
      → unit-work u < unit-work v

-- Nothing holds the older of two up.
abbrev pub FreeToGo : List FunctionalUnit → Type 0
FreeToGo us =
    (i j : ℕ) (u v : FunctionalUnit) → slice_get us i ≡ Some u → slice_get us j ≡ Some v → Access u → Access v → Older u v
    → (u.pending ≡ []) × (u.phase ≡ Write → ⊥)

-- ── Two units ───────────────────────────────────────────────────────────────

module _ (us : List FunctionalUnit) (two : length us ≡ 2) where
  -- Of two different units any third is one.
  third
      : (i j k : ℕ) (u v w : FunctionalUnit) → slice_get us i ≡ Some u → slice_get us j ≡ Some v → slice_get us k ≡ Some w → (i ≡ j → ⊥) → (k ≡ i) ⊎ (k ≡ j)
  third i j k u v w a b c n =
      at i j k (omega (arith, two, nth-short us i u a)) (omega (arith, two, nth-short us j v b)) (omega (arith, two, nth-short us k w c)) n
    where
      at : (i j k : ℕ) → i < 2 → j < 2 → k < 2 → (i ≡ j → ⊥) → (k ≡ i) ⊎ (k ≡ j)
      at i j k li lj lk n = by (lt-or-ge i j) (lt-or-ge j i) (lt-or-ge k 1)
        where
          by : (i < j) ⊎ (j ≤ i) → (j < i) ⊎ (i ≤ j) → (k < 1) ⊎ (1 ≤ k) → (k ≡ i) ⊎ (k ≡ j)
          by (inl x) y (inl z) = inl (omega arith)
          by (inl x) y (inr z) = inr (omega arith)
          by (inr x) (inl y) (inl z) = inr (omega arith)
          by (inr x) (inl y) (inr z) = inl (omega arith)
          by (inr x) (inr y) z = absurd (n (omega arith))

  same : (k m : ℕ) (w x : FunctionalUnit) → slice_get us k ≡ Some w → slice_get us m ≡ Some x → k ≡ m → w.op.core.seq ≡ x.op.core.seq
  same k m w x c d e = ap (λ (y : FunctionalUnit). y.op.core.seq) (some_inj w x (sym c ∙ ap (slice_get us) e ∙ d))

  apart : (i j : ℕ) (u v : FunctionalUnit) → slice_get us i ≡ Some u → slice_get us j ≡ Some v → Older u v → i ≡ j → ⊥
  apart i j u v a b l e = omega (arith, same i j u v a b e, l)

  -- The older of two is the oldest.
  pub older-oldest
      : (i j : ℕ) (u v : FunctionalUnit) → slice_get us i ≡ Some u → slice_get us j ≡ Some v → u.busy ≡ true → Older u v → Oldest us i u
  older-oldest i j u v a b t l =
      record {
        at = a;
        busy = t;
        least = λ k w c x. go k w c (third i j k u v w a b c (apart i j u v a b l));
      }
    where
      go : (k : ℕ) (w : FunctionalUnit) → slice_get us k ≡ Some w → (k ≡ i) ⊎ (k ≡ j) → u.op.core.seq ≤ w.op.core.seq
      go k w c (inl e) = omega (arith, same k i w u c a e)
      go k w c (inr e) = omega (arith, same k j w v c b e, l)

  -- With one of the two free a busy unit is the oldest, and there is no pair.
  module _ (k : ℕ) (w : FunctionalUnit) (c : slice_get us k ≡ Some w) (f : w.busy ≡ false) where
    not-it : (i : ℕ) (u : FunctionalUnit) → slice_get us i ≡ Some u → u.busy ≡ true → k ≡ i → ⊥
    not-it i u a t e =
        true≢false (sym t ∙ ap (λ (x : FunctionalUnit). x.busy) (some_inj u w (sym a ∙ ap (slice_get us) (sym e) ∙ c)) ∙ f)

    pub busy-oldest : (i : ℕ) (u : FunctionalUnit) → slice_get us i ≡ Some u → u.busy ≡ true → Oldest us i u
    busy-oldest i u a t =
        record { at = a; busy = t; least = λ j v b x. go j v b x (third k i j w u v c a b (not-it i u a t)) }
      where
        go : (j : ℕ) (v : FunctionalUnit) → slice_get us j ≡ Some v → v.busy ≡ true → (j ≡ k) ⊎ (j ≡ i) → u.op.core.seq ≤ v.op.core.seq
        go j v b x (inl e) = absurd (not-it j v b x (sym e))
        go j v b x (inr e) = omega (arith, same j i v u b a e)

    no-pair
        : (i j : ℕ) (u v : FunctionalUnit) → slice_get us i ≡ Some u → slice_get us j ≡ Some v → u.busy ≡ true → v.busy ≡ true → Older u v → ⊥
    no-pair i j u v a b s t l = go (third i j k u v w a b c (apart i j u v a b l))
      where
        go : (k ≡ i) ⊎ (k ≡ j) → ⊥
        go (inl e) = not-it i u a s e
        go (inr e) = not-it j v b t e

    pub free-ahead : ((i : ℕ) (u : FunctionalUnit) → slice_get us i ≡ Some u → Quick u.class u.op) → Ahead us
    free-ahead q =
        record {
          two = two;
          quick = q;
          ahead = λ i j u v a b x y l. absurd (no-pair i j u v a b x.busy y.busy l);
        }

    pub free-to-go : FreeToGo us
    free-to-go i j u v a b x y l = absurd (no-pair i j u v a b x.busy y.busy l)

-- ── Changes that do not count ───────────────────────────────────────────────

-- What counts of a unit.
pub record Part : Type 0 where
  pub busy : Bool
  pub class : PipelineInstructionClass
  pub phase : Phase
  pub seq : ℕ
  pub cycles_left : ℕ

abbrev pub part : FunctionalUnit → Part
part u = record { busy = u.busy; class = u.class; phase = u.phase; seq = u.op.core.seq; cycles_left = u.op.core.cycles_left }

pub ahead-as : (us vs : List FunctionalUnit) → map part us ≡ map part vs → Ahead vs → Ahead us
unfolding unit-work
ahead-as us vs h a =
    record {
      two = sym (length-of part us) ∙ ap length h ∙ length-of part vs ∙ a.two;
      quick = λ i u e m.
          let w = there i u e in
          let k = a.quick i w.0 w.1 (ap (λ (p : Part). is_memory p.class) w.2 ∙ m) in
          subst (λ (p : Part). p.cycles_left ≤ 1) w.2 k;
      ahead = λ i j u v d e x y l.
          let w = there i u d in
          let z = there j v e in
          let b =
          a.ahead i j w.0 z.0 w.1 z.1 (access w.0 u w.2 x) (access z.0 v z.2 y)
          (subst (λ (p : Part). p.seq < z.0.op.core.seq) (sym w.2) (subst (λ (p : Part). u.op.core.seq < p.seq) (sym z.2) l)) in
          omega (arith, b, work-of w.0 u w.2, work-of z.0 v z.2);
    }
  where
    there : (i : ℕ) (u : FunctionalUnit) → slice_get us i ≡ Some u → (v : FunctionalUnit) × (slice_get vs i ≡ Some v) × (part v ≡ part u)
    there i u e = nth-image part vs us i u (sym h) e

    access : (u v : FunctionalUnit) → part u ≡ part v → Access v → Access u
    access u v e x =
        record { busy = ap (λ (p : Part). p.busy) e ∙ x.busy; memory = ap (λ (p : Part). is_memory p.class) e ∙ x.memory }

    work-of : (u v : FunctionalUnit) → part u ≡ part v → unit-work u ≡ unit-work v
    work-of u v e = ap (λ (p : Part). cond p.busy (phase-work p.phase p.cycles_left) 0) e

-- ── Execute, read and begin ─────────────────────────────────────────────────

pub three_back
    : (us : List FunctionalUnit) (i : ℕ) (w : FunctionalUnit) → slice_get (map three us) i ≡ Some w
    → (u : FunctionalUnit) × (slice_get us i ≡ Some u) × (three u ≡ w)
three_back us i w e = omap-back three (slice_get us i) w (sym (nth-map three us i) ∙ e)

three-quick : (u : FunctionalUnit) → (three u).op.core.cycles_left ≤ u.op.core.cycles_left
unfolding units
three-quick u = omega (arith, begun (tick u), less (in_phase Execute u) u.op.core.cycles_left)
  where
    less : (b : Bool) (c : ℕ) → cond b (c - 1) c ≤ c
    less true c = omega arith
    less false c = omega arith

    begun : (v : FunctionalUnit) → (begin v).op.core.cycles_left ≤ v.op.core.cycles_left
    begun v = less (in_phase Read v) v.op.core.cycles_left

pub ahead-three : (us : List FunctionalUnit) → Ahead us → FreeToGo us → Ahead (map three us)
unfolding units
ahead-three us a f =
    record {
      two = length-of three us ∙ a.two;
      quick = λ i w e m.
          let b = three_back us i w e in
          let k = a.quick i b.0 b.1 (subst (λ (x : FunctionalUnit). is_memory x.class ≡ true) (sym b.2) m) in
          subst (λ (x : FunctionalUnit). x.op.core.cycles_left ≤ 1) b.2 (omega (arith, k, three-quick b.0));
      ahead = λ i j w z d e x y l.
          let b = three_back us i w d in
          let c = three_back us j z e in
          let p = access b.0 (subst Access (sym b.2) x) in
          let q = access c.0 (subst Access (sym c.2) y) in
          let o : Older b.0 c.0
          = subst (λ (t : FunctionalUnit). t.op.core.seq < c.0.op.core.seq) (sym b.2)
          (subst (λ (t : FunctionalUnit). w.op.core.seq < t.op.core.seq) (sym c.2) l) in
          let g = f i j b.0 c.0 b.1 c.1 p q o in
          let less = work_less b.0 p.busy g.0 g.1 in
          omega (
            arith,
            less,
            work-slow c.0,
            a.ahead i j b.0 c.0 b.1 c.1 p q o,
            ap unit-work b.2,
            ap unit-work c.2,
          );
    }
  where
    access : (u : FunctionalUnit) → Access (three u) → Access u
    access u x = record { busy = x.busy; memory = x.memory }
