-- What `oldest_busy` hands back is the place of the busy unit of the least number, the first of equals, or no unit is busy.
--     BestOf ys i b     the same of the best b of the first i units, as the fold over the list keeps it
use Rattle.std.proofs.Common.{
  Option,
  None,
  Some,
  ℕ,
  suc,
  ◌+◌,
  ◌-◌,
  ◌≤◌,
  ◌<◌,
  ◌≡◌,
  refl,
  sym,
  ◌∙◌,
  ap,
  subst,
  Bool,
  true,
  false,
  cond,
  ◌&&◌,
  List,
  [],
  ◌∷◌,
  add-zero,
  zero-add,
  arith,
  option_map,
  slice_get,
  length,
  drop,
  get_or,
}
use Rattle.std.proofs.lemmas.List.{drop_all}
use Rattle.laws.proofs.Slices.{list-next}
use mathlib.Core.Logic.{⊎_elim}
use native.Mathlib.Nat.{not-suc-le-zero}
use Rattle.std.specs.Option.{option_map_or}
use lib.Dec.{ltb}
use borrow.Author.Tests.{ltb-true, ltb-false}
use Rattle.laws.proofs.Tests.{lt-or-ge, cond_yes, cond_no, and_yes}
use Rattle.laws.proofs.Choices.{none-some, some_inj}
use Rattle.units.specs.declared.Unit.{Unit as Slot}
use Rattle.units.specs.declared.lent.Best.{Best}
use Rattle.units.specs.Lent.{best_at, better_of, best_from, oldest_busy, Oldest}

-- ---- the fold, place by place

pub best-end : (us : List Slot) (b : Option Best) {i : ℕ} → length us ≤ i → best_from i b (drop i us) ≡ b
unfolding best_from
best-end us b {i} h = ap (best_from i b) (drop_all i us h)

module _ (us : List Slot) (b : Option Best) (d : Slot) {i : ℕ} (h : i < length us) where
  next : best_from (i + 1) (better_of b (get_or us i d) i) (drop (i + 1) us) ≡ best_from i b (drop i us)
  unfolding best_from
  next = sym (ap (best_from i b) (list-next us d h).is)

  -- the unit at i is the best
  pub best-took : (get_or us i d).busy ≡ true → option_map_or (λ (x : Best). ltb (get_or us i d).seq x.seq) b true ≡ true
      → best_from (i + 1) (best_at (get_or us i d) i) (drop (i + 1) us) ≡ best_from i b (drop i us)
  unfolding better_of
  best-took e f = ap (λ (c : Option Best). best_from (i + 1) c (drop (i + 1) us)) (sym (cond_yes _ _ (and_yes e f))) ∙ next

  -- it is not
  pub best-stays : ((get_or us i d).busy && option_map_or (λ (x : Best). ltb (get_or us i d).seq x.seq) b true) ≡ false
      → best_from (i + 1) b (drop (i + 1) us) ≡ best_from i b (drop i us)
  unfolding better_of
  best-stays e = ap (λ (c : Option Best). best_from (i + 1) c (drop (i + 1) us)) (sym (cond_no _ _ e)) ∙ next

-- ---- what it finds

record Least (ys : List Slot) (i : ℕ) (b : Best) : Type 0 where
  here : (u : Slot) × (slice_get ys b.at ≡ Some u) × (u.busy ≡ true) × (u.seq ≡ b.seq)
  before : b.at < i
  least : (j : ℕ) (v : Slot) → j < i → slice_get ys j ≡ Some v → v.busy ≡ true → b.seq ≤ v.seq
  first : (j : ℕ) (v : Slot) → j < b.at → slice_get ys j ≡ Some v → v.busy ≡ true → b.seq < v.seq

abbrev BestOf : List Slot → ℕ → Option Best → Type 0
BestOf ys i None = (j : ℕ) (v : Slot) → j < i → slice_get ys j ≡ Some v → v.busy ≡ false
BestOf ys i (Some b) = Least ys i b

abbrev On : Bool → Type 0
On true = Unit {0}
On false = ⊥

-- a test does not come out both ways
apart : {A : Type 0} {t : Bool} → t ≡ true → t ≡ false → A
apart e f = absurd (subst On (sym e ∙ f) tt)

-- ---- one unit more

module _ (ys : List Slot) (i : ℕ) (u : Slot) (at_i : slice_get ys i ≡ Some u) where
  -- what holds of each unit before i, and of the unit at i, holds before i + 1
  below : (P : Slot → Type 0) → ((j : ℕ) (v : Slot) → j < i → slice_get ys j ≡ Some v → P v) → P u → (j : ℕ) (v : Slot) → j < i + 1 → slice_get ys j ≡ Some v → P v
  below P h p j v l e = ⊎_elim (λ (m : j < i). h j v m e) (λ (m : i ≤ j). subst P (same (omega arith)) p) (lt-or-ge j i)
    where
      same : i ≡ j → u ≡ v
      same q = some_inj u v (sym at_i ∙ ap (slice_get ys) q ∙ e)

  -- the unit at i is the best
  new : u.busy ≡ true → ((j : ℕ) (v : Slot) → j < i → slice_get ys j ≡ Some v → v.busy ≡ true → u.seq < v.seq) → BestOf ys (i + 1) (best_at u i)
  new t h = record {
    here = (u, at_i, t, refl);
    before = omega arith;
    least = below (λ v. v.busy ≡ true → u.seq ≤ v.seq) (λ j v m e k. omega (arith, h j v m e k)) (λ _. omega arith);
    first = h;
  }

  -- the best stays
  stays : {b : Best} → Least ys i b → (u.busy ≡ true → b.seq ≤ u.seq) → Least ys (i + 1) b
  stays {b} h g = record {
    here = h.here;
    before = omega (arith, h.before);
    least = below (λ v. v.busy ≡ true → b.seq ≤ v.seq) h.least g;
    first = h.first;
  }

  step : (b : Option Best) → BestOf ys i b → BestOf ys (i + 1) (better_of b u i)
  unfolding better_of
  step None h = by_test u.busy refl
    where
      by_test : (t : Bool) → u.busy ≡ t → BestOf ys (i + 1) (cond (t && true) (best_at u i) None)
      by_test true et = new et (λ j v m e k. apart k (h j v m e))
      by_test false et = below (λ v. v.busy ≡ false) h et
  step (Some b) h = by_tests u.busy (ltb u.seq b.seq) refl refl
    where
      by_tests : (t l : Bool) → u.busy ≡ t → ltb u.seq b.seq ≡ l → BestOf ys (i + 1) (cond (t && l) (best_at u i) (Some b))
      by_tests false l et el = stays h (λ k. apart k et)
      by_tests true true et el = new et (λ j v m e k. omega (arith, h.least j v m e k, ltb-true u.seq b.seq el))
      by_tests true false et el = stays h (λ _. ltb-false u.seq b.seq el)

-- ---- all of them

module _ (ys : List Slot) where
  reads : (i : ℕ) (b : Option Best) → ((j : ℕ) (v : Slot) → slice_get ys j ≡ Some v → j < i) → BestOf ys i b → Oldest ys (option_map (λ (x : Best). x.at) b)
  reads i None short h = λ j v m. h j v (short j v m) m
  reads i (Some b) short h =
      let w = h.here in (
        w.0,
        record {
          here = w.1;
          busy = w.2;
          least = λ j v m k. subst (λ (n : ℕ). n ≤ v.seq) (sym w.3) (h.least j v (short j v m) m k);
          first = λ j v l m k. subst (λ (n : ℕ). n < v.seq) (sym w.3) (h.first j v l m k);
        },
      )

  -- the units from i on are us
  all : (us : List Slot) (i : ℕ) (b : Option Best) → ((k : ℕ) → slice_get us k ≡ slice_get ys (i + k)) → BestOf ys i b → Oldest ys (option_map (λ (x : Best). x.at) (best_from i b us))
  unfolding best_from
  all [] i b left h = reads i b short h
    where
      past : (j : ℕ) (v : Slot) → slice_get ys j ≡ Some v → i ≤ j → j < i
      past j v e m = none-some v (left (j - i) ∙ ap (slice_get ys) (omega arith) ∙ e)

      short : (j : ℕ) (v : Slot) → slice_get ys j ≡ Some v → j < i
      short j v e = ⊎_elim (λ (l : j < i). l) (past j v e) (lt-or-ge j i)
  all (u ∷ us) i b left h = all us (i + 1) (better_of b u i) (λ k. left (suc k) ∙ ap (slice_get ys) (omega arith)) (step ys i u (sym (left 0 ∙ ap (slice_get ys) (add-zero i))) b h)

  pub oldest-is : Oldest ys (oldest_busy ys)
  unfolding oldest_busy
  oldest-is = all ys 0 None (λ k. ap (slice_get ys) (sym (zero-add k))) (λ j v l. absurd (not-suc-le-zero l))
