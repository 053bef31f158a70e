-- Places counted: how often one is taken, and that waits name those that are.
use Prim.Native.Nat.{ℕ, zero, suc, ◌+◌, ◌≤◌, ◌<◌}
use mathlib.Core.Path.{◌≡◌, refl, sym, subst, ap, ap₂, ◌∙◌}
use mathlib.Core.Bool.{Bool, true, false, cond, ◌||◌}
use mathlib.Core.Logic.{◌⊎◌, inl, inr, ⊎_elim}
use mathlib.Core.List.{List, [], ◌∷◌, ◌++◌}
use native.Mathlib.Omega.{arith}
use native.Mathlib.Nat.{not-suc-le-zero, le_of_suc-le-suc}
use lib.Dec.{eqb}
use lib.ListN.{length, get_or, set}
use borrow.Author.Tests.{eqb-true, eqb-false}
use Rattle.laws.specs.Lists.{All, count, elem}
use Rattle.std.specs.List.{list_any}
use Rattle.laws.proofs.Tests.{cond-ne, true-or-false}
use Rattle.stalls.specs.declared.Trace.{Trace}
use Rattle.stalls.specs.View.{listed}
use Rattle.bank.specs.View.{places}
use Rattle.board.specs.declared.Board.{Board}
use Rattle.board.specs.Promises.{queue_places, taken_places, unit_places, Apart, Names, Named}

-- ── Counting ────────────────────────────────────────────────────────────────

module _ {A : Type 0} (q : A → Bool) where
  pub count-append : (s t : List A) → count q (s ++ t) ≡ count q s + count q t
  unfolding count
  count-append [] t = omega arith
  count-append (x ∷ s) t = omega (arith, count-append s t)

  pub count_set : (l : List A) (i : ℕ) (x d : A) → i < length l
      → count q (set l i x) + cond (q (get_or l i d)) 1 0 ≡ count q l + cond (q x) 1 0
  unfolding count
  count_set [] i x d h = absurd (not-suc-le-zero h)
  count_set (y ∷ ys) zero x d h = omega arith
  count_set (y ∷ ys) (suc i) x d h = omega (arith, count_set ys i x d (le_of_suc-le-suc h))

  pub any-count : (l : List A) → list_any q l ≡ true → 1 ≤ count q l
  unfolding count
  any-count [] e = absurd (let z : ◌≡◌ {A = ℕ} 0 1 = cc in omega arith)
  any-count (x ∷ xs) e = go (q x) (any-count xs) e
    where
      go : (b : Bool) → (list_any q xs ≡ true → 1 ≤ count q xs) → (b || list_any q xs) ≡ true → 1 ≤ cond b 1 0 + count q xs
      go true f e = omega arith
      go false f e = omega (arith, f e)

  pub count-any : (l : List A) → 1 ≤ count q l → list_any q l ≡ true
  unfolding count
  count-any [] h = absurd (let z : ⊥ = omega arith in z)
  count-any (x ∷ xs) h = go (q x) (count-any xs) h
    where
      go : (b : Bool) → (1 ≤ count q xs → list_any q xs ≡ true) → 1 ≤ cond b 1 0 + count q xs → (b || list_any q xs) ≡ true
      go true f h = refl
      go false f h = f (omega arith)

-- The place at i goes from its place to the end.
pub count-moved : (ps : List ℕ) {i p x : ℕ} → i < length ps → get_or ps i 80 ≡ x → (p ≡ 80 → ⊥)
    → count (eqb p) (set ps i 80) + cond (eqb p x) 1 0 ≡ count (eqb p) ps
count-moved ps {i} {p} {x} h e n =
    ap (λ y. count (eqb p) (set ps i 80) + cond (eqb p y) 1 0) (sym e) ∙ count_set (eqb p) ps i 80 80 h
    ∙ ap (λ k. count (eqb p) ps + k) (cond-ne {A = ℕ} 1 0 n) ∙ omega arith

-- ── Waits that name places ──────────────────────────────────────────────────

-- As many of each place or more.
abbrev pub More : List ℕ → List ℕ → Type 0
More ps qs = (p : ℕ) → (p ≡ 80 → ⊥) → count (eqb p) ps ≤ count (eqb p) qs

module _ (ps qs : List ℕ) (h : More ps qs) where
  place-more : (p : ℕ) → (p ≡ 80) ⊎ (elem p ps ≡ true) → (p ≡ 80) ⊎ (elem p qs ≡ true)
  place-more p (inl e) = inl e
  place-more p (inr e) = ⊎_elim (λ t. inl (eqb-true p 80 t)) (λ t. inr (count-any (eqb p) qs (omega (arith, any-count (eqb p) ps e, h p (eqb-false p 80 t))))) (true-or-false (eqb p 80))

  pub names_more : (l : List Trace) → All (Names ps) l → All (Names qs) l
  names_more [] a = tt
  names_more (t ∷ l) a = (record { mine = place-more t.mine a.0.mine; other = place-more t.other a.0.other }, names_more l a.1)

-- Beside others.
pub more_left : (ps qs : List ℕ) → More ps (ps ++ qs)
more_left ps qs p n = omega (arith, count-append (eqb p) ps qs)

-- ── The places of a board ───────────────────────────────────────────────────

pub taken-count : (p : ℕ) (b : Board)
    → count (eqb p) (taken_places b) ≡ count (eqb p) (places b.units) + count (eqb p) (queue_places b) + cond (eqb p b.gone) 1 0
unfolding taken_places count
taken-count p b =
    count-append (eqb p) (places b.units ++ queue_places b) (b.gone ∷ [])
    ∙ omega (arith, count-append (eqb p) (places b.units) (queue_places b))

-- None is taken more often than it was.
pub apart-kept : (b r : Board) → ((p : ℕ) → p < 80 → count (eqb p) (taken_places r) ≤ count (eqb p) (taken_places b)) → Apart b → Apart r
apart-kept b r h a p k = omega (arith, h p k, a p k)

-- The places taken, by their parts.
pub same_taken : (b r : Board) → places r.units ≡ places b.units → queue_places r ≡ queue_places b → r.gone ≡ b.gone → taken_places r ≡ taken_places b
unfolding taken_places
same_taken b r e f g = ap₂ (λ (s : List ℕ) t. s ++ t ∷ []) (ap₂ (λ (s t : List ℕ). s ++ t) e f) g

pub same-apart : (b r : Board) → places r.units ≡ places b.units → queue_places r ≡ queue_places b → r.gone ≡ b.gone → Apart b → Apart r
same-apart b r e f g a p h = subst (λ (ps : List ℕ). count (eqb p) ps ≤ 1) (sym (same_taken b r e f g)) (a p h)

-- The queue is dropped.
pub dropped-apart : (b r : Board) → places r.units ≡ places b.units → queue_places r ≡ [] → r.gone ≡ b.gone → Apart b → Apart r
unfolding count
dropped-apart b r e f g =
    apart-kept b r
    (λ p h.
    omega (arith, taken-count p b, taken-count p r, ap (count (eqb p)) e, ap (count (eqb p)) f, ap {B = ℕ} (λ k. cond (eqb p k) 1 0) g))

-- The operation of unit i leaves: its place is no longer a unit's.
pub left-apart : (b r : Board) {i : ℕ} → i < length (places b.units) → places r.units ≡ set (places b.units) i 80
    → get_or (places b.units) i 80 ≡ r.gone → queue_places r ≡ queue_places b → Apart b → Apart r
left-apart b r h e g f =
    apart-kept b r
    (λ p k.
    omega (
      arith,
      taken-count p b,
      taken-count p r,
      ap (count (eqb p)) e,
      ap (count (eqb p)) f,
      count-moved (places b.units) {p = p} h g (λ q. omega arith),
    ))

pub left-more : (ps : List ℕ) {qs : List ℕ} {i x : ℕ} → i < length ps → qs ≡ set ps i 80 → get_or ps i 80 ≡ x → More ps (qs ++ x ∷ [])
unfolding count
left-more ps {qs} {x = x} h e g p n =
    omega (arith, count-append (eqb p) qs (x ∷ []), ap (count (eqb p)) e, count-moved ps {p = p} h g n)

-- Waits that name places of units, beside any place more.
pub named_units : (b : Board) → Named (places b.units) b → Named (unit_places b) b
named_units b = names_more (places b.units) (unit_places b) (more_left (places b.units) (b.gone ∷ [])) (listed b.log.traces)
