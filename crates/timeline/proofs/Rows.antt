-- The list of rows by a function of their ids: read, opened, and a cell pushed.
use Prim.Native.Nat.{ℕ, zero, suc, ◌+◌, ◌-◌, ◌≤◌, ◌<◌, min}
use mathlib.Core.Path.{◌≡◌, refl, sym, ap, ap₂, ◌∙◌}
use mathlib.Core.Bool.{cond}
use mathlib.Core.Logic.{◌⊎◌, inl, inr, ⊎_elim}
use Rattle.std.specs.Prelude.{Some, slice_get}
use mathlib.Core.List.{List, [], ◌∷◌, ◌++◌}
use native.Mathlib.Nat.{add-zero, not-suc-le-zero, le_of_suc-le-suc}
use native.Mathlib.Omega.{arith}
use lib.Dec.{eqb}
use lib.ListN.{length, drop}
use Rattle.laws.proofs.Tests.{cond-eq, cond-ne, lt-or-ge}
use Rattle.model.specs.Timeline.{Row, add_cell, push, push_writes, next_place, open_row}
use Rattle.timeline.specs.View.{from}

-- ── Rows one after the other ────────────────────────────────────────────────

module _ (f : ℕ → Row) where
  pub from-length : (i n : ℕ) → length (from f i n) ≡ n
  unfolding from
  from-length i zero = refl
  from-length i (suc n) = ap suc (from-length (suc i) n)

  pub from-nth : (i n : ℕ) {k : ℕ} → k < n → slice_get (from f i n) k ≡ Some (f (i + k))
  unfolding from
  from-nth i zero h = absurd (not-suc-le-zero h)
  from-nth i (suc n) {k = zero} h = ap (λ j. Some (f j)) (sym (add-zero i))
  from-nth i (suc n) {k = suc k} h = from-nth (suc i) n (le_of_suc-le-suc h) ∙ ap (λ j. Some (f j)) (omega arith)

  pub from_last : (i n : ℕ) → from f i (suc n) ≡ from f i n ++ f (i + n) ∷ []
  unfolding from
  from_last i zero = ap (λ j. f j ∷ []) (sym (add-zero i))
  from_last i (suc n) = ap (λ t. f i ∷ t) (from_last (suc i) n ∙ ap (λ j. from f (suc i) n ++ f j ∷ []) (omega arith))

  pub from-drop : (d i n : ℕ) → drop d (from f i n) ≡ from f (i + d) (n - d)
  unfolding from
  from-drop zero i n = let z : n ≡ n - 0 = omega arith in ap₂ (from f) (sym (add-zero i)) z
  from-drop (suc d) i zero = ap (from f (i + suc d)) (let z : 0 ≡ 0 - suc d = omega arith in z)
  from-drop (suc d) i (suc n) = let y : suc i + d ≡ i + suc d = omega arith in let z : n - d ≡ suc n - suc d = omega arith in from-drop d (suc i) n ∙ ap₂ (from f) y z

module _ {f g : ℕ → Row} where
  pub from-same : (i n : ℕ) → ((x : ℕ) → i ≤ x → x < i + n → f x ≡ g x) → from f i n ≡ from g i n
  unfolding from
  from-same i zero e = refl
  from-same i (suc n) e = ap₂ ◌∷◌ (e i (omega arith) (omega arith)) (from-same (suc i) n (λ x l m. e x (omega arith) (omega arith)))

-- f, but r at id j
abbrev pub with_row : (ℕ → Row) → ℕ → Row → ℕ → Row
with_row f j r x = cond (eqb x j) r (f x)

pub with-row-other : (f : ℕ → Row) (j : ℕ) (r : Row) (x : ℕ) → (x ≡ j → ⊥) → f x ≡ with_row f j r x
with-row-other f j r x h = sym (cond-ne r (f x) h)

-- ── A cell ──────────────────────────────────────────────────────────────────

module _ (f : ℕ → Row) (ids : (x : ℕ) → (f x).id ≡ x) (j : ℕ) where
  abbrev after : ℕ → Row
  after = with_row f j (add_cell (f j))

  push-hit : (i : ℕ) (rows rest : List Row) → rows ≡ rest → i ≡ j → push j (f i ∷ rows) ≡ after i ∷ rest
  unfolding push
  push-hit i rows rest e q = cond-eq _ _ (ids i ∙ q) ∙ ap₂ ◌∷◌ (ap (λ k. add_cell (f k)) q ∙ sym (cond-eq _ _ q)) e

  push-miss : (i : ℕ) (rows rest : List Row) → push j rows ≡ rest → (i ≡ j → ⊥) → push j (f i ∷ rows) ≡ after i ∷ rest
  unfolding push
  push-miss i rows rest e q = cond-ne _ _ (λ z. q (sym (ids i) ∙ z)) ∙ ap₂ ◌∷◌ (sym (cond-ne _ _ q)) e

  pub from-push : (i n : ℕ) → push j (from f i n) ≡ from after i n
  unfolding from push
  from-push i zero = refl
  from-push i (suc n) =
      ⊎_elim
      (λ (l : i < j). push-miss i _ _ (from-push (suc i) n) (λ z. omega arith))
      (λ (l : j ≤ i). ⊎_elim (λ (m : j < i). push-miss i _ _ (from-push (suc i) n) (λ z. omega arith)) (λ (m : i ≤ j). push-hit i _ _ (from-same (suc i) n (λ x k g. with-row-other f j (add_cell (f j)) x (λ z. omega arith))) (omega arith)) (lt-or-ge j i))
      (lt-or-ge i j)

  module _ (h c : ℕ) where
    writes-miss : (i : ℕ) (rows : List Row) → (i ≡ j → ⊥) → push_writes h j c (f i ∷ rows) ≡ push_writes h j c rows
    unfolding push_writes
    writes-miss i rows e = cond-ne _ _ (λ z. e (sym (ids i) ∙ z))

    writes-hit : (i : ℕ) (rows : List Row) → i ≡ j → push_writes h j c (f i ∷ rows) ≡ (next_place h (f j), c ∷ []) ∷ []
    unfolding push_writes
    writes-hit i rows q = cond-eq _ _ (ids i ∙ q) ∙ ap (λ x. (next_place h (f x), c ∷ []) ∷ []) q

    pub from-writes : (i n : ℕ) → i ≤ j → j < i + n → push_writes h j c (from f i n) ≡ (next_place h (f j), c ∷ []) ∷ []
    unfolding from
    from-writes i zero l m = absurd (let z : ⊥ = omega arith in z)
    from-writes i (suc n) l m =
        ⊎_elim
        (λ (k : i < j). writes-miss i _ (λ z. omega arith) ∙ from-writes (suc i) n (omega arith) (omega arith))
        (λ (k : j ≤ i). writes-hit i _ (omega arith))
        (lt-or-ge i j)

    pub from-no-writes : (i n : ℕ) → (j < i) ⊎ (i + n ≤ j) → push_writes h j c (from f i n) ≡ []
    unfolding from push_writes
    from-no-writes i zero o = refl
    from-no-writes i (suc n) o =
        ⊎_elim
        (λ (l : j < i). writes-miss i (from f (suc i) n) (λ z. omega arith) ∙ from-no-writes (suc i) n (inl (omega arith)))
        (λ (l : i + suc n ≤ j). writes-miss i (from f (suc i) n) (λ z. omega arith) ∙ from-no-writes (suc i) n (inr (omega arith)))
        o

-- ── A row opened ────────────────────────────────────────────────────────────

-- f the rows before, of which n are held from id b on; g those after.
module _ (f g : ℕ → Row) (h b n : ℕ) (r : Row) where
  abbrev longer : ℕ → Row
  longer = with_row f (b + n) r

  behind : from f b n ++ r ∷ [] ≡ from longer b (suc n)
  behind =
      let here : longer (b + n) ≡ r = cond-eq r (f (b + n)) {m = b + n} refl in
      sym
      (from_last longer b n
      ∙ ap₂ (λ l y. l ++ y ∷ [])
      (sym (from-same b n (λ x k l. with-row-other f (b + n) r x (λ z. omega arith))))
      here)

  pub from-open : n ≤ h → r ≡ g (b + n) → ((x : ℕ) → b ≤ x → x < b + n → b + n < x + h → f x ≡ g x)
      → from g (b + n + 1 - min (n + 1) h) (min (n + 1) h) ≡ open_row h r (from f b n)
  unfolding open_row
  from-open few q e =
      let size : length (from f b n ++ r ∷ []) ≡ suc n = ap length behind ∙ from-length longer b (suc n) in
      let start : b + (suc n - h) ≡ b + n + 1 - min (n + 1) h = omega arith in
      let left : suc n - (suc n - h) ≡ min (n + 1) h = omega arith in
      sym
      (ap₂ (λ k l. drop (k - h) l) size behind ∙ from-drop longer (suc n - h) b (suc n) ∙ ap₂ (from longer) start left
      ∙ from-same (b + n + 1 - min (n + 1) h) (min (n + 1) h) (λ x k l. ⊎_elim (older x k) (newest x l) (lt-or-ge x (b + n))))
    where
      older : (x : ℕ) → b + n + 1 - min (n + 1) h ≤ x → x < b + n → longer x ≡ g x
      older x k m = sym (with-row-other f (b + n) r x (λ z. omega arith)) ∙ e x (omega arith) m (omega arith)

      newest : (x : ℕ) → x < b + n + 1 - min (n + 1) h + min (n + 1) h → b + n ≤ x → longer x ≡ g x
      newest x l m = let z : x ≡ b + n = omega arith in cond-eq r (f x) z ∙ q ∙ ap g (sym z)
