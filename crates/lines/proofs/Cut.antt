-- The scan for a byte, and the parts of a text that is cut there.
use Prim.Native.Nat.{ℕ, suc, ◌+◌, ◌-◌, ◌≤◌, ◌<◌}
use mathlib.Core.Path.{◌≡◌, subst, refl, sym, ap, ◌∙◌}
use mathlib.Core.Bool.{true, false}
use mathlib.Core.Logic.{⊎_elim}
use Rattle.std.specs.Prelude.{unwrap_or, ◌==◌}
use mathlib.Core.List.{[], ◌∷◌, ◌++◌, append-nil}
use native.Mathlib.Nat.{zero-add}
use native.Mathlib.Omega.{arith}
use lib.Dec.{eqb, ltb}
use lib.ListN.{length, get_or, take, drop, drop_of_length-le, length-drop}
use lib.Seq.{append_snoc, length-take-le, take_all}
use borrow.Author.Tests.{eqb-true, eqb-false, eq-eqb, ne_eqb, lt-ltb, le-ltb}
use Rattle.std.specs.List.{list_any, position_from}
use Rattle.laws.specs.Texts.{Text, before, beyond}
use Rattle.laws.proofs.Tests.{cond-eq, cond-ne, true-or-false, lt-or-ge}
use Rattle.laws.proofs.Slices.{list-next, seen-take}
use Rattle.laws.proofs.Search.{any-hit, any-miss, any-end}
use Rattle.lines.specs.Cut.{Cut}

-- ── What each does at a byte ──────────────────────────────────────────────────

module _ {b x : ℕ} where
  pub before-hit : x ≡ b → (xs : Text) → before b (x ∷ xs) ≡ []
  unfolding before
  before-hit h xs = cond-eq _ _ h

  pub before-miss : (x ≡ b → ⊥) → (xs : Text) → before b (x ∷ xs) ≡ x ∷ before b xs
  unfolding before
  before-miss h xs = cond-ne _ _ h

  pub beyond-hit : x ≡ b → (xs : Text) → beyond b (x ∷ xs) ≡ xs
  unfolding beyond
  beyond-hit h xs = cond-eq _ _ h

  pub beyond-miss : (x ≡ b → ⊥) → (xs : Text) → beyond b (x ∷ xs) ≡ beyond b xs
  unfolding beyond
  beyond-miss h xs = cond-ne _ _ h

-- ── The first byte b ──────────────────────────────────────────────────────────

one-more : (m k : ℕ) → ltb m k ≡ ltb (suc m) (suc k)
one-more m k =
    ⊎_elim
    (λ h. lt-ltb m k h ∙ sym (lt-ltb (suc m) (suc k) (omega arith)))
    (λ h. le-ltb m k h ∙ sym (le-ltb (suc m) (suc k) (omega arith)))
    (lt-or-ge m k)

module _ {b x : ℕ} {xs : Text} where
  cut_hit : x ≡ b → Cut b (x ∷ xs) (length (before b (x ∷ xs)))
  cut_hit e =
      record {
        most = rw (before-hit e xs) (omega arith);
        front = rw (before-hit e xs);
        back = rw (before-hit e xs, beyond-hit e xs);
        there = rw (before-hit e xs) (any-hit (eqb b) (eq-eqb b x (sym e)) xs ∙ sym (lt-ltb 0 (length (x ∷ xs)) (omega arith)));
      }

  cut_miss : (x ≡ b → ⊥) → Cut b xs (length (before b xs)) → Cut b (x ∷ xs) (length (before b (x ∷ xs)))
  cut_miss n r =
      let j : length (x ∷ before b xs) + 1 ≡ suc (length (before b xs) + 1) = omega arith in
      record {
        most = rw (before-miss n xs) (omega (arith, r.most));
        front = rw (before-miss n xs) (ap (λ t. x ∷ t) r.front);
        back = rw (before-miss n xs, beyond-miss n xs, j) r.back;
        there = rw (before-miss n xs) (any-miss (eqb b) (ne_eqb b x (λ p. n (sym p))) xs ∙ r.there ∙ one-more (length (before b xs)) (length xs));
      }

cut_before : (b : ℕ) (t : Text) → Cut b t (length (before b t))
unfolding before beyond
cut_before b [] = record { most = omega arith; front = refl; back = refl; there = refl }
cut_before b (x ∷ xs) =
    ⊎_elim (λ h. cut_hit (eqb-true x b h)) (λ h. cut_miss (eqb-false x b h) (cut_before b xs)) (true-or-false (eqb x b))

abbrev place : ℕ → ℕ → Text → ℕ
place b i t = unwrap_or (position_from (λ (x : ℕ). x == b) i t) (i + length t)

found : (b : ℕ) (t : Text) (i : ℕ) → place b i t ≡ i + length (before b t)
unfolding before
found b [] i = refl
found b (x ∷ xs) i =
    let e = found b xs (i + 1) in
    let a : i + length (x ∷ xs) ≡ i + 1 + length xs = omega arith in
    let hit : eqb x b ≡ true → place b i (x ∷ xs) ≡ i + length (before b (x ∷ xs)) = λ h. rw h (omega arith) in
    let miss : eqb x b ≡ false → place b i (x ∷ xs) ≡ i + length (before b (x ∷ xs)) = λ h. rw (h, a) (e ∙ omega arith) in
    ⊎_elim hit miss (true-or-false (eqb x b))

pub cut_found : (b : ℕ) (t : Text) → Cut b t (unwrap_or (position_from (λ (x : ℕ). x == b) 0 t) (length t))
cut_found b t = subst (λ (i : ℕ). Cut b t i) (sym (simp zero-add at (found b t 0))) (cut_before b t)

-- ── What is cut ───────────────────────────────────────────────────────────────

-- What a part of a slice holds, from a place on.
abbrev pub left : Text → ℕ → Text
left t a = take (length t - a) (drop a t)

pub left-drop : (t : Text) (a : ℕ) → left t a ≡ drop a t
left-drop t a = take_all (length t - a) (drop a t) (simp length-drop (omega arith))

pub left-length : (t : Text) (a : ℕ) → length (left t a) ≡ length t - a
left-length t a = ap length (left-drop t a) ∙ length-drop a t

module _ {b : ℕ} {t : Text} {i : ℕ} (e : Cut b t i) where
  -- The place is how many bytes stand before it.
  pub cut-place : i ≡ length (before b t)
  cut-place = sym (length-take-le i t e.most) ∙ ap length e.front

  pub cut-there : i < length t → list_any (eqb b) t ≡ true
  cut-there h = e.there ∙ lt-ltb i (length t) h

  pub cut-nowhere : length t ≤ i → list_any (eqb b) t ≡ false
  cut-nowhere h = e.there ∙ le-ltb i (length t) h

  pub part-beyond : left t (i + 1) ≡ beyond b t
  part-beyond = left-drop t (i + 1) ∙ e.back

  -- At the end nothing stands beyond it.
  pub part-last : length t ≤ i → left t i ≡ beyond b t
  part-last h =
      let k : length t ≤ i + 1 = omega arith in
      left-drop t i ∙ drop_of_length-le t h ∙ sym (drop_of_length-le t k) ∙ e.back
