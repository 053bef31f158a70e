-- A list of calls, call by call: each has a byte or more, and with enough fuel the rest is tested and read with the same fuel.
use Prim.Native.Nat.{ℕ, zero, suc, ◌+◌, ◌≤◌, ◌<◌}
use mathlib.Core.Path.{◌≡◌, refl, sym, ap, ◌∙◌}
use mathlib.Core.Bool.{Bool, true, false, ◌&&◌}
use mathlib.Core.Logic.{⊎_elim}
use mathlib.Core.List.{List, [], ◌∷◌}
use native.Mathlib.Omega.{arith}
use lib.Dec.{ltb, leb, eqb}
use lib.ListN.{length}
use borrow.Author.Tests.{lt-ltb, le-ltb, ltb-true, leb-true}
use Rattle.laws.proofs.Tests.{and_both, lt-or-ge}
use Rattle.decoding.specs.Bytes.{byte_at}
use Rattle.decoding.specs.Calls.{size_at, call_at, parts_formed, formed_at}
use Rattle.decoding.specs.Script.{calls_at, all_formed}

-- ── One call ────────────────────────────────────────────────────────────────

pub record Formed (l : List ℕ) (at : ℕ) : Type 0 where
  pub some : 1 ≤ size_at l at
  pub inside : at + size_at l at ≤ length l
  pub parts : parts_formed (byte_at l at) l at ≡ true

pub formed-is : (l : List ℕ) (at : ℕ) → formed_at l at ≡ true → Formed l at
unfolding formed_at
formed-is l at e =
    let a = and_both (ltb 0 (size_at l at)) _ e in
    let b = and_both (leb (at + size_at l at) (length l)) _ a.1 in
    record { some = ltb-true 0 (size_at l at) a.0; inside = leb-true (at + size_at l at) (length l) b.0; parts = b.1 }

-- ── At the end, and before it ───────────────────────────────────────────────

module _ (l : List ℕ) {at : ℕ} where
  pub all_formed-end : (fuel : ℕ) → length l ≤ at → all_formed fuel l at ≡ eqb at (length l)
  unfolding all_formed
  all_formed-end zero h = refl
  all_formed-end (suc fuel) h = rw (le-ltb at (length l) h, all_formed)

  all_formed-more : (fuel : ℕ) → at < length l → all_formed (suc fuel) l at ≡ (formed_at l at && all_formed fuel l (at + size_at l at))
  unfolding all_formed
  all_formed-more fuel h = rw (lt-ltb at (length l) h, all_formed)

  pub calls-end : (fuel : ℕ) → length l ≤ at → calls_at fuel l at ≡ []
  unfolding calls_at
  calls-end zero h = refl
  calls-end (suc fuel) h = rw (le-ltb at (length l) h, calls_at)

  calls-more : (fuel : ℕ) → at < length l → calls_at (suc fuel) l at ≡ call_at l at ∷ calls_at fuel l (at + size_at l at)
  unfolding calls_at
  calls-more fuel h = rw (lt-ltb at (length l) h, calls_at)

-- ── The fuel does not count where it is at least the bytes left ─────────────

-- A test that both share, and then what the calls behind it give.
alike : {a b : Bool} (p : Bool) → (p ≡ true → a ≡ b) → (p && a) ≡ (p && b)
alike true h = h refl
alike false h = refl

module _ (l : List ℕ) where
  -- At the end nothing is left to test or to read.
  at-end : (f g at : ℕ) → length l ≤ at → (all_formed f l at ≡ all_formed g l at) × (calls_at f l at ≡ calls_at g l at)
  at-end f g at h = (all_formed-end l f h ∙ sym (all_formed-end l g h), calls-end l f h ∙ sym (calls-end l g h))

  pub all_formed-enough : (f g at : ℕ) → length l ≤ at + f → length l ≤ at + g → all_formed f l at ≡ all_formed g l at
  all_formed-enough zero g at p q = (at-end zero g at (omega arith)).0
  all_formed-enough (suc f) zero at p q = (at-end (suc f) zero at (omega arith)).0
  all_formed-enough (suc f) (suc g) at p q =
      ⊎_elim
      (λ (h : at < length l).
      all_formed-more l f h
      ∙ alike (formed_at l at) (λ e. let s = (formed-is l at e).some in all_formed-enough f g (at + size_at l at) (omega arith) (omega arith))
      ∙ sym (all_formed-more l g h))
      (λ (h : length l ≤ at). (at-end (suc f) (suc g) at h).0)
      (lt-or-ge at (length l))

  pub calls-enough : (f g at : ℕ) → length l ≤ at + f → length l ≤ at + g → all_formed f l at ≡ true → calls_at f l at ≡ calls_at g l at
  calls-enough zero g at p q e = (at-end zero g at (omega arith)).1
  calls-enough (suc f) zero at p q e = (at-end (suc f) zero at (omega arith)).1
  calls-enough (suc f) (suc g) at p q e =
      ⊎_elim
      (λ (h : at < length l).
      let b = and_both (formed_at l at) _ (sym (all_formed-more l f h) ∙ e) in
      let s = (formed-is l at b.0).some in
      calls-more l f h
      ∙ ap (λ t. call_at l at ∷ t) (calls-enough f g (at + size_at l at) (omega arith) (omega arith) b.1)
      ∙ sym (calls-more l g h))
      (λ (h : length l ≤ at). (at-end (suc f) (suc g) at h).1)
      (lt-or-ge at (length l))

-- ── Call by call, with the same fuel ────────────────────────────────────────

module _ (l : List ℕ) {at : ℕ} (fuel : ℕ) (h : at < length l) (p : length l ≤ at + fuel) where
  pub all_formed-next : all_formed fuel l at ≡ (formed_at l at && all_formed fuel l (at + size_at l at))
  all_formed-next = go fuel p
    where
      go : (f : ℕ) → length l ≤ at + f → all_formed f l at ≡ (formed_at l at && all_formed f l (at + size_at l at))
      go zero p = absurd (let z : ⊥ = omega arith in z)
      go (suc f) p =
          all_formed-more l f h
          ∙ alike (formed_at l at) (λ e. let s = (formed-is l at e).some in all_formed-enough l f (suc f) (at + size_at l at) (omega arith) (omega arith))

  -- The first call, and those behind it.
  module _ (e : all_formed fuel l at ≡ true) where
    pub first-formed : formed_at l at ≡ true
    first-formed = (and_both (formed_at l at) _ (sym all_formed-next ∙ e)).0

    pub rest-formed : all_formed fuel l (at + size_at l at) ≡ true
    rest-formed = (and_both (formed_at l at) _ (sym all_formed-next ∙ e)).1

    pub calls-next : calls_at fuel l at ≡ call_at l at ∷ calls_at fuel l (at + size_at l at)
    calls-next = go fuel p e
      where
        go : (f : ℕ) → length l ≤ at + f → all_formed f l at ≡ true → calls_at f l at ≡ call_at l at ∷ calls_at f l (at + size_at l at)
        go zero p e = absurd (let z : ⊥ = omega arith in z)
        go (suc f) p e =
            let b = and_both (formed_at l at) _ (sym (all_formed-more l f h) ∙ e) in
            let s = (formed-is l at b.0).some in
            calls-more l f h
            ∙ ap (λ t. call_at l at ∷ t) (calls-enough l f (suc f) (at + size_at l at) (omega arith) (omega arith) b.1)
