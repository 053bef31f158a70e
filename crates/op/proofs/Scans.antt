-- The two scans of a first word: over the leading spaces, and over the word.
use Rattle.std.proofs.Common.{
  ◌≡◌,
  ℕ,
  ◌-◌,
  ◌<◌,
  ◌≤◌,
  Bool,
  true,
  false,
  not,
  ◌==◌,
  eqb,
  List,
  [],
  ◌∷◌,
  length,
  take,
  drop,
  position,
  unwrap_or,
  Some,
  None,
  sym,
  refl,
  ap,
  ◌∙◌,
  ⊎_elim,
  arith,
  one-add,
  length-drop,
  drop_of_length-le,
  take_all,
}
use Rattle.std.specs.List.{position_or_len}
use Rattle.std.proofs.lemmas.List.Sums.{prefix_len-le-length}
use Rattle.laws.specs.Texts.{Text, before}
use Rattle.laws.proofs.Tests.{cond-eq, cond-ne, true-or-false, lt-or-ge, cond-lt, cond-ge}
use Rattle.model.specs.Op.{skip_spaces, to_space}
use Rattle.op.specs.FirstWord.{or_text, word_or}

-- ── What each does at a byte ──────────────────────────────────────────────────

module _ {x : ℕ} where
  pub skip-space : x ≡ 32 → (xs : Text) → skip_spaces (x ∷ xs) ≡ skip_spaces xs
  unfolding skip_spaces
  skip-space h xs = cond-eq _ _ h

  pub skip-word : (x ≡ 32 → ⊥) → (xs : Text) → skip_spaces (x ∷ xs) ≡ x ∷ xs
  unfolding skip_spaces
  skip-word h xs = cond-ne _ _ h

  pub to_end : x ≡ 32 → (xs : Text) → to_space (x ∷ xs) ≡ []
  unfolding before
  to_end h xs = cond-eq _ _ h

  pub to-more : (x ≡ 32 → ⊥) → (xs : Text) → to_space (x ∷ xs) ≡ x ∷ to_space xs
  unfolding before
  to-more h xs = cond-ne _ _ h

-- ── What `position` finds ─────────────────────────────────────────────────────

abbrev black : ℕ → Bool
black b = not (b == 32)

abbrev white : ℕ → Bool
white b = b == 32

skipped : (t : Text) → drop (position_or_len black t) t ≡ skip_spaces t
unfolding skip_spaces
skipped [] = refl
skipped (x ∷ t) = ⊎_elim (λ e. rw e (rw one-add (skipped t))) (λ e. rw e refl) (true-or-false (eqb x 32))

to-word : (t : Text) → take (position_or_len white t) t ≡ to_space t
unfolding before
to-word [] = refl
to-word (x ∷ t) = ⊎_elim (λ e. rw e refl) (λ e. rw e (rw one-add (ap (λ u. x ∷ u) (to-word t)))) (true-or-false (eqb x 32))

-- Where the first word starts there is one.
starts : (t : Text) → position_or_len black t < length t → to_space (skip_spaces t) ≡ [] → ⊥
unfolding skip_spaces before
starts [] h e = omega arith
starts (x ∷ t) h q =
    ⊎_elim
    (λ (e : eqb x 32 ≡ true). let k = rw e at h in starts t (omega arith) (rw e at q))
    (λ (e : eqb x 32 ≡ false). let k = rw e at q in let m = rw e at k in cc)
    (true-or-false (eqb x 32))

module _ {X : Type 0} (p : X → Bool) (t : List X) where
  at-some : {i : ℕ} → position p t ≡ Some i → (position_or_len p t ≡ i) × (i < length t)
  at-some {i} e = ⊎_elim
      (λ h. let q : position_or_len p t ≡ i = cc (cond-lt (Some (position_or_len p t)) None h) in (q, omega arith))
      (λ h. absurd (cc (cond-ge (Some (position_or_len p t)) None h)))
      (lt-or-ge (position_or_len p t) (length t))

  at-none : position p t ≡ None → length t ≤ position_or_len p t
  at-none e = ⊎_elim (λ h. absurd (cc (cond-lt (Some (position_or_len p t)) None h))) (λ h. h) (lt-or-ge (position_or_len p t) (length t))

  at-end : unwrap_or (position p t) (length t) ≡ position_or_len p t
  at-end = ⊎_elim
      (λ h. ap (λ o. unwrap_or o (length t)) (cond-lt _ _ h))
      (λ h. ap (λ o. unwrap_or o (length t)) (cond-ge _ _ h) ∙ (omega (arith, prefix_len-le-length (λ x. not (p x)) t)))
      (lt-or-ge (position_or_len p t) (length t))

-- ── The word between the two ──────────────────────────────────────────────────

or_text-some : (n t : Text) → (t ≡ [] → ⊥) → or_text n t ≡ t
unfolding or_text
or_text-some n [] h = absurd (h refl)
or_text-some n (x ∷ xs) h = refl

pub no_word : (n t : Text) → position black t ≡ None → n ≡ word_or n t
unfolding word_or or_text before
no_word n t e =
    let d : skip_spaces t ≡ [] = sym (skipped t) ∙ drop_of_length-le t (at-none black t e) in
    ap (λ u. or_text n (to_space u)) (sym d)

-- `rest` is t from place i on.
pub some_word : (n t rest : Text) (i e : ℕ) → position black t ≡ Some i → rest ≡ take (length t - i) (drop i t)
    → e ≡ unwrap_or (position white rest) (length rest) → take e rest ≡ word_or n t
unfolding word_or
some_word n t rest i e p r q =
    let a = at-some black t p in
    let k : length (drop i t) ≤ length t - i = simp length-drop (omega arith) in
    let d : rest ≡ skip_spaces t = r ∙ take_all _ _ k ∙ ap (λ j. drop j t) (sym a.0) ∙ skipped t in
    let w : take e rest ≡ to_space (skip_spaces t) = ap (λ j. take j rest) (q ∙ at-end white rest) ∙ to-word rest ∙ ap to_space d in
    w ∙ sym (or_text-some n _ (starts t (omega (arith, a.0, a.1))))

pub ruleset words = (no_word, some_word)
