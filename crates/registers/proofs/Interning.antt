-- Interning, over lists of texts: a name gets its first place, and names that are there stay where they are.
use Prim.Native.Nat.{ℕ, suc, ◌≤◌, ◌<◌, max}
use mathlib.Core.Path.{◌≡◌, refl, sym, subst, ap, ◌∙◌}
use mathlib.Core.Bool.{true, false}
use mathlib.Core.Logic.{⊎_elim}
use Rattle.std.specs.Prelude.{None, Some}
use mathlib.Core.List.{List, [], ◌∷◌, ◌++◌}
use native.Mathlib.Omega.{arith}
use native.Mathlib.Nat.{not-suc-le-zero, le_of_suc-le-suc}
use lib.Dec.{T}
use lib.ListN.{length, take, drop, take-append-drop, length-take}
use lib.Seq.{take-take, take_all}
use Rattle.laws.specs.Optional.{when_some}
use Rattle.laws.specs.Texts.{Text, same}
use Rattle.laws.proofs.Tests.{true-or-false, cond_yes, cond_no}
use Rattle.laws.proofs.Choices.{bool_eq}
use Rattle.laws.proofs.Same.{same-eq, same-of-eq}
use Rattle.model.specs.Op.{info_of}
use Rattle.model.specs.Registers.{Interned, interned, behind, intern, numbered, number_first, intern_all, get, registers}
use Rattle.runs.proofs.Names.{Distinct, resolve-distinct}
use Rattle.registers.specs.Look.{through}

pub same-yes : (x a : Text) → same x a ≡ true → x ≡ a
same-yes x a e = same-eq x a (subst T (sym e) tt)

pub same_true : (x a : Text) → x ≡ a → same x a ≡ true
same_true x a e = bool_eq (same x a) true (λ t. tt) (λ t. same-of-eq x a e)

-- ── One name ──────────────────────────────────────────────────────────────────

module _ (a x : Text) (xs : List Text) where
  pub intern-here : same x a ≡ true → intern (x ∷ xs) a ≡ interned 0 (x ∷ xs)
  unfolding intern
  intern-here e = cond_yes _ _ e

  pub intern-behind : same x a ≡ false → intern (x ∷ xs) a ≡ behind x (intern xs a)
  unfolding intern
  intern-behind e = cond_no _ _ e

  get-here : same x a ≡ true → get (x ∷ xs) a ≡ Some 0
  unfolding get
  get-here e = cond_yes _ _ e

  get-behind : same x a ≡ false → get (x ∷ xs) a ≡ when_some (get xs a) None (λ (n : ℕ). Some (suc n))
  unfolding get
  get-behind e = cond_no _ _ e

module _ (a : Text) where
  -- By the first name: it is a, or it is not.
  pub by_first : (P : Interned → Type 0) (x : Text) (xs : List Text) → (same x a ≡ true → P (interned 0 (x ∷ xs)))
      → (same x a ≡ false → P (behind x (intern xs a)))
      → P (intern (x ∷ xs) a)
  by_first P x xs here on =
      ⊎_elim (λ t. rw (intern-here a x xs t) (here t)) (λ f. rw (intern-behind a x xs f) (on f)) (true-or-false (same x a))

  pub number-most : (ns : List Text) → (intern ns a).number ≤ length ns
  unfolding intern
  number-most [] = omega arith
  number-most (x ∷ xs) = by_first (λ r. r.number ≤ suc (length xs)) x xs (λ t. omega arith) (λ f. omega (arith, number-most xs))

  -- A name that is there changes nothing.
  pub names-held : (ns : List Text) → (intern ns a).number < length ns → (intern ns a).names ≡ ns
  unfolding intern
  names-held [] = λ h. absurd (not-suc-le-zero h)
  names-held (x ∷ xs) =
      by_first (λ r. r.number < suc (length xs) → r.names ≡ x ∷ xs) x xs (λ t h. refl)
      (λ f h. ap (λ t. x ∷ t) (names-held xs (le_of_suc-le-suc h)))

  -- A new name goes to the end.
  pub names-new : (ns : List Text) → length ns ≤ (intern ns a).number → (intern ns a).names ≡ ns ++ a ∷ []
  unfolding intern
  names-new [] = λ h. refl
  names-new (x ∷ xs) =
      by_first (λ r. suc (length xs) ≤ r.number → r.names ≡ x ∷ (xs ++ a ∷ [])) x xs (λ t h. absurd (not-suc-le-zero h))
      (λ f h. ap (λ t. x ∷ t) (names-new xs (le_of_suc-le-suc h)))

  -- RegisterTable::get finds the place that interning gives.
  pub get-held : (ns : List Text) → (intern ns a).number < length ns → get ns a ≡ Some (intern ns a).number
  unfolding intern
  get-held [] = λ h. absurd (not-suc-le-zero h)
  get-held (x ∷ xs) =
      by_first (λ r. r.number < suc (length xs) → get (x ∷ xs) a ≡ Some r.number) x xs (λ t h. get-here a x xs t)
      (λ f h. get-behind a x xs f ∙ ap (λ o. when_some o None (λ (n : ℕ). Some (suc n))) (get-held xs (le_of_suc-le-suc h)))

  pub get-new : (ns : List Text) → length ns ≤ (intern ns a).number → get ns a ≡ None
  unfolding intern get
  get-new [] = λ h. refl
  get-new (x ∷ xs) =
      by_first (λ r. suc (length xs) ≤ r.number → get (x ∷ xs) a ≡ None) x xs (λ t h. absurd (not-suc-le-zero h))
      (λ f h. get-behind a x xs f ∙ ap (λ o. when_some o None (λ (n : ℕ). Some (suc n))) (get-new xs (le_of_suc-le-suc h)))

  -- So many names there are then.
  pub intern-length : (ns : List Text) → length (intern ns a).names ≡ max (length ns) (suc (intern ns a).number)
  unfolding intern
  intern-length [] = refl
  intern-length (x ∷ xs) =
      by_first (λ r. length r.names ≡ max (suc (length xs)) (suc r.number)) x xs (λ t. omega arith)
      (λ f. omega (arith, intern-length xs))

  -- The names that were there stay in front.
  pub intern-begins : (ns : List Text) → take (length ns) (intern ns a).names ≡ ns
  intern-begins [] = refl
  intern-begins (x ∷ xs) =
      by_first (λ r. take (suc (length xs)) r.names ≡ x ∷ xs) x xs (λ t. ap (λ l. x ∷ l) (take_all (length xs) xs (omega arith)))
      (λ f. ap (λ l. x ∷ l) (intern-begins xs))

  -- Once interned, it stays at its place, whatever comes behind.
  pub intern-again : (ns more : List Text) → intern ((intern ns a).names ++ more) a ≡ interned (intern ns a).number ((intern ns a).names ++ more)
  unfolding intern
  intern-again [] more = intern-here a a more (same_true a a refl)
  intern-again (x ∷ xs) more =
      by_first (λ r. intern (r.names ++ more) a ≡ interned r.number (r.names ++ more)) x xs (λ t. intern-here a x (xs ++ more) t)
      (λ f. intern-behind a x ((intern xs a).names ++ more) f ∙ ap (behind x) (intern-again xs more))

-- ── A list of names ───────────────────────────────────────────────────────────

-- ns stands at the front of ls.
abbrev pub Begins : List Text → List Text → Type 0
Begins ns ls = take (length ns) ls ≡ ns

pub begins-self : (ns : List Text) → Begins ns ns
begins-self ns = take_all (length ns) ns (omega arith)

begins-length : (ns ls : List Text) → Begins ns ls → length ns ≤ length ls
begins-length ns ls p = omega (arith, simp length-take at (ap length p))

pub begins-trans : (ns ms ls : List Text) → Begins ns ms → Begins ms ls → Begins ns ls
begins-trans ns ms ls p q = sym (take-take (length ns) (length ms) ls (begins-length ns ms p)) ∙ ap (take (length ns)) q ∙ p

begins-split : (ns ls : List Text) → Begins ns ls → ns ++ drop (length ns) ls ≡ ls
begins-split ns ls p = ap (λ l. l ++ drop (length ns) ls) (sym p) ∙ take-append-drop (length ns) ls

-- Once a name is interned, it stays at its place.
pub intern-stays : (ns : List Text) (a : Text) (ls : List Text) → Begins (intern ns a).names ls → intern ls a ≡ interned (intern ns a).number ls
intern-stays ns a ls p =
    ap (λ l. intern l a) (sym split) ∙ intern-again a ns (drop (length (intern ns a).names) ls) ∙ ap (interned (intern ns a).number) split
  where
    split : (intern ns a).names ++ drop (length (intern ns a).names) ls ≡ ls
    split = begins-split (intern ns a).names ls p

pub all-begins : (ns bs : List Text) → Begins ns (intern_all ns bs).names
unfolding intern_all
all-begins ns [] = begins-self ns
all-begins ns (b ∷ bs) =
    begins-trans ns (intern ns b).names (intern_all (intern ns b).names bs).names (intern-begins b ns) (all-begins (intern ns b).names bs)

-- One more than the largest number: so many names there are then, if there were not more.
pub all-length : (ns bs : List Text) → length (intern_all ns bs).names ≡ max (length ns) (through (intern_all ns bs).numbers)
unfolding intern_all through
all-length ns [] = omega arith
all-length ns (b ∷ bs) = omega (arith, all-length (intern ns b).names bs, intern-length b ns)

pub all-grows : (ns bs : List Text) → length ns ≤ length (intern_all ns bs).names
all-grows ns bs = omega (arith, all-length ns bs)

-- One list after another.
pub all_append : (ns bs cs : List Text)
    → intern_all ns (bs ++ cs)
    ≡ numbered ((intern_all ns bs).numbers ++ (intern_all (intern_all ns bs).names cs).numbers) (intern_all (intern_all ns bs).names cs).names
unfolding intern_all
all_append ns [] cs = refl
all_append ns (b ∷ bs) cs = ap (number_first (intern ns b).number) (all_append (intern ns b).names bs cs)

-- Once names are interned, they stay at their places.
pub all-stays : (ns bs ls : List Text) → Begins (intern_all ns bs).names ls → intern_all ls bs ≡ numbered (intern_all ns bs).numbers ls
unfolding intern_all
all-stays ns [] ls p = refl
all-stays ns (b ∷ bs) ls p =
    let ms = (intern ns b).names in
    let q : Begins ms ls = begins-trans ms (intern_all ms bs).names ls (all-begins ms bs) p in
    ap (λ r. number_first r.number (intern_all r.names bs)) (intern-stays ns b ls q)
    ∙ ap (number_first (intern ns b).number) (all-stays ms bs ls p)

pub all-distinct : (ns bs : List Text) → Distinct ns → Distinct (intern_all ns bs).names
unfolding registers
all-distinct ns bs d = resolve-distinct ns (info_of [] None None bs [] 0) d

pub intern-distinct : (ns : List Text) (a : Text) → Distinct ns → Distinct (intern ns a).names
unfolding registers
intern-distinct ns a d = all-distinct ns (a ∷ []) d
