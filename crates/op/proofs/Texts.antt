-- A text in an array: what a length past the array's end gives, and what one within it gives.
use Rattle.std.proofs.Common.{
  ◌≡◌,
  ℕ,
  ◌<◌,
  ◌≤◌,
  min,
  true,
  false,
  ◌&&◌,
  eqb,
  nat_eq,
  List,
  [],
  ◌∷◌,
  ◌++◌,
  length,
  take,
  replicate,
  sym,
  refl,
  ap,
  ◌∙◌,
  ⊎_elim,
  arith,
  length-take,
  length-take-le,
  take_all,
  take-take,
  le-ltb,
  lt-ltb,
}
use lib.ListN.{length-replicate}
use lib.Pointwise.{pointwise}
use Rattle.std.proofs.lemmas.List.{take-append-le}
use Rattle.std.specs.List.{list_any}
use Rattle.laws.specs.Texts.{same}
use Rattle.laws.proofs.Tests.{cond-lt, cond-ge, or_yes, or-next, lt-or-ge}
use Rattle.op.specs.Same.{same_yes}
use Rattle.laws.proofs.Search.{same-lengths}
use Rattle.model.specs.Calls.{bad_byte, bad_text}
use Rattle.op.specs.Chars.{shown}

module _ (most len : ℕ) (bytes : List ℕ) where
  pub shown-long : most < len → shown most len bytes ≡ replicate len 0
  unfolding shown
  shown-long h = cond-lt _ _ h

  pub shown-short : len ≤ most → shown most len bytes ≡ take len bytes
  unfolding shown
  shown-short h = cond-ge _ _ h

  pub bad-long : most < len → bad_text most (shown most len bytes) ≡ true
  unfolding bad_text
  bad-long h = rw (shown-long h, length-replicate len) (or_yes _ (lt-ltb most len h))

  pub bad-short : len ≤ most → len ≤ length bytes → bad_text most (shown most len bytes) ≡ list_any bad_byte (take len bytes)
  unfolding bad_text
  bad-short h k = rw (shown-short h, length-take-le len bytes k) (or-next _ (le-ltb most len h))

  pub shown-length : length bytes ≡ most → length (shown most len bytes) ≡ len
  shown-length e = ⊎_elim long short (lt-or-ge most len)
    where
      long : most < len → length (shown most len bytes) ≡ len
      long h = ap length (shown-long h) ∙ length-replicate len 0

      short : len ≤ most → length (shown most len bytes) ≡ len
      short h = ap length (shown-short h) ∙ length-take-le len bytes (omega arith)

-- An array that begins with what fits of s shows as s does.
pub shown_copied : (most n len : ℕ) (s r out : List ℕ) → n ≡ min (length s) most → len ≤ length s → r ≡ take n s → shown most len (r ++ out) ≡ shown most len s
shown_copied most n len s r out e h q = ⊎_elim long short (lt-or-ge most len)
  where
    long : most < len → shown most len (r ++ out) ≡ shown most len s
    long l = shown-long most len _ l ∙ sym (shown-long most len s l)

    short : len ≤ most → shown most len (r ++ out) ≡ shown most len s
    short l =
        let k : len ≤ length (take n s) = simp length-take (omega arith) in
        shown-short most len _ l
        ∙ rw (q, take-append-le len (take n s) out k, take-take len n s (omega arith)) (sym (shown-short most len s l))

-- A text that stays within the limit shows as it is, and any is refused as it is.
module _ (most : ℕ) (s : List ℕ) (h : most < 255) where
  pub shown-whole : length s ≤ most → shown most (min (length s) 255) s ≡ s
  shown-whole k =
      let l : min (length s) 255 ≤ most = omega arith in
      let m : length s ≤ min (length s) 255 = omega arith in
      shown-short most _ s l ∙ take_all _ s m

  pub bad-whole : bad_text most (shown most (min (length s) 255) s) ≡ bad_text most s
  unfolding bad_text
  bad-whole = ⊎_elim long short (lt-or-ge most (length s))
    where
      long : most < length s → bad_text most (shown most (min (length s) 255) s) ≡ bad_text most s
      long k = bad-long most (min (length s) 255) s (omega arith) ∙ sym (or_yes _ (lt-ltb most (length s) k))

      short : length s ≤ most → bad_text most (shown most (min (length s) 255) s) ≡ bad_text most s
      short k = ap (bad_text most) (shown-whole k)

-- ── The same text? Two arrays of `most` bytes each ────────────────────────────

same_pointwise : (a b : List ℕ) → pointwise nat_eq a b ≡ same a b
unfolding same
same_pointwise [] [] = refl
same_pointwise [] (y ∷ b) = refl
same_pointwise (x ∷ a) [] = refl
same_pointwise (x ∷ a) (y ∷ b) = ap (λ t. eqb x y && t) (same_pointwise a b)

module _ (most n m : ℕ) (a b : List ℕ) where
  pub same-apart : length a ≡ most → length b ≡ most → (n ≡ m → ⊥) → same (shown most n a) (shown most m b) ≡ false
  same-apart p q h = same-lengths _ _ (λ e. h (sym (shown-length most n a p) ∙ e ∙ shown-length most m b q))

  pub same-long : n ≡ m → most < n → same (shown most n a) (shown most m b) ≡ true
  same-long e h = rw (← e, shown-long most n a h, shown-long most n b h) (same_yes _ _ refl)

  pub same-short : n ≡ m → n ≤ most → same (shown most n a) (shown most m b) ≡ pointwise nat_eq (take n a) (take n b)
  same-short e h = rw (← e, shown-short most n a h, shown-short most n b h) (sym (same_pointwise (take n a) (take n b)))

-- ── What the checks of the code cite ──────────────────────────────────────────

pub ruleset shows = (shown-long, shown-short)

pub ruleset bads = (bad-long, bad-short)

pub ruleset sames = (same-apart, same-long, same-short)
