-- The loop that writes the digits of a number from the last to the first, and what digits denote: the number, in every base of 2 to 16.
use mathlib.Core.Path.{◌≡◌, refl, sym, ap, ◌∙◌}
use Rattle.std.specs.Prelude.{Some}
use mathlib.Core.List.{[], ◌∷◌}
use mathlib.Core.Logic.{⊎_elim}
use Prim.Native.Nat.{ℕ, zero, suc, ◌+◌, ◌-◌, ◌*◌, ◌/◌, ◌%◌, ◌^◌, ◌≤◌, ◌<◌}
use native.Mathlib.Nat.{mod-lt, mod-eq_of_lt, zero-mod, div-add-mod', div-lt_iff_lt-mul, pow-suc, pow-zero, one-mul, le-div_iff_mul-le}
use native.Mathlib.Omega.{arith}
use borrow.Author.Tests.{lt-ltb, le-ltb}
use lib.ListN.{length, set, drop, length-set, drop_of_length-le}
use Rattle.laws.specs.Numbers.{max64}
use Rattle.laws.specs.Lists.{All, head}
use Rattle.laws.specs.Texts.{Text, digit, digits_before, decimal, hexadecimal, digit_value, value_from, value}
use Rattle.laws.proofs.Slices.{drop-set}
use Rattle.laws.proofs.Tests.{cond-lt, cond-ge, lt-or-ge}

-- ---- one digit

pub digit_low : {d : ℕ} → d < 10 → digit d ≡ 48 + d
unfolding digit
digit_low {d} h = cond-lt (48 + d) (55 + d) h

pub digit-high : {d : ℕ} → 10 ≤ d → digit d ≡ 55 + d
unfolding digit
digit-high {d} h = cond-ge (48 + d) (55 + d) h

pub digit-denotes : {d : ℕ} → d < 16 → digit_value (digit d) ≡ d
unfolding digit_value
digit-denotes {d} h = ⊎_elim low high (lt-or-ge d 10)
  where
    low : d < 10 → digit_value (digit d) ≡ d
    low k = let q : 48 + d < 58 = omega arith in ap digit_value (digit_low k) ∙ cond-lt (48 + d - 48) (48 + d - 55) q ∙ omega arith

    high : 10 ≤ d → digit_value (digit d) ≡ d
    high k = let q : 58 ≤ 55 + d = omega arith in ap digit_value (digit-high k) ∙ cond-ge (55 + d - 48) (55 + d - 55) q ∙ omega arith

pub digit-zero : (d : ℕ) → digit d ≡ 48 → d ≡ 0
digit-zero d e = ⊎_elim (λ k. omega (arith, digit_low k)) (λ k. omega (arith, digit-high k)) (lt-or-ge d 10)

-- '0' to 'F'
pub digit-range : {d : ℕ} → d < 16 → (48 ≤ digit d) × (digit d ≤ 70)
digit-range {d} h = ⊎_elim (λ k. omega (arith, digit_low k)) (λ k. omega (arith, digit-high k)) (lt-or-ge d 10)

-- ---- digits one after the other

-- A number below the base is one digit.
pub digits-end : {base n : ℕ} (fuel : ℕ) (tail : Text) → n < base → digits_before base fuel n tail ≡ digit (n % base) ∷ tail
unfolding digits_before
digits-end zero tail h = refl
digits-end {base} {n} (suc fuel) tail h = rw (lt-ltb n base h, digits_before)

pub digits_more : {base n : ℕ} (fuel : ℕ) (tail : Text) → base ≤ n
    → digits_before base (suc fuel) n tail ≡ digits_before base fuel (n / base) (digit (n % base) ∷ tail)
unfolding digits_before
digits_more {base} {n} fuel tail h = rw (le-ltb n base h, digits_before)

-- The fuel's last digit, and one digit less.
last-digit : {base n : ℕ} → n < base ^ 1 → n < base
last-digit {base} h = rw (pow-suc base 0, pow-zero, one-mul) at h

fewer : {base n : ℕ} (fuel : ℕ) → 1 < base → n < base ^ suc (suc fuel) → n / base < base ^ suc fuel
fewer {base} fuel b h = let z : 0 < base = omega arith in (div-lt_iff_lt-mul z).1 (rw (pow-suc base (suc fuel)) at h)

module _ {base : ℕ} (pos : 1 < base) where
  -- What holds of one digit, and of more if of one less, holds of the digits of a number that the fuel suffices for.
  pub digits-by : (Q : ℕ → ℕ → Text → Text → Type 0)
      → ((fuel n : ℕ) (tail : Text) → n < base → Q fuel n tail (digit (n % base) ∷ tail))
      → ((fuel n : ℕ) (tail out : Text) → base ≤ n → Q fuel (n / base) (digit (n % base) ∷ tail) out → Q (suc fuel) n tail out)
      → (fuel n : ℕ) (tail : Text) → n < base ^ suc fuel → Q fuel n tail (digits_before base fuel n tail)
  digits-by Q end more zero n tail h =
      rw (digits-end zero tail (last-digit h)) (end zero n tail (last-digit h))
  digits-by Q end more (suc fuel) n tail h =
      ⊎_elim
      (λ (k : n < base). rw (digits-end (suc fuel) tail k) (end (suc fuel) n tail k))
      (λ (k : base ≤ n). rw (digits_more fuel tail k) (more fuel n tail (digits_before base fuel (n / base) (digit (n % base) ∷ tail)) k (digits-by Q end more fuel (n / base) (digit (n % base) ∷ tail) (fewer fuel pos h))))
      (lt-or-ge n base)

  pub digits-all : (P : ℕ → Type 0) → ((d : ℕ) → d < base → P (digit d)) → (fuel n : ℕ) (tail : Text) → n < base ^ suc fuel → All P tail
      → All P (digits_before base fuel n tail)
  digits-all P p =
      digits-by
      (λ fuel n tail out. All P tail → All P out)
      (λ fuel n tail h a. (p (n % base) (mod-lt n (omega arith)), a))
      (λ fuel n tail out h q a. q (p (n % base) (mod-lt n (omega arith)), a))

  pub digits-length : (fuel n : ℕ) (tail : Text) → n < base ^ suc fuel → length (digits_before base fuel n tail) ≤ suc fuel + length tail
  digits-length =
      digits-by (λ fuel n tail out. length out ≤ suc fuel + length tail) (λ fuel n tail h. omega arith) (λ fuel n tail out h q. omega arith)

  pub digits-zero : (fuel : ℕ) (tail : Text) → digits_before base fuel 0 tail ≡ 48 ∷ tail
  unfolding digit
  digits-zero fuel tail = let z : 0 < base = omega arith in digits-end fuel tail z ∙ ap (λ d. digit d ∷ tail) (zero-mod base)

  -- No leading zero: the first digit is '0' of 0 alone.
  pub leading-zero : (fuel n : ℕ) (tail : Text) → n < base ^ suc fuel → head (digits_before base fuel n tail) ≡ Some 48 → n ≡ 0
  unfolding head
  leading-zero =
      digits-by
      (λ fuel n tail out. head out ≡ Some 48 → n ≡ 0)
      (λ fuel n tail h e. sym (mod-eq_of_lt h) ∙ digit-zero (n % base) (let z : digit (n % base) ≡ 48 = cc in z))
      (λ fuel n tail out h q e.
      let z : 0 < base = omega arith in
      let k : 1 * base ≤ n = omega arith in
      omega (arith, q e, (le-div_iff_mul-le z).1 k))

  -- The digits denote the number.
  pub digits_value : base ≤ 16 → (fuel n : ℕ) (tail : Text) → n < base ^ suc fuel
      → value_from base 0 (digits_before base fuel n tail) ≡ value_from base n tail
  unfolding value_from
  digits_value top =
      digits-by
      (λ fuel n tail out. value_from base 0 out ≡ value_from base n tail)
      (λ fuel n tail h. one 0 n tail ∙ ap (λ k. value_from base k tail) (omega (arith, mod-eq_of_lt h)))
      (λ fuel n tail out h q. q ∙ one (n / base) n tail ∙ ap (λ k. value_from base k tail) (div-add-mod' n base))
    where
      one : (m n : ℕ) (tail : Text) → value_from base m (digit (n % base) ∷ tail) ≡ value_from base (m * base + n % base) tail
      one m n tail = let z : 0 < base = omega arith in ap (λ d. value_from base (m * base + d) tail) (digit-denotes (omega (arith, mod-lt n z)))

pub decimal-value : {n : ℕ} → n ≤ max64 → value 10 (decimal n) ≡ n
unfolding value value_from decimal
decimal-value {n} h = let ten : 1 < 10 = omega arith in digits_value ten (omega arith) 19 n [] (omega arith)

pub hexadecimal-value : {n : ℕ} → n ≤ max64 → value 16 (hexadecimal n) ≡ n
unfolding value value_from hexadecimal
hexadecimal-value {n} h = let sixteen : 1 < 16 = omega arith in digits_value sixteen (omega arith) 15 n [] (omega arith)

-- ---- the loop: the digits stand in an array of fuel + 1 bytes, from place `at` on once x is below the base

pub record Digits (base fuel n : ℕ) (ds : Text) (at x : ℕ) : Type 0 where
  pub based : 1 < base
  pub most : at ≤ fuel
  pub size : length ds ≡ fuel + 1
  pub small : x < base ^ suc at
  pub is : digits_before base fuel n [] ≡ digits_before base at x (drop (at + 1) ds)

pub digits-first : {base fuel n : ℕ} {ds : Text} → 1 < base → length ds ≡ fuel + 1 → n < base ^ suc fuel → Digits base fuel n ds fuel n
digits-first {base} {fuel} {n} {ds} b e h =
    record { based = b; most = omega arith; size = e; small = h; is = ap (digits_before base fuel n) (sym none) }
  where
    none : drop (fuel + 1) ds ≡ []
    none = drop_of_length-le ds {i = fuel + 1} (omega arith)

module _ {base fuel n at x : ℕ} {ds : Text} (e : Digits base fuel n ds at x) where
  -- There is room for one more: the loop needs no test of `at`.
  pub digits-room : base ≤ x → 0 < at
  digits-room h = go at e.small
    where
      go : (k : ℕ) → x < base ^ suc k → 0 < k
      go zero s = omega (arith, last-digit s)
      go (suc k) s = omega arith

  -- c is the digit that is stored, u the array after the store.
  module _ {c : ℕ} {u : Text} (p : c ≡ digit (x % base)) (q : u ≡ set ds at c) where
    stored : drop at u ≡ digit (x % base) ∷ drop (at + 1) ds
    stored =
        let here : at < length ds = omega (arith, e.most, e.size) in
        ap (drop at) q ∙ drop-set ds c here ∙ ap (λ d. d ∷ drop (at + 1) ds) p

    pub digits-next : base ≤ x → Digits base fuel n u (at - 1) (x / base)
    digits-next h =
        let one : at ≡ suc (at - 1) = omega (arith, digits-room h) in
        let back : at - 1 + 1 ≡ at = omega (arith, digits-room h) in
        record {
          based = e.based;
          most = omega (arith, e.most);
          size = ap length q ∙ length-set ds at c ∙ e.size;
          small = fewer (at - 1) e.based (rw one at e.small);
          is =
              e.is ∙ ap (λ k. digits_before base k x (drop (at + 1) ds)) one ∙ digits_more (at - 1) (drop (at + 1) ds) h
              ∙ ap (digits_before base (at - 1) (x / base)) (sym (ap (λ k. drop k u) back ∙ stored));
        }

    pub digits_last : x < base → drop at u ≡ digits_before base fuel n []
    digits_last h = stored ∙ sym (digits-end at (drop (at + 1) ds) h) ∙ sym e.is
