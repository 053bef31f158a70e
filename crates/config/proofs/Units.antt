-- The units of all kinds, and what is kept of them.
use Prim.Native.Nat.{ℕ, zero, suc, ◌+◌, ◌≤◌, ◌<◌, min, max}
use mathlib.Core.Path.{◌≡◌, refl, sym, ap, ◌∙◌}
use mathlib.Core.Bool.{false, cond}
use mathlib.Core.Logic.{◌⊎◌, inl, inr, ⊎_elim}
use mathlib.Core.List.{List, [], ◌∷◌, map}
use native.Mathlib.Nat.{le_of_suc-le-suc, not-suc-le-zero}
use native.Mathlib.Omega.{arith}
use lib.Dec.{ltb}
use lib.ListN.{length, get_or, replicate, take, length-replicate}
use lib.Seq.{length-take-le}
use Rattle.std.specs.Prelude.{fold}
use borrow.Author.Tests.{lt-ltb, le-ltb}
use Rattle.laws.specs.Lists.{All, modify}
use Rattle.std.specs.List.{list_any}
use Rattle.laws.specs.Numbers.{max64}
use Rattle.laws.specs.Texts.{texts}
use Rattle.laws.proofs.Tests.{lt-or-ge, or-neither}
use Rattle.model.specs.Config.{UnitSpec, at_least_one, specs_or_generic, generic_unit, capacities}
use Rattle.model.specs.Calls.{bad_spec_name, bad_text, bad_byte}
use Rattle.op.specs.declared.chars.Chars.{Chars}
use Rattle.op.specs.Chars.{shown, view_text}
use Rattle.config.specs.declared.UnitSpec.{UnitSpec as DeclaredUnit}
use Rattle.config.specs.declared.Spec.{Spec}
use Rattle.config.specs.View.{view_unit_spec, view_spec}
use Rattle.config.specs.Checks.{noted_specs}
use Rattle.config.specs.Kept.{KindOk}

-- ── Sums ────────────────────────────────────────────────────────────────────

-- The sum of the capacities that are read as at least 1, which stops at 2^64 - 1.
pub declared_sum : (us : List DeclaredUnit) (s : ℕ) → s ≤ max64
    → fold (λ (a : ℕ) (u : DeclaredUnit). min (a + max u.capacity 1) max64) s us ≡ min (s + capacities (map (λ u. at_least_one (view_unit_spec u)) us)) max64
unfolding capacities at_least_one view_unit_spec
declared_sum [] s h = omega arith
declared_sum (u ∷ us) s h = declared_sum us (min (s + max u.capacity 1) max64) (omega arith) ∙ omega arith

pub kept_sum : (ks : List Spec) (s : ℕ) → fold (λ (a : ℕ) (k : Spec). a + k.capacity) s ks ≡ s + capacities (map view_spec ks)
unfolding capacities view_spec
kept_sum [] s = omega arith
kept_sum (k ∷ ks) s = kept_sum ks (s + k.capacity) ∙ omega arith

-- The length that is told is that of the name.
pub name_length : (n : Chars 8) → length n.bytes ≡ 8 → length (view_text n) ≡ n.len
unfolding view_text shown
name_length n e = by (lt-or-ge 8 n.len)
  where
    by : (8 < n.len) ⊎ (n.len ≤ 8) → length (cond (ltb 8 n.len) (replicate n.len 0) (take n.len n.bytes)) ≡ n.len
    by (inl h) = rw (lt-ltb 8 n.len h) (length-replicate n.len 0)
    by (inr h) = rw (le-ltb 8 n.len h) (length-take-le n.len n.bytes (omega arith))

-- ── One kind among them ─────────────────────────────────────────────────────

pub capacity-most : (ks : List UnitSpec) (d : UnitSpec) {i : ℕ} → i < length ks → (get_or ks i d).capacity ≤ capacities ks
unfolding capacities
capacity-most [] d h = absurd (not-suc-le-zero h)
capacity-most (k ∷ ks) d {i = zero} h = omega arith
capacity-most (k ∷ ks) d {i = suc i} h = omega (arith, capacity-most ks d (le_of_suc-le-suc h))

-- A kind changes by what its capacity does.
pub noted-sum : (n : ℕ) (ks : List UnitSpec) (d : UnitSpec) {i : ℕ} → i < length ks
    → capacities (noted_specs i n ks) + (get_or ks i d).capacity ≡ capacities ks + max 1 n
unfolding capacities noted_specs modify
noted-sum n [] d h = absurd (not-suc-le-zero h)
noted-sum n (k ∷ ks) d {i = zero} h = omega arith
noted-sum n (k ∷ ks) d {i = suc i} h = omega (arith, noted-sum n ks d (le_of_suc-le-suc h))

pub noted-least : (n : ℕ) (ks : List UnitSpec) (d : UnitSpec) {i : ℕ} → i < length ks → max 1 n ≤ capacities (noted_specs i n ks)
noted-least n ks d h = omega (arith, noted-sum n ks d h, capacity-most ks d h)

-- ── The kinds that are kept ─────────────────────────────────────────────────

pub specs-some : (ks : List UnitSpec) → 0 < length ks → specs_or_generic ks ≡ map at_least_one ks
unfolding specs_or_generic
specs-some [] h = absurd (not-suc-le-zero h)
specs-some (k ∷ ks) h = refl

pub specs-none : (ks : List UnitSpec) → length ks ≡ 0 → specs_or_generic ks ≡ generic_unit ∷ []
unfolding specs_or_generic
specs-none [] e = refl
specs-none (k ∷ ks) e = absurd (let z : ⊥ = omega arith in z)

pub generic-kept : at_least_one generic_unit ≡ generic_unit
unfolding at_least_one generic_unit
generic-kept = refl

-- The test of refusal 1, by a sum that stops.
pub over_64 : (ks : List UnitSpec) {sum : ℕ} → sum ≡ min (capacities (map at_least_one ks)) max64 → ltb 64 (capacities (specs_or_generic ks)) ≡ ltb 64 sum
unfolding specs_or_generic capacities generic_unit
over_64 [] e = ap (ltb 64) (sym e)
over_64 (k ∷ ks) {sum} e = ⊎_elim more few (lt-or-ge 64 sum)
  where
    more : 64 < sum → ltb 64 (capacities (map at_least_one (k ∷ ks))) ≡ ltb 64 sum
    more h = lt-ltb 64 (capacities (map at_least_one (k ∷ ks))) (omega arith) ∙ sym (lt-ltb 64 sum h)

    few : sum ≤ 64 → ltb 64 (capacities (map at_least_one (k ∷ ks))) ≡ ltb 64 sum
    few h = le-ltb 64 (capacities (map at_least_one (k ∷ ks))) (omega arith) ∙ sym (le-ltb 64 sum h)

fewer : (ks : List UnitSpec) → capacities (map at_least_one ks) ≤ 63 → capacities (specs_or_generic ks) ≤ 64
unfolding specs_or_generic capacities generic_unit
fewer [] h = omega arith
fewer (k ∷ ks) h = omega arith

pub kinds-ok : (ks : List UnitSpec) → list_any bad_spec_name ks ≡ false → capacities (specs_or_generic ks) ≤ 64 → All KindOk ks
unfolding specs_or_generic capacities at_least_one
kinds-ok [] n h = tt
kinds-ok (k ∷ ks) n h =
    let e = or-neither _ _ n in
    (record { named = e.0; most = omega arith }, kinds-ok ks e.1 (fewer ks (omega arith)))

pub generic-ok : KindOk generic_unit
unfolding bad_spec_name bad_text bad_byte generic_unit texts
generic-ok = record { named = refl; most = omega arith }
