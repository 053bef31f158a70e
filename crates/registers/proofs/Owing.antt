-- Claims: read at a register, changed at one, and listed.
use Prim.Native.Nat.{ℕ, zero, suc, ◌+◌, ◌-◌, ◌≤◌, ◌<◌, max}
use mathlib.Core.Path.{◌≡◌, refl, sym, subst, ap, ap₂, ◌∙◌}
use mathlib.Core.Logic.{⊎_elim}
use Rattle.std.specs.Prelude.{Option, None, Some, is_some, count_by}
use Rattle.std.proofs.lemmas.Grind.{common_steps}
use Rattle.std.proofs.lemmas.List.{take-replicate}
use Rattle.std.proofs.lemmas.Simd.{splat_is_map}
use mathlib.Core.List.{List, [], ◌∷◌, ◌++◌, map}
use native.Mathlib.Omega.{arith}
use native.Mathlib.Nat.{not-suc-le-zero, le_of_suc-le-suc}
use lib.Dec.{eqb}
use Rattle.std.specs.Option.{option_eq}
use mathlib.Core.Bool.{true, false}
use lib.ListN.{length, get_or, take, drop, set, replicate, length-set}
use lib.Seq.{take-set-lt, drop-set-lt, set-get_or, drop-drop, length-take-le}
use Rattle.laws.specs.Means.{Means}
use Rattle.laws.specs.Lists.{All, modify}
use Rattle.laws.specs.Texts.{Text}
use Rattle.laws.proofs.Tests.{lt-or-ge, cond_yes, cond_no}
use Rattle.laws.proofs.Slices.{slice-next, seen-modify, modify-end, view-length, All-drop, All-replicate}
use Rattle.model.specs.Registers.{pad, producer_of, release_held, outstanding}
use Rattle.model.specs.Issue.{taken, waits_on}
use Rattle.registers.specs.declared.Claims.{Claims}
use Rattle.registers.specs.declared.Waits.{Waits}
use Rattle.registers.specs.View.{view_claims, ClaimsOk, view_owed, view_waits, WaitsOk}

-- ── One register ──────────────────────────────────────────────────────────────

abbrev pub Free : List (Option ℕ) → Type 0
Free l = All (λ (o : Option ℕ). o ≡ None) l

module _ {c : Claims} (ok : ClaimsOk c) where
  room : c.len ≤ length c.unit
  room = omega (arith, ok.size, ok.count)

  pub claims-length : length (view_claims c) ≡ c.len
  unfolding view_claims
  claims-length = length-take-le c.len c.unit room

  module _ (f : Option ℕ → Option ℕ) {r : ℕ} where
    pub claims-set : {o : Option ℕ} → r < c.len → o ≡ f (get_or c.unit r None)
        → Means view_claims ClaimsOk (record { unit = set c.unit r o; len = c.len }) (modify r f (view_claims c))
    unfolding view_claims
    claims-set {o} h e =
        record {
          is = take-set-lt c.len c.unit r o h ∙ ap (set (take c.len c.unit) r) e ∙ sym (seen-modify (slice-next c.unit None room h) f);
          ok =
              record {
                count = ok.count;
                size = length-set c.unit r o ∙ ok.size;
                free = subst Free (sym (drop-set-lt c.len c.unit r o h)) ok.free;
              };
        }

    -- Nothing changes where f changes nothing, or where there is no such register.
    pub claims-keep : (r < c.len → f (get_or c.unit r None) ≡ get_or c.unit r None) → Means view_claims ClaimsOk c (modify r f (view_claims c))
    unfolding view_claims
    claims-keep e = record { is = ⊎_elim kept past (lt-or-ge r c.len); ok = ok }
      where
        kept : r < c.len → view_claims c ≡ modify r f (view_claims c)
        kept h =
            sym (seen-modify (slice-next c.unit None room h) f
            ∙ ap (set (take c.len c.unit) r) (e h)
            ∙ sym (take-set-lt c.len c.unit r (get_or c.unit r None) h)
            ∙ ap (take c.len) (set-get_or c.unit r None))

        past : c.len ≤ r → view_claims c ≡ modify r f (view_claims c)
        past h = sym (modify-end f (view_claims c) (omega (arith, claims-length)))

-- Only the unit that holds a register releases it.
pub release_own : (u : ℕ) (o : Option ℕ) → option_eq eqb o (Some u) ≡ true → None ≡ release_held u o
unfolding release_held
release_own u None e = refl
release_own u (Some v) e = sym (cond_yes _ _ e)

pub release_other : (u : ℕ) (o : Option ℕ) → option_eq eqb o (Some u) ≡ false → release_held u o ≡ o
unfolding release_held
release_other u None e = refl
release_other u (Some v) e = cond_no _ _ e

-- ── More registers ────────────────────────────────────────────────────────────

-- Padding reads no name.
pub pad-length : (ps : List (Option ℕ)) (ns ms : List Text) → length ns ≡ length ms → pad ps ns ≡ pad ps ms
unfolding pad
pad-length ps [] [] e = refl
pad-length ps [] (m ∷ ms) e = absurd (let z : ⊥ = omega arith in z)
pad-length ps (n ∷ ns) [] e = absurd (let z : ⊥ = omega arith in z)
pad-length [] (n ∷ ns) (m ∷ ms) e = ap (λ l. None ∷ l) (pad-length [] ns ms (omega arith))
pad-length (p ∷ ps) (n ∷ ns) (m ∷ ms) e = ap (λ l. p ∷ l) (pad-length ps ns ms (omega arith))

-- Of a list whose rest from k on is free.
pad-free : (l : List (Option ℕ)) (k n : ℕ) → n ≤ length l → Free (drop k l) → take (max k n) l ≡ pad (take k l) (replicate n [])
unfolding pad
pad-free l k zero h free = ap (λ m. take m l) (let z : max k 0 ≡ k = omega arith in z)
pad-free [] k (suc n) h free = absurd (not-suc-le-zero h)
pad-free (p ∷ ps) zero (suc n) h free =
    ap (λ m. take m (p ∷ ps)) (let z : max 0 (suc n) ≡ suc n = omega arith in z) ∙ ap₂ (λ o l. o ∷ l) free.0 (ap (λ m. take m ps) (let z : n ≡ max 0 n = omega arith in z) ∙ pad-free ps 0 n (le_of_suc-le-suc h) free.1)
pad-free (p ∷ ps) (suc k) (suc n) h free = ap (λ m. take m (p ∷ ps)) (let z : max (suc k) (suc n) ≡ suc (max k n) = omega arith in z) ∙ ap (λ l. p ∷ l) (pad-free ps k n (le_of_suc-le-suc h) free)

module _ {c : Claims} (ok : ClaimsOk c) {n : ℕ} where
  pub padded : n ≤ 256 → {k : ℕ} → k ≡ max c.len n → Means view_claims ClaimsOk (record { unit = c.unit; len = k }) (pad (view_claims c) (replicate n []))
  unfolding view_claims
  padded h {k} e =
      record {
        is = ap (λ m. take m c.unit) e ∙ pad-free c.unit c.len n (omega (arith, ok.size)) ok.free;
        ok =
            record {
              count = omega (arith, ok.count);
              size = ok.size;
              free =
                  subst (λ m. Free (drop m c.unit)) (let z : c.len + (n - c.len) ≡ k = omega arith in z)
                  (subst Free (drop-drop (n - c.len) c.len c.unit) (All-drop (λ (o : Option ℕ). o ≡ None) (n - c.len) (drop c.len c.unit) ok.free));
            };
      }

  pub padded-few : n ≤ c.len → Means view_claims ClaimsOk c (pad (view_claims c) (replicate n []))
  unfolding view_claims
  padded-few h =
      record { is = ap (λ m. take m c.unit) (let z : c.len ≡ max c.len n = omega arith in z) ∙ pad-free c.unit c.len n (omega (arith, ok.size, ok.count)) ok.free; ok = ok }

-- Nobody owes anything.
pub cleared : {c : Claims} → ClaimsOk c → Means view_claims ClaimsOk (record { unit = replicate 256 None; len = c.len }) (map (λ (p : Option ℕ). None) (view_claims c))
unfolding view_claims
cleared {c} ok =
    record {
      is = take-replicate c.len 256 None ok.count ∙ splat_is_map (view_claims c) c.len None (claims-length ok);
      ok = record { count = ok.count; size = refl; free = All-drop (λ (o : Option ℕ). o ≡ None) c.len (replicate 256 None) (All-replicate (λ (o : Option ℕ). o ≡ None) 256 None refl) };
    }

-- `all` takes the registers rs into the claims one by one; i of them are taken in.
pub record Taking (all : List (Option ℕ) → List ℕ → List (Option ℕ)) (c₀ : Claims) (rs : List ℕ) (c : Claims) (i : ℕ) : Type 0 where
  pub is : all (view_claims c) (drop i rs) ≡ all (view_claims c₀) rs
  pub ok : ClaimsOk c

-- ── Those outstanding ─────────────────────────────────────────────────────────

pub outstanding_length : (i : ℕ) (ps : List (Option ℕ)) → length (outstanding i ps) ≡ count_by is_some ps
unfolding outstanding
outstanding_length i [] = refl
outstanding_length i (None ∷ ps) = outstanding_length (suc i) ps
outstanding_length i (Some u ∷ ps) = grind (arith, common_steps, outstanding_length (suc i) ps)

-- ── Destinations ──────────────────────────────────────────────────────────────

module _ (ps : List (Option ℕ)) (r : ℕ) where
  pub taken-hit : is_some (producer_of ps r) ≡ true → (rs : List ℕ) → taken ps (r ∷ rs) ≡ Some r
  unfolding taken
  taken-hit e rs = cond_yes _ _ e

  pub taken-miss : is_some (producer_of ps r) ≡ false → (rs : List ℕ) → taken ps (r ∷ rs) ≡ taken ps rs
  unfolding taken
  taken-miss e rs = cond_no _ _ e

pub taken-end : (ps : List (Option ℕ)) → taken ps [] ≡ None
unfolding taken
taken-end ps = refl

-- ── What an operation waits for ───────────────────────────────────────────────

pub waits-length : {w : Waits} → WaitsOk w → length (view_waits w) ≡ w.len
unfolding view_waits
waits-length {w} ok = view-length view_owed w.items (omega (arith, ok.size, ok.count))

-- The waits w of the first i sources.
pub record Waiting (ps : List (Option ℕ)) (rs : List ℕ) (w : Waits) (i : ℕ) : Type 0 where
  pub ok : WaitsOk w
  pub few : length (view_waits w) ≤ i
  pub is : view_waits w ++ waits_on ps (drop i rs) ≡ waits_on ps rs
