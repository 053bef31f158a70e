-- The waits of a unit, place by place.
use Rattle.std.proofs.Common.{
  ℕ,
  suc,
  ◌+◌,
  ◌≤◌,
  ◌<◌,
  ◌≡◌,
  refl,
  sym,
  ap,
  ◌∙◌,
  not,
  List,
  [],
  ◌∷◌,
  ◌++◌,
  map,
  append_assoc,
  length,
  get_or,
  drop,
  arith,
  slice_get,
}
use Rattle.std.specs.Option.{unwrap_or}
use Rattle.std.proofs.lemmas.List.{drop_all}
use Rattle.std.specs.List.{list_any}
use mathlib.Core.List.{append-nil}
use lib.Dec.{eqb}
use lib.ListN.{length-append}
use borrow.Author.Tests.{eq-eqb, ne_eqb}
use Rattle.laws.specs.Means.{Means}
use Rattle.laws.specs.Optional.{value_or}
use Rattle.laws.specs.Lists.{is_empty, keep}
use Rattle.laws.proofs.Tests.{not_yes, not-no}
use Rattle.laws.proofs.Slices.{Seen, list-next, view-next}
use Rattle.laws.proofs.Kept.{keep-hit, keep-miss}
use Rattle.laws.proofs.Maps.{any-map, length-of}
use Rattle.registers.specs.declared.Owed.{Owed}
use Rattle.registers.specs.declared.Waits.{Waits}
use Rattle.registers.specs.View.{view_owed, view_waits, WaitsOk}
use Rattle.registers.proofs.Owing.{waits-length}

empty-length : {A : Type 0} (l : List A) → is_empty l ≡ eqb (length l) 0
unfolding is_empty
empty-length [] = refl
empty-length (x ∷ l) = sym (ne_eqb (suc (length l)) 0 (λ e. omega arith))

-- One of them is for the register.
pub waits_any : (l : List Owed) (n : ℕ) → list_any (λ (o : Owed). eqb o.register n) l ≡ list_any (λ (p : ℕ × ℕ). eqb p.0 n) (map view_owed l)
unfolding view_owed
waits_any l n = sym (any-map view_owed (λ (o : Owed). eqb o.register n) (λ (p : ℕ × ℕ). eqb p.0 n) (λ o. refl) l)

-- The first of them.
pub waits_first : (l : List Owed) → view_owed (unwrap_or (slice_get l 0) (record { register = 0; unit = 0 })) ≡ value_or (0, 0) (slice_get (map view_owed l) 0)
unfolding view_owed
waits_first [] = refl
waits_first (o ∷ os) = refl

module _ {w : Waits} (ok : WaitsOk w) where
  pub waits-next : (d : Owed) {i : ℕ} → i < w.len → Seen (view_waits w) w.len i (view_owed (get_or w.items i d))
  unfolding view_waits
  waits-next d h = view-next view_owed w.items d (omega (arith, ok.size, ok.count)) h

  pub waits-empty : is_empty (view_waits w) ≡ eqb w.len 0
  waits-empty = empty-length (view_waits w) ∙ ap (λ n. eqb n 0) (waits-length ok)

pub waits_empty : (w : Waits) → WaitsOk w → is_empty (view_waits w) ≡ eqb w.len 0
waits_empty w ok = waits-empty ok

-- As many as there are waits.
pub few-waits : {w : Waits} (l : List Owed) → WaitsOk w → map view_owed l ≡ view_waits w → length l ≤ 8
few-waits {w} l ok e = omega (arith, ok.count, waits-length ok, ap length e, length-of view_owed l)

-- ── A loop over the waits of a list ───────────────────────────────────────────

module _ (n : ℕ) (l : List Owed) where
  -- Of the first i those that another unit owes are in k.
  pub record Without (k : Waits) (i : ℕ) : Type 0 where
    pub few : k.len ≤ i
    pub is : view_waits k ++ keep (λ (p : ℕ × ℕ). not (eqb p.1 n)) (map view_owed (drop i l)) ≡ keep (λ (p : ℕ × ℕ). not (eqb p.1 n)) (map view_owed l)
    pub ok : WaitsOk k

  pub without-first : {k : Waits} → Means view_waits WaitsOk k [] → Without k 0
  without-first m =
      record {
        few = omega (arith, waits-length m.ok, ap length m.is);
        is = ap (λ w. w ++ keep (λ (p : ℕ × ℕ). not (eqb p.1 n)) (map view_owed l)) m.is;
        ok = m.ok;
      }

  module _ {k : Waits} {i : ℕ} (e : Without k i) (d : Owed) (h : i < length l) where
    next : keep (λ (p : ℕ × ℕ). not (eqb p.1 n)) (map view_owed (drop i l)) ≡ keep (λ (p : ℕ × ℕ). not (eqb p.1 n)) (view_owed (get_or l i d) ∷ map view_owed (drop (i + 1) l))
    next = ap (λ t. keep (λ (p : ℕ × ℕ). not (eqb p.1 n)) (map view_owed t)) (list-next l d h).is

    pub without-keep : {r : Waits} → ((get_or l i d).unit ≡ n → ⊥) → Means view_waits WaitsOk r (view_waits k ++ ((get_or l i d).register, (get_or l i d).unit) ∷ []) → Without r (i + 1)
    unfolding view_owed
    without-keep {r} t m =
        let tail : List (ℕ × ℕ) = keep (λ (p : ℕ × ℕ). not (eqb p.1 n)) (map view_owed (drop (i + 1) l)) in
        record {
          few = omega (arith, waits-length m.ok, waits-length e.ok, ap length m.is, length-append (view_waits k) (view_owed (get_or l i d) ∷ []), e.few);
          is =
              ap (λ w. w ++ tail) m.is
              ∙ append_assoc (view_waits k) (view_owed (get_or l i d) ∷ []) tail
              ∙ ap (λ w. view_waits k ++ w) (sym (next ∙ keep-hit _ (not_yes (ne_eqb (get_or l i d).unit n t)) (map view_owed (drop (i + 1) l))))
              ∙ e.is;
          ok = m.ok;
        }

    pub without-drop : (get_or l i d).unit ≡ n → Without k (i + 1)
    unfolding view_owed
    without-drop t =
        record {
          few = omega (arith, e.few);
          is = ap (λ w. view_waits k ++ w) (sym (next ∙ keep-miss _ (not-no (eq-eqb (get_or l i d).unit n t)) (map view_owed (drop (i + 1) l)))) ∙ e.is;
          ok = e.ok;
        }

  pub without-last : {k : Waits} (w : Waits) {i : ℕ} → Without k i → length l ≤ i → map view_owed l ≡ view_waits w
      → Means view_waits WaitsOk k (keep (λ (p : ℕ × ℕ). not (eqb p.1 n)) (view_waits w))
  unfolding keep
  without-last {k} w {i} e h q =
      record {
        is =
            sym (append-nil (view_waits k))
            ∙ ap (λ t. view_waits k ++ keep (λ (p : ℕ × ℕ). not (eqb p.1 n)) (map view_owed t)) (sym (drop_all i l h))
            ∙ e.is
            ∙ ap (keep (λ (p : ℕ × ℕ). not (eqb p.1 n))) q;
        ok = e.ok;
      }
