-- The loop that makes an array of structs from another, element by element.
use Prim.Native.Nat.{ℕ, ◌+◌, ◌≤◌, ◌<◌}
use mathlib.Core.Path.{◌≡◌, sym, ap, ◌∙◌}
use mathlib.Core.List.{List, ◌++◌, map}
use native.Mathlib.Nat.{zero-add}
use native.Mathlib.Omega.{arith}
use lib.ListN.{length, get_or, set, take, drop, length-map}
use Rattle.laws.specs.Means.{Means}
use Rattle.laws.specs.Lists.{All}
use Rattle.laws.proofs.Slices.{view-next, view-length, map-set, Array, array-first, array-set}
use Rattle.laws.proofs.Copy.{Copied, copied-first, copied_next, copied-front}

-- f of the first i of the elements of us stand in l, which was l₀.
pub record Filled {A B C : Type 0} (view : A → C) (Ok : A → Type 0) (f : B → C) (us : List B) (l₀ l : List A) (n i : ℕ) : Type 0 where
  pub array : Array Ok l₀ l
  pub is : Copied (take n (map f us)) (map view l₀) (map view l) n 0 i

module _ {A B C : Type 0} {view : A → C} {Ok : A → Type 0} {f : B → C} {us : List B} {n : ℕ} where
  pub filled-first : {l : List A} → n ≤ length us → n ≤ length l → All Ok l → Filled view Ok f us l l n 0
  filled-first {l} h k a =
      record { array = array-first a; is = copied-first (view-length f us h) (omega (arith, length-map l view)) }

  module _ {l₀ l : List A} {i : ℕ} (e : Filled view Ok f us l₀ l n i) where
    pub filled_next : (d : B) {x : A} → n ≤ length us → i < n → Means view Ok x (f (get_or us i d)) → Filled view Ok f us l₀ (set l i x) n (i + 1)
    filled_next d {x} k h m =
        record {
          array = array-set e.array i m.ok;
          is = copied_next e.is (view-next f us d k h) (sym (zero-add i)) (map-set view l i x ∙ ap (set (map view l) i) m.is);
        }

    pub filled-last : n ≤ i → map view l ≡ take n (map f us) ++ drop n (map view l₀)
    filled-last h = copied-front e.is h
