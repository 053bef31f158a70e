-- Bytes laid in a buffer, one part behind the other.
use Prim.Native.Nat.{ℕ, zero, suc}
use mathlib.Core.Path.{◌≡◌, refl, sym, ap}
use mathlib.Core.List.{List, [], ◌∷◌}
use native.Mathlib.Nat.{add-zero}
use Rattle.model.specs.Timeline.{overlay, splice}
use Rattle.traces.specs.Texts.{Laid}

splice-none : (p : ℕ) (m : List ℕ) → splice p [] m ≡ m
unfolding splice overlay
splice-none zero m = refl
splice-none (suc p) [] = refl
splice-none (suc p) (x ∷ m) = ap (λ t. x ∷ t) (splice-none p m)

-- Nothing is put.
pub laid_none : (p : ℕ) (m : List ℕ) → Laid p [] m m p
laid_none p m = record { end = sym (add-zero p); is = sym (splice-none p m) }

module _ {p n : ℕ} {m out : List ℕ} where
  -- The bytes of x, where those of y were laid, and x is y.
  pub laid_of : {A : Type 0} (f : A → List ℕ) {x y : A} → x ≡ y → Laid p (f y) m out n → Laid p (f x) m out n
  laid_of f e l = record { end = rw e l.end; is = rw e l.is }

  pub laid_same : {s t : List ℕ} → Laid p s m out n → t ≡ s → Laid p t m out n
  laid_same l e = laid_of (λ x. x) e l
