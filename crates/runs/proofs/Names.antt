-- The table of names: a look only lets it grow, its names stay distinct, and each name stands at its number.
use Prim.Native.Nat.{ℕ, zero, suc}
use mathlib.Core.Path.{◌≡◌, refl, ap, subst}
use mathlib.Core.Bool.{false}
use Rattle.std.specs.Prelude.{Some, slice_get}
use mathlib.Core.List.{List, [], ◌∷◌}
use Rattle.laws.specs.Lists.{All, All2, none2, more2}
use Rattle.laws.specs.Texts.{Text, same}
use Rattle.laws.proofs.Choices.{either, none-some, some_inj, false-T}
use Rattle.laws.proofs.Same.{same-eq, same-of-eq}
use Rattle.model.specs.Op.{Info}
use Rattle.model.specs.Registers.{Interned, interned, intern, intern_all, resolve, registers}

abbrev pub Extends : List Text → List Text → Type 0
Extends ns ms = (k : ℕ) (a : Text) → slice_get ns k ≡ Some a → slice_get ms k ≡ Some a

-- `a` is none of the names
abbrev pub Apart : Text → List Text → Type 0
Apart a ns = All (λ (x : Text). same a x ≡ false) ns

abbrev pub Distinct : List Text → Type 0
Distinct [] = Unit {0}
Distinct (x ∷ xs) = Apart x xs × Distinct xs

abbrev here : Text → List Text → Interned
here x xs = interned 0 (x ∷ xs)

abbrev further : Text → List Text → Text → Interned
further x xs a = interned (suc (intern xs a).number) (x ∷ (intern xs a).names)

pub extends-refl : (ns : List Text) → Extends ns ns
extends-refl ns k a p = p

pub extends-trans : (ns ms ls : List Text) → Extends ns ms → Extends ms ls → Extends ns ls
extends-trans ns ms ls f g k a p = g k a (f k a p)

extends-cons : (x : Text) (ns ms : List Text) → Extends ns ms → Extends (x ∷ ns) (x ∷ ms)
extends-cons x ns ms f zero a p = p
extends-cons x ns ms f (suc k) a p = f k a p

module _ (a : Text) where
  intern-found : (ns : List Text) → slice_get (intern ns a).names (intern ns a).number ≡ Some a
  unfolding registers
  intern-found [] = refl
  intern-found (x ∷ xs) =
      either (λ (z : Interned). slice_get z.names z.number ≡ Some a) (same x a) (here x xs) (further x xs a)
      (λ t. ap Some (same-eq x a t)) (λ e. intern-found xs)

  intern-extends : (ns : List Text) → Extends ns (intern ns a).names
  unfolding registers
  intern-extends [] = λ k b p. none-some b p
  intern-extends (x ∷ xs) =
      either (λ (z : Interned). Extends (x ∷ xs) z.names) (same x a) (here x xs) (further x xs a) (λ t. extends-refl (x ∷ xs))
      (λ e. extends-cons x xs (intern xs a).names (intern-extends xs))

  intern-apart : (x : Text) (ns : List Text) → same x a ≡ false → Apart x ns → Apart x (intern ns a).names
  unfolding registers
  intern-apart x [] e p = (e, tt)
  intern-apart x (y ∷ ys) e p =
      either (λ (z : Interned). Apart x z.names) (same y a) (here y ys) (further y ys a) (λ t. p)
      (λ f. (p.0, intern-apart x ys e p.1))

  intern-distinct : (ns : List Text) → Distinct ns → Distinct (intern ns a).names
  unfolding registers
  intern-distinct [] d = (tt, tt)
  intern-distinct (x ∷ xs) d =
      either (λ (z : Interned). Distinct z.names) (same x a) (here x xs) (further x xs a) (λ t. d)
      (λ e. (intern-apart x xs e d.0, intern-distinct xs d.1))

-- A name at the place of a number.
abbrev pub At : List Text → Text → ℕ → Type 0
At ns a k = slice_get ns k ≡ Some a

pub at_more : (ns ms : List Text) (bs : List Text) (ks : List ℕ) → Extends ns ms → All2 (At ns) bs ks → All2 (At ms) bs ks
at_more ns ms bs ks f none2 = none2
at_more ns ms bs ks f (more2 {a = b} {b = k} {as' = bs'} {bs = ks'} q qs) = more2 (f k b q) (at_more ns ms bs' ks' f qs)

all-extends : (bs ns : List Text) → Extends ns (intern_all ns bs).names
unfolding registers
all-extends [] ns = extends-refl ns
all-extends (b ∷ bs) ns =
    extends-trans ns (intern ns b).names (intern_all (intern ns b).names bs).names (intern-extends b ns) (all-extends bs (intern ns b).names)

all-distinct : (bs ns : List Text) → Distinct ns → Distinct (intern_all ns bs).names
unfolding registers
all-distinct [] ns d = d
all-distinct (b ∷ bs) ns d = all-distinct bs (intern ns b).names (intern-distinct b ns d)

all_found : (bs ns : List Text) → All2 (At (intern_all ns bs).names) bs (intern_all ns bs).numbers
unfolding registers
all_found [] ns = none2
all_found (b ∷ bs) ns =
    more2 (all-extends bs (intern ns b).names (intern ns b).number b (intern-found b ns)) (all_found bs (intern ns b).names)

-- A look: the names are kept and stay apart, and each name stands at its number.
pub resolve-extends : (ns : List Text) (i : Info) → Extends ns (resolve ns i).names
unfolding registers
resolve-extends ns i =
    extends-trans ns (intern_all ns i.sources).names (resolve ns i).names (all-extends i.sources ns)
    (all-extends i.writes (intern_all ns i.sources).names)

pub resolve-distinct : (ns : List Text) (i : Info) → Distinct ns → Distinct (resolve ns i).names
unfolding registers
resolve-distinct ns i d = all-distinct i.writes (intern_all ns i.sources).names (all-distinct i.sources ns d)

pub resolve-read : (ns : List Text) (i : Info) → All2 (At (resolve ns i).names) i.sources (resolve ns i).read
unfolding registers
resolve-read ns i =
    at_more (intern_all ns i.sources).names (resolve ns i).names i.sources (resolve ns i).read
    (all-extends i.writes (intern_all ns i.sources).names) (all_found i.sources ns)

pub resolve-written : (ns : List Text) (i : Info) → All2 (At (resolve ns i).names) i.writes (resolve ns i).written
unfolding registers
resolve-written ns i = all_found i.writes (intern_all ns i.sources).names

apart-nth : (x a : Text) (ns : List Text) (k : ℕ) → Apart x ns → slice_get ns k ≡ Some a → same x a ≡ false
apart-nth x a [] k d p = none-some a p
apart-nth x a (y ∷ ys) zero d p = subst (λ z. same x z ≡ false) (some_inj y a p) d.0
apart-nth x a (y ∷ ys) (suc k) d p = apart-nth x a ys k d.1 p

-- In a table of distinct names a name has one place.
pub one_place : (ns : List Text) (a : Text) (j k : ℕ) → Distinct ns → slice_get ns j ≡ Some a → slice_get ns k ≡ Some a → j ≡ k
one_place [] a j k d p q = none-some a p
one_place (x ∷ xs) a zero zero d p q = refl
one_place (x ∷ xs) a zero (suc k) d p q = false-T (same x a) (apart-nth x a xs k d.0 q) (same-of-eq x a (some_inj x a p))
one_place (x ∷ xs) a (suc j) zero d p q = false-T (same x a) (apart-nth x a xs j d.0 p) (same-of-eq x a (some_inj x a q))
one_place (x ∷ xs) a (suc j) (suc k) d p q = ap suc (one_place xs a j k d.1 p q)
