-- Tests and choices: what follows from a test that holds, and from which branch a choice took.
use mathlib.Core.Path.{◌≡◌, refl, subst}
use mathlib.Core.Bool.{Bool, true, false, cond, ◌&&◌}
use Rattle.std.specs.Prelude.{Option, None, Some}
use lib.Dec.{T}

pub and_left : (a b : Bool) → T (a && b) → T a
and_left true b t = tt
and_left false b t = t

pub and_right : (a b : Bool) → T (a && b) → T b
and_right true b t = t
and_right false b t = absurd t

pub both : (a b : Bool) → T a → T b → T (a && b)
both true b t u = u
both false b t u = t

pub bool_eq : (a b : Bool) → (T a → T b) → (T b → T a) → a ≡ b
bool_eq true true f g = refl
bool_eq true false f g = absurd (f tt)
bool_eq false true f g = absurd (g tt)
bool_eq false false f g = refl

pub false-T : {B : Type 0} (b : Bool) → b ≡ false → T b → B
false-T b e t = absurd (subst T e t)

-- By the two branches of a choice.
pub either : {A : Type 0} (P : A → Type 0) (b : Bool) (x y : A) → (T b → P x) → (b ≡ false → P y) → P (cond b x y)
either P true x y f g = f tt
either P false x y f g = g refl

abbrev IsNoneType : {A : Type 0} → Option A → Type 0
IsNoneType None = Unit {0}
IsNoneType (Some a) = ⊥

pub none-some : {A : Type 0} {B : Type 0} (a : A) → None ≡ Some a → B
none-some a p = absurd (subst IsNoneType p tt)

pub some_inj : {A : Type 0} (a b : A) → Some a ≡ Some b → a ≡ b
some_inj a b p = cc
