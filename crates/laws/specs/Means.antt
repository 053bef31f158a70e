-- The contract of a function that hands back a state: the result means m, and is well formed.
use Rattle.std.specs.Prelude.{◌≡◌}

pub record Means {A B : Type 0} (view : A → B) (Ok : A → Type 0) (r : A) (m : B) : Type 0 where
  pub is : view r ≡ m
  pub ok : Ok r

-- The same whatever c: a function that does not read what the view looks up in c.
pub record MeansFor {A B C : Type 0} (view : C → A → B) (Ok : A → Type 0) (r : A) (m : C → B) : Type 0 where
  pub is : (c : C) → view c r ≡ m c
  pub ok : Ok r
