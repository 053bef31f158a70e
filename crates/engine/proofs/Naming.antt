-- Names interned are found again under their numbers, also where more are held.
use Prim.Native.Nat.{ℕ, ◌≤◌, ◌<◌}
use mathlib.Core.Path.{◌≡◌, refl, sym, subst, ap, ap₂, ◌∙◌}
use mathlib.Core.List.{List, [], ◌∷◌, ◌++◌, map}
use native.Mathlib.Omega.{arith}
use lib.ListN.{length}
use Rattle.laws.specs.Optional.{value_or}
use Rattle.laws.specs.Lists.{All}
use Rattle.std.specs.Prelude.{slice_get}
use Rattle.laws.specs.Texts.{Text, bytes}
use Rattle.laws.proofs.Slices.{nth-take}
use Rattle.laws.proofs.Tests.{value_or-some}
use Rattle.model.specs.Op.{Info}
use Rattle.model.specs.Registers.{intern, intern_all, resolve, resolve_names, name_of}
use Rattle.registers.specs.Look.{Numbers, numbers_of, queue_names, queue_numbers}
use Rattle.registers.proofs.Interning.{Begins, all-begins, all-grows, all_append, intern-length}
use Rattle.registers.proofs.FirstUse.{first-place}
use Rattle.registers.proofs.Look.{numbers-below, resolve-all}

-- A number below the names that were held keeps its name.
pub name-stays : (ns ls : List Text) → Begins ns ls → {r : ℕ} → r < length ns → name_of ls r ≡ name_of ns r
unfolding name_of
name-stays ns ls b {r} h = ap (value_or (bytes "?")) (sym (nth-take ls h) ∙ ap (λ l. slice_get l r) b)

pub names-stay : (ns ls : List Text) → Begins ns ls → (rs : List ℕ) → All (λ (r : ℕ). r < length ns) rs → map (name_of ls) rs ≡ map (name_of ns) rs
names-stay ns ls b [] a = refl
names-stay ns ls b (r ∷ rs) a = ap₂ ◌∷◌ (name-stays ns ls b a.0) (names-stay ns ls b rs a.1)

-- The numbers that interning gives name what was interned.
pub names-interned : (ns bs : List Text) → map (name_of (intern_all ns bs).names) (intern_all ns bs).numbers ≡ bs
unfolding intern_all name_of
names-interned ns [] = refl
names-interned ns (a ∷ bs) =
    ap₂ ◌∷◌
    (name-stays (intern ns a).names (intern_all (intern ns a).names bs).names (all-begins (intern ns a).names bs) (omega (arith, intern-length a ns))
    ∙ first)
    (names-interned (intern ns a).names bs)
  where
    first : name_of (intern ns a).names (intern ns a).number ≡ a
    first = value_or-some (bytes "?") (first-place a ns).here

module _ (ns : List Text) (i : Info) where
  pub resolve-begins : Begins ns (resolve ns i).names
  resolve-begins = subst (Begins ns) (sym (resolve-all ns i)) (all-begins ns (i.sources ++ i.writes))

  pub reads-named : map (name_of (resolve ns i).names) (resolve ns i).read ≡ i.sources
  unfolding resolve resolve_names
  reads-named =
      names-stay (intern_all ns i.sources).names (intern_all (intern_all ns i.sources).names i.writes).names
      (all-begins (intern_all ns i.sources).names i.writes) (intern_all ns i.sources).numbers (numbers-below ns i.sources)
      ∙ names-interned ns i.sources

  pub writes-named : map (name_of (resolve ns i).names) (resolve ns i).written ≡ i.writes
  unfolding resolve resolve_names
  writes-named = names-interned (intern_all ns i.sources).names i.writes

-- ── Along a queue ───────────────────────────────────────────────────────────

-- The registers of an operation are among the first n.
pub record Below (n : ℕ) (k : Numbers) : Type 0 where
  pub read : All (λ (r : ℕ). r < n) k.read
  pub written : All (λ (r : ℕ). r < n) k.written

pub below_all : {m n : ℕ} → m ≤ n → (rs : List ℕ) → All (λ (r : ℕ). r < m) rs → All (λ (r : ℕ). r < n) rs
below_all h [] a = tt
below_all h (r ∷ rs) a = (let z = a.0 in omega arith, below_all h rs a.1)

resolve-below : (ns : List Text) (i : Info) {n : ℕ} → length (resolve ns i).names ≤ n → Below n (numbers_of (resolve ns i))
unfolding resolve resolve_names
resolve-below ns i h =
    record {
      read =
          below_all (omega (arith, all-grows (intern_all ns i.sources).names i.writes)) (intern_all ns i.sources).numbers
          (numbers-below ns i.sources);
      written =
          below_all h (intern_all (intern_all ns i.sources).names i.writes).numbers
          (numbers-below (intern_all ns i.sources).names i.writes);
    }

queue-front : (ns : List Text) (i : Info) (q : List Info)
    → length (intern_all ns (queue_names (i ∷ q))).names ≡ length (intern_all (resolve ns i).names (queue_names q)).names
unfolding queue_names resolve resolve_names
queue-front ns i q =
    ap (λ r. length r.names) (all_append ns i.sources (i.writes ++ queue_names q))
    ∙ ap (λ r. length r.names) (all_append (intern_all ns i.sources).names i.writes (queue_names q))

pub queue-below : (ns : List Text) (q : List Info) {n : ℕ} → length (intern_all ns (queue_names q)).names ≤ n → All (Below n) (queue_numbers ns q)
unfolding queue_numbers
queue-below ns [] h = tt
queue-below ns (i ∷ q) {n} h =
    let m : length (intern_all (resolve ns i).names (queue_names q)).names ≤ n = omega (arith, queue-front ns i q) in
    (resolve-below ns i (omega (arith, all-grows (resolve ns i).names (queue_names q))), queue-below (resolve ns i).names q m)
