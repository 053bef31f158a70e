-- The table of names under a renaming.
use Prim.Native.Nat.{ℕ, suc}
use mathlib.Core.Path.{◌≡◌, refl, sym, ◌∙◌, ap, ap₂, subst}
use mathlib.Core.Bool.{Bool, true, false, cond}
use Rattle.std.specs.Prelude.{Option, None, Some, slice_get}
use mathlib.Core.List.{List, [], ◌∷◌, map}
use Rattle.laws.specs.Lists.{All2, more2, none2}
use Rattle.laws.specs.Optional.{when_some}
use Rattle.laws.specs.Texts.{Text, same}
use Rattle.laws.proofs.Choices.{bool_eq, some_inj}
use Rattle.laws.proofs.Same.{same-eq, same-of-eq}
use Rattle.runs.proofs.Names.{At, Distinct, one_place}
use Rattle.model.specs.Op.{Info}
use Rattle.model.specs.Registers.{Interned, get, intern, intern_all, interned, registers, resolve}
use Rattle.renaming.specs.Recording.{blank}
use Rattle.renaming.specs.Renaming.{Carries, OneToOne}

-- ── Under a renaming ────────────────────────────────────────────────────────

module _ (r : Text → Text → Type 0) (o : OneToOne r) where
  same-renamed : (a b a' b' : Text) → r a b → r a' b' → same a a' ≡ same b b'
  same-renamed a b a' b' p q =
      bool_eq (same a a') (same b b')
      (λ t. same-of-eq b b' (o.onto_one a' b b' (subst (λ x. r x b) (same-eq a a' t) p) q))
      (λ t. same-of-eq a a' (o.from_one a a' b' (subst (λ x. r a x) (same-eq b b' t) p) q))

  abbrev LikeInterned : Interned → Interned → Type 0
  LikeInterned x y = (x.number ≡ y.number) × All2 r x.names y.names

  choose : (u v : Bool) (x x' y y' : Interned) → u ≡ v → LikeInterned x y → LikeInterned x' y' → LikeInterned (cond u x x') (cond v y y')
  choose u v x x' y y' e p q = subst (λ k. LikeInterned (cond u x x') (cond k y y')) e (go u)
    where
      go : (b : Bool) → LikeInterned (cond b x x') (cond b y y')
      go true = p
      go false = q

  intern-renamed : (ns ms : List Text) (a b : Text) → All2 r ns ms → r a b → LikeInterned (intern ns a) (intern ms b)
  unfolding registers
  intern-renamed ns ms a b none2 p = (refl, more2 p none2)
  intern-renamed ns ms a b (more2 {a = x} {b = y} {as' = xs} {bs = ys} q qs) p =
      choose (same x a) (same y b) (interned 0 (x ∷ xs)) (interned (suc (intern xs a).number) (x ∷ (intern xs a).names))
      (interned 0 (y ∷ ys)) (interned (suc (intern ys b).number) (y ∷ (intern ys b).names)) (same-renamed x y a b q p) (refl, more2 q qs)
      (ap suc (intern-renamed xs ys a b qs p).0, more2 q (intern-renamed xs ys a b qs p).1)

  pub all_renamed
      : (ns ms bs cs : List Text) → All2 r ns ms → All2 r bs cs
      → ((intern_all ns bs).numbers ≡ (intern_all ms cs).numbers) × All2 r (intern_all ns bs).names (intern_all ms cs).names
  unfolding registers
  all_renamed ns ms bs cs t none2 = (refl, t)
  all_renamed ns ms bs cs t (more2 {a = b} {b = c} {as' = bs'} {bs = cs'} q qs) =
      let i = intern-renamed ns ms b c t q in
      let j = all_renamed (intern ns b).names (intern ms c).names bs' cs' i.1 qs in
      (ap₂ {A = ℕ} {B = List ℕ} ◌∷◌ i.0 j.0, j.1)

  -- A look under a renaming: the same numbers, and tables that are renamed again.
  pub resolve-renamed
      : (ns ms : List Text) (i j : Info) → All2 r ns ms → Carries r i j
      → ((resolve ns i).read ≡ (resolve ms j).read) × ((resolve ns i).written ≡ (resolve ms j).written) × All2 r (resolve ns i).names (resolve ms j).names
  unfolding registers
  resolve-renamed ns ms i j t c =
      let x = all_renamed ns ms i.sources j.sources t c.0 in
      let y = all_renamed (intern_all ns i.sources).names (intern_all ms j.sources).names i.writes j.writes x.1 c.1 in
      (x.0, y.0, y.1)

  pub get-renamed : (ns ms : List Text) (a b : Text) → All2 r ns ms → r a b → get ns a ≡ get ms b
  unfolding registers
  get-renamed ns ms a b none2 p = refl
  get-renamed ns ms a b (more2 {a = x} {b = y} {as' = xs} {bs = ys} q qs) p =
      ap₂ (λ (k : Bool) (m : Option ℕ). cond k (Some 0) (when_some m None (λ (n : ℕ). Some (suc n)))) (same-renamed x y a b q p)
      (get-renamed xs ys a b qs p)

pub same-many : {r : Text → Text → Type 0} (ns ms : List Text) → All2 r ns ms → map blank ns ≡ map blank ms
same-many ns ms none2 = refl
same-many ns ms (more2 {as' = xs} {bs = ys} q qs) = ap (λ (l : List Text). [] ∷ l) (same-many xs ys qs)

-- ── Two tables, place by place ──────────────────────────────────────────────

-- The renaming of two tables: the names that stand at one place.
abbrev pub Paired : List Text → List Text → Text → Text → Type 0
Paired ns ms a b = (k : ℕ) × At ns a k × At ms b k

pub paired-one : (ns ms : List Text) → Distinct ns → Distinct ms → OneToOne (Paired ns ms)
paired-one ns ms d e =
    record {
      onto_one = λ a b c p q.
          some_inj b c (sym p.2 ∙ ap (slice_get ms) (one_place ns a p.0 q.0 d p.1 q.1) ∙ q.2);
      from_one = λ a b c p q.
          some_inj a b (sym p.1 ∙ ap (slice_get ns) (one_place ms c p.0 q.0 e p.2 q.2) ∙ q.1);
    }

pub paired-all : (ns ms : List Text) (bs cs : List Text) (ks : List ℕ) → All2 (At ns) bs ks → All2 (At ms) cs ks → All2 (Paired ns ms) bs cs
paired-all ns ms bs cs ks none2 none2 = none2
paired-all ns ms bs cs ks (more2 {b = k} {bs = ks'} p ps) (more2 q qs) = more2 (k, p, q) (paired-all ns ms _ _ ks' ps qs)
