-- Names that a caller pushes are taken or refused as the names themselves are.
use Rattle.std.proofs.Common.{
  ◌≡◌,
  ℕ,
  ◌<◌,
  ◌≤◌,
  min,
  false,
  ◌||◌,
  ltb,
  List,
  [],
  ◌∷◌,
  ◌++◌,
  length,
  take,
  sym,
  refl,
  ap,
  ◌∙◌,
  subst,
  ap₂,
  ⊎_elim,
  arith,
  length-append,
  length-take,
  take_all,
  ltb-false,
  le-ltb,
  lt-ltb,
}
use Rattle.std.specs.Prelude.{Option}
use lib.Seq.{take-append-le}
use Rattle.laws.specs.Optional.{when_some}
use Rattle.std.specs.List.{list_any}
use Rattle.laws.specs.Texts.{Text}
use Rattle.laws.proofs.Tests.{lt-or-ge, cond-lt, cond-ge}
use Rattle.model.specs.Op.{info_of}
use Rattle.model.specs.Calls.{bad_text, bad_info, too_many}
use Rattle.op.specs.Build.{pushed, Alike}

pub alike-none : (most : ℕ) → Alike most [] []
alike-none most = record { first = refl; more = refl }

module _ {most : ℕ} {l m : List Text} (e : Alike most l m) where
  lengths : min most (length l) ≡ min most (length m)
  lengths = sym (length-take most l) ∙ ap length e.first ∙ length-take most m

  -- Within the limit they are the same.
  pub alike_same : length m ≤ most → l ≡ m
  alike_same h =
      let k : length l ≤ most = ltb-false most (length l) (e.more ∙ le-ltb most (length m) h) in
      sym (take_all most l k) ∙ e.first ∙ take_all most m h

  pub alike-push : (x : Text) → most < 255 → Alike most (pushed most x l) (m ++ x ∷ [])
  unfolding pushed
  alike-push x k = ⊎_elim within past (lt-or-ge (length l) most)
    where
      within : length l < most → Alike most (pushed most x l) (m ++ x ∷ [])
      within h =
          let q : pushed most x l ≡ m ++ x ∷ [] = cond-lt _ _ h ∙ ap (λ u. u ++ x ∷ []) (alike_same (omega (arith, lengths))) in
          record { first = ap (take most) q; more = ap (λ u. ltb most (length u)) q }

      longer : (u v : List Text) → take most u ≡ take most v → most < length u → most < length v → Alike most u v
      longer u v p a b = record { first = p; more = lt-ltb most (length u) a ∙ sym (lt-ltb most (length v) b) }

      -- One more behind the limit, whatever it is.
      behind : (u : List Text) (y : Text) → most ≤ length u → (take most (u ++ y ∷ []) ≡ take most u) × (most < length (u ++ y ∷ []))
      behind u y h = (take-append-le most u (y ∷ []) h, omega (arith, length-append u (y ∷ [])))

      past : most ≤ length l → Alike most (pushed most x l) (m ++ x ∷ [])
      past h =
          let b = behind m x (omega (arith, lengths)) in
          subst (λ u. Alike most u (m ++ x ∷ [])) (sym (cond-ge _ _ h))
          (⊎_elim
          (λ q.
          let a = behind l [] h in
          subst (λ u. Alike most u (m ++ x ∷ [])) (sym (cond-lt (l ++ [] ∷ []) l q))
          (longer _ _ (a.0 ∙ e.first ∙ sym b.0) a.1 b.1))
          (λ q.
          subst (λ u. Alike most u (m ++ x ∷ [])) (sym (cond-ge (l ++ [] ∷ []) l q))
          (longer l _ (e.first ∙ sym b.0) (omega arith) b.1))
          (lt-or-ge (length l) 255))

module _ {s s' w w' : List Text} (t : Text) (n d : Option Text) (p : ℕ) (a : Alike 8 s s') (b : Alike 4 w w') where
  pub alike-bad : bad_info (info_of t n d s w p) ≡ bad_info (info_of t n d s' w' p)
  unfolding bad_info
  alike-bad =
      ap₂ (λ u v. bad_text 64 t || when_some n false (bad_text 64) || when_some d false (bad_text 16) || list_any (bad_text 16) u || list_any (bad_text 16) v)
      a.first b.first

  pub alike-many : too_many (info_of t n d s w p) ≡ too_many (info_of t n d s' w' p)
  unfolding too_many
  alike-many = ap₂ ◌||◌ a.more b.more
