-- A list of names in an array: its length, its first names, and one more.
use Rattle.std.proofs.Common.{
  ◌≡◌,
  ℕ,
  ◌+◌,
  ◌-◌,
  ◌<◌,
  ◌≤◌,
  min,
  Bool,
  false,
  cond,
  ◌||◌,
  ltb,
  List,
  [],
  ◌∷◌,
  ◌++◌,
  map,
  length,
  take,
  set,
  replicate,
  sym,
  refl,
  ap,
  ap₂,
  option_map,
  ◌∙◌,
  ⊎_elim,
  append_assoc,
  append-nil,
  arith,
  length-append,
  length-set,
  length-take,
  take_all,
  take_at,
}
use lib.ListN.{length-replicate, length-map, replicate-append-replicate}
use Rattle.std.proofs.lemmas.List.{take-map}
use Rattle.std.specs.List.{list_any}
use Rattle.laws.specs.Texts.{Text}
use Rattle.laws.proofs.Tests.{lt-or-ge, cond-lt, cond-ge}
use Rattle.laws.proofs.Shift.{view-pushed}
use Rattle.laws.specs.Optional.{when_some}
use Rattle.model.specs.Calls.{bad_text, bad_info}
use Rattle.op.specs.declared.chars.Chars.{Chars}
use Rattle.op.specs.declared.PipelineOp.{PipelineOp}
use Rattle.op.specs.Chars.{view_text}
use Rattle.op.specs.View.{listed, view_op}
use Rattle.op.specs.Build.{pushed}

module _ {A : Type 0} (v : A → Text) (most n : ℕ) (l : List A) (all : length l ≡ most) where
  pub listed-length : length (listed most n (map v l)) ≡ n
  unfolding listed
  listed-length = simp (length-append, length-take, length-replicate, length-map) (omega arith)

  -- Within the array there are no names past it.
  pub listed-within : n ≤ most → listed most n (map v l) ≡ take n (map v l)
  unfolding listed
  listed-within h =
      let e : n - most ≡ 0 = omega arith in
      rw e (append-nil (take n (map v l)))

  pub listed-past : most ≤ n → listed most n (map v l) ≡ map v l ++ replicate (n - most) []
  unfolding listed
  listed-past h = rw (take_all n (map v l) (simp length-map (omega arith)))

  pub listed-first : take most (listed most n (map v l)) ≡ take n (map v l)
  listed-first = ⊎_elim within past (lt-or-ge n most)
    where
      within : n < most → take most (listed most n (map v l)) ≡ take n (map v l)
      within h = rw (listed-within (omega arith)) (take_all most (take n (map v l)) (simp length-take (omega arith)))

      past : most ≤ n → take most (listed most n (map v l)) ≡ take n (map v l)
      past h =
          ap (take most) (listed-past h) ∙ take_at (map v l) _ most (length-map l v ∙ all)
          ∙ sym (take_all n (map v l) (simp length-map (omega arith)))

-- One more name.
module _ {A : Type 0} (v : A → Text) (most n : ℕ) (l : List A) (all : length l ≡ most) (x : A) where
  pub push-within : n < most → most < 255 → listed most (min (n + 1) 255) (map v (set l n x)) ≡ pushed most (v x) (listed most n (map v l))
  unfolding pushed
  push-within h k =
      let e : min (n + 1) 255 ≡ n + 1 = omega arith in
      rw (e, listed-length v most n l all, listed-within v most (n + 1) (set l n x) (length-set l n x ∙ all) (omega arith))
      (view-pushed v l n x (omega arith) ∙ rw (← listed-within v most n l all (omega arith)) (sym (cond-lt _ _ h)))

  pub push-past : most ≤ n → n ≤ 255 → listed most (min (n + 1) 255) (map v l) ≡ pushed most (v x) (listed most n (map v l))
  unfolding pushed
  push-past h k = rw (listed-length v most n l all) (⊎_elim more full (lt-or-ge n 255) ∙ sym (cond-ge _ _ h))
    where
      more : n < 255 → listed most (min (n + 1) 255) (map v l) ≡ cond (ltb n 255) (listed most n (map v l) ++ [] ∷ []) (listed most n (map v l))
      more q =
          let e : min (n + 1) 255 ≡ n + 1 = omega arith in
          let d : n + 1 - most ≡ n - most + 1 = omega arith in
          rw (e, listed-past v most (n + 1) l all (omega arith), d, ← replicate-append-replicate {A = Text} (n - most) 1 [])
          (sym (append_assoc (map v l) (replicate (n - most) []) ([] ∷ [])) ∙ ap (λ t. t ++ [] ∷ []) (sym (listed-past v most n l all h)) ∙ sym (cond-lt _ _ q))

      full : 255 ≤ n → listed most (min (n + 1) 255) (map v l) ≡ cond (ltb n 255) (listed most n (map v l) ++ [] ∷ []) (listed most n (map v l))
      full q = let e : min (n + 1) 255 ≡ n = omega arith in rw e (sym (cond-ge _ _ q))

-- ── One that is refused ───────────────────────────────────────────────────────

any-map : {A : Type 0} (v : A → Text) (p : Text → Bool) (l : List A) → list_any p (map v l) ≡ list_any (λ x. p (v x)) l
any-map v p [] = refl
any-map v p (x ∷ l) = ap (λ b. p (v x) || b) (any-map v p l)

-- One of the first `most` passes a test: of those in the array, since there are no more.
listed-any : {A : Type 0} (v : A → Text) (p : Text → Bool) (most n : ℕ) (l : List A) → length l ≡ most
    → list_any p (take most (listed most n (map v l))) ≡ list_any (λ x. p (v x)) (take n l)
listed-any v p most n l all = ap (list_any p) (listed-first v most n l all ∙ take-map v n l) ∙ any-map v p (take n l)

-- The test of an operation, at what it has in its arrays.
pub bad_op : (o : PipelineOp) → length o.sources ≡ 8 → length o.writes ≡ 4
    → bad_info (view_op o).info
    ≡ (bad_text 64 (view_text {N = 64} o.disassembly) || when_some (option_map (view_text {N = 64}) o.fault) false (bad_text 64)
    || when_some (option_map (view_text {N = 16}) o.destination) false (bad_text 16)
    || list_any (λ (x : Chars 16). bad_text 16 (view_text {N = 16} x)) (take o.sources_len o.sources)
    || list_any (λ (x : Chars 16). bad_text 16 (view_text {N = 16} x)) (take o.writes_len o.writes))
unfolding bad_info view_op
bad_op o s w =
    ap₂
    (λ u v. bad_text 64 (view_text {N = 64} o.disassembly) || when_some (option_map (view_text {N = 64}) o.fault) false (bad_text 64)
    || when_some (option_map (view_text {N = 16}) o.destination) false (bad_text 16) || u || v)
    (listed-any (view_text {N = 16}) (bad_text 16) 8 o.sources_len o.sources s)
    (listed-any (view_text {N = 16}) (bad_text 16) 4 o.writes_len o.writes w)

-- ── What the checks of the code cite ──────────────────────────────────────────

pub ruleset pushes = (push-within, push-past)

pub ruleset counts = (listed-length)
