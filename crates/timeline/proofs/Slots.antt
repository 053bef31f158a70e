-- Which ids are held, and in which slots.
use Rattle.std.specs.Prelude.{None, Some}
use Prim.Native.Nat.{ℕ, suc, ◌+◌, ◌-◌, ◌*◌, ◌/◌, ◌%◌, ◌≤◌, ◌<◌}
use mathlib.Core.Path.{◌≡◌, ◌∙◌}
use mathlib.Core.Logic.{◌⊎◌, inl, inr, ⊎_elim}
use native.Mathlib.Nat.{div-add-mod', mul-le-mul_right, suc-mul, mod-lt}
use native.Mathlib.Omega.{arith}
use Rattle.laws.proofs.Tests.{cond-lt, cond-ge, lt-or-ge}
use Rattle.timeline.specs.declared.Window.{Window}
use Rattle.timeline.specs.View.{WindowOk, SlotOf, slot_held}

-- Fewer than h apart, two numbers have different remainders.
pub apart : (h i j : ℕ) → i < j → j < i + h → i % h ≡ j % h → ⊥
apart h i j l g e = ⊎_elim less more (lt-or-ge (i / h) (j / h))
  where
    less : i / h < j / h → ⊥
    less p =
        let one_more : suc (i / h) * h ≡ i / h * h + h = suc-mul (i / h) h in
        omega (arith, mul-le-mul_right h p, div-add-mod' i h, div-add-mod' j h)

    more : j / h ≤ i / h → ⊥
    more p = omega (arith, mul-le-mul_right h p, div-add-mod' i h, div-add-mod' j h)

-- ── Slots ───────────────────────────────────────────────────────────────────

-- Id i is held, in slot s.
pub record Held (w : Window) (i s : ℕ) : Type 0 where
  pub least : w.next - w.held ≤ i
  pub most : i < w.next
  pub slot : SlotOf w i s

module _ (w : Window) (i : ℕ) where
  pub gone-before : i < w.next - w.held → slot_held w i ≡ None
  unfolding slot_held
  gone-before l = cond-lt _ _ l

  pub gone-after : w.next - w.held ≤ i → w.next ≤ i → slot_held w i ≡ None
  unfolding slot_held
  gone-after l m = cond-ge _ _ l ∙ cond-ge _ _ m

  pub held-slot : w.next - w.held ≤ i → i < w.next → slot_held w i ≡ Some (i % w.history)
  unfolding slot_held
  held-slot l m = cond-ge _ _ l ∙ cond-lt _ _ m

  not_at : {s : ℕ} {A : Type 0} → slot_held w i ≡ Some s → slot_held w i ≡ None → A
  not_at e n = absurd (let z : ◌≡◌ {A = ℕ} 0 1 = cc in omega arith)

  pub found : WindowOk w → {s : ℕ} → slot_held w i ≡ Some s → Held w i s
  found ok {s} e =
      ⊎_elim
      (λ l. not_at e (gone-before l))
      (λ l. ⊎_elim (held l) (λ m. not_at e (gone-after l m)) (lt-or-ge i w.next))
      (lt-or-ge i (w.next - w.held))
    where
      held : w.next - w.held ≤ i → i < w.next → Held w i s
      held l m =
          let t : slot_held w i ≡ Some (i % w.history) = held-slot l m in
          let at : s ≡ i % w.history = cc in
          record { least = l; most = m; slot = record { is = at; below = omega (arith, at, mod-lt i ok.least) } }

  pub not_found : slot_held w i ≡ None → (i < w.next - w.held) ⊎ (w.next ≤ i)
  not_found e =
      ⊎_elim
      inl
      (λ l. inr (⊎_elim (λ m. not_at (held-slot l m) e) (λ m. m) (lt-or-ge i w.next)))
      (lt-or-ge i (w.next - w.held))
