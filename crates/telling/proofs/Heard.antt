-- A unit by its number: what it is to the model, and its place in the pool. The wait of a unit for its first source.
use Prim.Native.Nat.{ℕ, zero, suc, ◌<◌}
use mathlib.Core.Path.{◌≡◌, refl, sym, subst, ap, ◌∙◌}
use mathlib.Core.Bool.{true, false}
use mathlib.Core.Logic.{inl, inr}
use Rattle.std.specs.Prelude.{Option, None, Some, option_map, slice_get}
use mathlib.Core.List.{List, [], ◌∷◌}
use lib.Dec.{eqb}
use borrow.Author.Tests.{eq-eqb}
use Rattle.laws.specs.Optional.{value_or}
use Rattle.laws.specs.Lists.{All, elem}
use Rattle.laws.specs.Texts.{Text}
use Rattle.laws.proofs.Choices.{none-some, some_inj}
use Rattle.laws.proofs.Tests.{cond_yes, cond_no, or-yes-second, value_or-some, omap-some}
use Rattle.laws.proofs.Slices.{seen-nth, take-map}
use Rattle.laws.proofs.Maps.{nth-map}
use Rattle.laws.proofs.Search.{any-hit}
use Rattle.capability.specs.declared.PipelineHazardKind.TheVariants.{ReadAfterWrite}
use Rattle.model.specs.Op.{mnemonic}
use Rattle.model.specs.Registers.{name_of}
use Rattle.model.specs.Traces.{Trace as Wait, waits_for, trace_of, EXECUTE, ISSUE}
use Rattle.model.specs.Units.{FunctionalUnit, idle_unit, unit_at}
use Rattle.model.specs.Issue.{producer_text, wait_detail, wait_trace}
use Rattle.timeline.specs.declared.WaitForm.TheVariants.{WaitsFor, WaitsForOlder}
use Rattle.timeline.specs.Waits.{detail_of}
use Rattle.registers.specs.declared.Owed.{Owed}
use Rattle.registers.specs.View.{view_owed, view_waits}
use Rattle.flight.specs.View.{Legend, carried_at, op_with}
use Rattle.stalls.specs.View.{Frame, word_at, logs}
use Rattle.stalls.specs.Promises.{is_redirect, names_register}
use Rattle.units.specs.declared.Unit.{Unit as Slot}
use Rattle.units.specs.View.{view_unit, UnitOk}
use Rattle.units.proofs.Pending.{waits-next}
use Rattle.bank.specs.declared.Units.{Units}
use Rattle.bank.specs.View.{view_units, slots, places, UnitKnows}
use Rattle.telling.specs.Telling.{PlaceOf, Heard}

-- ── What stands at a place ──────────────────────────────────────────────────

All-nth : {A : Type 0} (P : A → Type 0) (l : List A) (i : ℕ) {x : A} → All P l → slice_get l i ≡ Some x → P x
All-nth P [] i {x} a e = none-some x e
All-nth P (y ∷ ys) zero {x} a e = subst P (some_inj y x e) a.0
All-nth P (y ∷ ys) (suc i) a e = All-nth P ys i a.1 e

nth-elem : (l : List ℕ) (i : ℕ) {x : ℕ} → slice_get l i ≡ Some x → elem x l ≡ true
nth-elem [] i {x} e = none-some x e
nth-elem (y ∷ ys) zero {x} e = any-hit (eqb x) (eq-eqb x y (sym (some_inj y x e))) ys
nth-elem (y ∷ ys) (suc i) {x} e = or-yes-second (eqb x y) (nth-elem ys i e)

-- ── A unit by its number ────────────────────────────────────────────────────

place-word : (g : Legend) (u : Slot) → word_at g u.place ≡ mnemonic (view_unit g u).op
unfolding word_at view_unit op_with mnemonic
place-word g u = refl

word_none : (g : Legend) → word_at g 80 ≡ mnemonic (idle_unit 0 0).op
unfolding word_at carried_at idle_unit mnemonic
word_none g = refl

-- The unit of that number, as `get` reads it; an idle one where there is none.
unit-read : (g : Legend) (us : Units) (at : ℕ) → unit_at (view_units g us) at ≡ value_or (idle_unit 0 0) (option_map (view_unit g) (slice_get (slots us) at))
unfolding unit_at view_units slots
unit-read g us at =
    ap (λ l. value_or (idle_unit 0 0) (slice_get l at)) (take-map (view_unit g) us.len us.items)
    ∙ ap (value_or (idle_unit 0 0)) (nth-map (view_unit g) (slots us) at)

slot-place : (us : Units) (i : ℕ) (u : Slot) → slice_get (slots us) i ≡ Some u → elem u.place (places us) ≡ true
unfolding slots places
slot-place us i u e =
    nth-elem (places us) i
    (ap (λ l. slice_get l i) (take-map (λ (v : Slot). v.place) us.len us.items)
    ∙ nth-map (λ (v : Slot). v.place) (slots us) i
    ∙ omap-some (λ (v : Slot). v.place) e)

module _ (us : Units) (at : ℕ) where
  unit-found : {u : Slot} → slice_get (slots us) at ≡ Some u → (g : Legend) → unit_at (view_units g us) at ≡ view_unit g u
  unit-found e g = unit-read g us at ∙ ap (λ o. value_or (idle_unit 0 0) (option_map (view_unit g) o)) e

  unit-past : slice_get (slots us) at ≡ None → (g : Legend) → unit_at (view_units g us) at ≡ idle_unit 0 0
  unit-past e g = unit-read g us at ∙ ap (λ o. value_or (idle_unit 0 0) (option_map (view_unit g) o)) e

  pub place_found : {u : Slot} → slice_get (slots us) at ≡ Some u → PlaceOf us at u.place
  place_found {u} e =
      record { is = λ g. place-word g u ∙ ap (λ (v : FunctionalUnit). mnemonic v.op) (sym (unit-found e g)); placed = inr (slot-place us at u e) }

  pub place_none : slice_get (slots us) at ≡ None → PlaceOf us at 80
  place_none e = record { is = λ g. word_none g ∙ ap (λ (v : FunctionalUnit). mnemonic v.op) (sym (unit-past e g)); placed = inl refl }

-- ── The wait of a unit ──────────────────────────────────────────────────────

module _ (us : Units) {u : Slot} (p : Owed) (ok : UnitOk u) (first : view_owed p ≡ value_or (0, 0) (slice_get (view_waits u.pending) 0)) where
  -- The first source of a unit that waits is one of those that it waits for.
  first-known : (i n : ℕ) → slice_get (slots us) i ≡ Some u → 0 < u.pending.len → All (UnitKnows n) (slots us) → p.register < n
  unfolding view_owed
  first-known i n e h a =
      let b = (All-nth (UnitKnows n) (slots us) i a e).pending in
      let s = seen-nth (waits-next ok.pending p h) in
      let q = first ∙ value_or-some (0, 0) s in
      let k = All-nth (λ (w : ℕ × ℕ). w.0 < n) (view_waits u.pending) 0 b s in
      subst (λ (w : ℕ × ℕ). w.0 < n) (sym q) k

  heard-so : (f : Frame) (o : Option Text) → producer_text (unit_at (view_units f.legend us) p.unit) ≡ o
      → trace_of ReadAfterWrite EXECUTE ISSUE (waits_for (word_at f.legend u.place) (name_of f.names p.register) o)
      ≡ wait_trace (view_units f.legend us) f.names (view_unit f.legend u)
  unfolding wait_trace wait_detail view_unit view_owed word_at op_with mnemonic
  heard-so f o q =
      let told : ℕ → Option Text → Wait = λ r t. trace_of ReadAfterWrite EXECUTE ISSUE (waits_for (word_at f.legend u.place) (name_of f.names r) t) in
      ap (told p.register) (sym q)
      ∙ ap (λ (w : ℕ × ℕ). told w.0 (producer_text (unit_at (view_units f.legend us) w.1))) first

  pub heard-busy : {x : Slot} → slice_get (slots us) p.unit ≡ Some x → x.busy ≡ true
      → Heard us u (record { form = WaitsFor; mine = u.place; other = x.place; number = p.register })
  unfolding logs detail_of is_redirect names_register producer_text view_unit op_with mnemonic
  heard-busy {x} e b =
      record {
        is = λ f target. heard-so f (Some (word_at f.legend x.place)) (ap producer_text (unit-found us p.unit e f.legend) ∙ cond_yes _ _ b);
        from =
            λ i w h.
            record { mine = inr (slot-place us i u w); other = inr (slot-place us p.unit x e); known = λ n a r. first-known i n w h a; other_form = refl };
      }

  heard-none : ((g : Legend) → producer_text (unit_at (view_units g us) p.unit) ≡ None)
      → Heard us u (record { form = WaitsForOlder; mine = u.place; other = 80; number = p.register })
  unfolding logs detail_of is_redirect names_register
  heard-none q =
      record {
        is = λ f target. heard-so f None (q f.legend);
        from =
            λ i w h.
            record { mine = inr (slot-place us i u w); other = inl refl; known = λ n a r. first-known i n w h a; other_form = refl };
      }

  pub heard-idle : {x : Slot} → slice_get (slots us) p.unit ≡ Some x → x.busy ≡ false
      → Heard us u (record { form = WaitsForOlder; mine = u.place; other = 80; number = p.register })
  unfolding producer_text view_unit
  heard-idle e b = heard-none (λ g. ap producer_text (unit-found us p.unit e g) ∙ cond_no _ _ b)

  pub heard-past : slice_get (slots us) p.unit ≡ None → Heard us u (record { form = WaitsForOlder; mine = u.place; other = 80; number = p.register })
  unfolding producer_text idle_unit
  heard-past e = heard-none (λ g. ap producer_text (unit-past us p.unit e g))
