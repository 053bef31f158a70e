-- A station: who owes what it waits for, its operands, its phase, and all that it shows.
use Rattle.inspect.specs.declared.stations.PipelineOperandView.{PipelineOperandView}
use Rattle.occupants.specs.declared.PipelineSlotView.{PipelineSlotView}
use Prim.Native.Nat.{ℕ, ◌<◌}
use mathlib.Core.Path.{◌≡◌, refl, sym, ap, ap₂, ◌∙◌}
use mathlib.Core.Bool.{Bool, true, false, cond}
use Rattle.std.specs.Prelude.{Option, None, Some, option_map, find, ◌==◌, slice_get}
use mathlib.Core.List.{List, [], ◌∷◌, map}
use native.Mathlib.Omega.{arith}
use lib.ListN.{length, take, length-map}
use lib.Seq.{length-take-le}
use denote.Ref.{Bor}
use Rattle.laws.specs.Lists.{is_empty}
use Rattle.laws.proofs.Slices.{take-map, empty-yes, empty-no}
use Rattle.capability.specs.declared.Phase.{Phase}
use Rattle.capability.specs.declared.PipelineEntryPhase.{PipelineEntryPhase}
use Rattle.model.specs.Units.{FunctionalUnit}
use Rattle.model.specs.Views.{SlotView, slot_view, OperandView, owed, operand_view, StationView, entry_phase, station_op, station_view}
use Rattle.registers.specs.declared.Owed.{Owed}
use Rattle.registers.specs.declared.Waits.{Waits}
use Rattle.registers.specs.View.{view_owed, view_waits, WaitsOk}
use Rattle.occupants.specs.View.{view_slot}
use Rattle.inspect.specs.View.{view_operand, view_station, inspected}

-- ── What a unit waits for ───────────────────────────────────────────────────

pub waits-map : (w : Waits) → view_waits w ≡ map view_owed (take w.len w.items)
unfolding view_waits
waits-map w = take-map view_owed w.len w.items

pub waits-empty : {w : Waits} → WaitsOk w → w.len ≡ 0 → is_empty (view_waits w) ≡ true
waits-empty {w} ok e = empty-yes (view_waits w) (ap length (waits-map w) ∙ length-map (take w.len w.items) view_owed ∙ length-take-le w.len w.items (omega (arith, ok.count, ok.size)) ∙ e)

pub waits-some : {w : Waits} → WaitsOk w → 0 < w.len → is_empty (view_waits w) ≡ false
waits-some {w} ok h =
    empty-no (view_waits w)
    (omega (arith, ap length (waits-map w), length-map (take w.len w.items) view_owed, length-take-le w.len w.items (omega (arith, ok.count, ok.size)), h))

-- Who owes it is the unit of the first that has the register.
owed-find : (r : ℕ) (l : List Owed) → option_map (λ p. p.unit) (find (λ p. p.register == r) l) ≡ owed (map view_owed l) r
unfolding owed view_owed
owed-find r [] = refl
owed-find r (x ∷ xs) = by (x.register == r) refl (owed-find r xs)
  where
    by : (b : Bool) → (x.register == r) ≡ b → option_map (λ p. p.unit) (find (λ p. p.register == r) xs) ≡ owed (map view_owed xs) r
        → option_map (λ p. p.unit) (find (λ p. p.register == r) (x ∷ xs)) ≡ owed (map view_owed (x ∷ xs)) r
    by true e h = rw e refl
    by false e h = rw e h

pub owed_found : (r : ℕ) (l : List Owed) {u : Option ℕ} → u ≡ option_map (λ p. p.unit) (find (λ p. p.register == r) l) → u ≡ owed (map view_owed l) r
owed_found r l e = e ∙ owed-find r l

-- ── An operand ──────────────────────────────────────────────────────────────

abbrev operand-shown : ℕ → Option ℕ → OperandView
operand-shown r p = record { register = r; producer = p }

module _ (u : FunctionalUnit) (j : ℕ) (m : Option (Bor ℕ)) (e : option_map (λ x. x.now) m ≡ slice_get u.sources j) where
  pub operand-there : (r : Bor ℕ) (p : Option ℕ) → m ≡ Some r → p ≡ owed u.pending r.now
      → option_map view_operand (Some (record { register = r.now; producer = p })) ≡ operand_view u j
  unfolding inspected operand_view
  operand-there r p t h =
      ap (λ x. Some (operand-shown r.now x)) h
      ∙ sym (ap (option_map (λ (q : ℕ). operand-shown q (owed u.pending q))) (sym e ∙ ap (option_map (λ x. x.now)) t))

  pub operand-past : m ≡ None → option_map view_operand None ≡ operand_view u j
  unfolding inspected operand_view
  operand-past t = sym (ap (option_map (λ (q : ℕ). operand-shown q (owed u.pending q))) (sym e ∙ ap (option_map (λ x. x.now)) t))

-- ── The phase ───────────────────────────────────────────────────────────────

-- The same busy, phase, and waits.
pub phase-is : {b c : Bool} {p q : Phase} {e f : Bool} → b ≡ c → p ≡ q → e ≡ f → entry_phase c q f ≡ entry_phase b p e
phase-is {b} {c} {p} {q} {e} {f} s t v = sym (ap (λ x. entry_phase x p e) s ∙ ap₂ (entry_phase c) t v)

-- ── A station ───────────────────────────────────────────────────────────────

abbrev station-shown : ℕ → Option ℕ → Option SlotView → PipelineEntryPhase → Option OperandView → Option OperandView → StationView
station-shown n t v p a b = record { unit = n; tag = t; slot = v; phase = p; operand_0 = a; operand_1 = b }

pub station-is : (i : ℕ) (u : FunctionalUnit) (t : Option ℕ) (v : Option PipelineSlotView) {p : PipelineEntryPhase} (a b : Option PipelineOperandView)
    → t ≡ cond u.busy (Some i) None
    → option_map view_slot v ≡ option_map slot_view (station_op u)
    → p ≡ entry_phase u.busy u.phase (is_empty u.pending)
    → option_map view_operand a ≡ operand_view u 0
    → option_map view_operand b ≡ operand_view u 1
    → view_station (record { unit = u.spec; tag = t; slot = v; phase = p; operand_0 = a; operand_1 = b }) ≡ station_view i u
unfolding view_station station_view
station-is i u t v {p} a b tag slot phase first second =
    ap₂ (λ x y. station-shown u.spec x y p (option_map view_operand a) (option_map view_operand b)) tag slot
    ∙ ap (λ x. station-shown u.spec (cond u.busy (Some i) None) (option_map slot_view (station_op u)) x (option_map view_operand a) (option_map view_operand b)) phase
    ∙ ap₂ (λ x y. station-shown u.spec (cond u.busy (Some i) None) (option_map slot_view (station_op u)) (entry_phase u.busy u.phase (is_empty u.pending)) x y) first second
