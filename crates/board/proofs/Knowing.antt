-- The registers of units are known: what the model's units say of it, and which steps of a unit keep it.
use Prim.Native.Nat.{ℕ, ◌<◌}
use mathlib.Core.Path.{◌≡◌, sym, subst, ◌∙◌}
use mathlib.Core.Bool.{Bool}
use mathlib.Core.List.{List, [], ◌∷◌, map}
use Rattle.laws.specs.Lists.{All, modify}
use Rattle.laws.proofs.Slices.{take-map, All-map, All-modify}
use Rattle.laws.proofs.Kept.{All-keep}
use Rattle.capability.specs.declared.PipelineHazardKind.{PipelineHazardKind}
use Rattle.model.specs.Units.{FunctionalUnit, with_busy, idle_unit, clear, clear_hazard, mark_hazard, without_waits, tick, begin, read_one}
use Rattle.flight.specs.View.{Legend, nothing_carried}
use Rattle.units.specs.declared.Unit.{Unit as Slot}
use Rattle.units.specs.View.{view_unit}
use Rattle.bank.specs.declared.Units.{Units}
use Rattle.bank.specs.View.{view_units, slots, UnitsAre, UnitKnows}

-- The registers of a model's unit are among the first n.
pub record Knows (n : ℕ) (u : FunctionalUnit) : Type 0 where
  pub sources : All (λ (r : ℕ). r < n) u.sources
  pub destinations : All (λ (r : ℕ). r < n) u.destinations
  pub pending : All (λ (p : ℕ × ℕ). p.0 < n) u.pending

-- ── A unit and its slot ─────────────────────────────────────────────────────

view-slots : (g : Legend) (us : Units) → view_units g us ≡ map (view_unit g) (slots us)
unfolding view_units slots
view-slots g us = take-map (view_unit g) us.len us.items

module _ (n : ℕ) (g : Legend) where
  knows-view : (l : List Slot) → All (UnitKnows n) l → All (Knows n) (map (view_unit g) l)
  unfolding view_unit
  knows-view l a =
      All-map (UnitKnows n) (Knows n) (view_unit g) l
      (λ u k. record { sources = k.sources; destinations = k.destinations; pending = k.pending }) a

  knows-slots : (l : List Slot) → All (Knows n) (map (view_unit g) l) → All (UnitKnows n) l
  unfolding view_unit
  knows-slots [] a = tt
  knows-slots (u ∷ l) a =
      (record { sources = a.0.sources; destinations = a.0.destinations; pending = a.0.pending }, knows-slots l a.1)

-- Any legend will do.
pub blank : Legend
blank = record { carried = λ p. nothing_carried; names = [] }

-- What the model does to the units keeps it.
pub knows-kept : (n : ℕ) (us : Units) {r : Units} {m : Legend → List FunctionalUnit} {ps : List ℕ} → UnitsAre r m ps
    → ((g : Legend) → All (Knows n) (view_units g us) → All (Knows n) (m g))
    → All (UnitKnows n) (slots us) → All (UnitKnows n) (slots r)
knows-kept n us {r} e h a =
    knows-slots n blank (slots r)
    (subst (All (Knows n)) (sym (e.is blank) ∙ view-slots blank r)
    (h blank (subst (All (Knows n)) (sym (view-slots blank us)) (knows-view n blank (slots us) a))))

-- ── Each unit, or one ───────────────────────────────────────────────────────

module _ (n : ℕ) where
  pub knows-map : (f : FunctionalUnit → FunctionalUnit) → ((u : FunctionalUnit) → Knows n u → Knows n (f u)) → (l : List FunctionalUnit)
      → All (Knows n) l → All (Knows n) (map f l)
  knows-map f h l = All-map (Knows n) (Knows n) f l h

  pub knows-modify : (i : ℕ) (f : FunctionalUnit → FunctionalUnit) → ((u : FunctionalUnit) → Knows n u → Knows n (f u))
      → (l : List FunctionalUnit) → All (Knows n) l → All (Knows n) (modify i f l)
  knows-modify i f h l = All-modify (Knows n) i f l h

  pub clear-knows : (u : FunctionalUnit) → Knows n u → Knows n (clear u)
  unfolding clear idle_unit
  clear-knows u k = record { sources = tt; destinations = tt; pending = tt }

  pub busy-knows : (b : Bool) (u : FunctionalUnit) → Knows n u → Knows n (with_busy b u)
  busy-knows b u k = record { sources = k.sources; destinations = k.destinations; pending = k.pending }

  pub clear_hazard-knows : (u : FunctionalUnit) → Knows n u → Knows n (clear_hazard u)
  unfolding clear_hazard
  clear_hazard-knows u k = record { sources = k.sources; destinations = k.destinations; pending = k.pending }

  pub mark_hazard-knows : (h : PipelineHazardKind) (u : FunctionalUnit) → Knows n u → Knows n (mark_hazard h u)
  unfolding mark_hazard
  mark_hazard-knows h u k = record { sources = k.sources; destinations = k.destinations; pending = k.pending }

  pub without_waits-knows : (i : ℕ) (u : FunctionalUnit) → Knows n u → Knows n (without_waits i u)
  unfolding without_waits
  without_waits-knows i u k =
      record { sources = k.sources; destinations = k.destinations; pending = All-keep (λ (p : ℕ × ℕ). p.0 < n) _ u.pending k.pending }

  -- the steps of a cycle
  pub tick-knows : (u : FunctionalUnit) → Knows n u → Knows n (tick u)
  unfolding tick
  tick-knows u k = record { sources = k.sources; destinations = k.destinations; pending = k.pending }

  pub begin-knows : (u : FunctionalUnit) → Knows n u → Knows n (begin u)
  unfolding begin
  begin-knows u k = record { sources = k.sources; destinations = k.destinations; pending = k.pending }

  pub read-knows : (u : FunctionalUnit) → Knows n u → Knows n (read_one u)
  unfolding read_one
  read-knows u k = record { sources = k.sources; destinations = k.destinations; pending = k.pending }
