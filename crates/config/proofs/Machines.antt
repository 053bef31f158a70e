-- The kinds of a kept machine, read and changed by place.
use Prim.Native.Nat.{ℕ, ◌+◌, ◌≤◌, ◌<◌, max}
use mathlib.Core.Path.{◌≡◌, refl, sym, ap, ◌∙◌}
use mathlib.Core.Bool.{Bool, true, false, cond}
use Rattle.std.specs.Prelude.{Option, None, Some, unwrap_or, sum_by}
use Rattle.std.specs.Option.{option_or}
use Rattle.std.specs.List.{position_from}
use mathlib.Core.List.{List, [], ◌∷◌, map}
use native.Mathlib.Numerals.{add-one}
use native.Mathlib.Omega.{arith}
use lib.ListN.{length, get_or, set, take, drop, length-set}
use Rattle.laws.specs.Means.{Means}
use Rattle.laws.specs.Lists.{find_at}
use Rattle.laws.specs.Optional.{value_or}
use Rattle.laws.proofs.Slices.{Seen, seen-get_or, seen-length, view-next, view-length, view-modify, slice-end, take-map, All-get_or, All-set, All-take, All-drop}
use Rattle.capability.specs.declared.PipelineInstructionClass.{PipelineInstructionClass}
use Rattle.capability.specs.declared.PipelineInstructionClass.TheVariants.{Alu}
use Rattle.model.specs.Config.{UnitSpec, handles, spec_index, with_capacity, capacities, with_specs}
use Rattle.config.specs.declared.Spec.{Spec}
use Rattle.config.specs.declared.Machine.{Machine}
use Rattle.config.specs.View.{view_spec, view_specs, view_machine}
use Rattle.config.specs.Checks.{noted_specs, noted, capacity_refusal}
use Rattle.config.specs.Kept.{SpecOk, MachineOk}
use Rattle.config.proofs.Bounds.{spec_index-below}
use Rattle.config.proofs.Shapes.{given}
use Rattle.config.proofs.Units.{kept_sum, capacity-most, noted-sum, noted-least}
use Rattle.config.proofs.Checks.{Changes, changes}

-- What a read past the array's end would give.
abbrev pub spare : Spec
spare =
    record { name = record { bytes = []; len = 0 }; every = false; classes = []; latency_class = Alu; capacity = 0 }

module _ {m : Machine} (ok : MachineOk m) where
  room : m.specs_len ≤ length m.specs
  room = omega (arith, ok.few, ok.specs.size)

  pub specs-length : length (view_machine m).specs ≡ m.specs_len
  unfolding view_machine view_specs
  specs-length = view-length view_spec m.specs room

  module _ {i : ℕ} (h : i < m.specs_len) where
    pub specs-next : Seen (view_machine m).specs m.specs_len i (view_spec (get_or m.specs i spare))
    unfolding view_machine view_specs
    specs-next = view-next view_spec m.specs spare room h

    pub specs-read : SpecOk (get_or m.specs i spare)
    specs-read = All-get_or SpecOk m.specs spare ok.specs.each (omega (arith, room))

  -- A class goes to a kind that is there.
  pub index-there : (c : PipelineInstructionClass) → spec_index (view_machine m).specs c < m.specs_len
  index-there c = omega (arith, spec_index-below (view_machine m).specs c (omega (arith, specs-length, ok.some)), specs-length)

pub specs-end : (m : Machine) {i : ℕ} → m.specs_len ≤ i → drop i (view_machine m).specs ≡ []
unfolding view_machine view_specs
specs-end m h = slice-end (map view_spec m.specs) h

-- The kinds as kept answer for those of the model.
kinds-find : (c : PipelineInstructionClass) (i : ℕ) (ks : List Spec)
    → position_from (λ (k : Spec). handles c (view_spec k)) i ks ≡ find_at (λ (j : ℕ) (k : UnitSpec). handles c k) i (map view_spec ks)
unfolding find_at
kinds-find c i [] = refl
kinds-find c i (k ∷ ks) = rw (kinds-find c (i + 1) ks, add-one) (choice (handles c (view_spec k)) _)
  where
    choice : (b : Bool) (o : Option ℕ) → cond b (Some i) o ≡ option_or (cond b (Some i) None) o
    choice true o = refl
    choice false o = refl

module _ (m : Machine) where
  -- n kinds from place a on.
  pub kinds_ok : MachineOk m → (a n i : ℕ) (d : Spec) → i < length (take n (drop a m.specs)) → SpecOk (get_or (take n (drop a m.specs)) i d)
  kinds_ok ok a n i d h =
      All-get_or SpecOk (take n (drop a m.specs)) d (All-take SpecOk n (drop a m.specs) (All-drop SpecOk a m.specs ok.specs.each)) h

  -- The first kind that takes a class.
  pub index_found : (c : PipelineInstructionClass)
      → unwrap_or (position_from (λ (k : Spec). handles c (view_spec k)) 0 (take m.specs_len m.specs)) 0 ≡ spec_index (view_machine m).specs c
  unfolding spec_index view_machine view_specs
  index_found c =
      given (position_from (λ (k : Spec). handles c (view_spec k)) 0 (take m.specs_len m.specs)) 0
      ∙ ap (value_or 0)
      (kinds-find c 0 (take m.specs_len m.specs)
      ∙ ap (find_at (λ (j : ℕ) (k : UnitSpec). handles c k) 0) (sym (take-map view_spec m.specs_len m.specs)))

  -- The units of all kinds.
  pub kinds_sum : sum_by (λ (k : Spec). k.capacity) (take m.specs_len m.specs) ≡ capacities (view_machine m).specs
  unfolding view_machine view_specs
  kinds_sum = kept_sum (take m.specs_len m.specs) 0 ∙ omega (arith, ap capacities (take-map view_spec m.specs_len m.specs))

-- ── A capacity change ───────────────────────────────────────────────────────

module _ {m : Machine} (ok : MachineOk m) {i : ℕ} (h : i < m.specs_len) where
  same-capacity : (get_or (view_machine m).specs i (view_spec spare)).capacity ≡ (get_or m.specs i spare).capacity
  unfolding view_spec
  same-capacity = ap (λ k. k.capacity) (seen-get_or (specs-next ok h) (view_spec spare))

  there : i < length (view_machine m).specs
  there = seen-length (specs-next ok h)

  pub kind_most : (get_or m.specs i spare).capacity ≤ capacities (view_machine m).specs
  kind_most = omega (arith, capacity-most (view_machine m).specs (view_spec spare) there, same-capacity)

  -- All capacities after it, and that of the kind before it.
  pub noted_total : (n : ℕ) → capacities (noted_specs i n (view_machine m).specs) + (get_or m.specs i spare).capacity
      ≡ capacities (view_machine m).specs + max 1 n
  noted_total n = omega (arith, noted-sum n (view_machine m).specs (view_spec spare) there, same-capacity)

abbrev pub with-kind : Machine → ℕ → Spec → Machine
with-kind m i k =
    record {
      specs = set m.specs i k;
      specs_len = m.specs_len;
      timing = m.timing;
      depth = m.depth;
      history = m.history;
      instruction_bytes = m.instruction_bytes;
    }

-- A change that is not refused.
module _ {m : Machine} (ok : MachineOk m) (i n : ℕ) (e : capacity_refusal i n (view_machine m).specs ≡ None) where
  fits : Changes i n (view_machine m).specs
  fits = changes i n (view_machine m).specs e

  pub change_there : i < m.specs_len
  change_there = omega (arith, fits.there, specs-length ok)

  pub change_most : max 1 n ≤ 64
  change_most = omega (arith, noted-least n (view_machine m).specs (view_spec spare) fits.there, fits.units)

  pub noted-means : {x : Spec} → Means view_spec SpecOk x (with_capacity n (view_spec (get_or m.specs i spare)))
      → Means view_machine MachineOk (with-kind m i x) (noted i n (view_machine m))
  unfolding view_machine view_specs noted noted_specs
  noted-means {x} k =
      let specs = view-modify view_spec m.specs (with_capacity n) spare (room ok) change_there k.is in
      record {
        is = ap (λ ks. with_specs ks (view_machine m)) specs;
        ok = record {
          specs = record {
            size = length-set m.specs i x ∙ ok.specs.size;
            each = All-set SpecOk m.specs i x ok.specs.each k.ok;
          };
          some = ok.some;
          few = ok.few;
          units = rw specs fits.units;
          timed = ok.timed;
          depth_least = ok.depth_least;
          depth_most = ok.depth_most;
          history_least = ok.history_least;
          history_most = ok.history_most;
        };
      }
