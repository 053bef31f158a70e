-- A declared machine: its counts, and its arrays as far as they are counted.
use Prim.Native.Nat.{ℕ, ◌+◌, ◌-◌, ◌≤◌, ◌<◌, min, max}
use mathlib.Core.Path.{◌≡◌, refl, sym, ap, ◌∙◌}
use mathlib.Core.Logic.{⊎_elim}
use mathlib.Core.Bool.{Bool, true, false, cond, ◌||◌}
use Rattle.std.specs.Prelude.{Option, None, Some, unwrap_or, fold}
use Rattle.std.specs.Option.{option_or}
use Rattle.std.specs.List.{position_from, list_any}
use native.Mathlib.Numerals.{add-one}
use Rattle.laws.specs.Numbers.{max64}
use mathlib.Core.List.{List, [], ◌∷◌, ◌++◌, map, map-map}
use native.Mathlib.Nat.{zero-add}
use native.Mathlib.Omega.{arith}
use lib.ListN.{length, get_or, take, drop, replicate, length-map}
use lib.Seq.{take_at}
use Rattle.laws.specs.Means.{Means}
use Rattle.laws.specs.Optional.{value_or}
use Rattle.laws.specs.Lists.{find_at}
use Rattle.laws.proofs.Tests.{lt-or-ge}
use Rattle.laws.proofs.Slices.{Seen, view-next, view-length, take-map, All-seen}
use Rattle.capability.specs.Numbers.{role_number}
use Rattle.capability.specs.declared.PipelineStageRole.TheVariants.{Fetch, Other}
use Rattle.capability.specs.declared.PipelineInstructionClass.TheVariants.{Alu}
use Rattle.model.specs.Config.{UnitSpec, capacities, at_least_one, generic_unit, specs_or_generic, is_execute, execute_stage, queue_depth, machine_of}
use Rattle.model.specs.Calls.{bad_spec_name}
use Rattle.config.specs.declared.UnitSpec.{UnitSpec as DeclaredUnit}
use Rattle.config.specs.declared.StageSpec.{StageSpec}
use Rattle.config.specs.declared.Spec.{Spec}
use Rattle.config.specs.declared.Machine.{Machine as KeptMachine}
use Rattle.config.specs.declared.PipelineShape.{PipelineShape}
use Rattle.config.specs.View.{view_unit_spec, view_stage, view_shape, view_spec, view_specs, view_machine}
use Rattle.config.specs.Checks.{Accepted}
use Rattle.config.specs.Kept.{KindOk, SpecsOk, MachineOk}
use Rattle.config.proofs.Spare.{padded-length, padded-within, any-padded, find-padded}
use Rattle.config.proofs.Units.{declared_sum, kinds-ok, generic-ok, specs-some, specs-none}
use Rattle.config.proofs.Checks.{small_of}
use Rattle.config.proofs.Bounds.{depth_least, depth_most}

-- What reads past the arrays' ends would give.
abbrev pub spare-unit : DeclaredUnit
spare-unit = record { name = record { bytes = []; len = 0 }; classes = []; latency_class = Alu; capacity = 0 }

abbrev pub spare-stage : StageSpec
spare-stage = record { role = Fetch }

-- What is kept of a declared kind.
abbrev pub kept-unit : DeclaredUnit → UnitSpec
kept-unit u = at_least_one (view_unit_spec u)

-- The library's word for a default.
pub given : {A : Type 0} (o : Option A) (d : A) → unwrap_or o d ≡ value_or d o
given None d = refl
given (Some a) d = refl

executing : (i : ℕ) (ss : List StageSpec)
    → position_from (λ (s : StageSpec). is_execute 0 (view_stage s)) i ss ≡ find_at is_execute i (map view_stage ss)
unfolding find_at is_execute
executing i [] = refl
executing i (s ∷ ss) = rw (executing (i + 1) ss, add-one) (choice (is_execute 0 (view_stage s)) _)
  where
    choice : (b : Bool) (o : Option ℕ) → cond b (Some i) o ≡ option_or (cond b (Some i) None) o
    choice true o = refl
    choice false o = refl

module _ (d : PipelineShape) where
  pub stages_count : length (view_shape d).stages ≡ d.stages_len
  unfolding view_shape
  stages_count = padded-length _ _ _

  pub units_count : length (view_shape d).units ≡ d.units_len
  unfolding view_shape
  units_count = padded-length _ _ _

  pub units_few : Accepted (view_shape d) → d.units_len ≤ 16
  units_few ok = omega (arith, (small_of (view_shape d) ok.small).kinds, units_count)

  -- The search through the stages that stand in the array.
  pub stage_found : length d.stages ≡ 16
      → unwrap_or (position_from (λ (s : StageSpec). is_execute 0 (view_stage s)) 0 (take (min d.stages_len 16) d.stages)) (d.stages_len - 1)
      ≡ execute_stage (view_shape d).stages
  unfolding execute_stage is_execute role_number view_shape
  stage_found all =
      let count : min d.stages_len 16 ≡ min d.stages_len (length (map view_stage d.stages)) =
      ap (min d.stages_len) (sym (length-map d.stages view_stage ∙ all)) in
      given (position_from (λ (s : StageSpec). is_execute 0 (view_stage s)) 0 (take (min d.stages_len 16) d.stages)) (d.stages_len - 1)
      ∙ ap (value_or (d.stages_len - 1))
      (executing 0 (take (min d.stages_len 16) d.stages)
      ∙ ap (find_at is_execute 0) (sym (take-map view_stage (min d.stages_len 16) d.stages))
      ∙ sym (find-padded Other d.stages_len _ count is_execute (λ i. refl)))
      ∙ ap (λ n. value_or (n - 1) (find_at is_execute 0 (view_shape d).stages)) (sym stages_count)

any-map : {A B : Type 0} (p : B → Bool) (f : A → B) (l : List A) → list_any p (map f l) ≡ list_any (λ (x : A). p (f x)) l
any-map p f [] = refl
any-map p f (x ∷ l) = ap (λ b. p (f x) || b) (any-map p f l)

module _ (d : PipelineShape) (all : length d.units ≡ 16) where
  size : length (map view_unit_spec d.units) ≡ 16
  size = length-map d.units view_unit_spec ∙ all

  pub names_first : list_any (λ (u : DeclaredUnit). bad_spec_name (view_unit_spec u)) (take (min d.units_len 16) d.units)
      ≡ list_any bad_spec_name (view_shape d).units
  unfolding view_shape
  names_first =
      sym (any-map bad_spec_name view_unit_spec (take (min d.units_len 16) d.units))
      ∙ ap (list_any bad_spec_name) (sym (take-map view_unit_spec (min d.units_len 16) d.units))
      ∙ sym (any-padded generic_unit d.units_len _ (ap (min d.units_len) (sym size)) bad_spec_name generic-ok.named)

  module _ (few : d.units_len ≤ 16) where
    units-within : (view_shape d).units ≡ take d.units_len (map view_unit_spec d.units)
    unfolding view_shape
    units-within = padded-within _ _ _ (omega (arith, size))

    -- The kinds that are kept, by the array.
    pub units-kept : map at_least_one (view_shape d).units ≡ take d.units_len (map kept-unit d.units)
    units-kept =
        ap (map at_least_one) units-within ∙ sym (take-map at_least_one d.units_len _)
        ∙ ap (take d.units_len) (map-map at_least_one view_unit_spec d.units)

    -- The sum of the units of all kinds, which stops at 2^64 - 1.
    pub units_sum : fold (λ (a : ℕ) (u : DeclaredUnit). min (a + max u.capacity 1) max64) 0 (take d.units_len d.units)
        ≡ min (capacities (map at_least_one (view_shape d).units)) max64
    units_sum =
        declared_sum (take d.units_len d.units) 0 (omega arith)
        ∙ ap (λ n. min n max64) (zero-add (capacities (map kept-unit (take d.units_len d.units))))
        ∙ ap (λ ks. min (capacities ks) max64) (sym (take-map kept-unit d.units_len d.units) ∙ sym units-kept)

    unit-seen : {i : ℕ} → i < d.units_len → Seen (view_shape d).units d.units_len i (view_unit_spec (get_or d.units i spare-unit))
    unit-seen h = rw units-within (view-next view_unit_spec d.units spare-unit (omega arith) h)

  pub unit_ok : {i : ℕ} → Accepted (view_shape d) → i < d.units_len → KindOk (view_unit_spec (get_or d.units i spare-unit))
  unit_ok ok h =
      All-seen KindOk (view_shape d).units (kinds-ok (view_shape d).units ok.named (small_of (view_shape d) ok.small).units)
      (unit-seen (units_few d ok) h)

-- The kinds that are kept: the declared ones in the place of as many of 16 generic ones.
pub specs-kept : (d : PipelineShape) (k : Spec) (l : List Spec) → length d.units ≡ 16 → d.units_len ≤ 16 → view_spec k ≡ generic_unit
    → map view_spec l ≡ take d.units_len (map kept-unit d.units) ++ drop d.units_len (map view_spec (replicate 16 k))
    → view_specs (max 1 d.units_len) l ≡ specs_or_generic (view_shape d).units
unfolding view_specs
specs-kept d k l all few g e = ⊎_elim some-kinds no-kinds (lt-or-ge 0 d.units_len)
  where
    n : ℕ
    n = d.units_len

    some-kinds : 0 < n → take (max 1 n) (map view_spec l) ≡ specs_or_generic (view_shape d).units
    some-kinds h =
        let m : max 1 n ≡ n = omega arith in
        ap (λ j. take j (map view_spec l)) m ∙ ap (take n) e
        ∙ take_at (take n (map kept-unit d.units)) _ n (view-length kept-unit d.units (omega arith))
        ∙ sym (units-kept d all few)
        ∙ sym (specs-some (view_shape d).units (omega (arith, units_count d)))

    no-kinds : n ≤ 0 → take (max 1 n) (map view_spec l) ≡ specs_or_generic (view_shape d).units
    no-kinds h =
        let z : n ≡ 0 = omega arith in
        ap (take (max 1 n)) e
        ∙ ap (λ j. take (max 1 j) (take j (map kept-unit d.units) ++ drop j (map view_spec (replicate 16 k)))) z
        ∙ ap (λ x. x ∷ []) g
        ∙ sym (specs-none (view_shape d).units (units_count d ∙ z))

-- ── The machine that is kept ────────────────────────────────────────────────

abbrev kept-machine : PipelineShape → List Spec → ℕ → ℕ → ℕ → KeptMachine
kept-machine d ks n depth history =
    record {
      specs = ks;
      specs_len = n;
      timing = d.timing;
      depth = depth;
      history = history;
      instruction_bytes = d.instruction_bytes;
    }

pub machine-means : (d : PipelineShape) {ks : List Spec} {n depth history : ℕ} → Accepted (view_shape d)
    → Means (view_specs (max 1 d.units_len)) SpecsOk ks (specs_or_generic (view_shape d).units)
    → n ≡ max 1 d.units_len
    → depth ≡ queue_depth (view_shape d).stages
    → history ≡ max 1 d.history
    → Means view_machine MachineOk (kept-machine d ks n depth history) (machine_of (view_shape d))
unfolding view_machine machine_of view_shape
machine-means d {ks} ok k e f g =
    let small = small_of (view_shape d) ok.small in
    let specs = ap (λ j. view_specs j ks) e ∙ k.is in
    let least = depth_least (view_shape d).stages in
    let most = depth_most (view_shape d).stages small.stages in
    record {
      is = rw (specs, f, g);
      ok = record {
        specs = k.ok;
        some = omega arith;
        few = omega (arith, units_few d ok);
        units = rw specs small.units;
        timed = ok.timed;
        depth_least = omega arith;
        depth_most = omega arith;
        history_least = omega arith;
        history_most = omega (arith, small.history);
      };
    }
