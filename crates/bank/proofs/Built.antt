-- The units of a machine, kind by kind.
use Rattle.std.proofs.Common.{
  ℕ,
  zero,
  suc,
  ◌+◌,
  ◌≤◌,
  ◌<◌,
  ◌≡◌,
  sym,
  ap,
  subst,
  ◌∙◌,
  map,
  get_or,
  List,
  [],
  ◌∷◌,
  ◌++◌,
  append_assoc,
  arith,
  length,
  take,
  drop,
  set,
  replicate,
  add-zero,
  zero-add,
  add-one,
}
use mathlib.Core.Path.{ap₂}
use mathlib.Core.List.{append-nil}
use lib.ListN.{replicate-append-replicate, length-append, length-replicate}
use lib.Seq.{length-take-le}
use Rattle.std.proofs.lemmas.List.{get_or-take}
use Rattle.laws.proofs.Slices.{Seen, view-next}
use Rattle.config.specs.declared.Machine.{Machine}
use Rattle.config.specs.declared.Spec.{Spec}
use Rattle.config.specs.Kept.{MachineOk}
use Rattle.config.specs.View.{view_spec, view_specs, view_machine}
use Rattle.model.specs.Config.{UnitSpec, capacities}
use Rattle.model.specs.Units.{idle_unit, instances, build_units}
use Rattle.flight.specs.View.{Legend}
use Rattle.units.specs.declared.Unit.{Unit as Slot}
use Rattle.units.specs.View.{UnitIs}
use Rattle.bank.specs.declared.Units.{Units}
use Rattle.bank.specs.View.{view_units, places, UnitsOk, UnitsAre}
use Rattle.bank.proofs.Steps.{places-length, units-so, units-pushed}

-- ── The instances of a kind ─────────────────────────────────────────────────

instances-snoc : (spec j n : ℕ) → instances spec j (suc n) ≡ instances spec j n ++ idle_unit spec (j + n) ∷ []
unfolding instances
instances-snoc spec j zero = ap (λ k. idle_unit spec k ∷ []) (sym (add-zero j))
instances-snoc spec j (suc n) =
    ap (λ t. idle_unit spec j ∷ t)
    (instances-snoc spec (suc j) n
    ∙ ap (λ k. instances spec (suc j) n ++ idle_unit spec k ∷ []) (omega arith))

-- The first i of them stand behind those that were there.
pub record Adding (spec : ℕ) (us₀ us : Units) (i : ℕ) : Type 0 where
  pub len : us.len ≡ us₀.len + i
  pub are : UnitsAre us (λ g. view_units g us₀ ++ instances spec 0 i) (places us₀ ++ replicate i 80)

module _ {spec : ℕ} {us₀ : Units} where
  pub adding-first : UnitsOk us₀ → Adding spec us₀ us₀ 0
  unfolding instances
  adding-first ok =
      record {
        len = sym (add-zero us₀.len);
        are = record { is = λ g. sym (append-nil (view_units g us₀)); places = sym (append-nil (places us₀)); ok = ok };
      }

  pub adding-next : {us : Units} {i : ℕ} {x : Slot} → Adding spec us₀ us i → us.len < 64 → UnitIs x (λ g. idle_unit spec i) 80
      → Adding spec us₀ (record { items = set us.items us.len x; len = us.len + 1 }) (i + 1)
  adding-next {us} {i} {x} e h m =
      record {
        len = omega (arith, e.len);
        are =
            units-so (units-pushed e.are.ok h m)
            (λ g.
            ap (λ l. l ++ idle_unit spec i ∷ []) (e.are.is g)
            ∙ append_assoc (view_units g us₀) (instances spec 0 i) (idle_unit spec i ∷ [])
            ∙ ap (λ t. view_units g us₀ ++ t)
            (sym (ap (instances spec 0) (add-one i) ∙ instances-snoc spec 0 i ∙ ap (λ k. instances spec 0 i ++ idle_unit spec k ∷ []) (zero-add i))))
            (ap (λ l. l ++ 80 ∷ []) e.are.places
            ∙ append_assoc (places us₀) (replicate i 80) (80 ∷ [])
            ∙ ap (λ t. places us₀ ++ t) (replicate-append-replicate i 1 80));
      }

  pub adding-last : {us : Units} {i n : ℕ} → Adding spec us₀ us i → i ≡ n → UnitsAre us (λ g. view_units g us₀ ++ instances spec 0 n) (places us₀ ++ replicate n 80)
  adding-last e q = units-so e.are (λ g. ap (λ k. view_units g us₀ ++ instances spec 0 k) q) (ap (λ k. places us₀ ++ replicate k 80) q)

-- ── The kinds ───────────────────────────────────────────────────────────────

-- Those of the first i kinds are there, and what is left of the kinds gives the others.
pub record Building (ks : List UnitSpec) (us : Units) (n i : ℕ) : Type 0 where
  pub most : i ≤ n
  pub is : (g : Legend) → view_units g us ++ build_units i (drop i ks) ≡ build_units 0 ks
  pub places : places us ++ replicate (capacities (drop i ks)) 80 ≡ replicate (capacities ks) 80
  pub ok : UnitsOk us

pub building-first : {ks : List UnitSpec} {us : Units} {n : ℕ} → UnitsAre us (λ g. []) [] → Building ks us n 0
building-first {ks} e =
    record {
      most = omega arith;
      is = λ g. ap (λ l. l ++ build_units 0 ks) (e.is g);
      places = ap (λ l. l ++ replicate (capacities ks) 80) e.places;
      ok = e.ok;
    }

module _ {ks : List UnitSpec} {us : Units} {n i : ℕ} (e : Building ks us n i) where
  module _ {k : UnitSpec} (a : Seen ks n i k) where
    left : capacities (drop i ks) ≡ k.capacity + capacities (drop (i + 1) ks)
    unfolding capacities
    left = ap capacities a.is

    -- There is room for the next kind's.
    pub building-room : us.len + k.capacity ≤ capacities ks
    building-room =
        omega (
          arith,
          left,
          places-length e.ok,
          sym (length-append (places us) (replicate (capacities (drop i ks)) 80)) ∙ ap length e.places,
          length-replicate {A = ℕ} (capacities (drop i ks)) 80,
          length-replicate {A = ℕ} (capacities ks) 80,
        )

    pub building-next : {r : Units}
        → UnitsAre r (λ g. view_units g us ++ instances i 0 k.capacity) (places us ++ replicate k.capacity 80)
        → Building ks r n (i + 1)
    unfolding build_units
    building-next {r} u =
        record {
          most = omega (arith, a.here);
          is = λ g.
              ap₂ (λ l j. l ++ build_units j (drop (i + 1) ks)) (u.is g) (add-one i)
              ∙ append_assoc (view_units g us) (instances i 0 k.capacity) (build_units (suc i) (drop (i + 1) ks))
              ∙ ap (λ t. view_units g us ++ build_units i t) (sym a.is)
              ∙ e.is g;
          places =
              ap (λ l. l ++ replicate (capacities (drop (i + 1) ks)) 80) u.places
              ∙ append_assoc (places us) (replicate k.capacity 80) (replicate (capacities (drop (i + 1) ks)) 80)
              ∙ ap (λ t. places us ++ t)
              (replicate-append-replicate k.capacity (capacities (drop (i + 1) ks)) 80 ∙ ap (λ m. replicate m 80) (sym left))
              ∙ e.places;
          ok = u.ok;
        }

  pub building-last : drop i ks ≡ [] → UnitsAre us (λ g. build_units 0 ks) (replicate (capacities ks) 80)
  unfolding build_units capacities
  building-last d =
      record {
        is = λ g. sym (append-nil (view_units g us)) ∙ ap (λ t. view_units g us ++ build_units i t) (sym d) ∙ e.is g;
        places = sym (append-nil (places us)) ∙ ap (λ t. places us ++ replicate (capacities t) 80) (sym d) ∙ e.places;
        ok = e.ok;
      }

-- ── The kinds that a machine keeps ──────────────────────────────────────────

module _ {m : Machine} (ok : MachineOk m) where
  pub kinds-length : length (take m.specs_len m.specs) ≡ m.specs_len
  kinds-length = length-take-le m.specs_len m.specs (omega (arith, ok.few, ok.specs.size))

  pub kind-seen : (d : Spec) {i : ℕ} → i < length (take m.specs_len m.specs)
      → Seen (view_machine m).specs m.specs_len i (view_spec (get_or (take m.specs_len m.specs) i d))
  unfolding view_machine view_specs
  kind-seen d {i} h =
      let few : i < m.specs_len = omega (arith, kinds-length) in
      subst (λ (k : Spec). Seen (take m.specs_len (map view_spec m.specs)) m.specs_len i (view_spec k)) (sym (get_or-take m.specs_len m.specs i d few))
      (view-next view_spec m.specs d (omega (arith, ok.few, ok.specs.size)) few)

  pub kind-room : {us : Units} {i : ℕ} → Building (view_machine m).specs us m.specs_len i → (d : Spec) → i < length (take m.specs_len m.specs)
      → us.len + (get_or (take m.specs_len m.specs) i d).capacity ≤ 64
  unfolding view_spec
  kind-room e d h = omega (arith, ok.units, building-room e (kind-seen d h))
