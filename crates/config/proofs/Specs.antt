-- One kind as kept: made of a declared one, and with another capacity.
use Prim.Native.Nat.{ℕ, ◌≤◌, max}
use mathlib.Core.Path.{◌≡◌, refl, sym, ap, ap₂}
use mathlib.Core.Bool.{Bool, true, false}
use mathlib.Core.List.{List}
use native.Mathlib.Omega.{arith}
use lib.ListN.{length, replicate}
use Rattle.laws.specs.Means.{Means}
use Rattle.laws.specs.Lists.{is_empty}
use Rattle.model.specs.Config.{unit_spec, at_least_one, with_capacity, handles}
use Rattle.model.specs.Calls.{bad_spec_name}
use Rattle.config.specs.declared.UnitSpec.{UnitSpec}
use Rattle.config.specs.declared.Spec.{Spec}
use Rattle.op.specs.Chars.{view_text}
use Rattle.config.specs.View.{flagged, view_unit_spec, view_spec}
use Rattle.config.specs.Kept.{KindOk, SpecOk}
use Rattle.config.proofs.Classes.{flag-set, takes-flagged, empty-is}

module _ (u : UnitSpec) (ok : KindOk (view_unit_spec u)) (bytes : length u.name.bytes ≡ 8) {n : ℕ} (e : n ≡ max 1 u.capacity) where
  abbrev made : Bool → List Bool → Spec
  made b flags = record { name = u.name; every = b; classes = flags; latency_class = u.latency_class; capacity = n }

  within : (b : Bool) (flags : List Bool) → KindOk (view_spec (made b flags))
  unfolding view_unit_spec view_spec bad_spec_name
  within b flags = record { named = ok.named; most = omega (arith, ok.most, e) }

  -- No class is listed.
  pub kept-every : is_empty (flagged u.classes) ≡ true → Means view_spec SpecOk (made true (replicate 10 true)) (at_least_one (view_unit_spec u))
  unfolding view_unit_spec view_spec at_least_one handles is_empty
  kept-every h =
      record {
        is = ap₂ (λ cs k. unit_spec (view_text u.name) cs u.latency_class k) (sym (empty-is (flagged u.classes) h)) e;
        ok = record {
          bytes = bytes;
          flags = refl;
          takes = flag-set;
          kind = within true (replicate 10 true);
          least = omega (arith, e);
        };
      }

  pub kept-flagged : length u.classes ≡ 10 → is_empty (flagged u.classes) ≡ false
      → Means view_spec SpecOk (made false u.classes) (at_least_one (view_unit_spec u))
  unfolding view_unit_spec view_spec at_least_one
  kept-flagged ten h =
      record {
        is = ap (unit_spec (view_text u.name) (flagged u.classes) u.latency_class) e;
        ok = record {
          bytes = bytes;
          flags = ten;
          takes = λ c. sym (takes-flagged u.classes (view_spec (made false u.classes)) refl c h);
          kind = within false u.classes;
          least = omega (arith, e);
        };
      }

-- Another capacity.
pub changed : (k : Spec) (n : ℕ) {m : ℕ} → SpecOk k → m ≡ max 1 n → max 1 n ≤ 64
    → Means view_spec SpecOk (record { name = k.name; every = k.every; classes = k.classes; latency_class = k.latency_class; capacity = m })
    (with_capacity n (view_spec k))
unfolding view_spec handles bad_spec_name
changed k n ok e h =
    record {
      is = ap (unit_spec (view_spec k).name (view_spec k).classes k.latency_class) e;
      ok = record {
        bytes = ok.bytes;
        flags = ok.flags;
        takes = ok.takes;
        kind = record { named = ok.kind.named; most = omega (arith, e) };
        least = omega (arith, e);
      };
    }
