-- Registers that are known, one of the first n: a claimed one, a unit's. Names in arrays.
use Rattle.op.specs.declared.chars.Chars.{Chars}
use Prim.Native.Nat.{ℕ, zero, suc, ◌+◌, ◌≤◌, ◌<◌, min}
use mathlib.Core.Path.{◌≡◌, refl, sym, ap, ◌∙◌}
use Rattle.std.specs.Prelude.{Option, None, Some, option_map, slice_get}
use mathlib.Core.List.{List, [], ◌∷◌, ◌++◌, map}
use native.Mathlib.Omega.{arith}
use lib.ListN.{length, take, length-take}
use Rattle.laws.specs.Optional.{value_or, when_some}
use Rattle.laws.specs.Lists.{All}
use Rattle.laws.specs.Means.{Means}
use Rattle.laws.specs.Texts.{Text, bytes, decimal}
use Rattle.laws.proofs.Tests.{omap-some, omap-none}
use Rattle.laws.proofs.Choices.{none-some, some_inj}
use Rattle.laws.proofs.Slices.{nth-take, nth_end}
use Rattle.laws.proofs.Maps.{nth-map}
use Rattle.model.specs.Config.{UnitSpec, spec_name}
use Rattle.model.specs.Registers.{name_of, outstanding}
use Rattle.model.specs.Units.{FunctionalUnit}
use Rattle.model.specs.Requests.{station_text}
use Rattle.op.specs.Chars.{shown, view_text}
use Rattle.op.proofs.Texts.{shown-whole}
use Rattle.registers.specs.declared.RegisterTable.{RegisterTable}
use Rattle.registers.specs.declared.Claims.{Claims}
use Rattle.registers.specs.declared.Owed.{Owed}
use Rattle.registers.specs.View.{view_held, NameOk, view_claims, ClaimsOk, view_owed, read}
use Rattle.registers.proofs.Owing.{claims-length}
use Rattle.flight.specs.View.{Legend}
use Rattle.stalls.proofs.Logged.{map-all}
use Rattle.units.specs.declared.Unit.{Unit as Slot}
use Rattle.units.specs.View.{view_unit}
use Rattle.bank.specs.declared.Units.{Units}
use Rattle.bank.specs.View.{view_units, slots, UnitKnows}
use denote.Ref.{Bor}
use Rattle.words.proofs.Shown.{shown_whole}
use Rattle.occupants.proofs.Seen.{units-get, All-got}

-- ── In an array ─────────────────────────────────────────────────────────────

-- A kind's name as a name.
pub as-name : (k : Chars 8) {r : Chars 16} → k.len ≤ 8 → view_text r ≡ shown 16 (min (length (take k.len k.bytes)) 255) (take k.len k.bytes)
    → Means view_text NameOk r (view_text k)
as-name k {r} h e =
    let w = take k.len k.bytes in
    let few : length w ≤ 16 = simp length-take (omega arith) in
    let is : view_text r ≡ w = e ∙ shown-whole 16 w (omega arith) few in
    record { is = is ∙ sym (shown_whole k h); ok = omega (arith, few, ap length is) }

-- ── Names of the first n ────────────────────────────────────────────────────

pub name-first : (ns : List Text) {n r : ℕ} → r < n → name_of (take n ns) r ≡ name_of ns r
unfolding name_of
name-first ns h = ap (value_or (bytes "?")) (nth-take ns h)

-- ── A claimed register ──────────────────────────────────────────────────────

outstanding-below : (i : ℕ) (ps : List (Option ℕ)) (k : ℕ) {p : ℕ × ℕ} → slice_get (outstanding i ps) k ≡ Some p → p.0 < i + length ps
unfolding outstanding
outstanding-below i [] k {p} e = none-some p e
outstanding-below i (None ∷ ps) k e = omega (arith, outstanding-below (suc i) ps k e)
outstanding-below i (Some u ∷ ps) zero {p} e = omega (arith, ap (λ (q : ℕ × ℕ). q.0) (some_inj (i, u) p e))
outstanding-below i (Some u ∷ ps) (suc k) e = omega (arith, outstanding-below (suc i) ps k e)

-- The name of a claim's register.
abbrev claim-name : Claims → RegisterTable → ℕ × ℕ → Text
claim-name c t p = name_of (take c.len (view_held t)) p.0

module _ {c : Claims} (ok : ClaimsOk c) (t : RegisterTable) (i : ℕ) {m : Option Owed} (e : (option_map view_owed) m ≡ slice_get (outstanding 0 (view_claims c)) i) where
  pub claim-there : {x : Owed} → m ≡ Some x
      → Some (name_of (view_held t) x.register) ≡ option_map (claim-name c t) (slice_get (outstanding 0 (view_claims c)) i)
  unfolding view_owed
  claim-there {x} k =
      let there = sym e ∙ ap (option_map view_owed) k in
      let below : x.register < c.len = omega (arith, outstanding-below 0 (view_claims c) i there, claims-length ok) in
      sym (omap-some (claim-name c t) there ∙ ap Some (name-first (view_held t) below))

  pub claim-past : m ≡ None → option_map (claim-name c t) (slice_get (outstanding 0 (view_claims c)) i) ≡ None
  claim-past k = omap-none (claim-name c t) (sym e ∙ ap (option_map view_owed) k)

-- ── A station ───────────────────────────────────────────────────────────────

-- The name of an operand that a unit shows, of the first n names.
abbrev operand-of : List Text → ℕ → ℕ → FunctionalUnit → Option Text
operand-of ns n j u = option_map (name_of (take n ns)) (slice_get (take 2 u.sources) j)

module _ (us : Units) (i : ℕ) {m : Option (Bor Slot)} (e : option_map (λ x. x.now) m ≡ slice_get (slots us) i) (g : Legend) where
  got : {o : Option (Bor Slot)} → m ≡ o → slice_get (view_units g us) i ≡ option_map (view_unit g) (option_map (λ x. x.now) o)
  got h = units-get us i m e g ∙ ap (λ o. option_map (view_unit g) (option_map (λ x. x.now) o)) h

  pub station_label : (u : Bor Slot) → m ≡ Some u → (ks : List UnitSpec) {name : Text} → name ≡ spec_name ks u.now.spec
      → Some (name ++ decimal u.now.instance) ≡ option_map (station_text ks) (slice_get (view_units g us) i)
  unfolding station_text view_unit
  station_label u h ks q = ap (λ t. Some (t ++ decimal u.now.instance)) q ∙ sym (ap (option_map (station_text ks)) (got h))

  pub station-past : m ≡ None → (ks : List UnitSpec) → option_map (station_text ks) (slice_get (view_units g us) i) ≡ None
  station-past h ks = ap (option_map (station_text ks)) (got h)

  pub operand-there : (u : Bor Slot) → m ≡ Some u → (ns : List Text) (n j : ℕ) → All (UnitKnows n) (slots us) → j < 2
      → slice_get (map (name_of ns) (read u.now.operands)) j ≡ when_some (slice_get (view_units g us) i) None (operand-of ns n j)
  unfolding view_unit
  operand-there u h ns n j a k =
      ap (λ w. slice_get w j)
      (map-all (λ (r : ℕ). r < n) (name_of ns) (name_of (take n ns)) (λ r l. sym (name-first ns l)) (read u.now.operands) (All-got us i m e (UnitKnows n) a u h).sources)
      ∙ nth-map (name_of (take n ns)) (read u.now.operands) j
      ∙ ap (option_map (name_of (take n ns))) (sym (nth-take (read u.now.operands) k))
      ∙ sym (ap (λ o. when_some o None (operand-of ns n j)) (got h))

  pub operand-none : m ≡ None → (ns : List Text) (n j : ℕ) → when_some (slice_get (view_units g us) i) None (operand-of ns n j) ≡ None
  operand-none h ns n j = ap (λ o. when_some o None (operand-of ns n j)) (got h)

-- It shows two.
pub operand-past : (ns : List Text) (n j : ℕ) (u : Option FunctionalUnit) → 2 ≤ j → when_some u None (operand-of ns n j) ≡ None
operand-past ns n j None h = refl
operand-past ns n j (Some u) h = omap-none (name_of (take n ns)) (nth_end (take 2 u.sources) (simp length-take (omega arith)))
