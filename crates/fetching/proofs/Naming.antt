-- The names of an operation become numbers, or they are over 256, or memory is short.
use Prim.Native.Nat.{ℕ, ◌*◌}
use mathlib.Core.Path.{◌≡◌, refl, sym, subst, ap, ◌∙◌}
use mathlib.Core.Bool.{Bool, true, false, not}
use Rattle.std.specs.Prelude.{Option, None, Some, Result, Ok, Err}
use Rattle.std.specs.Option.{ok_or}
use mathlib.Core.List.{[], ◌∷◌}
use lib.Dec.{ltb}
use Rattle.capability.specs.declared.Refusal.{Refusal}
use Rattle.capability.specs.declared.Refusal.TheVariants.{NamesFull}
use Rattle.capability.specs.Refusals.{refusal_number, refusal_of}
use Rattle.model.specs.Op.{Info}
use Rattle.model.specs.Calls.{first_of}
use Rattle.checks.proofs.Table.{passed, held}
use Rattle.registers.specs.declared.Operands.{Operands}
use Rattle.registers.specs.declared.RegisterTable.{RegisterTable}
use Rattle.registers.specs.Promises.{ResolvedTo}
use Rattle.fetching.specs.Taking.{NamesTo}

not-false : {a : Bool} → false ≡ not a → a ≡ true
not-false {a = true} h = refl
not-false {a = false} h = cc

not-true : {a : Bool} → true ≡ not a → a ≡ false
not-true {a = true} h = cc
not-true {a = false} h = refl

module _ {t : RegisterTable} {i : Info} {lent history : ℕ} {u : RegisterTable} where
  -- The names are over 256.
  pub names_full : {x : Option Operands} {r : Result Operands Refusal} {n : Refusal} → ResolvedTo t i u x → ok_or x NamesFull ≡ Err n
      → r ≡ Err n → NamesTo t i lent history r t
  names_full {x = None} f e q =
      record {
        refused = ap refusal_of (q ∙ sym e) ∙ sym (held 10 _ (not-false f.fits));
        left = λ k j. refl;
        named = λ y j. cc;
      }
  names_full {x = Some x} f e q = cc

  -- They are not, but memory is short.
  pub names_short : {x : Option Operands} {y : Operands} {n : Refusal} → ResolvedTo t i u x → ok_or x NamesFull ≡ Ok y
      → Some (refusal_number n) ≡ first_of ((13, ltb lent (history * 200)) ∷ []) → NamesTo t i lent history (Err n) t
  names_short {x = None} f e h = cc
  names_short {x = Some x} f e h =
      record {
        refused = h ∙ sym (passed 10 _ (not-true f.fits));
        left = λ k j. refl;
        named = λ y j. cc;
      }

  -- Memory is not short.
  pub names_tried : {x : Option Operands} → ResolvedTo t i u x → None ≡ first_of ((13, ltb lent (history * 200)) ∷ [])
      → NamesTo t i lent history (ok_or x NamesFull) u
  names_tried {x = None} f h = subst (NamesTo t i lent history _) (sym (f.same refl)) (names_full f refl refl)
  names_tried {x = Some x} f h =
      record {
        refused = h ∙ sym (passed 10 _ (not-true f.fits));
        left = λ n j. cc;
        named = λ y j. let k : x ≡ y = cc in subst (λ z. ResolvedTo t i u (Some z)) k f;
      }
