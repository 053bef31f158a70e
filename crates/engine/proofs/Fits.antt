-- A text that is not bad fits its array.
use Rattle.op.specs.declared.chars.Chars.{Chars}
use Prim.Native.Nat.{ℕ, ◌≤◌}
use mathlib.Core.Path.{◌≡◌, sym, subst}
use mathlib.Core.Bool.{Bool, false, ◌||◌}
use mathlib.Core.Logic.{⊎_elim}
use Rattle.std.specs.Prelude.{Option, None, Some, option_map}
use mathlib.Core.List.{List}
use lib.Dec.{T}
use lib.ListN.{take}
use Rattle.std.specs.List.{list_any}
use Rattle.laws.specs.Optional.{when_some}
use Rattle.laws.proofs.Choices.{false-T}
use Rattle.laws.proofs.Tests.{or-neither, lt-or-ge}
use Rattle.model.specs.Op.{Info}
use Rattle.model.specs.Calls.{bad_text, bad_info}
use Rattle.op.specs.declared.PipelineOp.{PipelineOp}
use Rattle.op.specs.Chars.{shown, view_text, Fits}
use Rattle.op.specs.View.{view_op}
use Rattle.op.proofs.Texts.{bad-long}
use Rattle.flight.specs.Pool.{texts_of, TextsOk}

fits : (most len : ℕ) (bytes : List ℕ) → bad_text most (shown most len bytes) ≡ false → len ≤ most
fits most len bytes e =
    ⊎_elim (λ h. false-T (bad_text most (shown most len bytes)) e (subst T (sym (bad-long most len bytes h)) tt)) (λ h. h) (lt-or-ge most len)

pub short-text : (t : Chars 64) → bad_text 64 (view_text t) ≡ false → t.len ≤ 64
unfolding view_text
short-text t e = fits 64 t.len t.bytes e

-- A text that may be there.
short-option : {N : ℕ} (m : Option (Chars N)) → when_some (option_map view_text m) false (bad_text N) ≡ false → Fits m
unfolding view_text
short-option {N} (Some t) e = fits N t.len t.bytes e
short-option None e = tt

-- What is not bad has no bad part.
record Fine (i : Info) : Type 0 where
  disassembly : bad_text 64 i.disassembly ≡ false
  fault : when_some i.fault false (bad_text 64) ≡ false
  destination : when_some i.destination false (bad_text 16) ≡ false

first_three : (a b c d f : Bool) → a || b || c || d || f ≡ false → (a ≡ false) × ((b ≡ false) × (c ≡ false))
first_three a b c d f e =
    let m = or-neither (a || b) c (or-neither (a || b || c) d (or-neither (a || b || c || d) f e).0).0 in
    let n = or-neither a b m.0 in
    (n.0, (n.1, m.1))

fine : (i : Info) → bad_info i ≡ false → Fine i
unfolding bad_info
fine i e =
    let m =
    first_three (bad_text 64 i.disassembly) (when_some i.fault false (bad_text 64)) (when_some i.destination false (bad_text 16))
    (list_any (bad_text 16) (take 8 i.sources)) (list_any (bad_text 16) (take 4 i.writes)) e in
    record { disassembly = m.0; fault = m.1.0; destination = m.1.1 }

module _ (o : PipelineOp) (e : bad_info (view_op o).info ≡ false) where
  pub good-text : o.disassembly.len ≤ 64
  unfolding view_op
  good-text = short-text o.disassembly (fine (view_op o).info e).disassembly

  pub good-texts : TextsOk (texts_of o)
  unfolding view_op
  good-texts =
      let m = fine (view_op o).info e in
      record {
        text = good-text;
        fault = short-option o.fault m.fault;
        destination = short-option o.destination m.destination;
      }
