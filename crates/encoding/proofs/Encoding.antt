-- The byte form of a machine and its calls decodes to them.
use Prim.Native.Nat.{ℕ, zero, suc, ◌+◌, ◌≤◌, ◌<◌}
use native.Mathlib.Omega.{arith}
use mathlib.Core.Path.{◌≡◌, refl, sym, ap, ap₂, ◌∙◌}
use mathlib.Core.Bool.{true, false, ◌&&◌}
use Rattle.std.specs.Prelude.{None, Some}
use mathlib.Core.List.{List, [], ◌∷◌, map, flatten}
use lib.Dec.{ltb}
use lib.ListN.{length, length-append}
use borrow.Author.Tests.{lt-ltb, le-ltb, le-leb, eq-eqb}
use Rattle.laws.specs.Lists.{All}
use Rattle.laws.proofs.Tests.{cond_yes, and_yes}
use Rattle.laws.proofs.Slices.{All-append}
use Rattle.model.specs.Calls.{Call}
use Rattle.decoding.specs.Calls.{size_at, call_at, formed_at}
use Rattle.decoding.specs.Script.{Script, calls_at, all_formed, script_of, list_formed, decode}
use Rattle.encoding.specs.Records.{machine_bytes}
use Rattle.encoding.specs.Calls.{call_parts, call_bytes, script_bytes}
use Rattle.encoding.specs.Limits.{Byte, WithinCall}
use Rattle.encoding.specs.Encoding.{Encodes, Bytewise, Sized}
use Rattle.encoding.proofs.Stands.{Stands, stands-whole, stands-in, stands-next, Form}
use Rattle.encoding.proofs.Machine.{machine-is, machine-size}
use Rattle.encoding.proofs.Groups.{CallRead}
use Rattle.encoding.proofs.Calls.{call-read}

-- ---- a call's size and bytes

call-form : (c : Call) → WithinCall c → Form (size_at (call_bytes c) 0) (call_bytes c)
unfolding call_bytes
call-form c w = (call-read c w (stands-whole (call_parts c))).form.whole

pub sized : Sized
sized c w = (call-form c w).size

calls-bytes : (cs : List Call) → All WithinCall cs → All Byte (flatten (map call_bytes cs))
unfolding flatten
calls-bytes [] w = tt
calls-bytes (c ∷ cs) w = All-append Byte (call_bytes c) (flatten (map call_bytes cs)) (call-form c w.0).bytes (calls-bytes cs w.1)

pub bytewise : Bytewise
unfolding script_bytes flatten
bytewise s w =
    All-append Byte (machine_bytes s.shape s.entry s.lent) (flatten (map call_bytes s.calls))
    (machine-size s.shape s.entry s.lent w.shape w.entry w.lent).bytes (calls-bytes s.calls w.calls)

-- ---- the machine, and the calls after it

whole-list : (s : Script) → Stands (machine_bytes s.shape s.entry s.lent ∷ map call_bytes s.calls) (script_bytes s) 0
unfolding script_bytes
whole-list s = stands-whole (machine_bytes s.shape s.entry s.lent ∷ map call_bytes s.calls)

script-length : (s : Script) → length (script_bytes s) ≡ length (machine_bytes s.shape s.entry s.lent) + length (flatten (map call_bytes s.calls))
unfolding script_bytes flatten
script-length s = length-append (machine_bytes s.shape s.entry s.lent) (flatten (map call_bytes s.calls))

-- ---- calls one after the other

abbrev total : List Call → ℕ
total cs = length (flatten (map call_bytes cs))

-- A call, and the others after it.
record CallHere (c : Call) (cs : List Call) (l : List ℕ) (at : ℕ) : Type 0 where
  read : CallRead (call_parts c) c l at
  rest : Stands (map call_bytes cs) l (at + size_at l at)
  size : total (c ∷ cs) ≡ size_at l at + total cs

call-here : {l : List ℕ} (at : ℕ) (c : Call) (cs : List Call) → WithinCall c → Stands (map call_bytes (c ∷ cs)) l at → CallHere c cs l at
unfolding call_bytes flatten
call-here at c cs w s =
    let r = call-read c w (stands-in (call_parts c) s) in
    record {
      read = r;
      rest = stands-next s r.form.whole.size;
      size = length-append (call_bytes c) (flatten (map call_bytes cs)) ∙ ap (λ n. n + total cs) r.form.whole.size;
    }

no-calls : total [] ≡ 0
unfolding flatten
no-calls = refl

module _ (l : List ℕ) where
  call-formed : (at : ℕ) {c : Call} {cs : List Call} → CallHere c cs l at → at + total (c ∷ cs) ≡ length l → formed_at l at ≡ true
  unfolding formed_at
  call-formed at r e =
      and_yes (lt-ltb 0 (size_at l at) r.read.some_bytes)
      (and_yes (le-leb (at + size_at l at) (length l) (omega (arith, e, r.size))) r.read.formed)

  calls-more : (fuel at : ℕ) → at < length l → calls_at (suc fuel) l at ≡ call_at l at ∷ calls_at fuel l (at + size_at l at)
  unfolding calls_at
  calls-more fuel at h = rw (lt-ltb at (length l) h, calls_at)

  formed-more : (fuel at : ℕ) → at < length l → all_formed (suc fuel) l at ≡ (formed_at l at && all_formed fuel l (at + size_at l at))
  unfolding all_formed
  formed-more fuel at h = rw (lt-ltb at (length l) h, all_formed)

  calls-end : (fuel at : ℕ) → at ≡ length l → (calls_at fuel l at ≡ []) × (all_formed fuel l at ≡ true)
  unfolding calls_at all_formed
  calls-end zero at e = (refl, eq-eqb at (length l) e)
  calls-end (suc fuel) at e =
      let past : ltb at (length l) ≡ false = le-ltb at (length l) (omega arith) in
      (rw (past, calls_at), rw (past, all_formed) (eq-eqb at (length l) e))

  calls-read : (cs : List Call) (fuel at : ℕ) → All WithinCall cs → Stands (map call_bytes cs) l at → at + total cs ≡ length l → total cs ≤ fuel
      → (calls_at fuel l at ≡ cs) × (all_formed fuel l at ≡ true)
  calls-read [] fuel at w s e h = calls-end fuel at (omega (arith, e, no-calls))
  calls-read (c ∷ cs) zero at w s e h =
      let r = call-here at c cs w.0 s in
      absurd (let z : ⊥ = omega (arith, h, r.size, r.read.some_bytes) in z)
  calls-read (c ∷ cs) (suc fuel) at w s e h =
      let r = call-here at c cs w.0 s in
      let more : at < length l = omega (arith, e, r.size, r.read.some_bytes) in
      let q = calls-read cs fuel (at + size_at l at) w.1 r.rest (omega (arith, e, r.size)) (omega (arith, h, r.size, r.read.some_bytes)) in
      (calls-more fuel at more ∙ ap₂ {B = List Call} ◌∷◌ r.read.is q.0, formed-more fuel at more ∙ and_yes (call-formed at r e) q.1)

-- ---- the whole list

pub encodes : Encodes
unfolding decode list_formed script_of
encodes s w =
    let l = script_bytes s in
    let m = machine_bytes s.shape s.entry s.lent in
    let whole : Stands (m ∷ map call_bytes s.calls) l 0 = whole-list s in
    let form = machine-size s.shape s.entry s.lent w.shape w.entry w.lent in
    let r = machine-is s.shape s.entry s.lent w.shape w.entry w.lent whole in
    let long : length l ≡ 555 + total s.calls = script-length s ∙ ap (λ n. n + total s.calls) form.size in
    let q = calls-read l s.calls (length l) 555 w.calls (stands-next whole form.size) (sym long) (omega (arith, long)) in
    cond_yes (Some (script_of l)) None
    (and_yes (le-leb (length l) 16777216 w.size) (and_yes (r.formed (omega (arith, long))) q.1))
    ∙ (λ i. Some (record { shape = r.shape i; entry = r.entry i; lent = r.lent i; calls = q.0 i }))
