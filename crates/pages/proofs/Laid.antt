-- Texts laid in a page, one behind the other.
use Prim.Native.Nat.{ℕ, zero, suc, ◌+◌, ◌-◌, ◌≤◌}
use mathlib.Core.Path.{◌≡◌, refl, sym, ap, ◌∙◌}
use Rattle.std.specs.Prelude.{Option, None, Some, Ok, option_map}
use mathlib.Core.List.{List, [], ◌∷◌}
use native.Mathlib.Nat.{add-zero}
use native.Mathlib.Omega.{arith}
use lib.ListN.{length, take, drop, length-drop}
use lib.Seq.{take_at, take_all}
use Rattle.std.specs.Option.{unwrap_or}
use Rattle.std.specs.Result.{result_unwrap_or}
use Rattle.laws.specs.Optional.{value_or}
use Rattle.laws.specs.Texts.{Text}
use Rattle.laws.proofs.Tests.{cond-ge}
use Rattle.model.specs.Timeline.{overlay, splice}
use Rattle.model.specs.Requests.{short_for, buffer_with}
use Rattle.timeline.proofs.Memory.{overlay-parts, splice-length}
use Rattle.traces.specs.declared.texts.Digits.{Digits}
use Rattle.traces.specs.Texts.{Laid, Written, written, Wrote, IsDigits}

splice-none : (p : ℕ) (m : List ℕ) → splice p [] m ≡ m
unfolding splice overlay
splice-none zero m = refl
splice-none (suc p) [] = refl
splice-none (suc p) (x ∷ m) = ap (λ t. x ∷ t) (splice-none p m)

-- Nothing is put.
pub laid_none : (p : ℕ) (m : List ℕ) → Laid p [] m m p
laid_none p m = record { end = sym (add-zero p); is = sym (splice-none p m) }

module _ {p n : ℕ} {s : Text} {m out : List ℕ} where
  pub laid_as : {t : Text} → s ≡ t → Laid p s m out n → Laid p t m out n
  laid_as e l = rw e at l

  pub laid-empty : s ≡ [] → out ≡ m → n ≡ p → Laid p s m out n
  laid-empty e q h = record { end = omega (arith, h, ap length e); is = q ∙ sym (ap (λ t. splice p t m) e ∙ splice-none p m) }

  module _ (l : Laid p s m out n) where
    pub laid-size : length out ≡ length m
    laid-size = ap length l.is ∙ splice-length p s m

    -- k more bytes fit behind a text of at most j.
    pub laid-within : (j k : ℕ) → length s ≤ j → p + (j + k) ≤ length m → n + k ≤ length out
    laid-within j k h r = omega (arith, l.end, laid-size)

    pub laid-most : (k : ℕ) → length s ≤ k → n ≤ p + k
    laid-most k h = omega (arith, l.end)

-- ── Digits ──────────────────────────────────────────────────────────────────

-- The part of the array from the first digit on.
pub digits-part : {d : Digits} {t : Text} → IsDigits d t → take (length d.bytes - d.at) (drop d.at d.bytes) ≡ t
digits-part {d} i =
    let all : length (drop d.at d.bytes) ≤ length d.bytes - d.at = simp length-drop (omega arith) in
    take_all _ _ all ∙ i.is

-- ── What was written to a buffer that is long enough ────────────────────────

wrote_all : (t : Option Text) {lent out : List ℕ} {r : Written} → length (value_or [] t) ≤ length lent → Wrote t lent out r → r ≡ Ok (option_map length t)
unfolding written
wrote_all None h w = w.is
wrote_all (Some t) h w = w.is ∙ cond-ge _ _ h

count-by : (t : Option Text) → unwrap_or (option_map length t) 0 ≡ length (value_or [] t)
count-by None = refl
count-by (Some t) = refl

front-by : (t : Option Text) {lent out : List ℕ} {r : Written} {n : ℕ} → length (value_or [] t) ≤ length lent → Wrote t lent out r
    → n ≡ length (value_or [] t) → take n out ≡ value_or [] t
unfolding short_for buffer_with
front-by None {out = out} h w e = ap (λ k. take k out) e
front-by (Some t) {lent} {n = n} h w e =
    ap (take n) (w.buffer ∙ cond-ge _ _ h ∙ overlay-parts t lent h) ∙ take_at t (drop (length t) lent) n (sym e)

module _ (t : Option Text) {lent out : List ℕ} {r : Written} (h : length (value_or [] t) ≤ length lent) (w : Wrote t lent out r) {u : Option ℕ} {n : ℕ}
    (e : u ≡ result_unwrap_or r None) (q : n ≡ unwrap_or u 0) where
  pub wrote_count : n ≡ length (value_or [] t)
  wrote_count = q ∙ ap (λ o. unwrap_or o 0) (e ∙ ap (λ x. result_unwrap_or x None) (wrote_all t h w)) ∙ count-by t

  -- The bytes at the front are the text.
  pub wrote-front : take n out ≡ value_or [] t
  wrote-front = front-by t h w wrote_count
