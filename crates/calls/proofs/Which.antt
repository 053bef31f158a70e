-- Which call stands at a place, by the byte there: what is told of it, whether its bytes are there, and what it is lent.
use Prim.Native.Nat.{ℕ, ◌+◌, ◌-◌, ◌≤◌, ◌<◌}
use mathlib.Core.Path.{◌≡◌, refl, sym, ap, ◌∙◌}
use mathlib.Core.Bool.{true}
use mathlib.Core.Logic.{⊎_elim}
use mathlib.Core.List.{List, ◌++◌, map}
use native.Mathlib.Omega.{arith}
use lib.ListN.{length, get_or, set, drop, replicate, get_or-map, get_or-eq_default, get_or-replicate}
use lib.Seq.{get_or-drop, get_or-set_other}
use Rattle.laws.specs.Lists.{All}
use Rattle.laws.proofs.Slices.{get_d_any, All-get_or}
use Rattle.laws.proofs.Tests.{lt-or-ge}
use Rattle.model.specs.Requests.{status_message}
use Rattle.model.specs.Calls.{Call}
use Rattle.decoding.specs.Bytes.{byte_at, number_at}
use Rattle.decoding.specs.Calls.{Reader, sizes, size_at, drives, shows, asks, request_at, text_call, call_at, formed_at}
use Rattle.decoding.proofs.Sizes.{size-by, call_known}
use Rattle.decoding.proofs.Script.{formed-is}
use Rattle.calls.specs.Play.{lent_of}

-- ── What is told of it ──────────────────────────────────────────────────────

-- What f tells of the calls 0 to 38.
abbrev pub told : {A : Type 0} → (Call → A) → List ℕ → ℕ → List A
told f l at = map (λ (r : Reader Call). f (r l at)) (drives ++ shows)

module _ {A : Type 0} (f : Call → A) (l : List ℕ) (at : ℕ) where
  pub call-told : f (call_at l at) ≡ get_or (told f l at) (byte_at l at) (f (text_call l at))
  unfolding call_at
  call-told = sym (get_or-map (λ (r : Reader Call). f (r l at)) (drives ++ shows) (byte_at l at) text_call)

  -- Below 39 it stands in the table.
  pub told_below : (d : A) → byte_at l at < 39 → f (call_at l at) ≡ get_or (told f l at) (byte_at l at) d
  told_below d h = call-told ∙ get_d_any (told f l at) _ d h

  pub told_text : 39 ≤ byte_at l at → f (call_at l at) ≡ f (text_call l at)
  told_text h = call-told ∙ get_or-eq_default (told f l at) _ h

-- ── The call and the request, of a byte that is known ───────────────────────

module _ (l : List ℕ) (at : ℕ) {k : ℕ} (e : byte_at l at ≡ k) where
  pub call-is : call_at l at ≡ get_or (drives ++ shows) k text_call l at
  unfolding call_at
  call-is = ap (λ t. get_or (drives ++ shows) t text_call l at) e

  pub request-is : request_at l at ≡ get_or asks (k - 39) (λ l at. status_message) l at
  unfolding request_at
  request-is = ap (λ t. get_or asks (t - 39) (λ l at. status_message) l at) e

-- ── Its bytes are there ─────────────────────────────────────────────────────

module _ (l : List ℕ) (at : ℕ) (e : formed_at l at ≡ true) where
  pub known : byte_at l at < 49
  unfolding size_at
  known = call_known (formed-is l at e).some

  -- The byte itself.
  pub here : at < length l
  here = omega (arith, (formed-is l at e).inside, (formed-is l at e).some)

  -- All the bytes of the call k.
  pub inside-by : (k : ℕ) → byte_at l at ≡ k → at + get_or sizes k 0 ≤ length l
  inside-by k h = omega (arith, (formed-is l at e).inside, size-by l at k refl h)

  -- From the call 29 on each has a number behind the byte.
  pub number-there : 29 ≤ byte_at l at → at + 9 ≤ length l
  unfolding size_at
  number-there h =
      let i : 29 + (byte_at l at - 29) ≡ byte_at l at = omega arith in
      let j : byte_at l at - 29 < 20 = omega (arith, known) in
      let each : All (λ n. 9 ≤ n) (drop 29 sizes) = omega arith in
      let most : 9 ≤ get_or sizes (byte_at l at) 0 =
      rw (get_or-drop 29 sizes (byte_at l at - 29) 0, i) at (All-get_or (λ n. 9 ≤ n) (drop 29 sizes) 0 each j) in
      omega (arith, (formed-is l at e).inside, most)

-- ── The cell memory that it is lent ─────────────────────────────────────────

module _ (l : List ℕ) (at : ℕ) where
  -- None but the calls 4, 5, 10 and 38 are lent any.
  abbrev to-4 : List ℕ
  to-4 = set (replicate 39 0) 4 (number_at l (at + 10))

  abbrev to-5 : List ℕ
  to-5 = set to-4 5 (number_at l (at + 383))

  abbrev to-10 : List ℕ
  to-10 = set to-5 10 (number_at l (at + 9))

  lents : told lent_of l at ≡ set to-10 38 (number_at l (at + 17))
  unfolding lent_of
  lents = refl

  pub lent_by : (k : ℕ) → byte_at l at ≡ k → k < 39 → lent_of (call_at l at) ≡ get_or (told lent_of l at) k 0
  lent_by k e h = told_below lent_of l at 0 (omega arith) ∙ ap (λ i. get_or (told lent_of l at) i 0) e

  lent-text : 39 ≤ byte_at l at → lent_of (call_at l at) ≡ 0
  unfolding lent_of text_call
  lent-text h = told_text lent_of l at h

  pub lent_none : (byte_at l at ≡ 4 → ⊥) → (byte_at l at ≡ 5 → ⊥) → (byte_at l at ≡ 10 → ⊥) → (byte_at l at ≡ 38 → ⊥)
      → lent_of (call_at l at) ≡ 0
  lent_none a b c d =
      ⊎_elim
      (λ (h : byte_at l at < 39).
      told_below lent_of l at 0 h
      ∙ ap (λ t. get_or t (byte_at l at) 0) lents
      ∙ get_or-set_other to-10 38 (byte_at l at) (number_at l (at + 17)) 0 d
      ∙ get_or-set_other to-5 10 (byte_at l at) (number_at l (at + 9)) 0 c
      ∙ get_or-set_other to-4 5 (byte_at l at) (number_at l (at + 383)) 0 b
      ∙ get_or-set_other (replicate 39 0) 4 (byte_at l at) (number_at l (at + 10)) 0 a
      ∙ get_or-replicate 39 (byte_at l at) 0 0 h)
      lent-text
      (lt-or-ge (byte_at l at) 39)
