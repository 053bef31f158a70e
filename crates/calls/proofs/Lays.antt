-- Answers laid one behind the other: what stands and what is left to lay make up the whole.
use Prim.Native.Nat.{ℕ, zero, suc, ◌+◌, ◌≤◌, ◌<◌}
use mathlib.Core.Path.{◌≡◌, refl, sym, ap, ap₂, ◌∙◌}
use mathlib.Core.Bool.{true}
use mathlib.Core.List.{List, [], ◌∷◌, ◌++◌}
use native.Mathlib.Omega.{arith}
use lib.ListN.{length, set, replicate}
use Rattle.model.specs.Timeline.{overlay, splice}
use Rattle.model.specs.Calls.{Answer, refused}
use Rattle.timeline.proofs.Memory.{splice-append, splice-length, splice-set}
use Rattle.decoding.specs.Calls.{size_at, call_at, formed_at}
use Rattle.decoding.proofs.Script.{calls-end, first-formed, rest-formed, calls-next}
use Rattle.answers.specs.Encode.{encode}
use Rattle.answers.specs.Size.{size, block}
use Rattle.answers.proofs.Lengths.{pad-length}
use Rattle.answers.proofs.Sizes.{refused-fits, block-laid}
use Rattle.calls.specs.Play.{all_sizes, refused_blocks}
use Rattle.calls.specs.Steps.{from, good}

splice-none : (p : ℕ) (m : List ℕ) → splice p [] m ≡ m
unfolding splice overlay
splice-none zero m = refl
splice-none (suc p) [] = refl
splice-none (suc p) (x ∷ m) = ap (λ t. x ∷ t) (splice-none p m)

-- `all` is to stand from byte 17 on; `rest` of it is left for b on.
pub record Laying (l all rest out₀ out : List ℕ) (at b : ℕ) : Type 0 where
  pub formed : good l at ≡ true
  pub room : b + all_sizes (from l at) ≤ length out
  pub same : length out ≡ length out₀
  pub is : splice b rest out ≡ splice 17 all out₀

pub laying-first : (l all out : List ℕ) → good l 555 ≡ true → 17 + all_sizes (from l 555) ≤ length out → Laying l all all out out 555 17
laying-first l all out g h = record { formed = g; room = h; same = refl; is = refl }

module _ {l all rest out₀ out : List ℕ} {at b : ℕ} (y : Laying l all rest out₀ out at b) where
  pub laying-last : rest ≡ [] → out ≡ splice 17 all out₀
  laying-last e = sym (splice-none b out) ∙ ap (λ t. splice b t out) (sym e) ∙ y.is

  module _ (h : at < length l) where
    pub laying-formed : formed_at l at ≡ true
    laying-formed = first-formed l (length l) h (omega arith) y.formed

    -- The first of the calls left, and those behind it.
    pub laying-call : from l at ≡ call_at l at ∷ from l (at + size_at l at)
    laying-call = calls-next l (length l) h (omega arith) y.formed

    pub laying-sizes : b + (size (call_at l at) + all_sizes (from l (at + size_at l at))) ≤ length out
    unfolding all_sizes
    laying-sizes = omega (arith, y.room, ap all_sizes laying-call)

    -- As many bytes of 0 as the answer takes.
    module _ (n : ℕ) {filled : List ℕ} (f : filled ≡ splice b (replicate n 0) out) where
      pub laying-filled : b + size (call_at l at) ≤ length filled
      laying-filled = omega (arith, laying-sizes, ap length f, splice-length b (replicate n 0) out)

      pub laying-there : b < length filled
      unfolding encode
      laying-there = omega (arith, laying-filled, refused-fits 0 (call_at l at))

    -- An answer is laid over as many bytes of 0 as it takes.
    pub laying-next : {n k : ℕ} {filled out' more : List ℕ} (a : Answer) → n ≡ size (call_at l at) → k ≡ size_at l at
        → length (encode a) ≤ size (call_at l at) → rest ≡ block (call_at l at) a ++ more → filled ≡ splice b (replicate n 0) out
        → out' ≡ splice b (encode a) filled → Laying l all more out₀ out' (at + k) (b + n)
    unfolding block
    laying-next {n} {k} {filled} {out'} {more} a p q fits r f o =
        let c = call_at l at in
        let laid : out' ≡ splice b (block c a) out =
        o ∙ ap (splice b (encode a)) (f ∙ ap (λ j. splice b (replicate j 0) out) p) ∙ block-laid c a b out fits in
        let same : length out' ≡ length out = ap length laid ∙ splice-length b (block c a) out in
        let whole : good l (at + k) ≡ true =
        ap (λ j. good l (at + j)) q ∙ rest-formed l (length l) h (omega arith) y.formed in
        let less : b + n + all_sizes (from l (at + k)) ≤ length out' =
        omega (arith, laying-sizes, ap (λ j. all_sizes (from l (at + j))) q) in
        let place : b + n ≡ b + length (block c a) = omega (arith, pad-length (encode a) fits) in
        record {
          formed = whole;
          room = less;
          same = same ∙ y.same;
          is =
              ap₂ (λ i u. splice i more u) place laid ∙ sym (splice-append b (block c a) more out) ∙ ap (λ t. splice b t out) (sym r) ∙ y.is;
        }

-- ── Where making was refused ────────────────────────────────────────────────

abbrev pub Refusing : List ℕ → ℕ → List ℕ → List ℕ → ℕ → ℕ → Type 0
Refusing l x out₀ out at b = Laying l (refused_blocks x (from l 555)) (refused_blocks x (from l at)) out₀ out at b

module _ (x : ℕ) {l out₀ out : List ℕ} {at b : ℕ} (y : Refusing l x out₀ out at b) where
  pub refusing-next : {n k v : ℕ} {filled : List ℕ} → v ≡ x → at < length l → n ≡ size (call_at l at) → k ≡ size_at l at
      → filled ≡ splice b (replicate n 0) out → Refusing l x out₀ (set filled b v) (at + k) (b + n)
  unfolding refused_blocks encode
  refusing-next {filled = filled} i h p q f =
      let more = ap (λ j. from l (at + j)) (sym q) in
      laying-next y h (refused x) p q (refused-fits x (call_at l at))
      (ap (refused_blocks x) (laying-call y h ∙ ap (λ t. call_at l at ∷ t) more)) f (ap (set filled b) i ∙ sym (splice-set b x filled))

  pub refusing-last : length l ≤ at → out ≡ splice 17 (refused_blocks x (from l 555)) out₀
  unfolding refused_blocks
  refusing-last h = laying-last y (ap (refused_blocks x) (calls-end l (length l) h))
