-- The pass over a list: what it has counted and what is left make up the whole.
use Prim.Native.Nat.{ℕ, ◌+◌, ◌*◌, ◌≤◌, ◌<◌, max}
use mathlib.Core.Path.{◌≡◌, refl, sym, ap, ◌∙◌}
use mathlib.Core.Bool.{true, false}
use Rattle.std.specs.Prelude.{Option, None, Some}
use mathlib.Core.List.{List, [], ◌∷◌}
use native.Mathlib.Nat.{max-zero}
use native.Mathlib.Omega.{arith}
use borrow.Author.Tests.{le-leb, lt-leb, leb-true, eq-eqb}
use lib.Dec.{leb}
use lib.ListN.{length}
use Rattle.laws.proofs.Tests.{cond_yes, cond_no, and_yes, and_no, and-next, and_both, and-no-second}
use Rattle.model.specs.Calls.{Call}
use Rattle.decoding.specs.Machine.{making_lent, machine_formed}
use Rattle.decoding.specs.Calls.{size_at, call_at, formed_at}
use Rattle.decoding.specs.Script.{script_of, list_formed, decode}
use Rattle.decoding.proofs.Script.{formed-is, all_formed-end, calls-end, all_formed-next, calls-next}
use Rattle.answers.specs.Size.{size}
use Rattle.calls.specs.declared.Tally.{Tally}
use Rattle.calls.specs.Play.{lent_of, most_lent, all_sizes, cells_needed, out_needed}
use Rattle.calls.specs.Tally.{tally_of}
use Rattle.calls.specs.Steps.{from, good}
use Rattle.calls.proofs.Room.{size-most}

-- ── A list that is refused, and one that is not ─────────────────────────────

pub decode-none : (l : List ℕ) → list_formed l ≡ false → None ≡ tally_of (decode l)
unfolding decode
decode-none l e = sym (ap tally_of (cond_no (Some (script_of l)) None e))

module _ (l : List ℕ) where
  pub too_long : 16777216 < length l → list_formed l ≡ false
  unfolding list_formed
  too_long h = and_no _ (lt-leb (length l) 16777216 h)

  pub no_machine : machine_formed l ≡ false → list_formed l ≡ false
  unfolding list_formed
  no_machine e = and-no-second (leb (length l) 16777216) (and_no _ e)

  pub machine-there : machine_formed l ≡ true → 555 ≤ length l
  unfolding machine_formed
  machine-there e = leb-true 555 (length l) (and_both (leb 555 (length l)) _ e).0

-- ── The pass ────────────────────────────────────────────────────────────────

-- What was counted, and the calls that are left.
pub record Sums (l : List ℕ) (rest : List Call) (calls bytes lent : ℕ) : Type 0 where
  pub count : length (from l 555) ≡ calls + length rest
  pub room : 17 + all_sizes (from l 555) ≡ bytes + all_sizes rest
  pub memory : max (making_lent l) (most_lent (from l 555)) ≡ max lent (most_lent rest)

pub record Scanned (l : List ℕ) (calls bytes lent at : ℕ) : Type 0 where
  pub inside : at ≤ length l
  pub few : calls ≤ at
  pub small : bytes ≤ 17 + 65545 * at
  pub formed : good l 555 ≡ good l at
  pub sums : good l at ≡ true → Sums l (from l at) calls bytes lent

max-both : (a b c : ℕ) → max a (max b c) ≡ max (max a b) c
max-both a b c = omega arith

pub scanned-first : (l : List ℕ) {lent : ℕ} → 555 ≤ length l → lent ≡ making_lent l → Scanned l 0 17 lent 555
scanned-first l h e =
    record {
      inside = h;
      few = omega arith;
      small = omega arith;
      formed = refl;
      sums = λ g. record { count = omega arith; room = refl; memory = ap (λ n. max n (most_lent (from l 555))) (sym e) };
    }

sums_next : {l : List ℕ} {rest more : List Call} {c : Call} {calls bytes lent n lends most : ℕ} → rest ≡ c ∷ more → n ≡ size c → lends ≡ lent_of c
    → most ≡ max lent lends → Sums l rest calls bytes lent → Sums l more (calls + 1) (bytes + n) most
unfolding all_sizes most_lent
sums_next {more = more} {c = c} {lent = lent} e p q r s =
    record {
      count = omega (arith, s.count, ap length e);
      room = omega (arith, s.room, ap all_sizes e);
      memory =
          s.memory ∙ ap (λ t. max lent (most_lent t)) e ∙ max-both lent (lent_of c) (most_lent more)
          ∙ ap (λ t. max t (most_lent more)) (sym (r ∙ ap (max lent) q));
    }

tally-as : {a b c x y z : ℕ} → a ≡ x → b ≡ y → c ≡ z
    → ◌≡◌ {A = Option Tally} (Some (record { calls = a; bytes = b; lent = c })) (Some (record { calls = x; bytes = y; lent = z }))
tally-as p q r = cc

module _ {l : List ℕ} {calls bytes lent at : ℕ} (s : Scanned l calls bytes lent at) where
  module _ (h : at < length l) where
    -- A call that is not of its form ends the pass.
    pub scanned-bad : formed_at l at ≡ false → list_formed l ≡ false
    unfolding list_formed
    scanned-bad e =
        and-no-second (leb (length l) 16777216)
        (and-no-second (machine_formed l) (s.formed ∙ all_formed-next l (length l) h (omega arith) ∙ and_no _ e))

    -- n bytes of answer, k bytes of call, `lends` bytes of cell memory.
    pub scanned-next : {n k lends most : ℕ} → formed_at l at ≡ true → n ≡ size (call_at l at) → lends ≡ lent_of (call_at l at)
        → most ≡ max lent lends → k ≡ size_at l at → Scanned l (calls + 1) (bytes + n) most (at + k)
    scanned-next {n} {k} {lends} {most} e p q r z =
        let f = formed-is l at e in
        let next : good l at ≡ good l (at + k) =
        all_formed-next l (length l) h (omega arith) ∙ and-next _ e ∙ ap (λ j. good l (at + j)) (sym z) in
        record {
          inside = omega (arith, f.inside);
          few = omega (arith, s.few, f.some);
          small = omega (arith, s.small, f.some, size-most l at e);
          formed = s.formed ∙ next;
          sums =
              λ g.
              let whole : good l at ≡ true = next ∙ g in
              let c : from l at ≡ call_at l at ∷ from l (at + k) =
              calls-next l (length l) h (omega arith) whole ∙ ap (λ j. call_at l at ∷ from l (at + j)) (sym z) in
              sums_next c p q r (s.sums whole);
        }

  pub scanned-last : length l ≤ 16777216 → machine_formed l ≡ true → length l ≤ at
      → Some (record { calls = calls; bytes = bytes; lent = lent }) ≡ tally_of (decode l)
  unfolding decode list_formed script_of cells_needed out_needed most_lent all_sizes
  scanned-last h m k =
      let end : good l at ≡ true = all_formed-end l (length l) k ∙ eq-eqb at (length l) (omega (arith, s.inside)) in
      let all : list_formed l ≡ true = and_yes (le-leb (length l) 16777216 h) (and_yes m (s.formed ∙ end)) in
      let none_left : from l at ≡ [] = calls-end l (length l) k in
      let sums = s.sums end in
      let count : calls ≡ length (from l 555) = omega (arith, sums.count, ap length none_left) in
      let room : bytes ≡ 17 + all_sizes (from l 555) = omega (arith, sums.room, ap all_sizes none_left) in
      let memory : lent ≡ max (making_lent l) (most_lent (from l 555)) =
      sym (sums.memory ∙ ap (λ r. max lent (most_lent r)) none_left ∙ max-zero lent) in
      tally-as count room memory ∙ sym (ap tally_of (cond_yes (Some (script_of l)) None all))
