-- What the whole call answers and leaves: 14, 13, or a script played.
use Prim.Native.Nat.{ℕ, ◌≤◌, ◌<◌}
use mathlib.Core.Path.{◌≡◌, refl, sym, ap, ◌∙◌}
use mathlib.Core.Bool.{Bool, true, false, cond}
use Rattle.std.specs.Prelude.{Option, None, Some}
use mathlib.Core.List.{List}
use borrow.Author.Tests.{lt-ltb, le-ltb}
use native.Mathlib.Omega.{arith}
use lib.Dec.{ltb}
use lib.ListN.{length}
use Rattle.laws.proofs.Tests.{or_yes, or-yes-second, or_no, when_some-some, when_some-none}
use Rattle.model.specs.Timeline.{splice}
use Rattle.decoding.specs.Script.{Script, script_of, list_formed, decode}
use Rattle.calls.specs.declared.Tally.{Tally}
use Rattle.calls.specs.Play.{cells_needed, out_needed, short, script_answers, script_cells, play_answer, play_cells, play_out}
use Rattle.calls.specs.Tally.{tally, tally_of}

-- ── What the tally tells ────────────────────────────────────────────────────

none-by : (o : Option Script) → None ≡ tally_of o → o ≡ None
none-by None e = refl
none-by (Some d) e = cc

some-by : (d : Script) (b : Bool) {t : Tally} → Some t ≡ tally_of (cond b (Some d) None) → (b ≡ true) × (t ≡ tally d)
some-by d true e = (refl, (cc))
some-by d false e = cc

undecoded : (l : List ℕ) → None ≡ tally_of (decode l) → decode l ≡ None
undecoded l e = none-by (decode l) e

module _ (l : List ℕ) {t : Tally} (q : Some t ≡ tally_of (decode l)) where
  pub decoded : decode l ≡ Some (script_of l)
  unfolding decode
  decoded = ap (λ b. cond b (Some (script_of l)) None) (some-by (script_of l) (list_formed l) q).0

  pub tallied : t ≡ tally (script_of l)
  unfolding decode
  tallied = (some-by (script_of l) (list_formed l) q).1

  lent_is : t.lent ≡ cells_needed (script_of l)
  lent_is = ap (λ x. x.lent) tallied

  bytes-is : t.bytes ≡ out_needed (script_of l)
  bytes-is = ap (λ x. x.bytes) tallied

-- ── The answer, the cell memory and the room for answers ────────────────────

abbrev pub Outcome : (l m out : List ℕ) → ℕ → List ℕ → List ℕ → Type 0
Outcome l m out r m' out' = (r ≡ play_answer l m out) × ((m' ≡ play_cells l m out) × (out' ≡ play_out l m out))

module _ (l m out : List ℕ) where
  pub outcome-unformed : None ≡ tally_of (decode l) → Outcome l m out 14 m out
  unfolding play_answer play_cells play_out
  outcome-unformed q =
      let e = undecoded l q in
      (sym (when_some-none 14 _ e), (sym (when_some-none m _ e), sym (when_some-none out _ e)))

  module _ {t : Tally} (q : Some t ≡ tally_of (decode l)) where
    abbrev d : Script
    d = script_of l

    -- By whether the room is short.
    outcome-by : (b : Bool) → short d (length m) (length out) ≡ b
        → Outcome l m out (cond b 13 (out_needed d)) (cond b m (script_cells d m)) (cond b out (splice 0 (script_answers d m) out))
    unfolding play_answer play_cells play_out
    outcome-by b s =
        let e = decoded l q in (
          sym (when_some-some 14 _ e ∙ ap (λ x. cond x 13 (out_needed d)) s),
          (
            sym (when_some-some m _ e ∙ ap (λ x. cond x m (script_cells d m)) s),
            sym (when_some-some out _ e ∙ ap (λ x. cond x out (splice 0 (script_answers d m) out)) s),
          ),
        )

    pub outcome-lent : length m < t.lent → Outcome l m out 13 m out
    unfolding short
    outcome-lent h = outcome-by true (or_yes _ (lt-ltb (length m) (cells_needed d) (omega (arith, lent_is l q))))

    pub outcome-room : length out < t.bytes → Outcome l m out 13 m out
    unfolding short
    outcome-room h =
        outcome-by true
        (or-yes-second (ltb (length m) (cells_needed d)) (lt-ltb (length out) (out_needed d) (omega (arith, bytes-is l q))))

    pub outcome-played : {m' out' : List ℕ} → t.lent ≤ length m → t.bytes ≤ length out → m' ≡ script_cells d m
        → out' ≡ splice 0 (script_answers d m) out → Outcome l m out t.bytes m' out'
    unfolding short
    outcome-played h k p s =
        let fits : ltb (length m) (cells_needed d) ≡ false = le-ltb (length m) (cells_needed d) (omega (arith, lent_is l q)) in
        let room : ltb (length out) (out_needed d) ≡ false = le-ltb (length out) (out_needed d) (omega (arith, bytes-is l q)) in
        let o = outcome-by false (or_no fits room) in
        (bytes-is l q ∙ o.0, (p ∙ o.1.0, s ∙ o.1.1))
