-- Demand 1 over the code, from demand 1 over the model and the contracts.
use Prim.Native.Nat.{ℕ}
use mathlib.Core.Path.{◌≡◌, refl, sym, ap, ◌∙◌}
use Rattle.std.specs.Prelude.{Option, None, Some, Result, Ok, Err, IfOk}
use mathlib.Core.List.{List}
use lib.ListN.{length}
use Rattle.laws.specs.Optional.{when_some}
use Rattle.capability.specs.declared.Refusal.{Refusal}
use Rattle.capability.specs.Refusals.{refusal_of}
use Rattle.model.specs.State.{State, new}
use Rattle.model.specs.Calls.{Call, Answer, refused, done, make_refusal, refusal, answer, reply, no_machine, made, make, memory_made, make_memory}
use Rattle.refusals.proofs.Demand1.{demand-1 as model-demand-1, demand-1-making as model-making, taken-checks}
use Rattle.engine.specs.View.{answer_by}
use Rattle.scoreboard.specs.declared.ScoreboardPipeline.{ScoreboardPipeline}
use Rattle.scoreboard.specs.View.{pipeline, view_engine}
use Rattle.demands.specs.Demand1.{RefusesBy, Demand1, Demand1Making}

-- An answer that refuses comes from that refusal.
refused-by : (s : State) (m : List ℕ) (c : Call) (k : ℕ) → answer s m c ≡ refused k → refusal s c ≡ Some k
unfolding answer
refused-by s m c k e = go (refusal s c) refl
  where
    go : (o : Option ℕ) → refusal s c ≡ o → refusal s c ≡ Some k
    go None q = absurd ((model-demand-1.0 s m c).never_refused k (taken-checks s c q) e)
    go (Some j) q =
        let z : refused j ≡ refused k = sym (ap (λ (o : Option ℕ). when_some o (reply s m c) refused) q) ∙ e in q ∙ cc

-- What is handed back is no refusal.
module _ {A : Type 0} (f : A → Answer) (yes : (a : A) (k : ℕ) → f a ≡ refused k → ⊥) where
  is-refused : (x : Result A Refusal) (k : ℕ) → answer_by f x ≡ refused k → refusal_of x ≡ Some k
  unfolding answer_by
  is-refused (Ok a) k e = absurd (yes a k e)
  is-refused (Err r) k e = cc

  shows-refused : (x : Result A Refusal) (k : ℕ) → refusal_of x ≡ Some k → answer_by f x ≡ refused k
  unfolding answer_by
  shows-refused (Ok a) k e = cc
  shows-refused (Err r) k e = cc

  refuses-by : RefusesBy f
  refuses-by e c x r m n d w =
      let s = view_engine e in
      let t = model-demand-1.0 s m c in
      let says : (k : ℕ) → refusal_of x ≡ Some k → answer s m c ≡ refused k = λ k q. sym (d.answer m) ∙ shows-refused x k q in
      record {
        refused_first = λ k. (λ q. (t.refused_first k).0 (says k q), λ y. is-refused x k (d.answer m ∙ (t.refused_first k).1 y));
        untouched = λ k q. (ap pipeline (d.refused k (refused-by s m c k (says k q))), w ∙ (t.untouched k (says k q)).1);
        taken = λ y. let z = t.taken y in (d.answer m ∙ z.0, d.engine ∙ z.1, w ∙ z.2);
        never_refused = λ k y q. t.never_refused k y (says k q);
      }

pub demand-1 : Demand1
unfolding answer_by
demand-1 =
    record {
      of_done = refuses-by _ (λ a k q. cc);
      of_offer = refuses-by _ (λ a k q. cc);
      of_target = refuses-by _ (λ a k q. cc);
      of_invitation = refuses-by _ (λ a k q. cc);
      of_nothing = λ e c r m n d w. refuses-by {A = Unit {0}} (λ a. done) (λ a k q. cc) e c (Ok tt) r m n d w;
    }

-- ── Making ──────────────────────────────────────────────────────────────────

number-made : (o : Option ℕ) (s : State) {k : ℕ} → when_some o (made s) no_machine ≡ no_machine k → o ≡ Some k
number-made None s e = cc
number-made (Some j) s e = cc

none_made : (o : Option ℕ) {s : State} → when_some o (made s) no_machine ≡ made s → o ≡ None
none_made None e = refl
none_made (Some j) e = cc

handed
    : (x : Result ScoreboardPipeline Refusal) {P : ScoreboardPipeline → Type 0} → refusal_of x ≡ None → IfOk x P
    → (e : ScoreboardPipeline) × ((x ≡ Ok e) × P e)
handed (Ok e) q p = (e, (refl, p))
handed (Err r) q p = cc

pub demand-1-making : Demand1Making
unfolding make make_memory
demand-1-making d entry x m n z w =
    let t = model-making d entry m in
    let by : (k : ℕ) → refusal_of x ≡ Some k → make_refusal d (length m) ≡ Some k = λ k q. sym z.refused ∙ q in
    record {
      refused_first =
          λ k. (
            λ q. (t.refused_first k).0 (ap (λ (p : Option ℕ). when_some p (made (new d entry)) no_machine) (by k q)),
            λ y. z.refused ∙ number-made (make_refusal d (length m)) (new d entry) ((t.refused_first k).1 y),
          );
      untouched = λ k q. w ∙ ap (λ (p : Option ℕ). when_some p (memory_made d m) (λ (j : ℕ). m)) (by k q);
      taken =
          λ y.
          let e = handed x (z.refused ∙ none_made (make_refusal d (length m)) (t.taken y).0) z.made in
          ((e.0, (e.1.0, e.1.1.engine)), w ∙ (t.taken y).1);
    }
