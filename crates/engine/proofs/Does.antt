-- A call that is refused, and a call that is taken.
use Prim.Native.Nat.{ℕ}
use mathlib.Core.Path.{◌≡◌, refl, sym, subst, ap, ◌∙◌}
use Rattle.std.specs.Prelude.{Option, None, Some, Result, Ok, Err}
use mathlib.Core.List.{List}
use lib.ListN.{length}
use Rattle.laws.specs.Optional.{when_some}
use Rattle.laws.proofs.Choices.{none-some}
use Rattle.model.specs.Timeline.{write_all}
use Rattle.model.specs.State.{State}
use Rattle.capability.specs.declared.Refusal.{Refusal}
use Rattle.capability.specs.Refusals.{refusal_number, refusal_of}
use Rattle.model.specs.Calls.{Call, Answer, refused, refusal, run, reply, sets, answer, after, memory_after}
use Rattle.rows.proofs.Bytes.{write_all-length}
use Rattle.invariant.specs.Invariant.{Invariant}
use Rattle.invariant.proofs.Invariant.{invariant-kept}
use Rattle.engine.specs.Engine.{Engine}
use Rattle.engine.specs.View.{view_engine, answer_by}
use Rattle.engine.specs.Valid.{Parts, Valid}
use Rattle.engine.specs.Calls.{Does}

module _ {e : Engine} {c : Call} (v : Valid e) where
  pub does-refused : {n : ℕ} → refusal (view_engine e) c ≡ Some n → Does e c (refused n) e
  unfolding answer after
  does-refused {n} h =
      record {
        answer = λ m. sym (ap (λ (o : Option ℕ). when_some o (reply (view_engine e) m c) refused) h);
        engine = sym (ap (λ (o : Option ℕ). when_some o (run (view_engine e) c) (λ (k : ℕ). view_engine e)) h);
        valid = v;
        refused = λ k q. refl;
      }

  pub does-taken
      : {a : Answer} {r : Engine} → refusal (view_engine e) c ≡ None → ((m : List ℕ) → a ≡ reply (view_engine e) m c)
      → view_engine r ≡ run (view_engine e) c → Parts r → Does e c a r
  unfolding answer after
  does-taken {a} {r} h b t p =
      let same : run (view_engine e) c ≡ after (view_engine e) c = sym (ap (λ (o : Option ℕ). when_some o (run (view_engine e) c) (λ (k : ℕ). view_engine e)) h) in
      record {
        answer = λ m. b m ∙ sym (ap (λ (o : Option ℕ). when_some o (reply (view_engine e) m c) refused) h);
        engine = t ∙ same;
        valid =
            record {
              parts = p;
              invariant = subst Invariant (sym (t ∙ same)) (invariant-kept (view_engine e) c v.invariant);
            };
        refused = λ n q. none-some n (sym h ∙ q);
      }

  -- Refused by a check.
  pub does-err : {A : Type 0} {x : Result A Refusal} {r : Refusal} → x ≡ Err r → refusal_of x ≡ refusal (view_engine e) c
      → Does e c (refused (refusal_number r)) e
  does-err {x = x} q h = does-refused (sym h ∙ ap refusal_of q)

  -- At the exit of the check's `?`.
  pub does-exit
      : {A B : Type 0} (f : B → Answer) {x : Result A Refusal} {y : Result B Refusal} {r : Refusal} → x ≡ Err r
      → refusal_of x ≡ refusal (view_engine e) c → y ≡ Err r → Does e c (answer_by f y) e
  unfolding answer_by
  does-exit f q h p = subst (λ y. Does e c (answer_by f y) e) (sym p) (does-err q h)

-- A check that refuses nothing.
pub passes : {A : Type 0} {x : Result A Refusal} {a : A} {o : Option ℕ} → x ≡ Ok a → refusal_of x ≡ o → o ≡ None
passes q h = sym h ∙ ap refusal_of q

-- The lent memory.
module _ (s : State) (c : Call) (m : List ℕ) where
  pub memory_kept : {n : ℕ} → refusal s c ≡ Some n → m ≡ memory_after s c m
  unfolding memory_after
  memory_kept h = sym (ap (λ (o : Option ℕ). when_some o (write_all (sets s c) m) (λ (k : ℕ). m)) h)

  pub memory-set : refusal s c ≡ None → write_all (sets s c) m ≡ memory_after s c m
  unfolding memory_after
  memory-set h = sym (ap (λ (o : Option ℕ). when_some o (write_all (sets s c) m) (λ (k : ℕ). m)) h)

-- It keeps its length.
pub same_size : (s : State) (c : Call) (m : List ℕ) {n : List ℕ} → n ≡ memory_after s c m → length n ≡ length m
unfolding memory_after
same_size s c m e = ap length e ∙ go (refusal s c)
  where
    go : (o : Option ℕ) → length (when_some o (write_all (sets s c) m) (λ (k : ℕ). m)) ≡ length m
    go None = write_all-length (sets s c) m
    go (Some k) = refl
