use mathlib.Core.Path.{◌≡◌, refl, sym, ap, ◌∙◌}
use mathlib.Core.Bool.{true, false, not}
use Prim.Native.Nat.{ℕ}
use native.Mathlib.Omega.{arith}
use lib.Dec.{eqb}
use Rattle.laws.proofs.Choices.{none-some}
use Rattle.laws.proofs.Tests.{and_no, and_yes, and-no-second}
use Rattle.model.specs.Write.{offered_op}
use Rattle.model.specs.Calls.{resolved, no_offer, checks, refusal, run, reply}
use Rattle.capability.specs.Refusals.{refusal_of}
use Rattle.registers.specs.View.{view_held}
use Rattle.board.specs.View.{view_board}
use Rattle.engine.specs.View.{view_engine, answer_by}
use Rattle.std.proofs.Common.{rules}
use Rattle.checks.proofs.Passing.{row-passes, yes-of-not}
use Rattle.engine.proofs.Does.{does-exit, does-taken, passes}
use Rattle.offering.proofs.Answers.{on_offer_inside, not-refused, unit-resolved}
use Rattle.offering.proofs.resolve.Goals.{else-u-via-then-u+else-actual_next-d, else-u-via-else-u}
use Rattle.offering.proofs.resolve.Goals as goal

pub returns-in_err-at-clause-done : goal.returns-in_err-at-clause-done
unfolding view_engine view_board refusal checks no_offer
returns-in_err-at-clause-done c e v = does-exit v _ c.in_err-at.was c.resolve.ensures.refusal (search rules)

pub returns-in_err-at-clause-offer : goal.returns-in_err-at-clause-offer
returns-in_err-at-clause-offer c h i q ts ns =
    none-some _ (sym (not-refused c.args.board.now h q) ∙ sym c.resolve.ensures.refusal ∙ ap refusal_of c.in_err-at.was)

ne-not : {m n : ℕ} → (m ≡ n → ⊥) → not (eqb m n) ≡ true
ne-not {m} {n} h = grind arith

eq-not : {m n : ℕ} → m ≡ n → not (eqb m n) ≡ false
eq-not {m} {n} h = grind arith

pub returns-then-actual_next-d-clause-offer : goal.returns-then-actual_next-d-clause-offer
unfolding answer_by
returns-then-actual_next-d-clause-offer c h i w ts ns =
    let q = c.in_ok-at.ensures.unit in
    ap resolved
    (sym
    (unit-resolved c.args.decoded.now ts ns c.requires.units_ok _ q (on_offer_inside c.args.board.now c.requires.offer_inside q) c.args.actual_next
    c.at-d.ensures (and_yes c.if-u.true (ne-not c.if-actual_next-d.true))))

pub returns-else-u-clause-offer : goal.returns-else-u-clause-offer
unfolding answer_by
returns-else-u-clause-offer c h i w ts ns =
    let q = c.in_ok-at.ensures.unit in
    ap resolved
    (sym
    (unit-resolved c.args.decoded.now ts ns c.requires.units_ok _ q (on_offer_inside c.args.board.now c.requires.offer_inside q) c.args.actual_next
    c.at-d.ensures
    (elim c.else-u.branch [
      | else-u-via-then-u+else-actual_next-d w ↦ and-no-second _ (eq-not w.if-actual_next-d.false)
      | else-u-via-else-u w ↦ and_no _ w.if-u.false
    ])))

pub returns-then-actual_next-d-clause-done : goal.returns-then-actual_next-d-clause-done
unfolding view_engine answer_by view_board refusal checks no_offer run reply offered_op
returns-then-actual_next-d-clause-done c e v =
    let p = passes c.in_ok-at.was c.resolve.ensures.refusal in
    does-taken v p (λ m. returns-then-actual_next-d-clause-offer c (yes-of-not _ (row-passes 5 _ p).0) _ c.in_ok-at.ensures.unit e.texts (view_held e.table)) refl v.parts

pub returns-else-u-clause-done : goal.returns-else-u-clause-done
unfolding view_engine answer_by view_board refusal checks no_offer run reply offered_op
returns-else-u-clause-done c e v =
    let p = passes c.in_ok-at.was c.resolve.ensures.refusal in
    does-taken v p (λ m. returns-else-u-clause-offer c (yes-of-not _ (row-passes 5 _ p).0) _ c.in_ok-at.ensures.unit e.texts (view_held e.table)) refl v.parts
