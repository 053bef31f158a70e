-- The rest of a cycle: its checks, and what it leaves where it is refused, where the engine stops, and where it works.
use Prim.Native.Nat.{ℕ, ◌*◌, ◌≤◌}
use mathlib.Core.Path.{◌≡◌, refl, sym, subst, ap, ◌∙◌}
use mathlib.Core.Bool.{Bool, true, false, cond, not, ◌&&◌, ◌||◌}
use Rattle.std.specs.Prelude.{Option, None, Some, Result, Err}
use mathlib.Core.List.{List, [], ◌∷◌}
use lib.Dec.{ltb, T}
use lib.ListN.{length}
use borrow.Author.Tests.{ltb-false}
use Rattle.laws.specs.Optional.{is_none}
use Rattle.laws.proofs.Tests.{cond_yes, cond_no}
use Rattle.laws.proofs.Choices.{false-T}
use Rattle.model.specs.Timeline.{Write, write_all}
use Rattle.model.specs.State.{Front, State, with_turn}
use Rattle.model.specs.Issue.{complete_at, complete_offer, complete_write}
use Rattle.model.specs.Scoreboard.{advance as do_advance, advance_writes, after_issue, close_cycle, closed, stops}
use Rattle.model.specs.Calls.{
  Check,
  Answer,
  first_of,
  advance,
  invitation,
  invitation_of,
  no_offer,
  unsettled,
  short_memory,
  checks,
  refusal,
  run,
  reply,
  sets,
  memory_after,
}
use Rattle.capability.specs.declared.Refusal.{Refusal}
use Rattle.capability.specs.Refusals.{refusal_of}
use Rattle.config.specs.View.{view_machine}
use Rattle.board.specs.declared.Board.{Board}
use Rattle.board.specs.View.{Frame, view_board}
use Rattle.board.specs.Promises.{Closes}
use Rattle.engine.specs.Engine.{Engine, with_board}
use Rattle.engine.specs.View.{frame_of, view_engine}
use Rattle.engine.specs.Valid.{Parts, Valid}
use Rattle.engine.specs.Calls.{Does}
use Rattle.advancing.specs.Advance.{issued, Worked, worked_writes}
use Rattle.engine.proofs.Does.{does-taken, memory_kept, memory-set}
use Rattle.checks.proofs.Passing.{row-passes, yes-of-not}

-- ── The cycle closes ────────────────────────────────────────────────────────

pub closed-front : (s : State) → (closed s).front ≡ with_turn false false s.front
unfolding closed close_cycle complete_write complete_offer complete_at
closed-front s = go s.offer.writing
  where
    go : (o : Option ℕ) → (close_cycle (complete_offer o s)).front ≡ with_turn false false s.front
    go None = refl
    go (Some i) = refl

module _ {b r : Board} (cl : Closes b r) (x : Frame) where
  front-is : (view_board x r).front ≡ with_turn false false (view_board x b).front
  front-is = ap (λ (s : State). s.front) (cl.is x) ∙ closed-front (view_board x b)

  outside : r.front.in_cycle ≡ false
  unfolding view_board
  outside = ap (λ (f : Front). f.in_cycle) front-is

  -- It stops where it stopped.
  pub stops_same : b.front.halted || b.front.faulted ≡ r.front.halted || r.front.faulted
  unfolding view_board
  stops_same = sym (ap (λ (f : Front). f.halted || f.faulted) front-is)

-- The engine stops: nothing else is done.
stopped-parts : (e : Engine) {b : Board} → Closes e.board b → Parts e → b.front.halted || b.front.faulted ≡ true → Parts (with_board b e)
stopped-parts e {b} cl p h =
    record {
      board = cl.ok;
      window = p.window;
      tracks = p.tracks;
      rows = p.rows;
      machine = p.machine;
      table = p.table;
      decoded = p.decoded;
      texts = p.texts;
      history = p.history;
      known = p.known ∙ sym cl.known;
      looks = cl.looks (frame_of e) p.looks;
      apart = cl.apart p.apart;
      vacant = cl.vacant p.vacant;
      begun = λ t o. false-T b.front.in_cycle (outside cl (frame_of e)) (subst T (sym t) tt);
      named = λ t. false-T (b.front.halted || b.front.faulted) t (subst T (sym h) tt);
    }

-- ── The checks ──────────────────────────────────────────────────────────────

-- By how many rows there may be.
abbrev pub rows-by : Board → ℕ → ℕ → List Check
rows-by b history lent =
    (5, not b.front.in_cycle) ∷ (7, not (is_none b.offer.writing) && not b.offer.retired) ∷ (13, ltb lent (history * 200)) ∷ []

pub checked : {e : Engine} → Valid e → (target : Option ℕ) (lent : ℕ)
    → first_of (rows-by e.board e.window.history lent) ≡ refusal (view_engine e) (advance target lent)
unfolding refusal checks unsettled no_offer short_memory view_engine view_board view_machine
checked {e} v target lent = ap (λ n. first_of (rows-by e.board n lent)) v.parts.history

module _ (b : Board) (history lent : ℕ) (h : first_of (rows-by b history lent) ≡ None) where
  pub cycle-open : b.front.in_cycle ≡ true
  cycle-open = yes-of-not b.front.in_cycle (row-passes 5 _ h).0

  pub cells_fit : history * 200 ≤ lent
  cells_fit = ltb-false lent (history * 200) (row-passes 13 _ (row-passes 7 _ (row-passes 5 _ h).1).1).0

-- ── What is left ────────────────────────────────────────────────────────────

module _ {e : Engine} (v : Valid e) (target : Option ℕ) (m : List ℕ) where
  pub memory-refused : {A : Type 0} {x : Result A Refusal} {r : Refusal} → x ≡ Err r
      → refusal_of x ≡ refusal (view_engine e) (advance target (length m))
      → m ≡ memory_after (view_engine e) (advance target (length m)) m
  memory-refused q h = memory_kept (view_engine e) (advance target (length m)) m (sym h ∙ ap refusal_of q)

  module _ (h : refusal (view_engine e) (advance target (length m)) ≡ None) {b : Board} (cl : Closes e.board b) where
    stops-with : {t : Bool} → b.front.halted || b.front.faulted ≡ t → stops (view_engine e) ≡ t
    unfolding view_engine view_board stops
    stops-with q = stops_same cl (frame_of e) ∙ q

    memory-taken : {ws : List Write} → advance_writes target (view_engine e) ≡ ws
        → write_all ws m ≡ memory_after (view_engine e) (advance target (length m)) m
    unfolding sets
    memory-taken q = ap (λ ws. write_all ws m) (sym q) ∙ memory-set (view_engine e) (advance target (length m)) m h

    module _ (q : b.front.halted || b.front.faulted ≡ true) where
      run-stops : run (view_engine e) (advance target (length m)) ≡ closed (view_engine e)
      unfolding run do_advance
      run-stops = cond_yes (closed (view_engine e)) (after_issue (issued target (view_engine e))) (stops-with q)

      pub stopped : Does e (advance target (length m)) (invitation None) (with_board b e)
      unfolding run reply invitation_of view_engine
      stopped =
          does-taken v h
          (λ n.
          ap invitation
          (sym
          (ap (λ (s : State). cond s.front.invited (Some s.front.fetch_pc) None) run-stops
          ∙ ap (λ (f : Front). cond f.invited (Some f.fetch_pc) None) (closed-front (view_engine e)))))
          (cl.is (frame_of e) ∙ sym run-stops)
          (stopped-parts e cl v.parts q)

      pub memory-stopped : m ≡ memory_after (view_engine e) (advance target (length m)) m
      unfolding advance_writes write_all
      memory-stopped = memory-taken {ws = []} (cond_yes [] (worked_writes target (view_engine e)) (stops-with q))

    module _ (q : b.front.halted || b.front.faulted ≡ false) where
      run-works : run (view_engine e) (advance target (length m)) ≡ after_issue (issued target (view_engine e))
      unfolding run do_advance
      run-works = cond_no (closed (view_engine e)) (after_issue (issued target (view_engine e))) (stops-with q)

      pub works : {a : Answer} {r : Engine} → Worked e target a r → Does e (advance target (length m)) a r
      unfolding run reply
      works w = does-taken v h (λ n. w.answer ∙ sym (ap (λ (s : State). invitation (invitation_of s)) run-works)) (w.engine ∙ sym run-works) w.parts

      pub memory-works : {n : List ℕ} → n ≡ write_all (worked_writes target (view_engine e)) m
          → n ≡ memory_after (view_engine e) (advance target (length m)) m
      unfolding advance_writes
      memory-works p = p ∙ memory-taken (cond_no [] (worked_writes target (view_engine e)) (stops-with q))
