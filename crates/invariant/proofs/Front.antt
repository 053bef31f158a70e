-- Invitations, the wait list, the retired flag, and an engine that has stopped, after every call.
use Prim.Native.Nat.{ℕ, ◌+◌, ◌≤◌, ◌<◌}
use native.Mathlib.Omega.{arith}
use mathlib.Core.Path.{◌≡◌, refl, sym, ◌∙◌, ap, ap₂, subst}
use mathlib.Core.Bool.{Bool, true, false, cond, ◌||◌, true≢false, false≢true}
use Rattle.std.specs.Prelude.{Option, None, Some, slice_get}
use mathlib.Core.List.{[], map}
use lib.Dec.{ltb}
use lib.ListN.{length}
use borrow.Author.Tests.{ltb-true}
use Rattle.laws.specs.Lists.{lists, modify}
use Rattle.std.specs.List.{list_any}
use Rattle.laws.specs.Texts.{Text, bytes, texts}
use Rattle.laws.proofs.Choices.{none-some, some_inj}
use Rattle.laws.proofs.Maps.{length-of}
use Rattle.model.specs.Calls.{bad_text, Call, advance as advance-call, calls, capacity, cell, fault as fault-call, fetch, halt as halt-call, overlap, redirect, refusal, reset, resolve as resolve-call, retire as retire-call, retry as retry-call, run, start, text, view}
use Rattle.model.specs.Config.{PipelineShape}
use Rattle.model.specs.Issue.{complete_offer, issue, issuing}
use Rattle.model.specs.Op.{Given, with_hazard}
use Rattle.model.specs.Scoreboard.{advance, after_issue, before_issue, close_cycle, closed, fetched, idle, rebuilt, reset_to, scoreboard, set_capacity, set_enabled, stops, with_noted}
use Rattle.model.specs.State.{State, engine, new, stall_all, Offer}
use Rattle.model.specs.Units.{FunctionalUnit, build_units, clear, clear_hazard, is_busy, without_waits}
use Rattle.model.specs.Write.{open_cycle, retire, retry, start_cycle, stopped, writable_unit, writing}
use Rattle.invariant.proofs.Bools.{and_both}
use Rattle.invariant.proofs.Lists.{length-modify}
use Rattle.invariant.proofs.Entries.{Flight, entry, entry_at, in_flight, entry-held, offered-self}
use Rattle.invariant.proofs.Start.{no-cycle, retry-entry-at, start-in_flight, turned_away-few}
use Rattle.invariant.proofs.Flight.{noted, none-held, idle-empty, built-idle}
use Rattle.invariant.proofs.Taken.{fault-text, retry-text, advance-inside, capacity-taken, fetch-taken, retire_offer, start_outside}
use Rattle.invariant.proofs.Advance.{SameFlags, stall-length, flags-issued}

pub record Front (s : State) : Type 0 where
  pub outside : s.front.invited ≡ true → s.front.in_cycle ≡ false
  pub running : s.front.invited ≡ true → stops s ≡ false
  pub room : s.front.invited ≡ true → length s.queue < s.machine.depth
  pub retired : s.offer.retired ≡ true → (i : ℕ) × (s.offer.writing ≡ Some i)
  pub traces : length s.log.traces ≤ 130
  pub opened : s.front.in_cycle ≡ true → length s.log.traces ≤ 64
  pub status : (t : Text) → s.log.status ≡ Some t → bad_text 64 t ≡ false
  pub no_queue : stops s ≡ true → s.queue ≡ []
  pub no_units : stops s ≡ true → (i : ℕ) → in_flight s i ≡ None

front-start : (s : State) → s.front.in_cycle ≡ false → length s.units ≤ 64 → Flight s → Front s → Front (start_cycle s)
unfolding writing scoreboard stall_all
front-start s c few f h =
    let us = map clear_hazard s.units in
    let n : length (start_cycle s).log.traces ≤ 64
    = listed (length-of clear_hazard s.units) (turned_away-few us) (stall-length _ (writable_unit us).turned_away (open_cycle s).log) in
    record {
      outside = λ e. absurd (false≢true e);
      running = λ e. absurd (false≢true e);
      room = λ e. absurd (false≢true e);
      retired = λ e. absurd (false≢true e);
      traces = omega arith;
      opened = λ e. n;
      status = h.status;
      no_queue = λ e. ap (map (with_hazard None)) (h.no_queue e);
      no_units = λ e j. start-in_flight s c f j ∙ h.no_units e j;
    }
  where
    listed : {a b t : ℕ} → a ≡ length s.units → t ≤ a → b ≡ 0 + t → b ≤ 64
    listed e l q = omega arith

front-retire : (s : State) → (i : ℕ) × (s.offer.writing ≡ Some i) → Front s → Front (retire s)
unfolding writing scoreboard
front-retire s w h =
    record {
      outside = h.outside;
      running = h.running;
      room = h.room;
      retired = λ e. w;
      traces = h.traces;
      opened = h.opened;
      status = h.status;
      no_queue = h.no_queue;
      no_units = h.no_units;
    }

front-retry : (x : Text) (s : State) → bad_text 64 x ≡ false → Front s → Front (retry x s)
unfolding writing scoreboard
front-retry x s q h =
    record {
      outside = h.outside;
      running = h.running;
      room = h.room;
      retired = λ e. absurd (false≢true e);
      traces = h.traces;
      opened = h.opened;
      status = λ t e. subst (λ (y : Text). bad_text 64 y ≡ false) (some_inj x t e) q;
      no_queue = h.no_queue;
      no_units = λ e j. retry-entry-at s.offer.writing s.units j ∙ h.no_units e j;
    }

front-stopped : (a b : Bool) (x : Text) (s : State) → bad_text 64 x ≡ false → Front s → Front (stopped a b x s)
unfolding writing
front-stopped a b x s q h =
    record {
      outside = λ e. absurd (false≢true e);
      running = λ e. absurd (false≢true e);
      room = λ e. absurd (false≢true e);
      retired = λ e. absurd (false≢true e);
      traces = h.traces;
      opened = h.opened;
      status = λ t e. subst (λ (y : Text). bad_text 64 y ≡ false) (some_inj x t e) q;
      no_queue = λ e. refl;
      no_units = λ e i. none-held i s.units i;
    }

front-fetched : (g : Given) (s : State) → s.front.invited ≡ true → Front s → Front (fetched g s)
unfolding scoreboard
front-fetched g s v h =
    record {
      outside = λ e. absurd (false≢true e);
      running = λ e. absurd (false≢true e);
      room = λ e. absurd (false≢true e);
      retired = h.retired;
      traces = h.traces;
      opened = h.opened;
      status = h.status;
      no_queue = λ e. absurd (true≢false (sym e ∙ h.running v));
      no_units = h.no_units;
    }

front-capacity : (k m : ℕ) (s : State) → s.offer.writing ≡ None → Front s → Front (set_capacity k m s)
unfolding scoreboard
front-capacity k m s w h =
    record {
      outside = h.outside;
      running = h.running;
      room = h.room;
      retired = h.retired;
      traces = h.traces;
      opened = h.opened;
      status = h.status;
      no_queue = h.no_queue;
      no_units = λ e. go e (list_any is_busy s.units);
    }
  where
    go : stops s ≡ true → (b : Bool) (i : ℕ) → in_flight (noted k m s (rebuilt b (with_noted k m s) s.units)) i ≡ None
    go e true i = h.no_units e i
    go e false i =
        let us = build_units 0 (with_noted k m s) in
        ap (λ (x : Option ℕ). entry_at x i (slice_get us i)) w ∙ idle-empty i us (built-idle 0 (with_noted k m s)) i

front-enabled : (b : Bool) (s : State) → Front s → Front (set_enabled b s)
unfolding scoreboard
front-enabled b s h =
    record {
      outside = h.outside;
      running = h.running;
      room = h.room;
      retired = h.retired;
      traces = h.traces;
      opened = h.opened;
      status = h.status;
      no_queue = h.no_queue;
      no_units = h.no_units;
    }

front-reset : (a : ℕ) (k : Bool) (s : State) → Front (reset_to a k s)
unfolding scoreboard
front-reset a k s =
    record {
      outside = λ e. absurd (false≢true e);
      running = λ e. absurd (false≢true e);
      room = λ e. absurd (false≢true e);
      retired = λ e. absurd (false≢true e);
      traces = omega arith;
      opened = λ e. absurd (false≢true e);
      status = λ t e. none-some t e;
      no_queue = λ e. refl;
      no_units = λ e. absurd (false≢true e);
    }

pub front-made : (d : PipelineShape) (entry : ℕ) → Front (new d entry)
unfolding engine scoreboard
front-made d entry =
    record {
      outside = λ e. absurd (false≢true e);
      running = λ e. absurd (false≢true e);
      room = λ e. absurd (false≢true e);
      retired = λ e. absurd (false≢true e);
      traces = omega arith;
      opened = λ e. absurd (false≢true e);
      status = λ t e. none-some t e;
      no_queue = λ e. refl;
      no_units = λ e. absurd (false≢true e);
    }

-- ── An advance ──────────────────────────────────────────────────────────────

-- With nothing in flight nothing is on offer.
pub no_offer : (s : State) → Flight s → ((i : ℕ) → in_flight s i ≡ None) → s.offer.writing ≡ None
no_offer s f n = go s.offer.writing refl
  where
    go : (w : Option ℕ) → s.offer.writing ≡ w → s.offer.writing ≡ None
    go None e = e
    go (Some i) e =
        let a = (f.offers i e).1 in
        none-some (entry a.0)
        (sym (n i) ∙ ap₂ (λ (w : Option ℕ) (o : Option FunctionalUnit). entry_at w i o) e a.1 ∙ entry-held (Some i) i a.0 (offered-self i a.0))

pub record Closed (s t : State) : Type 0 where
  pub halted : t.front.halted ≡ s.front.halted
  pub faulted : t.front.faulted ≡ s.front.faulted
  pub in_cycle : t.front.in_cycle ≡ false
  pub invited : t.front.invited ≡ false
  pub queue : t.queue ≡ s.queue
  pub traces : t.log.traces ≡ s.log.traces
  pub status : t.log.status ≡ s.log.status
  pub many : length t.units ≡ length s.units
  pub writing : t.offer.writing ≡ None
  pub retired : t.offer.retired ≡ false

pub close : (s : State) → Front s → Closed s (closed s)
unfolding scoreboard issuing
close s h = go s.offer.writing refl
  where
    unretired : (b : Bool) → s.offer.retired ≡ b → s.offer.writing ≡ None → b ≡ false
    unretired true e w = let x = h.retired e in none-some x.0 (sym w ∙ x.1)
    unretired false e w = refl

    go : (w : Option ℕ) → s.offer.writing ≡ w → Closed s (close_cycle (complete_offer w s))
    go None e =
        record {
          halted = refl;
          faulted = refl;
          in_cycle = refl;
          invited = refl;
          queue = refl;
          traces = refl;
          status = refl;
          many = refl;
          writing = e;
          retired = unretired s.offer.retired refl e;
        }
    go (Some i) e =
        record {
          halted = refl;
          faulted = refl;
          in_cycle = refl;
          invited = refl;
          queue = refl;
          traces = refl;
          status = refl;
          many = length-of (without_waits i) (modify i clear s.units) ∙ length-modify clear i s.units;
          writing = refl;
          retired = refl;
        }

close-none : (s : State) → s.offer.writing ≡ None → (i : ℕ) → in_flight (closed s) i ≡ in_flight s i
unfolding scoreboard issuing
close-none s w i = go s.offer.writing w
  where
    go : (x : Option ℕ) → x ≡ None → in_flight (close_cycle (complete_offer x s)) i ≡ in_flight s i
    go None e = refl
    go (Some k) e = none-some k (sym e)

front-advance : (r : Option ℕ) (s : State) → s.front.in_cycle ≡ true → length s.units ≤ 64 → Flight s → Front s → Front (advance r s)
unfolding scoreboard issuing
front-advance r s c few f h = go (stops s) refl
  where
    k : Closed s (closed s)
    k = close s h

    halts : (t : State) → t.front.halted ≡ s.front.halted → t.front.faulted ≡ s.front.faulted → stops t ≡ stops s
    halts t a b = ap₂ ◌||◌ a b

    go : (b : Bool) → stops s ≡ b → Front (cond b (closed s) (after_issue (issue (before_issue r (closed s)))))
    go true e =
        let w = no_offer s f (h.no_units e) in
        record {
          outside = λ q. k.in_cycle;
          running = λ q. absurd (true≢false (sym q ∙ k.invited));
          room = λ q. absurd (true≢false (sym q ∙ k.invited));
          retired = λ q. absurd (true≢false (sym q ∙ k.retired));
          traces = omega (arith, ap length k.traces, h.opened c);
          opened = λ q. absurd (true≢false (sym q ∙ k.in_cycle));
          status = λ x q. h.status x (sym k.status ∙ q);
          no_queue = λ q. k.queue ∙ h.no_queue e;
          no_units = λ q i. close-none s w i ∙ h.no_units e i;
        }
    go false e =
        let t = issue (before_issue r (closed s)) in
        let m : SameFlags (1 + (1 + length (closed s).units)) (closed s) t = flags-issued r (closed s) in
        let runs : stops t ≡ false = halts t (m.halted ∙ k.halted) (m.faulted ∙ k.faulted) ∙ e in
        record {
          outside = λ q. m.in_cycle ∙ k.in_cycle;
          running = λ q. runs;
          room = λ q.
              ltb-true (length t.queue) t.machine.depth
              (and_both (ltb (length t.queue) t.machine.depth) (t.front.enabled || idle t) q).0;
          retired = λ q.
              absurd (true≢false (sym q ∙ ap (λ (x : Offer). x.retired) m.offer ∙ k.retired));
          traces = omega (arith, m.traces, ap length k.traces, h.opened c, k.many, few);
          opened = λ q. absurd (true≢false (sym q ∙ m.in_cycle ∙ k.in_cycle));
          status = λ x q. h.status x (sym k.status ∙ m.status x q);
          no_queue = λ q. absurd (true≢false (sym q ∙ runs));
          no_units = λ q. absurd (true≢false (sym q ∙ runs));
        }

-- ── Every call ──────────────────────────────────────────────────────────────

pub front-run : (s : State) (c : Call) → refusal s c ≡ None → length s.units ≤ 64 → Flight s → Front s → Front (run s c)
unfolding calls writing texts lists
front-run s start p few f h = front-start s (start_outside s p) few f h
front-run s retire-call p few f h = front-retire s (retire_offer s p) h
front-run s (retry-call x) p few f h = front-retry x s (retry-text s x p) h
front-run s (resolve-call a) p few f h = h
front-run s (advance-call r ml) p few f h = front-advance r s (advance-inside s r ml p) few f h
front-run s (fetch g ml) p few f h = front-fetched g s (fetch-taken s g ml p).invited h
front-run s (capacity k m) p few f h = front-capacity k m s (no-cycle s f (capacity-taken s k m p).0) h
front-run s (overlap b) p few f h = front-enabled b s h
front-run s halt-call p few f h = front-stopped true false (bytes "halted") s refl h
front-run s (fault-call x) p few f h = front-stopped false true x s (fault-text s x p) h
front-run s (reset a ml) p few f h = front-reset a false s
front-run s (redirect a) p few f h = front-reset a true s
front-run s (view v) p few f h = h
front-run s (text t m) p few f h = h
front-run s (cell i j ml) p few f h = h
