-- Every call keeps the engine's tables those of a run of the book; so they are after any list of calls.
use Prim.Native.Nat.{ℕ}
use mathlib.Core.Path.{◌≡◌, refl, sym, ◌∙◌, ap}
use mathlib.Core.Bool.{Bool, true, false, cond, true≢false}
use Rattle.std.specs.Prelude.{Option, None, Some}
use mathlib.Core.List.{List, [], ◌∷◌}
use Rattle.std.specs.List.{list_any}
use Rattle.laws.specs.Optional.{when_some}
use Rattle.laws.specs.Texts.{Text, bytes}
use Rattle.model.specs.Calls.{Call, start, retire, retry, resolve, advance, fetch, capacity, overlap, halt, fault, reset, redirect, view, cell, text, after, calls, refusal, run, runs}
use Rattle.model.specs.Config.{PipelineShape, machine_of}
use Rattle.model.specs.Issue.{issue, issuing}
use Rattle.model.specs.Registers.{producer_of}
use Rattle.model.specs.Scoreboard.{advance as do_advance, after_issue, before_issue, closed, rebuilt, reset_to, scoreboard, set_capacity, stops, with_noted}
use Rattle.model.specs.State.{State, engine, new}
use Rattle.model.specs.Units.{FunctionalUnit, build_units, is_busy, units}
use Rattle.model.specs.Write.{start_cycle, stopped, writing}
use Rattle.invariant.specs.Invariant.{Invariant}
use Rattle.invariant.proofs.Flight.{built-idle, noted}
use Rattle.invariant.proofs.Invariant.{invariant-always, invariant-kept, invariant-made}
use Rattle.invariant.proofs.Issued.{unoffered-issue}
use Rattle.invariant.proofs.Lists.{all-at, any_none}
use Rattle.invariant.proofs.Taken.{capacity-taken, start_outside}
use Rattle.book.specs.Book.{Book, can_write}
use Rattle.book.specs.Conditions.{Demand2Book}
use Rattle.book.proofs.Blocking.{holds-busy}
use Rattle.book.proofs.Holds.{before-unoffered, by-the-book, closed-unoffered, outside}
use Rattle.book.proofs.Along.{Along, advance-in, all-cleared, all-unclaimed, along-none, along-same, idle-in-book, unclaimed}

-- ── Each call that is not refused ───────────────────────────────────────────

module _ (s : State) (h : Invariant s) (a : Along s) where
  start-along : s.front.in_cycle ≡ false → Along (start_cycle s)
  start-along c =
      let by = by-the-book s h in
      let e = by.start_tables c in
      let (b, r, q) = a.in_book in
      record {
        in_book = (b, r, e ∙ q);
        allowed = λ i w.
            let o = (by.offers c i).0 w in
            ap (λ (x : Book). can_write x i) e ∙ by.writable_allowed i o.0 o.1;
      }

  advance-along : (r : Option ℕ) → Along (do_advance r s)
  unfolding scoreboard issuing
  advance-along r = along-none (do_advance r s) (go (stops s) refl) (advance-in s h a r)
    where
      after-offer : (t : State) → (after_issue t).offer.writing ≡ t.offer.writing
      after-offer t = refl

      go : (b : Bool) → stops s ≡ b → (do_advance r s).offer.writing ≡ None
      go true e =
          ap (λ (b : Bool). (cond b (closed s) (after_issue (issue (before_issue r (closed s))))).offer.writing) e
          ∙ (closed-unoffered s h).no_offer
      go false e =
          ap (λ (b : Bool). (cond b (closed s) (after_issue (issue (before_issue r (closed s))))).offer.writing) e
          ∙ after-offer (issue (before_issue r (closed s)))
          ∙ (unoffered-issue (before_issue r (closed s)) (before-unoffered s h r)).no_offer

  -- Everything in flight is dropped.
  stopped-along : (x y : Bool) (note : Text) → Along (stopped x y note s)
  unfolding writing
  stopped-along x y note =
      let t = stopped x y note s in
      along-none t refl (idle-in-book t refl (all-cleared s.units) (all-unclaimed s.producer))

  reset-along : (address : ℕ) (keeps : Bool) → Along (reset_to address keeps s)
  unfolding scoreboard
  reset-along address keeps =
      let t = reset_to address keeps s in
      along-none t refl (idle-in-book t refl (built-idle 0 s.machine.specs) unclaimed)

  -- The units are built anew only where none is busy.
  capacity-along : (k n : ℕ) → s.front.in_cycle ≡ false → Along (set_capacity k n s)
  unfolding scoreboard units
  capacity-along k n c = go (list_any is_busy s.units) refl
    where
      w : s.offer.writing ≡ None
      w = outside s h c

      idle-result : list_any is_busy s.units ≡ false → (r : ℕ) → producer_of s.producer r ≡ None
      idle-result e r = at (producer_of s.producer r) refl
        where
          at : (o : Option ℕ) → producer_of s.producer r ≡ o → o ≡ None
          at None f = refl
          at (Some i) f =
              let u = h.claimant r i f in
              absurd
              (true≢false
              (sym (holds-busy s w i u.0 u.1)
              ∙ all-at (λ (v : FunctionalUnit). is_busy v ≡ false) s.units i u.0 u.1.there (any_none is_busy s.units e)))

      go : (b : Bool) → list_any is_busy s.units ≡ b → Along (noted k n s (rebuilt b (with_noted k n s) s.units))
      go true e = along-same s (noted k n s s.units) refl refl a
      go false e =
          let t = noted k n s (build_units 0 (with_noted k n s)) in
          along-none t w (idle-in-book t w (built-idle 0 (with_noted k n s)) (idle-result e))

  along-run : (c : Call) → refusal s c ≡ None → Along (run s c)
  unfolding calls writing scoreboard
  along-run start p = start-along (start_outside s p)
  along-run retire p = along-same s (run s retire) refl refl a
  along-run (retry x) p =
      let t = run s (retry x) in
      along-none t refl a.in_book
  along-run (resolve x) p = a
  along-run (advance r ml) p = advance-along r
  along-run (fetch g ml) p = along-same s (run s (fetch g ml)) refl refl a
  along-run (capacity k n) p = capacity-along k n (capacity-taken s k n p).0
  along-run (overlap b) p = along-same s (run s (overlap b)) refl refl a
  along-run halt p = stopped-along true false (bytes "halted")
  along-run (fault x) p = stopped-along false true x
  along-run (reset x ml) p = reset-along x false
  along-run (redirect x) p = reset-along x true
  along-run (view v) p = a
  along-run (cell r c ml) p = a
  along-run (text t n) p = a

  along-after : (c : Call) → Along (after s c)
  unfolding calls
  along-after c = go (refusal s c) refl
    where
      go : (o : Option ℕ) → refusal s c ≡ o → Along (when_some o (run s c) (λ (n : ℕ). s))
      go None e = along-run c e
      go (Some n) e = a

-- ── Any list of calls ───────────────────────────────────────────────────────

along-runs : (s : State) (cs : List Call) → Invariant s → Along s → Along (runs s cs)
unfolding calls
along-runs s [] h a = a
along-runs s (c ∷ cs) h a = along-runs (after s c) cs (invariant-kept s c h) (along-after s h a c)

along-new : (d : PipelineShape) (entry : ℕ) → Along (new d entry)
unfolding engine
along-new d entry =
    let s = new d entry in
    along-none s refl (idle-in-book s refl (built-idle 0 (machine_of d).specs) unclaimed)

pub demand-2-book : Demand2Book
demand-2-book d entry lent cs p = (
  by-the-book (runs (new d entry) cs) (invariant-always d entry lent cs p),
  (along-runs (new d entry) cs (invariant-made d entry lent p) (along-new d entry)).in_book,
)
