-- Demand 1: a call is refused with the first number whose test holds, and changes nothing then; every other call is taken.
use Prim.Native.Nat.{ℕ, ◌*◌, ◌≤◌, max}
use mathlib.Core.Path.{◌≡◌, refl, sym, ◌∙◌, ap}
use mathlib.Core.Bool.{Bool, true, false, cond, true≢false, false≢true}
use Rattle.std.specs.Prelude.{Option, None, Some}
use mathlib.Core.List.{List, [], ◌∷◌, ◌++◌}
use lib.ListN.{length}
use borrow.Author.Tests.{ltb-false}
use Rattle.laws.specs.Optional.{when_some}
use Rattle.laws.specs.Lists.{All}
use Rattle.laws.proofs.Choices.{none-some, some_inj}
use Rattle.model.specs.Config.{PipelineShape}
use Rattle.model.specs.Timeline.{write_all}
use Rattle.model.specs.State.{State, new}
use Rattle.model.specs.Requests.{Request, text_at, buffer_with}
use Rattle.model.specs.Calls.{Call, start, retire, retry, resolve, advance, fetch, capacity, overlap, halt, fault, reset, redirect, view, cell, text, View, status, stats, enabled, fetch_pc, resume_pc, stage_count, edges, entry_stages, stage_order, unit_count, trace_count, timeline_len, station_count, rename_count, queue_count, buffer_count, buffer_capacity, in_flight_before, stage, unit, trace, timeline_row, station, rename, queued, buffer_entry, Answer, refused, done, offered, resolved, invitation, shown_status, shown_stats, shown_flag, shown_number, shown_stages, shown_edges, shown_stage, shown_unit, shown_trace, shown_row, shown_cell, shown_station, shown_rename, shown_slot, shown_text, Check, first_of, checks, refusal, make_checks, make_refusal, answer, after, memory_after, buffer_after, reply, show, run, sets, Made, no_machine, made, make, memory_made, make_memory}
use Rattle.refusals.specs.Refusals.{fails, First, Refusals, Buffers, Demand1, Demand1Making}

-- ── The first of a list of tests ────────────────────────────────────────────

pub none-holds : (ps : List Check) → first_of ps ≡ None → All fails ps
unfolding first_of
none-holds [] e = tt
none-holds (p ∷ ps) e = go p.1 refl e (none-holds ps)
  where
    go
        : (b : Bool) → p.1 ≡ b → cond b (Some p.0) (first_of ps) ≡ None → (first_of ps ≡ None → All fails ps)
        → (p.1 ≡ false) × All fails ps
    go true t e f = none-some p.0 (sym e)
    go false t e f = (t, f e)

pub all-fail : (ps : List Check) → All fails ps → first_of ps ≡ None
unfolding first_of
all-fail [] a = refl
all-fail (p ∷ ps) a = ap (λ (b : Bool). cond b (Some p.0) (first_of ps)) a.0 ∙ all-fail ps a.1

first-is : (n : ℕ) (ps : List Check) → first_of ps ≡ Some n → First n ps
unfolding first_of
first-is n [] e = none-some n e
first-is n (p ∷ ps) e = go p.1 refl e (first-is n ps)
  where
    go : (b : Bool) → p.1 ≡ b → cond b (Some p.0) (first_of ps) ≡ Some n → (first_of ps ≡ Some n → First n ps) → First n (p ∷ ps)
    go true t e f = let z : p.0 ≡ n = some_inj p.0 n e in ([], ps, λ i. (z i, t i) ∷ ps, tt)
    go false t e f =
        let x = f e in
        (p ∷ x.0, x.1, ap (λ (l : List Check). p ∷ l) x.2, (t, x.3))

found : (n : ℕ) (before later : List Check) → All fails before → first_of (before ++ ((n, true) ∷ later)) ≡ Some n
unfolding first_of
found n [] later a = refl
found n (p ∷ before) later a =
    ap (λ (b : Bool). cond b (Some p.0) (first_of (before ++ ((n, true) ∷ later)))) a.0 ∙ found n before later a.1

is-first : (n : ℕ) (ps : List Check) → First n ps → first_of ps ≡ Some n
is-first n ps x = ap first_of x.2 ∙ found n x.0 x.1 x.3

-- A call that is not refused: every test fails.
pub taken-checks : (s : State) (c : Call) → refusal s c ≡ None → All fails (checks s c)
unfolding refusal
taken-checks s c p = none-holds (checks s c) p

-- ── The answer ──────────────────────────────────────────────────────────────

abbrev says-no : Answer → Bool
says-no (refused n) = true
says-no done = false
says-no (offered o) = false
says-no (resolved a) = false
says-no (invitation a) = false
says-no (shown_status x) = false
says-no (shown_stats a) = false
says-no (shown_flag b) = false
says-no (shown_number n) = false
says-no (shown_stages ns) = false
says-no (shown_edges es) = false
says-no (shown_stage o) = false
says-no (shown_unit k) = false
says-no (shown_trace t) = false
says-no (shown_row r) = false
says-no (shown_cell c) = false
says-no (shown_station t) = false
says-no (shown_rename p) = false
says-no (shown_slot o) = false
says-no (shown_text t) = false

show-yes : (s : State) (v : View) → says-no (show s v) ≡ false
unfolding show
show-yes s status = refl
show-yes s stats = refl
show-yes s enabled = refl
show-yes s fetch_pc = refl
show-yes s resume_pc = refl
show-yes s stage_count = refl
show-yes s edges = refl
show-yes s entry_stages = refl
show-yes s stage_order = refl
show-yes s unit_count = refl
show-yes s trace_count = refl
show-yes s timeline_len = refl
show-yes s station_count = refl
show-yes s rename_count = refl
show-yes s queue_count = refl
show-yes s buffer_count = refl
show-yes s buffer_capacity = refl
show-yes s (in_flight_before n) = refl
show-yes s (stage i) = refl
show-yes s (unit i) = refl
show-yes s (trace i) = refl
show-yes s (timeline_row i) = refl
show-yes s (station i) = refl
show-yes s (rename i) = refl
show-yes s (queued i) = refl
show-yes s (buffer_entry i) = refl

reply-yes : (s : State) (m : List ℕ) (c : Call) → says-no (reply s m c) ≡ false
unfolding reply
reply-yes s m start = refl
reply-yes s m retire = refl
reply-yes s m (retry reason) = refl
reply-yes s m (resolve a) = refl
reply-yes s m (advance r lent) = refl
reply-yes s m (fetch g lent) = refl
reply-yes s m (capacity k n) = refl
reply-yes s m (overlap b) = refl
reply-yes s m halt = refl
reply-yes s m (fault note) = refl
reply-yes s m (reset a lent) = refl
reply-yes s m (redirect a) = refl
reply-yes s m (view v) = show-yes s v
reply-yes s m (cell r c lent) = refl
reply-yes s m (text t room) = refl

refused-inj : (a b : ℕ) → refused a ≡ refused b → a ≡ b
refused-inj a b p = cc

-- An answer that refuses comes from a refusal, and from that number.
refused-by : (s : State) (m : List ℕ) (c : Call) (n : ℕ) → answer s m c ≡ refused n → refusal s c ≡ Some n
unfolding answer
refused-by s m c n = go (refusal s c)
  where
    go : (o : Option ℕ) → when_some o (reply s m c) refused ≡ refused n → o ≡ Some n
    go None e = absurd (false≢true (sym (reply-yes s m c) ∙ ap says-no e))
    go (Some k) e = ap Some (refused-inj k n e)

refused-with : (s : State) (c : Call) (n : ℕ) → First n (checks s c) → refusal s c ≡ Some n
unfolding refusal
refused-with s c n x = is-first n (checks s c) x

refused-from : (s : State) (c : Call) (n : ℕ) → refusal s c ≡ Some n → First n (checks s c)
unfolding refusal
refused-from s c n e = first-is n (checks s c) e

not-refused : (s : State) (c : Call) → All fails (checks s c) → refusal s c ≡ None
unfolding refusal
not-refused s c a = all-fail (checks s c) a

calls-refused : (s : State) (m : List ℕ) (c : Call) → Refusals s m c
unfolding answer after memory_after
calls-refused s m c =
    record {
      refused_first =
          λ n. (
            λ e. refused-from s c n (refused-by s m c n e),
            λ x. ap (λ (o : Option ℕ). when_some o (reply s m c) refused) (refused-with s c n x),
          );
      untouched =
          λ n e.
          let r : refusal s c ≡ Some n = refused-by s m c n e in (
            ap (λ (o : Option ℕ). when_some o (run s c) (λ (k : ℕ). s)) r,
            ap (λ (o : Option ℕ). when_some o (write_all (sets s c) m) (λ (k : ℕ). m)) r,
          );
      taken =
          λ a.
          let r : refusal s c ≡ None = not-refused s c a in (
            ap (λ (o : Option ℕ). when_some o (reply s m c) refused) r,
            ap (λ (o : Option ℕ). when_some o (run s c) (λ (k : ℕ). s)) r,
            ap (λ (o : Option ℕ). when_some o (write_all (sets s c) m) (λ (k : ℕ). m)) r,
          );
      never_refused = λ n a e. none-some n (sym (not-refused s c a) ∙ refused-by s m c n e);
    }

buffers : (s : State) (t : Request) (lent : List ℕ) → Buffers s t lent
unfolding buffer_after
buffers s t lent =
    record {
      untouched =
          λ m n e.
          ap (λ (o : Option ℕ). when_some o (buffer_with (text_at s t) lent) (λ (k : ℕ). lent))
          (refused-by s m (text t (length lent)) n e);
      written =
          λ a.
          ap (λ (o : Option ℕ). when_some o (buffer_with (text_at s t) lent) (λ (k : ℕ). lent))
          (not-refused s (text t (length lent)) a);
    }

pub demand-1 : Demand1
demand-1 = (calls-refused, buffers)

-- ── Making ──────────────────────────────────────────────────────────────────

abbrev is_made : Made → Bool
is_made (no_machine n) = false
is_made (made s) = true

no_machine-inj : (a b : ℕ) → no_machine a ≡ no_machine b → a ≡ b
no_machine-inj a b p = cc

pub demand-1-making : Demand1Making
unfolding make make_refusal make_memory
demand-1-making d entry lent =
    record {
      refused_first =
          λ n. (
            λ e. first-is n tests (by n e),
            λ x. ap (λ (o : Option ℕ). when_some o (made (new d entry)) no_machine) (is-first n tests x),
          );
      untouched = λ n e. ap (λ (o : Option ℕ). when_some o (memory_made d lent) (λ (k : ℕ). lent)) (by n e);
      taken =
          λ a. (
            ap (λ (o : Option ℕ). when_some o (made (new d entry)) no_machine) (all-fail tests a),
            ap (λ (o : Option ℕ). when_some o (memory_made d lent) (λ (k : ℕ). lent)) (all-fail tests a),
          );
    }
  where
    tests : List Check
    tests = make_checks d (length lent)

    by : (n : ℕ) → make d entry lent ≡ no_machine n → make_refusal d (length lent) ≡ Some n
    by n = go (make_refusal d (length lent))
      where
        go : (o : Option ℕ) → when_some o (made (new d entry)) no_machine ≡ no_machine n → o ≡ Some n
        go None e = absurd (true≢false (ap is_made e))
        go (Some k) e = ap Some (no_machine-inj k n e)

-- A making that is not refused: every test fails.
pub made-checks : (d : PipelineShape) (lent : ℕ) → make_refusal d lent ≡ None → All fails (make_checks d lent)
unfolding make_refusal
made-checks d lent p = none-holds (make_checks d lent) p

-- It was lent cell memory enough.
pub made-room : (d : PipelineShape) (lent : ℕ) → make_refusal d lent ≡ None → max 1 d.history * 200 ≤ lent
unfolding make_checks
made-room d lent p = ltb-false lent (max 1 d.history * 200) (made-checks d lent p).1.1.1.0
