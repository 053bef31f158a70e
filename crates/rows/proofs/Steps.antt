-- Every call keeps it that rows and memory show the Rust's rows, and that the bytes say the Rust's cells.
use Prim.Native.Nat.{ℕ, ◌≤◌}
use native.Mathlib.Omega.{arith}
use mathlib.Core.Path.{◌≡◌, refl, sym, subst}
use mathlib.Core.Bool.{Bool, true, false, cond}
use Rattle.std.specs.Prelude.{Option, None, Some}
use mathlib.Core.List.{List, [], ◌∷◌, ◌++◌, map}
use lib.Dec.{eqb}
use lib.ListN.{length}
use borrow.Author.Tests.{eqb-false}
use Rattle.laws.specs.Lists.{All, modify}
use Rattle.std.specs.List.{list_any}
use Rattle.laws.specs.Numbers.{max64, saturating_add}
use Rattle.laws.specs.Optional.{when_some}
use Rattle.laws.specs.Texts.{bytes}
use Rattle.model.specs.Config.{UnitSpec, with_capacity}
use Rattle.model.specs.Op.{Given, Op}
use Rattle.model.specs.Registers.{resolve}
use Rattle.model.specs.Timeline.{Row, open_writes, push_all, push_all_writes, timeline, write_all}
use Rattle.model.specs.Units.{is_busy}
use Rattle.model.specs.State.{State, engine}
use Rattle.model.specs.Write.{writing}
use Rattle.model.specs.Issue.{complete_offer, flushed_cell, free_unit, issue, issue_choose, issue_front, issue_to, issuing, learn, redirect_writes, taken, timeline_cells, timeline_writes}
use Rattle.model.specs.Scoreboard.{advance, advance_writes, after_issue, before_issue, close_cycle, closed, fetched, scoreboard, stops}
use Rattle.model.specs.Calls.{Call, advance as advance-call, after, calls, capacity, cell, fault as fault-call, fetch, halt as halt-call, memories, memory_after, overlap, redirect, refusal, reset, resolve as resolve-call, retire, retry as retry-call, run, runs, sets, start, text, view}
use Rattle.runs.proofs.Tracks.{fetch-number}
use Rattle.model.specs.RustTimeline.{RustCell, RustRow, rust_timeline, rust_advance, rust_after, rust_flushed, rust_push_all, rust_run, rust_runs, dropped_cells, recorded_cells}
use Rattle.rows.proofs.Bytes.{write_all-append}
use Rattle.rows.proofs.Holds.{Holds, Shows, coded, holds-push-all, holds-cleared, holds-open}
use Rattle.rows.proofs.Declared.{Below, Kinds, kinds-built, kinds-rebuilt, kinds-start, kinds-retry, kinds-stopped, kinds-issued, kinds-advance}
use Rattle.rows.proofs.Labels.{coded-dropped, coded-recorded, RightRow, dropped-right, recorded-right, right-push_all, right-open, noted-length, noted-right}

module _ (lent : List ℕ) where
  Holds-pushed
      : (h n q : ℕ) (ps : List (ℕ × RustCell)) (bs : List (ℕ × ℕ)) (rs : List Row) (m : List ℕ) (xs : List RustRow) → map coded ps ≡ bs
      → Holds lent h rs n q m xs → Holds lent h (push_all bs rs) n q (write_all (push_all_writes h bs rs) m) (rust_push_all ps xs)
  Holds-pushed h n q ps bs rs m xs e x =
      subst (λ (l : List (ℕ × ℕ)). Holds lent h (push_all l rs) n q (write_all (push_all_writes h l rs) m) (rust_push_all ps xs)) e
      (holds-push-all lent h n q ps rs m xs x)

  shows-closed : (s : State) (m : List ℕ) (xs : List RustRow) → Shows lent s m xs → Shows lent (closed s) m xs
  unfolding scoreboard issuing
  shows-closed s m xs x = go s.offer.writing
    where
      go : (w : Option ℕ) → Shows lent (close_cycle (complete_offer w s)) m xs
      go None = x
      go (Some n) = x

  shows-before
      : (r : Option ℕ) (s : State) (m : List ℕ) (xs : List RustRow) → Shows lent s m xs
      → Shows lent (before_issue r s) (write_all (redirect_writes r s) m) (rust_flushed r s xs)
  unfolding scoreboard timeline rust_timeline issuing engine
  shows-before None s m xs x = x
  shows-before (Some n) s m xs x =
      Holds-pushed s.machine.history s.front.next_row s.front.next_seq (dropped_cells s.queue) (map flushed_cell s.queue)
      s.log.rows m xs (coded-dropped s.queue) x

  -- An issue leaves rows and numbers.
  shows-to
      : (o : Op) (rest : List Op) (r w : List ℕ) (tk fr : Option ℕ) (s : State) (m : List ℕ) (xs : List RustRow) → Shows lent s m xs
      → Shows lent (issue_to o rest r w tk fr s) m xs
  unfolding issuing engine
  shows-to o rest r w (Some t) fr s m xs x = x
  shows-to o rest r w None None s m xs x = x
  shows-to o rest r w None (Some i) s m xs x = x

  shows-choose
      : (b y : Bool) (o : Op) (rest : List Op) (s : State) (m : List ℕ) (xs : List RustRow) → Shows lent s m xs
      → Shows lent (issue_choose b y o rest s) m xs
  unfolding issuing engine
  shows-choose true y o rest s m xs x = x
  shows-choose false true o rest s m xs x = x
  shows-choose false false o rest s m xs x =
      let z = resolve s.names o.info in
      shows-to o rest z.read z.written (taken (learn z.names s).producer z.written)
      (free_unit s.machine.specs s.units o.core.decoded.class) (learn z.names s) m xs x

  shows-issue : (s : State) (m : List ℕ) (xs : List RustRow) → Shows lent s m xs → Shows lent (issue s) m xs
  unfolding issuing
  shows-issue s m xs x = front s.queue
    where
      front : (q : List Op) → Shows lent (issue_front q s) m xs
      front [] = x
      front (o ∷ rest) = shows-choose s.marks.branch s.marks.system o rest s m xs x

  shows-recorded
      : (s : State) (m : List ℕ) (xs : List RustRow) → Shows lent s m xs
      → Shows lent (after_issue s) (write_all (timeline_writes s) m) (rust_push_all (recorded_cells s) xs)
  unfolding scoreboard timeline issuing
  shows-recorded s m xs x =
      Holds-pushed s.machine.history s.front.next_row s.front.next_seq (recorded_cells s) (timeline_cells s) s.log.rows m xs
      (coded-recorded s) x

  shows-advance
      : (r : Option ℕ) (s : State) (m : List ℕ) (xs : List RustRow) → Shows lent s m xs
      → Shows lent (advance r s) (write_all (advance_writes r s) m) (rust_advance r s xs)
  unfolding timeline scoreboard rust_timeline
  shows-advance r s m xs x = go (stops s)
    where
      t : State
      t = issue (before_issue r (closed s))

      ys : List RustRow
      ys = rust_flushed r (closed s) xs

      go
          : (b : Bool)
          → Shows lent (cond b (closed s) (after_issue t)) (write_all (cond b [] (redirect_writes r (closed s) ++ timeline_writes t)) m)
          (cond b xs (rust_push_all (recorded_cells t) ys))
      go true = shows-closed s m xs x
      go false =
          subst (λ (l : List ℕ). Shows lent (after_issue t) l (rust_push_all (recorded_cells t) ys))
          (sym (write_all-append (redirect_writes r (closed s)) (timeline_writes t) m))
          (shows-recorded t (write_all (redirect_writes r (closed s)) m) ys
          (shows-issue (before_issue r (closed s)) (write_all (redirect_writes r (closed s)) m) ys
          (shows-before r (closed s) m xs (shows-closed s m xs x))))

  shows-fetched
      : (g : Given) (ml : ℕ) (s : State) (m : List ℕ) (xs : List RustRow) → eqb s.front.next_seq max64 ≡ false → Shows lent s m xs
      → Shows lent (fetched g s) (write_all (open_writes s.machine.history s.front.next_row) m) (rust_run s (fetch g ml) xs)
  unfolding scoreboard timeline rust_timeline
  shows-fetched g ml s m xs p x =
      subst
      (λ (q : ℕ).
      Holds lent s.machine.history (fetched g s).log.rows (saturating_add s.front.next_row 1) (saturating_add q 1)
      (write_all (open_writes s.machine.history s.front.next_row) m) (rust_run s (fetch g ml) xs))
      x.same_number
      (holds-open lent s.machine.history s.front.next_row g.decoded.address g.info.disassembly g.decoded.class s.log.stats.cycles g.decoded.atomic
      s.log.rows m xs (omega (arith, eqb-false s.front.next_seq max64 p, x.in_range, x.same_number))
      (subst (λ (q : ℕ). Holds lent s.machine.history s.log.rows s.front.next_row q m xs) (sym x.same_number) x))

  shows-run
      : (s : State) (c : Call) (m : List ℕ) (xs : List RustRow) → refusal s c ≡ None → Shows lent s m xs
      → Shows lent (run s c) (write_all (sets s c) m) (rust_run s c xs)
  unfolding calls timeline rust_timeline writing engine scoreboard
  shows-run s start m xs p x = x
  shows-run s retire m xs p x = x
  shows-run s (retry-call y) m xs p x = x
  shows-run s (resolve-call a) m xs p x = x
  shows-run s (advance-call r ml) m xs p x = shows-advance r s m xs x
  shows-run s (fetch g ml) m xs p x = shows-fetched g ml s m xs (fetch-number s g ml p) x
  shows-run s (capacity k n) m xs p x = x
  shows-run s (overlap b) m xs p x = x
  shows-run s halt-call m xs p x = x
  shows-run s (fault-call y) m xs p x = x
  shows-run s (reset a ml) m xs p x = holds-cleared lent s.machine.history m x.some_history x.room x.same_length x.beyond
  shows-run s (redirect a) m xs p x = x
  shows-run s (view v) m xs p x = x
  shows-run s (text t n) m xs p x = x
  shows-run s (cell i j ml) m xs p x = x

  -- Every call, refused ones too.
  pub shows-after
      : (s : State) (c : Call) (m : List ℕ) (xs : List RustRow) → Shows lent s m xs
      → Shows lent (after s c) (memory_after s c m) (rust_after s c xs)
  unfolding calls rust_timeline
  shows-after s c m xs x = go (refusal s c) refl
    where
      go
          : (o : Option ℕ) → refusal s c ≡ o
          → Shows lent (when_some o (run s c) (λ (n : ℕ). s)) (when_some o (write_all (sets s c) m) (λ (n : ℕ). m))
          (when_some o (rust_run s c xs) (λ (n : ℕ). xs))
      go None p = shows-run s c m xs p x
      go (Some n) p = x

  pub shows-runs
      : (cs : List Call) (s : State) (m : List ℕ) (xs : List RustRow) → Shows lent s m xs
      → Shows lent (runs s cs) (memories s m cs) (rust_runs s xs cs)
  unfolding calls rust_timeline
  shows-runs [] s m xs x = x
  shows-runs (c ∷ cs) s m xs x = shows-runs cs (after s c) (memory_after s c m) (rust_after s c xs) (shows-after s c m xs x)

-- ── The cells ───────────────────────────────────────────────────────────────

-- There are at most 16 kinds, every unit is of one, and the byte of every cell says the cell.
pub record Sound (s : State) (xs : List RustRow) : Type 0 where
  pub few : length s.machine.specs ≤ 16
  pub known : All (Below (length s.machine.specs)) s.units
  pub right : All (RightRow s.machine.specs) xs

sound-advance : (r : Option ℕ) (s : State) (xs : List RustRow) → Sound s xs → Sound (advance r s) (rust_advance r s xs)
unfolding rust_timeline
sound-advance r s xs h =
    record {
      few = subst (λ (js : List UnitSpec). length js ≤ 16) (sym after-all.same) h.few;
      known = subst (λ (js : List UnitSpec). All (Below (length js)) (advance r s).units) (sym after-all.same) after-all.known;
      right = subst (λ (js : List UnitSpec). All (RightRow js) (rust_advance r s xs)) (sym after-all.same) (go (stops s));
    }
  where
    ks : List UnitSpec
    ks = s.machine.specs

    after-all : Kinds ks (advance r s)
    after-all = kinds-advance ks r s (record { same = refl; known = h.known })

    flushed : (w : Option ℕ) → All (RightRow ks) (rust_flushed w (closed s) xs)
    flushed None = h.right
    flushed (Some target) = right-push_all ks (dropped_cells (closed s).queue) xs (dropped-right ks (closed s).queue) h.right

    go
        : (b : Bool)
        → All (RightRow ks) (cond b xs (rust_push_all (recorded_cells (issue (before_issue r (closed s)))) (rust_flushed r (closed s) xs)))
    go true = h.right
    go false =
        right-push_all ks (recorded_cells (issue (before_issue r (closed s)))) (rust_flushed r (closed s) xs)
        (recorded-right ks (issue (before_issue r (closed s))) h.few (kinds-issued ks r s (record { same = refl; known = h.known })))
        (flushed r)

sound-run : (s : State) (c : Call) (xs : List RustRow) → Sound s xs → Sound (run s c) (rust_run s c xs)
unfolding calls rust_timeline writing scoreboard
sound-run s start xs h = record { few = h.few; known = kinds-start (length s.machine.specs) s h.known; right = h.right }
sound-run s retire xs h = record { few = h.few; known = h.known; right = h.right }
sound-run s (retry-call y) xs h = record { few = h.few; known = kinds-retry (length s.machine.specs) y s h.known; right = h.right }
sound-run s (resolve-call a) xs h = h
sound-run s (advance-call r ml) xs h = sound-advance r s xs h
sound-run s (fetch g ml) xs h =
    record { few = h.few; known = h.known; right = right-open s.machine.specs s.machine.history _ xs refl h.right }
sound-run s (capacity k n) xs h =
    record {
      few = omega (arith, noted-length s.machine.specs k n, h.few);
      known =
          subst (λ (j : ℕ). All (Below j) (run s (capacity k n)).units) (sym (noted-length s.machine.specs k n))
          (kinds-rebuilt (length s.machine.specs) (list_any is_busy s.units) (modify k (with_capacity n) s.machine.specs) s.units
          (omega (arith, noted-length s.machine.specs k n)) h.known);
      right = noted-right s.machine.specs k n xs h.right;
    }
sound-run s (overlap b) xs h = record { few = h.few; known = h.known; right = h.right }
sound-run s halt-call xs h = record { few = h.few; known = kinds-stopped (length s.machine.specs) true false (bytes "halted") s h.known; right = h.right }
sound-run s (fault-call y) xs h = record { few = h.few; known = kinds-stopped (length s.machine.specs) false true y s h.known; right = h.right }
sound-run s (reset a ml) xs h =
    record { few = h.few; known = kinds-built (length s.machine.specs) 0 s.machine.specs (omega arith); right = tt }
sound-run s (redirect a) xs h =
    record { few = h.few; known = kinds-built (length s.machine.specs) 0 s.machine.specs (omega arith); right = h.right }
sound-run s (view v) xs h = h
sound-run s (cell i j ml) xs h = h
sound-run s (text t n) xs h = h

sound-after : (s : State) (c : Call) (xs : List RustRow) → Sound s xs → Sound (after s c) (rust_after s c xs)
unfolding calls rust_timeline
sound-after s c xs h = go (refusal s c)
  where
    go : (o : Option ℕ) → Sound (when_some o (run s c) (λ (n : ℕ). s)) (when_some o (rust_run s c xs) (λ (n : ℕ). xs))
    go None = sound-run s c xs h
    go (Some n) = h

pub sound-runs : (cs : List Call) (s : State) (xs : List RustRow) → Sound s xs → Sound (runs s cs) (rust_runs s xs cs)
unfolding calls rust_timeline
sound-runs [] s xs h = h
sound-runs (c ∷ cs) s xs h = sound-runs cs (after s c) (rust_after s c xs) (sound-after s c xs h)
