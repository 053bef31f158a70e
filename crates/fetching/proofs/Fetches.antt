-- The checks of a fetch, in two parts: before its names are counted, and after that.
use Prim.Native.Nat.{ℕ, ◌*◌, ◌≤◌, ◌<◌}
use mathlib.Core.Path.{◌≡◌, sym, ap, ap₂, ◌∙◌}
use mathlib.Core.Bool.{false, not}
use mathlib.Core.Logic.{⊎_elim}
use Rattle.std.specs.Prelude.{None, Some}
use mathlib.Core.List.{List, [], ◌∷◌, ◌++◌, map}
use native.Mathlib.Omega.{arith}
use lib.Dec.{eqb, ltb}
use lib.ListN.{length}
use borrow.Author.Tests.{eqb-false, ltb-false}
use Rattle.laws.specs.Numbers.{max64}
use Rattle.laws.proofs.Tests.{lt-or-ge}
use Rattle.model.specs.Op.{Info, Op}
use Rattle.model.specs.Registers.{intern_all}
use Rattle.model.specs.Timeline.{write_all, open_writes}
use Rattle.model.specs.Calls.{Check, first_of, fetch, bad_info, too_many, names_with, short_memory, checks, refusal, sets, memory_after}
use Rattle.op.specs.declared.PipelineOp.{PipelineOp}
use Rattle.op.specs.View.{view_op}
use Rattle.config.specs.View.{view_machine}
use Rattle.registers.specs.declared.RegisterTable.{RegisterTable}
use Rattle.registers.specs.View.{view_known, view_held, view_operands}
use Rattle.registers.proofs.Look.{queue-laws, queue_names-in}
use Rattle.flight.specs.declared.Queued.{Queued}
use Rattle.flight.specs.View.{view_queue, entries}
use Rattle.board.specs.declared.Board.{Board}
use Rattle.board.specs.View.{view_board}
use Rattle.engine.specs.Engine.{Engine}
use Rattle.engine.specs.View.{legend_of, view_engine}
use Rattle.engine.specs.Valid.{Valid}
use Rattle.fetching.specs.Fetching.{Fetchable}
use Rattle.checks.proofs.Passing.{first_some, row-passes, first-none, yes-of-not}
use Rattle.engine.proofs.Does.{memory-set}
use Rattle.fetching.proofs.Accepting.{known-view, along}

abbrev pub first_rows : Board → ℕ → PipelineOp → List Check
first_rows b next o =
    (4, b.front.in_cycle) ∷ (8, not b.front.invited) ∷ (2, bad_info (view_op o).info) ∷ (9, too_many (view_op o).info)
    ∷ (11, eqb next max64) ∷ []

abbrev pub last-rows : RegisterTable → Info → ℕ → ℕ → List Check
last-rows t i lent history =
    (10, ltb 256 (length (intern_all (view_held t) (i.sources ++ i.writes)).names)) ∷ (13, ltb lent (history * 200)) ∷ []

pub operation_fine : (b : Board) (next : ℕ) (o : PipelineOp) → None ≡ first_of (first_rows b next o)
    → (bad_info (view_op o).info ≡ false) × (too_many (view_op o).info ≡ false)
operation_fine b next o h =
    let a = row-passes 4 _ (sym h) in let s = row-passes 8 _ a.1 in let c = row-passes 2 _ s.1 in let d = row-passes 9 _ c.1 in (c.0, d.0)

module _ {e : Engine} (v : Valid e) (o : PipelineOp) (lent : ℕ) where
  pub first_refusal
      : {n : ℕ} → first_of (first_rows e.board e.window.next o) ≡ Some n → refusal (view_engine e) (fetch (view_op o) lent) ≡ Some n
  unfolding refusal checks view_engine view_board
  first_refusal h = first_some (first_rows e.board e.window.next o) _ h

  -- The names held are those of the names known and the queue.
  names-is : (i : Info) → length (intern_all (view_held e.table) (i.sources ++ i.writes)).names ≡ names_with (view_engine e) i
  unfolding names_with view_engine view_board
  names-is i =
      ap length
      (sym
      (queue-laws.counted (view_known e.table) (view_held e.table) (map (λ (a : Op). a.info) (view_queue (legend_of e) e.board.queue))
      (map (λ (a : Queued). view_operands a.operands) (entries e.board.queue)) (i.sources ++ i.writes) (along v)))
      ∙ ap₂ (λ ns l. length (intern_all ns (l ++ (i.sources ++ i.writes))).names) (sym (known-view v))
      (sym (queue_names-in (view_queue (legend_of e) e.board.queue)))

  room-is : ltb lent (e.window.history * 200) ≡ short_memory (view_engine e) lent
  unfolding short_memory view_engine view_board view_machine
  room-is = ap (λ n. ltb lent (n * 200)) v.parts.history

  module _ (h : first_of (first_rows e.board e.window.next o) ≡ None) where
    pub second
        : refusal (view_engine e) (fetch (view_op o) lent) ≡ first_of (last-rows e.table (view_op o).info lent e.window.history)
    unfolding refusal checks view_engine view_board
    second =
        first-none (first_rows e.board e.window.next o) _ h
        ∙ ap₂ (λ n c. first_of ((10, ltb 256 n) ∷ (13, c) ∷ [])) (sym (names-is (view_op o).info)) (sym room-is)

    below_next : (e.window.next ≡ max64 → ⊥) → e.window.next < max64
    unfolding view_engine view_board
    below_next n =
        ⊎_elim (λ (l : e.window.next < max64). l) (λ (l : max64 ≤ e.window.next). absurd (n (omega (arith, v.invariant.next_few))))
        (lt-or-ge e.window.next max64)

    pub fetchable : first_of (last-rows e.table (view_op o).info lent e.window.history) ≡ None → Fetchable e o lent
    fetchable g =
        let a = row-passes 4 _ h in
        let b = row-passes 8 _ a.1 in
        let c = row-passes 2 _ b.1 in
        let d = row-passes 9 _ c.1 in
        let m = row-passes 11 _ d.1 in
        record {
          outside = a.0;
          invited = yes-of-not e.board.front.invited b.0;
          good = c.0;
          next = below_next (eqb-false e.window.next max64 m.0);
          room = ltb-false lent (e.window.history * 200) (row-passes 13 _ (row-passes 10 _ g).1).0;
        }

-- ── The lent memory ─────────────────────────────────────────────────────────

module _ {e : Engine} (v : Valid e) (o : PipelineOp) (m : List ℕ) where
  pub memory-opens : refusal (view_engine e) (fetch (view_op o) (length m)) ≡ None
      → write_all (open_writes e.window.history e.window.next) m ≡ memory_after (view_engine e) (fetch (view_op o) (length m)) m
  unfolding sets view_engine view_board view_machine
  memory-opens h =
      ap (λ n. write_all (open_writes n e.window.next) m) v.parts.history ∙ memory-set (view_engine e) (fetch (view_op o) (length m)) m h
