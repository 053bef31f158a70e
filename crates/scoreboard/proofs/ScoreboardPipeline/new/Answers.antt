use Prim.Native.Nat.{ℕ, ◌*◌, ◌≤◌, max}
use mathlib.Core.Path.{◌≡◌, sym, subst, ap, ◌∙◌}
use Rattle.std.specs.Prelude.{Option, None}
use mathlib.Core.List.{[]}
use lib.ListN.{length}
use borrow.Author.Tests.{ltb-false}
use Rattle.laws.specs.Optional.{when_some}
use Rattle.model.specs.Config.{PipelineShape, Machine, machine_of}
use Rattle.model.specs.State.{new}
use Rattle.model.specs.Timeline.{clear_writes, write_all}
use Rattle.model.specs.Calls.{make_checks, make_refusal, memory_made, make_memory}
use Rattle.invariant.specs.Invariant.{Invariant}
use Rattle.invariant.proofs.Invariant.{invariant-made}
use Rattle.config.specs.View.{view_shape, view_machine}
use Rattle.config.proofs.Checks.{accepted}
use Rattle.checks.proofs.Passing.{row-passes}
use Rattle.scoreboard.specs.Calls.{new_state}
use Rattle.scoreboard.proofs.ScoreboardPipeline.new.Goals as goal

-- A machine that is made has its cell memory.
enough : (d : PipelineShape) (lent : ℕ) → make_refusal d lent ≡ None → (machine_of d).history * 200 ≤ lent
unfolding make_refusal make_checks machine_of
enough d lent e =
    ltb-false lent (max 1 d.history * 200) (row-passes 13 [] (row-passes 3 _ (row-passes 2 _ (row-passes 1 _ e).1).1).1).0

pub returns-in_err-checked-clause-memory : goal.returns-in_err-checked-clause-memory
unfolding make_memory
returns-in_err-checked-clause-memory c =
    let m = c.args.cells.now in
    ap (λ (o : Option ℕ). when_some o (memory_made (view_shape c.args.shape.now) m) (λ (k : ℕ). m)) c.in_err-checked.ensures

pub machine-machine-requires : goal.machine-machine-requires
machine-machine-requires c = accepted _ _ (sym c.in_ok-checked.ensures)

pub clear-requires : goal.clear-requires
unfolding machine_of view_machine
clear-requires c =
    subst (λ (k : Machine). k.history * 200 ≤ length c.args.cells.now) (sym c.machine-machine.ensures.is)
    (enough (view_shape c.args.shape.now) (length c.args.cells.now) (sym c.in_ok-checked.ensures))

pub returns-clause-made : goal.returns-clause-made
unfolding new new_state machine_of
returns-clause-made c =
    let d = view_shape c.args.shape.now in
    let is = c.new_engine.ensures.is ∙ ap (λ (k : Machine). new_state k c.args.entry) c.machine-machine.ensures.is in
    record {
      refused = c.in_ok-checked.ensures;
      made =
          record {
            engine = is;
            valid =
                record {
                  parts = c.new_engine.ensures.ok;
                  invariant =
                      subst Invariant (sym is) (invariant-made d c.args.entry (length c.args.cells.now) (sym c.in_ok-checked.ensures));
                };
          };
    }

pub returns-clause-memory : goal.returns-clause-memory
unfolding make_memory memory_made machine_of view_machine
returns-clause-memory c =
    let m = c.args.cells.now in
    c.clear.ensures ∙ ap (λ (k : Machine). write_all (clear_writes k.history) m) c.machine-machine.ensures.is
    ∙ ap (λ (o : Option ℕ). when_some o (memory_made (view_shape c.args.shape.now) m) (λ (k : ℕ). m)) c.in_ok-checked.ensures
