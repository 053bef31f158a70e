-- What the steps of a fetch say.
use Rattle.std.specs.Prelude.{ℕ, ◌*◌, ◌≤◌, ◌<◌, ◌≡◌, true, false, None}
use Rattle.laws.specs.Numbers.{max64}
use Rattle.model.specs.Calls.{bad_info}
use Rattle.model.specs.Scoreboard.{fetched}
use Rattle.op.specs.declared.PipelineOp.{PipelineOp}
use Rattle.op.specs.View.{view_op}
use Rattle.registers.specs.declared.Operands.{Operands}
use Rattle.flight.specs.declared.Queued.{Queued}
use Rattle.flight.specs.View.{QueuedOk}
use Rattle.timeline.specs.declared.RowText.{RowText}
use Rattle.engine.specs.Engine.{Engine}
use Rattle.engine.specs.View.{view_engine}
use Rattle.engine.specs.Valid.{Parts}

-- The entry of an operation, by the numbers of its registers.
abbrev pub entry_of : Operands → PipelineOp → ℕ → ℕ → ℕ → Queued
entry_of p o seq latency place =
    record {
      seq = seq;
      operands = p;
      class = o.class;
      branch = o.branch;
      hazard = None;
      latency = latency;
      place = place;
    }

pub record Queueing (p : Operands) (o : PipelineOp) (seq latency place : ℕ) (r : Queued) : Type 0 where
  pub is : r ≡ entry_of p o seq latency place
  pub ok : QueuedOk r

-- What stays of its row.
abbrev pub row_text : PipelineOp → RowText
row_text o = record { address = o.address; class = o.class; atomic = o.atomic; disassembly = o.disassembly }

-- Nothing refuses the fetch.
pub record Fetchable (e : Engine) (o : PipelineOp) (lent : ℕ) : Type 0 where
  pub outside : e.board.front.in_cycle ≡ false
  pub invited : e.board.front.invited ≡ true
  pub good : bad_info (view_op o).info ≡ false
  pub next : e.window.next < max64
  pub room : e.window.history * 200 ≤ lent

-- The engine with the operation queued.
pub record Accepts (e : Engine) (o : PipelineOp) (r : Engine) : Type 0 where
  pub is : view_engine r ≡ fetched (view_op o) (view_engine e)
  pub parts : Parts r
