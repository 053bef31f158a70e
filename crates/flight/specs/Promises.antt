-- What the functions of a queue hand back: each entry, and so the model's operations whatever the legend.
use Rattle.capability.specs.declared.PipelineHazardKind.{PipelineHazardKind}
use Rattle.std.specs.Prelude.{◌≡◌, List, Option}
use Rattle.model.specs.Op.{Op}
use Rattle.flight.specs.declared.Queued.{Queued}
use Rattle.flight.specs.declared.Queue.{Queue}
use Rattle.flight.specs.View.{Legend, view_queue, entries, QueueOk}

-- The entry with another hazard.
abbrev pub hazardous : Option PipelineHazardKind → Queued → Queued
hazardous h q =
    record {
      seq = q.seq;
      operands = q.operands;
      class = q.class;
      branch = q.branch;
      hazard = h;
      latency = q.latency;
      place = q.place;
    }

-- The queue holds these entries; to the model they are these operations.
pub record Queues (r : Queue) (l : List Queued) (m : Legend → List Op) : Type 0 where
  pub entries : entries r ≡ l
  pub is : (g : Legend) → view_queue g r ≡ m g
  pub ok : QueueOk r
