-- What status and edges mean to the model.
use Rattle.capability.specs.declared.PipelineStatus.{PipelineStatus}
use Rattle.capability.specs.declared.PipelineEdge.{PipelineEdge}
use Rattle.model.specs.Views.{StatusView, Edge}

unfoldable pub view_status : PipelineStatus → StatusView
view_status v =
    record { enabled = v.enabled; sequential = v.sequential; halted = v.halted; faulted = v.faulted }

unfoldable pub view_edge : PipelineEdge → Edge
view_edge e = record { from = e.from; to = e.to; kind = e.kind }
