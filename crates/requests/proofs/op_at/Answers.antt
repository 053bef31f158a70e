-- Each arm looks at the place that it was told.
use Rattle.model.specs.Write.{offered_op}
use Rattle.model.specs.Views.{oldest_in, stage_ops, stage_op}
use Rattle.model.specs.Requests.{op_at}
use Rattle.requests.specs.View.{view_place}
use Rattle.requests.proofs.Asked.{told-place, shows-kind}
use Rattle.requests.proofs.op_at.Goals as goal

pub returns-in-Queue : goal.returns-in-Queue
unfolding op_at view_place
returns-in-Queue c = let a = c.args in
    λ m. told-place a.writing m a.units.now a.queue.now _ c.in-Queue.is c.queued_op.ensures

pub returns-in-Station : goal.returns-in-Station
unfolding op_at view_place
returns-in-Station c = let a = c.args in
    λ m. told-place a.writing m a.units.now a.queue.now _ c.in-Station.is c.station_op.ensures

pub returns-in-Stage : goal.returns-in-Stage
unfolding op_at view_place stage_op stage_ops oldest_in
returns-in-Stage c = let a = c.args in
    λ m. told-place a.writing m a.units.now a.queue.now _ c.in-Stage.is (c.stage_op.ensures m)

pub returns-in-Kind : goal.returns-in-Kind
returns-in-Kind c = let a = c.args in
    λ m.
    told-place a.writing m a.units.now a.queue.now _ c.in-Kind.is
    (shows-kind a.writing m a.units.now a.queue.now _ _ c.of_kind.ensures c.held.ensures)

pub returns-in-Offer : goal.returns-in-Offer
unfolding op_at view_place offered_op
returns-in-Offer c = let a = c.args in
    λ m. told-place a.writing m a.units.now a.queue.now _ c.in-Offer.is c.offered_op.ensures
