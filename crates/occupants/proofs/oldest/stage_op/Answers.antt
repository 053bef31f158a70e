-- The front of the queue, or the oldest in the phase of the stage.
use native.Mathlib.Omega.{arith}
use Rattle.capability.specs.declared.Phase.TheVariants.{Wait, Read, Execute, Write}
use Rattle.occupants.proofs.Stages.{shows-wait, shows-read, shows-execute, shows-write, stage-front, stage-held, stage-past}
use Rattle.occupants.proofs.oldest.stage_op.Goals as goal

pub returns-in-0 : goal.returns-in-0
returns-in-0 c = let s = c.args in
    λ m. stage-front m s.units.now s.queue.now s.index c.in-0.is c.queued_op.ensures

pub returns-in-1 : goal.returns-in-1
returns-in-1 c = let s = c.args in
    λ m.
    stage-held m s.units.now s.queue.now s.index Wait (shows-wait c.in-1.is)
    c.in_phase.ensures c.held.ensures

pub returns-in-2 : goal.returns-in-2
returns-in-2 c = let s = c.args in
    λ m.
    stage-held m s.units.now s.queue.now s.index Read (shows-read c.in-2.is)
    c.in_phase-in-2.ensures c.held-in-2.ensures

pub returns-in-3 : goal.returns-in-3
returns-in-3 c = let s = c.args in
    λ m.
    stage-held m s.units.now s.queue.now s.index Execute (shows-execute c.in-3.is)
    c.in_phase-in-3.ensures c.held-in-3.ensures

pub returns-in-4 : goal.returns-in-4
returns-in-4 c = let s = c.args in
    λ m.
    stage-held m s.units.now s.queue.now s.index Write (shows-write c.in-4.is)
    c.in_phase-in-4.ensures c.held-in-4.ensures

pub returns-in_default : goal.returns-in_default
returns-in_default c = let s = c.args in
    λ m. stage-past m s.units.now s.queue.now s.index (omega arith)
