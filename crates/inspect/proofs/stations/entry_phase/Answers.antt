-- Free, or by its phase and what it waits for.
use mathlib.Core.Path.{refl}
use native.Mathlib.Omega.{arith}
use Rattle.model.specs.Views.{entry_phase}
use Rattle.inspect.proofs.Station.{phase-is, waits-empty, waits-some}
use Rattle.inspect.proofs.stations.entry_phase.Goals as goal

pub returns-then-not-u : goal.returns-then-not-u
unfolding entry_phase
returns-then-not-u c = phase-is c.if-not-u.true refl refl

pub returns-in-Wait : goal.returns-in-Wait
unfolding entry_phase
returns-in-Wait c = phase-is c.if-not-u.false c.in-Wait.is (waits-some c.requires.pending (omega arith))

pub returns-in-Wait-2 : goal.returns-in-Wait-2
unfolding entry_phase
returns-in-Wait-2 c = phase-is c.if-not-u.false c.in-Wait-2.is (waits-empty c.requires.pending (omega arith))

pub returns-in-Read : goal.returns-in-Read
unfolding entry_phase
returns-in-Read c = phase-is c.if-not-u.false c.in-Read.is refl

pub returns-in-Execute : goal.returns-in-Execute
unfolding entry_phase
returns-in-Execute c = phase-is c.if-not-u.false c.in-Execute.is refl

pub returns-in-Write : goal.returns-in-Write
unfolding entry_phase
returns-in-Write c = phase-is c.if-not-u.false c.in-Write.is refl
