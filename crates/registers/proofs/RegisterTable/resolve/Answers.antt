use Rattle.registers.proofs.Resolving.{all-found, no-reads, no-writes, all-numbered}
use Rattle.registers.proofs.RegisterTable.resolve.Goals as goal

pub returns-in-Some-Some : goal.returns-in-Some-Some
returns-in-Some-Some c = all-found _ c.requires.table_ok c.reads-reads.ensures c.writes-writes.ensures (c.in-Some-Some.ensures) (c.in-Some-Some.ensures')

pub returns-in_err-sources : goal.returns-in_err-sources
returns-in_err-sources c = rw c.from_residual.ensures (no-reads _ c.requires.table_ok c.reads-reads.ensures c.writes-writes.ensures (c.in_err-sources.ensures))

pub returns-in_err-destinations : goal.returns-in_err-destinations
returns-in_err-destinations c =
    rw c.from_residual-in_err-destinations.ensures (no-writes _ c.requires.table_ok c.reads-reads.ensures c.writes-writes.ensures (c.in_ok-sources.ensures) (c.in_err-destinations.ensures))

pub returns : goal.returns
returns c = all-numbered _ c.requires.table_ok c.reads-reads.ensures c.writes-writes.ensures (c.in_ok-sources.ensures) (c.in_ok-destinations.ensures)
