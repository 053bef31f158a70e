use Rattle.std.proofs.Common.{arith}
use Rattle.writing.proofs.Trying.{away-few, away-ok}
use Rattle.blocking.proofs.Turned.{blocked-told, blocked-end}
use Rattle.blocking.proofs.list_blocked.Goals as goal

pub blocked_trace-requires : goal.blocked_trace-requires
blocked_trace-requires c =
    record { units_ok = c.requires.units_ok; turned_ok = away-ok c.requires.tried_ok c.as_slice-turned-items.ensures _ c.loop-turned-test.true }

pub stall-requires-clause-len_bound : goal.stall-requires-clause-len_bound
stall-requires-clause-len_bound c =
    omega (
      arith,
      away-few c.requires.tried_ok c.as_slice-turned-items.ensures,
      c.loop-turned-test.true,
      c.loop-turned.invariant.few,
      c.requires.len_bound,
    )

pub loop-turned-preserved : goal.loop-turned-preserved
loop-turned-preserved c =
    blocked-told c.requires.tried_ok c.as_slice-turned-items.ensures c.loop-turned.invariant _ c.loop-turned-test.true c.blocked_trace.ensures c.stall.ensures

pub returns : goal.returns
returns c = blocked-end c.requires.tried_ok c.as_slice-turned-items.ensures c.loop-turned.invariant c.loop-turned-test.false
