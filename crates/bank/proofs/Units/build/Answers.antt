use Rattle.std.proofs.Common.{arith}
use Rattle.config.specs.View.{view_spec}
use Rattle.config.proofs.Machines.{specs-end}
use Rattle.bank.proofs.Built.{building-next, building-last, kinds-length, kind-seen, kind-room}
use Rattle.bank.proofs.Units.build.Goals as goal

pub add_instances-requires-clause-n_bound : goal.add_instances-requires-clause-n_bound
add_instances-requires-clause-n_bound c = kind-room c.requires c.loop-spec.invariant _ c.loop-spec-test.true

pub loop-spec-preserved : goal.loop-spec-preserved
unfolding view_spec
loop-spec-preserved c = building-next c.loop-spec.invariant (kind-seen c.requires _ c.loop-spec-test.true) c.add_instances.ensures

pub returns : goal.returns
returns c = building-last c.loop-spec.invariant (specs-end c.args.machine.now (omega (arith, kinds-length c.requires)))
