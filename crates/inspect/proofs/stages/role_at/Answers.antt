-- Five, in order.
use mathlib.Core.Path.{sym, ap}
use native.Mathlib.Omega.{arith}
use Rattle.std.specs.Prelude.{slice_get}
use Rattle.laws.proofs.Slices.{nth_end}
use Rattle.model.specs.Views.{stage_roles}
use Rattle.inspect.proofs.stages.role_at.Goals as goal

pub returns-in-0 : goal.returns-in-0
unfolding stage_roles
returns-in-0 c = sym (ap (slice_get stage_roles) c.in-0.is)

pub returns-in-1 : goal.returns-in-1
unfolding stage_roles
returns-in-1 c = sym (ap (slice_get stage_roles) c.in-1.is)

pub returns-in-2 : goal.returns-in-2
unfolding stage_roles
returns-in-2 c = sym (ap (slice_get stage_roles) c.in-2.is)

pub returns-in-3 : goal.returns-in-3
unfolding stage_roles
returns-in-3 c = sym (ap (slice_get stage_roles) c.in-3.is)

pub returns-in-4 : goal.returns-in-4
unfolding stage_roles
returns-in-4 c = sym (ap (slice_get stage_roles) c.in-4.is)

pub returns-in_default : goal.returns-in_default
unfolding stage_roles
returns-in_default c = sym (nth_end stage_roles {i = c.args.index} (omega arith))
