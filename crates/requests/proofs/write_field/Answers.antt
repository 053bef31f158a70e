-- Of the operation that is there.
use Rattle.std.proofs.Common.{ap, sym, None}
use Rattle.laws.specs.Optional.{when_some}
use Rattle.model.specs.Op.{Op}
use Rattle.model.specs.Requests.{field}
use Rattle.registers.specs.View.{view_held}
use Rattle.flight.specs.Pool.{legend}
use Rattle.occupants.specs.View.{view_maybe_op}
use Rattle.words.proofs.Shown.{wrote-is, wrote_nothing}
use Rattle.requests.specs.View.{view_field}
use Rattle.requests.proofs.write_field.Goals as goal

pub returns-in-Some : goal.returns-in-Some
returns-in-Some c = let a = c.args in
    λ ds.
    wrote-is
    (sym (ap (λ m. when_some (view_maybe_op (legend ds a.texts.now (view_held a.table.now)) m) None (λ (o : Op). field o.info (view_field a.wanted))) c.in-Some.is))
    (c.write_op_field.ensures ds)

pub returns-in-None : goal.returns-in-None
returns-in-None c = let a = c.args in
    λ ds.
    wrote_nothing _ (ap (λ m. when_some (view_maybe_op (legend ds a.texts.now (view_held a.table.now)) m) None (λ (o : Op). field o.info (view_field a.wanted))) c.in-None.is)
