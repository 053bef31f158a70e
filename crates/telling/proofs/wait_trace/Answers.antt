use Rattle.std.proofs.Common.{◌≡◌, None, Some, arith, slice_get}
use Rattle.std.proofs.lemmas.Grind.{common_steps}
use Rattle.std.proofs.lemmas.Option.{gets}
use Rattle.bank.specs.View.{slots}
use Rattle.telling.proofs.Heard.{heard-busy, heard-idle, heard-past}
use Rattle.telling.proofs.wait_trace.Goals as goal
use Rattle.telling.proofs.wait_trace.Goals.{in_default-via-in-Some+else-producer, in_default-via-in_default}

pub returns-in-Some : goal.returns-in-Some
returns-in-Some c =
    let e : slice_get (slots c.args.units.now) c.first-wait.result.unit ≡ Some c.in-Some.producer.now = grind (arith, common_steps, gets) in
    heard-busy _ _ c.requires.unit_ok c.first-wait.ensures e c.if-producer.true

pub returns-in_default : goal.returns-in_default
returns-in_default c = elim c.in_default.branch [
  | in_default-via-in-Some+else-producer w ↦
      let e : slice_get (slots c.args.units.now) c.first-wait.result.unit ≡ Some w.in-Some.producer.now = grind (arith, common_steps, gets) in
      heard-idle _ _ c.requires.unit_ok c.first-wait.ensures e w.if-producer.false
  | in_default-via-in_default w ↦
      let e : slice_get (slots c.args.units.now) c.first-wait.result.unit ≡ None = grind (arith, common_steps, gets) in
      heard-past _ _ c.requires.unit_ok c.first-wait.ensures e
]
