-- The first two sources of a unit that is there, by their names.
use Rattle.std.proofs.Common.{◌≡◌, ap, ◌∙◌, map, option_map, arith}
use Rattle.std.proofs.lemmas.Grind.{common_steps}
use Rattle.std.proofs.lemmas.Option.{gets}
use Rattle.std.specs.Prelude.{slice_get}
use Rattle.model.specs.Registers.{name_of}
use Rattle.registers.specs.View.{view_held}
use Rattle.bank.specs.View.{view_units, slots}
use Rattle.units.specs.View.{UnitOk}
use Rattle.occupants.proofs.Seen.{All-got, slots-ok}
use Rattle.words.proofs.Shown.{wrote-is, wrote_nothing}
use Rattle.requests.proofs.Known.{operand-there, operand-none, operand-past}
use Rattle.requests.proofs.named.write_operand.Goals as goal

pub returns-then-slot-ge2 : goal.returns-then-slot-ge2
returns-then-slot-ge2 c = λ g n a. wrote_nothing _ (operand-past (view_held c.args.table.now) n c.args.slot (slice_get (view_units g c.args.units.now) c.args.station) c.if-slot-ge2.true)

pub returns-in_default : goal.returns-in_default
returns-in_default c = λ g n a.
    let m : option_map (λ x. x.now) c.get.result ≡ slice_get (slots c.args.units.now) c.args.station = grind (arith, common_steps, gets) in
    wrote_nothing _ (operand-none c.args.units.now c.args.station m g c.in_default.is (view_held c.args.table.now) n c.args.slot)

pub reads-requires : goal.reads-requires
reads-requires c =
    let m : option_map (λ x. x.now) c.get.result ≡ slice_get (slots c.args.units.now) c.args.station = grind (arith, common_steps, gets) in
    (All-got c.args.units.now c.args.station c.get.result m UnitOk (slots-ok c.requires.units_ok) c.in-Some.u c.in-Some.is).operands

pub returns : goal.returns
returns c = λ g n a.
    let m : option_map (λ x. x.now) c.get.result ≡ slice_get (slots c.args.units.now) c.args.station = grind (arith, common_steps, gets) in
    wrote-is
    (ap (λ l. slice_get (map (name_of (view_held c.args.table.now)) l) c.args.slot) c.reads.ensures
    ∙ operand-there c.args.units.now c.args.station m g c.in-Some.u c.in-Some.is (view_held c.args.table.now) n c.args.slot a c.if-slot-ge2.false)
    c.write_nth.ensures
