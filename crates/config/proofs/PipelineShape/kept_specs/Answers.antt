-- The loop fills an array of generic kinds with the declared ones.
use Rattle.std.proofs.Common.{rules, ◌≡◌, ap, ◌∙◌, arith, length}
use Rattle.laws.proofs.Slices.{All-replicate}
use Rattle.model.specs.Config.{at_least_one}
use Rattle.config.specs.Kept.{SpecOk}
use Rattle.config.proofs.Units.{generic-ok, generic-kept}
use Rattle.config.proofs.Shapes.{spare-unit, units_few, unit_ok, specs-kept}
use Rattle.config.proofs.Keeping.{filled-first, filled_next, filled-last}
use Rattle.config.proofs.PipelineShape.kept_specs.Goals as goal

pub kept-specs-requires : goal.kept-specs-requires
kept-specs-requires c = rw c.generic.ensures generic-ok

pub loop-i-init : goal.loop-i-init
loop-i-init c =
    let e : length c.args.self.now.units ≡ 16 = search rules in
    let few = units_few _ c.requires in
    (e, filled-first (omega arith) few (All-replicate SpecOk 16 _ c.kept-specs.ensures.ok))

pub kept-requires : goal.kept-requires
kept-requires c = unit_ok c.args.self.now c.loop-i.invariant.0 c.requires c.loop-i-test.true

pub loop-i-preserved : goal.loop-i-preserved
loop-i-preserved c =
    let v = c.loop-i.invariant in
    let few = units_few _ c.requires in
    (v.0, filled_next v.1 spare-unit (omega arith) c.loop-i-test.true c.kept.ensures)

pub returns : goal.returns
returns c =
    let v = c.loop-i.invariant in
    let g = c.kept-specs.ensures.is ∙ ap at_least_one c.generic.ensures ∙ generic-kept in
    record {
      is = specs-kept c.args.self.now c.kept-specs.result _ v.0 (units_few _ c.requires) g (filled-last v.1 c.loop-i-test.false);
      ok = record { size = v.1.array.size; each = v.1.array.each };
    }
