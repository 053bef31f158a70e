-- The kinds are those of the array.
use Rattle.std.proofs.Common.{rules, ◌≡◌, ◌∙◌, ◌+◌, ℕ, length, take, min, max}
use Rattle.std.proofs.iter.runs.Made.{chains}
use Rattle.std.specs.Prelude.{fold}
use Rattle.laws.specs.Numbers.{max64}
use Rattle.config.specs.declared.UnitSpec.{UnitSpec}
use Rattle.config.proofs.Shapes.{units_sum}
use Rattle.config.proofs.PipelineShape.units_total.Goals as goal

pub returns : goal.returns
returns c =
    let d = c.args.self.now in
    let size : length d.units ≡ 16 = search rules in
    let e : c.fold.result ≡ fold (λ (a : ℕ) (u : UnitSpec). min (a + max u.capacity 1) max64) 0 (take d.units_len d.units) = search (rules, chains) in
    e ∙ units_sum d size c.requires
