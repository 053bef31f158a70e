use Rattle.std.proofs.Common.{ℕ, not, ap, ◌∙◌}
use lib.Dec.{eqb}
use Rattle.units.specs.Lent.{busy_count}
use Rattle.bank.proofs.Steps.{busy-any}
use Rattle.bank.proofs.Units.any_busy.Goals as goal

pub returns : goal.returns
returns c = λ g. ap (λ (n : ℕ). not (eqb n 0)) (c.busy_count.ensures ∙ ap busy_count c.as_slice.ensures) ∙ busy-any g _
