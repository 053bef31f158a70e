use Rattle.std.proofs.Common.{ℕ, ◌∙◌, ap}
use Rattle.std.specs.List.{list_any}
use lib.Dec.{eqb}
use Rattle.units.proofs.Pending.{waits_any}
use Rattle.units.proofs.waits.waits_for.Goals as goal

pub returns : goal.returns
returns c = c.owes.ensures ∙ waits_any _ _ ∙ ap (list_any (λ (p : ℕ × ℕ). eqb p.0 c.args.register)) c.as_slice.ensures.waits
