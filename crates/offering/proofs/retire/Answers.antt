use mathlib.Core.Path.{refl}
use Rattle.model.specs.Write.{retire as do_retire}
use Rattle.model.specs.Calls.{no_offer, checks, refusal, run, reply}
use Rattle.board.specs.View.{view_board}
use Rattle.engine.specs.View.{view_engine, answer_by}
use Rattle.std.proofs.Common.{rules}
use Rattle.engine.proofs.Does.{does-exit, passes}
use Rattle.offering.proofs.Results.{does-settle}
use Rattle.offering.proofs.retire.Goals as goal

pub returns-in_err-at : goal.returns-in_err-at
unfolding view_engine view_board refusal checks no_offer
returns-in_err-at c e v = does-exit v _ c.in_err-at.was c.retire.ensures.refusal (search rules)

pub returns : goal.returns
unfolding view_engine answer_by view_board refusal checks no_offer run reply do_retire
returns c e v =
    does-settle v (passes c.in_ok-at.was c.retire.ensures.refusal) (λ s m. refl) (λ s. refl) (λ s. refl) c.retire-2.ensures.does
