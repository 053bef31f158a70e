use mathlib.Core.Path.{refl}
use Rattle.model.specs.Write.{retry as do_retry}
use Rattle.model.specs.Calls.{no_offer, checks, refusal, run, reply}
use Rattle.board.specs.View.{view_board}
use Rattle.checks.proofs.Passing.{row-passes}
use Rattle.engine.specs.View.{view_engine, answer_by}
use Rattle.std.proofs.Common.{rules}
use Rattle.engine.proofs.Does.{does-exit, passes}
use Rattle.engine.proofs.Fits.{short-text}
use Rattle.offering.proofs.Results.{does-settle}
use Rattle.offering.proofs.retry.Goals as goal

pub returns-in_err-at : goal.returns-in_err-at
unfolding view_engine view_board refusal checks no_offer
returns-in_err-at c e v = does-exit v _ c.in_err-at.was c.retry.ensures.refusal (search rules)

pub retry-requires-2-clause-len_bound : goal.retry-requires-2-clause-len_bound
retry-requires-2-clause-len_bound c =
    short-text c.args.reason (row-passes 2 _ (row-passes 6 _ (row-passes 5 _ (passes c.in_ok-at.was c.retry.ensures.refusal)).1).1).0

pub returns : goal.returns
unfolding view_engine answer_by view_board refusal checks no_offer run reply do_retry
returns c e v =
    does-settle v (passes c.in_ok-at.was c.retry.ensures.refusal) (λ s m. refl) (λ s. refl) (λ s. refl) c.retry-2.ensures
