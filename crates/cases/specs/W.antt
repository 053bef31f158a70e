-- Case W: EX of capacity 3, depth 2, overlap on, mul extra 2, others 0; a multiply writes x2; b alu reads x2, x1; c alu writes x1.
use Rattle.std.specs.Prelude.{ℕ, zero, suc, true, List, [], ◌∷◌, ◌++◌, replicate, None}
use Rattle.laws.specs.Optional.{when_some}
use Rattle.laws.specs.Texts.{bytes}
use Rattle.capability.specs.declared.PipelineInstructionClass.TheVariants.{Alu}
use Rattle.capability.specs.declared.PipelineStageRole.TheVariants as role
use Rattle.model.specs.Config.{timing, unit_spec, pipeline_shape}
use Rattle.model.specs.Op.{Op}
use Rattle.model.specs.State.{State, new}
use Rattle.model.specs.Write.{offered_op}
use Rattle.model.specs.Calls.{start, overlap, after}
use Rattle.model.specs.Forecast.{lent_of, Run, not_made, line_refused, finished, going, turn, forecast_run}
use Rattle.cases.specs.Table.{engine_of}

unfoldable pub w_machine : State
w_machine =
    after
    (new (pipeline_shape (role.Fetch ∷ role.Decode ∷ role.Execute ∷ []) None (timing 0 2 0 0 0 0 0) (unit_spec (bytes "EX") [] Alu 3 ∷ []) 4) 0)
    (overlap true)

-- Driven as `forecast` drives its machine: a is operation 0, b 1, c 2.
unfoldable pub w_run : Run
w_run = going (lent_of w_machine (replicate 800 255)) (bytes "M 4 - x2 a\nA 4 x2,x1 - b\nA 4 - x1 c\n") 0

-- What a start offered: the cycle, and the operation's number.
unfoldable pub offer_at : State → List (ℕ × ℕ)
offer_at s = when_some (offered_op s) [] (λ (o : Op). (s.log.stats.cycles, o.core.seq) ∷ [])

-- The offers of so many turns.
unfoldable pub offers : ℕ → Run → List (ℕ × ℕ)
offers zero r = []
offers (suc n) (not_made r m) = []
offers (suc n) (line_refused k r m) = []
offers (suc n) (finished e) = []
offers (suc n) (going e input k) = offer_at (after e.engine start) ++ offers n (turn e input k)

-- RAW and WAR stalls of the whole run.
unfoldable pub w_stalls : List ℕ
w_stalls = when_some (engine_of (forecast_run 20 w_run)) [] (λ (s : State). s.log.stats.raw_stalls ∷ s.log.stats.war_stalls ∷ [])

-- All of these unfold where a line says `unfolding w`.
unfoldable pub w : Unit {0}
unfolding w_machine w_run offer_at offers w_stalls
w = tt
