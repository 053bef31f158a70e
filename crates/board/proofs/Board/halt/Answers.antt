use Rattle.std.proofs.Common.{rules}
use Prim.Native.Nat.{ℕ, ◌≤◌}
use mathlib.Core.Path.{ap, ◌∙◌}
use mathlib.Core.Bool.{true, false}
use mathlib.Core.Logic.{⊎_elim}
use native.Mathlib.Omega.{arith}
use lib.ListN.{length, length-replicate}
use Rattle.laws.specs.Texts.{bytes}
use Rattle.laws.proofs.Tests.{lt-or-ge}
use Rattle.model.specs.State.{State, with_front, with_stopped}
use Rattle.model.specs.Write.{stopped, halt}
use Rattle.op.specs.declared.chars.Chars.{Chars}
use Rattle.op.specs.Chars.{shown, view_text}
use Rattle.op.proofs.Texts.{shown-long}
use Rattle.stalls.specs.View.{view_trace, view_traces, view_log}
use Rattle.board.specs.View.{view_board, boards}
use Rattle.board.specs.Promises.{queue_places}
use Rattle.board.proofs.Board.halt.Goals as goal

-- A text of so few bytes is not cut off.
short : (t : Chars 64) → length (view_text t) ≤ 64 → t.len ≤ 64
unfolding view_text
short t h = ⊎_elim (λ k. absurd (omega (arith, ap length (shown-long 64 t.len t.bytes k), length-replicate {A = ℕ} t.len 0))) (λ k. k) (lt-or-ge 64 t.len)

pub stop-requires : goal.stop-requires
unfolding shown
stop-requires c = record { board_ok = c.requires; len_bound = short c.from_slice.result (omega (arith, ap length c.from_slice.ensures)) }

pub returns : goal.returns
unfolding boards view_log view_traces view_trace stopped halt shown bytes queue_places
returns c = let e = c.stop.ensures in
    record {
      is =
          λ x. ap (λ (v : State). with_front (with_stopped true v.front.faulted v.front) v) (e.is x)
          ∙ ap (λ t. stopped true false t (view_board x c.args.self.now)) c.from_slice.ensures;
      ok = search rules;
      places = e.places;
      queue = e.queue;
      gone = e.gone;
      waits = e.waits;
      vacant = e.vacant;
      known = e.known;
    }
