-- A start and a result settled, of an engine: where they are taken.
use Prim.Native.Nat.{ℕ}
use mathlib.Core.Path.{◌≡◌, ap, ◌∙◌}
use mathlib.Core.List.{List, []}
use Rattle.std.specs.Prelude.{Option, None, option_map}
use Rattle.model.specs.State.{State}
use Rattle.model.specs.Write.{offered_op, start_cycle}
use Rattle.model.specs.Views.{offer_view}
use Rattle.model.specs.Calls.{Call, start, offered, done, checks, refusal, run, reply}
use Rattle.registers.specs.View.{view_held}
use Rattle.checks.proofs.Passing.{row-passes}
use Rattle.board.specs.declared.Board.{Board}
use Rattle.board.specs.View.{view_board}
use Rattle.board.specs.Promises.{Stays, Starts}
use Rattle.engine.specs.Engine.{Engine, with_board}
use Rattle.engine.specs.declared.OfferView.{OfferView}
use Rattle.engine.specs.View.{frame_of, view_engine, view_offer}
use Rattle.engine.specs.Valid.{Valid}
use Rattle.engine.specs.Calls.{Does}
use Rattle.offering.specs.Answers.{Offers}
use Rattle.engine.proofs.Does.{does-taken}
use Rattle.engine.proofs.Boards.{started-parts, no_offer-outside, still-parts}

module _ {e : Engine} (v : Valid e) {b : Board} where
  pub does-start
      : refusal (view_engine e) start ≡ None → Starts e.board b start_cycle → (o : Option OfferView) → Offers b e.decoded o
      → Does e start (offered (option_map view_offer o)) (with_board b e)
  unfolding view_engine view_board refusal checks run reply offered_op
  does-start h s o f =
      does-taken v h
      (λ m. ap offered (f e.texts (view_held e.table)) ∙ ap (λ (x : State). offered (option_map offer_view (offered_op x))) (s.is (frame_of e)))
      (s.is (frame_of e)) (started-parts e b v.parts (no_offer-outside v (row-passes 4 [] h).0) s)

  -- A call that moves nothing and keeps the front.
  pub does-settle
      : {c : Call} {f : State → State} → refusal (view_engine e) c ≡ None → ((s : State) (m : List ℕ) → done ≡ reply s m c)
      → ((s : State) → f s ≡ run s c) → ((s : State) → (f s).front ≡ s.front) → Stays e.board b f
      → Does e c done (with_board b e)
  unfolding view_engine
  does-settle {f = f} h a t k s =
      let x = frame_of e in
      does-taken v h (a (view_engine e)) (s.is x ∙ t (view_engine e))
      (still-parts e b v.parts s.ok s.still (ap (λ (y : State). y.front) (s.is x) ∙ k (view_board x e.board)))
