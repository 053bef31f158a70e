-- What the engine means to the model, and what its answers are.
use Rattle.std.specs.Prelude.{ℕ, Option, option_map, Result, Ok, Err}
use Rattle.capability.specs.declared.Refusal.{Refusal}
use Rattle.capability.specs.Refusals.{refusal_number}
use Rattle.model.specs.State.{State}
use Rattle.model.specs.Views.{OfferView as ModelOffer}
use Rattle.model.specs.Calls.{Answer as ModelAnswer, refused, done, offered, resolved, invitation}
use Rattle.config.specs.View.{view_machine}
use Rattle.registers.specs.View.{view_held}
use Rattle.timeline.specs.View.{view_rows}
use Rattle.flight.specs.View.{Legend}
use Rattle.flight.specs.Pool.{legend}
use Rattle.board.specs.View.{Frame, view_board}
use Rattle.engine.specs.Engine.{Engine}
use Rattle.engine.specs.declared.OfferView.{OfferView}

-- What the board's numbers stand for: the pool by place, the names held by register.
abbrev pub legend_of : Engine → Legend
legend_of e = legend e.decoded e.texts (view_held e.table)

abbrev pub frame_of : Engine → Frame
frame_of e =
    record {
      legend = legend_of e;
      machine = view_machine e.machine;
      rows = view_rows e.window e.tracks e.rows;
      next = e.window.next;
    }

unfoldable pub view_engine : Engine → State
view_engine e = view_board (frame_of e) e.board

unfoldable pub view_offer : OfferView → ModelOffer
view_offer v =
    record {
      seq = v.seq;
      address = v.address;
      size = v.length;
      class = v.class;
      branch = v.branch;
      atomic = v.atomic;
      predicted_next = v.predicted_next;
      payload = v.payload;
    }

-- ── What calls answer ───────────────────────────────────────────────────────

-- What was asked for, or a refusal by its number.
unfoldable pub answer_by : {A : Type 0} → (A → ModelAnswer) → Result A Refusal → ModelAnswer
answer_by f (Ok a) = f a
answer_by f (Err r) = refused (refusal_number r)

abbrev pub done_answer : {A : Type 0} → Result A Refusal → ModelAnswer
done_answer r = answer_by (λ a. done) r

abbrev pub offer_answer : Result (Option OfferView) Refusal → ModelAnswer
offer_answer r = answer_by (λ (o : Option OfferView). offered (option_map view_offer o)) r

-- Where to redirect to.
abbrev pub target_answer : Result (Option ℕ) Refusal → ModelAnswer
target_answer r = answer_by resolved r

-- The address to fetch from.
abbrev pub invitation_answer : Result (Option ℕ) Refusal → ModelAnswer
invitation_answer r = answer_by invitation r

-- All of these unfold where a line says `unfolding shown`.
unfoldable pub shown : Unit {0}
unfolding view_engine view_offer answer_by
shown = tt
