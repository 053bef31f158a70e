-- What a call shows or asks for is there, or it is not.
use Rattle.std.specs.Prelude.{◌≡◌, ℕ, List, [], ◌∷◌, Option, Some, None, option_map, refl}
use Rattle.model.specs.Calls.{Answer, offered, resolved, invitation, shown_slot, shown_stage, shown_unit, shown_station, shown_trace, shown_cell, shown_rename}
use Rattle.registers.specs.View.{view_owed}
use Rattle.occupants.specs.View.{view_slot}
use Rattle.inspect.specs.View.{view_stage, view_kind, view_trace, view_station}
use Rattle.timeline.specs.View.{view_row, row_answer}
use Rattle.timeline.specs.Cells.{view_cell}
use Rattle.engine.specs.View.{view_offer}
use Rattle.answers.specs.Bytes.{number_bytes, optional, offer_bytes, slot_bytes, stage_bytes, kind_bytes, station_bytes, wait_bytes, row_bytes, cell_bytes, claim_bytes}
use Rattle.answers.specs.Encode.{encode}

pub record ShownLaws {A : Type 0} (bytes : A → List ℕ) (shown : Option A → Answer) : Type 0 where
  pub none : encode (shown None) ≡ 0 ∷ 0 ∷ []
  pub some : (a : A) → encode (shown (Some a)) ≡ 0 ∷ 1 ∷ bytes a

pub slot_shown : ShownLaws (λ v. slot_bytes (view_slot v)) (λ o. shown_slot (option_map view_slot o))
unfolding encode optional
slot_shown = record { none = refl; some = λ v. refl }

pub stage_shown : ShownLaws (λ v. stage_bytes (view_stage v)) (λ o. shown_stage (option_map view_stage o))
unfolding encode optional
stage_shown = record { none = refl; some = λ v. refl }

pub kind_shown : ShownLaws (λ v. kind_bytes (view_kind v)) (λ o. shown_unit (option_map view_kind o))
unfolding encode optional
kind_shown = record { none = refl; some = λ v. refl }

pub station_shown : ShownLaws (λ v. station_bytes (view_station v)) (λ o. shown_station (option_map view_station o))
unfolding encode optional
station_shown = record { none = refl; some = λ v. refl }

pub wait_shown : ShownLaws (λ v. wait_bytes (view_trace v)) (λ o. shown_trace (option_map view_trace o))
unfolding encode optional
wait_shown = record { none = refl; some = λ v. refl }

pub row_shown : ShownLaws (λ v. row_bytes (view_row v)) row_answer
unfolding encode optional row_answer
row_shown = record { none = refl; some = λ v. refl }

pub cell_shown : ShownLaws (λ v. cell_bytes (view_cell v)) (λ o. shown_cell (option_map view_cell o))
unfolding encode optional
cell_shown = record { none = refl; some = λ v. refl }

pub claim_shown : ShownLaws (λ o. claim_bytes (view_owed o)) (λ o. shown_rename (option_map view_owed o))
unfolding encode optional
claim_shown = record { none = refl; some = λ v. refl }

pub offer_shown : ShownLaws (λ v. offer_bytes (view_offer v)) (λ o. offered (option_map view_offer o))
unfolding encode optional
offer_shown = record { none = refl; some = λ v. refl }

-- Where to redirect to.
pub target_shown : ShownLaws number_bytes resolved
unfolding encode optional
target_shown = record { none = refl; some = λ a. refl }

-- The address to fetch from.
pub invitation_shown : ShownLaws number_bytes invitation
unfolding encode optional
invitation_shown = record { none = refl; some = λ a. refl }
