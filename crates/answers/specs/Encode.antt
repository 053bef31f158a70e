-- An answer as bytes: the number that the call was refused with, or 0 and what was answered.
use Rattle.std.specs.Prelude.{List, [], ◌∷◌, ℕ, ◌+◌, Option, Some, None, Result, Ok, Err}
use Rattle.std.specs.List.{flat_map}
use Rattle.model.specs.Calls.{
  Answer,
  refused,
  done,
  offered,
  resolved,
  invitation,
  shown_status,
  shown_stats,
  shown_flag,
  shown_number,
  shown_stages,
  shown_edges,
  shown_stage,
  shown_unit,
  shown_trace,
  shown_row,
  shown_cell,
  shown_station,
  shown_rename,
  shown_slot,
  shown_text,
}
use Rattle.capability.specs.declared.Refusal.{Refusal}
use Rattle.capability.specs.Refusals.{refusal_number}
use Rattle.traces.specs.Texts.{Written}
use Rattle.answers.specs.Bytes.{
  number_bytes,
  flag_byte,
  optional,
  optional_length,
  offer_bytes,
  status_bytes,
  stats_bytes,
  edge_bytes,
  slot_bytes,
  stage_bytes,
  kind_bytes,
  wait_bytes,
  row_bytes,
  cell_bytes,
  station_bytes,
  claim_bytes,
  text_bytes,
}

unfoldable pub encode : Answer → List ℕ
encode (refused n) = n ∷ []
encode done = 0 ∷ []
encode (offered o) = 0 ∷ optional offer_bytes o
encode (resolved o) = 0 ∷ optional number_bytes o
encode (invitation o) = 0 ∷ optional number_bytes o
encode (shown_status v) = 0 ∷ status_bytes v
encode (shown_stats v) = 0 ∷ stats_bytes v
encode (shown_flag b) = 0 ∷ flag_byte b ∷ []
encode (shown_number n) = 0 ∷ number_bytes n
encode (shown_stages l) = 0 ∷ l
encode (shown_edges l) = 0 ∷ flat_map edge_bytes l
encode (shown_stage o) = 0 ∷ optional stage_bytes o
encode (shown_unit o) = 0 ∷ optional kind_bytes o
encode (shown_trace o) = 0 ∷ optional wait_bytes o
encode (shown_row o) = 0 ∷ optional row_bytes o
encode (shown_cell o) = 0 ∷ optional cell_bytes o
encode (shown_station o) = 0 ∷ optional station_bytes o
encode (shown_rename o) = 0 ∷ optional claim_bytes o
encode (shown_slot o) = 0 ∷ optional slot_bytes o
encode (shown_text o) = 0 ∷ optional text_bytes o

-- What a call that asks for something answers, by the bytes of what it asks for.
unfoldable pub answer_bytes : {A : Type 0} → (A → List ℕ) → Result (Option A) Refusal → List ℕ
answer_bytes f (Ok o) = 0 ∷ optional f o
answer_bytes f (Err r) = refusal_number r ∷ []

-- How many bytes these are, where what is asked for takes n.
unfoldable pub answer_length : {A : Type 0} → ℕ → Result (Option A) Refusal → ℕ
answer_length n (Ok o) = 1 + optional_length n o
answer_length n (Err r) = 1

-- What stands before a text that was written behind it.
unfoldable pub written_bytes : Written → List ℕ
written_bytes (Ok (Some n)) = 0 ∷ 1 ∷ number_bytes n
written_bytes (Ok None) = 0 ∷ 0 ∷ []
written_bytes (Err r) = refusal_number r ∷ []

-- All of these unfold where a line says `unfolding encoding`.
unfoldable pub encoding : Unit {0}
unfolding encode answer_bytes answer_length written_bytes
encoding = tt
