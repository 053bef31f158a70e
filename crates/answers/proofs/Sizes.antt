-- The answer to a call fits its size; and a text behind the ten bytes that say whether it is there.
use Prim.Native.Nat.{ℕ, ◌+◌, ◌≤◌}
use mathlib.Core.Path.{◌≡◌, refl, ap, ◌∙◌}
use mathlib.Core.Bool.{Bool, true, false, cond}
use Rattle.std.specs.Prelude.{Option, None, Some, Ok, Err, option_map, slice_get}
use mathlib.Core.List.{List, [], ◌∷◌}
use native.Mathlib.Omega.{arith}
use borrow.Author.Tests.{ltb-false}
use lib.Dec.{ltb}
use lib.ListN.{length, take, drop, replicate, length-take, length-drop}
use Rattle.laws.specs.Optional.{when_some}
use Rattle.laws.specs.Texts.{Text}
use Rattle.model.specs.Timeline.{overlay, splice}
use Rattle.model.specs.State.{State}
use Rattle.model.specs.Scoreboard.{advance as do_advance}
use Rattle.model.specs.Write.{offered_op, start_cycle, resolve_branch}
use Rattle.model.specs.Views.{
  offer_view,
  edges as all_edges,
  stage_view,
  unit_view,
  trace_view,
  row_view,
  cell_view,
  cell_byte,
  station_view,
  claims,
  slot_view,
}
use Rattle.model.specs.Requests.{Request, text_at, short_for, buffer_with}
use Rattle.model.specs.Calls.{
  View,
  status,
  stats,
  enabled,
  fetch_pc,
  resume_pc,
  stage_count,
  edges,
  entry_stages,
  stage_order,
  unit_count,
  trace_count,
  timeline_len,
  station_count,
  rename_count,
  queue_count,
  buffer_count,
  buffer_capacity,
  in_flight_before,
  stage,
  unit,
  trace,
  timeline_row,
  station,
  rename,
  queued,
  buffer_entry,
  Call,
  start,
  retire,
  retry,
  resolve,
  advance,
  fetch,
  capacity,
  overlap,
  halt,
  fault,
  reset,
  redirect,
  view,
  cell,
  text,
  first_of,
  checks,
  refusal,
  Answer,
  refused,
  shown_text,
  show,
  invitation_of,
  reply,
  answer,
  buffer_after,
}
use Rattle.capability.specs.declared.Refusal.TheVariants.{ShortMemory}
use Rattle.traces.specs.Texts.{Written, written}
use Rattle.views.proofs.Shows.{entries_shown, order_shown}
use Rattle.answers.specs.Bytes.{
  laying,
  number_bytes,
  optional,
  offer_bytes,
  stage_bytes,
  kind_bytes,
  wait_bytes,
  row_bytes,
  cell_bytes,
  station_bytes,
  claim_bytes,
  slot_bytes,
  text_bytes,
}
use Rattle.answers.specs.Encode.{encode, written_bytes}
use Rattle.answers.specs.Size.{size_of_view, size, block}
use Rattle.answers.proofs.Lengths.{optional-most, slot-length, stage-length, kind-length, station-length}
use Rattle.answers.proofs.Memory.{splice-pad, splice-before, splice-own, splice-within}

-- ── Each answer in its size ─────────────────────────────────────────────────

show-fits : (s : State) (v : View) → length (encode (show s v)) ≤ size_of_view v
unfolding laying encode show size_of_view all_edges
show-fits s status = omega arith
show-fits s stats = omega arith
show-fits s enabled = omega arith
show-fits s fetch_pc = omega arith
show-fits s resume_pc = omega arith
show-fits s stage_count = omega arith
show-fits s edges = omega arith
show-fits s entry_stages = omega (arith, ap length entries_shown)
show-fits s stage_order = omega (arith, ap length order_shown)
show-fits s unit_count = omega arith
show-fits s trace_count = omega arith
show-fits s timeline_len = omega arith
show-fits s station_count = omega arith
show-fits s rename_count = omega arith
show-fits s queue_count = omega arith
show-fits s buffer_count = omega arith
show-fits s buffer_capacity = omega arith
show-fits s (in_flight_before n) = omega arith
show-fits s (stage i) = omega (arith, optional-most stage_bytes 18 stage-length (stage_view s i))
show-fits s (unit i) = omega (arith, optional-most kind_bytes 35 kind-length (unit_view s i))
show-fits s (trace i) = omega (arith, optional-most wait_bytes 3 (λ v. refl) (option_map trace_view (slice_get s.log.traces i)))
show-fits s (timeline_row i) = omega (arith, optional-most row_bytes 27 (λ v. refl) (option_map row_view (slice_get s.log.rows i)))
show-fits s (station i) = omega (arith, optional-most station_bytes 29 station-length (option_map (station_view i) (slice_get s.units i)))
show-fits s (rename i) = omega (arith, optional-most claim_bytes 2 (λ v. refl) (slice_get (claims s) i))
show-fits s (queued i) = omega (arith, optional-most slot_bytes 16 slot-length (option_map slot_view (slice_get s.queue i)))
show-fits s (buffer_entry i) = omega arith

-- A text that is not refused has room.
text-most : (room : ℕ) (x : Option Text) → first_of ((13, short_for room x) ∷ []) ≡ None → length (encode (shown_text x)) ≤ 10 + room
unfolding first_of short_for encode optional text_bytes number_bytes
text-most room None q = omega arith
text-most room (Some t) q = by-test (ltb room (length t)) refl q
  where
    by-test : (c : Bool) → ltb room (length t) ≡ c → cond {A = Option ℕ} c (Some 13) None ≡ None → length (encode (shown_text (Some t))) ≤ 10 + room
    by-test true e z = absurd (let w : ◌≡◌ {A = ℕ} 0 1 = cc in omega arith)
    by-test false e z = omega (arith, ltb-false room (length t) e)

reply-fits : (s : State) (m : List ℕ) (c : Call) → refusal s c ≡ None → length (encode (reply s m c)) ≤ size c
unfolding laying encode reply size refusal checks
reply-fits s m start q = omega (arith, optional-most offer_bytes 43 (λ v. refl) (option_map offer_view (offered_op (start_cycle s))))
reply-fits s m retire q = omega arith
reply-fits s m (retry reason) q = omega arith
reply-fits s m (resolve a) q = omega (arith, optional-most number_bytes 8 (λ v. refl) (resolve_branch (offered_op s) a))
reply-fits s m (advance r lent) q = omega (arith, optional-most number_bytes 8 (λ v. refl) (invitation_of (do_advance r s)))
reply-fits s m (fetch g lent) q = omega arith
reply-fits s m (capacity k n) q = omega arith
reply-fits s m (overlap b) q = omega arith
reply-fits s m halt q = omega arith
reply-fits s m (fault note) q = omega arith
reply-fits s m (reset a lent) q = omega arith
reply-fits s m (redirect a) q = omega arith
reply-fits s m (view v) q = show-fits s v
reply-fits s m (cell r c lent) q = omega (arith, optional-most cell_bytes 3 (λ v. refl) (option_map cell_view (cell_byte s m r c)))
reply-fits s m (text t room) q = text-most room (text_at s t) q

view-least : (v : View) → 1 ≤ size_of_view v
unfolding size_of_view
view-least status = omega arith
view-least stats = omega arith
view-least enabled = omega arith
view-least fetch_pc = omega arith
view-least resume_pc = omega arith
view-least stage_count = omega arith
view-least edges = omega arith
view-least entry_stages = omega arith
view-least stage_order = omega arith
view-least unit_count = omega arith
view-least trace_count = omega arith
view-least timeline_len = omega arith
view-least station_count = omega arith
view-least rename_count = omega arith
view-least queue_count = omega arith
view-least buffer_count = omega arith
view-least buffer_capacity = omega arith
view-least (in_flight_before n) = omega arith
view-least (stage i) = omega arith
view-least (unit i) = omega arith
view-least (trace i) = omega arith
view-least (timeline_row i) = omega arith
view-least (station i) = omega arith
view-least (rename i) = omega arith
view-least (queued i) = omega arith
view-least (buffer_entry i) = omega arith

-- A number for no.
pub refused-fits : (n : ℕ) (c : Call) → length (encode (refused n)) ≤ size c
unfolding encode size
refused-fits n start = omega arith
refused-fits n retire = omega arith
refused-fits n (retry reason) = omega arith
refused-fits n (resolve a) = omega arith
refused-fits n (advance r lent) = omega arith
refused-fits n (fetch g lent) = omega arith
refused-fits n (capacity k i) = omega arith
refused-fits n (overlap b) = omega arith
refused-fits n halt = omega arith
refused-fits n (fault note) = omega arith
refused-fits n (reset a lent) = omega arith
refused-fits n (redirect a) = omega arith
refused-fits n (view v) = view-least v
refused-fits n (cell r c lent) = omega arith
refused-fits n (text t room) = omega arith

pub answer-fits : (s : State) (m : List ℕ) (c : Call) → length (encode (answer s m c)) ≤ size c
unfolding answer
answer-fits s m c = by-refusal (refusal s c) refl
  where
    by-refusal : (o : Option ℕ) → refusal s c ≡ o → length (encode (when_some o (reply s m c) refused)) ≤ size c
    by-refusal None q = reply-fits s m c q
    by-refusal (Some n) q = refused-fits n c

-- ── Over bytes of 0 ─────────────────────────────────────────────────────────

-- An answer that fits its size, laid over as many bytes of 0.
pub block-laid : (c : Call) (a : Answer) (b : ℕ) (out : List ℕ) → length (encode a) ≤ size c
    → splice b (encode a) (splice b (replicate (size c) 0) out) ≡ splice b (block c a) out
unfolding block
block-laid c a b out h = splice-pad b (size c) (encode a) out h

-- ── A text behind its ten bytes ─────────────────────────────────────────────

module _ (b room : ℕ) (out : List ℕ) where
  -- The room of the text, before it is written.
  abbrev pub area : List ℕ
  area = take room (drop (b + 10) out)

  told-by : (t : Text) (c : Bool) → ltb room (length t) ≡ c
      → splice b (written_bytes (cond c (Err ShortMemory) (Ok (Some (length t)))))
      (splice (b + 10) (when_some (cond c (Some 13) None) (overlay t area) (λ (n : ℕ). area)) out)
      ≡ splice b (encode (when_some (cond c (Some 13) None) (shown_text (Some t)) refused)) out
  unfolding written_bytes encode optional text_bytes number_bytes
  told-by t true e = ap (splice b (13 ∷ [])) (splice-own (b + 10) room out)
  told-by t false e =
      let h : List ℕ = 0 ∷ 1 ∷ number_bytes (length t) in
      ap (splice b h) (splice-within (b + 10) room t out (ltb-false room (length t) e)) ∙ splice-before b h t out

  told : (x : Option Text)
      → splice b (written_bytes (written room x))
      (splice (b + 10) (when_some (first_of ((13, short_for room x) ∷ [])) (buffer_with x area) (λ (n : ℕ). area)) out)
      ≡ splice b (encode (when_some (first_of ((13, short_for room x) ∷ [])) (shown_text x) refused)) out
  unfolding written_bytes encode optional written first_of short_for buffer_with overlay
  told None = ap (splice b (0 ∷ 0 ∷ [])) (splice-own (b + 10) room out)
  told (Some t) = told-by t (ltb room (length t)) refl

  -- The text was written to its room, and then the ten bytes before it: out is what stood there before both.
  pub text-told : (s : State) (m : List ℕ) (t : Request) {w : Written} → b + (10 + room) ≤ length out → w ≡ written (length area) (text_at s t)
      → splice b (written_bytes w) (splice (b + 10) (buffer_after s t area) out) ≡ splice b (encode (answer s m (text t room))) out
  unfolding answer refusal checks reply buffer_after
  text-told s m t {w} h e =
      let size : length area ≡ room = simp (length-take, length-drop) (omega arith) in
      rw (e, size) (told (text_at s t))
