-- Each call is read back, by cases.
use Prim.Native.Nat.{ℕ, ◌+◌, ◌-◌, ◌≤◌, ◌<◌}
use native.Mathlib.Omega.{arith}
use mathlib.Core.Path.{◌≡◌, refl, ap, ap₂, ◌∙◌}
use mathlib.Core.Bool.{true, ◌&&◌}
use mathlib.Core.List.{List, [], ◌∷◌}
use lib.Dec.{leb}
use lib.ListN.{get_or}
use Rattle.laws.specs.Lists.{All}
use Rattle.laws.specs.Texts.{Text}
use Rattle.laws.proofs.Tests.{and_yes}
use Rattle.model.specs.Requests.{Place, in_queue, in_station, in_stage, in_unit, on_offer, Field, disassembly, destination, fault as fault_note, source, write, Request, status_message, slot_text, trace_detail, row_disassembly, stage_name, unit_name, station_label, rename_register, cell_label, operand_register}
use Rattle.model.specs.Calls.{View, status, stats, enabled, fetch_pc, resume_pc, stage_count, edges, entry_stages, stage_order, unit_count, trace_count, timeline_len, station_count, rename_count, queue_count, buffer_count, buffer_capacity, in_flight_before, stage, unit, trace, timeline_row, station, rename, queued, buffer_entry, Call, start, retire, retry, resolve, advance, fetch, capacity, overlap, halt, fault, reset, redirect, view, cell, text}
use Rattle.decoding.specs.Bytes.{number_at, text_at, below}
use Rattle.decoding.specs.Calls.{place_at, field_at, room_at, text_call, parts_formed}
use Rattle.encoding.specs.Parts.{byte, number_bytes}
use Rattle.encoding.specs.Records.{text_of}
use Rattle.encoding.specs.Calls.{numbered, view_part, place_part, field_part, part_bytes, request_parts, call_parts}
use Rattle.encoding.specs.Limits.{Number, Short, WithinView, WithinPlace, WithinField, WithinRequest, WithinCall}
use Rattle.encoding.proofs.Stands.{Stands, stands-next, forms-end, forms-next, Codes, after, next}
use Rattle.encoding.proofs.Parts.{codes-number, codes-count, codes-flag, codes-optional, flag-formed, optional-formed}
use Rattle.encoding.proofs.Operation.{codes-64, codes-op, op-is-formed}
use Rattle.encoding.proofs.Groups.{CallRead, size_of, call-of, request-of, reading, reading-text, reading-numbers, reading-asked, codes-part, part-formed}

-- ---- an index, an index and room, a text

module _ {l : List ℕ} {at tag : ℕ} where
  indexed : (v : ℕ → View) (i : ℕ) → All Number (i ∷ []) → Stands (numbered tag (i ∷ [])) l at → size_of tag ≡ 9
      → call-of tag l at ≡ view (v (number_at l (at + 1)))
      → parts_formed tag l at ≡ true
      → CallRead (numbered tag (i ∷ [])) (view (v i)) l at
  indexed v i w s z e h = reading-numbers (i ∷ []) w s z (λ r. e ∙ ap (λ j. view (v j)) r.0) h

  asked : (q : ℕ → Request) (i room : ℕ) → Number i → room ≤ 65535 → Stands (numbered tag (i ∷ room ∷ [])) l at → size_of tag ≡ 17
      → call-of tag l at ≡ text_call l at
      → parts_formed tag l at ≡ (leb (room_at l at) 65535 && true)
      → request-of tag l at ≡ q (number_at l (at + 1))
      → CallRead (numbered tag (i ∷ room ∷ [])) (text (q i) room) l at
  asked q i room w h s z c p e =
      reading-asked (i ∷ room ∷ []) (w, (omega arith, tt)) s z c p
      (λ r. (e ∙ ap q r.0, ap (λ n. number_at l (at + (n - 8))) z ∙ r.1.0)) h

  with-text : (c : Text → Call) (t : Text) → Short 64 t → Stands (byte tag ∷ text_of t ∷ []) l at → size_of tag ≡ 66
      → call-of tag l at ≡ c (text_at 64 l (at + 1))
      → parts_formed tag l at ≡ true
      → CallRead (byte tag ∷ text_of t ∷ []) (c t) l at
  with-text c t w s z e h =
      reading s (forms-next (codes-64 t w).form forms-end) z (e ∙ ap c ((codes-64 t w).reads (stands-next s refl))) h

-- ---- views

module _ {l : List ℕ} {at : ℕ} where
  view-read : (v : View) → WithinView v → Stands (numbered (view_part v).0 (view_part v).1) l at
      → CallRead (numbered (view_part v).0 (view_part v).1) (view v) l at
  unfolding view_part parts_formed
  view-read status w s = reading-numbers [] tt s refl (λ r. refl) refl
  view-read stats w s = reading-numbers [] tt s refl (λ r. refl) refl
  view-read enabled w s = reading-numbers [] tt s refl (λ r. refl) refl
  view-read fetch_pc w s = reading-numbers [] tt s refl (λ r. refl) refl
  view-read resume_pc w s = reading-numbers [] tt s refl (λ r. refl) refl
  view-read stage_count w s = reading-numbers [] tt s refl (λ r. refl) refl
  view-read edges w s = reading-numbers [] tt s refl (λ r. refl) refl
  view-read entry_stages w s = reading-numbers [] tt s refl (λ r. refl) refl
  view-read stage_order w s = reading-numbers [] tt s refl (λ r. refl) refl
  view-read unit_count w s = reading-numbers [] tt s refl (λ r. refl) refl
  view-read trace_count w s = reading-numbers [] tt s refl (λ r. refl) refl
  view-read timeline_len w s = reading-numbers [] tt s refl (λ r. refl) refl
  view-read station_count w s = reading-numbers [] tt s refl (λ r. refl) refl
  view-read rename_count w s = reading-numbers [] tt s refl (λ r. refl) refl
  view-read queue_count w s = reading-numbers [] tt s refl (λ r. refl) refl
  view-read buffer_count w s = reading-numbers [] tt s refl (λ r. refl) refl
  view-read buffer_capacity w s = reading-numbers [] tt s refl (λ r. refl) refl
  view-read (in_flight_before i) w s = indexed in_flight_before i w s refl refl refl
  view-read (stage i) w s = indexed stage i w s refl refl refl
  view-read (unit i) w s = indexed unit i w s refl refl refl
  view-read (trace i) w s = indexed trace i w s refl refl refl
  view-read (timeline_row i) w s = indexed timeline_row i w s refl refl refl
  view-read (station i) w s = indexed station i w s refl refl refl
  view-read (rename i) w s = indexed rename i w s refl refl refl
  view-read (queued i) w s = indexed queued i w s refl refl refl
  view-read (buffer_entry i) w s = indexed buffer_entry i w s refl refl refl

-- ---- texts

place-below : (p : Place) → (place_part p).0 < 5
unfolding place_part
place-below (in_queue i) = omega arith
place-below (in_station i) = omega arith
place-below (in_stage i) = omega arith
place-below (in_unit i) = omega arith
place-below on_offer = omega arith

codes-place : (p : Place) → WithinPlace p → Codes (λ x. part_bytes (place_part x)) place_at 9 p
unfolding place_at place_part
codes-place p w = codes-part place_part (λ b i. get_or (in_queue ∷ in_station ∷ in_stage ∷ in_unit ∷ []) b (λ (j : ℕ). on_offer) i) (place-below p) w (back p)
  where
    back : (q : Place) → get_or (in_queue ∷ in_station ∷ in_stage ∷ in_unit ∷ []) (place_part q).0 (λ (j : ℕ). on_offer) (place_part q).1 ≡ q
    back (in_queue i) = refl
    back (in_station i) = refl
    back (in_stage i) = refl
    back (in_unit i) = refl
    back on_offer = refl

field_below : (f : Field) → (field_part f).0 < 5
unfolding field_part
field_below disassembly = omega arith
field_below destination = omega arith
field_below fault_note = omega arith
field_below (source j) = omega arith
field_below (write j) = omega arith

codes-field : (f : Field) → WithinField f → Codes (λ x. part_bytes (field_part x)) field_at 9 f
unfolding field_at field_part
codes-field f w = codes-part field_part of (field_below f) w (back f)
  where
    of : ℕ → ℕ → Field
    of b i = get_or ((λ j. disassembly) ∷ (λ j. destination) ∷ (λ j. fault_note) ∷ source ∷ []) b write i

    back : (g : Field) → of (field_part g).0 (field_part g).1 ≡ g
    back disassembly = refl
    back destination = refl
    back fault_note = refl
    back (source j) = refl
    back (write j) = refl

module _ {l : List ℕ} {at : ℕ} where
  request-read : (q : Request) (room : ℕ) → WithinRequest q → room ≤ 65535 → Stands (request_parts q room) l at → CallRead (request_parts q room) (text q room) l at
  unfolding parts_formed
  request-read status_message room w h s =
      reading-asked (room ∷ []) (omega arith, tt) s refl refl refl (λ r. (refl, r.0)) h
  request-read (slot_text p f) room w h s =
      let s1 = after (codes-count 40 (omega arith)) s in
      let s10 = next (codes-place p w.0) at 1 s1 in
      let s19 = next (codes-field f w.1) at 10 s10 in
      let fits : Number room = omega arith in
      reading-text s (forms-next (codes-place p w.0).form (forms-next (codes-field f w.1).form (forms-next (codes-number fits).form forms-end)))
      refl (below 5 1 l (at + 1) && below 5 1 l (at + 10)) refl refl
      (ap₂ slot_text ((codes-place p w.0).reads s1) ((codes-field f w.1).reads s10)) ((codes-number fits).reads s19) h
      (and_yes (part-formed (place_part p) (place-below p) s1) (part-formed (field_part f) (field_below f) s10))
  request-read (trace_detail i) room w h s = asked trace_detail i room w h s refl refl refl refl
  request-read (row_disassembly i) room w h s = asked row_disassembly i room w h s refl refl refl refl
  request-read (stage_name i) room w h s = asked stage_name i room w h s refl refl refl refl
  request-read (unit_name i) room w h s = asked unit_name i room w h s refl refl refl refl
  request-read (station_label i) room w h s = asked station_label i room w h s refl refl refl refl
  request-read (rename_register i) room w h s = asked rename_register i room w h s refl refl refl refl
  request-read (cell_label i) room w h s = asked cell_label i room w h s refl refl refl refl
  request-read (operand_register i j) room w h s =
      reading-asked (i ∷ j ∷ room ∷ []) (w.0, (w.1, (omega arith, tt))) s refl refl refl (λ r. (ap₂ operand_register r.0 r.1.0, r.1.1.0)) h

-- ---- calls

module _ {l : List ℕ} {at : ℕ} where
  pub call-read : (c : Call) → WithinCall c → Stands (call_parts c) l at → CallRead (call_parts c) c l at
  unfolding parts_formed
  call-read start w s = reading-numbers [] tt s refl (λ r. refl) refl
  call-read retire w s = reading-numbers [] tt s refl (λ r. refl) refl
  call-read (retry reason) w s = with-text retry reason w s refl refl refl
  call-read (resolve a) w s = reading-numbers (a ∷ []) (w, tt) s refl (λ r. ap resolve r.0) refl
  call-read (advance r lent) w s =
      let o = codes-optional {P = Number} (λ n h. codes-number h) 0 (omega arith) r w.0 in
      let s1 = after (codes-count 4 (omega arith)) s in
      reading s (forms-next o.form (forms-next (codes-number w.1).form forms-end)) refl
      (ap₂ advance (o.reads s1) ((codes-number w.1).reads (next o at 1 s1))) (optional-formed number_bytes 0 r s1)
  call-read (fetch g lent) w s =
      let o = codes-op g w.0 in
      let s1 = after (codes-count 5 (omega arith)) s in
      reading s (forms-next o.form (forms-next (codes-number w.1).form forms-end)) refl
      (ap₂ fetch (o.reads s1) ((codes-number w.1).reads (next o at 1 s1))) (op-is-formed g w.0 s1)
  call-read (capacity k n) w s = reading-numbers (k ∷ n ∷ []) (w.0, (w.1, tt)) s refl (λ r. ap₂ capacity r.0 r.1.0) refl
  call-read (overlap b) w s =
      let s1 = after (codes-count 7 (omega arith)) s in
      reading s (forms-next (codes-flag b).form forms-end) refl (ap overlap ((codes-flag b).reads s1)) (flag-formed b s1)
  call-read halt w s = reading-numbers [] tt s refl (λ r. refl) refl
  call-read (fault note) w s = with-text fault note w s refl refl refl
  call-read (reset a lent) w s = reading-numbers (a ∷ lent ∷ []) (w.0, (w.1, tt)) s refl (λ r. ap₂ reset r.0 r.1.0) refl
  call-read (redirect a) w s = reading-numbers (a ∷ []) (w, tt) s refl (λ r. ap redirect r.0) refl
  call-read (view v) w s = view-read v w s
  call-read (cell r c lent) w s =
      reading-numbers (r ∷ c ∷ lent ∷ []) (w.0, (w.1, (w.2, tt))) s refl (λ e i. cell (e.0 i) (e.1.0 i) (e.1.1.0 i)) refl
  call-read (text q room) w s = request-read q room w.0 w.1 s
