-- How many bytes the answer to a call takes, whatever it is.
use Rattle.std.specs.Prelude.{ℕ, ◌+◌, List}
use Rattle.model.specs.Calls.{
  View,
  status,
  stats,
  enabled,
  fetch_pc,
  resume_pc,
  stage_count,
  edges,
  entry_stages,
  stage_order,
  unit_count,
  trace_count,
  timeline_len,
  station_count,
  rename_count,
  queue_count,
  buffer_count,
  buffer_capacity,
  in_flight_before,
  stage,
  unit,
  trace,
  timeline_row,
  station,
  rename,
  queued,
  buffer_entry,
  Call,
  start,
  retire,
  retry,
  resolve,
  advance,
  fetch,
  capacity,
  overlap,
  halt,
  fault,
  reset,
  redirect,
  view,
  cell,
  text,
  Answer,
}
use Rattle.answers.specs.Bytes.{pad}
use Rattle.answers.specs.Encode.{encode}

unfoldable pub size_of_view : View → ℕ
size_of_view status = 5
size_of_view stats = 97
size_of_view enabled = 2
size_of_view fetch_pc = 9
size_of_view resume_pc = 9
size_of_view stage_count = 9
size_of_view edges = 16
size_of_view entry_stages = 2
size_of_view stage_order = 6
size_of_view unit_count = 9
size_of_view trace_count = 9
size_of_view timeline_len = 9
size_of_view station_count = 9
size_of_view rename_count = 9
size_of_view queue_count = 9
size_of_view buffer_count = 9
size_of_view buffer_capacity = 9
size_of_view (in_flight_before n) = 2
size_of_view (stage i) = 20
size_of_view (unit i) = 37
size_of_view (trace i) = 5
size_of_view (timeline_row i) = 29
size_of_view (station i) = 31
size_of_view (rename i) = 4
size_of_view (queued i) = 18
size_of_view (buffer_entry i) = 18

unfoldable pub size : Call → ℕ
size start = 45
size retire = 1
size (retry reason) = 1
size (resolve a) = 10
size (advance r lent) = 10
size (fetch g lent) = 1
size (capacity k n) = 1
size (overlap b) = 1
size halt = 1
size (fault note) = 1
size (reset a lent) = 1
size (redirect a) = 1
size (view v) = size_of_view v
size (cell r c lent) = 5
size (text t room) = 10 + room

-- The answer to a call in its size.
unfoldable pub block : Call → Answer → List ℕ
block c a = pad (size c) (encode a)

-- All of these unfold where a line says `unfolding sizing`.
unfoldable pub sizing : Unit {0}
unfolding size_of_view size block
sizing = tt
