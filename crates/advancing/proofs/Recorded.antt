-- The cells of a cycle, one list after the other: rows and lent memory are the model's.
use Prim.Native.Nat.{ℕ}
use mathlib.Core.Path.{◌≡◌, refl, sym, ap, ap₂, ◌∙◌}
use Rattle.std.specs.Prelude.{Option, None, Some}
use mathlib.Core.List.{List, [], ◌∷◌, ◌++◌}
use lib.ListN.{length}
use Rattle.model.specs.Timeline.{Row, Write, push, push_all, push_writes, push_all_writes, write_all}
use Rattle.model.specs.State.{with_log, with_rows}
use Rattle.model.specs.Issue.{flush, redirected, timeline_cells, record_timeline, redirect_writes}
use Rattle.model.specs.Scoreboard.{clear_status}
use Rattle.rows.proofs.Bytes.{write_all-append, write_all-length}
use Rattle.timeline.specs.declared.Tracks.{Tracks}
use Rattle.timeline.specs.declared.Window.{Window}
use Rattle.timeline.specs.View.{view_rows}
use Rattle.flight.specs.View.{view_queue}
use Rattle.stalls.specs.View.{view_trace, view_traces, view_log}
use Rattle.recording.specs.Recorded.{Recorded, Written}
use Rattle.board.specs.declared.Board.{Board}
use Rattle.board.specs.View.{Frame, known_names, view_board}
use Rattle.board.specs.Promises.{with_frame_rows}
use Rattle.advancing.specs.Advance.{dropped_cells}

pub push-append : (ps qs : List (ℕ × ℕ)) (rows : List Row) → push_all (ps ++ qs) rows ≡ push_all qs (push_all ps rows)
unfolding push_all
push-append [] qs rows = refl
push-append (p ∷ ps) qs rows = push-append ps qs (push p.0 rows)

pub write-append : (h : ℕ) (ps qs : List (ℕ × ℕ)) (rows : List Row) (m : List ℕ)
    → write_all (push_all_writes h (ps ++ qs) rows) m
    ≡ write_all (push_all_writes h qs (push_all ps rows)) (write_all (push_all_writes h ps rows) m)
unfolding push_all push_all_writes write_all
write-append h [] qs rows m = refl
write-append h (p ∷ ps) qs rows m =
    write_all-append (push_writes h p.0 p.1 rows) (push_all_writes h (ps ++ qs) (push p.0 rows)) m
    ∙ write-append h ps qs (push p.0 rows) (write_all (push_writes h p.0 p.1 rows) m)
    ∙ ap (write_all (push_all_writes h qs (push_all ps (push p.0 rows))))
    (sym (write_all-append (push_writes h p.0 p.1 rows) (push_all_writes h ps (push p.0 rows)) m))

-- As many bytes as there were.
pub write-length : (ws : List Write) (m : List ℕ) {n : List ℕ} → n ≡ write_all ws m → length n ≡ length m
write-length ws m e = ap length e ∙ write_all-length ws m

-- Two lists of cells.
module _ {w : Window} {ps qs : List (ℕ × ℕ)} {ts u r : Tracks} (a : Recorded w ps ts u) (b : Recorded w qs u r) where
  pub recorded-both : Recorded w (ps ++ qs) ts r
  recorded-both =
      record {
        is = λ xs. b.is xs ∙ ap (push_all qs) (a.is xs) ∙ sym (push-append ps qs (view_rows w ts xs));
        ok = b.ok;
      }

  pub written_both : (k : List ℕ) {m n : List ℕ} → Written w ps ts k m → Written w qs u m n → Written w (ps ++ qs) ts k n
  written_both k f g xs =
      g xs
      ∙ ap₂ (λ rows l. write_all (push_all_writes w.history qs rows) l) (a.is xs) (f xs)
      ∙ sym (write-append w.history ps qs (view_rows w ts xs) k)

-- ── A redirect ──────────────────────────────────────────────────────────────

module _ (x : Frame) (b : Board) where
  pub redirected-rows : (o : Option ℕ)
      → (redirected o (clear_status (view_board x b))).log.rows ≡ push_all (dropped_cells o (view_queue x.legend b.queue)) x.rows
  unfolding redirected flush clear_status view_board view_log push_all
  redirected-rows None = refl
  redirected-rows (Some t) = refl

  pub redirected-writes : (o : Option ℕ)
      → redirect_writes o (view_board x b) ≡ push_all_writes x.machine.history (dropped_cells o (view_queue x.legend b.queue)) x.rows
  unfolding redirect_writes view_board view_log push_all_writes
  redirected-writes None = refl
  redirected-writes (Some t) = refl

  -- ---- the timeline

  pub rows-set : (rs : List Row) → view_board (with_frame_rows rs x) b ≡ with_log (with_rows rs (view_board x b).log) (view_board x b)
  unfolding view_board view_log known_names view_traces view_trace
  rows-set rs = refl

  pub recorded-board : {rs : List Row} → rs ≡ push_all (timeline_cells (view_board x b)) x.rows
      → view_board (with_frame_rows rs x) b ≡ record_timeline (view_board x b)
  unfolding record_timeline view_board view_log
  recorded-board {rs} e = rows-set rs ∙ ap (λ (l : List Row). with_log (with_rows l (view_board x b).log) (view_board x b)) e
