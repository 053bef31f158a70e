-- A cycle that is neither halted nor faulted: its steps, one after the other, are the model's, and the parts are well formed again.
use Prim.Native.Nat.{ℕ, ◌≤◌}
use mathlib.Core.Path.{◌≡◌, refl, sym, subst, ap, ap₂, ◌∙◌}
use mathlib.Core.Bool.{true, false, ◌||◌}
use Rattle.std.specs.Prelude.{Option, None, Some}
use mathlib.Core.List.{List, [], ◌++◌, map}
use native.Mathlib.Omega.{arith}
use lib.Dec.{T}
use lib.ListN.{length, take}
use Rattle.laws.specs.Lists.{All, keep}
use Rattle.laws.proofs.Choices.{false-T}
use Rattle.model.specs.Units.{is_busy}
use Rattle.model.specs.Timeline.{Row, push_all_writes, write_all}
use Rattle.model.specs.State.{Front, State}
use Rattle.model.specs.Issue.{
  redirected,
  tick_execute,
  start_ready,
  read_operands,
  issue,
  queue_cell,
  unit_cell,
  timeline_cells,
  record_timeline,
  redirect_writes,
  timeline_writes,
}
use Rattle.model.specs.Scoreboard.{closed, clear_status, before_issue, invite, after_issue}
use Rattle.model.specs.Calls.{invitation, invitation_of}
use Rattle.invariant.proofs.Advance.{flags-issued}
use Rattle.config.specs.declared.Machine.{Machine}
use Rattle.config.specs.View.{view_machine}
use Rattle.rows.proofs.Bytes.{write_all-append}
use Rattle.registers.specs.declared.RegisterTable.{RegisterTable}
use Rattle.registers.specs.View.{view_known, view_held, TableOk}
use Rattle.registers.proofs.NameTable.{held-length, known-length, known-held, lowered}
use Rattle.timeline.specs.declared.Tracks.{Tracks}
use Rattle.timeline.specs.declared.Window.{Window}
use Rattle.timeline.specs.View.{view_rows}
use Rattle.flight.specs.View.{Legend, nothing_carried, view_queue}
use Rattle.stalls.specs.View.{listed, view_log}
use Rattle.stalls.specs.Promises.{NoRedirect}
use Rattle.stalls.proofs.Logged.{listed-length}
use Rattle.bank.specs.View.{view_units}
use Rattle.recording.specs.Recorded.{Recorded, Written}
use Rattle.board.specs.declared.Offer.{Offer}
use Rattle.board.specs.declared.Board.{Board}
use Rattle.board.specs.View.{Frame, known_names, view_board}
use Rattle.board.specs.Promises.{taken_places, Names, Named, Vacant, Open, unit_places, Looks, Closes, with_frame_rows, Redirects, Works, Invites}
use Rattle.issuing.specs.Issues.{Issues}
use Rattle.engine.specs.Engine.{Engine}
use Rattle.engine.specs.View.{frame_of, view_engine}
use Rattle.engine.specs.Valid.{Parts, Valid}
use Rattle.advancing.specs.Advance.{dropped_cells, held_after, issued, engine_of, Restable, Worked, worked_writes}
use Rattle.board.proofs.Counting.{same_taken, same-apart}
use Rattle.engine.proofs.Dropping.{with_names, dropped-names, empty-looks}
use Rattle.advancing.proofs.Recorded.{recorded-both, written_both, redirected-rows, redirected-writes, recorded-board}
use Rattle.advancing.proofs.Advancing.{closed-front, stops_same}

-- ── What the steps need ─────────────────────────────────────────────────────

-- With any legend and any rows.
abbrev pub any-legend : Legend
any-legend = record { carried = λ p. nothing_carried; names = [] }

module _ {b r : Board} {w : Window} {ts : Tracks} {m : Machine} (p : Restable b w ts m) (h : b.front.in_cycle ≡ true) (cl : Closes b r)
    (n : r.front.halted || r.front.faulted ≡ false) where
  pub opened : Open b
  opened =
      p.begun h
      (stops_same cl (record { legend = any-legend; machine = view_machine m; rows = []; next = 0 }) ∙ n)

  pub few-waits : r.log.traces.len ≤ 64
  few-waits = omega (arith, listed-length cl.ok.log, ap length cl.waits, listed-length p.board.log, opened.few)

  pub no-redirect : All NoRedirect (listed r.log.traces)
  no-redirect = subst (All NoRedirect) (sym cl.waits) opened.none

-- ── The names held ──────────────────────────────────────────────────────────

-- A redirect changes neither the array of names nor their hints.
pub held-same : (o : Option ℕ) (t : RegisterTable) {h : RegisterTable} → h ≡ held_after o t → (h.names ≡ t.names) × (h.hints ≡ t.hints)
held-same None t q = (ap (λ (u : RegisterTable). u.names) q, ap (λ (u : RegisterTable). u.hints) q)
held-same (Some a) t q = (ap (λ (u : RegisterTable). u.names) q, ap (λ (u : RegisterTable). u.hints) q)

-- The rows do not matter.
pub looks-rows : (rs : List Row) (x : Frame) (b : Board) → Looks x b → Looks (with_frame_rows rs x) b
unfolding known_names
looks-rows rs x b l = record { most = l.most; queued = l.queued }

-- The names held after a redirect, if there was one.
pub record Holding (x : Frame) (t : RegisterTable) (b : Board) : Type 0 where
  pub table : TableOk t
  pub is : view_board (with_names (view_held t) x) b ≡ view_board x b
  pub looks : Looks (with_names (view_held t) x) b

module _ (x : Frame) {t : RegisterTable} (ok : TableOk t) {b r : Board} where
  -- The frame's names are the table's, of which those of the claims are known.
  pub holding
      : (o : Option ℕ) → x.legend.names ≡ view_held t → t.known ≡ b.claims.len → Looks x b → Redirects b r o
      → {h : RegisterTable} → h ≡ held_after o t → Holding x h r
  unfolding view_held view_known
  holding None n k l s q =
      subst (λ (h : RegisterTable). Holding x h r) (sym q)
      (record {
        table = ok;
        is = ap (λ ns. view_board (with_names ns x) r) (sym n);
        looks = subst (λ ns. Looks (with_names ns x) r) n (s.stays refl x l);
      })
  holding (Some a) n k l s q =
      subst (λ (h : RegisterTable). Holding x h r) (sym q)
      (record {
        table = (lowered ok).ok;
        is =
            ap (λ ns. view_board (with_names ns x) r) (known-held ok ∙ ap (take t.known) (sym n))
            ∙ dropped-names x s.step.ok (s.dropped a refl) t.known (omega (arith, k, s.known));
        looks = empty-looks (with_names (view_known t) x) r (s.dropped a refl) (known-length ok ∙ k ∙ sym s.known);
      })

-- ── The steps ───────────────────────────────────────────────────────────────

abbrev pub with_known : ℕ → RegisterTable → RegisterTable
with_known n t = record { names = t.names; hints = t.hints; known = n; held = t.held }

abbrev pub worked-engine : Engine → Board → Tracks → RegisterTable → Engine
worked-engine e b ts t = engine_of b e.window ts e.machine (with_known b.claims.len t) e

-- Cells of the queue, and of busy units.
abbrev pub queue-cells : Legend → Board → List (ℕ × ℕ)
queue-cells g b = map queue_cell (view_queue g b.queue)

abbrev pub unit_cells : Legend → Board → List (ℕ × ℕ)
unit_cells g b = map unit_cell (keep is_busy (view_units g b.units))

module _ {e : Engine} (v : Valid e) (o : Open e.board) {b b1 b2 b3 b4 : Board} {target : Option ℕ}
    (cl : Closes e.board b) (s1 : Redirects b b1 target) (s2 : Works b1 b2) (s3 : Issues b2 e.machine b3)
    (s4 : Invites b3 e.machine.depth b4) {ts1 ts2 ts3 : Tracks}
    (p1 : (g : Legend) → Recorded e.window (dropped_cells target (view_queue g b.queue)) e.tracks ts1)
    (p2 : (g : Legend) → Recorded e.window (queue-cells g b4) ts1 ts2) (p3 : (g : Legend) → Recorded e.window (unit_cells g b4) ts2 ts3)
    {t1 : RegisterTable} (hd : t1 ≡ held_after target e.table) where
  abbrev s : State
  s = view_engine e

  abbrev r : Engine
  r = worked-engine e b4 ts3 t1

  -- Frames: before, with the rows after the redirect, and with the names held then.
  abbrev x0 : Frame
  x0 = frame_of e

  abbrev x1 : Frame
  x1 = with_frame_rows (view_rows e.window ts1 e.rows) x0

  abbrev x2 : Frame
  x2 = with_names (view_held t1) x1

  closed_is : view_board x0 b ≡ closed s
  unfolding view_engine
  closed_is = cl.is x0

  redirected-is : view_board x1 b1 ≡ redirected target (clear_status (closed s))
  redirected-is =
      ap (λ (rs : List Row). view_board (with_frame_rows rs x0) b1) ((p1 x0.legend).is e.rows ∙ sym (redirected-rows x0 b target))
      ∙ s1.is x0 ∙ ap (λ (t : State). redirected target (clear_status t)) closed_is

  names : Holding x1 t1 b1
  names =
      holding x1 v.parts.table target refl (v.parts.known ∙ sym cl.known)
      (looks-rows (view_rows e.window ts1 e.rows) x0 b (cl.looks x0 v.parts.looks)) s1 hd

  before-is : view_board x2 b2 ≡ before_issue target (closed s)
  unfolding before_issue
  before-is = s2.is x2 ∙ ap (λ (t : State). read_operands (start_ready (tick_execute t))) (names.is ∙ redirected-is)

  issued-is : view_board x2 b3 ≡ issued target s
  issued-is = s3.is x2 refl (s2.looks x2 names.looks) ∙ ap issue before-is

  -- ---- the timeline

  invited-is : (x : Frame) → x.machine ≡ view_machine e.machine → view_board x b4 ≡ invite (view_board x b3)
  unfolding view_machine
  invited-is x q = s4.is x (ap (λ m. m.depth) q)

  cells_same : queue-cells x2.legend b4 ++ unit_cells x2.legend b4 ≡ timeline_cells (view_board x2 b3)
  unfolding timeline_cells view_board invite
  cells_same = ap timeline_cells (invited-is x2 refl)

  both : Recorded e.window (timeline_cells (view_board x2 b3)) ts1 ts3
  both = subst (λ cs. Recorded e.window cs ts1 ts3) cells_same (recorded-both (p2 x2.legend) (p3 x2.legend))

  timeline-is : view_board (frame_of r) b3 ≡ record_timeline (issued target s)
  unfolding view_held
  timeline-is = recorded-board x2 b3 (both.is e.rows) ∙ ap record_timeline issued-is

  engine-is : view_engine r ≡ after_issue (issued target s)
  unfolding view_engine after_issue
  engine-is = invited-is (frame_of r) refl ∙ ap invite timeline-is

  -- ---- the parts

  places-named : Named (unit_places b2) b2
  places-named = s2.step.named (s1.step.named (cl.named o))

  none-offered : b2.offer.writing ≡ None
  none-offered = ap (λ (n : Offer). n.writing) (s2.offer ∙ s1.offer) ∙ cl.offer

  all-vacant : Vacant b2
  all-vacant = s2.vacant (s1.vacant (cl.vacant v.parts.vacant))

  waits-named : Named (taken_places b4) b4
  waits-named =
      subst (λ ps. All (Names ps) (listed b4.log.traces)) (sym (same_taken b3 b4 s4.still.places s4.still.queue s4.still.gone))
      (subst (All (Names (taken_places b3))) (sym s4.still.waits) (s3.named none-offered all-vacant places-named))

  looks-after : Looks (frame_of r) b4
  unfolding view_held
  looks-after =
      let x = frame_of r in
      s4.still.looks x (s3.looks x (s2.looks x (looks-rows (view_rows e.window ts3 e.rows) x2 b1 names.looks)))

  known-few : b4.claims.len ≤ t1.held
  unfolding view_held
  known-few = omega (arith, looks-after.most, held-length names.table)

  cycle-closed : b4.front.in_cycle ≡ false
  unfolding view_engine view_board after_issue invite record_timeline
  cycle-closed =
      ap (λ (t : State). t.front.in_cycle) engine-is ∙ (flags-issued target (closed s)).in_cycle ∙ ap (λ (f : Front). f.in_cycle) (closed-front s)

  parts_are : Parts r
  unfolding view_held
  parts_are =
      record {
        board = s4.ok;
        window = v.parts.window;
        tracks = (p3 x2.legend).ok;
        rows = v.parts.rows;
        machine = v.parts.machine;
        table =
            record {
              known = known-few;
              held = names.table.held;
              size = names.table.size;
              hints = names.table.hints;
              each = names.table.each;
              distinct = names.table.distinct;
            };
        decoded = v.parts.decoded;
        texts = v.parts.texts;
        history = v.parts.history;
        known = refl;
        looks = looks-after;
        apart =
            same-apart b3 b4 s4.still.places s4.still.queue s4.still.gone
            (s3.apart (s2.step.apart (s1.step.apart (cl.apart v.parts.apart))));
        vacant = s4.still.vacant (s3.vacant all-vacant);
        begun = λ t o. false-T b4.front.in_cycle cycle-closed (subst T (sym t) tt);
        named = λ t. waits-named;
      }

  pub working : {a : Option ℕ} → ((x : Frame) → a ≡ invitation_of (view_board x b4)) → Worked e target (invitation a) r
  unfolding view_engine
  working f =
      record {
        answer = ap invitation (f (frame_of r)) ∙ ap (λ (t : State). invitation (invitation_of t)) engine-is;
        engine = engine-is;
        parts = parts_are;
      }

  -- ---- the lent memory

  module _ (m : List ℕ) {m1 m2 m3 : List ℕ}
      (w1 : (g : Legend) → Written e.window (dropped_cells target (view_queue g b.queue)) e.tracks m m1)
      (w2 : (g : Legend) → Written e.window (queue-cells g b4) ts1 m1 m2) (w3 : (g : Legend) → Written e.window (unit_cells g b4) ts2 m2 m3)
    where
      first-bytes : m1 ≡ write_all (redirect_writes target (closed s)) m
      unfolding view_machine
      first-bytes =
          w1 x0.legend e.rows
          ∙ ap (λ n. write_all (push_all_writes n (dropped_cells target (view_queue x0.legend b.queue)) x0.rows) m) v.parts.history
          ∙ ap (λ ws. write_all ws m) (sym (redirected-writes x0 b target) ∙ ap (redirect_writes target) closed_is)

      last-bytes : m3 ≡ write_all (timeline_writes (issued target s)) m1
      unfolding timeline_writes view_machine view_board view_log
      last-bytes =
          written_both (p2 x2.legend) (p3 x2.legend) m1 (w2 x2.legend) (w3 x2.legend) e.rows
          ∙ ap₂ (λ n cs. write_all (push_all_writes n cs (view_rows e.window ts1 e.rows)) m1) v.parts.history cells_same
          ∙ ap (λ (t : State). write_all (timeline_writes t) m1) issued-is

      pub working-memory : m3 ≡ write_all (worked_writes target s) m
      working-memory =
          last-bytes ∙ ap (write_all (timeline_writes (issued target s))) first-bytes
          ∙ sym (write_all-append (redirect_writes target (closed s)) (timeline_writes (issued target s)) m)
