-- A fetch by parts, where it is refused and where it is taken: what holds of every engine with the parts.
use Prim.Native.Nat.{ℕ, ◌+◌, ◌*◌, ◌%◌, ◌≤◌, ◌<◌}
use mathlib.Core.Path.{◌≡◌, refl, sym, subst, ap, ◌∙◌}
use Rattle.std.specs.Prelude.{Option, None, Some, Result, Ok, Err}
use mathlib.Core.List.{List, [], ◌∷◌, ◌++◌}
use lib.ListN.{length, set}
use Rattle.laws.specs.Means.{Means}
use Rattle.capability.specs.declared.Refusal.{Refusal}
use Rattle.capability.specs.Refusals.{refusal_number, refusal_of}
use Rattle.model.specs.Config.{latency}
use Rattle.model.specs.Op.{sequential_address}
use Rattle.model.specs.Timeline.{write_all, open_writes}
use Rattle.model.specs.Calls.{first_of, fetch, refusal, run, reply}
use Rattle.op.specs.declared.PipelineOp.{PipelineOp}
use Rattle.op.specs.View.{view_op}
use Rattle.config.specs.declared.Machine.{Machine}
use Rattle.config.specs.View.{view_machine}
use Rattle.registers.specs.declared.Operands.{Operands}
use Rattle.registers.specs.declared.RegisterTable.{RegisterTable}
use Rattle.flight.specs.declared.Queued.{Queued}
use Rattle.flight.specs.declared.Queue.{Queue}
use Rattle.flight.specs.View.{view_queued, view_queue, entries}
use Rattle.flight.specs.Promises.{Queues}
use Rattle.timeline.specs.declared.Tracks.{Tracks}
use Rattle.timeline.specs.declared.Window.{Window}
use Rattle.timeline.specs.View.{first_track, TracksOk, all_tracks}
use Rattle.places.specs.Places.{Free}
use Rattle.board.specs.declared.Board.{Board}
use Rattle.board.specs.Promises.{taken_places}
use Rattle.engine.specs.Engine.{Engine}
use Rattle.engine.specs.View.{view_engine}
use Rattle.engine.specs.Valid.{Valid}
use Rattle.fetching.specs.Fetching.{Queueing, Fetchable}
use Rattle.fetching.specs.Taking.{NamesTo, engine_by, Admissible, Admitted, Admits, AdmitWrites}
use Rattle.engine.proofs.Does.{does-refused, does-taken, memory_kept}
use Rattle.engine.proofs.Fits.{good-text}
use Rattle.fetching.proofs.Accepting.{queue-room, flight-few, next-board, accepting}
use Rattle.fetching.proofs.Fetches.{first_rows, first_refusal, second, fetchable, memory-opens}

-- What a fetch of every engine with these parts is refused for.
abbrev Refused : Board → Window → Tracks → Machine → RegisterTable → PipelineOp → ℕ → Option ℕ → Type 0
Refused b w ts m t o lent n =
    (e : Engine) → Valid (engine_by b w ts m t e) → refusal (view_engine (engine_by b w ts m t e)) (fetch (view_op o) lent) ≡ n

module _ (o : PipelineOp) {b : Board} {w : Window} {ts : Tracks} {m : Machine} {t : RegisterTable} {lent : ℕ} where
  refuses : {r : Result ℕ Refusal} {n : Refusal} → r ≡ Err n → Refused b w ts m t o lent (Some (refusal_number n)) → Admits b w ts m t o lent r b ts t
  refuses {n = n} i h =
      record {
        admitted = λ p q. cc;
        refuses = λ k q e v. does-refused v (h e v ∙ ap (refusal_of {A = ℕ}) (sym i ∙ q));
      }

  pub refused_first : {r : Result ℕ Refusal} {n : Refusal} → r ≡ Err n → Some (refusal_number n) ≡ first_of (first_rows b w.next o)
      → Admits b w ts m t o lent r b ts t
  refused_first i h = refuses i (λ e v. first_refusal v o lent (sym h))

  module _ (h : None ≡ first_of (first_rows b w.next o)) {s : Result Operands Refusal} {u : RegisterTable}
      (k : NamesTo t (view_op o).info lent w.history s u) where
    last-refusal : Refused b w ts m t o lent (refusal_of s)
    last-refusal e v = second v o lent (sym h) ∙ sym k.refused

    pub refused_last : {r : Result ℕ Refusal} {n : Refusal} → r ≡ Err n → s ≡ Err n → Admits b w ts m t o lent r b ts u
    refused_last {r} {n} i j = subst (Admits b w ts m t o lent r b ts) (sym (k.left n j)) (refuses i (λ e v. last-refusal e v ∙ ap refusal_of j))

    module _ {x : Operands} (i : s ≡ Ok x) where
      fetchable-by : (e : Engine) → Valid (engine_by b w ts m t e) → Fetchable (engine_by b w ts m t e) o lent
      fetchable-by e v = fetchable v o lent (sym h) (sym k.refused ∙ ap refusal_of i)

      module _ (a : Admissible b w ts m t) where
        pub room_left : b.queue.len < 15
        room_left = queue-room a.valid (fetchable-by a.engine a.valid)

        pub few_left : b.units.len + b.queue.len ≤ 78
        few_left = flight-few a.valid (fetchable-by a.engine a.valid)

        pub room_there : w.history * 200 ≤ lent
        room_there = (fetchable-by a.engine a.valid).room

        module _ {p pc cycles : ℕ} {q : Queued} {l : Queue} {us : Tracks}
            (free : Free (taken_places b) p)
            (slow : cycles ≡ latency (view_machine m).times o.class)
            (entry : Queueing x o w.next cycles p q)
            (queue : Queues l (entries b.queue ++ q ∷ []) (λ g. view_queue g b.queue ++ view_queued g q ∷ []))
            (tracks : Means all_tracks TracksOk us (set ts.items (w.next % w.history) (first_track b.log.stats.cycles)))
            (next : pc ≡ sequential_address m.instruction_bytes (view_op o).decoded)
            (size : length o.disassembly.bytes ≡ 64) where
          taken : Admitted b w ts m t o lent p (next-board b pc l) us u
          unfolding run reply
          taken =
              let f = fetchable-by a.engine a.valid in
              record {
                there = free.there;
                units = refl;
                good = f.good;
                next = f.next;
                admits = λ e v.
                    let c = accepting v (fetchable-by e v) (record { size = size; fits = good-text o f.good }) (k.named x i) free next slow entry queue tracks in
                    does-taken v (last-refusal e v ∙ ap refusal_of i) (λ n. refl) c.is c.parts;
              }

          pub admits : Admits b w ts m t o lent (Ok p) (next-board b pc l) us u
          admits =
              record {
                admitted = λ n j. let e : p ≡ n = cc in subst (λ y. Admitted b w ts m t o lent y (next-board b pc l) us u) e taken;
                refuses = λ n j. cc;
              }

-- ── The lent memory ─────────────────────────────────────────────────────────

module _ (o : PipelineOp) (c : List ℕ) {b : Board} {w : Window} {ts : Tracks} {m : Machine} {t : RegisterTable} where
  pub kept_first : {n : ℕ} → Some n ≡ first_of (first_rows b w.next o) → AdmitWrites b w ts m t o c c
  kept_first h e v = memory_kept _ _ c (first_refusal v o (length c) (sym h))

  module _ (h : None ≡ first_of (first_rows b w.next o)) {s : Result Operands Refusal} {u : RegisterTable}
      (k : NamesTo t (view_op o).info (length c) w.history s u) where
    pub kept_last : {n : Refusal} → s ≡ Err n → AdmitWrites b w ts m t o c c
    kept_last j e v = memory_kept _ _ c (last-refusal o h k e v ∙ ap refusal_of j)

    pub row_opened : {x : Operands} → s ≡ Ok x → {d : List ℕ} → d ≡ write_all (open_writes w.history w.next) c → AdmitWrites b w ts m t o c d
    row_opened i q e v = q ∙ memory-opens v o c (last-refusal o h k e v ∙ ap refusal_of i)
