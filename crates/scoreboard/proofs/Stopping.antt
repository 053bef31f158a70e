-- An engine that halts or faults: everything in flight is dropped, and only the names known are held.
use Prim.Native.Nat.{ℕ, suc}
use mathlib.Core.Path.{◌≡◌, refl, sym, subst, ap, ◌∙◌}
use mathlib.Core.Bool.{true, cond, ◌||◌}
use mathlib.Core.List.{List, [], ◌∷◌, map}
use native.Mathlib.Omega.{arith}
use lib.Dec.{T, eqb}
use lib.ListN.{length}
use Rattle.laws.specs.Lists.{count}
use Rattle.laws.proofs.Choices.{false-T}
use Rattle.model.specs.State.{State}
use Rattle.registers.specs.View.{view_known, view_held}
use Rattle.registers.proofs.NameTable.{known-length, known-held, lowered}
use Rattle.flight.specs.declared.Queued.{Queued}
use Rattle.flight.specs.View.{entries}
use Rattle.board.specs.declared.Board.{Board}
use Rattle.board.specs.View.{view_board}
use Rattle.board.specs.Promises.{queue_places, Drops}
use Rattle.board.proofs.Counting.{taken-count, apart-kept}
use Rattle.engine.specs.Engine.{Engine}
use Rattle.engine.specs.View.{frame_of, view_engine}
use Rattle.engine.specs.Valid.{Parts}
use Rattle.scoreboard.proofs.Fresh.{no-count}
use Rattle.engine.proofs.Dropping.{with_names, dropped-names, empty-looks}

map-none : {A B : Type 0} (f : A → B) (l : List A) → map f l ≡ [] → l ≡ []
map-none f [] e = refl
map-none f (x ∷ l) e = absurd (let z : ◌≡◌ {A = ℕ} (suc (length (map f l))) 0 = ap length e in omega arith)

abbrev pub stopped-engine : Board → Engine → Engine
stopped-engine b e = record e { board = b; table = record e.table { held = e.table.known } }

module _ {e : Engine} (p : Parts e) {f : State → State} {r : Board} (d : Drops e.board r f) where
  nothing-queued : entries r.queue ≡ []
  unfolding queue_places
  nothing-queued = map-none (λ (q : Queued). q.place) (entries r.queue) d.queue

  known-still : e.table.known ≡ r.claims.len
  known-still = p.known ∙ sym d.known

  pub stopped-is : view_engine (stopped-engine r e) ≡ f (view_engine e)
  unfolding view_engine view_held view_known
  stopped-is =
      ap (λ ns. view_board (with_names ns (frame_of e)) r) (known-held p.table)
      ∙ dropped-names (frame_of e) d.ok nothing-queued e.table.known (omega (arith, known-still))
      ∙ d.is (frame_of e)

  pub stopped-parts : r.front.halted || r.front.faulted ≡ true → Parts (stopped-engine r e)
  unfolding count view_held view_known
  stopped-parts stops =
      record {
        board = d.ok;
        window = p.window;
        tracks = p.tracks;
        rows = p.rows;
        machine = p.machine;
        table = (lowered p.table).ok;
        decoded = p.decoded;
        texts = p.texts;
        history = p.history;
        known = known-still;
        looks = empty-looks (frame_of (stopped-engine r e)) r nothing-queued (known-length p.table ∙ known-still);
        apart =
            apart-kept e.board r
            (λ q h.
            omega (
              arith,
              taken-count q e.board,
              taken-count q r,
              ap (count (eqb q)) d.places,
              no-count q e.board.units.len (λ i. omega arith),
              ap (count (eqb q)) d.queue,
              ap {B = ℕ} (λ k. cond (eqb q k) 1 0) d.gone,
            ))
            p.apart;
        vacant = d.vacant;
        begun = λ h o. false-T (r.front.halted || r.front.faulted) o (subst T (sym stops) tt);
        named = λ o. false-T (r.front.halted || r.front.faulted) o (subst T (sym stops) tt);
      }
