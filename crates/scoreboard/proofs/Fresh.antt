-- An engine whose board is new: what it means, and that its parts are well formed.
use Prim.Native.Nat.{ℕ, zero, suc}
use mathlib.Core.Path.{◌≡◌, refl, sym, subst, ap, ◌∙◌}
use mathlib.Core.Bool.{false, cond}
use Rattle.std.specs.Prelude.{None}
use mathlib.Core.List.{List, [], ◌∷◌, map}
use native.Mathlib.Omega.{arith}
use Rattle.std.proofs.Common.{rules}
use lib.Dec.{T, eqb}
use lib.ListN.{length, replicate, length-replicate}
use Rattle.laws.specs.Lists.{All, count}
use Rattle.laws.proofs.Choices.{false-T}
use Rattle.laws.proofs.Tests.{cond-ne}
use Rattle.laws.proofs.Slices.{All-append}
use Rattle.capability.specs.declared.PipelineStats.{PipelineStats}
use Rattle.model.specs.Config.{UnitSpec, capacities}
use Rattle.model.specs.Units.{FunctionalUnit, idle_unit, instances, build_units}
use Rattle.model.specs.State.{no_stats, State, state, marks, offer_of, front_of, log_of, with_front, with_enabled, with_log, with_stats}
use Rattle.config.specs.View.{view_machine}
use Rattle.registers.specs.View.{view_held}
use Rattle.flight.specs.declared.Queued.{Queued}
use Rattle.stalls.specs.View.{view_stats, view_log, view_traces, view_trace}
use Rattle.timeline.specs.declared.Window.{Window}
use Rattle.timeline.specs.View.{view_rows, WindowOk}
use Rattle.bank.specs.declared.Units.{Units}
use Rattle.bank.specs.View.{slots, places, UnitsAre, UnitKnows}
use Rattle.bank.proofs.Steps.{places-length}
use Rattle.board.specs.declared.Board.{Board}
use Rattle.board.specs.View.{Frame, boards}
use Rattle.board.specs.Promises.{queue_places, taken_places, Apart, Fresh, Names}
use Rattle.board.proofs.Knowing.{Knows, knows-kept}
use Rattle.board.proofs.Counting.{taken-count}
use Rattle.engine.specs.Engine.{Engine}
use Rattle.engine.specs.View.{frame_of, view_engine}
use Rattle.engine.specs.Valid.{Parts}
use Rattle.engine.proofs.Dropping.{empty-looks}
use Rattle.scoreboard.specs.Control.{renewed}

-- ── Units that are built ────────────────────────────────────────────────────

instances-know : (n s i k : ℕ) → All (Knows n) (instances s i k)
unfolding instances idle_unit
instances-know n s i zero = tt
instances-know n s i (suc k) = (record { sources = tt; destinations = tt; pending = tt }, instances-know n s (suc i) k)

pub built-know : (n s : ℕ) (ks : List UnitSpec) → All (Knows n) (build_units s ks)
unfolding build_units
built-know n s [] = tt
built-know n s (k ∷ ks) = All-append (Knows n) (instances s 0 k.capacity) (build_units (suc s) ks) (instances-know n s 0 k.capacity) (built-know n (suc s) ks)

module _ (ks : List UnitSpec) {us : Units} (e : UnitsAre us (λ g. build_units 0 ks) (replicate (capacities ks) 80)) where
  pub built_places : places us ≡ replicate us.len 80
  built_places =
      e.places
      ∙ ap (λ n. replicate {A = ℕ} n 80) (sym (length-replicate {A = ℕ} (capacities ks) 80) ∙ sym (ap length e.places) ∙ places-length e.ok)

  pub built_knows : (n : ℕ) → All (UnitKnows n) (slots us)
  unfolding slots
  built_knows n = knows-kept n (record { items = []; len = 0 }) e (λ g a. built-know n 0 ks) tt

away : (p : ℕ) → (p ≡ 80 → ⊥) → ◌≡◌ {A = ℕ} (cond (eqb p 80) 1 0) 0
away p h = cond-ne {A = ℕ} 1 0 h

pub no-count : (p n : ℕ) → (p ≡ 80 → ⊥) → count (eqb p) (replicate n 80) ≡ 0
unfolding count
no-count p zero h = refl
no-count p (suc n) h = omega (arith, away p h, no-count p n h)

-- Nothing is taken.
pub empty-apart : (b : Board) (n : ℕ) → places b.units ≡ replicate n 80 → queue_places b ≡ [] → b.gone ≡ 80 → Apart b
unfolding count
empty-apart b n e f g p h =
    let no : p ≡ 80 → ⊥ = λ q. omega arith in
    omega (
      arith,
      taken-count p b,
      ap (count (eqb p)) e,
      no-count p n no,
      ap (count (eqb p)) f,
      ap {B = ℕ} (λ k. cond (eqb p k) 1 0) g,
      away p no,
    )

-- ── The engine ──────────────────────────────────────────────────────────────

-- With these counters.
abbrev pub recounted : PipelineStats → Engine → Engine
recounted st e = record e { board = record e.board { log = record e.board.log { stats = st } } }

-- With no rows.
abbrev pub emptied : Engine → Engine
emptied e = record e { window = record e.window { next = 0; held = 0 } }

module _ {e : Engine} (p : Parts e) {us : Units} {entry : ℕ} {r : Board} (f : Fresh us entry r)
    (u : UnitsAre us (λ g. build_units 0 (view_machine e.machine).specs) (replicate (capacities (view_machine e.machine).specs) 80))
    (st : PipelineStats) (w : Window) where
  -- Renewed, with these counters and this window.
  abbrev anew : Engine
  anew = record (recounted st (renewed e r)) { window = w }

  abbrev x : Frame
  x = frame_of anew

  pub fresh-is : view_engine anew
      ≡ state (view_machine e.machine) (build_units 0 (view_machine e.machine).specs) [] [] [] (marks false false) (offer_of None false)
      (front_of e.board.front.enabled false false false false entry w.next w.next)
      (log_of (view_stats st) [] (view_rows w e.tracks e.rows) None)
  unfolding view_engine boards view_log view_traces view_trace
  fresh-is =
      ap (λ (s : State). with_log (with_stats (view_stats st) s.log) (with_front (with_enabled e.board.front.enabled s.front) s)) (f.is x)
      ∙ ap
      (λ (l : List FunctionalUnit).
      state (view_machine e.machine) l [] [] [] (marks false false) (offer_of None false)
      (front_of e.board.front.enabled false false false false entry w.next w.next)
      (log_of (view_stats st) [] (view_rows w e.tracks e.rows) None))
      (u.is x.legend)

  -- Nothing is counted yet.
  pub fresh-stats : view_stats r.log.stats ≡ no_stats
  unfolding boards view_log
  fresh-stats = ap (λ (s : State). s.log.stats) (f.is x)

  closed-front : r.front.in_cycle ≡ false
  unfolding boards
  closed-front = ap (λ (s : State). s.front.in_cycle) (f.is x)

  pub fresh-parts : WindowOk w → w.history ≡ e.machine.history → Parts anew
  unfolding boards view_held queue_places
  fresh-parts wo h =
      record {
        board = search rules;
        window = wo;
        tracks = p.tracks;
        rows = p.rows;
        machine = p.machine;
        table =
            record {
              known = omega arith;
              held = omega arith;
              size = p.table.size;
              hints = p.table.hints;
              each = p.table.each;
              distinct = tt;
            };
        decoded = p.decoded;
        texts = p.texts;
        history = h;
        known = sym f.known;
        looks = empty-looks x anew.board f.queue (sym f.known);
        apart =
            empty-apart anew.board us.len (ap places f.units ∙ built_places (view_machine e.machine).specs u)
            (ap (map (λ (z : Queued). z.place)) f.queue) f.gone;
        vacant = f.vacant;
        begun = λ t o. false-T r.front.in_cycle closed-front (subst T (sym t) tt);
        named = λ t. subst (All (Names (taken_places anew.board))) (sym f.waits) tt;
      }
