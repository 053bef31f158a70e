-- A change of capacity: kinds keep their names, and where the units are built anew no place is lost, since free units have none.
use Prim.Native.Nat.{ℕ, zero, suc, ◌<◌}
use mathlib.Core.Path.{◌≡◌, refl, sym, subst, ap, ap₂, ◌∙◌}
use mathlib.Core.Bool.{Bool, false, cond}
use mathlib.Core.Logic.{◌⊎◌, inl, inr, ⊎_elim}
use Rattle.std.specs.Prelude.{None, IfSome, slice_get, option_map}
use mathlib.Core.List.{List, [], ◌∷◌}
use native.Mathlib.Omega.{arith}
use Rattle.std.proofs.Common.{rules}
use lib.Dec.{T, eqb, ltb}
use lib.ListN.{get_or}
use Rattle.laws.specs.Means.{Means}
use Rattle.laws.specs.Optional.{is_none}
use Rattle.laws.specs.Lists.{All, count, modify}
use Rattle.std.specs.List.{list_any}
use Rattle.laws.specs.Texts.{Text}
use Rattle.laws.proofs.Choices.{false-T, none-some}
use Rattle.laws.proofs.Tests.{cond-ne, or-neither}
use Rattle.model.specs.Config.{UnitSpec, spec_name, with_capacity, capacities, Machine as ModelMachine}
use Rattle.model.specs.Units.{FunctionalUnit, idle_unit, is_busy, unit_at}
use Rattle.model.specs.State.{state, log_of}
use Rattle.model.specs.Scoreboard.{rebuilt, with_noted, set_capacity}
use Rattle.model.specs.Calls.{first_of}
use Rattle.op.specs.Chars.{view_text}
use Rattle.config.specs.declared.Machine.{Machine}
use Rattle.config.specs.View.{view_machine}
use Rattle.config.specs.Kept.{MachineOk}
use Rattle.config.specs.Checks.{noted_specs, noted, capacity_checks, capacity_refusal}
use Rattle.timeline.specs.declared.WaitForm.{WaitForm}
use Rattle.timeline.specs.declared.WaitForm.TheVariants.{
  Overwrites,
  MemoryOrder,
  Drains,
  WaitsFor,
  WaitsForOlder,
  BehindBranch,
  BehindSystem,
  StillWrites,
  AllBusy,
  RedirectTo,
}
use Rattle.flight.specs.View.{Legend}
use Rattle.stalls.specs.declared.Trace.{Trace}
use Rattle.stalls.specs.View.{number_word, listed, view_stats, view_log}
use Rattle.bank.specs.declared.Units.{Units}
use Rattle.bank.specs.View.{view_units, places}
use Rattle.board.specs.declared.Board.{Board}
use Rattle.board.specs.View.{known_names, log_frame, view_board}
use Rattle.board.specs.Promises.{queue_places, taken_places}
use Rattle.board.proofs.Knowing.{blank}
use Rattle.board.proofs.Vacancy.{Empty, none-placed}
use Rattle.board.proofs.Counting.{names_more, taken-count, apart-kept}
use Rattle.engine.specs.Engine.{Engine}
use Rattle.engine.specs.View.{legend_of, frame_of, view_engine}
use Rattle.engine.specs.Valid.{Parts}
use Rattle.scoreboard.specs.Control.{Built, Rebuilds}
use Rattle.checks.proofs.Passing.{row-passes}
use Rattle.scoreboard.proofs.Fresh.{no-count}
use Rattle.engine.proofs.Legends.{WaitAgrees, waits-agree}

-- ── The kinds' names ────────────────────────────────────────────────────────

noted-name : (kind n : ℕ) (ks : List UnitSpec) (i : ℕ) → spec_name (modify kind (with_capacity n) ks) i ≡ spec_name ks i
unfolding spec_name modify
noted-name kind n [] i = refl
noted-name zero n (k ∷ ks) zero = refl
noted-name zero n (k ∷ ks) (suc i) = refl
noted-name (suc kind) n (k ∷ ks) zero = refl
noted-name (suc kind) n (k ∷ ks) (suc i) = noted-name kind n ks i

module _ (ks ls : List UnitSpec) (same : (i : ℕ) → spec_name ls i ≡ spec_name ks i) where
  same_word : (f : WaitForm) (ns : List Text) (i : ℕ) → number_word f ls ns i ≡ number_word f ks ns i
  unfolding number_word
  same_word Overwrites ns i = refl
  same_word MemoryOrder ns i = refl
  same_word Drains ns i = refl
  same_word WaitsFor ns i = refl
  same_word WaitsForOlder ns i = refl
  same_word BehindBranch ns i = refl
  same_word BehindSystem ns i = refl
  same_word StillWrites ns i = refl
  same_word AllBusy ns i = same i
  same_word RedirectTo ns i = refl

-- ── Units that are all free ─────────────────────────────────────────────────

free_at : (us : List FunctionalUnit) → list_any is_busy us ≡ false → (i : ℕ) → (unit_at us i).busy ≡ false
unfolding unit_at is_busy idle_unit
free_at [] e i = refl
free_at (u ∷ us) e zero = (or-neither u.busy (list_any is_busy us) e).0
free_at (u ∷ us) e (suc i) = free_at us (or-neither u.busy (list_any is_busy us) e).1 i

none-counted : (l : List ℕ) → ((i : ℕ) → get_or l i 80 ≡ 80) → (p : ℕ) → (p ≡ 80 → ⊥) → count (eqb p) l ≡ 0
unfolding count
none-counted [] h p n = refl
none-counted (x ∷ l) h p n =
    let z : ◌≡◌ {A = ℕ} (cond (eqb p x) 1 0) 0 = cond-ne {A = ℕ} 1 0 (λ q. n (q ∙ h 0)) in omega (arith, z, none-counted l (λ i. h (suc i)) p n)

-- Nothing is on offer, and none is busy: no unit has a place.
pub free-places : (us : Units) → Empty us None → ((g : Legend) → list_any is_busy (view_units g us) ≡ false) → (p : ℕ) → (p ≡ 80 → ⊥)
    → count (eqb p) (places us) ≡ 0
free-places us e idle =
    none-counted (places us)
    (λ i. ⊎_elim (λ q. none-some i q) (λ q. q) (e blank i (free_at (view_units blank us) (idle blank) i)))

-- Nothing refuses the change.
pub capacity-free
    : (open_cycle : Bool) (kind n : ℕ) (ks : List UnitSpec)
    → first_of ((4, open_cycle) ∷ (12, is_none (slice_get ks kind)) ∷ (1, ltb 64 (capacities (noted_specs kind n ks))) ∷ []) ≡ None
    → (open_cycle ≡ false) × (capacity_refusal kind n ks ≡ None)
unfolding capacity_refusal capacity_checks
capacity-free open_cycle kind n ks e = row-passes 4 {b = open_cycle} (capacity_checks kind n ks) e

-- ── The engine ──────────────────────────────────────────────────────────────

abbrev pub noted-engine : Units → Machine → Engine → Engine
noted-engine us m e = record e { board = record e.board { units = us }; machine = m }

module _ {e : Engine} (p : Parts e) (kind n : ℕ) {m : Machine} {us : Units}
    (k : Means view_machine MachineOk m (noted kind n (view_machine e.machine))) (u : Rebuilds (view_machine m) e.board.units us) where
  abbrev b : Board
  b = e.board

  abbrev r : Engine
  r = noted-engine us m e

  waits-same : (l : List Trace) → All (WaitAgrees (log_frame (frame_of e) b) (log_frame (frame_of r) r.board)) l
  unfolding known_names noted noted_specs
  waits-same [] = tt
  waits-same (t ∷ l) = (
    record {
      mine = refl;
      other = refl;
      number =
          same_word (view_machine e.machine).specs (view_machine m).specs
          (λ i. ap (λ (a : ModelMachine). spec_name a.specs i) k.is ∙ noted-name kind n (view_machine e.machine).specs i)
          t.form (known_names (frame_of e) b) t.number;
    },
    waits-same l,
  )

  pub noted-is : view_engine r ≡ set_capacity kind n (view_engine e)
  unfolding view_engine view_board view_log known_names noted noted_specs with_noted set_capacity
  noted-is =
      ap₂
      (λ vs ts.
      state (view_machine m) vs (view_board (frame_of e) b).queue (view_board (frame_of e) b).names (view_board (frame_of e) b).producer
      (view_board (frame_of e) b).marks (view_board (frame_of e) b).offer (view_board (frame_of e) b).front
      (log_of (view_stats b.log.stats) ts (frame_of e).rows (option_map view_text b.status)))
      (u.is (legend_of e))
      (waits-agree (log_frame (frame_of e) b) (log_frame (frame_of r) r.board) b.log.traces (waits-same (listed b.log.traces)))
      ∙ ap
      (λ (a : ModelMachine).
      state a (rebuilt (list_any is_busy (view_units (legend_of e) b.units)) a.specs (view_units (legend_of e) b.units))
      (view_board (frame_of e) b).queue (view_board (frame_of e) b).names (view_board (frame_of e) b).producer
      (view_board (frame_of e) b).marks (view_board (frame_of e) b).offer (view_board (frame_of e) b).front (view_board (frame_of e) b).log)
      k.is

  history-same : e.machine.history ≡ m.history
  unfolding view_machine noted
  history-same = sym (ap (λ (a : ModelMachine). a.history) k.is)

  -- Nothing is on offer.
  module _ (free : b.offer.writing ≡ None) where
    vacant-still : (us ≡ b.units) ⊎ Built b.units us → Empty us b.offer.writing
    vacant-still (inl q) = subst (λ v. Empty v b.offer.writing) (sym q) p.vacant
    vacant-still (inr x) = none-placed us us.len x.places b.offer.writing

    counted_same : (us ≡ b.units) ⊎ Built b.units us → (q : ℕ) → (q ≡ 80 → ⊥) → count (eqb q) (places us) ≡ count (eqb q) (places b.units)
    counted_same (inl x) q h = ap (λ v. count (eqb q) (places v)) x
    counted_same (inr x) q h =
        ap (count (eqb q)) x.places ∙ no-count q us.len h ∙ sym (free-places b.units (subst (Empty b.units) free p.vacant) x.idle q h)

    pub noted-parts : b.front.in_cycle ≡ false → Parts r
    unfolding queue_places known_names noted
    noted-parts outside =
        record {
          board =
              let nothing : IfSome b.offer.writing (λ (i : ℕ). i < us.len) = subst (λ o. IfSome o (λ (i : ℕ). i < us.len)) (sym free) tt in
              search (rules, nothing, u.knows b.claims.len p.board.knows);
          window = p.window;
          tracks = p.tracks;
          rows = p.rows;
          machine = k.ok;
          table = p.table;
          decoded = p.decoded;
          texts = p.texts;
          history = p.history ∙ history-same;
          known = p.known;
          looks = record { most = p.looks.most; queued = p.looks.queued };
          apart =
              apart-kept b r.board
              (λ q h. omega (arith, taken-count q b, taken-count q r.board, counted_same u.kept q (λ i. omega arith)))
              p.apart;
          vacant = vacant-still u.kept;
          begun = λ h o. false-T b.front.in_cycle outside (subst T (sym h) tt);
          named =
              λ o.
              names_more (taken_places b) (taken_places r.board)
              (λ q h. omega (arith, taken-count q b, taken-count q r.board, counted_same u.kept q h)) (listed b.log.traces) (p.named o);
        }
