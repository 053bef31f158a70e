-- Steps that fetch nothing: what they leave as it was, and what they keep.
use Prim.Native.Nat.{ℕ, suc, ◌≤◌}
use native.Mathlib.Omega.{arith}
use mathlib.Core.Path.{◌≡◌, refl, sym, ◌∙◌, ap, subst}
use mathlib.Core.Bool.{Bool, true, false, cond}
use Rattle.std.specs.Prelude.{Option, None, Some}
use mathlib.Core.List.{List, [], ◌∷◌, map}
use lib.ListN.{length}
use Rattle.laws.specs.Lists.{All, modify}
use Rattle.laws.specs.Texts.{Text}
use Rattle.laws.proofs.Maps.{length-of}
use Rattle.capability.specs.declared.PipelineHazardKind.{PipelineHazardKind}
use Rattle.capability.specs.declared.PipelineHazardKind.TheVariants.{BranchFlush, FunctionalUnitBusy, WriteAfterWrite}
use Rattle.model.specs.Issue.{block_issue, complete_offer, flushed_cell, free_unit, issue, issue_choose, issue_front, issue_to, issuing, learn, taken, timeline_cells, waits_on}
use Rattle.model.specs.Op.{Info, Op, with_hazard}
use Rattle.model.specs.Registers.{resolve, registers}
use Rattle.model.specs.Scoreboard.{advance, after_issue, before_issue, close_cycle, closed, scoreboard, set_enabled, stops}
use Rattle.model.specs.State.{State, count_cycle, count_flush, stall_all}
use Rattle.model.specs.Traces.{Detail}
use Rattle.model.specs.Units.{FunctionalUnit, begin, clear, clear_hazard, occupy, read_one, tick, unit_at, units, with_busy, without_waits}
use Rattle.model.specs.Write.{mark_blocked, offered_branch, put_back, retire, retry, start_cycle, stopped, take_out, writable_unit, writing}
use Rattle.model.specs.Calls.{bad_text}
use Rattle.runs.proofs.Names.{Distinct, resolve-distinct}
use Rattle.runs.proofs.Tracks.{all_map, all-modify}
use Rattle.invariant.specs.Invariant.{CountersFit, OperationFits, RowFits, row_ids, unit_place}
use Rattle.invariant.proofs.Lists.{map-modified, map_same, any-taken, length-modify}
use Rattle.invariant.proofs.Tables.{claims-length, pad-length, releases-length}
use Rattle.invariant.proofs.NameCount.{all-names, names-all, resolve-longer}
use Rattle.invariant.proofs.Units.{fits-hazard}
use Rattle.invariant.proofs.Counters.{counters-cycle, counters-flush, counters-retired, counters-stalls}
use Rattle.invariant.proofs.Timeline.{all-pushed-ids, all-push-fits}
use Rattle.invariant.proofs.Taken.{info-texts}
use Rattle.invariant.proofs.Entries.{marked-same}

abbrev pub Fits : Text → Type 0
Fits a = bad_text 16 a ≡ false

-- t is s after steps that fetch nothing: the queue only loses, and these stay or are kept.
pub record Step (s t : State) : Type 0 where
  pub machine : t.machine ≡ s.machine
  pub next_seq : t.front.next_seq ≡ s.front.next_seq
  pub next_row : t.front.next_row ≡ s.front.next_row
  pub ids : row_ids t.log.rows ≡ row_ids s.log.rows
  pub places : map unit_place t.units ≡ map unit_place s.units
  pub shorter : length t.queue ≤ length s.queue
  pub queued : All OperationFits s.queue → All OperationFits t.queue
  pub distinct : Distinct s.names → Distinct t.names
  pub names : All OperationFits s.queue → All Fits s.names → All Fits t.names
  pub registers : length s.producer ≡ length s.names → length t.producer ≡ length t.names
  pub rows : All RowFits s.log.rows → All RowFits t.log.rows
  pub counters : CountersFit s.log.stats → CountersFit t.log.stats

step-on : (r s t : State) → Step r s → Step s t → Step r t
step-on r s t a b =
    record {
      machine = b.machine ∙ a.machine;
      next_seq = b.next_seq ∙ a.next_seq;
      next_row = b.next_row ∙ a.next_row;
      ids = b.ids ∙ a.ids;
      places = b.places ∙ a.places;
      shorter = omega (arith, a.shorter, b.shorter);
      queued = λ x. b.queued (a.queued x);
      distinct = λ x. b.distinct (a.distinct x);
      names = λ q x. b.names (a.queued q) (a.names q x);
      registers = λ x. b.registers (a.registers x);
      rows = λ x. b.rows (a.rows x);
      counters = λ x. b.counters (a.counters x);
    }

-- The units change, and the offer: nothing else that counts here.
step-units
    : (s t : State) → t.machine ≡ s.machine → t.front.next_seq ≡ s.front.next_seq → t.front.next_row ≡ s.front.next_row
    → t.log.rows ≡ s.log.rows → t.log.stats ≡ s.log.stats → t.queue ≡ s.queue → t.names ≡ s.names
    → length t.producer ≡ length s.producer → map unit_place t.units ≡ map unit_place s.units → Step s t
step-units s t m a b r c q ns p us =
    record {
      machine = m;
      next_seq = a;
      next_row = b;
      ids = ap row_ids r;
      places = us;
      shorter = omega (arith, ap length q);
      queued = λ x. subst (All OperationFits) (sym q) x;
      distinct = λ x. subst Distinct (sym ns) x;
      names = λ q x. subst (All Fits) (sym ns) x;
      registers = λ x. p ∙ x ∙ ap length (sym ns);
      rows = λ x. subst (All RowFits) (sym r) x;
      counters = λ x. subst CountersFit (sym c) x;
    }

-- ── Units stand where they stood ────────────────────────────────────────────

places-out : (f : Option ℕ) (us : List FunctionalUnit) → map unit_place (take_out f us) ≡ map unit_place us
unfolding writing
places-out None us = refl
places-out (Some i) us = map-modified unit_place (with_busy false) (λ u. refl) i us

places-back : (w : Option ℕ) (us : List FunctionalUnit) → map unit_place (put_back w us) ≡ map unit_place us
unfolding writing
places-back None us = refl
places-back (Some i) us = map-modified unit_place (with_busy true) (λ u. refl) i us

places-three : (us : List FunctionalUnit) → map unit_place (map read_one (map begin (map tick us))) ≡ map unit_place us
unfolding units
places-three us =
    map_same unit_place read_one (λ u. refl) (map begin (map tick us)) ∙ map_same unit_place begin (λ u. refl) (map tick us) ∙ map_same unit_place tick (λ u. refl) us

-- ── The calls other than an advance ─────────────────────────────────────────

pub step_start : (s : State) → Step s (start_cycle s)
unfolding writing stall_all units
step_start s =
    let us = map clear_hazard s.units in
    let t = writable_unit us in
    record {
      machine = refl;
      next_seq = refl;
      next_row = refl;
      ids = refl;
      places =
          places-out t.found (mark_blocked t.turned_away us) ∙ marked-same unit_place (λ x u. refl) t.turned_away us
          ∙ map_same unit_place clear_hazard (λ u. refl) s.units;
      shorter = omega (arith, length-of (with_hazard None) s.queue);
      queued = all_map OperationFits OperationFits (with_hazard None) (fits-hazard None) s.queue;
      distinct = λ d. d;
      names = λ q x. x;
      registers = λ e. e;
      rows = λ x. x;
      counters = λ x. counters-stalls _ (count_cycle s.log.stats) (counters-cycle s.log.stats x);
    }

pub step-retire : (s : State) → Step s (retire s)
unfolding writing
step-retire s =
    record {
      machine = refl;
      next_seq = refl;
      next_row = refl;
      ids = refl;
      places = refl;
      shorter = omega arith;
      queued = λ x. x;
      distinct = λ x. x;
      names = λ q x. x;
      registers = λ x. x;
      rows = λ x. x;
      counters = counters-retired (offered_branch s) s.log.stats;
    }

pub step-retry : (x : Text) (s : State) → Step s (retry x s)
unfolding writing
step-retry x s =
    step-units s (retry x s) refl refl refl refl refl refl refl refl (places-back s.offer.writing s.units)

pub step-stopped : (a b : Bool) (x : Text) (s : State) → Step s (stopped a b x s)
unfolding writing units
step-stopped a b x s =
    record {
      machine = refl;
      next_seq = refl;
      next_row = refl;
      ids = refl;
      places = map_same unit_place clear (λ u. refl) s.units;
      shorter = omega arith;
      queued = λ y. tt;
      distinct = λ y. y;
      names = λ q x. x;
      registers = λ y. length-of (λ (p : Option ℕ). None) s.producer ∙ y;
      rows = λ y. y;
      counters = λ y. y;
    }

pub step-overlap : (b : Bool) (s : State) → Step s (set_enabled b s)
unfolding scoreboard
step-overlap b s = step-units s (set_enabled b s) refl refl refl refl refl refl refl refl refl

-- ── An advance ──────────────────────────────────────────────────────────────

pub step-closed : (s : State) → Step s (closed s)
unfolding scoreboard issuing units
step-closed s = go s.offer.writing
  where
    go : (w : Option ℕ) → Step s (close_cycle (complete_offer w s))
    go None = step-units s (close_cycle s) refl refl refl refl refl refl refl refl refl
    go (Some i) =
        step-units s (close_cycle (complete_offer (Some i) s)) refl refl refl refl refl refl refl
        (releases-length i (unit_at s.units i).destinations s.producer)
        (map_same unit_place (without_waits i) (λ u. refl) (modify i clear s.units) ∙ map-modified unit_place clear (λ u. refl) i s.units)

pub step-before : (r : Option ℕ) (s : State) → Step s (before_issue r s)
unfolding scoreboard issuing stall_all
step-before None s =
    record {
      machine = refl;
      next_seq = refl;
      next_row = refl;
      ids = refl;
      places = places-three s.units;
      shorter = omega arith;
      queued = λ x. x;
      distinct = λ x. x;
      names = λ q x. x;
      registers = λ x. x;
      rows = λ x. x;
      counters = counters-stalls _ s.log.stats;
    }
step-before (Some n) s =
    record {
      machine = refl;
      next_seq = refl;
      next_row = refl;
      ids = all-pushed-ids (map flushed_cell s.queue) s.log.rows;
      places = places-three s.units;
      shorter = omega arith;
      queued = λ x. tt;
      distinct = λ x. x;
      names = λ q x. x;
      registers = λ x. x;
      rows = all-push-fits (map flushed_cell s.queue) s.log.rows;
      counters = λ x.
          counters-stalls _ (count_flush (length s.queue) s.log.stats) (counters-flush (length s.queue) s.log.stats x);
    }

step-blocked : (x : PipelineHazardKind) (d : Detail) (s : State) → Step s (block_issue x d s)
unfolding issuing stall_all
step-blocked x d s =
    record {
      machine = refl;
      next_seq = refl;
      next_row = refl;
      ids = refl;
      places = refl;
      shorter = omega (arith, length-modify (with_hazard (Some x)) 0 s.queue);
      queued = all-modify OperationFits 0 (with_hazard (Some x)) (fits-hazard (Some x)) s.queue;
      distinct = λ y. y;
      names = λ q x. x;
      registers = λ y. y;
      rows = λ y. y;
      counters = counters-stalls (x ∷ []) s.log.stats;
    }

-- The names of an operation that fits.
operation-names : (o : Op) → OperationFits o → All Fits o.info.sources × All Fits o.info.writes
operation-names o f =
    let t = info-texts o.info f.texts_fit in (
      any-taken (bad_text 16) 8 o.info.sources f.sources_few t.1,
      any-taken (bad_text 16) 4 o.info.writes f.writes_few t.2,
    )

step-learn
    : (i : Info) (s : State) → (All OperationFits s.queue → All Fits i.sources × All Fits i.writes)
    → Step s (learn (resolve s.names i).names s)
unfolding issuing registers
step-learn i s g =
    record {
      machine = refl;
      next_seq = refl;
      next_row = refl;
      ids = refl;
      places = refl;
      shorter = omega arith;
      queued = λ x. x;
      distinct = resolve-distinct s.names i;
      names = λ q x. names-all Fits i.writes (all-names s.names i.sources) (g q).1 (names-all Fits i.sources s.names (g q).0 x);
      registers = λ x. pad-length s.producer (resolve s.names i).names (omega (arith, x, resolve-longer s.names i));
      rows = λ x. x;
      counters = λ x. x;
    }

step-to : (o : Op) (rest : List Op) (r w : List ℕ) (t f : Option ℕ) (s : State) → s.queue ≡ o ∷ rest → Step s (issue_to o rest r w t f s)
unfolding issuing units
step-to o rest r w (Some x) f s q = step-blocked WriteAfterWrite _ s
step-to o rest r w None None s q = step-blocked FunctionalUnitBusy _ s
step-to o rest r w None (Some i) s q =
    let long : length s.queue ≡ suc (length rest) = ap length q in
    record {
      machine = refl;
      next_seq = refl;
      next_row = refl;
      ids = refl;
      places = map-modified unit_place (occupy o r w (waits_on s.producer r)) (λ u. refl) i s.units;
      shorter = omega arith;
      queued = λ x. (subst (All OperationFits) q x).1;
      distinct = λ x. x;
      names = λ q x. x;
      registers = λ x. claims-length i w s.producer ∙ x;
      rows = λ x. x;
      counters = λ x. x;
    }

step-choose : (b y : Bool) (o : Op) (rest : List Op) (s : State) → s.queue ≡ o ∷ rest → Step s (issue_choose b y o rest s)
unfolding issuing
step-choose true y o rest s q = step-blocked BranchFlush _ s
step-choose false true o rest s q = step-blocked FunctionalUnitBusy _ s
step-choose false false o rest s q =
    let x = resolve s.names o.info in
    let s' = learn x.names s in
    let t = taken s'.producer x.written in
    let f = free_unit s.machine.specs s.units o.core.decoded.class in
    step-on s s' (issue_to o rest x.read x.written t f s') (step-learn o.info s (λ a. operation-names o (subst (All OperationFits) q a).0))
    (step-to o rest x.read x.written t f s' q)

pub step-issue : (s : State) → Step s (issue s)
unfolding issuing
step-issue s = go s.queue refl
  where
    go : (q : List Op) → s.queue ≡ q → Step s (issue_front q s)
    go [] e = step-units s s refl refl refl refl refl refl refl refl refl
    go (o ∷ rest) e = step-choose s.marks.branch s.marks.system o rest s e

step_after : (s : State) → Step s (after_issue s)
unfolding scoreboard issuing
step_after s =
    record {
      machine = refl;
      next_seq = refl;
      next_row = refl;
      ids = all-pushed-ids (timeline_cells s) s.log.rows;
      places = refl;
      shorter = omega arith;
      queued = λ x. x;
      distinct = λ x. x;
      names = λ q x. x;
      registers = λ x. x;
      rows = all-push-fits (timeline_cells s) s.log.rows;
      counters = λ x. x;
    }

pub step-advance : (r : Option ℕ) (s : State) → Step s (advance r s)
unfolding scoreboard
step-advance r s = go (stops s)
  where
    go : (b : Bool) → Step s (cond b (closed s) (after_issue (issue (before_issue r (closed s)))))
    go true = step-closed s
    go false =
        let a = closed s in
        let b = before_issue r a in
        let c = issue b in
        step-on s c (after_issue c) (step-on s a c (step-closed s) (step-on a b c (step-before r a) (step-issue b))) (step_after c)
