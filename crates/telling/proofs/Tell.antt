-- The loop that tells a log waits about units: what is left to tell gives what the whole gives.
use Prim.Native.Nat.{ℕ, ◌+◌, ◌≤◌, ◌<◌}
use mathlib.Core.Path.{◌≡◌, sym, ap, ◌∙◌}
use mathlib.Core.Bool.{true, false}
use mathlib.Core.Logic.{⊎_elim}
use Rattle.std.specs.Prelude.{slice_get}
use mathlib.Core.List.{List, [], ◌∷◌, ◌++◌, map, append_assoc, append-nil}
use native.Mathlib.Omega.{arith}
use lib.Dec.{eqb}
use lib.ListN.{length, get_or, drop, length-append}
use borrow.Author.Tests.{not-true, eqb-false}
use Rattle.laws.specs.Lists.{All, keep}
use Rattle.laws.proofs.Tests.{lt-or-ge, and_both}
use Rattle.laws.proofs.Slices.{nth-get_or, All-append}
use Rattle.laws.proofs.Kept.{keep-hit, keep-miss}
use Rattle.capability.specs.declared.Phase.TheVariants.{Wait as Waiting}
use Rattle.runs.proofs.Tracks.{all-weaken}
use Rattle.model.specs.Traces.{Trace as Wait}
use Rattle.model.specs.State.{Log as ModelLog, log_of, count_stalls, stall_all}
use Rattle.model.specs.Units.{in_phase, waits}
use Rattle.model.specs.Issue.{wait_trace}
use Rattle.flight.specs.View.{Legend, nothing_carried}
use Rattle.stalls.specs.declared.Trace.{Trace}
use Rattle.stalls.specs.declared.Log.{Log}
use Rattle.stalls.specs.View.{Frame, view_trace, listed, view_log, LogOk}
use Rattle.stalls.specs.Promises.{Logs}
use Rattle.stalls.proofs.Logged.{listed-length}
use Rattle.units.specs.declared.Unit.{Unit as Slot}
use Rattle.units.specs.View.{view_unit, UnitOk}
use Rattle.units.proofs.Pending.{waits-empty}
use Rattle.bank.specs.declared.Units.{Units}
use Rattle.bank.specs.View.{view_units, slots, UnitsOk}
use Rattle.bank.proofs.Steps.{slot-below, slot_ok, slot-next, slots-end}
use Rattle.telling.specs.Telling.{FromUnits, Heard, Tells, source_waits}

pub stall-none : (l : ModelLog) → stall_all [] l ≡ l
unfolding stall_all count_stalls
stall-none l = ap (λ ts. log_of l.stats ts l.rows l.status) (append-nil l.traces)

pub stall-first : (t : Wait) (ts : List Wait) (l : ModelLog) → stall_all (t ∷ ts) l ≡ stall_all ts (stall_all (t ∷ []) l)
unfolding stall_all count_stalls
stall-first t ts l = ap (λ ws. log_of (stall_all (t ∷ ts) l).stats ws l.rows l.status) (sym (append_assoc l.traces (t ∷ []) ts))

-- All waits are to be told from l₀ on; those left are, from l on. At most i are told.
pub record Telling (us : Units) (l₀ l : Log) (all left : Frame → List Wait) (i : ℕ) : Type 0 where
  pub most : i ≤ us.len
  pub is : (f : Frame) → stall_all (left f) (view_log f l) ≡ stall_all (all f) (view_log f l₀)
  pub target : l.traces.target ≡ l₀.traces.target
  pub few : l.traces.len ≤ l₀.traces.len + i
  pub told : List Trace
  pub waits : listed l.traces ≡ listed l₀.traces ++ told
  pub each : All (FromUnits us) told
  pub ok : LogOk l

module _ {us : Units} {l₀ l : Log} {all left : Frame → List Wait} {i : ℕ} (e : Telling us l₀ l all left i) where
  -- A turn that tells nothing.
  pub telling-skip : {next : Frame → List Wait} → i < us.len → ((f : Frame) → left f ≡ next f) → Telling us l₀ l all next (i + 1)
  telling-skip h q =
      record {
        most = omega arith;
        is = λ f. ap (λ ws. stall_all ws (view_log f l)) (sym (q f)) ∙ e.is f;
        target = e.target;
        few = omega (arith, e.few);
        told = e.told;
        waits = e.waits;
        each = e.each;
        ok = e.ok;
      }

  -- A turn that tells t.
  pub telling-next : {next : Frame → List Wait} {r : Log} (t : Trace) → i < us.len
      → Logs r (listed l.traces ++ t ∷ []) l.traces.target (λ f. stall_all (view_trace f l.traces.target t ∷ []) (view_log f l))
      → ((f : Frame) → left f ≡ view_trace f l.traces.target t ∷ next f)
      → FromUnits us t
      → Telling us l₀ r all next (i + 1)
  telling-next {next} {r} t h s q from =
      record {
        most = omega arith;
        is =
            λ f.
            ap (stall_all (next f)) (s.is f) ∙ sym (stall-first (view_trace f l.traces.target t) (next f) (view_log f l))
            ∙ ap (λ ws. stall_all ws (view_log f l)) (sym (q f))
            ∙ e.is f;
        target = s.target ∙ e.target;
        few =
            omega
            (arith, e.few, listed-length s.ok, ap length s.waits, length-append (listed l.traces) (t ∷ []), listed-length e.ok);
        told = e.told ++ t ∷ [];
        waits = s.waits ∙ ap (λ ws. ws ++ t ∷ []) e.waits ∙ append_assoc (listed l₀.traces) e.told (t ∷ []);
        each = All-append (FromUnits us) e.told (t ∷ []) e.each (from, tt);
        ok = s.ok;
      }

  pub telling-last : ((f : Frame) → left f ≡ []) → Tells us l₀ l all
  telling-last q =
      record {
        is = λ f. sym (stall-none (view_log f l)) ∙ ap (λ ws. stall_all ws (view_log f l)) (sym (q f)) ∙ e.is f;
        target = e.target;
        few = omega (arith, e.few, e.most);
        told = e.told;
        waits = e.waits;
        each = e.each;
        ok = e.ok;
      }

-- What holds of a wait about units holds of each that was told.
pub tells_all : {us : Units} {l r : Log} {ws : Frame → List Wait} (P : Trace → Type 0) → Tells us l r ws
    → ((t : Trace) → FromUnits us t → P t)
    → All P (listed l.traces)
    → All P (listed r.traces)
tells_all {l = l} P e h a =
    rw e.waits (All-append P (listed l.traces) e.told a (all-weaken (FromUnits _) P h e.told e.each))

-- ── The waits of units for a source ─────────────────────────────────────────

-- Those of the units from place i on.
abbrev pub waits-from : Units → ℕ → Frame → List Wait
waits-from us i f = map (wait_trace (view_units f.legend us) f.names) (keep waits (drop i (view_units f.legend us)))

-- A unit that waits has a wait.
pending-some : {u : Slot} → UnitOk u → ((g : Legend) → waits (view_unit g u) ≡ true) → 0 < u.pending.len
unfolding waits view_unit
pending-some {u} ok w =
    let g : Legend = record { carried = λ p. nothing_carried; names = [] } in
    let k : eqb u.pending.len 0 ≡ false = sym (waits-empty ok.pending) ∙ not-true _ (and_both (in_phase Waiting (view_unit g u)) _ (w g)).1 in
    ⊎_elim (λ n. n) (λ n. absurd (eqb-false u.pending.len 0 k (omega arith))) (lt-or-ge 0 u.pending.len)

-- The units as a slice.
module _ {us : Units} (ok : UnitsOk us) {s : List Slot} (e : s ≡ slots us) where
  -- A turn at the unit of place i.
  module _ (d : Slot) {i : ℕ} (h : i < length s) where
    module _ {l₀ l : Log} (t : Telling us l₀ l (waits-from us 0) (waits-from us i) i) where
      pub waits-skip : ((g : Legend) → waits (view_unit g (get_or s i d)) ≡ false) → Telling us l₀ l (waits-from us 0) (waits-from us (i + 1)) (i + 1)
      waits-skip w =
          telling-skip t (slot-below ok e h)
          (λ f.
          let told = wait_trace (view_units f.legend us) f.names in
          ap (λ x. map told (keep waits x)) (slot-next ok e d h f.legend).is ∙ ap (map told) (keep-miss waits (w f.legend) _))

      pub waits-told : {r : Log} {x : Trace} → ((g : Legend) → waits (view_unit g (get_or s i d)) ≡ true) → Heard us (get_or s i d) x
          → Logs r (listed l.traces ++ x ∷ []) l.traces.target (λ f. stall_all (view_trace f l.traces.target x ∷ []) (view_log f l))
          → Telling us l₀ r (waits-from us 0) (waits-from us (i + 1)) (i + 1)
      waits-told {x = x} w u q =
          telling-next t x (slot-below ok e h) q
          (λ f.
          let told = wait_trace (view_units f.legend us) f.names in
          ap (λ y. map told (keep waits y)) (slot-next ok e d h f.legend).is ∙ ap (map told) (keep-hit waits (w f.legend) _)
          ∙ ap (λ y. y ∷ waits-from us (i + 1) f) (sym (u.is f l.traces.target)))
          (u.from i (ap (λ y. slice_get y i) (sym e) ∙ nth-get_or s d h) (pending-some (slot_ok ok e d h) w))

  pub waits-end : {l₀ l : Log} {i : ℕ} → Telling us l₀ l (waits-from us 0) (waits-from us i) i → length s ≤ i → Tells us l₀ l (source_waits us)
  unfolding keep
  waits-end t h =
      telling-last t (λ f. ap (λ y. map (wait_trace (view_units f.legend us) f.names) (keep waits y)) (slots-end ok e f.legend h))
