-- The two halves of a cycle: registers stay known, waits name places of units, and a unit that has read its operands tells the wait that it told before.
use Prim.Native.Nat.{ℕ}
use mathlib.Core.Path.{◌≡◌, refl, sym, ap, ◌∙◌}
use mathlib.Core.Bool.{Bool, true, false, cond, not, ◌&&◌}
use Rattle.std.specs.Prelude.{Option, None, Some, option_map, slice_get}
use mathlib.Core.List.{List, [], ◌∷◌, map, map-id}
use lib.Dec.{eqb}
use lib.ListN.{length}
use Rattle.laws.specs.Optional.{value_or}
use Rattle.laws.specs.Lists.{All, is_empty, keep}
use Rattle.laws.specs.Texts.{Text}
use Rattle.laws.proofs.Tests.{and-no-second}
use Rattle.laws.proofs.Maps.{nth-map, keep-map, map-swap}
use Rattle.capability.specs.declared.PipelineHazardKind.TheVariants.{ReadAfterWrite}
use Rattle.capability.specs.declared.Phase.TheVariants.{Wait as Waiting, Read}
use Rattle.capability.specs.Numbers.{phase_number}
use Rattle.model.specs.Op.{mnemonic}
use Rattle.model.specs.Registers.{name_of}
use Rattle.model.specs.Traces.{Trace as Wait, waits_for, trace_of, EXECUTE, ISSUE}
use Rattle.model.specs.Units.{FunctionalUnit, with_busy, idle_unit, unit_at, in_phase, mark_hazard, waits, read_one, tick, begin}
use Rattle.model.specs.Write.{Blocked, blocked_kind, mark_blocked, take_out}
use Rattle.model.specs.Issue.{producer_text, wait_detail, wait_trace}
use Rattle.stalls.specs.declared.TraceList.{TraceList}
use Rattle.stalls.specs.declared.Log.{Log}
use Rattle.stalls.specs.View.{Frame as LogFrame, listed, TraceListOk}
use Rattle.stalls.proofs.Logged.{listed-length}
use Rattle.bank.specs.declared.Units.{Units}
use Rattle.bank.specs.View.{places}
use Rattle.telling.specs.Telling.{Tells}
use Rattle.telling.proofs.Tell.{tells_all}
use Rattle.board.specs.Promises.{Names}
use Rattle.board.proofs.Knowing.{Knows, knows-map, knows-modify, busy-knows, mark_hazard-knows, tick-knows, begin-knows, read-knows}
use Rattle.board.proofs.Counting.{More, names_more}

-- ── Registers ───────────────────────────────────────────────────────────────

module _ (n : ℕ) where
  pub marked-knows : (bs : List (ℕ × Blocked)) (us : List FunctionalUnit) → All (Knows n) us → All (Knows n) (mark_blocked bs us)
  unfolding mark_blocked
  marked-knows [] us a = a
  marked-knows (b ∷ bs) us a =
      marked-knows bs _ (knows-modify n b.0 (mark_hazard (blocked_kind b.1)) (mark_hazard-knows n (blocked_kind b.1)) us a)

  pub taken-knows : (o : Option ℕ) (us : List FunctionalUnit) → All (Knows n) us → All (Knows n) (take_out o us)
  unfolding take_out
  taken-knows None us a = a
  taken-knows (Some i) us a = knows-modify n i (with_busy false) (busy-knows n false) us a

  pub stepped-knows : (us : List FunctionalUnit) → All (Knows n) us → All (Knows n) (map read_one (map begin (map tick us)))
  stepped-knows us a =
      knows-map n read_one (read-knows n) (map begin (map tick us))
      (knows-map n begin (begin-knows n) (map tick us) (knows-map n tick (tick-knows n) us a))

-- ── Places ──────────────────────────────────────────────────────────────────

-- Waits told about units name places of units, and so of any list that has them.
pub told_names : {us : Units} {l r : Log} {ws : LogFrame → List Wait} (qs : List ℕ) → More (places us) qs → Tells us l r ws
    → All (Names qs) (listed l.traces) → All (Names qs) (listed r.traces)
told_names {us} qs h e a =
    tells_all (Names qs) e (λ t w. (names_more (places us) qs h (t ∷ []) (record { mine = w.mine; other = w.other }, tt)).0) a

-- ── The log ─────────────────────────────────────────────────────────────────

-- Nothing is listed.
pub none_listed : {t : TraceList} → TraceListOk t → listed t ≡ [] → t.len ≡ 0
none_listed ok e = sym (listed-length ok) ∙ ap length e

-- ── A unit that has read its operands ───────────────────────────────────────

read-waits : (u : FunctionalUnit) → waits (read_one u) ≡ waits u
unfolding waits read_one in_phase
read-waits u = go (is_empty u.pending)
  where
    phased : Bool → Bool
    phased b = u.busy && eqb (phase_number (cond b Read u.phase)) (phase_number Waiting)

    go : (e : Bool) → (phased (phased false && e) && not e) ≡ (phased false && not e)
    go true = and-no-second (phased (phased false && true)) refl ∙ sym (and-no-second (phased false) refl)
    go false = ap (λ b. phased b && true) (and-no-second (phased false) refl)

read-producer : (us : List FunctionalUnit) (j : ℕ) → producer_text (unit_at (map read_one us) j) ≡ producer_text (unit_at us j)
unfolding unit_at producer_text mnemonic read_one
read-producer us j = ap (λ o. producer_text (value_or (idle_unit 0 0) o)) (nth-map read_one us j) ∙ go (slice_get us j)
  where
    go : (o : Option FunctionalUnit) → producer_text (value_or (idle_unit 0 0) (option_map read_one o)) ≡ producer_text (value_or (idle_unit 0 0) o)
    go None = refl
    go (Some u) = refl

read-trace : (us : List FunctionalUnit) (ns : List Text) (u : FunctionalUnit) → wait_trace (map read_one us) ns (read_one u) ≡ wait_trace us ns u
unfolding wait_trace wait_detail mnemonic read_one
read-trace us ns u =
    let p = value_or (0, 0) (slice_get u.pending 0) in
    ap (λ o. trace_of ReadAfterWrite EXECUTE ISSUE (waits_for (mnemonic u.op) (name_of ns p.0) o)) (read-producer us p.1)

pub read-traces : (us : List FunctionalUnit) (ns : List Text)
    → map (wait_trace (map read_one us) ns) (keep waits (map read_one us)) ≡ map (wait_trace us ns) (keep waits us)
read-traces us ns =
    ap (map (wait_trace (map read_one us) ns)) (keep-map read_one waits waits read-waits us)
    ∙ map-swap read_one (λ u. u) (wait_trace (map read_one us) ns) (wait_trace us ns) (read-trace us ns) (keep waits us)
    ∙ ap (map (wait_trace us ns)) (map-id (keep waits us))
