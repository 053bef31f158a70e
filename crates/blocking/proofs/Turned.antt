-- A unit that was turned away: what its wait says, by the reason, and the loop that tells the waits of all.
use Prim.Native.Nat.{ℕ, ◌+◌, ◌≤◌, ◌<◌}
use mathlib.Core.Path.{◌≡◌, refl, sym, subst, ap, ap₂, ◌∙◌}
use mathlib.Core.Logic.{inl}
use mathlib.Core.List.{List, [], ◌∷◌, ◌++◌, map}
use native.Mathlib.Omega.{arith}
use lib.ListN.{length, get_or, take, drop}
use Rattle.capability.specs.declared.PipelineHazardKind.TheVariants.{FunctionalUnitBusy, WriteAfterRead}
use Rattle.model.specs.Registers.{name_of}
use Rattle.model.specs.Traces.{Trace as Wait, overwrites, memory_order, drains, trace_of, READ, WRITE}
use Rattle.model.specs.Write.{blocked_kind, blocked_detail, blocked_trace}
use Rattle.model.specs.State.{stall_all}
use Rattle.timeline.specs.declared.WaitForm.TheVariants.{Overwrites, MemoryOrder, Drains}
use Rattle.timeline.specs.Waits.{detail_of}
use Rattle.stalls.specs.declared.Trace.{Trace}
use Rattle.stalls.specs.declared.Log.{Log}
use Rattle.stalls.specs.View.{Frame, view_trace, listed, view_log, logs}
use Rattle.stalls.specs.Promises.{is_redirect, names_register, Logs}
use Rattle.bank.specs.declared.Units.{Units}
use Rattle.bank.specs.View.{view_units}
use Rattle.writing.specs.declared.Blocked.TheVariants.{War, Memory, Drain}
use Rattle.writing.specs.declared.Turned.{Turned}
use Rattle.writing.specs.declared.Tried.{Tried}
use Rattle.writing.specs.View.{view_reason, view_turned, turned_away, BlockedKnown, TurnedOk, TriedOk}
use Rattle.writing.proofs.Trying.{away-few, away-next, away-end}
use Rattle.telling.specs.Telling.{PlaceOf, Tells}
use Rattle.telling.proofs.Tell.{Telling, telling-next, telling-last}
use Rattle.blocking.specs.Told.{Told, blocked_waits}

-- ── One ─────────────────────────────────────────────────────────────────────

module _ {us : Units} {t : Turned} {m : ℕ} (mine : PlaceOf us t.unit m) where
  pub told-war : {r j o : ℕ} → TurnedOk us t → PlaceOf us j o → t.blocked ≡ War r j
      → Told us t (record { form = Overwrites; mine = m; other = o; number = r })
  unfolding logs detail_of view_turned view_reason blocked_trace blocked_kind blocked_detail is_redirect
  told-war {r} {j} ok other e =
      record {
        is =
            λ f target.
            ap₂ (λ x y. trace_of WriteAfterRead READ WRITE (overwrites x (name_of f.names r) y)) (mine.is f.legend) (other.is f.legend)
            ∙ ap (λ b. blocked_trace (view_units f.legend us) f.names (t.unit, view_reason b)) (sym e);
        from =
            record { mine = mine.placed; other = other.placed; known = λ n a h. subst (BlockedKnown n) e (ok.known n a); other_form = refl };
      }

  pub told-memory : {j o : ℕ} → PlaceOf us j o → t.blocked ≡ Memory j
      → Told us t (record { form = MemoryOrder; mine = m; other = o; number = 0 })
  unfolding logs detail_of view_turned view_reason blocked_trace blocked_kind blocked_detail is_redirect names_register
  told-memory {j} other e =
      record {
        is =
            λ f target.
            ap₂ (λ x y. trace_of FunctionalUnitBusy READ WRITE (memory_order x y)) (mine.is f.legend) (other.is f.legend)
            ∙ ap (λ b. blocked_trace (view_units f.legend us) f.names (t.unit, view_reason b)) (sym e);
        from =
            record { mine = mine.placed; other = other.placed; known = λ n a h. absurd (let z : ◌≡◌ {A = ℕ} 0 1 = cc in omega arith); other_form = refl };
      }

  pub told-drain : t.blocked ≡ Drain → Told us t (record { form = Drains; mine = m; other = 80; number = 0 })
  unfolding logs detail_of view_turned view_reason blocked_trace blocked_kind blocked_detail is_redirect names_register
  told-drain e =
      record {
        is =
            λ f target.
            ap (λ x. trace_of FunctionalUnitBusy READ WRITE (drains x)) (mine.is f.legend)
            ∙ ap (λ b. blocked_trace (view_units f.legend us) f.names (t.unit, view_reason b)) (sym e);
        from =
            record { mine = mine.placed; other = inl refl; known = λ n a h. absurd (let z : ◌≡◌ {A = ℕ} 0 1 = cc in omega arith); other_form = refl };
      }

-- ── All ─────────────────────────────────────────────────────────────────────

-- The waits of those turned away, from place k on.
abbrev pub blocked-from : Units → Tried → ℕ → Frame → List Wait
blocked-from us tr k f = map (blocked_trace (view_units f.legend us) f.names) (drop k (turned_away tr))

-- They are lent as a slice.
module _ {us : Units} {tr : Tried} (ok : TriedOk us tr) {s : List Turned} (q : s ≡ take tr.len tr.items) {l₀ l : Log} {k : ℕ}
    (e : Telling us l₀ l (blocked-from us tr 0) (blocked-from us tr k) k)
  where
    pub blocked-end : length s ≤ k → Tells us l₀ l (blocked_waits us tr)
    blocked-end h = telling-last e (λ f. ap (map (blocked_trace (view_units f.legend us) f.names)) (away-end ok q h))

    pub blocked-told : {r : Log} (d : Turned) {t : Trace} → k < length s → Told us (get_or s k d) t
        → Logs r (listed l.traces ++ t ∷ []) l.traces.target (λ f. stall_all (view_trace f l.traces.target t ∷ []) (view_log f l))
        → Telling us l₀ r (blocked-from us tr 0) (blocked-from us tr (k + 1)) (k + 1)
    blocked-told d {t} h x m =
        telling-next e t (omega (arith, away-few ok q)) m
        (λ f.
        ap (map (blocked_trace (view_units f.legend us) f.names)) (away-next ok q d h).is
        ∙ ap (λ y. y ∷ blocked-from us tr (k + 1) f) (sym (x.is f l.traces.target)))
        x.from
