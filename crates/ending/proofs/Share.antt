-- The work of the operations in flight whose numbers are among p: no step of a cycle adds to it.
use Prim.Native.Nat.{ℕ, ◌+◌, ◌-◌, ◌≤◌, ◌<◌}
use native.Mathlib.Omega.{arith}
use mathlib.Core.Path.{◌≡◌, refl, sym, ◌∙◌, ap, ap₂, subst}
use mathlib.Core.Bool.{Bool, true, false, cond, not, ◌&&◌, ◌||◌, false≢true, true≢false}
use Rattle.std.specs.Prelude.{Option, None, Some, slice_get, is_some}
use mathlib.Core.List.{List, [], ◌∷◌, map}
use Rattle.laws.specs.Lists.{is_empty, modify}
use Rattle.std.specs.List.{list_any}
use Rattle.laws.specs.Texts.{Text}
use Rattle.laws.proofs.Choices.{none-some}
use Rattle.capability.specs.declared.PipelineHazardKind.{PipelineHazardKind}
use Rattle.capability.specs.declared.PipelineHazardKind.TheVariants.{BranchFlush, FunctionalUnitBusy, WriteAfterWrite}
use Rattle.capability.specs.declared.Phase.{Phase}
use Rattle.capability.specs.declared.Phase.TheVariants.{Execute, Read, Wait, Write}
use Rattle.model.specs.Op.{Op, with_hazard}
use Rattle.model.specs.Registers.{producer_of, resolve}
use Rattle.model.specs.State.{State}
use Rattle.model.specs.Traces.{Detail}
use Rattle.model.specs.Units.{FunctionalUnit, clear, clear_hazard, is_busy, mark_hazard, occupy, units, with_busy, without_waits}
use Rattle.model.specs.Write.{Blocked, blocked_kind, mark_blocked, writing}
use Rattle.model.specs.Issue.{block_issue, complete_offer, free_unit, issue, issue_choose, issue_front, issue_to, issuing, learn, taken, waits_on}
use Rattle.model.specs.Scoreboard.{before_issue, close_cycle, closed, idle, scoreboard}
use Rattle.invariant.proofs.Tables.{pad-same}
use Rattle.ending.proofs.Totals.{total, total-map, total-map-less, total-map-same, total-modify, total-modify-at, total-modify-most, total-modify-same}
use Rattle.ending.proofs.Work.{map-three, op-work, phase-work, three, unit-work, work_less, work-three}

-- The first of the queue issues where there is no mark, none of its destinations is claimed, and a unit of its kind is free.
pub record Clear (s : State) : Type 0 where
  pub no_branch : s.marks.branch ≡ false
  pub no_system : s.marks.system ≡ false
  pub unclaimed : (r : ℕ) → producer_of s.producer r ≡ None
  pub free : (o : Op) → (i : ℕ) × (free_unit s.machine.specs s.units o.core.decoded.class ≡ Some i)

none-taken : (ps : List (Option ℕ)) → ((r : ℕ) → producer_of ps r ≡ None) → (ws : List ℕ) → taken ps ws ≡ None
unfolding issuing
none-taken ps h [] = refl
none-taken ps h (r ∷ rs) = ap (λ (x : Option ℕ). cond (is_some x) (Some r) (taken ps rs)) (h r) ∙ none-taken ps h rs

-- What is counted where b holds.
counted : (b : Bool) (m n : ℕ) → m ≤ n → cond b m 0 ≤ cond b n 0
counted true m n l = l
counted false m n l = omega arith

counted-less : (b : Bool) (m n : ℕ) → b ≡ true → m < n → cond b m 0 < cond b n 0
counted-less true m n e l = l
counted-less false m n e l = absurd (true≢false (sym e))

pub counted_none : (b : Bool) → cond {A = ℕ} b 0 0 ≡ 0
counted_none true = refl
counted_none false = refl

module _ (p : ℕ → Bool) where
  unfoldable pub op-share : Op → ℕ
  op-share o = cond (p o.core.seq) (op-work o) 0

  unfoldable pub unit-share : FunctionalUnit → ℕ
  unit-share u = cond (p u.op.core.seq) (unit-work u) 0

  unfoldable pub share : State → ℕ
  share s = total op-share s.queue + total unit-share s.units

  -- ── The units ───────────────────────────────────────────────────────────────

  abbrev units-share : List FunctionalUnit → ℕ
  units-share us = total unit-share us

  pub share-cleared : (us : List FunctionalUnit) → units-share (map clear_hazard us) ≡ units-share us
  unfolding units unit-work unit-share
  share-cleared us = total-map-same unit-share clear_hazard (λ u. refl) us

  pub share-marked : (bs : List (ℕ × Blocked)) (us : List FunctionalUnit) → units-share (mark_blocked bs us) ≡ units-share us
  unfolding units unit-work unit-share writing
  share-marked [] us = refl
  share-marked (b ∷ bs) us =
      share-marked bs (modify b.0 (mark_hazard (blocked_kind b.1)) us)
      ∙ total-modify-same unit-share (mark_hazard (blocked_kind b.1)) (λ u. refl) b.0 us

  -- Taken out, a unit needs nothing more.
  pub share-out : (us : List FunctionalUnit) (i : ℕ) → units-share (modify i (with_busy false) us) ≤ units-share us
  unfolding unit-work unit-share
  share-out us i =
      total-modify unit-share (with_busy false) (λ u. counted (p u.op.core.seq) 0 (unit-work u) (omega arith)) i us

  pub share-out-less
      : (us : List FunctionalUnit) (i : ℕ) (u : FunctionalUnit) → slice_get us i ≡ Some u → u.busy ≡ true → u.phase ≡ Write
      → p u.op.core.seq ≡ true → units-share (modify i (with_busy false) us) < units-share us
  unfolding unit-work unit-share phase-work
  share-out-less us i u e b w t =
      let x : unit-work u ≡ 1 = ap₂ (λ (t : Bool) (q : Phase). cond t (phase-work q u.op.core.cycles_left) 0) b w in
      let y = counted-less (p u.op.core.seq) 0 (unit-work u) t (omega (arith, x)) in
      omega (arith, y, total-modify-at unit-share (with_busy false) i us u e)

  share-three : (u : FunctionalUnit) → unit-share (three u) ≤ unit-share u
  unfolding units unit-share
  share-three u = counted (p u.op.core.seq) (unit-work (three u)) (unit-work u) (work-three u)

  -- A busy unit that is not finished, and waits for nothing, needs one cycle less.
  share_less
      : (u : FunctionalUnit) → u.busy ≡ true → u.pending ≡ [] → (u.phase ≡ Write → ⊥) → p u.op.core.seq ≡ true
      → unit-share (three u) < unit-share u
  unfolding units unit-share
  share_less u b w n t = counted-less (p u.op.core.seq) (unit-work (three u)) (unit-work u) t (work_less u b w n)

  -- ── The steps of an advance ─────────────────────────────────────────────────

  pub share-closed : (s : State) → share (closed s) ≤ share s
  unfolding scoreboard issuing share units unit-work unit-share
  share-closed s = go s.offer.writing
    where
      cleared : (u : FunctionalUnit) → unit-share (clear u) ≤ unit-share u
      cleared u = let z : unit-share (clear u) ≡ 0 = counted_none (p (clear u).op.core.seq) in omega (arith, z)

      go : (w : Option ℕ) → share (close_cycle (complete_offer w s)) ≤ share s
      go None = omega arith
      go (Some i) =
          omega (
            arith,
            total-map-same unit-share (without_waits i) (λ u. refl) (modify i clear s.units),
            total-modify unit-share clear cleared i s.units,
          )

  pub share-before : (s : State) → share (before_issue None s) ≤ share s
  unfolding scoreboard issuing share
  share-before s =
      omega (arith, ap units-share (map-three s.units), total-map unit-share three share-three s.units)

  pub share-before-less
      : (s : State) (i : ℕ) (u : FunctionalUnit) → slice_get s.units i ≡ Some u → u.busy ≡ true → u.pending ≡ [] → (u.phase ≡ Write → ⊥)
      → p u.op.core.seq ≡ true → share (before_issue None s) < share s
  unfolding scoreboard issuing share
  share-before-less s i u e b w n t =
      omega (
        arith,
        ap units-share (map-three s.units),
        total-map-less unit-share three share-three s.units i u e (share_less u b w n t),
      )

  share-blocked : (x : PipelineHazardKind) (d : Detail) (s : State) → share (block_issue x d s) ≤ share s
  unfolding issuing share op-work op-share
  share-blocked x d s = omega (arith, total-modify-same op-share (with_hazard (Some x)) (λ o. refl) 0 s.queue)

  -- Issued, an operation needs one cycle less.
  abbrev issued-share : Op → ℕ
  issued-share o = cond (p o.core.seq) (4 + (o.core.cycles_left - 1)) 0

  placed
      : (o : Op) (rest : List Op) (r w : List ℕ) (i : ℕ) (s : State) → s.queue ≡ o ∷ rest
      → share (issue_to o rest r w None (Some i) s) + op-share o ≤ share s + issued-share o
  unfolding issuing share units unit-work phase-work unit-share total
  placed o rest r w i s q =
      let x : total op-share s.queue ≡ op-share o + total op-share rest = ap (total op-share) q in
      omega (
        arith,
        x,
        total-modify-most unit-share (occupy o r w (waits_on s.producer r)) (issued-share o) (λ u. omega arith) i s.units,
      )

  share-placed
      : (o : Op) (rest : List Op) (r w : List ℕ) (i : ℕ) (s : State) → s.queue ≡ o ∷ rest
      → share (issue_to o rest r w None (Some i) s) ≤ share s
  unfolding op-share op-work
  share-placed o rest r w i s q =
      omega (
        arith,
        placed o rest r w i s q,
        counted (p o.core.seq) (4 + (o.core.cycles_left - 1)) (op-work o) (omega arith),
      )

  share-placed-less
      : (o : Op) (rest : List Op) (r w : List ℕ) (i : ℕ) (s : State) → s.queue ≡ o ∷ rest → p o.core.seq ≡ true
      → share (issue_to o rest r w None (Some i) s) < share s
  unfolding op-share op-work
  share-placed-less o rest r w i s q t =
      omega (
        arith,
        placed o rest r w i s q,
        counted-less (p o.core.seq) (4 + (o.core.cycles_left - 1)) (op-work o) t (omega arith),
      )

  share-to
      : (o : Op) (rest : List Op) (r w : List ℕ) (t f : Option ℕ) (s : State) → s.queue ≡ o ∷ rest
      → share (issue_to o rest r w t f s) ≤ share s
  unfolding issuing
  share-to o rest r w (Some x) f s q = share-blocked WriteAfterWrite _ s
  share-to o rest r w None None s q = share-blocked FunctionalUnitBusy _ s
  share-to o rest r w None (Some i) s q = share-placed o rest r w i s q

  share-learned : (ns : List Text) (s : State) → share (learn ns s) ≡ share s
  unfolding issuing share
  share-learned ns s = refl

  share-choose
      : (b y : Bool) (o : Op) (rest : List Op) (s : State) → s.queue ≡ o ∷ rest → share (issue_choose b y o rest s) ≤ share s
  unfolding issuing
  share-choose true y o rest s q = share-blocked BranchFlush _ s
  share-choose false true o rest s q = share-blocked FunctionalUnitBusy _ s
  share-choose false false o rest s q =
      let x = resolve s.names o.info in
      let a =
      share-to o rest x.read x.written (taken (learn x.names s).producer x.written)
      (free_unit s.machine.specs s.units o.core.decoded.class) (learn x.names s) q in
      omega (arith, a, share-learned x.names s)

  pub share-issue : (s : State) → share (issue s) ≤ share s
  unfolding issuing
  share-issue s = go s.queue refl
    where
      go : (q : List Op) → s.queue ≡ q → share (issue_front q s) ≤ share s
      go [] e = omega arith
      go (o ∷ rest) e = share-choose s.marks.branch s.marks.system o rest s e

  share-to-less
      : (o : Op) (rest : List Op) (r w : List ℕ) (t f : Option ℕ) (s : State) → s.queue ≡ o ∷ rest → p o.core.seq ≡ true → t ≡ None
      → (i : ℕ) → f ≡ Some i → share (issue_to o rest r w t f s) < share s
  share-to-less o rest r w (Some x) f s q n e i g = none-some x (sym e)
  share-to-less o rest r w None None s q n e i g = none-some i g
  share-to-less o rest r w None (Some j) s q n e i g = share-placed-less o rest r w j s q n

  pub share-issue-less
      : (s : State) (o : Op) (rest : List Op) → s.queue ≡ o ∷ rest → p o.core.seq ≡ true → Clear s → share (issue s) < share s
  unfolding issuing share
  share-issue-less s o rest q n h =
      subst (λ (x : List Op). share (issue_front x s) < share s) (sym q)
      (subst (λ (b : Bool). share (issue_choose b s.marks.system o rest s) < share s) (sym h.no_branch)
      (subst (λ (y : Bool). share (issue_choose false y o rest s) < share s) (sym h.no_system) placed_first))
    where
      placed_first : share (issue_choose false false o rest s) < share s
      placed_first =
          let x = resolve s.names o.info in
          let f = h.free o in
          share-to-less o rest x.read x.written (taken (learn x.names s).producer x.written)
          (free_unit s.machine.specs s.units o.core.decoded.class) (learn x.names s) q n
          (none-taken (learn x.names s).producer (λ r. pad-same s.producer x.names r ∙ h.unclaimed r) x.written) f.0 f.1

-- ── All of them ─────────────────────────────────────────────────────────────

abbrev pub everyone : ℕ → Bool
everyone n = true

abbrev pub work : State → ℕ
work s = share everyone s

busy-work : (us : List FunctionalUnit) → list_any is_busy us ≡ true → 0 < total (unit-share everyone) us
unfolding units unit-work phase-work unit-share total
busy-work [] e = absurd (false≢true e)
busy-work (u ∷ us) e = go u.busy u.phase e (busy-work us)
  where
    go
        : (b : Bool) (q : Phase) → (b || list_any is_busy us) ≡ true → (list_any is_busy us ≡ true → 0 < total (unit-share everyone) us)
        → 0 < cond b (phase-work q u.op.core.cycles_left) 0 + total (unit-share everyone) us
    go true Wait e h = omega arith
    go true Read e h = omega arith
    go true Execute e h = omega arith
    go true Write e h = omega arith
    go false q e h = omega (arith, h e)

-- While anything is in flight there is work.
pub some-work : (s : State) → idle s ≡ false → 0 < work s
unfolding scoreboard is_empty share op-share op-work total
some-work s n = go s.queue (list_any is_busy s.units) refl n
  where
    go
        : (q : List Op) (b : Bool) → list_any is_busy s.units ≡ b → (is_empty q && not b) ≡ false
        → 0 < total (op-share everyone) q + total (unit-share everyone) s.units
    go (o ∷ os) b e f = omega arith
    go [] true e f = omega (arith, busy-work s.units e)
    go [] false e f = absurd (true≢false f)
