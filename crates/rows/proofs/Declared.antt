-- Every unit is of a declared kind, on every engine.
use Prim.Native.Nat.{ℕ, zero, suc, ◌+◌, ◌≤◌, ◌<◌}
use native.Mathlib.Omega.{arith}
use mathlib.Core.Path.{◌≡◌}
use mathlib.Core.Bool.{Bool, true, false, cond}
use Rattle.std.specs.Prelude.{Option, None, Some}
use mathlib.Core.List.{List, [], ◌∷◌, map}
use lib.ListN.{length}
use Rattle.laws.specs.Lists.{All, modify}
use Rattle.laws.specs.Texts.{Text}
use Rattle.model.specs.Config.{UnitSpec}
use Rattle.model.specs.Op.{Op}
use Rattle.model.specs.Registers.{resolve}
use Rattle.model.specs.Units.{FunctionalUnit, begin, build_units, clear, clear_hazard, instances, mark_hazard, occupy, read_one, tick, units, with_busy, without_waits}
use Rattle.model.specs.State.{State}
use Rattle.model.specs.Write.{Blocked, blocked_kind, mark_blocked, open_cycle, put_back, retry, start_cycle, stopped, take_out, writable_unit, writing}
use Rattle.model.specs.Issue.{complete_offer, free_unit, issue, issue_choose, issue_front, issue_to, issuing, learn, taken, waits_on}
use Rattle.model.specs.Scoreboard.{after_issue, advance, before_issue, close_cycle, closed, rebuilt, scoreboard, stops}
use Rattle.runs.proofs.Tracks.{all_append, all_map, all-modify}

abbrev pub Below : ℕ → FunctionalUnit → Type 0
Below n u = u.spec < n

-- The kinds are ks, and every unit is of one of them.
pub record Kinds (ks : List UnitSpec) (s : State) : Type 0 where
  pub same : s.machine.specs ≡ ks
  pub known : All (Below (length ks)) s.units

module _ (n : ℕ) where
  kinds-instances : (spec i c : ℕ) → spec < n → All (Below n) (instances spec i c)
  unfolding units
  kinds-instances spec i zero l = tt
  kinds-instances spec i (suc c) l = (l, kinds-instances spec (suc i) c l)

  pub kinds-built : (spec : ℕ) (ks : List UnitSpec) → spec + length ks ≤ n → All (Below n) (build_units spec ks)
  unfolding units
  kinds-built spec [] l = tt
  kinds-built spec (k ∷ ks) l =
      all_append (Below n) (instances spec 0 k.capacity) (build_units (suc spec) ks) (kinds-instances spec 0 k.capacity (omega arith))
      (kinds-built (suc spec) ks (omega arith))

  pub kinds-rebuilt
      : (b : Bool) (ks : List UnitSpec) (us : List FunctionalUnit) → length ks ≤ n → All (Below n) us → All (Below n) (rebuilt b ks us)
  unfolding scoreboard
  kinds-rebuilt true ks us l p = p
  kinds-rebuilt false ks us l p = kinds-built 0 ks (omega arith)

  kinds-marked : (bs : List (ℕ × Blocked)) (us : List FunctionalUnit) → All (Below n) us → All (Below n) (mark_blocked bs us)
  unfolding writing units
  kinds-marked [] us p = p
  kinds-marked (b ∷ bs) us p =
      kinds-marked bs _ (all-modify (Below n) b.0 (mark_hazard (blocked_kind b.1)) (λ u x. x) us p)

  kinds-out : (w : Option ℕ) (us : List FunctionalUnit) → All (Below n) us → All (Below n) (take_out w us)
  unfolding writing
  kinds-out None us p = p
  kinds-out (Some i) us p = all-modify (Below n) i (with_busy false) (λ u x. x) us p

  kinds-back : (w : Option ℕ) (us : List FunctionalUnit) → All (Below n) us → All (Below n) (put_back w us)
  unfolding writing
  kinds-back None us p = p
  kinds-back (Some i) us p = all-modify (Below n) i (with_busy true) (λ u x. x) us p

  pub kinds-start : (s : State) → All (Below n) s.units → All (Below n) (start_cycle s).units
  unfolding writing units
  kinds-start s p =
      let t = writable_unit (open_cycle s).units in
      kinds-out t.found (mark_blocked t.turned_away (open_cycle s).units)
      (kinds-marked t.turned_away (open_cycle s).units (all_map (Below n) (Below n) clear_hazard (λ u x. x) s.units p))

  pub kinds-retry : (x : Text) (s : State) → All (Below n) s.units → All (Below n) (retry x s).units
  unfolding writing
  kinds-retry x s p = kinds-back s.offer.writing s.units p

  pub kinds-stopped : (a b : Bool) (x : Text) (s : State) → All (Below n) s.units → All (Below n) (stopped a b x s).units
  unfolding writing units
  kinds-stopped a b x s p = all_map (Below n) (Below n) clear (λ u y. y) s.units p

-- ── advance ─────────────────────────────────────────────────────────────────

module _ (ks : List UnitSpec) where
  abbrev P : FunctionalUnit → Type 0
  P = Below (length ks)

  kinds-closed : (s : State) → Kinds ks s → Kinds ks (closed s)
  unfolding scoreboard issuing units
  kinds-closed s h = go s.offer.writing
    where
      go : (w : Option ℕ) → Kinds ks (close_cycle (complete_offer w s))
      go None = record { same = h.same; known = h.known }
      go (Some i) =
          record {
            same = h.same;
            known =
                all_map P P (without_waits i) (λ u x. x) (modify i clear s.units)
                (all-modify P i clear (λ u x. x) s.units h.known);
          }

  kinds-units : (us : List FunctionalUnit) → All P us → All P (map read_one (map begin (map tick us)))
  unfolding units
  kinds-units us p =
      all_map P P read_one (λ u x. x) (map begin (map tick us)) (all_map P P begin (λ u x. x) (map tick us) (all_map P P tick (λ u x. x) us p))

  kinds-before : (r : Option ℕ) (s : State) → Kinds ks s → Kinds ks (before_issue r s)
  unfolding scoreboard issuing
  kinds-before None s h = record { same = h.same; known = kinds-units s.units h.known }
  kinds-before (Some n) s h = record { same = h.same; known = kinds-units s.units h.known }

  kinds-to
      : (o : Op) (rest : List Op) (r w : List ℕ) (tk fr : Option ℕ) (s : State) → Kinds ks s → Kinds ks (issue_to o rest r w tk fr s)
  unfolding issuing units
  kinds-to o rest r w (Some t) fr s h = record { same = h.same; known = h.known }
  kinds-to o rest r w None None s h = record { same = h.same; known = h.known }
  kinds-to o rest r w None (Some i) s h =
      record { same = h.same; known = all-modify P i (occupy o r w (waits_on s.producer r)) (λ u x. x) s.units h.known }

  kinds-choose : (b y : Bool) (o : Op) (rest : List Op) (s : State) → Kinds ks s → Kinds ks (issue_choose b y o rest s)
  unfolding issuing
  kinds-choose true y o rest s h = record { same = h.same; known = h.known }
  kinds-choose false true o rest s h = record { same = h.same; known = h.known }
  kinds-choose false false o rest s h =
      let x = resolve s.names o.info in
      kinds-to o rest x.read x.written (taken (learn x.names s).producer x.written)
      (free_unit s.machine.specs s.units o.core.decoded.class) (learn x.names s)
      (record { same = h.same; known = h.known })

  kinds-issue : (s : State) → Kinds ks s → Kinds ks (issue s)
  unfolding issuing
  kinds-issue s h = front s.queue
    where
      front : (q : List Op) → Kinds ks (issue_front q s)
      front [] = h
      front (o ∷ rest) = kinds-choose s.marks.branch s.marks.system o rest s h

  pub kinds-issued : (r : Option ℕ) (s : State) → Kinds ks s → Kinds ks (issue (before_issue r (closed s)))
  kinds-issued r s h = kinds-issue (before_issue r (closed s)) (kinds-before r (closed s) (kinds-closed s h))

  pub kinds-advance : (r : Option ℕ) (s : State) → Kinds ks s → Kinds ks (advance r s)
  unfolding scoreboard issuing
  kinds-advance r s h = go (stops s)
    where
      go : (b : Bool) → Kinds ks (cond b (closed s) (after_issue (issue (before_issue r (closed s)))))
      go true = kinds-closed s h
      go false = let x = kinds-issued r s h in record { same = x.same; known = x.known }
