-- Along a run: the names learned, and that every operation held is the one that was fetched under its number.
use Prim.Native.Nat.{ℕ, zero, suc, ◌≤◌}
use native.Mathlib.Omega.{arith}
use mathlib.Core.Path.{◌≡◌, refl, sym, ◌∙◌, ap, subst}
use mathlib.Core.Bool.{Bool, true, false, cond}
use Rattle.std.specs.Prelude.{Option, None, Some, slice_get}
use mathlib.Core.List.{List, [], ◌∷◌, ◌++◌, map}
use lib.Dec.{eqb}
use lib.ListN.{length, length-append}
use borrow.Author.Tests.{eqb-false}
use Rattle.capability.specs.declared.PipelineHazardKind.{PipelineHazardKind}
use Rattle.laws.specs.Lists.{All, modify}
use Rattle.std.specs.List.{list_any}
use Rattle.laws.specs.Numbers.{max64}
use Rattle.laws.specs.Optional.{when_some}
use Rattle.laws.specs.Texts.{Text}
use Rattle.model.specs.Calls.{Call, advance as advance-call, after, calls, capacity, cell, fault as fault-call, fetch, halt as halt-call, looked, looked_by, overlap, redirect, refusal, reset, resolve as resolve-call, retire, retry as retry-call, run, start, text, view}
use Rattle.model.specs.Config.{UnitSpec, with_capacity}
use Rattle.model.specs.Issue.{block_issue, complete_offer, free_unit, issue, issue_choose, issue_front, issue_to, issuing, learn, look_choose, look_front, looked_at, taken, waits_on}
use Rattle.model.specs.Op.{Given, Info, Op, no_info, with_hazard}
use Rattle.model.specs.Registers.{registers, resolve}
use Rattle.model.specs.Scoreboard.{advance, advance_looked, after_issue, before_issue, closed, fetched, fetched_op, rebuilt, scoreboard, set_capacity, stops}
use Rattle.model.specs.State.{Marks, State}
use Rattle.model.specs.Traces.{Detail}
use Rattle.model.specs.Units.{FunctionalUnit, begin, build_units, clear, clear_hazard, instances, is_busy, mark_hazard, occupy, read_one, tick, units, with_busy, without_waits}
use Rattle.model.specs.Write.{Blocked, blocked_kind, mark_blocked, open_cycle, put_back, retry, start_cycle, stopped, take_out, writable_unit, writing}
use Rattle.refusals.proofs.Demand1.{taken-checks}
use Rattle.laws.proofs.Choices.{none-some}
use Rattle.runs.specs.Runs.{given_to, accepted, NoReset}

-- ── Lists ───────────────────────────────────────────────────────────────────

pub nth_left : {A : Type 0} (xs ys : List A) (k : ℕ) (a : A) → slice_get xs k ≡ Some a → slice_get (xs ++ ys) k ≡ Some a
nth_left [] ys k a p = none-some a p
nth_left (x ∷ xs) ys zero a p = p
nth_left (x ∷ xs) ys (suc k) a p = nth_left xs ys k a p

nth_last : {A : Type 0} (xs : List A) (a : A) → slice_get (xs ++ (a ∷ [])) (length xs) ≡ Some a
nth_last [] a = refl
nth_last (x ∷ xs) a = nth_last xs a

pub append-nil : {A : Type 0} (xs : List A) → xs ++ [] ≡ xs
append-nil [] = refl
append-nil (x ∷ xs) = ap (λ l. x ∷ l) (append-nil xs)

pub append-three : {A : Type 0} (xs ys zs : List A) → (xs ++ ys) ++ zs ≡ xs ++ (ys ++ zs)
append-three [] ys zs = refl
append-three (x ∷ xs) ys zs = ap (λ l. x ∷ l) (append-three xs ys zs)

abbrev pub Each : {A : Type 0} → (A → Type 0) → Option A → Type 0
Each P None = Unit {0}
Each P (Some x) = P x

module _ {A : Type 0} (P : A → Type 0) where
  pub all_map : {B : Type 0} (Q : B → Type 0) (f : A → B) → ((x : A) → P x → Q (f x)) → (xs : List A) → All P xs → All Q (map f xs)
  all_map Q f r [] p = tt
  all_map Q f r (x ∷ xs) p = (r x p.0, all_map Q f r xs p.1)

  pub all-weaken : (Q : A → Type 0) → ((x : A) → P x → Q x) → (xs : List A) → All P xs → All Q xs
  all-weaken Q r [] p = tt
  all-weaken Q r (x ∷ xs) p = (r x p.0, all-weaken Q r xs p.1)

  pub all-modify : (i : ℕ) (f : A → A) → ((x : A) → P x → P (f x)) → (xs : List A) → All P xs → All P (modify i f xs)
  unfolding modify
  all-modify i f r [] p = tt
  all-modify zero f r (x ∷ xs) p = (r x p.0, p.1)
  all-modify (suc i) f r (x ∷ xs) p = (p.0, all-modify i f r xs p.1)

  pub all_append : (xs ys : List A) → All P xs → All P ys → All P (xs ++ ys)
  all_append [] ys p q = q
  all_append (x ∷ xs) ys p q = (p.0, all_append xs ys p.1 q)

  pub all_left : (xs ys : List A) → All P (xs ++ ys) → All P xs
  all_left [] ys p = tt
  all_left (x ∷ xs) ys p = (p.0, all_left xs ys p.1)

  pub all_right : (xs ys : List A) → All P (xs ++ ys) → All P ys
  all_right [] ys p = p
  all_right (x ∷ xs) ys p = all_right xs ys p.1

-- ── Names ───────────────────────────────────────────────────────────────────

-- The names after a look, if there was one.
abbrev pub learn-from : List Text → Option Op → List Text
learn-from ns None = ns
learn-from ns (Some o) = (resolve ns o.info).names

pub closed-names : (s : State) → (closed s).names ≡ s.names
unfolding issuing scoreboard
closed-names s = go s.offer.writing
  where
    go : (w : Option ℕ) → (complete_offer w s).names ≡ s.names
    go None = refl
    go (Some n) = refl

pub before-names : (r : Option ℕ) (s : State) → (before_issue r s).names ≡ s.names
unfolding scoreboard issuing
before-names None s = refl
before-names (Some n) s = refl

issue-names : (s : State) → (issue s).names ≡ learn-from s.names (looked_at s)
unfolding issuing registers
issue-names s = front s.queue
  where
    to
        : (o : Op) (rest : List Op) (r w : List ℕ) (tk fr : Option ℕ) (t : State) → (issue_to o rest r w tk fr t).names ≡ t.names
    to o rest r w (Some x) fr t = refl
    to o rest r w None None t = refl
    to o rest r w None (Some n) t = refl

    choose : (b y : Bool) (o : Op) (rest : List Op) → (issue_choose b y o rest s).names ≡ learn-from s.names (look_choose b y o)
    choose true y o rest = refl
    choose false true o rest = refl
    choose false false o rest =
        let x = resolve s.names o.info in
        to o rest x.read x.written (taken (learn x.names s).producer x.written)
        (free_unit s.machine.specs s.units o.core.decoded.class) (learn x.names s)

    front : (q : List Op) → (issue_front q s).names ≡ learn-from s.names (look_front q s.marks)
    front [] = refl
    front (o ∷ rest) = choose s.marks.branch s.marks.system o rest

advance-names : (r : Option ℕ) (s : State) → (advance r s).names ≡ learn-from s.names (advance_looked r s)
unfolding scoreboard issuing
advance-names r s = go (stops s)
  where
    go
        : (b : Bool)
        → (cond b (closed s) (after_issue (issue (before_issue r (closed s))))).names ≡ learn-from s.names (cond b None (looked_at (before_issue r (closed s))))
    go true = closed-names s
    go false =
        issue-names (before_issue r (closed s))
        ∙ ap (λ ns. learn-from ns (looked_at (before_issue r (closed s)))) (before-names r (closed s) ∙ closed-names s)

pub run-names : (s : State) (c : Call) → NoReset c → (run s c).names ≡ learn-from s.names (looked s c)
unfolding calls writing scoreboard
run-names s start n = refl
run-names s retire n = refl
run-names s (retry-call x) n = refl
run-names s (resolve-call a) n = refl
run-names s (advance-call r ml) n = advance-names r s
run-names s (fetch g ml) n = refl
run-names s (capacity k m) n = refl
run-names s (overlap b) n = refl
run-names s halt-call n = refl
run-names s (fault-call x) n = refl
run-names s (reset a ml) n = absurd n
run-names s (redirect a) n = absurd n
run-names s (view v) n = refl
run-names s (text t m) n = refl
run-names s (cell i j ml) n = refl

pub after-names : (s : State) (c : Call) → NoReset c → (after s c).names ≡ learn-from s.names (looked_by s c)
unfolding calls
after-names s c n = go (refusal s c)
  where
    go
        : (o : Option ℕ)
        → (when_some o (run s c) (λ (m : ℕ). s)).names ≡ learn-from s.names (when_some o (looked s c) (λ (m : ℕ). None))
    go None = run-names s c n
    go (Some m) = refl

-- ── Operations ──────────────────────────────────────────────────────────────

-- Of a number and an info: it was fetched so, or it stands in a unit never used.
pub data Known (is : List Info) (n : ℕ) (i : Info) : Type 0 where
  in_table : slice_get is n ≡ Some i → Known is n i
  unused : i ≡ no_info → Known is n i

abbrev pub Tracked : List Info → Op → Type 0
Tracked is o = slice_get is o.core.seq ≡ Some o.info

abbrev pub KnownUnit : List Info → FunctionalUnit → Type 0
KnownUnit is u = Known is u.op.core.seq u.op.info

-- `is` has what each accepted fetch was given.
pub record Held (is : List Info) (s : State) : Type 0 where
  pub queued : All (Tracked is) s.queue
  pub in_units : All (KnownUnit is) s.units
  pub counted : s.front.next_seq ≡ length is
  pub few : length is ≤ max64

module _ (is : List Info) where
  held-marked : (bs : List (ℕ × Blocked)) (us : List FunctionalUnit) → All (KnownUnit is) us → All (KnownUnit is) (mark_blocked bs us)
  unfolding writing units
  held-marked [] us p = p
  held-marked (b ∷ bs) us p =
      held-marked bs (modify b.0 (mark_hazard (blocked_kind b.1)) us) (all-modify (KnownUnit is) b.0 _ (λ u x. x) us p)

  held_out : (o : Option ℕ) (us : List FunctionalUnit) → All (KnownUnit is) us → All (KnownUnit is) (take_out o us)
  unfolding writing
  held_out None us p = p
  held_out (Some i) us p = all-modify (KnownUnit is) i (with_busy false) (λ u x. x) us p

  held_back : (o : Option ℕ) (us : List FunctionalUnit) → All (KnownUnit is) us → All (KnownUnit is) (put_back o us)
  unfolding writing
  held_back None us p = p
  held_back (Some i) us p = all-modify (KnownUnit is) i (with_busy true) (λ u x. x) us p

  held-instances : (spec i n : ℕ) → All (KnownUnit is) (instances spec i n)
  unfolding units
  held-instances spec i zero = tt
  held-instances spec i (suc n) = (unused refl, held-instances spec (suc i) n)

  pub held-built : (spec : ℕ) (ks : List UnitSpec) → All (KnownUnit is) (build_units spec ks)
  unfolding units
  held-built spec [] = tt
  held-built spec (k ∷ ks) =
      all_append (KnownUnit is) (instances spec 0 k.capacity) (build_units (suc spec) ks) (held-instances spec 0 k.capacity)
      (held-built (suc spec) ks)

  held-rebuilt : (b : Bool) (ks : List UnitSpec) (us : List FunctionalUnit) → All (KnownUnit is) us → All (KnownUnit is) (rebuilt b ks us)
  unfolding scoreboard units
  held-rebuilt true ks us p = p
  held-rebuilt false ks us p = held-built 0 ks

  held-closed : (s : State) → Held is s → Held is (closed s)
  unfolding scoreboard issuing units
  held-closed s h = go s.offer.writing
    where
      go : (w : Option ℕ) → Held is (Rattle.model.specs.Scoreboard.close_cycle (complete_offer w s))
      go None = record { queued = h.queued; in_units = h.in_units; counted = h.counted; few = h.few }
      go (Some n) =
          record {
            queued = h.queued;
            in_units =
                all_map (KnownUnit is) (KnownUnit is) (without_waits n) (λ u x. x) (modify n clear s.units)
                (all-modify (KnownUnit is) n clear (λ u x. unused refl) s.units h.in_units);
            counted = h.counted;
            few = h.few;
          }

  held-before : (r : Option ℕ) (s : State) → Held is s → Held is (before_issue r s)
  unfolding scoreboard issuing units
  held-before None s h =
      record {
        queued = h.queued;
        in_units =
            all_map (KnownUnit is) (KnownUnit is) read_one (λ u x. x) (map begin (map tick s.units))
            (all_map (KnownUnit is) (KnownUnit is) begin (λ u x. x) (map tick s.units)
            (all_map (KnownUnit is) (KnownUnit is) tick (λ u x. x) s.units h.in_units));
        counted = h.counted;
        few = h.few;
      }
  held-before (Some n) s h =
      record {
        queued = tt;
        in_units =
            all_map (KnownUnit is) (KnownUnit is) read_one (λ u x. x) (map begin (map tick s.units))
            (all_map (KnownUnit is) (KnownUnit is) begin (λ u x. x) (map tick s.units)
            (all_map (KnownUnit is) (KnownUnit is) tick (λ u x. x) s.units h.in_units));
        counted = h.counted;
        few = h.few;
      }

  held-block : (k : PipelineHazardKind) (d : Detail) (s : State) → Held is s → Held is (block_issue k d s)
  unfolding issuing
  held-block k d s h =
      record {
        queued = all-modify (Tracked is) 0 (with_hazard (Some k)) (λ o x. x) s.queue h.queued;
        in_units = h.in_units;
        counted = h.counted;
        few = h.few;
      }

  held-issue-to
      : (o : Op) (rest : List Op) (r w : List ℕ) (tk fr : Option ℕ) (s : State) → Tracked is o → All (Tracked is) rest → Held is s
      → Held is (issue_to o rest r w tk fr s)
  unfolding issuing units
  held-issue-to o rest r w (Some x) fr s p q h = held-block _ _ s h
  held-issue-to o rest r w None None s p q h = held-block _ _ s h
  held-issue-to o rest r w None (Some n) s p q h =
      record {
        queued = q;
        in_units = all-modify (KnownUnit is) n (occupy o r w (waits_on s.producer r)) (λ u x. in_table p) s.units h.in_units;
        counted = h.counted;
        few = h.few;
      }

  held-choose : (b y : Bool) (o : Op) (rest : List Op) (s : State) → Tracked is o → All (Tracked is) rest → Held is s → Held is (issue_choose b y o rest s)
  unfolding issuing
  held-choose true y o rest s p q h = held-block _ _ s h
  held-choose false true o rest s p q h = held-block _ _ s h
  held-choose false false o rest s p q h =
      let x = resolve s.names o.info in
      held-issue-to o rest x.read x.written (taken (learn x.names s).producer x.written)
      (free_unit s.machine.specs s.units o.core.decoded.class) (learn x.names s) p q
      (record { queued = h.queued; in_units = h.in_units; counted = h.counted; few = h.few })

  held-issue : (s : State) → Held is s → Held is (issue s)
  unfolding issuing
  held-issue s h = front s.queue h.queued
    where
      front : (q : List Op) → All (Tracked is) q → Held is (issue_front q s)
      front [] p = h
      front (o ∷ rest) p = held-choose s.marks.branch s.marks.system o rest s p.0 p.1 h

  -- Only what stands in the queue, the units and the count matters.
  held-as
      : (s t : State) → s.queue ≡ t.queue → s.units ≡ t.units → s.front.next_seq ≡ t.front.next_seq → Held is s → Held is t
  held-as s t p q r h =
      record {
        queued = subst (All (Tracked is)) p h.queued;
        in_units = subst (All (KnownUnit is)) q h.in_units;
        counted = sym r ∙ h.counted;
        few = h.few;
      }

  held-advance : (r : Option ℕ) (s : State) → Held is s → Held is (advance r s)
  unfolding scoreboard issuing
  held-advance r s h = go (stops s)
    where
      issued : State
      issued = issue (before_issue r (closed s))

      go : (b : Bool) → Held is (cond b (closed s) (after_issue (issue (before_issue r (closed s)))))
      go true = held-closed s h
      go false =
          held-as issued (after_issue issued) refl refl refl (held-issue (before_issue r (closed s)) (held-before r (closed s) (held-closed s h)))

  -- What an advance looks at was fetched.
  look-tracked : (q : List Op) (p : Marks) → All (Tracked is) q → Each (Tracked is) (look_front q p)
  unfolding issuing
  look-tracked [] p h = tt
  look-tracked (o ∷ rest) p h = go p.branch p.system
    where
      go : (b y : Bool) → Each (Tracked is) (look_choose b y o)
      go true y = tt
      go false true = tt
      go false false = h.0

  advance-tracked : (r : Option ℕ) (s : State) → Held is s → Each (Tracked is) (advance_looked r s)
  unfolding issuing scoreboard
  advance-tracked r s h = go (stops s)
    where
      go : (b : Bool) → Each (Tracked is) (cond b None (looked_at (before_issue r (closed s))))
      go true = tt
      go false =
          look-tracked (before_issue r (closed s)).queue (before_issue r (closed s)).marks
          (held-before r (closed s) (held-closed s h)).queued

  looked-tracked : (s : State) (c : Call) → Held is s → Each (Tracked is) (looked s c)
  unfolding calls
  looked-tracked s start h = tt
  looked-tracked s retire h = tt
  looked-tracked s (retry-call x) h = tt
  looked-tracked s (resolve-call a) h = tt
  looked-tracked s (advance-call r ml) h = advance-tracked r s h
  looked-tracked s (fetch g ml) h = tt
  looked-tracked s (capacity k m) h = tt
  looked-tracked s (overlap b) h = tt
  looked-tracked s halt-call h = tt
  looked-tracked s (fault-call x) h = tt
  looked-tracked s (reset a ml) h = tt
  looked-tracked s (redirect a) h = tt
  looked-tracked s (view v) h = tt
  looked-tracked s (text t m) h = tt
  looked-tracked s (cell i j ml) h = tt

  pub looked_by-tracked : (s : State) (c : Call) → Held is s → Each (Tracked is) (looked_by s c)
  unfolding calls
  looked_by-tracked s c h = go (refusal s c)
    where
      go : (o : Option ℕ) → Each (Tracked is) (when_some o (looked s c) (λ (n : ℕ). None))
      go None = looked-tracked s c h
      go (Some n) = tt

  held_start : (s : State) → Held is s → Held is (start_cycle s)
  unfolding writing units
  held_start s h =
      let t = writable_unit (open_cycle s).units in
      record {
        queued = all_map (Tracked is) (Tracked is) (with_hazard None) (λ o x. x) s.queue h.queued;
        in_units =
            held_out t.found (mark_blocked t.turned_away (open_cycle s).units)
            (held-marked t.turned_away (open_cycle s).units
            (all_map (KnownUnit is) (KnownUnit is) clear_hazard (λ u x. x) s.units h.in_units));
        counted = h.counted;
        few = h.few;
      }

  held-retry : (x : Text) (s : State) → Held is s → Held is (retry x s)
  unfolding writing
  held-retry x s h =
      record {
        queued = h.queued;
        in_units = held_back s.offer.writing s.units h.in_units;
        counted = h.counted;
        few = h.few;
      }

  held-stopped : (a b : Bool) (x : Text) (s : State) → Held is s → Held is (stopped a b x s)
  unfolding writing units
  held-stopped a b x s h =
      record {
        queued = tt;
        in_units = all_map (KnownUnit is) (KnownUnit is) clear (λ u y. unused refl) s.units h.in_units;
        counted = h.counted;
        few = h.few;
      }

  held-capacity : (k n : ℕ) (s : State) → Held is s → Held is (set_capacity k n s)
  unfolding scoreboard
  held-capacity k n s h =
      record {
        queued = h.queued;
        in_units = held-rebuilt (list_any is_busy s.units) (modify k (with_capacity n) s.machine.specs) s.units h.in_units;
        counted = h.counted;
        few = h.few;
      }

  held_grown : (js : List Info) (u : ℕ) (i : Info) → Known is u i → Known (is ++ js) u i
  held_grown js u i (in_table p) = in_table (nth_left is js u i p)
  held_grown js u i (unused e) = unused e

  held-fetched : (g : Given) (s : State) → eqb s.front.next_seq max64 ≡ false → Held is s → Held (is ++ (g.info ∷ [])) (fetched g s)
  unfolding scoreboard
  held-fetched g s e h =
      record {
        queued =
            all_append (Tracked (is ++ (g.info ∷ []))) s.queue (fetched_op g s ∷ [])
            (all-weaken (Tracked is) (Tracked (is ++ (g.info ∷ []))) (λ o x. nth_left is (g.info ∷ []) o.core.seq o.info x) s.queue
            h.queued)
            (subst (λ n. slice_get (is ++ (g.info ∷ [])) n ≡ Some g.info) (sym h.counted) (nth_last is g.info), tt);
        in_units =
            all-weaken (KnownUnit is) (KnownUnit (is ++ (g.info ∷ []))) (λ u x. held_grown (g.info ∷ []) u.op.core.seq u.op.info x)
            s.units h.in_units;
        counted = omega (arith, h.counted, length-append is (g.info ∷ []), h.few, below);
        few = omega (arith, h.counted, length-append is (g.info ∷ []), h.few, below);
      }
    where
      below : ¬ (s.front.next_seq ≡ max64)
      below = eqb-false s.front.next_seq max64 e

-- A fetch that is taken: numbers are not out.
pub fetch-number : (s : State) (g : Given) (ml : ℕ) → refusal s (fetch g ml) ≡ None → eqb s.front.next_seq max64 ≡ false
unfolding calls
fetch-number s g ml p = (taken-checks s (fetch g ml) p).1.1.1.1.0

pub held-run : (is : List Info) (s : State) (c : Call) → NoReset c → refusal s c ≡ None → Held is s → Held (is ++ given_to c) (run s c)
unfolding calls writing scoreboard
held-run is s start n p h = subst (λ l. Held l (run s start)) (sym (append-nil is)) (held_start is s h)
held-run is s retire n p h = subst (λ l. Held l (run s retire)) (sym (append-nil is)) (held-as is s (run s retire) refl refl refl h)
held-run is s (retry-call x) n p h = subst (λ l. Held l (run s (retry-call x))) (sym (append-nil is)) (held-retry is x s h)
held-run is s (resolve-call a) n p h = subst (λ l. Held l s) (sym (append-nil is)) h
held-run is s (advance-call r ml) n p h = subst (λ l. Held l (run s (advance-call r ml))) (sym (append-nil is)) (held-advance is r s h)
held-run is s (fetch g ml) n p h = held-fetched is g s (fetch-number s g ml p) h
held-run is s (capacity k m) n p h = subst (λ l. Held l (run s (capacity k m))) (sym (append-nil is)) (held-capacity is k m s h)
held-run is s (overlap b) n p h = subst (λ l. Held l (run s (overlap b))) (sym (append-nil is)) (held-as is s (run s (overlap b)) refl refl refl h)
held-run is s halt-call n p h = subst (λ l. Held l (run s halt-call)) (sym (append-nil is)) (held-stopped is true false _ s h)
held-run is s (fault-call x) n p h = subst (λ l. Held l (run s (fault-call x))) (sym (append-nil is)) (held-stopped is false true x s h)
held-run is s (reset a ml) n p h = absurd n
held-run is s (redirect a) n p h = absurd n
held-run is s (view v) n p h = subst (λ l. Held l s) (sym (append-nil is)) h
held-run is s (text t m) n p h = subst (λ l. Held l s) (sym (append-nil is)) h
held-run is s (cell i j ml) n p h = subst (λ l. Held l s) (sym (append-nil is)) h

pub held_after : (is : List Info) (s : State) (c : Call) → NoReset c → Held is s → Held (is ++ accepted s c) (after s c)
unfolding calls
held_after is s c n h = go (refusal s c) refl
  where
    go
        : (o : Option ℕ) → refusal s c ≡ o
        → Held (is ++ when_some o (given_to c) (λ (m : ℕ). [])) (when_some o (run s c) (λ (m : ℕ). s))
    go None p = held-run is s c n p h
    go (Some m) p = subst (λ l. Held l s) (sym (append-nil is)) h
