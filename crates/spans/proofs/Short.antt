-- Engines of `forecast`: each row's cells, and the work of the operations up to its own, are together at most 95.
use Prim.Native.Nat.{ℕ, zero, suc, ◌+◌, ◌-◌, ◌≤◌, ◌<◌}
use native.Mathlib.Omega.{arith}
use mathlib.Core.Path.{◌≡◌, refl, sym, ◌∙◌, ap, subst}
use mathlib.Core.Bool.{Bool, cond}
use mathlib.Core.List.{List, [], ◌∷◌, ◌++◌}
use mathlib.Core.Logic.{◌⊎◌, inl, inr}
use lib.ListN.{drop, length}
use borrow.Author.Tests.{le-ltb}
use Rattle.laws.specs.Lists.{All}
use Rattle.laws.specs.Texts.{Text}
use Rattle.laws.proofs.Maps.{length-of}
use Rattle.laws.proofs.Tests.{lt-or-ge}
use Rattle.model.specs.Config.{Machine, machine_of}
use Rattle.model.specs.Op.{Given}
use Rattle.model.specs.State.{State}
use Rattle.model.specs.Timeline.{Row, row_of, timeline}
use Rattle.model.specs.Issue.{timeline_cells}
use Rattle.model.specs.Scoreboard.{fetched, fetched_op, scoreboard}
use Rattle.model.specs.Forecast.{Lent, cycle, forecast_shape}
use Rattle.runs.proofs.Tracks.{all_append, all-weaken}
use Rattle.invariant.specs.Invariant.{Consecutive, Invariant, first_or, row_ids, unit_place}
use Rattle.ending.proofs.Totals.{total, total-append}
use Rattle.ending.proofs.Work.{op-work}
use Rattle.ending.proofs.Share.{op-share, share}
use Rattle.ending.proofs.Turn.{Between, after-cycle, cycle-facts, cycle-is, depth-two, fetched-machine}
use Rattle.spans.proofs.Cells.{Within, hit, within-less, within-push-all}
use Rattle.spans.proofs.Few.{Few, few-cycled, few-fetched, few-share}
use Rattle.spans.proofs.Single.{cells-counted, one_cell, up_to, up-to-down}

-- The cycles at most that row k's operation stays in flight.
abbrev left-for : State → ℕ → ℕ
left-for s k = share (up_to k) s

pub record Short (s : State) : Type 0 where
  pub few : Few s
  pub two : length s.units ≡ 2
  pub rows : All (Within (left-for s)) s.log.rows

-- ── A cycle ─────────────────────────────────────────────────────────────────

module _ (input : Text) (e : Lent) (rest : Text) (n : ℕ) (h : Between input e rest n) (x : Short e.engine) where
  abbrev s : State
  s = e.engine

  abbrev u : State
  u = (cycle e).engine

  -- A row's cell is paid for by the work that falls.
  paid : (k : ℕ) → total (hit k) (timeline_cells u) + left-for u k ≤ left-for s k
  paid k =
      let c = cycle-facts input e rest n h in
      let i = (after-cycle input e rest n h).invariant in
      go (lt-or-ge 0 (left-for s k)) (c.share_most (up_to k) (up-to-down k)) (c.share_less (up_to k) (up-to-down k)) (one_cell k u i) (cells-counted k u i)
    where
      go
          : {a b m : ℕ} → (0 < a) ⊎ (a ≤ 0) → b ≤ a → (0 < a → b < a) → m ≤ 1 → m ≤ b → m + b ≤ a
      go (inl l) most less one some = omega (arith, less l, one)
      go (inr l) most less one some = omega (arith, l, most, some)

  pub short-cycle : Short u
  short-cycle =
      let c = cycle-facts input e rest n h in
      record {
        few = subst Few (sym (cycle-is input e rest n h)) (few-cycled s h.invariant h.outside h.running x.few);
        two = sym (length-of unit_place u.units) ∙ ap length c.places ∙ length-of unit_place s.units ∙ x.two;
        rows =
            subst (All (Within (left-for u))) (sym c.rows)
            (within-push-all (left-for u) (timeline_cells u) s.log.rows
            (all-weaken (Within (left-for s)) (Within (λ k. total (hit k) (timeline_cells u) + left-for u k))
            (λ r. within-less (left-for s) (λ k. total (hit k) (timeline_cells u) + left-for u k) r (paid r.id)) s.log.rows x.rows));
      }

-- ── A fetch ─────────────────────────────────────────────────────────────────

-- Rows held are of operations fetched before.
first-most : (is : List ℕ) (n : ℕ) → Consecutive is n → first_or is n ≤ n
first-most [] n h = omega arith
first-most (i ∷ is) n h = omega (arith, h.0, first-most is n h.1)

rows-below : (rows : List Row) (n : ℕ) → Consecutive (row_ids rows) n → All (λ (r : Row). r.id < n) rows
rows-below [] n h = tt
rows-below (r ∷ rs) n h = (omega (arith, h.0, first-most (row_ids rs) n h.1), rows-below rs n h.1)

all_drop : {A : Type 0} (P : A → Type 0) (k : ℕ) (xs : List A) → All P xs → All P (drop k xs)
all_drop P zero xs h = h
all_drop P (suc k) [] h = tt
all_drop P (suc k) (x ∷ xs) h = all_drop P k xs h.1

all_both : {A : Type 0} (P Q R : A → Type 0) → ((x : A) → P x → Q x → R x) → (xs : List A) → All P xs → All Q xs → All R xs
all_both P Q R f [] p q = tt
all_both P Q R f (x ∷ xs) p q = (f x p.0 q.0, all_both P Q R f xs p.1 q.1)

module _ (g : Given) (s : State) (h : Invariant s) (i : Invariant (fetched g s)) (m : s.machine ≡ machine_of forecast_shape) (x : Short s) where
  abbrev t : State
  t = fetched g s

  -- What is fetched is not among the older ones.
  left-older : (k : ℕ) → k < s.front.next_seq → left-for t k ≡ left-for s k
  unfolding scoreboard share op-share up_to total
  left-older k l =
      let later = le-ltb s.front.next_seq (suc k) (omega (arith, l)) in
      let z : op-share (up_to k) (fetched_op g s) ≡ 0 = ap (λ (b : Bool). cond b (op-work (fetched_op g s)) 0) later in
      omega (arith, z, total-append (op-share (up_to k)) s.queue (fetched_op g s ∷ []))

  two-fetched : length t.units ≡ 2
  unfolding scoreboard
  two-fetched = x.two

  -- Two units and a queue of depth 2.
  left-most : (k : ℕ) → left-for t k ≤ 94
  left-most k =
      let depth : t.machine.depth ≡ 2 = ap (λ (y : Machine). y.depth) (fetched-machine g s ∙ m) ∙ depth-two in
      omega (arith, few-share (up_to k) t (few-fetched g s m x.few), two-fetched, i.queue_short, depth)

  older : All (Within (left-for t)) s.log.rows
  older =
      all_both (Within (left-for s)) (λ (r : Row). r.id < s.front.next_seq) (Within (left-for t))
      (λ r w l. within-less (left-for s) (left-for t) r (omega (arith, left-older r.id l)) w) s.log.rows x.rows
      (rows-below s.log.rows s.front.next_seq
      (subst (Consecutive (row_ids s.log.rows)) h.next_row_is_number h.rows_numbered))

  opened : All (Within (left-for t)) t.log.rows
  unfolding scoreboard timeline
  opened =
      all_drop (Within (left-for t)) (length (s.log.rows ++ (new_row ∷ [])) - s.machine.history) (s.log.rows ++ (new_row ∷ []))
      (all_append (Within (left-for t)) s.log.rows (new_row ∷ []) older
      (record { cells = omega (arith, left-most s.front.next_row); none_lost = refl }, tt))
    where
      new_row : Row
      new_row =
          row_of s.front.next_row g.decoded.address g.info.disassembly g.decoded.class s.log.stats.cycles g.decoded.atomic
          0 1

  pub short-fetched : Short t
  short-fetched = record { few = few-fetched g s m x.few; two = two-fetched; rows = opened }
