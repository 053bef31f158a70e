-- A turn of the run: it ends the run, or it takes at least one from what is left to do.
use Prim.Native.Nat.{ℕ, suc, ◌+◌, ◌*◌, ◌≤◌, ◌<◌}
use native.Mathlib.Omega.{arith}
use mathlib.Core.Path.{◌≡◌, refl, sym, ◌∙◌, ap, ap₂, subst}
use mathlib.Core.Bool.{Bool, true, false, cond, not, ◌&&◌, ◌||◌, false≢true}
use Rattle.std.specs.Prelude.{Option, None, Some, is_some}
use mathlib.Core.List.{List, [], ◌∷◌}
use lib.Dec.{eqb}
use lib.ListN.{length, length-append}
use borrow.Author.Tests.{le-ltb, lt-ltb}
use Rattle.laws.specs.Lists.{is_empty}
use Rattle.std.specs.List.{list_any}
use Rattle.laws.specs.Texts.{Text, beyond}
use Rattle.laws.proofs.Choices.{none-some}
use Rattle.capability.specs.declared.PipelineInstructionClass.{PipelineInstructionClass}
use Rattle.capability.specs.declared.PipelineInstructionClass.TheVariants.{Alu, Multiply, Divide, Load, Store, Branch, Jump, System, FloatingPoint, Unknown}
use Rattle.model.specs.Config.{Machine, config, default_timing, latency, machine_of}
use Rattle.model.specs.Op.{Given, Op}
use Rattle.model.specs.State.{State}
use Rattle.model.specs.Units.{FunctionalUnit, is_busy, units}
use Rattle.model.specs.Write.{offered_op}
use Rattle.model.specs.Scoreboard.{fetched, fetched_op, idle, may_fetch, scoreboard, stops}
use Rattle.model.specs.Timeline.{write_all}
use Rattle.model.specs.Calls.{advance, calls, fetch, invitation_of, refusal, retire, run, sets, short_memory, start}
use Rattle.model.specs.Everything.{everything}
use Rattle.model.specs.Forecast.{Lent, Line, Run, cycle, cycle_and_line, fetch_line, finished, first_line, forecast_shape, forecasts, going, lent_of, line_given, line_refused, other_lines, parse, play, retire_offer, take_fetched, take_line, take_parsed, turn}
use Rattle.invariant.specs.Invariant.{Invariant}
use Rattle.invariant.proofs.Bools.{and_both, or-neither, not-true}
use Rattle.invariant.proofs.Invariant.{invariant-kept}
use Rattle.invariant.proofs.Taken.{fetch-taken, next-number}
use Rattle.ending.specs.Ending.{Outcome, UsedUp, line_count}
use Rattle.ending.proofs.Totals.{total, total-append}
use Rattle.ending.proofs.Work.{op-work}
use Rattle.ending.proofs.Share.{everyone, op-share, share, some-work, work}
use Rattle.ending.proofs.Counts.{in_flight-count, one-busy}
use Rattle.ending.proofs.Cycle.{cycled}
use Rattle.ending.proofs.Cycled.{Cycled, cycled-facts}
use Rattle.rows.proofs.Bytes.{write_all-length}
use Rattle.ending.proofs.Played.{cycle-played, play-taken}

-- ── Lines ───────────────────────────────────────────────────────────────────

-- One line less.
pub lines-fall : (x : ℕ) (xs : Text) → line_count (x ∷ xs) ≡ suc (line_count (other_lines (x ∷ xs)))
unfolding line_count forecasts beyond
lines-fall x [] = last (eqb x 10)
  where
    last : (b : Bool) → 1 ≡ suc (line_count (cond b [] []))
    last true = refl
    last false = refl
lines-fall x (y ∷ ys) = go (eqb x 10) (lines-fall y ys)
  where
    go
        : (b : Bool) → line_count (y ∷ ys) ≡ suc (line_count (beyond 10 (y ∷ ys)))
        → cond b 1 0 + line_count (y ∷ ys) ≡ suc (line_count (cond b (y ∷ ys) (beyond 10 (y ∷ ys))))
    go true e = omega arith
    go false e = omega (arith, e)

pub lines-most : (t : Text) → line_count t ≤ length t
unfolding line_count
lines-most [] = omega arith
lines-most (x ∷ []) = omega arith
lines-most (x ∷ y ∷ ys) = go (eqb x 10) (lines-most (y ∷ ys))
  where
    go : (b : Bool) → line_count (y ∷ ys) ≤ length (y ∷ ys) → cond b 1 0 + line_count (y ∷ ys) ≤ suc (length (y ∷ ys))
    go true h = omega arith
    go false h = omega arith

-- ── Nothing in flight ───────────────────────────────────────────────────────

none-counted : (us : List FunctionalUnit) → list_any is_busy us ≡ false → total one-busy us ≡ 0
unfolding total one-busy units
none-counted [] e = refl
none-counted (u ∷ us) e =
    let a = or-neither u.busy (list_any is_busy us) e in
    let b : one-busy u ≡ 0 = ap (λ (t : Bool). cond t 1 0) a.0 in
    omega (arith, b, none-counted us a.1)

idle-parts : (s : State) → idle s ≡ true → (s.queue ≡ []) × (list_any is_busy s.units ≡ false)
unfolding scoreboard is_empty
idle-parts s e =
    let a = and_both (is_empty s.queue) (not (list_any is_busy s.units)) e in
    (go s.queue a.0, not-true (list_any is_busy s.units) a.1)
  where
    go : (q : List Op) → is_empty q ≡ true → q ≡ []
    go [] t = refl
    go (o ∷ q) t = absurd (false≢true t)

idle-count : (s : State) → idle s ≡ true → in_flight-count s ≡ 0
unfolding in_flight-count
idle-count s e =
    let a = idle-parts s e in
    let l : length s.queue ≡ 0 = ap length a.0 in
    omega (arith, l, none-counted s.units a.1)

-- ── Fetched ─────────────────────────────────────────────────────────────────

pub latency-most : (c : PipelineInstructionClass) → latency default_timing c ≤ 20
unfolding config
latency-most Alu = omega arith
latency-most Multiply = omega arith
latency-most Divide = omega arith
latency-most Load = omega arith
latency-most Store = omega arith
latency-most Branch = omega arith
latency-most Jump = omega arith
latency-most System = omega arith
latency-most FloatingPoint = omega arith
latency-most Unknown = omega arith

work-fetched
    : (g : Given) (s : State) → s.machine ≡ machine_of forecast_shape → work (fetched g s) ≤ work s + 24
unfolding scoreboard share op-share op-work total machine_of forecast_shape
work-fetched g s e =
    let l : latency s.machine.times g.decoded.class ≡ latency default_timing g.decoded.class
    = ap (λ (m : Machine). latency m.times g.decoded.class) e in
    omega (arith, total-append op-work s.queue (fetched_op g s ∷ []), l, latency-most g.decoded.class)

count-fetched : (g : Given) (s : State) → in_flight-count (fetched g s) ≡ suc (in_flight-count s)
unfolding scoreboard in_flight-count
count-fetched g s = omega (arith, length-append s.queue (fetched_op g s ∷ []))

pub depth-two : (machine_of forecast_shape).depth ≡ 2
unfolding everything
depth-two = refl

pub fetched-machine : (g : Given) (s : State) → (fetched g s).machine ≡ s.machine
unfolding scoreboard
fetched-machine g s = refl

fetched-flags
    : (g : Given) (s : State)
    → ((fetched g s).front.enabled ≡ s.front.enabled) × (stops (fetched g s) ≡ stops s)
    × ((fetched g s).front.in_cycle ≡ s.front.in_cycle)
unfolding scoreboard
fetched-flags g s = (refl, refl, refl)

fetched-committed : (g : Given) (s : State) → (fetched g s).log.stats.committed ≡ s.log.stats.committed
unfolding scoreboard
fetched-committed g s = refl

fetched-cycles : (g : Given) (s : State) → (fetched g s).log.stats.cycles ≡ s.log.stats.cycles
unfolding scoreboard
fetched-cycles g s = refl

fetched-number
    : (g : Given) (k : ℕ) (s : State) → Invariant s → refusal s (fetch g k) ≡ None
    → (fetched g s).front.next_seq ≡ suc s.front.next_seq
unfolding scoreboard
fetched-number g k s h p = next-number s.front.next_seq h.next_few (fetch-taken s g k p).number

pub fetch-played
    : (g : Given) (k : ℕ) (s : State) (m : List ℕ) → refusal s (fetch g k) ≡ None
    → play (fetch g k) (lent_of s m) ≡ lent_of (fetched g s) (write_all (sets s (fetch g k)) m)
unfolding run
fetch-played g k s m p = play-taken (fetch g k) s m p

may-invite
    : (s : State) → s.machine ≡ machine_of forecast_shape → s.front.enabled ≡ true → length s.queue ≤ 0 → may_fetch s ≡ true
unfolding scoreboard
may-invite s m b l =
    let d : s.machine.depth ≡ 2 = ap (λ (x : Machine). x.depth) m ∙ depth-two in
    ap₂ (λ (x y : Bool). x && (y || idle s)) (lt-ltb (length s.queue) s.machine.depth (omega (arith, d, l))) b

-- ── Between turns ───────────────────────────────────────────────────────────

-- What is left: 25 for each line, and the work in flight.
unfoldable pub left : Lent → Text → ℕ
left e rest = 25 * line_count rest + work e.engine

-- The engine and the cells between two turns, with this input left after n lines.
pub record Between (input : Text) (e : Lent) (rest : Text) (n : ℕ) : Type 0 where
  pub invariant : Invariant e.engine
  pub machine : e.engine.machine ≡ machine_of forecast_shape
  pub enabled : e.engine.front.enabled ≡ true
  pub running : stops e.engine ≡ false
  pub outside : e.engine.front.in_cycle ≡ false
  pub memory : 51200 ≤ length e.cells
  pub lines : n + line_count rest ≡ line_count input
  pub number : e.engine.front.next_seq ≡ n
  pub account : e.engine.log.stats.committed + in_flight-count e.engine ≡ n
  pub time : e.engine.log.stats.cycles + left e rest ≤ 25 * line_count input

-- The run is over, or less than so much is left.
pub data Turned (input : Text) (more : ℕ) : Run → Type 0 where
  over : (r : Run) → Outcome input r → Turned input more r
  on : (e : Lent) (rest : Text) (n : ℕ) → Between input e rest n → left e rest < more → Turned input more (going e rest n)

-- After a cycle: the same, but for what is left.
pub record After (input : Text) (e f : Lent) (rest : Text) (n : ℕ) : Type 0 where
  pub invariant : Invariant f.engine
  pub machine : f.engine.machine ≡ machine_of forecast_shape
  pub enabled : f.engine.front.enabled ≡ true
  pub running : stops f.engine ≡ false
  pub outside : f.engine.front.in_cycle ≡ false
  pub memory : 51200 ≤ length f.cells
  pub number : f.engine.front.next_seq ≡ n
  pub account : f.engine.log.stats.committed + in_flight-count f.engine ≡ n
  pub cycles : f.engine.log.stats.cycles ≤ suc e.engine.log.stats.cycles
  pub work_most : work f.engine ≤ work e.engine
  pub work_less : idle e.engine ≡ false → work f.engine < work e.engine
  pub invited : idle e.engine ≡ true → f.engine.front.invited ≡ true

cycle-invariant : (e : Lent) → Invariant e.engine → Invariant (cycle e).engine
unfolding forecasts
cycle-invariant e h =
    invariant-kept (retire_offer (play start e)).engine (advance None (length e.cells)) (retired (play start e) (invariant-kept e.engine start h))
  where
    retired : (f : Lent) → Invariant f.engine → Invariant (retire_offer f).engine
    retired f k = go (is_some (offered_op f.engine))
      where
        go : (b : Bool) → Invariant (cond b (play retire f) f).engine
        go true = invariant-kept f.engine retire k
        go false = k

module _ (input : Text) (e : Lent) (rest : Text) (n : ℕ) (h : Between input e rest n) where
  pub memory-there : short_memory e.engine (length e.cells) ≡ false
  unfolding calls machine_of forecast_shape
  memory-there =
      let l : e.engine.machine.history ≡ 256 = ap (λ (m : Machine). m.history) h.machine in
      le-ltb (length e.cells) (e.engine.machine.history * 200) (omega (arith, l, h.memory))

  pub cycle-is : (cycle e).engine ≡ cycled e.engine
  cycle-is = (cycle-played e.engine e.cells h.outside memory-there).0

  pub cycle-facts : Cycled e.engine (cycle e).engine
  cycle-facts = subst (Cycled e.engine) (sym cycle-is) (cycled-facts e.engine h.invariant h.outside h.running)

  pub after-cycle : After input e (cycle e) rest n
  unfolding stops
  after-cycle =
      let p = cycle-played e.engine e.cells h.outside memory-there in
      let c = cycle-facts in
      record {
        invariant = cycle-invariant e h.invariant;
        machine = c.machine ∙ h.machine;
        enabled = c.enabled ∙ h.enabled;
        running = ap₂ ◌||◌ c.halted c.faulted ∙ h.running;
        outside = c.outside;
        memory = omega (arith, p.1, h.memory);
        number = c.number ∙ h.number;
        account = c.account (omega (arith, h.account, h.number, h.invariant.next_few)) ∙ h.account;
        cycles = c.cycles;
        work_most = c.share_most everyone (λ a b l t. t);
        work_less = λ i. c.share_less everyone (λ a b l t. t) (some-work e.engine i);
        invited = λ i. c.invited ∙ may-invite (cycle e).engine (c.machine ∙ h.machine) (c.enabled ∙ h.enabled) (shorter i c.shorter);
      }
    where
      shorter : idle e.engine ≡ true → {k : ℕ} → k ≤ length e.engine.queue → k ≤ 0
      shorter i l = let q : length e.engine.queue ≡ 0 = ap length (idle-parts e.engine i).0 in omega arith

  -- ── A turn ──────────────────────────────────────────────────────────────────

  -- The lines are used up.
  turn-finished : (is_empty rest && idle e.engine) ≡ true → UsedUp input e
  unfolding is_empty line_count left
  turn-finished t =
      let a = and_both (is_empty rest) (idle e.engine) t in
      let z : line_count rest ≡ 0 = none_left rest a.0 in
      record {
        nothing_in_flight = a.1;
        all_fetched = omega (arith, z, h.lines, h.number);
        all_retired = omega (arith, z, h.lines, h.account, idle-count e.engine a.1);
        cycles_few = omega (arith, h.time);
      }
    where
      none_left : (t : Text) → is_empty t ≡ true → line_count t ≡ 0
      none_left [] k = refl
      none_left (x ∷ xs) k = absurd (false≢true k)

  -- No line is taken: something was in flight.
  turn-worked : idle e.engine ≡ false → Turned input (left e rest) (going (cycle e) rest n)
  unfolding left
  turn-worked i =
      let a = after-cycle in
      let l = a.work_less i in
      on (cycle e) rest n
      record {
        invariant = a.invariant;
        machine = a.machine;
        enabled = a.enabled;
        running = a.running;
        outside = a.outside;
        memory = a.memory;
        lines = h.lines;
        number = a.number;
        account = a.account;
        time = omega (arith, a.cycles, l, h.time);
      }
      (omega (arith, l))

  -- A line is taken.
  turn-fetched
      : (g : Given) (k : ℕ) (x : ℕ) (xs : Text) → rest ≡ x ∷ xs → refusal (cycle e).engine (fetch g k) ≡ None
      → Turned input (left e rest) (going (play (fetch g k) (cycle e)) (other_lines (x ∷ xs)) (suc n))
  unfolding left play
  turn-fetched g k x xs q p =
      subst (λ (f : Lent). Turned input (left e rest) (going f (other_lines (x ∷ xs)) (suc n))) (sym played)
      (on next (other_lines (x ∷ xs)) (suc n)
      record {
        invariant = subst Invariant (ap (λ (f : Lent). f.engine) played) (invariant-kept s (fetch g k) a.invariant);
        machine = fetched-machine g s ∙ a.machine;
        enabled = (fetched-flags g s).0 ∙ a.enabled;
        running = (fetched-flags g s).1 ∙ a.running;
        outside = (fetched-flags g s).2 ∙ a.outside;
        memory = omega (arith, write_all-length (sets s (fetch g k)) (cycle e).cells, a.memory);
        lines = omega (arith, h.lines, fewer);
        number = fetched-number g k s a.invariant p ∙ ap suc a.number;
        account = omega (arith, fetched-committed g s, count-fetched g s, a.account);
        time = omega (arith, fetched-cycles g s, a.cycles, a.work_most, added, fewer, h.time);
      }
      (omega (arith, a.work_most, added, fewer)))
    where
      a : After input e (cycle e) rest n
      a = after-cycle

      s : State
      s = (cycle e).engine

      next : Lent
      next = lent_of (fetched g s) (write_all (sets s (fetch g k)) (cycle e).cells)

      played : play (fetch g k) (cycle e) ≡ next
      played = fetch-played g k s (cycle e).cells p

      fewer : line_count rest ≡ suc (line_count (other_lines (x ∷ xs)))
      fewer = ap line_count q ∙ lines-fall x xs

      added : work (fetched g s) ≤ work s + 24
      added = work-fetched g s a.machine

  -- A line that is refused is one of the input's.
  refused-line : (x : ℕ) (xs : Text) → rest ≡ x ∷ xs → suc n ≤ line_count input
  refused-line x xs q =
      let fewer : line_count rest ≡ suc (line_count (other_lines (x ∷ xs))) = ap line_count q ∙ lines-fall x xs in
      omega (arith, fewer, h.lines)

  take-turned
      : (x : ℕ) (xs : Text) → rest ≡ x ∷ xs → (a : ℕ) (o : Option Line)
      → Turned input (left e rest) (take_parsed o a (other_lines (x ∷ xs)) (suc n) (cycle e))
  unfolding take_parsed fetch_line take_fetched
  take-turned x xs q a None = over (line_refused (suc n) 14 (cycle e).cells) (refused-line x xs q)
  take-turned x xs q a (Some l) = go (refusal (cycle e).engine (fetch_line l a (cycle e))) refl
    where
      go
          : (r : Option ℕ) → refusal (cycle e).engine (fetch_line l a (cycle e)) ≡ r
          → Turned input (left e rest) (take_fetched r (fetch_line l a (cycle e)) (other_lines (x ∷ xs)) (suc n) (cycle e))
      go (Some m) p = over (line_refused (suc n) m (cycle e).cells) (refused-line x xs q)
      go None p = turn-fetched (line_given l a) (length (cycle e).cells) x xs q p

  pub turned : Turned input (left e rest) (turn e rest n)
  unfolding turn cycle_and_line take_line is_empty invitation_of
  turned = go (is_empty rest && idle e.engine) refl
    where
      busy : (is_empty rest && idle e.engine) ≡ false → is_empty rest ≡ true → idle e.engine ≡ false
      busy t k = sym (ap (λ (b : Bool). b && idle e.engine) k) ∙ t

      -- Without an invitation something is in flight.
      uninvited : invitation_of (cycle e).engine ≡ None → (b : Bool) → idle e.engine ≡ b → b ≡ false
      uninvited o false i = refl
      uninvited o true i =
          none-some (cycle e).engine.front.fetch_pc
          (sym o ∙ ap (λ (b : Bool). cond b (Some (cycle e).engine.front.fetch_pc) None) (after-cycle.invited i))

      line
          : (is_empty rest && idle e.engine) ≡ false → (o : Option ℕ) → invitation_of (cycle e).engine ≡ o → (r : Text) → rest ≡ r
          → Turned input (left e rest) (take_line o r n (cycle e))
      line t None o r q =
          subst (λ (y : Text). Turned input (left e rest) (going (cycle e) y n)) q (turn-worked (uninvited o (idle e.engine) refl))
      line t (Some a) o [] q =
          subst (λ (y : Text). Turned input (left e rest) (going (cycle e) y n)) q (turn-worked (busy t (ap is_empty q)))
      line t (Some a) o (x ∷ xs) q = take-turned x xs q a (parse (first_line (x ∷ xs)))

      go : (b : Bool) → (is_empty rest && idle e.engine) ≡ b
          → Turned input (left e rest) (elim b [ true ↦ finished e | false ↦ cycle_and_line e rest n ])
      go true t = over (finished e) (turn-finished t)
      go false t = line t (invitation_of (cycle e).engine) refl rest refl
