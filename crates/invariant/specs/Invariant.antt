-- What holds of every engine that is made, after any list of calls, resets included: one record, each part by its own name.
use Rattle.std.specs.Prelude.{ℕ, suc, ◌≤◌, ◌<◌, ◌≡◌, Bool, true, false, ◌||◌, List, [], ◌∷◌, map, ◌⊎◌, ◌↔◌, eqb, length, Option, None, Some, slice_get}
use Rattle.laws.specs.Lists.{All, is_empty}
use Rattle.laws.specs.Numbers.{max64}
use Rattle.laws.specs.Texts.{Text}
use Rattle.capability.specs.declared.Phase.TheVariants.{Wait, Write}
use Rattle.model.specs.Config.{UnitSpec, with_capacity, capacities, is_system}
use Rattle.model.specs.Op.{Op}
use Rattle.model.specs.Registers.{intern_all, producer_of}
use Rattle.model.specs.Timeline.{Row}
use Rattle.model.specs.Units.{FunctionalUnit, build_units}
use Rattle.model.specs.State.{Stats, State}
use Rattle.model.specs.Scoreboard.{stops}
use Rattle.model.specs.Calls.{names_in, bad_text, bad_spec_name, bad_info, extra_overflows}

-- ── Words ───────────────────────────────────────────────────────────────────

-- a is an element of the list.
abbrev pub In : {A : Type 0} → A → List A → Type 0
In a [] = ⊥
In a (x ∷ xs) = (a ≡ x) ⊎ In a xs

-- Unit i is the one whose result is on offer.
abbrev pub offered : Option ℕ → ℕ → Bool
offered None i = false
offered (Some j) i = eqb i j

-- The operation of unit i is in flight: the unit is busy, or its result is on offer.
abbrev pub occupied : Option ℕ → ℕ → FunctionalUnit → Bool
occupied w i u = u.busy || offered w i

-- Unit i is u, and its operation is in flight.
pub record Holds (s : State) (i : ℕ) (u : FunctionalUnit) : Type 0 where
  pub there : slice_get s.units i ≡ Some u
  pub in_flight : occupied s.offer.writing i u ≡ true

-- The lists of a unit that holds none are empty.
pub record Blank (u : FunctionalUnit) : Type 0 where
  pub no_sources : u.sources ≡ []
  pub no_destinations : u.destinations ≡ []
  pub no_waits : u.pending ≡ []

-- The unit of an offer: it is not busy, and in phase Write.
abbrev pub OnOffer : List FunctionalUnit → ℕ → Type 0
OnOffer us i = (u : FunctionalUnit) × (slice_get us i ≡ Some u) × (u.busy ≡ false) × (u.phase ≡ Write)

-- The number of the oldest queued operation, or else the next number.
abbrev pub front_number : List Op → ℕ → ℕ
front_number [] n = n
front_number (o ∷ os) n = o.core.seq

-- Queued operations have rising numbers, below n.
abbrev pub Rising : List Op → ℕ → Type 0
Rising [] n = Unit {0}
Rising (o ∷ os) n = (o.core.seq < front_number os n) × Rising os n

-- The ids of rows, oldest first.
abbrev pub row_ids : List Row → List ℕ
row_ids rows = map (λ (r : Row). r.id) rows

abbrev pub first_or : List ℕ → ℕ → ℕ
first_or [] n = n
first_or (i ∷ is) n = i

-- Numbers one after the other, the last n - 1.
abbrev pub Consecutive : List ℕ → ℕ → Type 0
Consecutive [] n = Unit {0}
Consecutive (i ∷ is) n = (suc i ≡ first_or is n) × Consecutive is n

-- An operation, queued or in a unit.
pub record OperationFits (o : Op) : Type 0 where
  pub row_is_number : o.core.row ≡ o.core.seq
  pub cycles_few : o.core.cycles_left ≤ 255
  pub predicted_few : o.core.predicted_next ≤ max64
  pub sources_few : length o.info.sources ≤ 8
  pub writes_few : length o.info.writes ≤ 4
  pub texts_fit : bad_info o.info ≡ false

-- A unit, free or not, in a machine of so many kinds with so many names known.
pub record UnitFits (kinds names : ℕ) (u : FunctionalUnit) : Type 0 where
  pub spec_known : u.spec < kinds
  pub instance_few : u.instance < 64
  pub operation_fits : OperationFits u.op
  pub class_same : u.class ≡ u.op.core.decoded.class
  pub redirects_same : u.redirects ≡ u.op.core.decoded.branch
  pub sources_few : length u.sources ≤ 8
  pub destinations_few : length u.destinations ≤ 4
  pub waits_few : length u.pending ≤ 8
  pub sources_known : All (λ (r : ℕ). r < names) u.sources
  pub destinations_known : All (λ (r : ℕ). r < names) u.destinations
  pub waits_early : is_empty u.pending ≡ false → u.phase ≡ Wait

-- A row of the timeline.
pub record RowFits (r : Row) : Type 0 where
  pub text_fits : bad_text 64 r.disassembly ≡ false
  pub cells_some : 1 ≤ r.count
  pub cells_few : r.count ≤ 200
  pub oldest_few : r.oldest_at < 200
  pub first_few : r.first_cycle ≤ max64

-- Each counter is at most 2^64 - 1.
pub record CountersFit (a : Stats) : Type 0 where
  pub cycles_few : a.cycles ≤ max64
  pub committed_few : a.committed ≤ max64
  pub stalls_few : a.stalls ≤ max64
  pub raw_few : a.raw_stalls ≤ max64
  pub load_use_few : a.load_use_stalls ≤ max64
  pub branch_few : a.branch_stalls ≤ max64
  pub unit_few : a.functional_unit_stalls ≤ max64
  pub memory_few : a.memory_stalls ≤ max64
  pub waw_few : a.waw_stalls ≤ max64
  pub war_few : a.war_stalls ≤ max64
  pub flushes_few : a.flushes ≤ max64
  pub branches_few : a.branches ≤ max64

-- A machine's kinds of unit.
pub record KindsFit (ks : List UnitSpec) : Type 0 where
  pub some_kind : 1 ≤ length ks
  pub few_kinds : length ks ≤ 16
  pub each_capacity : All (λ (k : UnitSpec). 1 ≤ k.capacity) ks
  pub sum_few : capacities ks ≤ 64
  pub names_fit : All (λ (k : UnitSpec). bad_spec_name k ≡ false) ks

-- Where a unit stands: its kind, and its number within the kind.
abbrev pub unit_place : FunctionalUnit → (ℕ × ℕ)
unit_place u = (u.spec, u.instance)

-- The units are those built for the kinds ks, which differ from the machine's in capacities only.
pub record Built (s : State) (ks : List UnitSpec) : Type 0 where
  pub kinds_fit : KindsFit ks
  pub same_kinds : map (with_capacity 1) ks ≡ map (with_capacity 1) s.machine.specs
  pub same_places : map unit_place s.units ≡ map unit_place (build_units 0 ks)

-- ── The statement ───────────────────────────────────────────────────────────

pub record Invariant (s : State) : Type 0 where
  -- The machine: 1 to 16 kinds of unit, each of capacity at least 1, at most 64 instances in all; no extra time is 2^64 - 1.
  pub kinds_fit : KindsFit s.machine.specs
  pub times_fit : extra_overflows s.machine.times ≡ false
  -- The queue holds 1 to 15 operations, the timeline 1 to 256 rows.
  pub depth_some : 1 ≤ s.machine.depth
  pub depth_few : s.machine.depth ≤ 15
  pub history_some : 1 ≤ s.machine.history
  pub history_few : s.machine.history ≤ 256
  -- 1 to 64 units, built for these kinds or for earlier capacities of them; each kind has a unit.
  pub units_some : 1 ≤ length s.units
  pub units_few : length s.units ≤ 64
  pub units_built : (ks : List UnitSpec) × Built s ks
  pub kind_has_unit
      : (k : ℕ) → k < length s.machine.specs → (i : ℕ) × (u : FunctionalUnit) × (slice_get s.units i ≡ Some u) × (u.spec ≡ k)
  -- Each unit's kind is one of the machine's; its lists have at most 8 sources, 4 destinations and 8 waits, of registers known.
  pub units_fit : All (UnitFits (length s.machine.specs) (length s.names)) s.units
  -- A unit that is free, its result not on offer, has empty lists.
  pub free_blank
      : (i : ℕ) (u : FunctionalUnit) → slice_get s.units i ≡ Some u → occupied s.offer.writing i u ≡ false → Blank u
  -- Names: at most 256, also with those of queued operations, and no two the same; a register for each. Each is a text of at most 16 bytes.
  pub names_few : length s.names ≤ 256
  pub names_with_queue : length (intern_all s.names (names_in s.queue)).names ≤ 256
  pub names_distinct : (j k : ℕ) (a : Text) → slice_get s.names j ≡ Some a → slice_get s.names k ≡ Some a → j ≡ k
  pub names_fit : All (λ (a : Text). bad_text 16 a ≡ false) s.names
  pub producer_long : length s.producer ≡ length s.names
  -- The queue is within its depth; each operation has at most 8 sources and 4 writes, and its row is its number.
  pub queue_short : length s.queue ≤ s.machine.depth
  pub queue_fits : All OperationFits s.queue
  -- Numbers: rising in the queue, distinct in the units and below those queued; the next one is at most 2^64 - 1.
  pub queue_rising : Rising s.queue s.front.next_seq
  pub before_queue
      : (i : ℕ) (u : FunctionalUnit) → Holds s i u → u.op.core.seq < front_number s.queue s.front.next_seq
  pub before_next : (i : ℕ) (u : FunctionalUnit) → Holds s i u → u.op.core.seq < s.front.next_seq
  pub number_distinct
      : (i j : ℕ) (u v : FunctionalUnit) → Holds s i u → Holds s j v → u.op.core.seq ≡ v.op.core.seq → i ≡ j
  pub next_few : s.front.next_seq ≤ max64
  pub next_row_is_number : s.front.next_row ≡ s.front.next_seq
  -- Claims: a register is claimed by unit i exactly where unit i, in flight, has it as a destination.
  pub claimed
      : (i : ℕ) (u : FunctionalUnit) (r : ℕ) → Holds s i u → In r u.destinations → producer_of s.producer r ≡ Some i
  pub claimant
      : (r i : ℕ) → producer_of s.producer r ≡ Some i → (u : FunctionalUnit) × Holds s i u × In r u.destinations
  -- RAW: a unit waits for a source only in phase Wait, and only for an older unit in flight that claims it.
  pub waits
      : (i : ℕ) (u : FunctionalUnit) (r k : ℕ) → Holds s i u → In {A = ℕ × ℕ} (r, k) u.pending
      → In r u.sources × (producer_of s.producer r ≡ Some k)
      × ((v : FunctionalUnit) × Holds s k v × v.op.core.seq < u.op.core.seq) × (u.phase ≡ Wait)
  -- WAR: a unit that reads a register and does not wait for it is older than another that claims it.
  pub unwaiting_older
      : (i : ℕ) (u : FunctionalUnit) (r k : ℕ) → Holds s i u → In r u.sources
      → ((m : ℕ) → In {A = ℕ × ℕ} (r, m) u.pending → ⊥) → producer_of s.producer r ≡ Some k
      → (k ≡ i) ⊎ ((v : FunctionalUnit) × Holds s k v × u.op.core.seq < v.op.core.seq)
  -- A mark stands exactly while a branch, or a system operation, is in flight; nothing in a unit is then younger.
  pub branch_mark : (s.marks.branch ≡ true) ↔ ((i : ℕ) × (u : FunctionalUnit) × Holds s i u × (u.redirects ≡ true))
  pub branch_youngest
      : (i j : ℕ) (u v : FunctionalUnit) → Holds s i u → u.redirects ≡ true → Holds s j v → v.op.core.seq ≤ u.op.core.seq
  pub system_mark
      : (s.marks.system ≡ true) ↔ ((i : ℕ) × (u : FunctionalUnit) × Holds s i u × (is_system u.class ≡ true))
  pub system_youngest
      : (i j : ℕ) (u v : FunctionalUnit) → Holds s i u → is_system u.class ≡ true → Holds s j v
      → v.op.core.seq ≤ u.op.core.seq
  -- The timeline: as many rows as its history at most, ids one after the other; each row has 1 to 200 cells.
  pub rows_few : length s.log.rows ≤ s.machine.history
  pub rows_numbered : Consecutive (row_ids s.log.rows) s.front.next_row
  pub rows_fit : All RowFits s.log.rows
  -- Counters stop at 2^64 - 1. At most 130 waits are listed, and before the cycle ends at most 64.
  pub counters_fit : CountersFit s.log.stats
  pub traces_few : length s.log.traces ≤ 130
  pub traces_open : s.front.in_cycle ≡ true → length s.log.traces ≤ 64
  -- The status text, if there is one, has at most 64 bytes.
  pub status_fits : (t : Text) → s.log.status ≡ Some t → bad_text 64 t ≡ false
  -- A result is on offer only in a cycle; its unit is not busy, and in phase Write. Only an offer is marked as retired.
  pub offer_unit : (i : ℕ) → s.offer.writing ≡ Some i → (s.front.in_cycle ≡ true) × OnOffer s.units i
  pub retired_offer : s.offer.retired ≡ true → (i : ℕ) × (s.offer.writing ≡ Some i)
  -- An invitation to fetch stands only between cycles, while not halted or faulted, and where the queue has room.
  pub invited_outside : s.front.invited ≡ true → s.front.in_cycle ≡ false
  pub invited_running : s.front.invited ≡ true → stops s ≡ false
  pub invited_room : s.front.invited ≡ true → length s.queue < s.machine.depth
  -- Halted or faulted: nothing is queued, in a unit or on offer, and no register is claimed.
  pub stopped_queue : stops s ≡ true → s.queue ≡ []
  pub stopped_units : stops s ≡ true → (i : ℕ) (u : FunctionalUnit) → Holds s i u → ⊥
  pub stopped_offer : stops s ≡ true → s.offer.writing ≡ None
  pub stopped_claims : stops s ≡ true → (r : ℕ) → producer_of s.producer r ≡ None
