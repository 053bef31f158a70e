-- scoreboard.rs, `ScoreboardPipeline`: the engine, and a setter for each part.
use Rattle.std.specs.Prelude.{ℕ, Bool, true, false, List, [], ◌∷◌, ◌++◌, map, eqb, Option, None}
use Rattle.laws.specs.Numbers.{saturating_add}
use Rattle.laws.specs.Texts.{Text}
use Rattle.capability.specs.declared.PipelineHazardKind.{PipelineHazardKind}
use Rattle.capability.specs.declared.PipelineHazardKind.TheVariants.{
  ReadAfterWrite,
  LoadUse,
  BranchFlush,
  FunctionalUnitBusy,
  MemoryLatency,
  WriteAfterWrite,
  WriteAfterRead,
}
use Rattle.capability.specs.Numbers.{hazard_number}
use Rattle.model.specs.Config.{PipelineShape, Machine, machine_of}
use Rattle.model.specs.Op.{Op}
use Rattle.model.specs.Timeline.{Row}
use Rattle.model.specs.Traces.{Trace}
use Rattle.model.specs.Units.{FunctionalUnit, build_units}

-- ── PipelineStats ───────────────────────────────────────────────────────────

pub record Stats : Type 0 where
  pub cycles : ℕ
  pub committed : ℕ
  pub stalls : ℕ
  pub raw_stalls : ℕ
  pub load_use_stalls : ℕ
  pub branch_stalls : ℕ
  pub functional_unit_stalls : ℕ
  pub memory_stalls : ℕ
  pub waw_stalls : ℕ
  pub war_stalls : ℕ
  pub flushes : ℕ
  pub branches : ℕ

abbrev pub stats_of : ℕ → ℕ → ℕ → ℕ → ℕ → ℕ → ℕ → ℕ → ℕ → ℕ → ℕ → ℕ → Stats
stats_of c m s r l b f y w a x n =
    record {
      cycles = c;
      committed = m;
      stalls = s;
      raw_stalls = r;
      load_use_stalls = l;
      branch_stalls = b;
      functional_unit_stalls = f;
      memory_stalls = y;
      waw_stalls = w;
      war_stalls = a;
      flushes = x;
      branches = n;
    }

abbrev pub no_stats : Stats
no_stats = stats_of 0 0 0 0 0 0 0 0 0 0 0 0

-- A counter goes up by 1 where the test holds; it stops at 2^64 - 1.
unfoldable pub up : Bool → ℕ → ℕ
up true n = saturating_add n 1
up false n = n

abbrev pub count_cycle : Stats → Stats
count_cycle a =
    stats_of (saturating_add a.cycles 1) a.committed a.stalls a.raw_stalls a.load_use_stalls a.branch_stalls
    a.functional_unit_stalls a.memory_stalls a.waw_stalls a.war_stalls a.flushes a.branches

-- retire, of a branch or not
abbrev pub count_retired : Bool → Stats → Stats
count_retired branch a =
    stats_of a.cycles (saturating_add a.committed 1) a.stalls a.raw_stalls a.load_use_stalls a.branch_stalls
    a.functional_unit_stalls a.memory_stalls a.waw_stalls a.war_stalls a.flushes (up branch a.branches)

-- flush, of so many queued operations
abbrev pub count_flush : ℕ → Stats → Stats
count_flush dropped a =
    stats_of a.cycles a.committed (saturating_add a.stalls dropped) a.raw_stalls a.load_use_stalls
    (saturating_add a.branch_stalls dropped) a.functional_unit_stalls a.memory_stalls a.waw_stalls a.war_stalls
    (saturating_add a.flushes 1) a.branches

unfoldable pub same_hazard : PipelineHazardKind → PipelineHazardKind → Bool
same_hazard a b = eqb (hazard_number a) (hazard_number b)

-- stall: the total, and the counter of the kind.
unfoldable pub count_stall : PipelineHazardKind → Stats → Stats
count_stall h a =
    stats_of a.cycles a.committed (saturating_add a.stalls 1) (up (same_hazard h ReadAfterWrite) a.raw_stalls)
    (up (same_hazard h LoadUse) a.load_use_stalls) (up (same_hazard h BranchFlush) a.branch_stalls)
    (up (same_hazard h FunctionalUnitBusy) a.functional_unit_stalls) (up (same_hazard h MemoryLatency) a.memory_stalls)
    (up (same_hazard h WriteAfterWrite) a.waw_stalls) (up (same_hazard h WriteAfterRead) a.war_stalls) a.flushes a.branches

unfoldable pub count_stalls : List PipelineHazardKind → Stats → Stats
count_stalls [] a = a
count_stalls (h ∷ hs) a = count_stalls hs (count_stall h a)

-- ── The engine ──────────────────────────────────────────────────────────────

-- branch_pending, system_pending: such an operation is in flight.
pub record Marks : Type 0 where
  pub branch : Bool
  pub system : Bool

abbrev pub marks : Bool → Bool → Marks
marks b s = record { branch = b; system = s }

-- The unit whose result is on offer; ours: whether it was retired.
pub record Offer : Type 0 where
  pub writing : Option ℕ
  pub retired : Bool

abbrev pub offer_of : Option ℕ → Bool → Offer
offer_of w r = record { writing = w; retired = r }

-- Ours: whether a cycle is open, and whether an invitation to fetch stands.
pub record Front : Type 0 where
  pub enabled : Bool
  pub halted : Bool
  pub faulted : Bool
  pub in_cycle : Bool
  pub invited : Bool
  pub fetch_pc : ℕ
  pub next_row : ℕ
  pub next_seq : ℕ

abbrev pub front_of : Bool → Bool → Bool → Bool → Bool → ℕ → ℕ → ℕ → Front
front_of e h f c i p r s =
    record { enabled = e; halted = h; faulted = f; in_cycle = c; invited = i; fetch_pc = p; next_row = r; next_seq = s }

-- What a host reads back: counters, wait list, timeline, status.
pub record Log : Type 0 where
  pub stats : Stats
  pub traces : List Trace
  pub rows : List Row
  pub status : Option Text

abbrev pub log_of : Stats → List Trace → List Row → Option Text → Log
log_of a t r m = record { stats = a; traces = t; rows = r; status = m }

pub record State : Type 0 where
  pub machine : Machine
  pub units : List FunctionalUnit
  pub queue : List Op
  pub names : List Text
  pub producer : List (Option ℕ)
  pub marks : Marks
  pub offer : Offer
  pub front : Front
  pub log : Log

abbrev pub state
    : Machine → List FunctionalUnit → List Op → List Text → List (Option ℕ) → Marks → Offer → Front → Log → State
state m us q ns ps k o f l =
    record { machine = m; units = us; queue = q; names = ns; producer = ps; marks = k; offer = o; front = f; log = l }

-- ── Setters ─────────────────────────────────────────────────────────────────

abbrev pub with_units : List FunctionalUnit → State → State
with_units us s = state s.machine us s.queue s.names s.producer s.marks s.offer s.front s.log

abbrev pub with_queue : List Op → State → State
with_queue q s = state s.machine s.units q s.names s.producer s.marks s.offer s.front s.log

abbrev pub with_registers : List Text → List (Option ℕ) → State → State
with_registers ns ps s = state s.machine s.units s.queue ns ps s.marks s.offer s.front s.log

abbrev pub with_marks : Marks → State → State
with_marks k s = state s.machine s.units s.queue s.names s.producer k s.offer s.front s.log

abbrev pub with_offer : Offer → State → State
with_offer o s = state s.machine s.units s.queue s.names s.producer s.marks o s.front s.log

abbrev pub with_front : Front → State → State
with_front f s = state s.machine s.units s.queue s.names s.producer s.marks s.offer f s.log

abbrev pub with_log : Log → State → State
with_log l s = state s.machine s.units s.queue s.names s.producer s.marks s.offer s.front l

abbrev pub with_stats : Stats → Log → Log
with_stats a l = log_of a l.traces l.rows l.status

abbrev pub with_traces : List Trace → Log → Log
with_traces ts l = log_of l.stats ts l.rows l.status

abbrev pub with_rows : List Row → Log → Log
with_rows rs l = log_of l.stats l.traces rs l.status

abbrev pub with_status : Option Text → Log → Log
with_status m l = log_of l.stats l.traces l.rows m

abbrev pub with_enabled : Bool → Front → Front
with_enabled b f =
    front_of b f.halted f.faulted f.in_cycle f.invited f.fetch_pc f.next_row f.next_seq

abbrev pub with_stopped : Bool → Bool → Front → Front
with_stopped h b f =
    front_of f.enabled h b f.in_cycle f.invited f.fetch_pc f.next_row f.next_seq

-- Whether a cycle is open and an invitation stands.
abbrev pub with_turn : Bool → Bool → Front → Front
with_turn c i f = front_of f.enabled f.halted f.faulted c i f.fetch_pc f.next_row f.next_seq

abbrev pub with_fetch_pc : ℕ → Front → Front
with_fetch_pc p f =
    front_of f.enabled f.halted f.faulted f.in_cycle f.invited p f.next_row f.next_seq

abbrev pub with_next : ℕ → ℕ → Front → Front
with_next r s f = front_of f.enabled f.halted f.faulted f.in_cycle f.invited f.fetch_pc r s

-- stall, for each of a list: counted and listed.
unfoldable pub stall_all : List Trace → Log → Log
stall_all ts l = with_stats (count_stalls (map (λ (t : Trace). t.kind) ts) l.stats) (with_traces (l.traces ++ ts) l)

-- ScoreboardPipeline::new
unfoldable pub new : PipelineShape → ℕ → State
new d entry =
    state (machine_of d) (build_units 0 (machine_of d).specs) [] [] [] (marks false false) (offer_of None false)
    (front_of false false false false false entry 0 0) (log_of no_stats [] [] None)

-- All of these unfold where a line says `unfolding engine`.
unfoldable pub engine : Unit {0}
unfolding up same_hazard count_stall count_stalls stall_all new
engine = tt
