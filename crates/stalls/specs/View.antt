-- What the waits of a cycle and the counters mean to the model. A wait keeps numbers: places in the pool, a register or a kind.
use Rattle.std.specs.Prelude.{ℕ, ◌≤◌, ◌≡◌, List, map, length, take, Option}
use Rattle.laws.specs.Texts.{Text}
use Rattle.capability.specs.declared.PipelineHazardKind.{PipelineHazardKind}
use Rattle.capability.specs.declared.PipelineHazardKind.TheVariants.{ReadAfterWrite, BranchFlush, FunctionalUnitBusy, WriteAfterWrite, WriteAfterRead}
use Rattle.capability.specs.declared.PipelineStats.{PipelineStats}
use Rattle.model.specs.Config.{UnitSpec, spec_name}
use Rattle.model.specs.Op.{first_word}
use Rattle.model.specs.Registers.{name_of}
use Rattle.model.specs.Timeline.{Row}
use Rattle.model.specs.Traces.{Trace as Wait, trace_of, FETCH, ISSUE, READ, EXECUTE, WRITE}
use Rattle.model.specs.State.{Stats, stats_of, Log as ModelLog, log_of}
use Rattle.flight.specs.View.{Legend, carried_at}
use Rattle.timeline.specs.declared.WaitForm.{WaitForm}
use Rattle.timeline.specs.declared.WaitForm.TheVariants.{
  Overwrites,
  MemoryOrder,
  Drains,
  WaitsFor,
  WaitsForOlder,
  BehindBranch,
  BehindSystem,
  StillWrites,
  AllBusy,
  RedirectTo,
}
use Rattle.timeline.specs.Waits.{detail_of}
use Rattle.stalls.specs.declared.Trace.{Trace}
use Rattle.stalls.specs.declared.TraceList.{TraceList}
use Rattle.stalls.specs.declared.Log.{Log}

-- ── A wait ──────────────────────────────────────────────────────────────────

unfoldable pub form_kind : WaitForm → PipelineHazardKind
form_kind Overwrites = WriteAfterRead
form_kind MemoryOrder = FunctionalUnitBusy
form_kind Drains = FunctionalUnitBusy
form_kind WaitsFor = ReadAfterWrite
form_kind WaitsForOlder = ReadAfterWrite
form_kind BehindBranch = BranchFlush
form_kind BehindSystem = FunctionalUnitBusy
form_kind StillWrites = WriteAfterWrite
form_kind AllBusy = FunctionalUnitBusy
form_kind RedirectTo = BranchFlush

unfoldable pub form_from : WaitForm → ℕ
form_from Overwrites = READ
form_from MemoryOrder = READ
form_from Drains = READ
form_from WaitsFor = EXECUTE
form_from WaitsForOlder = EXECUTE
form_from BehindBranch = ISSUE
form_from BehindSystem = ISSUE
form_from StillWrites = ISSUE
form_from AllBusy = ISSUE
form_from RedirectTo = WRITE

unfoldable pub form_to : WaitForm → ℕ
form_to Overwrites = WRITE
form_to MemoryOrder = WRITE
form_to Drains = WRITE
form_to WaitsFor = ISSUE
form_to WaitsForOlder = ISSUE
form_to BehindBranch = FETCH
form_to BehindSystem = FETCH
form_to StillWrites = FETCH
form_to AllBusy = FETCH
form_to RedirectTo = FETCH

-- The word that the number stands for: a kind's name for AllBusy, else a register's.
unfoldable pub number_word : WaitForm → List UnitSpec → List Text → ℕ → Text
number_word Overwrites ks ns n = name_of ns n
number_word MemoryOrder ks ns n = name_of ns n
number_word Drains ks ns n = name_of ns n
number_word WaitsFor ks ns n = name_of ns n
number_word WaitsForOlder ks ns n = name_of ns n
number_word BehindBranch ks ns n = name_of ns n
number_word BehindSystem ks ns n = name_of ns n
number_word StillWrites ks ns n = name_of ns n
number_word AllBusy ks ns n = spec_name ks n
number_word RedirectTo ks ns n = name_of ns n

-- The mnemonic of the operation at a place.
unfoldable pub word_at : Legend → ℕ → Text
word_at g place = first_word (carried_at g place).disassembly

-- What stands behind the numbers of waits, and beside them in the model's log.
pub record Frame : Type 0 where
  pub legend : Legend
  pub kinds : List UnitSpec
  pub names : List Text
  pub rows : List Row
  pub status : Option Text

unfoldable pub view_trace : Frame → ℕ → Trace → Wait
view_trace f target t =
    trace_of (form_kind t.form) (form_from t.form) (form_to t.form)
    (detail_of t.form (word_at f.legend t.mine) (number_word t.form f.kinds f.names t.number)
    (word_at f.legend t.other) target)

-- The waits in order, as they stand.
unfoldable pub listed : TraceList → List Trace
listed l = take l.len l.items

unfoldable pub view_traces : Frame → TraceList → List Wait
view_traces f l = map (view_trace f l.target) (listed l)

-- ── The counters ────────────────────────────────────────────────────────────

unfoldable pub view_stats : PipelineStats → Stats
view_stats s =
    stats_of s.cycles s.committed s.stalls s.raw_stalls s.load_use_stalls s.branch_stalls
    s.functional_unit_stalls s.memory_stalls s.waw_stalls s.war_stalls s.flushes s.branches

unfoldable pub view_log : Frame → Log → ModelLog
view_log f l = log_of (view_stats l.stats) (view_traces f l.traces) f.rows f.status

-- ── When they are well formed ───────────────────────────────────────────────

pub record TraceListOk (l : TraceList) : Type 0 where
  pub few : l.len ≤ 130
  pub size : length l.items ≡ 130

abbrev pub LogOk : Log → Type 0
LogOk l = TraceListOk l.traces

-- All of these unfold where a line says `unfolding logs`.
unfoldable pub logs : Unit {0}
unfolding form_kind form_from form_to number_word word_at view_trace listed view_traces view_stats view_log
logs = tt
