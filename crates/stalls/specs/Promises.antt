-- What the functions of a log hand back: each wait as it stands, and the model's log whatever stands behind the numbers.
use Rattle.std.specs.Prelude.{ℕ, ◌<◌, ◌≡◌, Bool, true, false, List}
use Rattle.model.specs.State.{Log as ModelLog}
use Rattle.timeline.specs.declared.WaitForm.{WaitForm}
use Rattle.timeline.specs.declared.WaitForm.TheVariants.{
  Overwrites,
  MemoryOrder,
  Drains,
  WaitsFor,
  WaitsForOlder,
  BehindBranch,
  BehindSystem,
  StillWrites,
  AllBusy,
  RedirectTo,
}
use Rattle.stalls.specs.declared.Trace.{Trace}
use Rattle.stalls.specs.declared.TraceList.{TraceList}
use Rattle.stalls.specs.declared.Log.{Log}
use Rattle.stalls.specs.View.{Frame, listed, view_log, TraceListOk, LogOk}

-- One redirect at most is listed: the list keeps one target.
unfoldable pub is_redirect : WaitForm → Bool
is_redirect Overwrites = false
is_redirect MemoryOrder = false
is_redirect Drains = false
is_redirect WaitsFor = false
is_redirect WaitsForOlder = false
is_redirect BehindBranch = false
is_redirect BehindSystem = false
is_redirect StillWrites = false
is_redirect AllBusy = false
is_redirect RedirectTo = true

abbrev pub NoRedirect : Trace → Type 0
NoRedirect t = is_redirect t.form ≡ false

abbrev pub redirect_trace : Trace
redirect_trace = record { form = RedirectTo; mine = 80; other = 80; number = 0 }

-- The text of the form has a register.
unfoldable pub names_register : WaitForm → Bool
names_register Overwrites = true
names_register MemoryOrder = false
names_register Drains = false
names_register WaitsFor = true
names_register WaitsForOlder = true
names_register BehindBranch = false
names_register BehindSystem = false
names_register StillWrites = true
names_register AllBusy = false
names_register RedirectTo = false

-- The register of a wait, where its text has one, is one of the first n.
abbrev pub Known : ℕ → Trace → Type 0
Known n t = names_register t.form ≡ true → t.number < n

-- The list holds these waits, with this target.
pub record Lists (r : TraceList) (l : List Trace) (to : ℕ) : Type 0 where
  pub waits : listed r ≡ l
  pub target : r.target ≡ to
  pub ok : TraceListOk r

-- The log holds these waits, with this target; to the model it is this log.
pub record Logs (r : Log) (l : List Trace) (to : ℕ) (m : Frame → ModelLog) : Type 0 where
  pub waits : listed r.traces ≡ l
  pub target : r.traces.target ≡ to
  pub is : (f : Frame) → view_log f r ≡ m f
  pub ok : LogOk r
