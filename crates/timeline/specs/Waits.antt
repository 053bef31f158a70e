-- What a form and its words are to the model.
use Rattle.std.specs.Prelude.{ℕ, None, Some}
use Rattle.laws.specs.Texts.{Text}
use Rattle.model.specs.Traces.{Detail, overwrites, memory_order, drains, waits_for, behind_branch, behind_system, still_writes, all_busy, redirect_to}
use Rattle.timeline.specs.declared.WaitForm.{WaitForm}
use Rattle.timeline.specs.declared.WaitForm.TheVariants.{
  Overwrites,
  MemoryOrder,
  Drains,
  WaitsFor,
  WaitsForOlder,
  BehindBranch,
  BehindSystem,
  StillWrites,
  AllBusy,
  RedirectTo,
}

-- Of the words: mine, register or kind, other; and the target.
unfoldable pub detail_of : WaitForm → Text → Text → Text → ℕ → Detail
detail_of Overwrites m r o t = overwrites m r o
detail_of MemoryOrder m r o t = memory_order m o
detail_of Drains m r o t = drains m
detail_of WaitsFor m r o t = waits_for m r (Some o)
detail_of WaitsForOlder m r o t = waits_for m r None
detail_of BehindBranch m r o t = behind_branch m
detail_of BehindSystem m r o t = behind_system m
detail_of StillWrites m r o t = still_writes m r
detail_of AllBusy m r o t = all_busy r
detail_of RedirectTo m r o t = redirect_to t
