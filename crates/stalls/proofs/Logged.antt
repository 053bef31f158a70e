-- A log is its waits, the target of its redirect and its counters: what these are settles what the log is to the model.
use Prim.Native.Nat.{ℕ, ◌+◌, ◌<◌}
use mathlib.Core.Path.{◌≡◌, refl, ap, ap₂, ◌∙◌}
use mathlib.Core.Bool.{false}
use mathlib.Core.List.{List, [], ◌∷◌, ◌++◌, map}
use native.Mathlib.Omega.{arith}
use lib.ListN.{length, get_or, set, take}
use lib.Seq.{length-take-le}
use Rattle.laws.specs.Lists.{All}
use Rattle.laws.specs.Texts.{Text}
use Rattle.laws.proofs.Slices.{Seen, slice-next}
use Rattle.laws.proofs.Maps.{length-of, map-append}
use Rattle.laws.proofs.Shift.{pushed}
use Rattle.capability.specs.declared.PipelineHazardKind.TheVariants.{BranchFlush}
use Rattle.model.specs.State.{Stats, Log as ModelLog, log_of, count_stall, count_stalls, stall_all, with_stats, with_traces}
use Rattle.model.specs.Traces.{trace_of, redirect_to, FETCH, WRITE}
use Rattle.timeline.specs.declared.WaitForm.{WaitForm}
use Rattle.timeline.specs.declared.WaitForm.TheVariants.{
  Overwrites,
  MemoryOrder,
  Drains,
  WaitsFor,
  WaitsForOlder,
  BehindBranch,
  BehindSystem,
  StillWrites,
  AllBusy,
  RedirectTo,
}
use Rattle.timeline.specs.Waits.{detail_of}
use Rattle.stalls.specs.declared.Trace.{Trace}
use Rattle.stalls.specs.declared.TraceList.{TraceList}
use Rattle.stalls.specs.declared.Log.{Log}
use Rattle.stalls.specs.View.{
  form_kind,
  form_from,
  form_to,
  word_at,
  number_word,
  Frame,
  view_trace,
  listed,
  view_traces,
  view_stats,
  view_log,
  TraceListOk,
  logs,
}
use Rattle.stalls.specs.Promises.{is_redirect, NoRedirect, redirect_trace, Lists, Logs}

-- ── The list ────────────────────────────────────────────────────────────────

module _ {t : TraceList} (ok : TraceListOk t) where
  pub listed-length : length (listed t) ≡ t.len
  unfolding listed
  listed-length = length-take-le t.len t.items (omega (arith, ok.few, ok.size))

  pub traces-length : (f : Frame) → length (view_traces f t) ≡ t.len
  unfolding view_traces
  traces-length f = length-of (view_trace f t.target) (listed t) ∙ listed-length

  pub listed_next : (d : Trace) {i : ℕ} → i < t.len → Seen (listed t) t.len i (get_or t.items i d)
  unfolding listed
  listed_next d h = slice-next t.items d (omega (arith, ok.few, ok.size)) h

pub take_pushed : (l : List Trace) (n : ℕ) (x : Trace) → n < length l → take (n + 1) (set l n x) ≡ take n l ++ x ∷ []
take_pushed l n x h = pushed l n x h refl

-- The same waits with another target.
pub list-target : {t : TraceList} {l : List Trace} {to : ℕ} (n : ℕ) → Lists t l to → Lists (record { items = t.items; len = t.len; target = n }) l n
unfolding listed
list-target n e = record { waits = e.waits; target = refl; ok = record { few = e.ok.few; size = e.ok.size } }

-- ── What a log becomes ──────────────────────────────────────────────────────

-- A log with these waits, this target and these counters.
pub logs-by : {r : Log} {l : List Trace} {to : ℕ} (a : Stats) {m : Frame → ModelLog} → Lists r.traces l to → view_stats r.stats ≡ a
    → ((f : Frame) → log_of a (map (view_trace f to) l) f.rows f.status ≡ m f)
    → Logs r l to m
unfolding view_log view_traces
logs-by {r} {l} {to} a t s h =
    record {
      waits = t.waits;
      target = t.target;
      is = λ f. ap₂ (λ b w. log_of b w f.rows f.status) s (ap₂ (λ n w. map (view_trace f n) w) t.target t.waits) ∙ h f;
      ok = t.ok;
    }

pub stalled : (f : Frame) (l : Log) (t : Trace)
    → log_of (count_stall (form_kind t.form) (view_stats l.stats)) (map (view_trace f l.traces.target) (listed l.traces ++ t ∷ [])) f.rows f.status
    ≡ stall_all (view_trace f l.traces.target t ∷ []) (view_log f l)
unfolding view_log view_traces view_trace stall_all count_stalls
stalled f l t =
    ap (λ w. log_of (count_stall (form_kind t.form) (view_stats l.stats)) w f.rows f.status)
    (map-append (view_trace f l.traces.target) (listed l.traces) (t ∷ []))

-- ── A redirect ──────────────────────────────────────────────────────────────

-- No other wait reads the target.
detail-same : (w : WaitForm) → is_redirect w ≡ false → (m r o : Text) (a b : ℕ) → detail_of w m r o a ≡ detail_of w m r o b
unfolding is_redirect detail_of
detail-same Overwrites e m r o a b = refl
detail-same MemoryOrder e m r o a b = refl
detail-same Drains e m r o a b = refl
detail-same WaitsFor e m r o a b = refl
detail-same WaitsForOlder e m r o a b = refl
detail-same BehindBranch e m r o a b = refl
detail-same BehindSystem e m r o a b = refl
detail-same StillWrites e m r o a b = refl
detail-same AllBusy e m r o a b = refl
detail-same RedirectTo e m r o a b = absurd (let z : ◌≡◌ {A = ℕ} 0 1 = cc in omega arith)

pub trace-same : (f : Frame) (a b : ℕ) (t : Trace) → NoRedirect t → view_trace f a t ≡ view_trace f b t
unfolding view_trace
trace-same f a b t e =
    ap (trace_of (form_kind t.form) (form_from t.form) (form_to t.form))
    (detail-same t.form e (word_at f.legend t.mine) (number_word t.form f.kinds f.names t.number) (word_at f.legend t.other) a b)

-- Two functions that agree wherever P holds.
pub map-all : {A B : Type 0} (P : A → Type 0) (f g : A → B) → ((x : A) → P x → f x ≡ g x) → (l : List A) → All P l → map f l ≡ map g l
map-all P f g h [] a = refl
map-all P f g h (x ∷ xs) a = ap₂ (λ y ys. y ∷ ys) (h x a.0) (map-all P f g h xs a.1)

pub redirected : (f : Frame) (l : Log) (target : ℕ) (a : Stats) → All NoRedirect (listed l.traces)
    → log_of a (map (view_trace f target) (listed l.traces ++ redirect_trace ∷ [])) f.rows f.status
    ≡ with_stats a (with_traces ((view_log f l).traces ++ trace_of BranchFlush WRITE FETCH (redirect_to target) ∷ []) (view_log f l))
unfolding logs detail_of
redirected f l target a n =
    ap (λ w. log_of a w f.rows f.status)
    (map-append (view_trace f target) (listed l.traces) (redirect_trace ∷ [])
    ∙ ap (λ w. w ++ trace_of BranchFlush WRITE FETCH (redirect_to target) ∷ [])
    (map-all NoRedirect (view_trace f target) (view_trace f l.traces.target) (trace-same f target l.traces.target) (listed l.traces) n))
