-- What `forecast` answers, by what was written to `out`.
use Prim.Native.Nat.{ℕ, ◌≤◌, ◌<◌}
use mathlib.Core.Path.{◌≡◌, refl, sym, ap, ap₂, ◌∙◌}
use mathlib.Core.Bool.{Bool, true, false, cond}
use Rattle.std.specs.Prelude.{None, Some, Ok, Err}
use mathlib.Core.List.{List}
use native.Mathlib.Nat.{zero-add}
use native.Mathlib.Omega.{arith}
use lib.Dec.{ltb}
use lib.ListN.{length, take, drop, replicate, length-replicate}
use lib.Seq.{take_at, length-take-le}
use borrow.Author.Tests.{lt-ltb, le-ltb}
use Rattle.laws.specs.Optional.{when_some}
use Rattle.laws.specs.Texts.{Text, bytes, utf8}
use Rattle.laws.proofs.Choices.{none-some}
use Rattle.laws.proofs.Tests.{cond-lt, cond-ge, when_some-some, when_some-none}
use Rattle.model.specs.Config.{PipelineShape, at_least_one, specs_or_generic, capacities}
use Rattle.model.specs.Timeline.{overlay, splice, write_all}
use Rattle.model.specs.Requests.{short_for, buffer_with}
use Rattle.model.specs.Calls.{
  Answer,
  overlap,
  first_of,
  too_big,
  bad_byte,
  bad_text,
  bad_spec_name,
  extra_overflows,
  make_checks,
  make_refusal,
  after,
  memory_after,
  make,
  make_memory,
  refusal,
  checks,
  sets,
  made,
  no_machine,
}
use Rattle.model.specs.State.{new}
use Rattle.model.specs.Forecast.{
  Forecast,
  Run,
  not_made,
  line_refused,
  going,
  not_written,
  lent_of,
  play,
  forecast_shape,
  forecast_run,
  fuel_for,
  excess,
  forecast_made,
  forecast_of,
  printed,
  cells_left,
  forecast,
  forecast_memory,
  forecast_checks,
  forecast_refusal,
  forecast_answer,
  forecast_out,
  written as model-written,
}
use Rattle.timeline.proofs.Memory.{overlay-parts}
use Rattle.capability.specs.declared.Refusal.TheVariants.{ShortMemory}
use Rattle.traces.specs.Texts.{Laid, Written, written, Wrote}
use Rattle.scoreboard.specs.declared.ScoreboardPipeline.{ScoreboardPipeline}
use Rattle.scoreboard.specs.View.{view_engine}
use Rattle.scoreboard.specs.Calls.{Made, Does}
use Rattle.driving.specs.declared.Going.{Going}
use Rattle.driving.specs.Runs.{view_run, Goes}
use Rattle.forecasting.specs.View.{answered}
use Rattle.forecasting.proofs.Runs.{run-cells}

-- ── Making ──────────────────────────────────────────────────────────────────

-- Only short cells are refused.
shape-refusal : (n : ℕ) → make_refusal forecast_shape n ≡ cond (ltb n 51200) (Some 13) None
unfolding make_refusal make_checks first_of too_big bad_byte bad_text bad_spec_name extra_overflows capacities specs_or_generic
    at_least_one forecast_shape bytes utf8
shape-refusal n = refl

pub shape-made : (n : ℕ) → 51200 ≤ n → make_refusal forecast_shape n ≡ None
shape-made n h = shape-refusal n ∙ cond-ge _ _ h

module _ (input cells : List ℕ) where
  pub short-run : length cells < 51200 → forecast_of input cells ≡ not_made 13 cells
  unfolding forecast_of forecast_made make
  short-run h =
      ap (λ k. forecast_made k input cells)
      (when_some-some (made (new forecast_shape 0)) no_machine (shape-refusal (length cells) ∙ cond-lt _ _ h))

  module _ (h : 51200 ≤ length cells) where
    long-run : forecast_of input cells ≡ forecast_made (made (new forecast_shape 0)) input cells
    unfolding forecast_of make
    long-run = ap (λ k. forecast_made k input cells) (when_some-none (made (new forecast_shape 0)) no_machine (shape-made (length cells) h))

    pub excess-run : 65536 < length input → forecast_of input cells ≡ line_refused 0 14 cells
    unfolding forecast_made excess
    excess-run l =
        long-run
        ∙ ap
        (λ b. elim b [
          | true ↦ line_refused 0 14 cells
          | false ↦ forecast_run (fuel_for input) (going (play (overlap true) (lent_of (new forecast_shape 0) (make_memory forecast_shape cells))) input 0)
        ])
        (lt-ltb 65536 (length input) l)

    pub whole_run : length input ≤ 65536
        → forecast_of input cells
        ≡ forecast_run (fuel_for input) (going (lent_of (after (new forecast_shape 0) (overlap true)) (make_memory forecast_shape cells)) input 0)
    unfolding forecast_made excess play memory_after refusal checks first_of sets write_all
    whole_run l =
        long-run
        ∙ ap
        (λ b. elim b [
          | true ↦ line_refused 0 14 cells
          | false ↦ forecast_run (fuel_for input) (going (play (overlap true) (lent_of (new forecast_shape 0) (make_memory forecast_shape cells))) input 0)
        ])
        (le-ltb 65536 (length input) l)

-- ── Answers ─────────────────────────────────────────────────────────────────

answer-by : (b : Bool) (n : ℕ) → answered (cond b (Err ShortMemory) (Ok (Some n))) ≡ when_some (cond b (Some 13) None) (model-written n) not_written
unfolding answered
answer-by true n = refl
answer-by false n = refl

out-by : (b : Bool) (t lent : List ℕ) → cond b lent (overlay t lent) ≡ when_some (cond b (Some 13) None) (overlay t lent) (λ (r : ℕ). lent)
out-by true t lent = refl
out-by false t lent = refl

module _ (input cells out : List ℕ) where
  abbrev Told : Forecast → List ℕ → List ℕ → Type 0
  Told r cells' out' =
      (r ≡ forecast_answer input cells out) × ((cells' ≡ forecast_memory input cells) × (out' ≡ forecast_out input cells out))

  pub told-short : length cells < 51200 → Told (not_written 13) cells out
  unfolding forecast_answer forecast_refusal forecast_checks first_of forecast_memory forecast_out cells_left
  told-short h = (
    sym (when_some-some (model-written (length (forecast input cells))) not_written (cond-lt _ _ h)),
    (
      sym (ap cells_left (short-run input cells h)),
      sym (when_some-some (overlay (forecast input cells) out) (λ (r : ℕ). out) (cond-lt _ _ h)),
    ),
  )

  module _ (h : 51200 ≤ length cells) where
    refusal_is : forecast_refusal input cells out ≡ cond (ltb (length out) (length (forecast input cells))) (Some 13) None
    unfolding forecast_refusal forecast_checks first_of
    refusal_is = cond-ge _ _ h

    answer-is : {w : Written} {out' : List ℕ} → Wrote (Some (forecast input cells)) out out' w → answered w ≡ forecast_answer input cells out
    unfolding forecast_answer written
    answer-is w =
        ap answered w.is
        ∙ answer-by (ltb (length out) (length (forecast input cells))) (length (forecast input cells))
        ∙ sym (ap (λ o. when_some o (model-written (length (forecast input cells))) not_written) refusal_is)

    out-is : {w : Written} {out' : List ℕ} → Wrote (Some (forecast input cells)) out out' w → out' ≡ forecast_out input cells out
    unfolding forecast_out short_for buffer_with
    out-is w =
        w.buffer
        ∙ out-by (ltb (length out) (length (forecast input cells))) (forecast input cells) out
        ∙ sym (ap (λ o. when_some o (overlay (forecast input cells) out) (λ (r : ℕ). out)) refusal_is)

    pub told : {run : Run} {t : Text} {w : Written} {r : Forecast} {cells' out' : List ℕ} → forecast_of input cells ≡ run → t ≡ printed run
        → Wrote (Some t) out out' w → r ≡ answered w → cells' ≡ cells_left run → Told r cells' out'
    unfolding forecast forecast_memory
    told {run} {t} {w} {r} {cells'} {out'} e p k a m =
        let f : t ≡ forecast input cells = p ∙ sym (ap printed e) in
        let v : Wrote (Some (forecast input cells)) out out' w = rw (sym f) k in
        (a ∙ answer-is v, (m ∙ sym (ap cells_left e), out-is v))

-- ── The page ────────────────────────────────────────────────────────────────

page-least : (m : List ℕ) (k : ℕ) → length m ≡ 524288 → k ≤ 524288 → k ≤ length m
page-least m k e h = omega (arith, e, h)

-- So many bytes fit on an empty page.
pub page-room : (k : ℕ) → k ≤ 524288 → k ≤ length {A = ℕ} (replicate 524288 0)
page-room k h = page-least (replicate 524288 0) k (length-replicate {A = ℕ} 524288 0) h

pub page-count : 524288 ≡ length {A = ℕ} (replicate 524288 0)
page-count = sym (length-replicate {A = ℕ} 524288 0)

-- A place within the page that was given is one within the page that is left, and the part up to it is as long.
pub within-page : (page page' : List ℕ) {n k : ℕ} → n ≤ k → k ≤ length page → length page' ≡ length page → n ≤ length page'
within-page page page' h q s = omega arith

pub part-of-page : (page page' : List ℕ) {n k : ℕ} → n ≤ k → k ≤ length page → length page' ≡ length page → n ≡ length (take n page')
part-of-page page page' {n} h q s = sym (length-take-le n page' (within-page page page' h q s))

-- What was laid from the front on is the part up to its end.
pub laid-front : {t : Text} {page page' : List ℕ} {n : ℕ} → length t ≤ length page → Laid 0 t page page' n → take n page' ≡ t
unfolding splice
laid-front {t} {page} {page'} {n} h l =
    ap (take n) (l.is ∙ overlay-parts t page h) ∙ take_at t (drop (length t) page) n (sym (l.end ∙ zero-add (length t)))

-- ── The run in code ─────────────────────────────────────────────────────────

module _ (cells : List ℕ) (h : 51200 ≤ length cells) {d : PipelineShape} (e : d ≡ forecast_shape) where
  -- So much memory is not refused.
  pub not-refused : (n : ℕ) → Some n ≡ make_refusal d (length cells) → ⊥
  not-refused n q = none-some n (sym (q ∙ ap (λ x. make_refusal x (length cells)) e ∙ shape-made (length cells) h))

  -- From the engine that was made, with overlap on.
  pub ran
      : {k on r : ScoreboardPipeline} {a : Answer} {g : Going} {cells₁ cells₂ : List ℕ} (input : Text) → length input ≤ 65536 → Made d 0 k
      → cells₁ ≡ make_memory d cells → Does k (overlap true) a on
      → Goes input (forecast_run (fuel_for input) (going (lent_of (view_engine on) cells₁) input 0)) r g cells₂
      → (forecast_of input cells ≡ view_run input r g cells₂) × (cells₂ ≡ cells_left (view_run input r g cells₂))
  ran {k} {on} {r} {g = g} {cells₁} {cells₂} input l n c o s =
      let on-here : view_engine on ≡ after (new forecast_shape 0) (overlap true) =
      o.engine ∙ ap (λ s. after s (overlap true)) (n.engine ∙ ap (λ x. new x 0) e) in
      let cells-here : cells₁ ≡ make_memory forecast_shape cells = c ∙ ap (λ x. make_memory x cells) e in (
        whole_run input cells h l
            ∙ sym (ap₂ (λ s m. forecast_run (fuel_for input) (going (lent_of s m) input 0)) on-here cells-here)
            ∙ sym s.is,
        sym (run-cells input r g cells₂),
      )
