-- The word and the text of a wait.
use Prim.Native.Nat.{ℕ, ◌<◌}
use mathlib.Core.Path.{◌≡◌, refl, sym, ap, ap₂, subst, ◌∙◌}
use mathlib.Core.Bool.{true}
use Rattle.std.specs.Prelude.{Option, None, Some, IfSome, option_map, slice_get}
use mathlib.Core.List.{List, [], ◌∷◌}
use lib.ListN.{take}
use types.Run.{OneOf, miss}
use denote.Enum.Declared.{tag_of}
use Rattle.laws.specs.Lists.{All}
use Rattle.laws.specs.Texts.{Text}
use Rattle.model.specs.Config.{UnitSpec}
use Rattle.model.specs.Op.{first_word}
use Rattle.model.specs.Registers.{name_of}
use Rattle.model.specs.Traces.{Trace as Wait, overwrites, waits_for, still_writes, render}
use Rattle.config.specs.declared.Machine.{Machine}
use Rattle.registers.specs.declared.RegisterTable.{RegisterTable}
use Rattle.registers.specs.View.{view_held}
use Rattle.flight.specs.declared.pool.DecodedPool.{DecodedPool}
use Rattle.flight.specs.declared.pool.TextPool.{TextPool}
use Rattle.flight.specs.View.{carried_at}
use Rattle.timeline.specs.declared.WaitForm.{WaitForm}
use Rattle.timeline.specs.declared.WaitForm.TheVariants.{
  Overwrites,
  MemoryOrder,
  Drains,
  WaitsFor,
  WaitsForOlder,
  BehindBranch,
  BehindSystem,
  StillWrites,
  AllBusy,
  RedirectTo,
}
use Rattle.timeline.specs.Waits.{detail_of}
use Rattle.timeline.specs.contracts.WaitForm as form
use Rattle.stalls.specs.declared.Trace.{Trace}
use Rattle.stalls.specs.declared.TraceList.{TraceList}
use Rattle.stalls.specs.View.{Frame, number_word, word_at, view_trace, listed, view_traces}
use Rattle.stalls.specs.Promises.{names_register, Known}
use denote.Ref.{Bor}
use Rattle.laws.proofs.Maps.{nth-map}
use Rattle.occupants.proofs.Seen.{All-get}
use Rattle.requests.specs.View.{wait_frame}
use Rattle.requests.proofs.Known.{name-first}

-- ── The word ────────────────────────────────────────────────────────────────

module _ (ks : List UnitSpec) (ns : List Text) (number : ℕ) where
  -- A form that is not AllBusy has a register's.
  pub word-register : (w : WaitForm) → OneOf (0 ∷ 1 ∷ 2 ∷ 3 ∷ 4 ∷ 5 ∷ 6 ∷ 7 ∷ 9 ∷ []) (tag_of form.the_type w) → name_of ns number ≡ number_word w ks ns number
  unfolding number_word
  word-register Overwrites o = refl
  word-register MemoryOrder o = refl
  word-register Drains o = refl
  word-register WaitsFor o = refl
  word-register WaitsForOlder o = refl
  word-register BehindBranch o = refl
  word-register BehindSystem o = refl
  word-register StillWrites o = refl
  word-register AllBusy o = absurd (miss (0 ∷ 1 ∷ 2 ∷ 3 ∷ 4 ∷ 5 ∷ 6 ∷ 7 ∷ 9 ∷ []) 8 tt o)
  word-register RedirectTo o = refl

  -- A text that has a register finds it among the first n names.
  word-known : (w : WaitForm) {n : ℕ} → (names_register w ≡ true → number < n) → (m o : Text) (to : ℕ)
      → detail_of w m (number_word w ks ns number) o to ≡ detail_of w m (number_word w ks (take n ns) number) o to
  unfolding names_register number_word detail_of
  word-known Overwrites h m o to = ap (λ r. overwrites m r o) (sym (name-first ns (h refl)))
  word-known MemoryOrder h m o to = refl
  word-known Drains h m o to = refl
  word-known WaitsFor h m o to = ap (λ r. waits_for m r (Some o)) (sym (name-first ns (h refl)))
  word-known WaitsForOlder h m o to = ap (λ r. waits_for m r None) (sym (name-first ns (h refl)))
  word-known BehindBranch h m o to = refl
  word-known BehindSystem h m o to = refl
  word-known StillWrites h m o to = ap (still_writes m) (sym (name-first ns (h refl)))
  word-known AllBusy h m o to = refl
  word-known RedirectTo h m o to = refl

-- ── The text ────────────────────────────────────────────────────────────────

abbrev text_of : Wait → Text
text_of w = render w.detail

-- From the texts behind its numbers.
module _ (ds : DecodedPool) (ts : TextPool) (t : RegisterTable) (m : Machine) (n : ℕ) where
  abbrev frame : Frame
  frame = wait_frame ds ts t m n

  detail-known : (x : Trace) (to : ℕ) {mine word other : Text} → Known n x
      → mine ≡ (carried_at frame.legend x.mine).disassembly
      → word ≡ number_word x.form frame.kinds (view_held t) x.number
      → other ≡ (carried_at frame.legend x.other).disassembly
      → detail_of x.form (first_word mine) word (first_word other) to ≡ (view_trace frame to x).detail
  unfolding view_trace word_at
  detail-known x to {word = word} k e f g =
      ap₂ (λ a b. detail_of x.form (first_word a) word (first_word b) to) e g
      ∙ ap (λ r. detail_of x.form (word_at frame.legend x.mine) r (word_at frame.legend x.other) to) f
      ∙ word-known frame.kinds (view_held t) x.number x.form k (word_at frame.legend x.mine) (word_at frame.legend x.other) to

  module _ (l : TraceList) (i : ℕ) {r : Option (Bor Trace)} (e : option_map (λ x. x.now) r ≡ slice_get (listed l) i) where
    listed-get : {o : Option (Bor Trace)} → r ≡ o → slice_get (view_traces frame l) i ≡ option_map (view_trace frame l.target) (option_map (λ x. x.now) o)
    unfolding view_traces
    listed-get h =
        nth-map (view_trace frame l.target) (listed l) i ∙ ap (option_map (view_trace frame l.target)) (sym e)
        ∙ ap (λ o. option_map (view_trace frame l.target) (option_map (λ x. x.now) o)) h

    pub wait-text : (x : Bor Trace) → r ≡ Some x → All (Known n) (listed l) → {mine word other : Text}
        → mine ≡ (carried_at frame.legend x.now.mine).disassembly
        → word ≡ number_word x.now.form frame.kinds (view_held t) x.now.number
        → other ≡ (carried_at frame.legend x.now.other).disassembly
        → Some (render (detail_of x.now.form (first_word mine) word (first_word other) l.target)) ≡ option_map text_of (slice_get (view_traces frame l) i)
    wait-text x h a f g k =
        let known = subst (λ o. IfSome o (Known n)) (sym e ∙ ap (option_map (λ y. y.now)) h) (All-get (Known n) (listed l) i a) in
        ap (λ y. Some (render y)) (detail-known x.now l.target known f g k) ∙ sym (ap (option_map text_of) (listed-get h))

    pub wait-past : r ≡ None → option_map text_of (slice_get (view_traces frame l) i) ≡ None
    wait-past h = ap (option_map text_of) (listed-get h)
