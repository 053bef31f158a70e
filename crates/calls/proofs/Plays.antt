-- Calls played one after the other: the engine, the cell memory and the answers are those of the calls passed.
use Prim.Native.Nat.{ℕ, ◌+◌, ◌-◌, ◌≤◌, ◌<◌, max}
use mathlib.Core.Path.{◌≡◌, refl, sym, ap, ap₂, subst, ◌∙◌}
use mathlib.Core.Bool.{true}
use Rattle.std.specs.Prelude.{Option, None, Some}
use mathlib.Core.List.{List, [], ◌∷◌, ◌++◌}
use native.Mathlib.Omega.{arith}
use lib.ListN.{length, get_or, take, drop, replicate, take-append-drop, get_or-replicate}
use lib.Seq.{length_front, length-take-le, take_at, get_or-drop}
use mathlib.Core.Logic.{⊎_elim}
use Rattle.laws.specs.Optional.{when_some}
use Rattle.laws.proofs.Tests.{lt-or-ge}
use Rattle.model.specs.Timeline.{splice}
use Rattle.model.specs.State.{State}
use Rattle.model.specs.Calls.{
  Call,
  start,
  retire,
  retry,
  resolve,
  advance,
  fetch,
  capacity,
  overlap,
  halt,
  fault,
  reset,
  redirect,
  view,
  cell,
  text,
  refusal,
  run,
  sets,
  answer,
  after,
  memory_after,
}
use Rattle.engine.proofs.Does.{same_size}
use Rattle.scoreboard.specs.declared.ScoreboardPipeline.{ScoreboardPipeline}
use Rattle.scoreboard.specs.View.{view_engine}
use Rattle.scoreboard.specs.Valid.{Valid}
use Rattle.decoding.specs.Bytes.{byte_at}
use Rattle.decoding.specs.Calls.{size_at, text_call, call_at}
use Rattle.decoding.proofs.Script.{calls-end}
use Rattle.answers.specs.Encode.{encode}
use Rattle.answers.specs.Size.{size, block}
use Rattle.answers.proofs.Sizes.{answer-fits}
use Rattle.calls.specs.Play.{lent_of, lend, cells_after, block_of, blocks, cells_played, most_lent}
use Rattle.calls.specs.Steps.{shows_only, from, Playable, AllPlayable, Plays}
use Rattle.calls.proofs.Which.{told, told_below, told_text}
use Rattle.calls.proofs.Drives.{stays}
use Rattle.calls.proofs.Lays.{Laying, laying-first, laying-last, laying-formed, laying-call, laying-filled, laying-next}

-- ── A call that only shows ──────────────────────────────────────────────────

-- The calls from 12 on.
pub shown-from : (l : List ℕ) (at : ℕ) → 12 ≤ byte_at l at → shows_only (call_at l at) ≡ true
unfolding text_call
shown-from l at h =
    ⊎_elim
    (λ (k : byte_at l at < 39).
    let e : 12 + (byte_at l at - 12) ≡ byte_at l at = omega arith in
    told_below shows_only l at true k
    ∙ ap (λ i. get_or (told shows_only l at) i true) (sym e)
    ∙ sym (get_or-drop 12 (told shows_only l at) (byte_at l at - 12) true)
    ∙ get_or-replicate 27 (byte_at l at - 12) true true (omega arith))
    (λ (k : 39 ≤ byte_at l at). told_text shows_only l at k)
    (lt-or-ge (byte_at l at) 39)

-- It leaves the engine and the cell memory.
module _ (s : State) where
  still : (c : Call) → shows_only c ≡ true → (run s c ≡ s) × (sets s c ≡ [])
  unfolding run sets
  still start e = ((cc), (cc))
  still retire e = ((cc), (cc))
  still (retry reason) e = ((cc), (cc))
  still (resolve a) e = ((cc), (cc))
  still (advance r lent) e = ((cc), (cc))
  still (fetch g lent) e = ((cc), (cc))
  still (capacity k n) e = ((cc), (cc))
  still (overlap b) e = ((cc), (cc))
  still halt e = ((cc), (cc))
  still (fault note) e = ((cc), (cc))
  still (reset a lent) e = ((cc), (cc))
  still (redirect a) e = ((cc), (cc))
  still (view v) e = (refl, refl)
  still (cell r c lent) e = (refl, refl)
  still (text t room) e = (refl, refl)

  module _ (c : Call) (e : shows_only c ≡ true) where
    pub shown-after : after s c ≡ s
    unfolding after
    shown-after = go (refusal s c)
      where
        go : (o : Option ℕ) → when_some o (run s c) (λ (n : ℕ). s) ≡ s
        go None = (still c e).0
        go (Some n) = refl

    pub shown-memory : (m : List ℕ) → m ≡ memory_after s c m
    shown-memory m = stays s c m (still c e).1

    pub shown-cells : (m : List ℕ) → m ≡ cells_after s c m
    unfolding cells_after lend
    shown-cells m = sym (take-append-drop (lent_of c) m) ∙ ap (λ t. t ++ drop (lent_of c) m) (shown-memory (take (lent_of c) m))

-- The engine and the cell memory stay.
pub plays-shown : {c : Call} {b : ℕ} {e : ScoreboardPipeline} {m out out' : List ℕ} → shows_only c ≡ true → Valid e
    → out' ≡ splice b (encode (answer (view_engine e) m c)) out → Plays c b e m out e m out'
plays-shown {c} {e = e} {m = m} h v o =
    record {
      engine = sym (shown-after (view_engine e) c h);
      valid = v;
      refused = λ n q. refl;
      shown = λ q. refl;
      memory = shown-memory (view_engine e) c h m;
      answer = o;
    }

-- ── A call that is lent the first bytes of the cell memory ──────────────────

pub cells-size : (s : State) (c : Call) (m : List ℕ) → length (cells_after s c m) ≡ length m
unfolding cells_after lend
cells-size s c m = length_front m (memory_after s c (take (lent_of c) m)) (lent_of c) (same_size s c (take (lent_of c) m) refl)

-- It is lent j bytes, and left `part` of them.
module _ (m : List ℕ) {c : Call} {b j : ℕ} {e e' : ScoreboardPipeline} {part out out' : List ℕ} (g : j ≡ lent_of c) (h : lent_of c ≤ length m)
    (z : Plays c b e (take j m) out e' part out') where
  pub lent-cells : part ++ drop j m ≡ cells_after (view_engine e) c m
  unfolding cells_after lend
  lent-cells = ap₂ ◌++◌ (z.memory ∙ ap (λ i. memory_after (view_engine e) c (take i m)) g) (ap (λ i. drop i m) g)

  pub lent-plays : Plays c b e (take (lent_of c) m) out e' (take (lent_of c) (part ++ drop j m)) out'
  lent-plays =
      let size : length part ≡ lent_of c = same_size (view_engine e) c (take j m) z.memory ∙ length-take-le j m (omega (arith, g, h)) ∙ g in
      subst (λ t. Plays c b e (take (lent_of c) m) out e' t out') (sym (take_at part (drop j m) (lent_of c) size))
      (subst (λ i. Plays c b e (take i m) out e' part out') g z)

-- ── All calls ───────────────────────────────────────────────────────────────

-- Those before `at` were played, and what they left and the rest make up the whole.
pub record Played (l : List ℕ) (s₀ : State) (m₀ out₀ : List ℕ) (e : ScoreboardPipeline) (at b : ℕ) (m out : List ℕ) : Type 0 where
  pub valid : Valid e
  pub lent : most_lent (from l at) ≤ length m
  pub size : length m ≡ length m₀
  pub memory : cells_played (view_engine e) m (from l at) ≡ cells_played s₀ m₀ (from l 555)
  pub laid : Laying l (blocks s₀ m₀ (from l 555)) (blocks (view_engine e) m (from l at)) out₀ out at b

pub played-first : {l m out : List ℕ} {e : ScoreboardPipeline} → Valid e → AllPlayable l m out → Played l (view_engine e) m out e 555 17 m out
played-first v a = record { valid = v; lent = a.lent; size = refl; memory = refl; laid = laying-first _ _ _ a.formed a.room }

module _ {l m₀ out₀ m out : List ℕ} {at b : ℕ} {s₀ : State} {e : ScoreboardPipeline} (y : Played l s₀ m₀ out₀ e at b m out) where
  pub played-cells : length l ≤ at → m ≡ cells_played s₀ m₀ (from l 555)
  unfolding cells_played
  played-cells h = sym (ap (cells_played (view_engine e) m) (calls-end l (length l) h)) ∙ y.memory

  pub played-out : length l ≤ at → out ≡ splice 17 (blocks s₀ m₀ (from l 555)) out₀
  unfolding blocks
  played-out h = laying-last y.laid (ap (blocks (view_engine e) m) (calls-end l (length l) h))

  module _ (h : at < length l) {n : ℕ} {filled : List ℕ} (p : n ≡ size (call_at l at)) (f : filled ≡ splice b (replicate n 0) out) where
    lents : max (lent_of (call_at l at)) (most_lent (from l (at + size_at l at))) ≤ length m
    unfolding most_lent
    lents = omega (arith, y.lent, ap most_lent (laying-call y.laid h))

    pub played-playable : Playable l at m b filled
    played-playable = record { formed = laying-formed y.laid h; lent = omega (arith, lents); room = laying-filled y.laid h n f }

    pub played-next : {k : ℕ} {e' : ScoreboardPipeline} {m' out' : List ℕ} → k ≡ size_at l at
        → Plays (call_at l at) b e (take (lent_of (call_at l at)) m) filled e' (take (lent_of (call_at l at)) m') out'
        → m' ≡ cells_after (view_engine e) (call_at l at) m → Played l s₀ m₀ out₀ e' (at + k) (b + n) m' out'
    unfolding blocks block_of cells_played
    played-next {k} {e'} {m'} q z r =
        let c = call_at l at in
        let s = view_engine e in
        let cs : from l at ≡ c ∷ from l (at + k) =
        laying-call y.laid h ∙ ap (λ j. c ∷ from l (at + j)) (sym q) in
        let same : length m' ≡ length m = ap length r ∙ cells-size s c m in
        record {
          valid = z.valid;
          lent = omega (arith, lents, same, ap (λ j. most_lent (from l (at + j))) q);
          size = same ∙ y.size;
          memory = ap₂ (λ t u. cells_played t u (from l (at + k))) z.engine r ∙ sym (ap (cells_played s m) cs) ∙ y.memory;
          laid =
              laying-next y.laid h (answer s (take (lent_of c) m) c) p q (answer-fits s (take (lent_of c) m) c)
              (ap (blocks s m) cs
              ∙ ap (λ t. block c (answer s (take (lent_of c) m) c) ++ t) (ap₂ (λ t u. blocks t u (from l (at + k))) (sym z.engine) (sym r)))
              f
              z.answer;
        }
