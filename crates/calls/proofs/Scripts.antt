-- A list of its form with all the room that it takes: what making and its calls leave.
use Prim.Native.Nat.{ℕ, ◌+◌, ◌≤◌, max}
use mathlib.Core.Path.{◌≡◌, refl, sym, ap, ap₂, subst, ◌∙◌}
use mathlib.Core.Bool.{Bool, true, false, cond}
use Rattle.std.specs.Prelude.{Option, None, Some, Result, Ok, Err, IfOk}
use mathlib.Core.List.{List, [], ◌∷◌, ◌++◌}
use native.Mathlib.Omega.{arith}
use lib.Dec.{leb}
use lib.ListN.{length, take, drop, take-append-drop}
use lib.Seq.{length_front, length-take-le}
use Rattle.laws.specs.Optional.{when_some}
use Rattle.laws.proofs.Tests.{and_both, when_some-some, when_some-none}
use Rattle.model.specs.Config.{PipelineShape}
use Rattle.model.specs.Timeline.{splice}
use Rattle.capability.specs.declared.Refusal.{Refusal}
use Rattle.capability.specs.Refusals.{refusal_number, refusal_of}
use Rattle.model.specs.Calls.{make_refusal, memory_made, make_memory}
use Rattle.timeline.proofs.Memory.{splice-append, splice-length}
use Rattle.rows.proofs.Bytes.{write_all-length}
use Rattle.engine.specs.View.{answer_by, done_answer}
use Rattle.scoreboard.specs.declared.ScoreboardPipeline.{ScoreboardPipeline}
use Rattle.scoreboard.specs.View.{view_engine}
use Rattle.scoreboard.specs.Valid.{Valid}
use Rattle.scoreboard.specs.Calls.{Made, Makes}
use Rattle.decoding.specs.Machine.{shape_at, entry_at, making_lent, machine_formed}
use Rattle.decoding.specs.Script.{Script, script_of, list_formed, decode}
use Rattle.answers.specs.Bytes.{number_bytes}
use Rattle.answers.specs.Encode.{encode}
use Rattle.calls.specs.declared.Tally.{Tally}
use Rattle.calls.specs.Play.{
  lend,
  blocks,
  cells_played,
  refused_blocks,
  most_lent,
  all_sizes,
  cells_needed,
  out_needed,
  header,
  cells_made,
  made_bytes,
  refused_bytes,
  script_answers,
  script_cells,
}
use Rattle.calls.specs.Tally.{tally}
use Rattle.calls.specs.Steps.{from, good, AllPlayable}
use Rattle.calls.proofs.Scans.{machine-there}

-- ── The room ────────────────────────────────────────────────────────────────

pub record Roomy (l m out : List ℕ) (t : Tally) : Type 0 where
  pub long : 555 ≤ length l
  pub formed : good l 555 ≡ true
  pub making : making_lent l ≤ length m
  pub lent : most_lent (from l 555) ≤ length m
  pub room : 17 + all_sizes (from l 555) ≤ length out
  pub calls : t.calls ≡ length (from l 555)
  pub bytes : t.bytes ≡ 17 + all_sizes (from l 555)

decode-formed : (l : List ℕ) (d : Script) → decode l ≡ Some d → list_formed l ≡ true
unfolding decode
decode-formed l d e = go (list_formed l) e
  where
    go : (b : Bool) → cond b (Some (script_of l)) None ≡ Some d → b ≡ true
    go true q = refl
    go false q = cc

pub roomy : {l m out : List ℕ} {t : Tally} → decode l ≡ Some (script_of l) → t ≡ tally (script_of l) → t.lent ≤ length m → t.bytes ≤ length out
    → Roomy l m out t
unfolding script_of cells_needed out_needed list_formed
roomy {l} {m} {out} {t} e q h k =
    let f = (and_both (leb (length l) 16777216) _ (decode-formed l (script_of l) e)).1 in
    let g = and_both (machine_formed l) _ f in
    let lent : t.lent ≡ max (making_lent l) (most_lent (from l 555)) = ap (λ x. x.lent) q in
    let bytes : t.bytes ≡ 17 + all_sizes (from l 555) = ap (λ x. x.bytes) q in
    record {
      long = machine-there l g.0;
      formed = g.1;
      making = omega arith;
      lent = omega arith;
      room = omega arith;
      calls = ap (λ x. x.calls) q;
      bytes = bytes;
    }

-- ── The header, and the answers behind it ───────────────────────────────────

-- The header starts with the answer to making.
abbrev pub heads : Result Unit Refusal → Tally → List ℕ
heads r t = encode (done_answer r) ++ (number_bytes t.calls ++ number_bytes t.bytes)

module _ {l m out : List ℕ} {t : Tally} (r : Roomy l m out t) (made : Result Unit Refusal) {mid : List ℕ} (p : mid ≡ splice 0 (heads made t) out) where
  pub header-room : 17 + all_sizes (from l 555) ≤ length mid
  header-room = omega (arith, r.room, ap length p, splice-length 0 (heads made t) out)

  behind : (k : ℕ) → encode (done_answer made) ≡ k ∷ [] → (body : List ℕ) {end : List ℕ} → end ≡ splice 17 body mid
      → end ≡ splice 0 (header k (script_of l) ++ body) out
  unfolding header script_of out_needed number_bytes
  behind k e body q =
      let h : heads made t ≡ header k (script_of l) =
      ap₂ ◌++◌ e (ap₂ (λ a b. number_bytes a ++ number_bytes b) r.calls r.bytes) in
      let is : mid ≡ splice 0 (header k (script_of l)) out = p ∙ ap (λ x. splice 0 x out) h in
      q ∙ ap (splice 17 body) is ∙ sym (splice-append 0 (header k (script_of l)) body out)

-- ── Making ──────────────────────────────────────────────────────────────────

-- `part` is what making left of the n bytes of cell memory that it was lent.
pub record Making (l m : List ℕ) (n : ℕ) (made : Result ScoreboardPipeline Refusal) (part : List ℕ) : Type 0 where
  pub lent : n ≡ making_lent l
  pub makes : Makes (shape_at l) (entry_at l) n made
  pub memory : part ≡ make_memory (shape_at l) (take n m)

makes-as : {d d' : PipelineShape} {a a' n n' : ℕ} {r : Result ScoreboardPipeline Refusal} → d ≡ d' → a ≡ a' → n ≡ n' → Makes d a n r → Makes d' a' n' r
makes-as p q e y = rw (p, q, e) at y

make-size : (d : PipelineShape) (m : List ℕ) → length (make_memory d m) ≡ length m
unfolding make_memory memory_made
make-size d m = go (make_refusal d (length m))
  where
    go : (o : Option ℕ) → length (when_some o (memory_made d m) (λ (n : ℕ). m)) ≡ length m
    go None = write_all-length _ m
    go (Some n) = refl

module _ {l m out : List ℕ} {t : Tally} (r : Roomy l m out t) where
  pub making : {n entry : ℕ} {d : PipelineShape} {made : Result ScoreboardPipeline Refusal} {part : List ℕ} → d ≡ shape_at l → entry ≡ entry_at l → n ≡ making_lent l
      → Makes d entry (length (take n m)) made → part ≡ make_memory d (take n m) → Making l m n made part
  making {n} p q e y w =
      record {
        lent = e;
        makes = makes-as p q (length-take-le n m (omega (arith, r.making))) y;
        memory = w ∙ ap (λ d. make_memory d (take n m)) p;
      }

  module _ {n : ℕ} {made : Result ScoreboardPipeline Refusal} {part : List ℕ} (g : Making l m n made part) where
    made_cells : part ++ drop n m ≡ cells_made (script_of l) m
    unfolding cells_made lend script_of
    made_cells = ap (λ x. x ++ drop n m) g.memory ∙ ap (λ k. make_memory (shape_at l) (take k m) ++ drop k m) g.lent

    pub made-size : length (part ++ drop n m) ≡ length m
    made-size = length_front m part n (ap length g.memory ∙ make-size (shape_at l) (take n m))

    -- ── It is refused ─────────────────────────────────────────────────────────

    module _ {x : Refusal} (a : made ≡ Err x) where
      number : make_refusal (shape_at l) n ≡ Some (refusal_number x)
      number = sym g.makes.refused ∙ ap refusal_of a

      refusal-of : make_refusal (script_of l).shape (script_of l).lent ≡ Some (refusal_number x)
      unfolding script_of
      refusal-of = ap (make_refusal (shape_at l)) (sym g.lent) ∙ number

      pub refused-cells : part ++ drop n m ≡ script_cells (script_of l) m
      unfolding make_memory script_cells
      refused-cells =
          let same : length (take n m) ≡ n = length-take-le n m (omega (arith, g.lent, r.making)) in
          ap (λ x. x ++ drop n m)
          (g.memory
          ∙ when_some-some (memory_made (shape_at l) (take n m)) (λ (j : ℕ). take n m) (ap (make_refusal (shape_at l)) same ∙ number))
          ∙ take-append-drop n m
          ∙ sym (when_some-some _ (λ (j : ℕ). m) refusal-of)

      pub refused-out : {mid end : List ℕ} → mid ≡ splice 0 (heads (Err x) t) out
          → end ≡ splice 17 (refused_blocks (refusal_number x) (from l 555)) mid → end ≡ splice 0 (script_answers (script_of l) m) out
      unfolding script_answers refused_bytes script_of encode answer_by
      refused-out p q =
          behind r (Err x) p (refusal_number x) refl (refused_blocks (refusal_number x) (from l 555)) q
          ∙ sym (ap (λ x. splice 0 x out) (when_some-some (made_bytes (script_of l) m) (refused_bytes (script_of l)) refusal-of))

    -- ── It is not ─────────────────────────────────────────────────────────────

    pub done-playable : {mid : List ℕ} → mid ≡ splice 0 (heads (Ok tt) t) out → AllPlayable l (part ++ drop n m) mid
    done-playable p = record { formed = r.formed; lent = omega (arith, r.lent, made-size); room = header-room r (Ok tt) p }

    module _ {e : ScoreboardPipeline} (a : made ≡ Ok e) where
      is_new : Made (shape_at l) (entry_at l) e
      is_new = (subst (λ r. IfOk r (λ (e : ScoreboardPipeline). Made (shape_at l) (entry_at l) e)) a g.makes.made)

      accepted : make_refusal (script_of l).shape (script_of l).lent ≡ None
      unfolding script_of
      accepted = ap (make_refusal (shape_at l)) (sym g.lent) ∙ sym g.makes.refused ∙ ap refusal_of a

      pub done-valid : Valid e
      done-valid = is_new.valid

      pub done-cells : {left : List ℕ} → left ≡ cells_played (view_engine e) (part ++ drop n m) (from l 555)
          → left ≡ script_cells (script_of l) m
      unfolding script_cells script_of
      done-cells q =
          q ∙ ap₂ (λ s x. cells_played s x (from l 555)) is_new.engine made_cells
          ∙ sym (when_some-none _ (λ (j : ℕ). m) accepted)

      pub done-out : {mid end : List ℕ} → mid ≡ splice 0 (heads (Ok tt) t) out
          → end ≡ splice 17 (blocks (view_engine e) (part ++ drop n m) (from l 555)) mid
          → end ≡ splice 0 (script_answers (script_of l) m) out
      unfolding script_answers made_bytes script_of encode answer_by
      done-out p q =
          behind r (Ok tt) p 0 refl (blocks (view_engine e) (part ++ drop n m) (from l 555)) q
          ∙ ap (λ x. splice 0 (header 0 (script_of l) ++ x) out)
          (ap₂ (λ s x. blocks s x (from l 555)) is_new.engine made_cells)
          ∙ sym (ap (λ x. splice 0 x out) (when_some-none (made_bytes (script_of l) m) (refused_bytes (script_of l)) accepted))
