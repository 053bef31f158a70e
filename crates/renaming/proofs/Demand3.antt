-- Demand 3, both ways.
use Prim.Native.Nat.{ℕ}
use native.Mathlib.Omega.{arith}
use mathlib.Core.Path.{◌≡◌, refl, sym, ◌∙◌, ap, ap₂, subst}
use Rattle.std.specs.Prelude.{Option, None, Some, slice_get, option_map}
use mathlib.Core.List.{List, [], ◌∷◌, ◌++◌, map}
use Rattle.laws.specs.Lists.{All, All2, more2, none2}
use Rattle.laws.specs.Optional.{when_some}
use Rattle.laws.specs.Texts.{Text}
use Rattle.model.specs.Calls.{Call, after, calls, looked_by, looks, make_memory, memory_after, refusal, runs}
use Rattle.model.specs.Config.{PipelineShape, machine_of}
use Rattle.model.specs.Issue.{issuing, look}
use Rattle.model.specs.Op.{Info, Op}
use Rattle.model.specs.Registers.{registers, resolve}
use Rattle.model.specs.State.{State, engine, new}
use Rattle.laws.proofs.Choices.{none-some, some_inj}
use Rattle.runs.proofs.Names.{At, Distinct, Extends, at_more, extends-refl, extends-trans, resolve-distinct, resolve-extends, resolve-read, resolve-written}
use Rattle.renaming.proofs.Names.{Paired, paired-all, paired-one}
use Rattle.runs.proofs.Tracks.{Each, Held, Tracked, after-names, all_append, all_left, all_right, all-weaken, append-three, held_after, held-built, learn-from, looked_by-tracked, nth_left}
use Rattle.renaming.proofs.Respect.{Like}
use Rattle.renaming.proofs.Shown.{cons_head, cons_tail, hidden, nil-cons, state-shown}
use Rattle.renaming.proofs.Step.{Matched, after-like, alike-left, alike_right, answer-same, learned-alike, like-looked-by, looks-same, memory-same}
use Rattle.runs.specs.Runs.{accepted, look_number}
use Rattle.renaming.proofs.Queries.{hide}
use Rattle.renaming.specs.Recording.{Alike, Entry, bare, bare_op, blank, by_number, entry, record_call, recording, refusals, seen_by, the_engine}
use Rattle.renaming.specs.Renaming.{Carries, CarriesAt, Demand3, OneToOne, RenamingRule, looked_numbers, operations}

-- ── Two runs, call by call ──────────────────────────────────────────────────

-- Alike, and refused alike, where each call gets the engine that the last one left.
data AlikeRuns : State → State → List Call → List Call → Type 0 where
  both_end : {s t : State} → AlikeRuns s t [] []
  both_call
      : {s t : State} {c d : Call} {cs ds : List Call} → Alike c d → refusal s c ≡ refusal t d
      → AlikeRuns (after s c) (after t d) cs ds → AlikeRuns s t (c ∷ cs) (d ∷ ds)

alike_runs : (s t : State) (cs ds : List Call) → All2 Alike cs ds → refusals the_engine s cs ≡ refusals the_engine t ds → AlikeRuns s t cs ds
unfolding refusals
alike_runs s t cs ds none2 e = both_end
alike_runs s t cs ds (more2 {a = c} {b = d} {as' = cs'} {bs = ds'} a as') e =
    both_call a (cons_head (refusal s c) (refusal t d) (refusals the_engine (after s c) cs') (refusals the_engine (after t d) ds') e)
    (alike_runs (after s c) (after t d) cs' ds' as'
    (cons_tail (refusal s c) (refusal t d) (refusals the_engine (after s c) cs') (refusals the_engine (after t d) ds') e))

-- ── If ──────────────────────────────────────────────────────────────────────

-- The operations the_engine at one number, related so, are still so after more fetches.
carries-more
    : (r : Text → Text → Type 0) (is js xs ys : List Info) (n : ℕ) → CarriesAt r (slice_get is n) (slice_get js n)
    → CarriesAt r (slice_get (is ++ xs) n) (slice_get (js ++ ys) n)
carries-more r is js xs ys n = go (slice_get is n) (slice_get js n) refl refl
  where
    go : (a b : Option Info) → slice_get is n ≡ a → slice_get js n ≡ b → CarriesAt r a b → CarriesAt r (slice_get (is ++ xs) n) (slice_get (js ++ ys) n)
    go None None p q c = absurd c
    go None (Some j) p q c = absurd c
    go (Some i) None p q c = absurd c
    go (Some i) (Some j) p q c =
        subst (λ (x : Option Info). CarriesAt r x (slice_get (js ++ ys) n)) (sym (nth_left is xs n i p))
        (subst (λ (y : Option Info). CarriesAt r (Some i) y) (sym (nth_left js ys n j q)) c)

module _ (r : Text → Text → Type 0) where
  -- The looked-at operations the_engine match, where the operations the_engine at their number do.
  matched
      : (is js xs ys : List Info) (x y : Option Op) (ns : List Text) → Each (Tracked is) x → Each (Tracked js) y
      → option_map (bare_op hide) x ≡ option_map (bare_op hide) y
      → All (λ (n : ℕ). CarriesAt r (slice_get (is ++ xs) n) (slice_get (js ++ ys) n)) (map look_number (when_some x [] (λ (o : Op). look ns o ∷ [])))
      → Matched r x y
  unfolding issuing
  matched is js xs ys None None ns p q e c = tt
  matched is js xs ys None (Some b) ns p q e c = none-some (bare_op hide b) e
  matched is js xs ys (Some a) None ns p q e c = none-some (bare_op hide a) (sym e)
  matched is js xs ys (Some a) (Some b) ns p q e c =
      let s : a.core.seq ≡ b.core.seq = λ i. (some_inj (bare_op hide a) (bare_op hide b) e i).core.seq in (
        s,
        subst (λ (y : Option Info). CarriesAt r (Some a.info) y)
            (ap (slice_get (js ++ ys)) s ∙ nth_left js ys b.core.seq b.info q)
            (subst (λ (x : Option Info). CarriesAt r x (slice_get (js ++ ys) a.core.seq)) (nth_left is xs a.core.seq a.info p) c.0),
      )

  -- What was just looked at joins what was seen.
  just-seen
      : (is js : List Info) (x y : Option Op) (ns : List Text) → Each (Tracked is) x → Each (Tracked js) y → Matched r x y
      → All (λ (n : ℕ). CarriesAt r (slice_get is n) (slice_get js n)) (map look_number (when_some x [] (λ (o : Op). look ns o ∷ [])))
  unfolding issuing
  just-seen is js None None ns p q m = tt
  just-seen is js None (Some b) ns p q m = absurd m
  just-seen is js (Some a) None ns p q m = absurd m
  just-seen is js (Some a) (Some b) ns p q m = (
    subst (λ (x : Option Info). CarriesAt r x (slice_get js a.core.seq)) (sym p)
        (subst (λ (y : Option Info). CarriesAt r (Some a.info) y) (sym (ap (slice_get js) m.0 ∙ q)) m.1),
    tt,
  )

-- What the induction carries past one call.
record Past
    (r : Text → Text → Type 0) (s t : State) (c d : Call) (cs ds : List Call) (is js : List Info) (seen m : List ℕ) : Type 0 where
  like : Like (after s c) (after t d)
  table : All2 r (after s c).names (after t d).names
  first_held : Held (is ++ accepted s c) (after s c)
  second_held : Held (js ++ accepted t d) (after t d)
  seen_so : All (λ (n : ℕ). CarriesAt r (slice_get (is ++ accepted s c) n) (slice_get (js ++ accepted t d) n)) (seen_by the_engine seen s c)
  to_come
      : All
      (λ (n : ℕ).
      CarriesAt r (slice_get ((is ++ accepted s c) ++ operations the_engine (after s c) cs) n)
      (slice_get ((js ++ accepted t d) ++ operations the_engine (after t d) ds) n))
      (looked_numbers the_engine (after s c) cs)
  seen_alike : seen_by the_engine seen s c ≡ seen_by the_engine seen t d
  same_memory : memory_after s c m ≡ memory_after t d m
  recorded : record_call the_engine (seen_by the_engine seen s c) s m c ≡ record_call the_engine (seen_by the_engine seen s c) t m d

module _ (r : Text → Text → Type 0) (one : OneToOne r) where
  one-call
      : (s t : State) (c d : Call) (cs' ds' : List Call) → Alike c d → refusal s c ≡ refusal t d → (is js : List Info) (seen mem : List ℕ)
      → Held is s → Held js t → Like s t → All2 r s.names t.names → All (λ (n : ℕ). CarriesAt r (slice_get is n) (slice_get js n)) seen
      → All (λ (n : ℕ). CarriesAt r (slice_get (is ++ operations the_engine s (c ∷ cs')) n) (slice_get (js ++ operations the_engine t (d ∷ ds')) n)) (looked_numbers the_engine s (c ∷ cs'))
      → Past r s t c d cs' ds' is js seen mem
  unfolding calls looked_numbers operations
  one-call s t c d cs' ds' a e is js seen mem hs ht h u past k =
      record {
        like = h';
        table = u';
        first_held = hs';
        second_held = ht';
        seen_so = past';
        to_come = k';
        seen_alike = seens;
        same_memory = memories;
        recorded = now;
      }
    where
      xt : Each (Tracked is) (looked_by s c)
      xt = looked_by-tracked is s c hs

      yt : Each (Tracked js) (looked_by t d)
      yt = looked_by-tracked js t d ht

      m : Matched r (looked_by s c) (looked_by t d)
      m =
          matched r is js (operations the_engine s (c ∷ cs')) (operations the_engine t (d ∷ ds')) (looked_by s c) (looked_by t d) s.names xt yt
          (like-looked-by s t c d a e h)
          (all_left (λ (n : ℕ). CarriesAt r (slice_get (is ++ operations the_engine s (c ∷ cs')) n) (slice_get (js ++ operations the_engine t (d ∷ ds')) n))
          (map look_number (looks s c)) (looked_numbers the_engine (after s c) cs') k)

      h' : Like (after s c) (after t d)
      h' = after-like r one s t c d a e h u m

      u' : All2 r (after s c).names (after t d).names
      u' =
          subst (λ ns. All2 r ns (after t d).names) (sym (after-names s c (alike-left c d a)))
          (subst (λ ns. All2 r (learn-from s.names (looked_by s c)) ns) (sym (after-names t d (alike_right c d a)))
          (learned-alike r one s.names t.names (looked_by s c) (looked_by t d) u m))

      same-looks : looks s c ≡ looks t d
      same-looks = looks-same r one s.names t.names (looked_by s c) (looked_by t d) u m

      seens : map look_number (looks s c) ++ seen ≡ map look_number (looks t d) ++ seen
      seens = ap (λ l. map look_number l ++ seen) same-looks

      past' : All (λ (n : ℕ). CarriesAt r (slice_get (is ++ accepted s c) n) (slice_get (js ++ accepted t d) n)) (map look_number (looks s c) ++ seen)
      past' =
          all-weaken (λ (n : ℕ). CarriesAt r (slice_get is n) (slice_get js n))
          (λ (n : ℕ). CarriesAt r (slice_get (is ++ accepted s c) n) (slice_get (js ++ accepted t d) n))
          (λ n. carries-more r is js (accepted s c) (accepted t d) n) (map look_number (looks s c) ++ seen)
          (all_append (λ (n : ℕ). CarriesAt r (slice_get is n) (slice_get js n)) (map look_number (looks s c)) seen
          (just-seen r is js (looked_by s c) (looked_by t d) s.names xt yt m) past)

      hs' : Held (is ++ accepted s c) (after s c)
      hs' = held_after is s c (alike-left c d a) hs

      ht' : Held (js ++ accepted t d) (after t d)
      ht' = held_after js t d (alike_right c d a) ht

      left-same
          : bare (by_number (after s c).names (map look_number (looks s c) ++ seen)) (after s c)
          ≡ bare (by_number (after t d).names (map look_number (looks s c) ++ seen)) (after t d)
      left-same =
          state-shown r one (after s c).names (after t d).names u' (is ++ accepted s c) (js ++ accepted t d)
          (map look_number (looks s c) ++ seen) past' (after s c) (after t d) hs' ht' h'

      memories : memory_after s c mem ≡ memory_after t d mem
      memories = memory-same r one s t c d a e h u mem m

      now : record_call the_engine (map look_number (looks s c) ++ seen) s mem c ≡ record_call the_engine (map look_number (looks s c) ++ seen) t mem d
      now = λ i.
          entry
          (answer-same s t mem c d a e h h' i)
          (left-same i) (memories i) (same-looks i)

      k'
          : All
          (λ (n : ℕ).
          CarriesAt r (slice_get ((is ++ accepted s c) ++ operations the_engine (after s c) cs') n)
          (slice_get ((js ++ accepted t d) ++ operations the_engine (after t d) ds') n))
          (looked_numbers the_engine (after s c) cs')
      k' =
          subst
          (λ (l : List Info).
          All (λ (n : ℕ). CarriesAt r (slice_get l n) (slice_get ((js ++ accepted t d) ++ operations the_engine (after t d) ds') n)) (looked_numbers the_engine (after s c) cs'))
          (sym (append-three is (accepted s c) (operations the_engine (after s c) cs')))
          (subst
          (λ (l : List Info).
          All (λ (n : ℕ). CarriesAt r (slice_get (is ++ operations the_engine s (c ∷ cs')) n) (slice_get l n)) (looked_numbers the_engine (after s c) cs'))
          (sym (append-three js (accepted t d) (operations the_engine (after t d) ds')))
          (all_right (λ (n : ℕ). CarriesAt r (slice_get (is ++ operations the_engine s (c ∷ cs')) n) (slice_get (js ++ operations the_engine t (d ∷ ds')) n))
          (map look_number (looks s c)) (looked_numbers the_engine (after s c) cs') k))

  if-part
      : (s t : State) (cs ds : List Call) → AlikeRuns s t cs ds → (is js : List Info) (seen m : List ℕ) → Held is s → Held js t → Like s t
      → All2 r s.names t.names → All (λ (n : ℕ). CarriesAt r (slice_get is n) (slice_get js n)) seen
      → All (λ (n : ℕ). CarriesAt r (slice_get (is ++ operations the_engine s cs) n) (slice_get (js ++ operations the_engine t ds) n)) (looked_numbers the_engine s cs)
      → recording the_engine seen s m cs ≡ recording the_engine seen t m ds
  unfolding recording
  if-part s t cs ds both_end is js seen m hs ht h u past c = refl
  if-part s t cs ds (both_call {c = c} {d = d} {cs = cs'} {ds = ds'} a e rest) is js seen m hs ht h u past k =
      let p = one-call s t c d cs' ds' a e is js seen m hs ht h u past k in
      ap₂ {A = Entry} {B = List Entry} ◌∷◌ p.recorded
      (if-part (after s c) (after t d) cs' ds' rest (is ++ accepted s c) (js ++ accepted t d) (seen_by the_engine seen s c) (memory_after s c m)
      p.first_held p.second_held p.like p.table p.seen_so p.to_come)
      ∙ (λ i.
      record_call the_engine (p.seen_alike i) t m d ∷ recording the_engine (p.seen_alike i) (after t d) (p.same_memory i) ds')

-- ── Only if ─────────────────────────────────────────────────────────────────

-- The table after a call has the table before, and stays distinct.
learn-extends : (ns : List Text) (x : Option Op) → Extends ns (learn-from ns x)
learn-extends ns None = extends-refl ns
learn-extends ns (Some o) = resolve-extends ns o.info

learn-distinct : (ns : List Text) (x : Option Op) → Distinct ns → Distinct (learn-from ns x)
learn-distinct ns None d = d
learn-distinct ns (Some o) d = resolve-distinct ns o.info d

grows : (s t : State) (cs ds : List Call) → AlikeRuns s t cs ds → Extends s.names (runs s cs).names × Extends t.names (runs t ds).names
unfolding calls
grows s t cs ds both_end = (extends-refl s.names, extends-refl t.names)
grows s t cs ds (both_call {c = c} {d = d} {cs = cs'} {ds = ds'} a e rest) =
    let g = grows (after s c) (after t d) cs' ds' rest in (
      extends-trans s.names (after s c).names (runs s (c ∷ cs')).names
          (subst (Extends s.names) (sym (after-names s c (alike-left c d a))) (learn-extends s.names (looked_by s c))) g.0,
      extends-trans t.names (after t d).names (runs t (d ∷ ds')).names
          (subst (Extends t.names) (sym (after-names t d (alike_right c d a))) (learn-extends t.names (looked_by t d))) g.1,
    )

stay-distinct
    : (s t : State) (cs ds : List Call) → AlikeRuns s t cs ds → Distinct s.names → Distinct t.names
    → Distinct (runs s cs).names × Distinct (runs t ds).names
unfolding calls
stay-distinct s t cs ds both_end p q = (p, q)
stay-distinct s t cs ds (both_call {c = c} {d = d} {cs = cs'} {ds = ds'} a e rest) p q =
    stay-distinct (after s c) (after t d) cs' ds' rest
    (subst Distinct (sym (after-names s c (alike-left c d a))) (learn-distinct s.names (looked_by s c) p))
    (subst Distinct (sym (after-names t d (alike_right c d a))) (learn-distinct t.names (looked_by t d) q))

-- Two appended lists of numbers that are equal are equal in parts, where the first parts stand for lists of one length.
split
    : (ns ms : List Text) (bs cs bs' cs' : List Text) (js ks js' ks' : List ℕ) → map blank bs ≡ map blank cs → All2 (At ns) bs js
    → All2 (At ms) cs ks → All2 (At ns) bs' js' → All2 (At ms) cs' ks' → js ++ js' ≡ ks ++ ks'
    → All2 (Paired ns ms) bs cs × All2 (Paired ns ms) bs' cs'
split ns ms bs cs bs' cs' js ks js' ks' e none2 none2 p q f =
    (none2, paired-all ns ms bs' cs' ks' (subst (All2 (At ns) bs') f p) q)
split ns ms bs cs bs' cs' js ks js' ks' e none2 (more2 {a = c} {as' = cl} x y) p q f = nil-cons (blank c) (map blank cl) e
split ns ms bs cs bs' cs' js ks js' ks' e (more2 {a = b} {as' = bl} x y) none2 p q f = nil-cons (blank b) (map blank bl) (sym e)
split ns ms bs cs bs' cs' js ks js' ks' e (more2 {a = b} {b = j} {as' = bl} {bs = jl} x y) (more2 {a = c} {b = k} {as' = cl} {bs = kl} z w) p q f =
    let rest = split ns ms bl cl bs' cs' jl kl js' ks' (cons_tail (blank b) (blank c) (map blank bl) (map blank cl) e) y w p q (cons_tail j k (jl ++ js') (kl ++ ks') f) in
    (more2 (j, x, subst (λ (n : ℕ). At ms c n) (sym (cons_head j k (jl ++ js') (kl ++ ks') f)) z) rest.0, rest.1)

-- A look that gave the same numbers in both runs is carried by the tables at the end.
look-carried
    : (F G ns ms : List Text) (is js xs ys : List Info) (x y : Option Op) → Each (Tracked is) x → Each (Tracked js) y
    → option_map (bare_op hide) x ≡ option_map (bare_op hide) y
    → when_some x [] (λ (o : Op). look ns o ∷ []) ≡ when_some y [] (λ (o : Op). look ms o ∷ []) → Extends (learn-from ns x) F
    → Extends (learn-from ms y) G
    → All (λ (n : ℕ). CarriesAt (Paired F G) (slice_get (is ++ xs) n) (slice_get (js ++ ys) n)) (map look_number (when_some x [] (λ (o : Op). look ns o ∷ [])))
unfolding issuing registers
look-carried F G ns ms is js xs ys None None p q e f u v = tt
look-carried F G ns ms is js xs ys None (Some b) p q e f u v = none-some (bare_op hide b) e
look-carried F G ns ms is js xs ys (Some a) None p q e f u v = none-some (bare_op hide a) (sym e)
look-carried F G ns ms is js xs ys (Some a) (Some b) p q e f u v =
    let ops : bare_op hide a ≡ bare_op hide b = some_inj (bare_op hide a) (bare_op hide b) e in
    let gave : look ns a ≡ look ms b = cons_head (look ns a) (look ms b) [] [] f in
    let s : a.core.seq ≡ b.core.seq = λ i. (ops i).core.seq in
    let i = a.info in
    let j = b.info in
    let c : Carries (Paired F G) i j
    = split F G i.sources j.sources i.writes j.writes (resolve ns i).read (resolve ms j).read (resolve ns i).written
    (resolve ms j).written (λ k. (ops k).info.sources)
    (at_more (resolve ns i).names F i.sources (resolve ns i).read u (resolve-read ns i))
    (at_more (resolve ms j).names G j.sources (resolve ms j).read v (resolve-read ms j))
    (at_more (resolve ns i).names F i.writes (resolve ns i).written u (resolve-written ns i))
    (at_more (resolve ms j).names G j.writes (resolve ms j).written v (resolve-written ms j)) (λ k. (gave k).1) in (
      subst (λ (x : Option Info). CarriesAt (Paired F G) x (slice_get (js ++ ys) a.core.seq)) (sym (nth_left is xs a.core.seq i p))
          (subst (λ (y : Option Info). CarriesAt (Paired F G) (Some i) y)
          (sym (ap (slice_get (js ++ ys)) s ∙ nth_left js ys b.core.seq j q)) c),
      tt,
    )

only-if-part
    : (F G : List Text) (s t : State) (cs ds : List Call) → AlikeRuns s t cs ds → Extends (runs s cs).names F → Extends (runs t ds).names G
    → (is js : List Info) (sn sm m l : List ℕ) → Held is s → Held js t → Like s t → recording the_engine sn s m cs ≡ recording the_engine sm t l ds
    → All (λ (n : ℕ). CarriesAt (Paired F G) (slice_get (is ++ operations the_engine s cs) n) (slice_get (js ++ operations the_engine t ds) n)) (looked_numbers the_engine s cs)
unfolding calls looked_numbers recording operations
only-if-part F G s t cs ds both_end u v is js sn sm m l hs ht h e = tt
only-if-part F G s t cs ds (both_call {c = c} {d = d} {cs = cs'} {ds = ds'} a e rest) u v is js sn sm m l hs ht h k =
    let g = grows (after s c) (after t d) cs' ds' rest in
    let now : record_call the_engine (seen_by the_engine sn s c) s m c ≡ record_call the_engine (seen_by the_engine sm t d) t l d
    = cons_head (record_call the_engine (seen_by the_engine sn s c) s m c) (record_call the_engine (seen_by the_engine sm t d) t l d) (recording the_engine (seen_by the_engine sn s c) (after s c) (memory_after s c m) cs')
    (recording the_engine (seen_by the_engine sm t d) (after t d) (memory_after t d l) ds') k in
    let later : recording the_engine (seen_by the_engine sn s c) (after s c) (memory_after s c m) cs' ≡ recording the_engine (seen_by the_engine sm t d) (after t d) (memory_after t d l) ds'
    = cons_tail (record_call the_engine (seen_by the_engine sn s c) s m c) (record_call the_engine (seen_by the_engine sm t d) t l d) (recording the_engine (seen_by the_engine sn s c) (after s c) (memory_after s c m) cs')
    (recording the_engine (seen_by the_engine sm t d) (after t d) (memory_after t d l) ds') k in
    let h' : Like (after s c) (after t d)
    = hidden (by_number (after s c).names (seen_by the_engine sn s c)) (by_number (after t d).names (seen_by the_engine sm t d)) (after s c) (after t d)
    (λ i. (now i).left) in
    all_append (λ (n : ℕ). CarriesAt (Paired F G) (slice_get (is ++ operations the_engine s (c ∷ cs')) n) (slice_get (js ++ operations the_engine t (d ∷ ds')) n))
    (map look_number (looks s c)) (looked_numbers the_engine (after s c) cs')
    (look-carried F G s.names t.names is js (operations the_engine s (c ∷ cs')) (operations the_engine t (d ∷ ds')) (looked_by s c) (looked_by t d)
    (looked_by-tracked is s c hs) (looked_by-tracked js t d ht) (like-looked-by s t c d a e h) (λ i. (now i).gave)
    (extends-trans (learn-from s.names (looked_by s c)) (runs (after s c) cs').names F
    (subst (λ ns. Extends ns (runs (after s c) cs').names) (after-names s c (alike-left c d a)) g.0) u)
    (extends-trans (learn-from t.names (looked_by t d)) (runs (after t d) ds').names G
    (subst (λ ns. Extends ns (runs (after t d) ds').names) (after-names t d (alike_right c d a)) g.1) v))
    (subst
    (λ (l : List Info).
    All (λ (n : ℕ). CarriesAt (Paired F G) (slice_get l n) (slice_get (js ++ operations the_engine t (d ∷ ds')) n)) (looked_numbers the_engine (after s c) cs'))
    (append-three is (accepted s c) (operations the_engine (after s c) cs'))
    (subst
    (λ (l : List Info).
    All (λ (n : ℕ). CarriesAt (Paired F G) (slice_get ((is ++ accepted s c) ++ operations the_engine (after s c) cs') n) (slice_get l n))
    (looked_numbers the_engine (after s c) cs'))
    (append-three js (accepted t d) (operations the_engine (after t d) ds'))
    (only-if-part F G (after s c) (after t d) cs' ds' rest u v (is ++ accepted s c) (js ++ accepted t d) (seen_by the_engine sn s c)
    (seen_by the_engine sm t d) (memory_after s c m) (memory_after t d l) (held_after is s c (alike-left c d a) hs) (held_after js t d (alike_right c d a) ht) h' later)))

-- ── The demand ──────────────────────────────────────────────────────────────

made_held : (d : PipelineShape) (entry : ℕ) → Held [] (new d entry)
unfolding engine
made_held d address = record { queued = tt; in_units = held-built [] 0 (machine_of d).specs; counted = refl; few = omega arith }

-- From the engine of any declared machine and any cell memory.
pub renaming-rule : (d : PipelineShape) (entry : ℕ) (m : List ℕ) (cs ds : List Call) → RenamingRule the_engine (new d entry) m cs ds
unfolding engine
renaming-rule d address m cs ds alike refused =
    let s = new d address in
    let h = made_held d address in
    let a = alike_runs s s cs ds alike refused in (
      λ e. (
        Paired (runs s cs).names (runs s ds).names,
        paired-one (runs s cs).names (runs s ds).names (stay-distinct s s cs ds a tt tt).0 (stay-distinct s s cs ds a tt tt).1,
        only-if-part (runs s cs).names (runs s ds).names s s cs ds a (extends-refl (runs s cs).names) (extends-refl (runs s ds).names) [] [] [] []
            m m h h refl e,
      ),
      λ x. if-part x.0 x.1 s s cs ds a [] [] [] m h h refl none2 tt x.2,
    )

pub demand-3 : Demand3
demand-3 d address lent cs ds taken = renaming-rule d address (make_memory d lent) cs ds
