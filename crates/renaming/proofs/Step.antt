-- One call on two engines of one bare form.
use Prim.Native.Nat.{ℕ}
use mathlib.Core.Path.{◌≡◌, refl, sym, ◌∙◌, ap, ap₂, subst}
use mathlib.Core.Bool.{Bool, true, false, cond, true≢false, false≢true}
use Rattle.std.specs.Prelude.{Option, None, Some, option_map}
use mathlib.Core.List.{List, [], ◌∷◌, ◌++◌, map}
use Rattle.capability.specs.declared.PipelineHazardKind.TheVariants.{BranchFlush, FunctionalUnitBusy}
use Rattle.laws.specs.Lists.{All2}
use Rattle.laws.specs.Optional.{when_some}
use Rattle.laws.specs.Texts.{Text}
use Rattle.model.specs.Calls.{Call, advance as advance-call, after, answer, calls, capacity, cell, fault as fault-call, fetch, halt as halt-call, invitation, invitation_of, looked, looked_by, memory_after, offered, overlap, redirect, refusal, refused, reply, reset, resolve as resolve-call, retire, retry as retry-call, run, sets, resolved, shown_cell, shown_text, start, text, view}
use Rattle.model.specs.Issue.{issue, issue_choose, issue_front, issuing, look, look_choose, look_front, looked_at, redirect_writes, timeline_writes}
use Rattle.model.specs.Op.{Op}
use Rattle.model.specs.Registers.{resolve}
use Rattle.model.specs.Scoreboard.{advance, advance_looked, advance_writes, after_issue, before_issue, closed, scoreboard, stops}
use Rattle.model.specs.State.{Marks, State}
use Rattle.model.specs.Timeline.{open_writes, write_all}
use Rattle.model.specs.Views.{cell_view, offer_view, views}
use Rattle.model.specs.Write.{offered_op, resolve_branch, start_cycle, writing}
use native.Mathlib.Nat.{suc_inj, suc-ne-zero}
use lib.ListN.{length}
use Rattle.laws.proofs.Choices.{none-some, some_inj}
use Rattle.renaming.proofs.Names.{resolve-renamed, same-many}
use Rattle.runs.proofs.Tracks.{before-names, closed-names, learn-from}
use Rattle.renaming.proofs.Respect.{Like, bare-offered, like-after_issue, like-before, like-block, like-capacity, like-closed, like-enabled, like-fetched, like-looked, like-redirect_writes, like-retire, like-retry, like-start, like-stopped, like-timeline_writes}
use Rattle.renaming.proofs.Answers.{same_byte, same-shown, same-there, sees}
use Rattle.renaming.proofs.Shown.{cons_head, cons_tail, nil-cons}
use Rattle.runs.specs.Runs.{NoReset}
use Rattle.renaming.proofs.Queries.{hide}
use Rattle.renaming.specs.Recording.{Alike, bare, bare_answer, bare_offer, bare_op, blank, faults, fetches, retries, same_call, text_requests}
use Rattle.renaming.specs.Renaming.{Carries, OneToOne}

-- ── What is looked at ───────────────────────────────────────────────────────

bare-look_choose : (b y : Bool) (o : Op) → option_map (bare_op hide) (look_choose b y o) ≡ look_choose b y (bare_op hide o)
unfolding issuing
bare-look_choose true y o = refl
bare-look_choose false true o = refl
bare-look_choose false false o = refl

bare-look : (q : List Op) (p : Marks) → option_map (bare_op hide) (look_front q p) ≡ look_front (map (bare_op hide) q) p
unfolding issuing
bare-look [] p = refl
bare-look (o ∷ q) p = bare-look_choose p.branch p.system o

like-looked_at : (s t : State) → Like s t → option_map (bare_op hide) (looked_at s) ≡ option_map (bare_op hide) (looked_at t)
unfolding issuing
like-looked_at s t h = bare-look s.queue s.marks ∙ (λ i. look_front (h i).queue (h i).marks) ∙ sym (bare-look t.queue t.marks)

like-advance_looked : (r : Option ℕ) (s t : State) → Like s t → option_map (bare_op hide) (advance_looked r s) ≡ option_map (bare_op hide) (advance_looked r t)
unfolding scoreboard
like-advance_looked r s t h = go (stops s) ∙ (λ i. option_map (bare_op hide) (cond (stops (h i)) None (looked_at (before_issue r (closed t)))))
  where
    go
        : (b : Bool)
        → option_map (bare_op hide) (cond b None (looked_at (before_issue r (closed s)))) ≡ option_map (bare_op hide) (cond b None (looked_at (before_issue r (closed t))))
    go true = refl
    go false =
        like-looked_at (before_issue r (closed s)) (before_issue r (closed t)) (like-before r (closed s) (closed t) (like-closed s t h))

like-sees : (s t : State) (c d : Call) → Alike c d → Like s t → option_map (bare_op hide) (looked s c) ≡ option_map (bare_op hide) (looked t d)
unfolding calls
like-sees s t c d (same_call start n) h = refl
like-sees s t c d (same_call retire n) h = refl
like-sees s t c d (same_call (retry-call x) n) h = refl
like-sees s t c d (same_call (resolve-call a) n) h = refl
like-sees s t c d (same_call (advance-call r ml) n) h = like-advance_looked r s t h
like-sees s t c d (same_call (fetch g ml) n) h = refl
like-sees s t c d (same_call (capacity k m) n) h = refl
like-sees s t c d (same_call (overlap b) n) h = refl
like-sees s t c d (same_call halt-call n) h = refl
like-sees s t c d (same_call (fault-call x) n) h = refl
like-sees s t c d (same_call (reset a ml) n) h = absurd n
like-sees s t c d (same_call (redirect a) n) h = absurd n
like-sees s t c d (same_call (view v) n) h = refl
like-sees s t c d (same_call (text x m) n) h = refl
like-sees s t c d (same_call (cell i j ml) n) h = refl
like-sees s t c d (fetches g i j ml e f) h = refl
like-sees s t c d (retries m k) h = refl
like-sees s t c d (faults m k) h = refl
like-sees s t c d (text_requests x m k) h = refl

-- ── A refusal, alike in both ────────────────────────────────────────────────

-- What holds where both are accepted, and where both are refused, holds.
pub by-refusal
    : (P : Option ℕ → Option ℕ → Type 0) (x y : Option ℕ) → x ≡ y → (x ≡ None → y ≡ None → P None None) → ((n : ℕ) → P (Some n) (Some n)) → P x y
by-refusal P None None e f g = f refl refl
by-refusal P None (Some m) e f g = none-some m e
by-refusal P (Some n) None e f g = none-some n (sym e)
by-refusal P (Some n) (Some m) e f g = subst (λ (k : ℕ). P (Some n) (Some k)) (some_inj n m e) (g n)

pub like-looked-by
    : (s t : State) (c d : Call) → Alike c d → refusal s c ≡ refusal t d → Like s t
    → option_map (bare_op hide) (looked_by s c) ≡ option_map (bare_op hide) (looked_by t d)
unfolding calls
like-looked-by s t c d a e h =
    by-refusal
    (λ x y.
    option_map (bare_op hide) (when_some x (looked s c) (λ (n : ℕ). None)) ≡ option_map (bare_op hide) (when_some y (looked t d) (λ (n : ℕ). None)))
    (refusal s c) (refusal t d) e (λ p q. like-sees s t c d a h) (λ n. refl)

-- ── With what is looked at renamed ──────────────────────────────────────────

module _ (r : Text → Text → Type 0) where
  -- Nothing is looked at, or two operations of one number that the renaming carries into one another.
  abbrev pub Matched : Option Op → Option Op → Type 0
  Matched None None = Unit {0}
  Matched None (Some p) = ⊥
  Matched (Some o) None = ⊥
  Matched (Some o) (Some p) = (o.core.seq ≡ p.core.seq) × Carries r o.info p.info

-- Lists of one length, their names left out.
as_many : (xs ys : List Text) → length xs ≡ length ys → map blank xs ≡ map blank ys
as_many [] [] e = refl
as_many [] (y ∷ ys) e = absurd (suc-ne-zero (length ys) (sym e))
as_many (x ∷ xs) [] e = absurd (suc-ne-zero (length xs) e)
as_many (x ∷ xs) (y ∷ ys) e = ap (λ (l : List Text). [] ∷ l) (as_many xs ys (suc_inj e))

module _ (r : Text → Text → Type 0) (one : OneToOne r) where
  choose-like
      : (s t : State) (o p : Op) (l m : List Op) → Like s t → All2 r s.names t.names → bare_op hide o ≡ bare_op hide p
      → map (bare_op hide) l ≡ map (bare_op hide) m → (b y : Bool) → Matched r (look_choose b y o) (look_choose b y p)
      → Like (issue_choose b y o l s) (issue_choose b y p m t)
  unfolding issuing
  choose-like s t o p l m h u e f true y k = like-block BranchFlush _ _ s t h
  choose-like s t o p l m h u e f false true k = like-block FunctionalUnitBusy _ _ s t h
  choose-like s t o p l m h u e f false false k =
      let x = resolve-renamed r one s.names t.names o.info p.info u k.1 in
      like-looked o p l m (resolve s.names o.info) (resolve t.names p.info) s t e f x.0 x.1
      (same-many (resolve s.names o.info).names (resolve t.names p.info).names x.2) h

  front-like
      : (s t : State) → Like s t → All2 r s.names t.names → (l m : List Op) → map (bare_op hide) l ≡ map (bare_op hide) m
      → Matched r (look_front l s.marks) (look_front m t.marks) → Like (issue_front l s) (issue_front m t)
  unfolding issuing
  front-like s t h u [] [] e k = h
  front-like s t h u [] (p ∷ m) e k = nil-cons (bare_op hide p) (map (bare_op hide) m) e
  front-like s t h u (o ∷ l) [] e k = nil-cons (bare_op hide o) (map (bare_op hide) l) (sym e)
  front-like s t h u (o ∷ l) (p ∷ m) e k =
      subst
      (λ (z : Marks).
      Matched r (look_choose s.marks.branch s.marks.system o) (look_choose z.branch z.system p)
      → Like (issue_choose s.marks.branch s.marks.system o l s) (issue_choose z.branch z.system p m t))
      (λ i. (h i).marks)
      (choose-like s t o p l m h u (cons_head (bare_op hide o) (bare_op hide p) (map (bare_op hide) l) (map (bare_op hide) m) e)
      (cons_tail (bare_op hide o) (bare_op hide p) (map (bare_op hide) l) (map (bare_op hide) m) e) s.marks.branch
      s.marks.system)
      k

  -- Up to the issue, that included.
  issued-like
      : (x : Option ℕ) (s t : State) → Like s t → All2 r s.names t.names
      → Matched r (looked_at (before_issue x (closed s))) (looked_at (before_issue x (closed t)))
      → Like (issue (before_issue x (closed s))) (issue (before_issue x (closed t)))
  unfolding issuing
  issued-like x s t h u m = front-like p q pq table p.queue q.queue (λ i. (pq i).queue) m
    where
      p : State
      p = before_issue x (closed s)

      q : State
      q = before_issue x (closed t)

      pq : Like p q
      pq = like-before x (closed s) (closed t) (like-closed s t h)

      table : All2 r p.names q.names
      table =
          subst (λ ns. All2 r ns q.names) (sym (before-names x (closed s) ∙ closed-names s))
          (subst (λ ns. All2 r s.names ns) (sym (before-names x (closed t) ∙ closed-names t)) u)

  advance-like
      : (x : Option ℕ) (s t : State) → Like s t → All2 r s.names t.names → Matched r (advance_looked x s) (advance_looked x t)
      → Like (advance x s) (advance x t)
  unfolding scoreboard
  advance-like x s t h u k = go (stops s) (stops t) (λ i. stops (h i)) k
    where
      go
          : (b c : Bool) → b ≡ c
          → Matched r (cond b None (looked_at (before_issue x (closed s)))) (cond c None (looked_at (before_issue x (closed t))))
          → Like (cond b (closed s) (after_issue (issue (before_issue x (closed s))))) (cond c (closed t) (after_issue (issue (before_issue x (closed t)))))
      go true true e m = like-closed s t h
      go true false e m = absurd (true≢false e)
      go false true e m = absurd (false≢true e)
      go false false e m =
          like-after_issue (issue (before_issue x (closed s))) (issue (before_issue x (closed t))) (issued-like x s t h u m)

  advance-sets
      : (x : Option ℕ) (s t : State) → Like s t → All2 r s.names t.names → Matched r (advance_looked x s) (advance_looked x t)
      → advance_writes x s ≡ advance_writes x t
  unfolding scoreboard
  advance-sets x s t h u k = go (stops s) (stops t) (λ i. stops (h i)) k
    where
      go
          : (b c : Bool) → b ≡ c
          → Matched r (cond b None (looked_at (before_issue x (closed s)))) (cond c None (looked_at (before_issue x (closed t))))
          → cond b [] (redirect_writes x (closed s) ++ timeline_writes (issue (before_issue x (closed s))))
          ≡ cond c [] (redirect_writes x (closed t) ++ timeline_writes (issue (before_issue x (closed t))))
      go true true e m = refl
      go true false e m = absurd (true≢false e)
      go false true e m = absurd (false≢true e)
      go false false e m =
          ap₂ ◌++◌ (like-redirect_writes x (closed s) (closed t) (like-closed s t h))
          (like-timeline_writes (issue (before_issue x (closed s))) (issue (before_issue x (closed t))) (issued-like x s t h u m))

  sets_same
      : (s t : State) (c d : Call) → Alike c d → Like s t → All2 r s.names t.names → Matched r (looked s c) (looked t d)
      → sets s c ≡ sets t d
  unfolding calls scoreboard
  sets_same s t c d (same_call start n) h u k = refl
  sets_same s t c d (same_call retire n) h u k = refl
  sets_same s t c d (same_call (retry-call x) n) h u k = refl
  sets_same s t c d (same_call (resolve-call a) n) h u k = refl
  sets_same s t c d (same_call (advance-call x ml) n) h u k = advance-sets x s t h u k
  sets_same s t c d (same_call (fetch g ml) n) h u k = λ i. open_writes (h i).machine.history (h i).front.next_row
  sets_same s t c d (same_call (capacity x m) n) h u k = refl
  sets_same s t c d (same_call (overlap b) n) h u k = refl
  sets_same s t c d (same_call halt-call n) h u k = refl
  sets_same s t c d (same_call (fault-call x) n) h u k = refl
  sets_same s t c d (same_call (reset a ml) n) h u k = absurd n
  sets_same s t c d (same_call (redirect a) n) h u k = absurd n
  sets_same s t c d (same_call (view v) n) h u k = refl
  sets_same s t c d (same_call (text x m) n) h u k = refl
  sets_same s t c d (same_call (cell i j ml) n) h u k = refl
  sets_same s t c d (fetches g x y ml e f) h u k = λ i. open_writes (h i).machine.history (h i).front.next_row
  sets_same s t c d (retries m n) h u k = refl
  sets_same s t c d (faults m n) h u k = refl
  sets_same s t c d (text_requests x m n) h u k = refl

  run-like
      : (s t : State) (c d : Call) → Alike c d → Like s t → All2 r s.names t.names → Matched r (looked s c) (looked t d)
      → Like (run s c) (run t d)
  unfolding calls writing scoreboard
  run-like s t c d (same_call start n) h u k = like-start s t h
  run-like s t c d (same_call retire n) h u k = like-retire s t h
  run-like s t c d (same_call (retry-call x) n) h u k = like-retry x x s t h
  run-like s t c d (same_call (resolve-call a) n) h u k = h
  run-like s t c d (same_call (advance-call x ml) n) h u k = advance-like x s t h u k
  run-like s t c d (same_call (fetch g ml) n) h u k = like-fetched g.decoded g.info g.info s t refl refl h
  run-like s t c d (same_call (capacity x m) n) h u k = like-capacity x m s t h
  run-like s t c d (same_call (overlap b) n) h u k = like-enabled b s t h
  run-like s t c d (same_call halt-call n) h u k = like-stopped true false [] [] s t h
  run-like s t c d (same_call (fault-call x) n) h u k = like-stopped false true x x s t h
  run-like s t c d (same_call (reset a ml) n) h u k = absurd n
  run-like s t c d (same_call (redirect a) n) h u k = absurd n
  run-like s t c d (same_call (view v) n) h u k = h
  run-like s t c d (same_call (text x m) n) h u k = h
  run-like s t c d (same_call (cell i j ml) n) h u k = h
  run-like s t c d (fetches g x y ml e f) h u k =
      like-fetched g x y s t (as_many x.sources y.sources e) (as_many x.writes y.writes f) h
  run-like s t c d (retries m n) h u k = like-retry m n s t h
  run-like s t c d (faults m n) h u k = like-stopped false true m n s t h
  run-like s t c d (text_requests x m n) h u k = h

  -- After a call: one bare form again, the looks gave the same, and the tables are renamed again.
  pub after-like
      : (s t : State) (c d : Call) → Alike c d → refusal s c ≡ refusal t d → Like s t → All2 r s.names t.names
      → Matched r (looked_by s c) (looked_by t d) → Like (after s c) (after t d)
  unfolding calls
  after-like s t c d a e h u =
      by-refusal
      (λ x y.
      Matched r (when_some x (looked s c) (λ (n : ℕ). None)) (when_some y (looked t d) (λ (n : ℕ). None))
      → Like (when_some x (run s c) (λ (n : ℕ). s)) (when_some y (run t d) (λ (n : ℕ). t)))
      (refusal s c) (refusal t d) e (λ p q k. run-like s t c d a h u k) (λ n k. h)

  pub memory-same
      : (s t : State) (c d : Call) → Alike c d → refusal s c ≡ refusal t d → Like s t → All2 r s.names t.names → (m : List ℕ)
      → Matched r (looked_by s c) (looked_by t d) → memory_after s c m ≡ memory_after t d m
  unfolding calls
  memory-same s t c d a e h u m =
      by-refusal
      (λ x y.
      Matched r (when_some x (looked s c) (λ (n : ℕ). None)) (when_some y (looked t d) (λ (n : ℕ). None))
      → when_some x (write_all (sets s c) m) (λ (n : ℕ). m) ≡ when_some y (write_all (sets t d) m) (λ (n : ℕ). m))
      (refusal s c) (refusal t d) e (λ p q k. ap (λ ws. write_all ws m) (sets_same s t c d a h u k)) (λ n k. refl)

  pub looks-same
      : (ns ms : List Text) (x y : Option Op) → All2 r ns ms → Matched r x y
      → when_some x [] (λ (o : Op). look ns o ∷ []) ≡ when_some y [] (λ (o : Op). look ms o ∷ [])
  unfolding issuing
  looks-same ns ms None None u k = refl
  looks-same ns ms None (Some p) u k = absurd k
  looks-same ns ms (Some o) None u k = absurd k
  looks-same ns ms (Some o) (Some p) u k =
      let x = resolve-renamed r one ns ms o.info p.info u k.1 in
      λ i. (k.0 i, x.0 i ++ x.1 i) ∷ []

  pub learned-alike
      : (ns ms : List Text) (x y : Option Op) → All2 r ns ms → Matched r x y → All2 r (learn-from ns x) (learn-from ms y)
  learned-alike ns ms None None u k = u
  learned-alike ns ms None (Some p) u k = absurd k
  learned-alike ns ms (Some o) None u k = absurd k
  learned-alike ns ms (Some o) (Some p) u k = (resolve-renamed r one ns ms o.info p.info u k.1).2

-- ── The answer ──────────────────────────────────────────────────────────────

-- The offer, without its payload.
bare-offers : (s : State) → option_map bare_offer (option_map offer_view (offered_op (bare hide s))) ≡ option_map bare_offer (option_map offer_view (offered_op s))
unfolding views
bare-offers s = ap (λ (x : Option Op). option_map bare_offer (option_map offer_view x)) (bare-offered s) ∙ go (offered_op s)
  where
    go : (x : Option Op) → option_map bare_offer (option_map offer_view (option_map (bare_op hide) x)) ≡ option_map bare_offer (option_map offer_view x)
    go None = refl
    go (Some o) = refl

bare-resolved : (a : ℕ) (s : State) → resolve_branch (offered_op (bare hide s)) a ≡ resolve_branch (offered_op s) a
unfolding writing
bare-resolved a s = ap (λ (x : Option Op). resolve_branch x a) (bare-offered s) ∙ go (offered_op s)
  where
    go : (x : Option Op) → resolve_branch (option_map (bare_op hide) x) a ≡ resolve_branch x a
    go None = refl
    go (Some o) = refl

reply-same
    : (s t : State) (m : List ℕ) (c d : Call) → Alike c d → Like s t → Like (run s c) (run t d)
    → bare_answer c (reply s m c) ≡ bare_answer d (reply t m d)
unfolding calls bare_answer
reply-same s t m c d (same_call start n) h k =
    ap offered (sees (λ x. option_map bare_offer (option_map offer_view (offered_op x))) bare-offers (start_cycle s) (start_cycle t) k)
reply-same s t m c d (same_call retire n) h k = refl
reply-same s t m c d (same_call (retry-call x) n) h k = refl
reply-same s t m c d (same_call (resolve-call a) n) h k =
    ap resolved (sees (λ x. resolve_branch (offered_op x) a) (bare-resolved a) s t h)
reply-same s t m c d (same_call (advance-call x ml) n) h k = λ i. invitation (invitation_of (k i))
reply-same s t m c d (same_call (fetch g ml) n) h k = refl
reply-same s t m c d (same_call (capacity x l) n) h k = refl
reply-same s t m c d (same_call (overlap b) n) h k = refl
reply-same s t m c d (same_call halt-call n) h k = refl
reply-same s t m c d (same_call (fault-call x) n) h k = refl
reply-same s t m c d (same_call (reset a ml) n) h k = absurd n
reply-same s t m c d (same_call (redirect a) n) h k = absurd n
reply-same s t m c d (same_call (view v) n) h k = ap (bare_answer (view v)) (same-shown v s t h)
reply-same s t m c d (same_call (cell i j ml) n) h k = ap (λ (b : Option ℕ). shown_cell (option_map cell_view b)) (same_byte m i j s t h)
reply-same s t m c d (same_call (text x l) n) h k = ap shown_text (same-there x s t h)
reply-same s t m c d (fetches g x y ml e f) h k = refl
reply-same s t m c d (retries l n) h k = refl
reply-same s t m c d (faults l n) h k = refl
reply-same s t m c d (text_requests x l n) h k = ap shown_text (same-there x s t h)

pub answer-same
    : (s t : State) (m : List ℕ) (c d : Call) → Alike c d → refusal s c ≡ refusal t d → Like s t → Like (after s c) (after t d)
    → bare_answer c (answer s m c) ≡ bare_answer d (answer t m d)
unfolding calls bare_answer
answer-same s t m c d a e h =
    by-refusal
    (λ x y.
    Like (when_some x (run s c) (λ (n : ℕ). s)) (when_some y (run t d) (λ (n : ℕ). t))
    → bare_answer c (when_some x (reply s m c) refused) ≡ bare_answer d (when_some y (reply t m d) refused))
    (refusal s c) (refusal t d) e (λ p q k. reply-same s t m c d a h k) (λ n k. refl)

-- No reset among calls that are alike.
pub alike-left : (c d : Call) → Alike c d → NoReset c
alike-left c d (same_call x n) = n
alike-left c d (fetches g i j ml e f) = tt
alike-left c d (retries m n) = tt
alike-left c d (faults m n) = tt
alike-left c d (text_requests x m n) = tt

pub alike_right : (c d : Call) → Alike c d → NoReset d
alike_right c d (same_call x n) = n
alike_right c d (fetches g i j ml e f) = tt
alike_right c d (retries m n) = tt
alike_right c d (faults m n) = tt
alike_right c d (text_requests x m n) = tt
