-- The look at the front of the queue: how many names are known after it, that the waits listed before read the same, and that it is the model's.
use Prim.Native.Nat.{ℕ, zero, suc, ◌≤◌, ◌<◌, max}
use mathlib.Core.Path.{◌≡◌, refl, sym, subst, ap, ap₂, ◌∙◌}
use mathlib.Core.Bool.{true, false}
use mathlib.Core.Logic.{⊎_elim}
use Rattle.std.specs.Prelude.{Option, None, Some, is_some}
use mathlib.Core.List.{List, [], ◌∷◌, ◌++◌, map}
use native.Mathlib.Omega.{arith}
use lib.ListN.{length, get_or, take, replicate, length-take, length-replicate}
use lib.Seq.{length-take-le}
use Rattle.laws.specs.Optional.{value_or, when_some}
use Rattle.laws.specs.Lists.{All, rest}
use Rattle.laws.specs.Texts.{Text, bytes}
use Rattle.laws.proofs.Choices.{none-some, some_inj}
use Rattle.laws.proofs.Tests.{lt-or-ge, true-or-false}
use Rattle.laws.proofs.Slices.{nth-take, length-modify}
use Rattle.model.specs.Config.{UnitSpec}
use Rattle.model.specs.Op.{Info, Op}
use Rattle.model.specs.Registers.{Operands, resolve, name_of, pad, producer_of, claim, claim_all}
use Rattle.model.specs.Traces.{trace_of, overwrites, waits_for, still_writes}
use Rattle.model.specs.State.{with_registers, log_of}
use Rattle.model.specs.Issue.{learn, taken, waits_on}
use Rattle.registers.specs.View.{view_claims, ClaimsOk, view_waits, read, written, view_operands}
use Rattle.registers.specs.declared.Claims.{Claims}
use Rattle.registers.specs.Look.{through, Numbers, Queued as Along, with_names, known_after}
use Rattle.registers.proofs.Owing.{pad-length, padded-few, taken-hit, taken-miss, taken-end}
use Rattle.registers.proofs.Look.{resolve-length, queue-laws}
use Rattle.flight.specs.declared.Queued.{Queued}
use Rattle.flight.specs.declared.Queue.{Queue}
use Rattle.flight.specs.View.{Legend, view_queued, view_queue, entries}
use Rattle.flight.proofs.Entries.{view-entries}
use Rattle.timeline.specs.declared.WaitForm.{WaitForm}
use Rattle.timeline.specs.declared.WaitForm.TheVariants.{
  Overwrites,
  MemoryOrder,
  Drains,
  WaitsFor,
  WaitsForOlder,
  BehindBranch,
  BehindSystem,
  StillWrites,
  AllBusy,
  RedirectTo,
}
use Rattle.timeline.specs.Waits.{detail_of}
use Rattle.stalls.specs.declared.Trace.{Trace}
use Rattle.stalls.specs.declared.Log.{Log}
use Rattle.stalls.specs.View.{form_kind, form_from, form_to, number_word, word_at, view_trace, listed, view_traces, view_stats, view_log}
use Rattle.stalls.specs.Promises.{names_register, Known}
use Rattle.stalls.proofs.Logged.{map-all}
use Rattle.units.specs.declared.Unit.{Unit as Slot}
use Rattle.bank.specs.View.{UnitKnows}
use Rattle.board.specs.declared.Board.{Board}
use Rattle.board.specs.View.{Frame, known_names, view_board}
use Rattle.board.specs.Promises.{Looks}
use Rattle.board.proofs.Parts.{frame-with}
use Rattle.issuing.specs.Steps.{Fronts, numbers, Learns}

-- ── How many ────────────────────────────────────────────────────────────────

pub pad-count : (ps : List (Option ℕ)) (n : ℕ) (a : Text) → length (pad ps (replicate n a)) ≡ max (length ps) n
unfolding pad
pad-count ps zero a = omega arith
pad-count [] (suc n) a = omega (arith, pad-count [] n a)
pad-count (p ∷ ps) (suc n) a = omega (arith, pad-count ps n a)

-- Each number is below.
pub below-through : (n : ℕ) (ks : List ℕ) → through ks ≤ n → All (λ (k : ℕ). k < n) ks
unfolding through
below-through n [] h = tt
below-through n (k ∷ ks) h = (omega arith, below-through n ks (omega arith))

pub through-most : (n : ℕ) (ks : List ℕ) → All (λ (k : ℕ). k < n) ks → through ks ≤ n
unfolding through
through-most n [] a = omega arith
through-most n (k ∷ ks) a = omega (arith, a.0, through-most n ks a.1)

pub all-below : (n : ℕ) (l : List ℕ) → ((i : ℕ) → get_or l i 0 < n) → All (λ (k : ℕ). k < n) l
all-below n [] h = tt
all-below n (k ∷ l) h = (h 0, all-below n l (λ i. h (suc i)))

-- What is known stays known.
pub All-so : {A : Type 0} (P Q : A → Type 0) → ((x : A) → P x → Q x) → (l : List A) → All P l → All Q l
All-so P Q h [] a = tt
All-so P Q h (x ∷ l) a = (h x a.0, All-so P Q h l a.1)

module _ {A : Type 0} (P : A → Type 0) where
  pub All-first : (s t : List A) → All P (s ++ t) → All P s
  All-first [] t a = tt
  All-first (x ∷ s) t a = (a.0, All-first s t a.1)

  pub All-second : (s t : List A) → All P (s ++ t) → All P t
  All-second [] t a = a
  All-second (x ∷ s) t a = All-second s t a.1

pub knows_more : {m n : ℕ} → m ≤ n → (l : List Slot) → All (UnitKnows m) l → All (UnitKnows n) l
knows_more {m} {n} h l =
    All-so (UnitKnows m) (UnitKnows n)
    (λ u k.
    record {
      sources = All-so (λ (r : ℕ). r < m) (λ (r : ℕ). r < n) (λ r d. omega arith) (read u.operands) k.sources;
      destinations = All-so (λ (r : ℕ). r < m) (λ (r : ℕ). r < n) (λ r d. omega arith) (written u.operands) k.destinations;
      pending = All-so (λ (p : ℕ × ℕ). p.0 < m) (λ (p : ℕ × ℕ). p.0 < n) (λ p d. omega arith) (view_waits u.pending) k.pending;
    })
    l

pub known_more : {m n : ℕ} → m ≤ n → (l : List Trace) → All (Known m) l → All (Known n) l
known_more {m} {n} h l = All-so (Known m) (Known n) (λ t k e. omega (arith, k e)) l

-- The registers that a unit waits for are among those that it reads.
pub waits-known : (n : ℕ) (ps : List (Option ℕ)) (rs : List ℕ) → All (λ (r : ℕ). r < n) rs → All (λ (p : ℕ × ℕ). p.0 < n) (waits_on ps rs)
unfolding waits_on
waits-known n ps [] a = tt
waits-known n ps (r ∷ rs) a = go (producer_of ps r) (waits-known n ps rs a.1)
  where
    go : (o : Option ℕ) → All (λ (p : ℕ × ℕ). p.0 < n) (waits_on ps rs) → All (λ (p : ℕ × ℕ). p.0 < n) (when_some o [] (λ (u : ℕ). (r, u) ∷ []) ++ waits_on ps rs)
    go None b = b
    go (Some u) b = (a.0, b)

-- The destination that somebody writes is one of them.
pub taken-known : (n : ℕ) (ps : List (Option ℕ)) (rs : List ℕ) {k : ℕ} → taken ps rs ≡ Some k → All (λ (r : ℕ). r < n) rs → k < n
taken-known n ps [] {k} e a = none-some k (sym (taken-end ps) ∙ e)
taken-known n ps (r ∷ rs) {k} e a = ⊎_elim hit (miss (λ d. taken-known n ps rs d a.1)) (true-or-false (is_some (producer_of ps r)))
  where
    hit : is_some (producer_of ps r) ≡ true → k < n
    hit t = subst (λ j. j < n) (some_inj r k (sym (taken-hit ps r t rs) ∙ e)) a.0

    miss : (taken ps rs ≡ Some k → k < n) → is_some (producer_of ps r) ≡ false → k < n
    miss f t = f (sym (taken-miss ps r t rs) ∙ e)

pub claimed-length : (u : ℕ) (ps : List (Option ℕ)) (rs : List ℕ) → length (claim_all u ps rs) ≡ length ps
unfolding claim_all claim
claimed-length u ps [] = refl
claimed-length u ps (r ∷ rs) = claimed-length u (claim u ps r) rs ∙ length-modify r (λ o. Some u) ps

-- ── Waits listed before ─────────────────────────────────────────────────────

name-more : (names : List Text) {m n r : ℕ} → r < m → m ≤ n → name_of (take n names) r ≡ name_of (take m names) r
unfolding name_of
name-more names {m} {n} {r} h k = ap (value_or (bytes "?")) (nth-take names {n = n} {i = r} (omega arith) ∙ sym (nth-take names {n = m} {i = r} h))

-- A form whose text has no register reads no name.
detail-more : (w : WaitForm) (ks : List UnitSpec) (ns ms : List Text) (k : ℕ) (a o : Text) (t : ℕ)
    → (names_register w ≡ true → name_of ns k ≡ name_of ms k)
    → detail_of w a (number_word w ks ns k) o t ≡ detail_of w a (number_word w ks ms k) o t
unfolding names_register detail_of number_word
detail-more Overwrites ks ns ms k a o t h = ap (λ r. overwrites a r o) (h refl)
detail-more MemoryOrder ks ns ms k a o t h = refl
detail-more Drains ks ns ms k a o t h = refl
detail-more WaitsFor ks ns ms k a o t h = ap (λ r. waits_for a r (Some o)) (h refl)
detail-more WaitsForOlder ks ns ms k a o t h = ap (λ r. waits_for a r None) (h refl)
detail-more BehindBranch ks ns ms k a o t h = refl
detail-more BehindSystem ks ns ms k a o t h = refl
detail-more StillWrites ks ns ms k a o t h = ap (λ r. still_writes a r) (h refl)
detail-more AllBusy ks ns ms k a o t h = refl
detail-more RedirectTo ks ns ms k a o t h = refl

pub log-more : (x : Frame) (s : Option Text) (l : Log) {m n : ℕ} → m ≤ n → All (Known m) (listed l.traces)
    → view_log (frame-with x (take n x.legend.names) s) l ≡ view_log (frame-with x (take m x.legend.names) s) l
unfolding view_log view_traces view_trace
log-more x s l {m} {n} h a =
    ap (λ w. log_of (view_stats l.stats) w x.rows s)
    (map-all (Known m) (view_trace (frame-with x (take n x.legend.names) s) l.traces.target)
    (view_trace (frame-with x (take m x.legend.names) s) l.traces.target)
    (λ t k.
    ap (trace_of (form_kind t.form) (form_from t.form) (form_to t.form))
    (detail-more t.form x.machine.specs (take n x.legend.names) (take m x.legend.names) t.number (word_at x.legend t.mine)
    (word_at x.legend t.other) l.traces.target (λ e. name-more x.legend.names (k e) h)))
    (listed l.traces) a)

-- ── The model's look ────────────────────────────────────────────────────────

-- Padded to so many names, however they are given.
pad-known : {c : Claims} → ClaimsOk c → (t : ℕ) (ns : List Text) → length ns ≡ max c.len t → pad (view_claims c) (replicate t []) ≡ pad (view_claims c) ns
pad-known {c} ok t ns e = ⊎_elim more few (lt-or-ge c.len t)
  where
    more : c.len < t → pad (view_claims c) (replicate t []) ≡ pad (view_claims c) ns
    more h = pad-length (view_claims c) (replicate t []) ns (length-replicate {A = Text} t [] ∙ omega (arith, e))

    few : t ≤ c.len → pad (view_claims c) (replicate t []) ≡ pad (view_claims c) ns
    few h =
        sym (padded-few ok {n = t} h).is ∙ (padded-few ok {n = c.len} (omega arith)).is
        ∙ pad-length (view_claims c) (replicate c.len []) ns (length-replicate {A = Text} c.len [] ∙ omega (arith, e))

-- Names and numbers along a queue.
abbrev infos : Legend → Queue → List Info
infos g q = map (λ (o : Op). o.info) (view_queue g q)

abbrev kept-numbers : Queue → List Numbers
kept-numbers q = map (λ (x : Queued). view_operands x.operands) (entries q)

abbrev infos-of : Legend → List Queued → List Info
infos-of g l = map (λ (o : Op). o.info) (map (view_queued g) l)

abbrev numbers-in : List Queued → List Numbers
numbers-in l = map (λ (x : Queued). view_operands x.operands) l

module _ (x : Frame) (b r : Board) (q : Queued) (ok : ClaimsOk b.claims) (e : Learns b q.operands r) (f : Fronts q b) (l : Looks x b) where
  abbrev held : List Text
  held = x.legend.names

  abbrev info : Info
  info = (view_queued x.legend q).info

  abbrev found : Operands
  found = resolve (known_names x b) info

  behind : List Queued
  behind = rest (entries b.queue)

  along : Along (known_names x b) held (info ∷ infos-of x.legend behind) (view_operands q.operands ∷ numbers-in behind)
  unfolding behind
  along =
      subst (λ p. Along (known_names x b) held (infos-of x.legend p) (numbers-in p)) f
      (subst (λ p. Along (known_names x b) held (map (λ (o : Op). o.info) p) (kept-numbers b.queue)) (view-entries x.legend b.queue)
      l.queued)

  pub look : found ≡ with_names (view_operands q.operands) (take (known_after (known_names x b) (numbers q.operands)) held)
  look = queue-laws.look (known_names x b) held info (infos-of x.legend behind) (view_operands q.operands) (numbers-in behind) along

  count : length (known_names x b) ≡ b.claims.len
  unfolding known_names
  count = length-take-le b.claims.len held l.most

  names-length : length found.names ≡ max b.claims.len (through (numbers q.operands))
  names-length =
      resolve-length (known_names x b) info ∙ ap (λ o. known_after (known_names x b) (o.read ++ o.written)) look
      ∙ ap (λ n. max n (through (numbers q.operands))) count

  names-known : known_names x r ≡ found.names
  unfolding known_names
  names-known =
      ap (λ n. take n held) (e.known ∙ ap (λ n. max n (through (numbers q.operands))) (sym count)) ∙ sym (ap (λ o. o.names) look)

  pub learned : view_board x r ≡ learn found.names (view_board x b)
  unfolding view_board learn
  learned =
      e.is x
      ∙ ap₂ (λ ns ps. with_registers ns ps (view_board x b)) names-known
      (e.claims ∙ pad-known ok (through (numbers q.operands)) found.names names-length)

  most : r.claims.len ≤ length held
  most =
      omega (
        arith,
        e.known,
        names-length,
        ap (λ o. length o.names) look,
        length-take (known_after (known_names x b) (numbers q.operands)) held,
      )

  pub looks-stays : Looks x r
  unfolding behind
  looks-stays =
      record {
        most = most;
        queued =
            subst (λ p. Along (known_names x r) held (infos x.legend p) (kept-numbers p)) (sym e.queue)
            (subst (λ p. Along (known_names x r) held (map (λ (o : Op). o.info) p) (kept-numbers b.queue)) (sym (view-entries x.legend b.queue))
            (subst (λ p. Along (known_names x r) held (infos-of x.legend p) (numbers-in p)) (sym f) stays));
      }
    where
      stays : Along (known_names x r) held (infos-of x.legend (q ∷ rest (entries b.queue))) (numbers-in (q ∷ rest (entries b.queue)))
      stays =
          subst (λ ns. Along ns held (info ∷ infos-of x.legend behind) (view_operands q.operands ∷ numbers-in behind)) (sym names-known)
          (queue-laws.stays (known_names x b) held info (infos-of x.legend behind) (view_operands q.operands) (numbers-in behind) along)

  -- The front has left, and no more is known.
  pub looks-issued : (s : Board) → s.claims.len ≡ r.claims.len → entries s.queue ≡ rest (entries b.queue) → Looks x s
  unfolding known_names behind
  looks-issued s k p =
      record {
        most = omega (arith, most, k);
        queued =
            subst (λ n. Along (take n held) held (infos x.legend s.queue) (kept-numbers s.queue)) (sym k)
            (subst (λ i. Along (known_names x r) held (map (λ (o : Op). o.info) i) (kept-numbers s.queue)) (sym (view-entries x.legend s.queue))
            (subst (λ i. Along (known_names x r) held (infos-of x.legend i) (numbers-in i)) (sym p)
            (subst (λ ns. Along ns held (infos-of x.legend behind) (numbers-in behind)) (sym names-known)
            (queue-laws.issued (known_names x b) held info (infos-of x.legend behind) (view_operands q.operands) (numbers-in behind) along))));
      }
