-- The front of the queue stays or goes into a free unit: what becomes of the places, and of the waits that name them.
use Prim.Native.Nat.{ℕ, suc, ◌+◌, ◌≤◌, ◌<◌}
use mathlib.Core.Path.{◌≡◌, refl, sym, subst, ap, ap₂, ◌∙◌}
use mathlib.Core.Bool.{true, false, not, cond}
use mathlib.Core.Logic.{◌⊎◌, inl, inr, ⊎_elim}
use Rattle.std.specs.Prelude.{Some, option_map, slice_get}
use mathlib.Core.List.{List, [], ◌∷◌, ◌++◌, map}
use native.Mathlib.Omega.{arith}
use lib.Dec.{eqb}
use lib.ListN.{length, get_or, length-append}
use lib.Seq.{get_or-set_other}
use borrow.Author.Tests.{eq-eqb, eqb-true, eqb-false, not-true}
use Rattle.laws.specs.Optional.{value_or}
use Rattle.laws.specs.Lists.{All, rest, modify, find_at, count, elem}
use Rattle.laws.proofs.Choices.{none-some, some_inj}
use Rattle.laws.proofs.Tests.{cond_yes, cond-ne, true-or-false, and_both}
use Rattle.laws.proofs.Slices.{rest-drop, seen-get_or, nth-get_or, nth-modify-same, nth-modify-other, All-append}
use Rattle.laws.proofs.Search.{find-hit, find-miss, find-end}
use Rattle.model.specs.Units.{FunctionalUnit, idle_unit, unit_at, occupy}
use Rattle.model.specs.Issue.{is_free, waits_on}
use Rattle.registers.specs.View.{view_claims, read, written}
use Rattle.registers.specs.declared.Operands.{Operands}
use Rattle.flight.specs.declared.Queued.{Queued}
use Rattle.flight.specs.declared.Queue.{Queue}
use Rattle.flight.specs.View.{Legend, view_queued, entries, QueuedOk, QueueOk}
use Rattle.flight.proofs.Entries.{entries-length, entries_next, entries-ok}
use Rattle.timeline.specs.declared.WaitForm.{WaitForm}
use Rattle.stalls.specs.declared.Trace.{Trace}
use Rattle.stalls.specs.declared.TraceList.{TraceList}
use Rattle.stalls.specs.View.{listed, TraceListOk}
use Rattle.stalls.proofs.Logged.{listed-length}
use Rattle.bank.specs.View.{view_units, places, UnitsOk}
use Rattle.bank.specs.declared.Units.{Units}
use Rattle.bank.proofs.Steps.{units-length}
use Rattle.board.specs.declared.Board.{Board}
use Rattle.board.specs.View.{Frame, BoardOk}
use Rattle.board.specs.Promises.{queue_places, taken_places, Apart, Names, Named, Vacant, Looks, unit_places}
use Rattle.board.proofs.Parts.{looks-kept, place_inside}
use Rattle.board.proofs.Counting.{count-append, count_set, count-any, More, names_more, taken-count, apart-kept}
use Rattle.issuing.specs.Steps.{Fronts, trace_by, Learns, Blocks, Places}

-- ── The front ───────────────────────────────────────────────────────────────

module _ {p : Queue} (ok : QueueOk p) (d : Queued) where
  pub front-first : 0 < p.len → entries p ≡ get_or p.items 0 d ∷ rest (entries p)
  front-first h = (entries_next ok d h).is ∙ ap (λ l. get_or p.items 0 d ∷ l) (sym (rest-drop (entries p)))

  pub front-item : {q : Queued} {l : List Queued} → entries p ≡ q ∷ l → get_or p.items 0 d ≡ q
  front-item {q} {l} e =
      sym (seen-get_or (entries_next ok d {i = 0} (omega (arith, entries-length ok, ap length e))) d) ∙ ap (λ t. get_or t 0 d) e

pub front-ok : {p : Queue} {q : Queued} {l : List Queued} → QueueOk p → entries p ≡ q ∷ l → QueuedOk q
front-ok ok e = (subst (All QueuedOk) e (entries-ok ok)).0

-- The front changed in what e does not read.
pub front_kept : {A B : Type 0} (e : A → B) {f : A → A} → ((x : A) → e (f x) ≡ e x) → (l : List A) → map e (modify 0 f l) ≡ map e l
unfolding modify
front_kept e h [] = refl
front_kept e h (x ∷ xs) = ap (λ y. y ∷ map e xs) (h x)

-- One wait more.
pub one_more : {l r : TraceList} (t : Trace) → TraceListOk l → TraceListOk r → listed r ≡ listed l ++ t ∷ [] → r.len ≤ l.len + 1
one_more {l} {r} t ok h e = omega (arith, listed-length ok, listed-length h, ap length e, length-append (listed l) (t ∷ []))

-- ── A free unit ─────────────────────────────────────────────────────────────

-- Counted from j, place i is the kth, and its unit is free.
pub record FreeAt (us : List FunctionalUnit) (j i : ℕ) : Type 0 where
  pub k : ℕ
  pub at : i ≡ j + k
  pub here : k < length us
  pub free : (unit_at us k).busy ≡ false

found-free : (spec j : ℕ) (us : List FunctionalUnit) {i : ℕ} → find_at (is_free spec) j us ≡ Some i → FreeAt us j i
unfolding is_free unit_at
found-free spec j [] {i} e = none-some i (sym (find-end (is_free spec) j) ∙ e)
found-free spec j (u ∷ us) {i} e = ⊎_elim (hit e) (miss (found-free spec (j + 1) us) e) (true-or-false (is_free spec j u))
  where
    hit : find_at (is_free spec) j (u ∷ us) ≡ Some i → is_free spec j u ≡ true → FreeAt (u ∷ us) j i
    hit e t =
        record {
          k = 0;
          at = sym (some_inj j i (sym (find-hit (is_free spec) t us) ∙ e)) ∙ omega arith;
          here = omega arith;
          free = not-true u.busy (and_both (eqb u.spec spec) (not u.busy) t).1;
        }

    miss : (find_at (is_free spec) (j + 1) us ≡ Some i → FreeAt us (j + 1) i) → find_at (is_free spec) j (u ∷ us) ≡ Some i
        → is_free spec j u ≡ false → FreeAt (u ∷ us) j i
    miss f e t =
        let r = f (sym (find-miss (is_free spec) t us) ∙ e) in
        record { k = suc r.k; at = omega (arith, r.at); here = omega (arith, r.here); free = r.free }

module _ {us : Units} (ok : UnitsOk us) (g : Legend) (spec : ℕ) {i : ℕ} (e : find_at (is_free spec) 0 (view_units g us) ≡ Some i) where
  pub free-inside : i < us.len
  free-inside = let r = found-free spec 0 (view_units g us) e in omega (arith, r.at, r.here, units-length ok g)

  pub free-busy : (unit_at (view_units g us) i).busy ≡ false
  free-busy =
      let r = found-free spec 0 (view_units g us) e in
      subst (λ k. (unit_at (view_units g us) k).busy ≡ false) (let z : r.k ≡ i = omega (arith, r.at) in z) r.free

-- ── Nothing moves ───────────────────────────────────────────────────────────

taken-same : (b r : Board) → r.units ≡ b.units → queue_places r ≡ queue_places b → r.gone ≡ b.gone → taken_places r ≡ taken_places b
unfolding taken_places
taken-same b r e f g = ap₂ (λ p t. p ++ t ∷ []) (ap₂ (λ u q. places u ++ q) e f) g

apart-same : (b r : Board) → taken_places r ≡ taken_places b → Apart b → Apart r
apart-same b r e a p h = subst (λ l. count (eqb p) l ≤ 1) (sym e) (a p h)

module _ (b r : Board) {x : Operands} (e : Learns b x r) where
  learns-queue : queue_places r ≡ queue_places b
  unfolding queue_places
  learns-queue = ap (λ p. map (λ (x : Queued). x.place) (entries p)) e.queue

  pub learns-apart : Apart b → Apart r
  learns-apart = apart-same b r (taken-same b r e.units learns-queue e.gone)

  pub learns-named : Named (unit_places b) b → Named (unit_places r) r
  learns-named a =
      subst (λ l. All (Names (unit_places r)) (listed l.traces)) (sym e.log)
      (subst (λ ps. All (Names ps) (listed b.log.traces)) (ap₂ (λ u t. places u ++ t ∷ []) (sym e.units) (sym e.gone)) a)

  pub learns-fronts : (q : Queued) → Fronts q b → Fronts q r
  learns-fronts q f = subst (λ p. entries p ≡ q ∷ rest (entries p)) (sym e.queue) f

-- ── The front stays ─────────────────────────────────────────────────────────

-- Of a wait that names the front.
front-taken : (b : Board) {q : Queued} → Fronts q b → elem q.place (taken_places b) ≡ true
unfolding queue_places count
front-taken b {q} f =
    count-any (eqb q.place) (taken_places b)
    (omega (
      arith,
      taken-count q.place b,
      ap (λ l. count (eqb q.place) (map (λ (x : Queued). x.place) l)) f,
      cond_yes {A = ℕ} 1 0 (eq-eqb q.place q.place refl),
    ))

pub units-taken : (b : Board) → More (unit_places b) (taken_places b)
unfolding count
units-taken b p n = omega (arith, taken-count p b, count-append (eqb p) (places b.units) (b.gone ∷ []))

module _ {b r : Board} {f : WaitForm} {n : ℕ} (e : Blocks b f n r) where
  pub blocks-apart : Apart b → Apart r
  blocks-apart = apart-same b r (taken-same b r e.units e.queue e.gone)

  pub blocks-named : {q : Queued} → Fronts q b → Named (unit_places b) b → Named (taken_places r) r
  blocks-named {q} h a =
      subst (All (Names (taken_places r))) (sym (e.waits q h))
      (subst (λ ps. All (Names ps) (listed b.log.traces ++ trace_by f q n ∷ [])) (sym (taken-same b r e.units e.queue e.gone))
      (All-append (Names (taken_places b)) (listed b.log.traces) (trace_by f q n ∷ [])
      (names_more (unit_places b) (taken_places b) (units-taken b) (listed b.log.traces) a)
      (record { mine = inr (front-taken b h); other = inl refl }, tt)))

  pub blocks-looks : (x : Frame) → Looks x b → Looks x r
  blocks-looks x = looks-kept x b r e.known e.alike

-- ── The front goes into a unit ──────────────────────────────────────────────

module _ {b r : Board} {q : Queued} {i : ℕ} (ok : BoardOk b) (here : i < b.units.len) (e : Places b q i r) (h : Fronts q b) where
  abbrev occupied : Legend → FunctionalUnit → FunctionalUnit
  occupied g = occupy (view_queued g q) (read q.operands) (written q.operands) (waits_on (view_claims b.claims) (read q.operands))

  moved-queue : queue_places b ≡ q.place ∷ queue_places r
  unfolding queue_places
  moved-queue = ap (map (λ (x : Queued). x.place)) h ∙ ap (λ l. q.place ∷ map (λ (x : Queued). x.place) l) (sym e.queue)

  -- The places of units: unit i has that of the front.
  moved-units : (p : ℕ)
      → count (eqb p) (places r.units) + cond (eqb p (get_or (places b.units) i 80)) 1 0
      ≡ count (eqb p) (places b.units) + cond (eqb p q.place) 1 0
  moved-units p =
      ap (λ l. count (eqb p) l + cond (eqb p (get_or (places b.units) i 80)) 1 0) e.places
      ∙ count_set (eqb p) (places b.units) i q.place 80 (place_inside ok.units here)

  pub places-apart : Apart b → Apart r
  unfolding count
  places-apart =
      apart-kept b r
      (λ p k.
      omega (
        arith,
        taken-count p b,
        taken-count p r,
        moved-units p,
        ap (count (eqb p)) moved-queue,
        ap {B = ℕ} (λ t. cond (eqb p t) 1 0) e.gone,
      ))

  pub places-named : get_or (places b.units) i 80 ≡ 80 → Named (unit_places b) b → Named (taken_places r) r
  unfolding count
  places-named v a =
      subst (λ l. All (Names (taken_places r)) (listed l.traces)) (sym e.log)
      (names_more (unit_places b) (taken_places r)
      (λ p n.
      omega (
        arith,
        taken-count p r,
        moved-units p,
        count-append (eqb p) (places b.units) (b.gone ∷ []),
        ap {B = ℕ} (λ t. cond (eqb p t) 1 0) v,
        cond-ne {A = ℕ} 1 0 n,
        ap {B = ℕ} (λ t. cond (eqb p t) 1 0) e.gone,
      ))
      (listed b.log.traces) a)

  -- The unit is busy now.
  taken-up : (g : Legend) → (unit_at (view_units g r.units) i).busy ≡ true
  unfolding unit_at occupy
  taken-up g =
      ap (λ o. (value_or (idle_unit 0 0) o).busy)
      (ap (λ l. slice_get l i) (e.units g)
      ∙ nth-modify-same i (occupied g) (view_units g b.units)
      ∙ ap (option_map (occupied g)) (nth-get_or (view_units g b.units) (idle_unit 0 0) (let z : i < length (view_units g b.units) = omega (arith, units-length ok.units g) in z)))

  other-unit : (g : Legend) {j : ℕ} → (j ≡ i → ⊥) → (unit_at (view_units g r.units) j).busy ≡ (unit_at (view_units g b.units) j).busy
  unfolding unit_at
  other-unit g {j} n =
      ap (λ o. (value_or (idle_unit 0 0) o).busy) (ap (λ l. slice_get l j) (e.units g) ∙ nth-modify-other (occupied g) (view_units g b.units) n)

  pub places-vacant : Vacant b → Vacant r
  places-vacant v g j t = ⊎_elim same other (true-or-false (eqb j i))
    where
      same : eqb j i ≡ true → (r.offer.writing ≡ Some j) ⊎ (get_or (places r.units) j 80 ≡ 80)
      same d =
          absurd
          (let y : (unit_at (view_units g r.units) i).busy ≡ false = subst (λ k. (unit_at (view_units g r.units) k).busy ≡ false) (eqb-true j i d) t in
          let w = taken-up g in let z : ◌≡◌ {A = ℕ} 0 1 = cc in omega arith)

      other : eqb j i ≡ false → (r.offer.writing ≡ Some j) ⊎ (get_or (places r.units) j 80 ≡ 80)
      other d =
          let n = eqb-false j i d in
          subst (λ o. (o.writing ≡ Some j) ⊎ (get_or (places r.units) j 80 ≡ 80)) (sym e.offer)
          (subst (λ l. (b.offer.writing ≡ Some j) ⊎ (get_or l j 80 ≡ 80)) (sym e.places)
          (subst (λ p. (b.offer.writing ≡ Some j) ⊎ (p ≡ 80)) (sym (get_or-set_other (places b.units) i j q.place 80 n))
          (v g j (sym (other-unit g n) ∙ t))))
