-- A queue is its entries: what they are settles what the queue is to the model.
use Rattle.capability.specs.declared.PipelineHazardKind.{PipelineHazardKind}
use Rattle.std.proofs.Common.{
  Option,
  None,
  ℕ,
  zero,
  suc,
  ◌+◌,
  ◌-◌,
  ◌≤◌,
  ◌<◌,
  ◌≡◌,
  refl,
  sym,
  ap,
  subst,
  ◌∙◌,
  List,
  [],
  ◌∷◌,
  ◌++◌,
  map,
  arith,
  length,
  get_or,
  set,
  take,
  drop,
  zero-add,
}
use lib.ListN.{length-set, length-append, length-drop}
use lib.Seq.{length-take-le, paste, length-paste, take-nil, take-paste, take_at}
use Rattle.std.proofs.lemmas.List.{take_all}
use Rattle.laws.specs.Lists.{All, rest, modify}
use Rattle.laws.proofs.Slices.{Seen, slice-next, view-next, view-length, take-map, All-get_or, All-set, All-take, All-drop, All-append, All-map}
use Rattle.laws.proofs.Map.{Changed, changed-map}
use Rattle.laws.proofs.Maps.{length-of, map-append, map-swap, modify-map}
use Rattle.laws.proofs.Shift.{pushed}
use Rattle.model.specs.Op.{Op, with_hazard}
use Rattle.flight.specs.declared.Queued.{Queued}
use Rattle.flight.specs.declared.Queue.{Queue}
use Rattle.flight.specs.View.{Legend, op_with, view_queued, view_queue, entries, QueuedOk, QueueOk}
use Rattle.flight.specs.Promises.{hazardous, Queues}

-- ── What a queue means ──────────────────────────────────────────────────────

pub view-entries : (g : Legend) (q : Queue) → view_queue g q ≡ map (view_queued g) (entries q)
unfolding view_queue entries
view-entries g q = take-map (view_queued g) q.len q.items

pub view-hazard : (g : Legend) (h : Option PipelineHazardKind) (x : Queued) → view_queued g (hazardous h x) ≡ with_hazard h (view_queued g x)
unfolding view_queued op_with
view-hazard g h x = refl

pub hazardous-ok : (h : Option PipelineHazardKind) {x : Queued} → QueuedOk x → QueuedOk (hazardous h x)
hazardous-ok h o = record { operands = o.operands; place = o.place }

module _ {q : Queue} (ok : QueueOk q) where
  room : q.len ≤ length q.items
  room = omega (arith, ok.few, ok.size)

  pub entries-length : length (entries q) ≡ q.len
  unfolding entries
  entries-length = length-take-le q.len q.items room

  pub queue-length : (g : Legend) → length (view_queue g q) ≡ q.len
  unfolding view_queue
  queue-length g = view-length (view_queued g) q.items room

  pub entries_next : (d : Queued) {i : ℕ} → i < q.len → Seen (entries q) q.len i (get_or q.items i d)
  unfolding entries
  entries_next d h = slice-next q.items d room h

  pub queue-next : (g : Legend) (d : Queued) {i : ℕ} → i < q.len → Seen (view_queue g q) q.len i (view_queued g (get_or q.items i d))
  unfolding view_queue
  queue-next g d h = view-next (view_queued g) q.items d room h

  pub entry-ok : (d : Queued) {i : ℕ} → i < 16 → QueuedOk (get_or q.items i d)
  entry-ok d h = All-get_or QueuedOk q.items d ok.each (omega (arith, ok.size))

  pub entries-ok : All QueuedOk (entries q)
  unfolding entries
  entries-ok = All-take QueuedOk q.len q.items ok.each

-- ── What a queue becomes ────────────────────────────────────────────────────

-- The entries by f, and so the model's operations by m.
pub queues-by : (q : Queue) {r : Queue} (f : List Queued → List Queued) (m : Legend → List Op → List Op)
    → ((g : Legend) (l : List Queued) → map (view_queued g) (f l) ≡ m g (map (view_queued g) l))
    → entries r ≡ f (entries q)
    → QueueOk r
    → Queues r (f (entries q)) (λ g. m g (view_queue g q))
queues-by q {r} f m h e ok =
    record {
      entries = e;
      is = λ g. view-entries g r ∙ ap (map (view_queued g)) e ∙ h g (entries q) ∙ ap (m g) (sym (view-entries g q));
      ok = ok;
    }

pub map-rest : {A B : Type 0} (v : A → B) (l : List A) → map v (rest l) ≡ rest (map v l)
unfolding rest
map-rest v [] = refl
map-rest v (x ∷ xs) = refl

rest-take : {A : Type 0} (n : ℕ) (l : List A) → take (n - 1) (drop 1 l) ≡ rest (take n l)
unfolding rest
rest-take zero l = refl
rest-take (suc n) [] = take-nil (suc n - 1)
rest-take (suc n) (x ∷ xs) = grind arith

-- The first, changed: also where there is none.
pub front-set : {A : Type 0} (f : A → A) (d : A) (n : ℕ) (l : List A) → take n (set l 0 (f (get_or l 0 d))) ≡ modify 0 f (take n l)
unfolding modify
front-set f d zero l = refl
front-set f d (suc n) [] = refl
front-set f d (suc n) (x ∷ xs) = refl

-- A loop over all of a list.
pub whole-changed : {f : Queued → Queued} {l₀ l : List Queued} {i : ℕ} → length l ≡ length l₀ → Changed (λ j. f) l₀ l (length l₀) i → length l₀ ≤ i → l ≡ map f l₀
whole-changed {f} {l₀} {l} n e h = sym (take_all (length l₀) l (omega arith)) ∙ changed-map e h ∙ ap (map f) (take_all (length l₀) l₀ (omega arith))

module _ {q : Queue} (ok : QueueOk q) where
  queue-set : (i : ℕ) {n : ℕ} {x : Queued} → n ≤ 16 → QueuedOk x → QueueOk (record { items = set q.items i x; len = n })
  queue-set i {n} {x} h p =
      record { few = h; size = length-set q.items i x ∙ ok.size; each = All-set QueuedOk q.items i x ok.each p }

  pub queue-pushed : {x : Queued} → QueuedOk x → q.len < 16
      → Queues (record { items = set q.items q.len x; len = q.len + 1 }) (entries q ++ x ∷ []) (λ g. view_queue g q ++ view_queued g x ∷ [])
  unfolding entries
  queue-pushed {x} p h =
      queues-by q (λ l. l ++ x ∷ []) (λ g l. l ++ view_queued g x ∷ []) (λ g l. map-append (view_queued g) l (x ∷ []))
      (pushed q.items q.len x (omega (arith, ok.size)) refl)
      (queue-set q.len (omega arith) p)

  pub front-hazard : (h : Option PipelineHazardKind) (d : Queued)
      → Queues (record { items = set q.items 0 (hazardous h (get_or q.items 0 d)); len = q.len }) (modify 0 (hazardous h) (entries q))
      (λ g. modify 0 (with_hazard h) (view_queue g q))
  unfolding entries
  front-hazard h d =
      queues-by q (modify 0 (hazardous h)) (λ g. modify 0 (with_hazard h))
      (λ g. modify-map (view_queued g) (hazardous h) (with_hazard h) (view-hazard g h) 0)
      (front-set (hazardous h) d q.len q.items)
      (queue-set 0 ok.few (hazardous-ok h (entry-ok ok d {i = 0} (omega arith))))

  -- Of each the hazard is gone.
  pub cleared : {l : List Queued} → l ≡ map (hazardous None) (entries q)
      → Queues (record { items = l ++ drop q.len q.items; len = q.len }) (map (hazardous None) (entries q)) (λ g. map (with_hazard None) (view_queue g q))
  unfolding entries
  cleared {l} e =
      queues-by q (map (hazardous None)) (λ g. map (with_hazard None))
      (λ g. map-swap (hazardous None) (view_queued g) (view_queued g) (with_hazard None) (view-hazard g None))
      (front ∙ e)
      (record { few = ok.few; size = size; each = All-append QueuedOk l (drop q.len q.items) each (All-drop QueuedOk q.len q.items ok.each) })
    where
      count : length l ≡ q.len
      count = ap length e ∙ length-of (hazardous None) (entries q) ∙ entries-length ok

      front : entries (record { items = l ++ drop q.len q.items; len = q.len }) ≡ l
      front = take_at l (drop q.len q.items) q.len count

      size : length (l ++ drop q.len q.items) ≡ 16
      size = simp (length-append, length-drop) (omega (arith, ok.few, ok.size, count))

      each : All QueuedOk l
      each = subst (All QueuedOk) (sym e) (All-map QueuedOk QueuedOk (hazardous None) (entries q) (λ x o. hazardous-ok None o) (entries-ok ok))

  -- The first is gone.
  pub popped : {l : List Queued} → l ≡ paste q.items 0 (drop 1 q.items) (q.len - 1) → (q.len ≡ 0 → ⊥)
      → Queues (record { items = l; len = q.len - 1 }) (rest (entries q)) (λ g. rest (view_queue g q))
  unfolding entries
  popped {l} e h =
      queues-by q rest (λ g. rest) (λ g. map-rest (view_queued g)) (ap (take (q.len - 1)) e ∙ is)
      (subst (λ (x : List Queued). QueueOk (record { items = x; len = q.len - 1 })) (sym e) (record {
        few = omega (arith, ok.few);
        size = length-paste q.items 0 (drop 1 q.items) (q.len - 1) (omega (arith, ok.few, ok.size)) short ∙ ok.size;
        each =
            All-append QueuedOk _ (drop (0 + (q.len - 1)) q.items)
            (All-append QueuedOk (take 0 q.items) (take (q.len - 1) (drop 1 q.items)) tt (All-take QueuedOk (q.len - 1) (drop 1 q.items) (All-drop QueuedOk 1 q.items ok.each)))
            (All-drop QueuedOk (0 + (q.len - 1)) q.items ok.each);
      }))
    where
      short : q.len - 1 ≤ length (drop 1 q.items)
      short = omega (arith, length-drop 1 q.items, ok.few, ok.size)

      is : take (q.len - 1) (paste q.items 0 (drop 1 q.items) (q.len - 1)) ≡ rest (take q.len q.items)
      is =
          ap (λ n. take n (paste q.items 0 (drop 1 q.items) (q.len - 1))) (sym (zero-add (q.len - 1)))
          ∙ take-paste q.items 0 (drop 1 q.items) (q.len - 1) (omega arith) short
          ∙ rest-take q.len q.items

  -- There is none to take.
  pub popped-none : q.len ≡ 0 → Queues q (rest (entries q)) (λ g. rest (view_queue g q))
  unfolding entries rest
  popped-none e =
      queues-by q rest (λ g. rest) (λ g. map-rest (view_queued g)) (let z : take q.len q.items ≡ [] = ap (λ n. take n q.items) e in z ∙ sym (ap rest z)) ok
