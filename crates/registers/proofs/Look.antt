-- Numbers given at fetch are those of the look.
use Prim.Native.Nat.{ℕ, suc, ◌+◌, ◌≤◌, ◌<◌, max}
use Rattle.std.specs.Prelude.{fold}
use mathlib.Core.Path.{◌≡◌, refl, sym, ap, ap₂, ◌∙◌}
use mathlib.Core.List.{List, [], ◌∷◌, ◌++◌, map, append_assoc, append-nil}
use native.Mathlib.Omega.{arith}
use lib.ListN.{length, take}
use lib.Seq.{take_at}
use Rattle.laws.specs.Lists.{All}
use Rattle.laws.specs.Texts.{Text}
use Rattle.model.specs.Op.{Info, Op}
use Rattle.model.specs.Calls.{names_in}
use Rattle.model.specs.Registers.{numbered, intern, intern_all, operands, resolve, registers}
use Rattle.registers.specs.Look.{through, known_after, LooksRight, Numbers, numbers_of, with_names, queue_names, queue_numbers, Queued, QueueLaws, looking}
use Rattle.registers.proofs.Interning.{begins-self, all-begins, all-length, all_append, all-stays}

all-count : (ns bs : List Text) → length (intern_all ns bs).numbers ≡ length bs
unfolding registers
all-count ns [] = refl
all-count ns (b ∷ bs) = ap suc (all-count (intern ns b).names bs)

-- Every number is one of a name.
below-through : (ks : List ℕ) (n : ℕ) → through ks ≤ n → All (λ (k : ℕ). k < n) ks
unfolding through
below-through [] n h = tt
below-through (k ∷ ks) n h = (omega arith, below-through ks n (omega arith))

pub numbers-below : (ns bs : List Text) → All (λ (k : ℕ). k < length (intern_all ns bs).names) (intern_all ns bs).numbers
numbers-below ns bs = below-through (intern_all ns bs).numbers (length (intern_all ns bs).names) (omega (arith, all-length ns bs))

-- ── One look ──────────────────────────────────────────────────────────────────

pub looks-right : LooksRight
looks-right ns bs cs held ks f = record { numbers = given; names = after; rest = f.names ∙ ap (λ r. r.names) whole; again = repeat }
  where
    ms : List Text
    ms = (intern_all ns bs).names

    whole : intern_all ns (bs ++ cs) ≡ numbered ((intern_all ns bs).numbers ++ (intern_all ms cs).numbers) (intern_all ms cs).names
    whole = all_append ns bs cs

    given : (intern_all ns bs).numbers ≡ ks
    given =
        sym (take_at (intern_all ns bs).numbers (intern_all ms cs).numbers (length bs) (all-count ns bs))
        ∙ ap (take (length bs)) (sym (ap (λ r. r.numbers) whole))
        ∙ sym f.numbers

    after : ms ≡ take (known_after ns ks) held
    after =
        sym (all-begins ms cs) ∙ ap (λ l. take (length ms) l) (sym (f.names ∙ ap (λ r. r.names) whole))
        ∙ ap (λ n. take n held) (all-length ns bs ∙ ap (known_after ns) given)

    repeat : intern_all ms bs ≡ numbered ks ms
    repeat = all-stays ns bs ms (begins-self ms) ∙ ap (λ l. numbered l ms) given

fold-through : (m : ℕ) (ks : List ℕ) → fold (λ n k. max n (k + 1)) m ks ≡ max m (through ks)
unfolding through
fold-through m [] = omega arith
fold-through m (k ∷ ks) = omega (arith, fold-through (max m (k + 1)) ks)

pub through_fold : (ks : List ℕ) → through ks ≡ fold (λ n k. max n (k + 1)) 0 ks
through_fold ks = omega (arith, fold-through 0 ks)

-- ── A look at an operation ────────────────────────────────────────────────────

module _ (ns : List Text) (i : Info) where
  -- The names after it are those of interning its reads and then its writes.
  pub resolve-all : (resolve ns i).names ≡ (intern_all ns (i.sources ++ i.writes)).names
  unfolding registers
  resolve-all = sym (ap (λ r. r.names) (all_append ns i.sources i.writes))

  pub resolve-numbers : (intern_all ns (i.sources ++ i.writes)).numbers ≡ (resolve ns i).read ++ (resolve ns i).written
  unfolding registers
  resolve-numbers = ap (λ r. r.numbers) (all_append ns i.sources i.writes)

  pub resolve-length : length (resolve ns i).names ≡ known_after ns ((resolve ns i).read ++ (resolve ns i).written)
  resolve-length = ap length resolve-all ∙ all-length ns (i.sources ++ i.writes) ∙ ap (known_after ns) resolve-numbers

  -- A second look changes nothing.
  pub resolve-again : resolve (resolve ns i).names i ≡ resolve ns i
  unfolding registers
  resolve-again =
      ap (λ r. operands r.numbers (intern_all r.names i.writes).numbers (intern_all r.names i.writes).names) reads
      ∙ ap (λ w. operands (resolve ns i).read w.numbers w.names) writes
    where
      between : List Text
      between = (intern_all ns i.sources).names

      last : List Text
      last = (intern_all between i.writes).names

      reads : intern_all last i.sources ≡ numbered (intern_all ns i.sources).numbers last
      reads = all-stays ns i.sources last (all-begins between i.writes)

      writes : intern_all last i.writes ≡ numbered (intern_all between i.writes).numbers last
      writes = all-stays between i.writes last (begins-self last)

-- ── Along the queue ───────────────────────────────────────────────────────────

-- The model's list of queued names reads nothing but the operations' infos.
pub queue_names-in : (os : List Op) → names_in os ≡ queue_names (map (λ (o : Op). o.info) os)
unfolding names_in queue_names
queue_names-in [] = refl
queue_names-in (o ∷ os) = ap (λ l. o.info.sources ++ (o.info.writes ++ l)) (queue_names-in os)

queue-append : (q : List Info) (i : Info) → queue_names (q ++ i ∷ []) ≡ queue_names q ++ (i.sources ++ i.writes)
unfolding queue_names
queue-append [] i = ap (λ l. i.sources ++ l) (append-nil i.writes)
queue-append (j ∷ q) i =
    ap (λ l. j.sources ++ (j.writes ++ l)) (queue-append q i)
    ∙ ap (λ l. j.sources ++ l) (sym (append_assoc j.writes (queue_names q) (i.sources ++ i.writes)))
    ∙ sym (append_assoc j.sources (j.writes ++ queue_names q) (i.sources ++ i.writes))

-- The front, and then the rest.
queue-front : (ns : List Text) (i : Info) (q : List Info) → (intern_all ns (queue_names (i ∷ q))).names ≡ (intern_all (resolve ns i).names (queue_names q)).names
unfolding queue_names
queue-front ns i q =
    ap (λ l. (intern_all ns l).names) (sym (append_assoc i.sources i.writes (queue_names q)))
    ∙ ap (λ r. r.names) (all_append ns (i.sources ++ i.writes) (queue_names q))
    ∙ ap (λ l. (intern_all l (queue_names q)).names) (sym (resolve-all ns i))

numbers-append : (ns : List Text) (q : List Info) (i : Info)
    → queue_numbers ns (q ++ i ∷ []) ≡ queue_numbers ns q ++ numbers_of (resolve (intern_all ns (queue_names q)).names i) ∷ []
unfolding registers looking
numbers-append ns [] i = refl
numbers-append ns (j ∷ q) i =
    ap (λ l. numbers_of (resolve ns j) ∷ l) (numbers-append (resolve ns j).names q i)
    ∙ ap (λ l. numbers_of (resolve ns j) ∷ (queue_numbers (resolve ns j).names q ++ numbers_of (resolve l i) ∷ [])) (sym (queue-front ns j q))

none-queued : (ns : List Text) → Queued ns ns [] []
unfolding registers looking
none-queued ns = record { names = refl; numbers = refl }

module _ {ns held : List Text} {q : List Info} {ks : List Numbers} (e : Queued ns held q ks) where
  counted : (bs : List Text) → (intern_all ns (queue_names q ++ bs)).names ≡ (intern_all held bs).names
  counted bs = ap (λ r. r.names) (all_append ns (queue_names q) bs) ∙ ap (λ l. (intern_all l bs).names) (sym e.names)

  fetched : (i : Info) → Queued ns (resolve held i).names (q ++ i ∷ []) (ks ++ numbers_of (resolve held i) ∷ [])
  fetched i =
      record {
        names = resolve-all held i ∙ sym (counted (i.sources ++ i.writes)) ∙ ap (λ l. (intern_all ns l).names) (sym (queue-append q i));
        numbers =
            ap₂ (λ l n. l ++ numbers_of (resolve n i) ∷ []) e.numbers e.names ∙ sym (numbers-append ns q i);
      }

module _ {ns held : List Text} {i : Info} {q : List Info} {k : Numbers} {ks : List Numbers} (e : Queued ns held (i ∷ q) (k ∷ ks)) where
  held-rest : held ≡ (intern_all (resolve ns i).names (queue_names q)).names
  held-rest = e.names ∙ queue-front ns i q

  front-numbers : numbers_of (resolve ns i) ≡ k
  unfolding queue_numbers
  front-numbers = let p = e.numbers in cc

  rest-numbers : queue_numbers (resolve ns i).names q ≡ ks
  unfolding queue_numbers
  rest-numbers = let p = e.numbers in cc

  look : resolve ns i ≡ with_names k (take (known_after ns (k.read ++ k.written)) held)
  look =
      ap₂ with_names front-numbers
      (sym (all-begins (resolve ns i).names (queue_names q)) ∙ ap (take (length (resolve ns i).names)) (sym held-rest)
      ∙ ap (λ n. take n held) (resolve-length ns i ∙ ap (λ m. known_after ns (m.read ++ m.written)) front-numbers))

  issued : Queued (resolve ns i).names held q ks
  issued = record { names = held-rest; numbers = sym rest-numbers }

  stays : Queued (resolve ns i).names held (i ∷ q) (k ∷ ks)
  unfolding queue_numbers
  stays =
      record {
        names =
            held-rest ∙ ap (λ r. (intern_all r.names (queue_names q)).names) (sym (resolve-again ns i))
            ∙ sym (queue-front (resolve ns i).names i q);
        numbers =
            ap₂ (λ l m. l ∷ m) (sym front-numbers) (sym rest-numbers)
            ∙ ap (λ r. numbers_of r ∷ queue_numbers r.names q) (sym (resolve-again ns i));
      }

pub queue-laws : QueueLaws
queue-laws =
    record {
      empty = none-queued;
      fetched = λ ns held q ks i e. fetched e i;
      counted = λ ns held q ks bs e. counted e bs;
      look = λ ns held i q k ks e. look e;
      stays = λ ns held i q k ks e. stays e;
      issued = λ ns held i q k ks e. issued e;
    }
