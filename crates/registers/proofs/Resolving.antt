-- An operation that is neither bad nor too long, and what resolving it hands back.
use Rattle.op.specs.declared.chars.Chars.{Chars}
use Prim.Native.Nat.{ℕ, ◌≤◌, ◌<◌}
use mathlib.Core.Path.{◌≡◌, refl, sym, subst, ap, ◌∙◌}
use mathlib.Core.Bool.{Bool, false, not, ◌||◌}
use mathlib.Core.List.{List, [], ◌∷◌, ◌++◌, map}
use native.Mathlib.Omega.{arith}
use lib.Dec.{ltb}
use lib.ListN.{length, take, length-map}
use lib.Seq.{length-take-le}
use Rattle.std.proofs.lemmas.List.{take-map}
use borrow.Author.Tests.{lt-ltb, le-ltb, ltb-true, ltb-false, not-false}
use Rattle.laws.specs.Optional.{when_some}
use Rattle.laws.specs.Lists.{All}
use Rattle.std.specs.List.{list_any}
use Rattle.laws.specs.Texts.{Text}
use Rattle.laws.proofs.Tests.{or-neither, not_yes, not-no}
use Rattle.laws.proofs.Choices.{none-some, some_inj}
use Rattle.std.specs.Prelude.{None, Some}
use Rattle.model.specs.Op.{Info}
use Rattle.model.specs.Registers.{numbered, intern_all, operands, resolve, registers}
use Rattle.model.specs.Calls.{bad_text, bad_info, too_many, bad_byte}
use Rattle.op.specs.declared.PipelineOp.{PipelineOp}
use Rattle.op.specs.View.{listed, view_op}
use Rattle.op.specs.Chars.{view_text}
use Rattle.op.proofs.Names.{listed-length, listed-within, listed-first}
use Rattle.registers.specs.declared.RegisterTable.{RegisterTable}
use Rattle.registers.specs.declared.Operands.{Operands}
use Rattle.registers.specs.View.{view_known, view_held, Short, TableOk, read, written, OperandsOk}
use Rattle.registers.specs.Hints.{Grown}
use Rattle.registers.specs.Promises.{Lists, FoundTo, NumberedTo, ResolvedTo}
use Rattle.registers.proofs.Interning.{all_append, all-grows}
use Rattle.registers.proofs.Hints.{grown_none, grown_more}
use Rattle.registers.proofs.NameTable.{held-length, table-most}

-- ── The operation ─────────────────────────────────────────────────────────────

short-names : (l : List Text) → list_any (bad_text 16) l ≡ false → All Short l
unfolding bad_text
short-names [] e = tt
short-names (x ∷ xs) e =
    let p = or-neither (bad_text 16 x) (list_any (bad_text 16) xs) e in
    (ltb-false 16 (length x) (or-neither (ltb 16 (length x)) (list_any bad_byte x) p.0).0, short-names xs p.1)

last-two : (a d e : Bool) → (a || d || e) ≡ false → (d ≡ false) × (e ≡ false)
last-two a d e h =
    let p = or-neither (a || d) e h in
    ((or-neither a d p.0).1, p.1)

-- The list of an operation, of its reads or of its writes.
fits-list : (most n : ℕ) (l : List (Chars 16)) → length l ≡ most → ltb most (length (listed most n (map view_text l))) ≡ false
    → list_any (bad_text 16) (take most (listed most n (map view_text l))) ≡ false
    → {names : List (Chars 16)} → names ≡ take n l → Lists most n (listed most n (map view_text l)) names
fits-list most n l all few fine e =
    subst (Lists most n (listed most n (map view_text l))) (sym e)
    (record {
      few = room;
      count = length-take-le n l (omega (arith, all, room));
      short = short-names (map view_text (take n l)) (rw (listed-first view_text most n l all, take-map) at fine);
      is = sym (listed-within view_text most n l all room ∙ take-map view_text n l);
    })
  where
    room : n ≤ most
    room = omega (arith, ltb-false most (length (listed most n (map view_text l))) few, listed-length view_text most n l all)

module _ (op : PipelineOp) (fine : bad_info (view_op op).info ≡ false) (few : too_many (view_op op).info ≡ false) where
  counts-fine : (ltb 8 (length (view_op op).info.sources) ≡ false) × (ltb 4 (length (view_op op).info.writes) ≡ false)
  unfolding too_many
  counts-fine = or-neither _ _ few

  names-fine : (list_any (bad_text 16) (take 8 (view_op op).info.sources) ≡ false) × (list_any (bad_text 16) (take 4 (view_op op).info.writes) ≡ false)
  unfolding bad_info
  names-fine =
      let i = (view_op op).info in
      last-two (bad_text 64 i.disassembly || when_some i.fault false (bad_text 64) || when_some i.destination false (bad_text 16)) _ _ fine

  pub sources-listed : length op.sources ≡ 8 → {names : List (Chars 16)} → names ≡ take op.sources_len op.sources
      → Lists 8 op.sources_len (view_op op).info.sources names
  unfolding view_op
  sources-listed all = fits-list 8 op.sources_len op.sources all counts-fine.0 names-fine.0

  pub writes-listed : length op.writes ≡ 4 → {names : List (Chars 16)} → names ≡ take op.writes_len op.writes
      → Lists 4 op.writes_len (view_op op).info.writes names
  unfolding view_op
  writes-listed all = fits-list 4 op.writes_len op.writes all counts-fine.1 names-fine.1

-- ── What comes back ───────────────────────────────────────────────────────────

-- Too many with the reads, or with the writes after them.
over_reads : (ns bs cs : List Text) → 256 < length (intern_all ns bs).names → 256 < length (intern_all ns (bs ++ cs)).names
over_reads ns bs cs h = omega (arith, all-grows (intern_all ns bs).names cs, ap (λ r. length r.names) (all_append ns bs cs))

-- So many names do not fit.
over : (ns bs : List Text) {b : Bool} → b ≡ not (ltb 256 (length (intern_all ns bs).names)) → b ≡ false → 256 < length (intern_all ns bs).names
over ns bs e f = ltb-true 256 (length (intern_all ns bs).names) (not-false _ (sym e ∙ f))

module _ {t : RegisterTable} (i : Info) where
  -- ns are the names between reads and writes, u the table after both.
  pub resolved-all : {u : RegisterTable} {ns : List Text} (x : Operands) → numbered (read x) ns ≡ intern_all (view_held t) i.sources
      → numbered (written x) (view_held u) ≡ intern_all ns i.writes
      → view_known u ≡ view_known t
      → Grown t u
      → TableOk u
      → OperandsOk x
      → ResolvedTo t i u (Some x)
  unfolding registers
  resolved-all {u} {ns} x p q known grown ok fine =
      record {
        fits = sym (not_yes (le-ltb 256 _ (table-most ok _ names)));
        same = λ e. absurd (none-some x (sym e));
        is = λ y e. subst (λ z. operands (read z) (written z) (view_held u) ≡ resolve (view_held t) i) (some_inj x y e) whole;
        known = known;
        grown = grown;
        ok = ok;
        numbers = fine;
      }
    where
      whole : operands (read x) (written x) (view_held u) ≡ resolve (view_held t) i
      whole =
          ap (λ m. operands (read x) m.numbers m.names) q
          ∙ ap (λ m. operands m.numbers (intern_all m.names i.writes).numbers (intern_all m.names i.writes).names) p

      names : view_held u ≡ (intern_all (view_held t) (i.sources ++ i.writes)).names
      names = ap (λ m. m.names) whole ∙ sym (ap (λ m. m.names) (all_append (view_held t) i.sources i.writes))

  resolved-none : 256 < length (intern_all (view_held t) (i.sources ++ i.writes)).names → TableOk t → ResolvedTo t i t None
  resolved-none h ok =
      record {
        fits = sym (not-no (lt-ltb 256 _ h));
        same = λ e. refl;
        is = λ x e. absurd (none-some x e);
        known = refl;
        grown = grown_none (held-length ok);
        ok = ok;
        numbers = tt;
      }

-- By the lists of names that an operation reads and writes.
module _ {t : RegisterTable} (i : Info) (ok : TableOk t) {n m : ℕ} {reads writes : List (Chars 16)} (p : Lists 8 n i.sources reads) (q : Lists 4 m i.writes writes) where
  -- What a table numbered stands in arrays.
  abbrev operands-in : List ℕ → List ℕ → Operands
  operands-in rs ws = record { sources = rs; destinations = ws; sources_len = n; destinations_len = m }

  operands-ok : (rs ws : List ℕ) → length rs ≡ 8 → length ws ≡ 4 → OperandsOk (operands-in rs ws)
  operands-ok rs ws a b = record { sources = p.few; sources_size = a; destinations = q.few; destinations_size = b }

  -- The first numbers are those of the list.
  first-numbers : {most k : ℕ} {list : List Text} {names : List (Chars 16)} (l : Lists most k list names) (ks : List ℕ) {ns : List Text} (ms : List Text)
      → numbered (take (length (map view_text names)) ks) ns ≡ intern_all ms (map view_text names) → numbered (take k ks) ns ≡ intern_all ms list
  first-numbers {names = names} l ks {ns} ms e =
      ap (λ j. numbered (take j ks) ns) (sym (length-map names view_text ∙ l.count)) ∙ e ∙ ap (intern_all ms) l.is

  -- All are held.
  pub all-found : {rs ws : List ℕ} → FoundTo t 8 (map view_text reads) (Some rs) → FoundTo t 4 (map view_text writes) (Some ws)
      → ResolvedTo t i t (Some (operands-in rs ws))
  all-found {rs} {ws} a b =
      resolved-all i {u = t} {ns = view_held t} (operands-in rs ws) (first-numbers p rs (view_held t) (a.is rs refl))
      (first-numbers q ws (view_held t) (b.is ws refl)) refl (grown_none (held-length ok)) ok (operands-ok rs ws a.size b.size)

  -- No room for the reads.
  pub no-reads : {u : RegisterTable} → NumberedTo t 8 (map view_text reads) u None → ResolvedTo t i t None
  no-reads e = resolved-none i (over_reads (view_held t) i.sources i.writes (rw p.is at (over (view_held t) (map view_text reads) e.fits refl))) ok

  module _ {u v : RegisterTable} {rs : List ℕ} (e : NumberedTo t 8 (map view_text reads) u (Some rs)) where
    -- No room for the writes.
    pub no-writes : NumberedTo u 4 (map view_text writes) v None → ResolvedTo t i t None
    no-writes f =
        resolved-none i
        (rw (all_append (view_held t) i.sources i.writes)
        (rw (ap (λ r. r.names) (first-numbers p rs (view_held t) (e.is rs refl)), q.is) at (over (view_held u) (map view_text writes) f.fits refl)))
        ok

    pub all-numbered : {ws : List ℕ} → NumberedTo u 4 (map view_text writes) v (Some ws) → ResolvedTo t i v (Some (operands-in rs ws))
    all-numbered {ws} f =
        resolved-all i (operands-in rs ws) (first-numbers p rs (view_held t) (e.is rs refl)) (first-numbers q ws (view_held u) (f.is ws refl))
        (f.known ∙ e.known) (grown_more (held-length ok) (held-length e.ok) e.grown f.grown) f.ok (operands-ok rs ws e.size f.size)
