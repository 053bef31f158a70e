-- What the arrays hold of a line stands for it, and what stands for an operation is fetched alike.
use Prim.Native.Nat.{ℕ, zero, suc, ◌≤◌, ◌<◌}
use mathlib.Core.Path.{◌≡◌, refl, sym, ap, ap₂, subst, ◌∙◌}
use mathlib.Core.Logic.{⊎_elim}
use mathlib.Core.Bool.{Bool, true, false, cond, not, ◌||◌}
use Rattle.std.specs.Prelude.{Option, None, Some}
use mathlib.Core.List.{List, [], ◌∷◌, ◌++◌, map, append_assoc, append-nil}
use native.Mathlib.Omega.{arith}
use lib.Dec.{eqb, ltb, lit<}
use lib.ListN.{length, take, length-map}
use lib.Seq.{take_all}
use borrow.Author.Tests.{ltb-false}
use Rattle.std.specs.List.{list_any}
use Rattle.laws.specs.Numbers.{max64}
use Rattle.laws.specs.Texts.{Text}
use Rattle.laws.proofs.Tests.{true-or-false, or-neither}
use Rattle.model.specs.Op.{Given, given, decoded, info_of}
use Rattle.model.specs.State.{State}
use Rattle.model.specs.Calls.{fetch, first_of, bad_text, bad_info, too_many, names_with, short_memory, checks, refusal}
use Rattle.model.specs.Forecast.{Line, branches, line_given}
use Rattle.op.specs.declared.PipelineOp.{PipelineOp}
use Rattle.op.specs.View.{view_op}
use Rattle.op.specs.Build.{pushed, Alike, with_operands, with_write, with_source}
use Rattle.op.proofs.Texts.{shown-whole, bad-whole}
use Rattle.op.proofs.Alike.{alike-none, alike_same, alike-push, alike-bad, alike-many}
use Rattle.lines.specs.Held.{kept, plain, with_name, with_names, held}
use Rattle.lines.specs.Lines.{Stands, FetchedAlike}

-- ── A text, and a name after another ──────────────────────────────────────────

module _ (most : ℕ) (h : most < 255) where
  kept-bad : (t : Text) → bad_text most (kept most t) ≡ bad_text most t
  unfolding kept
  kept-bad t = bad-whole most t h

  kept_same : (t : Text) → bad_text most t ≡ false → kept most t ≡ t
  unfolding kept bad_text
  kept_same t e = shown-whole most t h (ltb-false most (length t) (or-neither _ _ e).0)

names-bad : (n : ℕ) (ns : List Text) → list_any (bad_text 16) (take n (map (kept 16) ns)) ≡ list_any (bad_text 16) (take n ns)
names-bad zero ns = refl
names-bad (suc n) [] = refl
names-bad (suc n) (x ∷ ns) = ap₂ ◌||◌ (kept-bad 16 (lit< tt) x) (names-bad n ns)

names_same : (ns : List Text) → list_any (bad_text 16) ns ≡ false → map (kept 16) ns ≡ ns
names_same [] e = refl
names_same (x ∷ ns) e =
    let k = or-neither (bad_text 16 x) (list_any (bad_text 16) ns) e in
    ap₂ ◌∷◌ (kept_same 16 (lit< tt) x k.0) (names_same ns k.1)

-- All names, pushed one after the other.
pushes : ℕ → List Text → List Text → List Text
pushes most [] l = l
pushes most (n ∷ ns) l = pushes most ns (pushed most (kept 16 n) l)

pushes-alike : (most : ℕ) → most < 255 → (ns : List Text) {l m : List Text} → Alike most l m → Alike most (pushes most ns l) (m ++ map (kept 16) ns)
unfolding pushes
pushes-alike most h [] {l} {m} e = subst (Alike most l) (sym (append-nil m)) e
pushes-alike most h (n ∷ ns) {l} {m} e =
    subst (Alike most (pushes most ns (pushed most (kept 16 n) l))) (append_assoc m (kept 16 n ∷ []) (map (kept 16) ns))
    (pushes-alike most h ns (alike-push e (kept 16 n) h))

-- Within the limits an array holds all of the names.
list_same : (most : ℕ) (ns : List Text) {k : List Text} → Alike most k (map (kept 16) ns) → ltb most (length ns) ≡ false
    → list_any (bad_text 16) (take most ns) ≡ false → k ≡ ns
list_same most ns e m b =
    let h : length ns ≤ most = ltb-false most (length ns) m in
    alike_same e (simp length-map h) ∙ names_same ns (sym (ap (list_any (bad_text 16)) (take_all most ns h)) ∙ b)

-- ── What the arrays hold ──────────────────────────────────────────────────────

all_read : (ns : List Text) (g : Given) → with_names false ns g ≡ with_operands g.info.destination (pushes 8 ns g.info.sources) g.info.writes g
unfolding with_names with_name with_source pushes
all_read [] g = refl
all_read (n ∷ ns) g = all_read ns (with_name false n g)

all-written : (ns : List Text) (g : Given) → with_names true ns g ≡ with_operands g.info.destination g.info.sources (pushes 4 ns g.info.writes) g
unfolding with_names with_name with_write pushes
all-written [] g = refl
all-written (n ∷ ns) g = all-written ns (with_name true n g)

module _ (l : Line) (a : ℕ) where
  sources : List Text
  sources = pushes 8 l.reads []

  writes : List Text
  writes = pushes 4 l.writes []

  arrays : Given
  arrays = given (decoded a l.size l.class (branches l.class) false) (info_of (kept 64 l.text) None None sources writes 0)

  held-arrays : held a l ≡ arrays
  unfolding held plain arrays sources writes
  held-arrays =
      all-written l.writes _
      ∙ ap (λ g. with_operands g.info.destination g.info.sources (pushes 4 l.writes g.info.writes) g) (all_read l.reads _)

  sources-alike : Alike 8 sources (map (kept 16) l.reads)
  unfolding sources
  sources-alike = pushes-alike 8 (lit< tt) l.reads (alike-none 8)

  writes-alike : Alike 4 writes (map (kept 16) l.writes)
  unfolding writes
  writes-alike = pushes-alike 4 (lit< tt) l.writes (alike-none 4)

  arrays-bad : bad_info arrays.info ≡ bad_info (line_given l a).info
  unfolding arrays bad_info line_given
  arrays-bad =
      alike-bad (kept 64 l.text) None None 0 sources-alike writes-alike
      ∙ ap₂ (λ b c. b || false || false || c || list_any (bad_text 16) (take 4 (map (kept 16) l.writes))) (kept-bad 64 (lit< tt) l.text) (names-bad 8 l.reads)
      ∙ ap (λ c. bad_text 64 l.text || false || false || list_any (bad_text 16) (take 8 l.reads) || c) (names-bad 4 l.writes)

  arrays-many : too_many arrays.info ≡ too_many (line_given l a).info
  unfolding arrays too_many line_given
  arrays-many =
      alike-many (kept 64 l.text) None None 0 sources-alike writes-alike
      ∙ ap₂ (λ m n. ltb 8 m || ltb 4 n) (length-map l.reads (kept 16)) (length-map l.writes (kept 16))

  arrays-same : bad_info (line_given l a).info ≡ false → too_many (line_given l a).info ≡ false → arrays ≡ line_given l a
  unfolding arrays bad_info too_many line_given
  arrays-same b m =
      let x = or-neither (bad_text 64 l.text || false || false || list_any (bad_text 16) (take 8 l.reads)) _ b in
      let y = or-neither (bad_text 64 l.text || false || false) _ x.0 in
      let z = or-neither (bad_text 64 l.text) false (or-neither (bad_text 64 l.text || false) false y.0).0 in
      let n = or-neither (ltb 8 (length l.reads)) (ltb 4 (length l.writes)) m in
      ap₂ (λ t r. given (decoded a l.size l.class (branches l.class) false) (info_of t None None r writes 0))
      (kept_same 64 (lit< tt) l.text z.0) (list_same 8 l.reads sources-alike n.0 y.1)
      ∙ ap (λ w. given (decoded a l.size l.class (branches l.class) false) (info_of l.text None None l.reads w 0))
      (list_same 4 l.writes writes-alike n.1 x.1)

  pub held-stands : (o : PipelineOp) → view_op o ≡ held a l → Stands (line_given l a) o
  held-stands o e =
      let q : view_op o ≡ arrays = e ∙ held-arrays in
      record {
        bad = ap (λ g. bad_info g.info) q ∙ arrays-bad;
        many = ap (λ g. too_many g.info) q ∙ arrays-many;
        same = λ b m. q ∙ arrays-same b m;
      }

-- ── A fetch ───────────────────────────────────────────────────────────────────

-- The first four checks of a fetch, and what comes of the others.
unfoldable four : Bool → Bool → Bool → Bool → Option ℕ → Option ℕ
four p q b m rest = cond p (Some 4) (cond q (Some 8) (cond b (Some 2) (cond m (Some 9) rest)))

four-refused : (p q b m : Bool) (x y : Option ℕ) → (b || m) ≡ true → four p q b m x ≡ four p q b m y
unfolding four
four-refused p q true m x y e = refl
four-refused p q false true x y e = refl
four-refused p q false false x y e = absurd (let z : ◌≡◌ {A = ℕ} 0 1 = cc in omega arith)

four-passed : (p q b m : Bool) (x : Option ℕ) → four p q b m x ≡ None → (b ≡ false) × (m ≡ false)
unfolding four
four-passed true q b m x e = absurd (let z : ◌≡◌ {A = ℕ} 0 1 = cc in omega arith)
four-passed false true b m x e = absurd (let z : ◌≡◌ {A = ℕ} 0 1 = cc in omega arith)
four-passed false false true m x e = absurd (let z : ◌≡◌ {A = ℕ} 0 1 = cc in omega arith)
four-passed false false false true x e = absurd (let z : ◌≡◌ {A = ℕ} 0 1 = cc in omega arith)
four-passed false false false false x e = (refl, refl)

module _ (s : State) (lent : ℕ) where
  -- The checks after those of the texts and the operands.
  others : Given → Option ℕ
  others g =
      first_of ((11, eqb s.front.next_seq max64) ∷ (10, ltb 256 (names_with s g.info)) ∷ (13, short_memory s lent) ∷ [])

  fetch-four : (g : Given)
      → refusal s (fetch g lent) ≡ four s.front.in_cycle (not s.front.invited) (bad_info g.info) (too_many g.info) (others g)
  unfolding refusal checks first_of four others
  fetch-four g = refl

  pub fetched-alike : (g : Given) (o : PipelineOp) → Stands g o → FetchedAlike s lent g o
  fetched-alike g o e =
      record {
        refused =
            ⊎_elim
            (λ h.
            fetch-four (view_op o)
            ∙ ap₂ (λ b m. four s.front.in_cycle (not s.front.invited) b m (others (view_op o))) e.bad e.many
            ∙ four-refused s.front.in_cycle (not s.front.invited) (bad_info g.info) (too_many g.info) (others (view_op o)) (others g) h
            ∙ sym (fetch-four g))
            (λ h.
            let k = or-neither (bad_info g.info) (too_many g.info) h in
            ap (λ u. refusal s (fetch u lent)) (e.same k.0 k.1))
            (true-or-false (bad_info g.info || too_many g.info));
        taken = λ h.
            let k = four-passed s.front.in_cycle (not s.front.invited) (bad_info g.info) (too_many g.info) (others g) (sym (fetch-four g) ∙ h) in
            e.same k.0 k.1;
      }
