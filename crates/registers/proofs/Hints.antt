-- Where the hints of names stand.
use Prim.Native.Nat.{ℕ, zero, suc, ◌+◌, ◌*◌, ◌%◌, ◌≤◌, ◌<◌}
use mathlib.Core.Path.{◌≡◌, refl, sym, ap, ◌∙◌}
use mathlib.Core.List.{List, [], ◌∷◌, ◌++◌}
use native.Mathlib.Omega.{arith}
use native.Mathlib.Nat.{not-suc-le-zero, le_of_suc-le-suc}
use lib.ListN.{length, get_or, set, take, drop, replicate, take-append-drop, length-take, length-drop, length-set}
use lib.Seq.{take-take, take_all}
use Rattle.std.specs.List.{fold}
use Rattle.std.proofs.lemmas.List.{take-append-le, drop_all, drop-append-le, get_or-set_same, get_or-set_other}
use Rattle.std.proofs.lemmas.List.Sums.{fold_more}
use Rattle.laws.specs.Texts.{Text}
use Rattle.op.specs.declared.chars.Chars.{Chars}
use Rattle.op.specs.Chars.{view_text}
use Rattle.op.proofs.Texts.{shown-long, shown-short}
use Rattle.registers.specs.declared.RegisterTable.{RegisterTable}
use Rattle.registers.specs.View.{view_held}
use Rattle.registers.specs.Hints.{bucket_of, hinted, Grown, Last}

-- ── A bucket ──────────────────────────────────────────────────────────────────

abbrev hash : ℕ → ℕ → ℕ
hash h b = (h * 37 + b) % 1024

hash_few : (h : ℕ) (a : Text) → h < 1024 → fold hash h a < 1024
hash_few h [] l = l
hash_few h (b ∷ bs) l = hash_few (hash h b) bs (omega arith)

pub bucket_few : (a : Text) → bucket_of a < 1024
unfolding bucket_of
bucket_few a = hash_few 0 a (omega arith)

pub bucket_more : (a : Text) (i : ℕ) → i < length a → bucket_of (take (i + 1) a) ≡ (bucket_of (take i a) * 37 + get_or a i 0) % 1024
unfolding bucket_of
bucket_more a i h = fold_more hash 0 a i 0 h

zeros : (n : ℕ) → fold hash 0 (replicate n 0) ≡ 0
zeros zero = refl
zeros (suc n) = zeros n

pub bucket_none : bucket_of [] ≡ 0
unfolding bucket_of
bucket_none = refl

module _ (x : Chars 16) where
  -- A name that is too long.
  pub bucket_long : 16 < x.len → bucket_of (view_text x) ≡ 0
  unfolding view_text bucket_of
  bucket_long h = ap (fold hash 0) (shown-long 16 x.len x.bytes h) ∙ zeros x.len

  pub bucket_short : x.len ≤ 16 → {a : List ℕ} → a ≡ take x.len x.bytes → bucket_of a ≡ bucket_of (view_text x)
  unfolding view_text
  bucket_short h e = ap bucket_of (e ∙ sym (shown-short 16 x.len x.bytes h))

-- ── A list of hints ───────────────────────────────────────────────────────────

hinted_append : (n : ℕ) (ns ms : List Text) (hs : List ℕ) → hinted n (ns ++ ms) hs ≡ hinted (n + length ns) ms (hinted n ns hs)
unfolding hinted
hinted_append n [] ms hs = ap (λ m. hinted m ms hs) (omega arith)
hinted_append n (a ∷ ns) ms hs =
    hinted_append (suc n) ns ms (set hs (bucket_of a) n)
    ∙ ap (λ m. hinted m ms (hinted (suc n) ns (set hs (bucket_of a) n))) (omega arith)

pub hinted_other : (b n : ℕ) (ns : List Text) (hs : List ℕ) → ((k : ℕ) → k < length ns → bucket_of (get_or ns k []) ≡ b → ⊥)
    → get_or (hinted n ns hs) b 0 ≡ get_or hs b 0
unfolding hinted
hinted_other b n [] hs none = refl
hinted_other b n (a ∷ ns) hs none =
    hinted_other b (suc n) ns (set hs (bucket_of a) n) (λ k h e. none (suc k) (omega arith) e)
    ∙ get_or-set_other hs (bucket_of a) b n 0 (λ e. none 0 (omega arith) (sym e))

pub hinted_last : (n : ℕ) (ns : List Text) (hs : List ℕ) (k : ℕ) → length hs ≡ 1024 → k < length ns → Last ns k
    → get_or (hinted n ns hs) (bucket_of (get_or ns k [])) 0 ≡ n + k
unfolding hinted
hinted_last n [] hs k size h last = absurd (not-suc-le-zero h)
hinted_last n (a ∷ ns) hs zero size h last =
    hinted_other (bucket_of a) (suc n) ns (set hs (bucket_of a) n) (λ j l e. last (suc j) (omega arith) (omega arith) e)
    ∙ get_or-set_same hs (bucket_of a) n 0 (omega (arith, bucket_few a))
    ∙ omega arith
hinted_last n (a ∷ ns) hs (suc k) size h last =
    hinted_last (suc n) ns (set hs (bucket_of a) n) k (length-set hs (bucket_of a) n ∙ size) (le_of_suc-le-suc h)
    (λ j l m e. last (suc j) (omega arith) (omega arith) e)
    ∙ omega arith

-- ── Tables that grow ──────────────────────────────────────────────────────────

behind_one : (n : ℕ) (ns : List Text) {ms : List Text} (a : Text) → length ns ≡ n → ms ≡ ns ++ a ∷ [] → drop n ms ≡ a ∷ []
behind_one n ns a all e =
    ap (drop n) e ∙ drop-append-le n ns (a ∷ []) (omega (arith, all)) ∙ ap (λ l. l ++ a ∷ []) (drop_all n ns (omega (arith, all)))

module _ {t : RegisterTable} (all : length (view_held t) ≡ t.held) where
  pub grown_none : Grown t t
  unfolding hinted
  grown_none =
      record {
        names = take_all t.held (view_held t) (omega (arith, all));
        hints = ap (λ l. hinted t.held l t.hints) (sym (drop_all t.held (view_held t) (omega (arith, all))));
      }

  pub grown_push : {u : RegisterTable} (a : Text) → view_held u ≡ view_held t ++ a ∷ [] → u.hints ≡ set t.hints (bucket_of a) t.held → Grown t u
  unfolding hinted
  grown_push {u} a names hints =
      record {
        names = ap (take t.held) names ∙ take-append-le t.held (view_held t) (a ∷ []) (omega (arith, all)) ∙ take_all t.held (view_held t) (omega (arith, all));
        hints = hints ∙ ap (λ l. hinted t.held l t.hints) (sym (behind_one t.held (view_held t) a all names));
      }

  pub none_hinted : {u : RegisterTable} → Grown t u → view_held u ≡ view_held t → u.hints ≡ t.hints
  unfolding hinted
  none_hinted {u} g names =
      g.hints ∙ ap (λ l. hinted t.held l t.hints) (ap (drop t.held) names ∙ drop_all t.held (view_held t) (omega (arith, all)))

  pub one_hinted : {u : RegisterTable} (a : Text) → Grown t u → view_held u ≡ view_held t ++ a ∷ [] → u.hints ≡ set t.hints (bucket_of a) t.held
  unfolding hinted
  one_hinted {u} a g names = g.hints ∙ ap (λ l. hinted t.held l t.hints) (behind_one t.held (view_held t) a all names)

  -- Once, and then again.
  pub grown_more : {s u : RegisterTable} → length (view_held s) ≡ s.held → Grown t s → Grown s u → Grown t u
  grown_more {s} {u} size p q =
      record {
        names = sym (take-take t.held s.held (view_held u) within) ∙ ap (take t.held) q.names ∙ p.names;
        hints = q.hints ∙ ap (hinted s.held (drop s.held (view_held u))) p.hints ∙ sym split;
      }
    where
      within : t.held ≤ s.held
      within = omega (arith, all, size, ap length p.names, length-take t.held (view_held s))

      behind : drop t.held (view_held u) ≡ drop t.held (view_held s) ++ drop s.held (view_held u)
      behind =
          ap (drop t.held) (sym (take-append-drop s.held (view_held u)))
          ∙ ap (λ l. drop t.held (l ++ drop s.held (view_held u))) q.names
          ∙ drop-append-le t.held (view_held s) (drop s.held (view_held u)) (omega (arith, size, within))

      split : hinted t.held (drop t.held (view_held u)) t.hints
          ≡ hinted s.held (drop s.held (view_held u)) (hinted t.held (drop t.held (view_held s)) t.hints)
      split =
          ap (λ l. hinted t.held l t.hints) behind
          ∙ hinted_append t.held (drop t.held (view_held s)) (drop s.held (view_held u)) t.hints
          ∙ ap (λ n. hinted n (drop s.held (view_held u)) (hinted t.held (drop t.held (view_held s)) t.hints))
          (omega (arith, size, within, length-drop t.held (view_held s)))
