-- The register tables: claims, releases, waits, and the names of a look.
use Prim.Native.Nat.{ℕ, zero, suc, ◌≤◌, ◌<◌}
use native.Mathlib.Omega.{arith}
use mathlib.Core.Path.{◌≡◌, refl, sym, ◌∙◌, ap, subst}
use mathlib.Core.Bool.{Bool, true, false, cond, true≢false}
use Rattle.std.specs.Prelude.{Option, None, Some, slice_get, is_some}
use mathlib.Core.List.{List, [], ◌∷◌, ◌++◌}
use mathlib.Core.Logic.{◌⊎◌, inl, inr}
use lib.Dec.{eqb}
use lib.ListN.{length}
use borrow.Author.Tests.{eqb-false, ne_eqb}
use Rattle.laws.specs.Lists.{All2, modify, more2, none2, All}
use Rattle.laws.specs.Optional.{value_or, when_some}
use Rattle.laws.specs.Texts.{Text}
use Rattle.laws.proofs.Choices.{none-some, some_inj}
use Rattle.model.specs.Issue.{issuing, taken, waits_on}
use Rattle.model.specs.Registers.{claim, claim_all, pad, producer_of, registers, release, release_all, release_held}
use Rattle.runs.proofs.Names.{At}
use Rattle.invariant.specs.Invariant.{In}
use Rattle.invariant.proofs.Lists.{in_left, in_right, in-append, nth-other, nth-short, length-modify}

-- ── Claims ──────────────────────────────────────────────────────────────────

claim-same : (i : ℕ) (ps : List (Option ℕ)) (r : ℕ) → r < length ps → producer_of (claim i ps r) r ≡ Some i
unfolding registers modify
claim-same i [] r h = absurd (omega arith)
claim-same i (p ∷ ps) zero h = refl
claim-same i (p ∷ ps) (suc r) h = claim-same i ps r (omega arith)

claim-other : (i : ℕ) (ps : List (Option ℕ)) (r x : ℕ) → (x ≡ r → ⊥) → producer_of (claim i ps r) x ≡ producer_of ps x
unfolding registers
claim-other i ps r x n = ap (value_or None) (nth-other (λ (old : Option ℕ). Some i) ps r x n)

claim-keeps : (i : ℕ) (ps : List (Option ℕ)) (r x : ℕ) → producer_of ps x ≡ Some i → producer_of (claim i ps r) x ≡ Some i
unfolding registers modify
claim-keeps i [] r x h = h
claim-keeps i (p ∷ ps) zero zero h = refl
claim-keeps i (p ∷ ps) zero (suc x) h = h
claim-keeps i (p ∷ ps) (suc r) zero h = h
claim-keeps i (p ∷ ps) (suc r) (suc x) h = claim-keeps i ps r x h

claims-keep : (i : ℕ) (ws : List ℕ) (ps : List (Option ℕ)) (x : ℕ) → producer_of ps x ≡ Some i → producer_of (claim_all i ps ws) x ≡ Some i
unfolding registers
claims-keep i [] ps x h = h
claims-keep i (w ∷ ws) ps x h = claims-keep i ws (claim i ps w) x (claim-keeps i ps w x h)

pub claims-in
    : (i : ℕ) (ws : List ℕ) (ps : List (Option ℕ)) → ((r : ℕ) → In r ws → r < length ps) → (x : ℕ) → In x ws
    → producer_of (claim_all i ps ws) x ≡ Some i
unfolding registers
claims-in i [] ps a x h = absurd h
claims-in i (w ∷ ws) ps a x (inl e) =
    claims-keep i ws (claim i ps w) x (subst (λ (z : ℕ). producer_of (claim i ps w) z ≡ Some i) (sym e) (claim-same i ps w (a w (inl refl))))
claims-in i (w ∷ ws) ps a x (inr h) =
    claims-in i ws (claim i ps w) (λ r k. rw (length-modify (λ (old : Option ℕ). Some i) w ps) (a r (inr k))) x h

pub claims-out : (i : ℕ) (ws : List ℕ) (ps : List (Option ℕ)) (x : ℕ) → (In x ws → ⊥) → producer_of (claim_all i ps ws) x ≡ producer_of ps x
unfolding registers
claims-out i [] ps x n = refl
claims-out i (w ∷ ws) ps x n =
    claims-out i ws (claim i ps w) x (λ k. n (inr k)) ∙ claim-other i ps w x (λ e. n (inl e))

-- ── Releases ────────────────────────────────────────────────────────────────

abbrev freed : ℕ → Option ℕ → Option ℕ
freed i old = when_some old None (λ u. cond (eqb u i) None (Some u))

freed-owed : (i : ℕ) (p : Option ℕ) (k : ℕ) → p ≡ Some k → (k ≡ i → ⊥) → freed i p ≡ Some k
freed-owed i p k h n = ap (freed i) h ∙ ap (λ (b : Bool). cond b None (Some k)) (ne_eqb k i n)

freed-owes : (i : ℕ) (p : Option ℕ) (k : ℕ) → freed i p ≡ Some k → (k ≡ i → ⊥) × (p ≡ Some k)
freed-owes i None k h = none-some k h
freed-owes i (Some u) k h = go (eqb u i) refl h
  where
    go : (b : Bool) → eqb u i ≡ b → cond b None (Some u) ≡ Some k → (k ≡ i → ⊥) × (Some u ≡ Some k)
    go true e r = none-some k r
    go false e r = ((λ q. eqb-false u i e (some_inj u k r ∙ q)), r)

release-owed
    : (i : ℕ) (ps : List (Option ℕ)) (d r k : ℕ) → producer_of ps r ≡ Some k → (k ≡ i → ⊥) → producer_of (release i ps d) r ≡ Some k
unfolding registers modify
release-owed i [] d r k h n = h
release-owed i (p ∷ ps) zero zero k h n = freed-owed i p k h n
release-owed i (p ∷ ps) zero (suc r) k h n = h
release-owed i (p ∷ ps) (suc d) zero k h n = h
release-owed i (p ∷ ps) (suc d) (suc r) k h n = release-owed i ps d r k h n

release-owes : (i : ℕ) (ps : List (Option ℕ)) (d r k : ℕ) → producer_of (release i ps d) r ≡ Some k → producer_of ps r ≡ Some k
unfolding registers modify
release-owes i [] d r k h = h
release-owes i (p ∷ ps) zero zero k h = (freed-owes i p k h).1
release-owes i (p ∷ ps) zero (suc r) k h = h
release-owes i (p ∷ ps) (suc d) zero k h = h
release-owes i (p ∷ ps) (suc d) (suc r) k h = release-owes i ps d r k h

release-gone : (i : ℕ) (ps : List (Option ℕ)) (r k : ℕ) → producer_of (release i ps r) r ≡ Some k → k ≡ i → ⊥
unfolding registers modify
release-gone i [] r k h = none-some k h
release-gone i (p ∷ ps) zero k h = (freed-owes i p k h).0
release-gone i (p ∷ ps) (suc r) k h = release-gone i ps r k h

pub releases-owed
    : (i : ℕ) (ds : List ℕ) (ps : List (Option ℕ)) (r k : ℕ) → producer_of ps r ≡ Some k → (k ≡ i → ⊥)
    → producer_of (release_all i ps ds) r ≡ Some k
unfolding registers
releases-owed i [] ps r k h n = h
releases-owed i (d ∷ ds) ps r k h n = releases-owed i ds (release i ps d) r k (release-owed i ps d r k h n) n

pub releases-owes
    : (i : ℕ) (ds : List ℕ) (ps : List (Option ℕ)) (r k : ℕ) → producer_of (release_all i ps ds) r ≡ Some k
    → producer_of ps r ≡ Some k
unfolding registers
releases-owes i [] ps r k h = h
releases-owes i (d ∷ ds) ps r k h = release-owes i ps d r k (releases-owes i ds (release i ps d) r k h)

pub releases-gone
    : (i : ℕ) (ds : List ℕ) (ps : List (Option ℕ)) (r k : ℕ) → In r ds → producer_of (release_all i ps ds) r ≡ Some k → k ≡ i → ⊥
unfolding registers
releases-gone i [] ps r k n h = absurd n
releases-gone i (d ∷ ds) ps r k (inl e) h =
    release-gone i ps r k
    (subst (λ (z : ℕ). producer_of (release i ps z) r ≡ Some k) (sym e) (releases-owes i ds (release i ps d) r k h))
releases-gone i (d ∷ ds) ps r k (inr n) h = releases-gone i ds (release i ps d) r k n h

-- ── Waits ───────────────────────────────────────────────────────────────────

pub in-waits : (ps : List (Option ℕ)) (rs : List ℕ) (r k : ℕ) → In (r, k) (waits_on ps rs) → In r rs × (producer_of ps r ≡ Some k)
unfolding issuing
in-waits ps [] r k h = absurd h
in-waits ps (x ∷ xs) r k h =
    go (in-waits ps xs r k) (producer_of ps x) refl
    (in-append (r, k) (when_some (producer_of ps x) [] (λ (u : ℕ). (x, u) ∷ [])) (waits_on ps xs) h)
  where
    go
        : (In (r, k) (waits_on ps xs) → In r xs × (producer_of ps r ≡ Some k)) → (o : Option ℕ) → producer_of ps x ≡ o
        → In {A = ℕ × ℕ} (r, k) (when_some o [] (λ (u : ℕ). (x, u) ∷ [])) ⊎ In (r, k) (waits_on ps xs)
        → In r (x ∷ xs) × (producer_of ps r ≡ Some k)
    go ih None e (inl q) = absurd q
    go ih (Some u) e (inl (inl q)) =
        let rx : r ≡ x = ap (λ (z : ℕ × ℕ). z.0) q in
        let ku : k ≡ u = ap (λ (z : ℕ × ℕ). z.1) q in
        (inl rx, ap (producer_of ps) rx ∙ e ∙ ap (λ (z : ℕ). Some z) (sym ku))
    go ih (Some u) e (inl (inr q)) = absurd q
    go ih None e (inr q) = let w = ih q in (inr w.0, w.1)
    go ih (Some u) e (inr q) = let w = ih q in (inr w.0, w.1)

pub waits_in : (ps : List (Option ℕ)) (rs : List ℕ) (r k : ℕ) → In r rs → producer_of ps r ≡ Some k → In (r, k) (waits_on ps rs)
unfolding issuing
waits_in ps [] r k n h = absurd n
waits_in ps (x ∷ xs) r k (inl e) h =
    in_left (r, k) (when_some (producer_of ps x) [] (λ (u : ℕ). (x, u) ∷ [])) (waits_on ps xs)
    (subst (λ (o : Option ℕ). In {A = ℕ × ℕ} (r, k) (when_some o [] (λ (u : ℕ). (x, u) ∷ []))) (sym h ∙ ap (producer_of ps) e)
    (inl (ap (λ (z : ℕ). (z, k)) e)))
waits_in ps (x ∷ xs) r k (inr n) h =
    in_right (r, k) (when_some (producer_of ps x) [] (λ (u : ℕ). (x, u) ∷ [])) (waits_on ps xs) (waits_in ps xs r k n h)

-- ── Names ───────────────────────────────────────────────────────────────────

pub pad-same : (ps : List (Option ℕ)) (ns : List Text) (r : ℕ) → producer_of (pad ps ns) r ≡ producer_of ps r
unfolding registers
pad-same ps [] r = refl
pad-same [] (n ∷ ns) zero = refl
pad-same [] (n ∷ ns) (suc r) = pad-same [] ns r
pad-same (p ∷ ps) (n ∷ ns) zero = refl
pad-same (p ∷ ps) (n ∷ ns) (suc r) = pad-same ps ns r

pub pad-long : (ps : List (Option ℕ)) (ns : List Text) → length ns ≤ length (pad ps ns)
unfolding registers
pad-long ps [] = omega arith
pad-long [] (n ∷ ns) = let h = pad-long [] ns in omega arith
pad-long (p ∷ ps) (n ∷ ns) = let h = pad-long ps ns in omega arith

is-none-of : (o : Option ℕ) → is_some o ≡ false → o ≡ None
is-none-of None h = refl
is-none-of (Some x) h = absurd (true≢false h)

pub taken_none : (ps : List (Option ℕ)) (ws : List ℕ) → taken ps ws ≡ None → (r : ℕ) → In r ws → producer_of ps r ≡ None
unfolding issuing
taken_none ps [] h r n = absurd n
taken_none ps (w ∷ ws) h r n = go (taken_none ps ws) (is_some (producer_of ps w)) refl h n
  where
    go
        : (taken ps ws ≡ None → (r : ℕ) → In r ws → producer_of ps r ≡ None) → (b : Bool) → is_some (producer_of ps w) ≡ b
        → cond b (Some w) (taken ps ws) ≡ None → In r (w ∷ ws) → producer_of ps r ≡ None
    go ih true e t m = none-some w (sym t)
    go ih false e t (inl q) = ap (producer_of ps) q ∙ is-none-of (producer_of ps w) e
    go ih false e t (inr q) = ih t r q

pub taken-some : (ps : List (Option ℕ)) (ws : List ℕ) (r : ℕ) → taken ps ws ≡ Some r → In r ws × (is_some (producer_of ps r) ≡ true)
unfolding issuing
taken-some ps [] r h = none-some r h
taken-some ps (w ∷ ws) r h = go (taken-some ps ws r) (is_some (producer_of ps w)) refl h
  where
    go
        : (taken ps ws ≡ Some r → In r ws × (is_some (producer_of ps r) ≡ true)) → (b : Bool) → is_some (producer_of ps w) ≡ b
        → cond b (Some w) (taken ps ws) ≡ Some r → In r (w ∷ ws) × (is_some (producer_of ps r) ≡ true)
    go ih true e t =
        let q : w ≡ r = some_inj w r t in
        (inl (sym q), subst (λ (z : ℕ). is_some (producer_of ps z) ≡ true) q e)
    go ih false e t = let x = ih t in (inr x.0, x.1)

pub at_length : (ns bs : List Text) (ks : List ℕ) → All2 (At ns) bs ks → length ks ≡ length bs
at_length ns bs ks none2 = refl
at_length ns bs ks (more2 {a = b} {b = x} {as' = bs'} {bs = ks'} q qs) = ap suc (at_length ns bs' ks' qs)

pub at-known : (ns bs : List Text) (ks : List ℕ) → All2 (At ns) bs ks → All (λ (k : ℕ). k < length ns) ks
at-known ns bs ks none2 = tt
at-known ns bs ks (more2 {a = b} {b = x} {as' = bs'} {bs = ks'} q qs) = (nth-short ns x b q, at-known ns bs' ks' qs)

-- ── Lengths ─────────────────────────────────────────────────────────────────

pub pad-length : (ps : List (Option ℕ)) (ns : List Text) → length ps ≤ length ns → length (pad ps ns) ≡ length ns
unfolding registers
pad-length [] [] h = refl
pad-length (p ∷ ps) [] h = absurd (omega arith)
pad-length [] (n ∷ ns) h = ap suc (pad-length [] ns (omega arith))
pad-length (p ∷ ps) (n ∷ ns) h = ap suc (pad-length ps ns (omega arith))

pub claims-length : (i : ℕ) (ws : List ℕ) (ps : List (Option ℕ)) → length (claim_all i ps ws) ≡ length ps
unfolding registers
claims-length i [] ps = refl
claims-length i (w ∷ ws) ps = claims-length i ws (claim i ps w) ∙ length-modify (λ (old : Option ℕ). Some i) w ps

pub releases-length : (i : ℕ) (ds : List ℕ) (ps : List (Option ℕ)) → length (release_all i ps ds) ≡ length ps
unfolding registers
releases-length i [] ps = refl
releases-length i (d ∷ ds) ps = releases-length i ds (release i ps d) ∙ length-modify (release_held i) d ps

pub waits-length : (ps : List (Option ℕ)) (rs : List ℕ) → length (waits_on ps rs) ≤ length rs
unfolding issuing
waits-length ps [] = omega arith
waits-length ps (r ∷ rs) = go (producer_of ps r) (waits-length ps rs)
  where
    go
        : (o : Option ℕ) → length (waits_on ps rs) ≤ length rs
        → length (when_some o [] (λ (u : ℕ). (r, u) ∷ []) ++ waits_on ps rs) ≤ suc (length rs)
    go None h = omega arith
    go (Some u) h = omega arith
