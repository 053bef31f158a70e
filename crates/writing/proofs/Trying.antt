-- The finished units in order: those turned away up to the first that is not, and the hazards that they get.
use Prim.Native.Nat.{ℕ, ◌+◌, ◌≤◌, ◌<◌}
use mathlib.Core.Path.{◌≡◌, refl, sym, ap, ◌∙◌}
use Rattle.std.specs.Prelude.{None, Some}
use mathlib.Core.List.{List, [], ◌∷◌, ◌++◌, map, append-nil}
use native.Mathlib.Omega.{arith}
use lib.ListN.{length, get_or, set, take, drop, length-set}
use lib.Seq.{append_snoc}
use Rattle.std.proofs.Common.{le_refl}
use Rattle.std.proofs.lemmas.List.{length-take, take_all, drop_all}
use Rattle.laws.specs.Lists.{All, modify}
use Rattle.laws.proofs.Slices.{Seen, take-map, view-next, All-get_or, All-seen, All-append}
use Rattle.laws.proofs.Maps.{length-of}
use Rattle.laws.proofs.Search.{Scan, scan-first, scan-next, scan-stop, scan-last}
use Rattle.laws.proofs.Shift.{pushed, view-pushed}
use Rattle.capability.specs.declared.PipelineHazardKind.{PipelineHazardKind}
use Rattle.model.specs.Units.{FunctionalUnit, mark_hazard}
use Rattle.model.specs.Write.{
  Blocked as Reason,
  blocked_kind,
  write_blocked,
  Tried as Outcome,
  tried,
  try_one,
  ready_at,
  try_writes,
  writable_unit,
  mark_blocked,
}
use Rattle.flight.specs.View.{Legend}
use Rattle.units.specs.declared.Unit.{Unit as Slot}
use Rattle.units.specs.View.{view_unit, UnitOk, UnitIs}
use Rattle.bank.specs.declared.Units.{Units}
use Rattle.bank.specs.View.{view_units, places, UnitsOk, UnitsAre}
use Rattle.bank.proofs.Steps.{unit_ok, units-set, place_kept}
use Rattle.writing.specs.declared.Ready.{Ready}
use Rattle.writing.specs.declared.Blocked.{Blocked}
use Rattle.writing.specs.declared.Turned.{Turned}
use Rattle.writing.specs.declared.Tried.{Tried}
use Rattle.writing.specs.View.{seqs, view_ready, ReadyOk, ReadyIs, view_reason, view_turned, turned_away, view_tried, BlockedIs, TurnedOk, TriedOk, TriedIs}
use Rattle.writing.proofs.Gathering.{ready-count, finished-next, ready-end}

-- ── The model's list, one by one ────────────────────────────────────────────

-- Behind those that were turned away before.
abbrev pub trying : List FunctionalUnit → List (ℕ × Reason) → List (ℕ × ℕ) → Outcome
trying us t qs = tried (t ++ (try_writes us qs).turned_away) (try_writes us qs).found

module _ (us : List FunctionalUnit) (t : List (ℕ × Reason)) where
  try-away : (q : ℕ × ℕ) {b : Reason} → write_blocked us q.1 ≡ Some b → (qs : List (ℕ × ℕ)) → trying us t (q ∷ qs) ≡ trying us (t ++ (q.1, b) ∷ []) qs
  unfolding try_writes try_one
  try-away q {b} e qs =
      ap (λ o. tried (t ++ (try_one q.1 o (try_writes us qs)).turned_away) (try_one q.1 o (try_writes us qs)).found) e
      ∙ ap (λ l. tried l (try_writes us qs).found) (sym (append_snoc t (q.1, b) (try_writes us qs).turned_away))

  try-found : (q : ℕ × ℕ) → write_blocked us q.1 ≡ None → (qs : List (ℕ × ℕ)) → trying us t (q ∷ qs) ≡ tried t (Some q.1)
  unfolding try_writes try_one
  try-found q e qs =
      ap (λ o. tried (t ++ (try_one q.1 o (try_writes us qs)).turned_away) (try_one q.1 o (try_writes us qs)).found) e
      ∙ ap (λ l. tried l (Some q.1)) (append-nil t)

  try-end : trying us t [] ≡ tried t None
  unfolding try_writes
  try-end = ap (λ l. tried l None) (append-nil t)

abbrev pub marking : List FunctionalUnit → List (ℕ × Reason) → List FunctionalUnit
marking us bs = mark_blocked bs us

mark-next : (us : List FunctionalUnit) (b : ℕ × Reason) (bs : List (ℕ × Reason))
    → marking us (b ∷ bs) ≡ marking (modify b.0 (mark_hazard (blocked_kind b.1)) us) bs
unfolding mark_blocked
mark-next us b bs = refl

mark-end : (us : List FunctionalUnit) → marking us [] ≡ us
unfolding mark_blocked
mark-end us = refl

-- ── The loop that tries ─────────────────────────────────────────────────────

-- The first k are turned away.
pub record Tries (us : Units) (r : Ready) (t : Tried) (k : ℕ) : Type 0 where
  pub most : k ≤ r.len
  pub len : t.len ≡ k
  pub size : length t.items ≡ 64
  pub each : All (TurnedOk us) (take t.len t.items)
  pub found : t.found ≡ None
  pub is : (g : Legend) → Scan (trying (view_units g us)) [] (view_ready (seqs us) r) r.len (turned_away t) k

module _ {us : Units} {r : Ready} (ok : UnitsOk us) (rok : ReadyOk r) (few : r.len ≤ us.len)
    (below : All (λ (q : ℕ × ℕ). q.1 < us.len) (view_ready (seqs us) r)) where
  pub tries-first : {items : List Turned} → length items ≡ 64 → Tries us r (record { items = items; len = 0; found = None }) 0
  unfolding turned_away
  tries-first s = record { most = omega arith; len = refl; size = s; each = tt; found = refl; is = λ g. scan-first }

  -- The finished units as a slice.
  module _ {s : List ℕ} (q : s ≡ take r.len r.items) {t : Tried} {k : ℕ} (e : Tries us r t k) where
    module _ (d : ℕ) (h : k < length s) where
      abbrev unit : ℕ
      unit = get_or s k d

      here : k < r.len
      here = omega (arith, ready-count (seqs us) rok q)

      pub tries-unit : unit < us.len
      tries-unit = All-seen _ (view_ready (seqs us) r) below (finished-next (seqs us) rok q d h)

      pub tries-next : {b : Blocked} → BlockedIs us (Some b) (λ g. write_blocked (view_units g us) unit)
          → Tries us r (record { items = set t.items k (record { unit = unit; blocked = b }); len = k + 1; found = t.found }) (k + 1)
      unfolding turned_away view_turned
      tries-next {b} m =
          let x : Turned = record { unit = unit; blocked = b } in
          let space : k < length t.items = omega (arith, here, ok.few, e.size) in
          let more : take (k + 1) (map view_turned (set t.items k x)) ≡ turned_away t ++ view_turned x ∷ [] =
          view-pushed view_turned t.items k x space ∙ ap (λ j. take j (map view_turned t.items) ++ view_turned x ∷ []) (sym e.len) in
          let all : take (k + 1) (set t.items k x) ≡ take t.len t.items ++ x ∷ [] =
          pushed t.items k x space refl ∙ ap (λ j. take j t.items ++ x ∷ []) (sym e.len) in
          record {
            most = omega (arith, here);
            len = refl;
            size = length-set t.items k x ∙ e.size;
            each =
                rw all
                (All-append (TurnedOk us) (take t.len t.items) (x ∷ []) e.each
                (record { unit = tries-unit; known = m.known }, tt));
            found = e.found;
            is = λ g.
                scan-next (e.is g) (finished-next (seqs us) rok q d h)
                (λ qs.
                try-away (view_units g us) (turned_away t) _ (sym (m.is g)) qs
                ∙ ap (λ l. trying (view_units g us) l qs) (sym more));
          }

      pub tries-found : BlockedIs us None (λ g. write_blocked (view_units g us) unit)
          → TriedIs us (record { items = t.items; len = t.len; found = Some unit }) (λ g. try_writes (view_units g us) (view_ready (seqs us) r))
      unfolding view_tried turned_away
      tries-found m =
          record {
            is = λ g. scan-stop (e.is g) (finished-next (seqs us) rok q d h) (try-found (view_units g us) (turned_away t) _ (sym (m.is g)));
            ok = record { few = omega (arith, e.len, here); size = e.size; each = e.each; found = tries-unit };
          }

    pub tries-last : length s ≤ k → TriedIs us t (λ g. try_writes (view_units g us) (view_ready (seqs us) r))
    unfolding view_tried
    tries-last h =
        record {
          is = λ g. ap (tried (turned_away t)) e.found ∙ scan-last (e.is g) (ready-end (seqs us) rok q h) (try-end (view_units g us) (turned_away t));
          ok = record { few = omega (arith, e.len, e.most); size = e.size; each = e.each; found = rw e.found tt };
        }

-- The list that was tried is that of the finished units.
pub writable : {us : Units} {r : Ready} {t : Tried} → ReadyIs (seqs us) r us.len (λ g. ready_at 0 (view_units g us))
    → TriedIs us t (λ g. try_writes (view_units g us) (view_ready (seqs us) r))
    → TriedIs us t (λ g. writable_unit (view_units g us))
unfolding writable_unit
writable {us = us} m t = record { is = λ g. t.is g ∙ ap (try_writes (view_units g us)) (m.is g); ok = t.ok }

-- ── Those turned away ───────────────────────────────────────────────────────

-- As a slice.
module _ {us : Units} {t : Tried} (ok : TriedOk us t) {s : List Turned} (e : s ≡ take t.len t.items) where
  pub away-few : length s ≤ us.len
  away-few = omega (arith, ap length e, length-take t.len t.items, ok.few)

  pub away-ok : (d : Turned) {k : ℕ} → k < length s → TurnedOk us (get_or s k d)
  away-ok d h = All-get_or (TurnedOk us) s d (rw e ok.each) h

  away-view : turned_away t ≡ map view_turned s
  unfolding turned_away
  away-view = take-map view_turned t.len t.items ∙ ap (map view_turned) (sym e)

  pub away-next : (d : Turned) {k : ℕ} → k < length s → Seen (turned_away t) (length s) k (view_turned (get_or s k d))
  away-next d h = rw (away-view ∙ sym (take_all (length s) (map view_turned s) (omega (arith, length-of view_turned s)))) (view-next view_turned s d (le_refl _) h)

  pub away-end : {k : ℕ} → length s ≤ k → drop k (turned_away t) ≡ []
  away-end {k} h = ap (drop k) away-view ∙ drop_all k (map view_turned s) (omega (arith, length-of view_turned s))

-- ── The loop that marks ─────────────────────────────────────────────────────

-- The first k of those turned away, of n, have their hazards.
pub record Marked (us₀ : Units) (t : Tried) (us : Units) (n k : ℕ) : Type 0 where
  pub len : us.len ≡ us₀.len
  pub is : (g : Legend) → Scan marking (view_units g us₀) (turned_away t) n (view_units g us) k
  pub places : places us ≡ places us₀
  pub ok : UnitsOk us

module _ {us₀ : Units} {t : Tried} (tok : TriedOk us₀ t) {s : List Turned} (q : s ≡ take t.len t.items) where
  pub marked-first : UnitsOk us₀ → Marked us₀ t us₀ (length s) 0
  marked-first ok = record { len = refl; is = λ g. scan-first; places = refl; ok = ok }

  module _ {us : Units} {k : ℕ} (e : Marked us₀ t us (length s) k) where
    module _ (d : Turned) (h : k < length s) where
      pub marked-inside : (get_or s k d).unit < us.len
      marked-inside = omega (arith, (away-ok tok q d h).unit, e.len)

      pub marked-read : (x : Slot) → UnitOk (get_or us.items (get_or s k d).unit x)
      marked-read x = unit_ok e.ok x marked-inside

      -- x is the unit that was turned away, with its hazard.
      pub marked_next : (y : Slot) {x : Slot} {kind : PipelineHazardKind}
          → kind ≡ blocked_kind (view_reason (get_or s k d).blocked)
          → UnitIs x (λ g. mark_hazard kind (view_unit g (get_or us.items (get_or s k d).unit y))) (get_or us.items (get_or s k d).unit y).place
          → Marked us₀ t (record { items = set us.items (get_or s k d).unit x; len = us.len }) (length s) (k + 1)
      unfolding view_turned
      marked_next y {kind = kind} r m =
          let at : ℕ = (get_or s k d).unit in
          let now = units-set e.ok (λ g. mark_hazard kind) y marked-inside m in
          record {
            len = e.len;
            is = λ g.
                scan-next (e.is g) (away-next tok q d h)
                (λ bs.
                mark-next (view_units g us) (view_turned (get_or s k d)) bs
                ∙ ap (λ l. marking l bs) (ap (λ z. modify at (mark_hazard z) (view_units g us)) (sym r) ∙ sym (now.is g)));
            places = now.places ∙ place_kept e.ok y marked-inside ∙ e.places;
            ok = now.ok;
          }

    pub marked-last : length s ≤ k → UnitsAre us (λ g. mark_blocked (turned_away t) (view_units g us₀)) (places us₀)
    marked-last h =
        record {
          is = λ g. scan-last (e.is g) (away-end tok q h) (mark-end (view_units g us));
          places = e.places;
          ok = e.ok;
        }
