-- A model state by its parts, and what stands as it was where a method changes other parts: names known, waits, and the look at the queue.
use Prim.Native.Nat.{ℕ, ◌<◌}
use mathlib.Core.Path.{◌≡◌, refl, sym, subst, ap, ap₂, ◌∙◌}
use mathlib.Core.Bool.{Bool, true, false, not, ◌&&◌, ◌||◌}
use mathlib.Core.Logic.{◌⊎◌, inl, inr}
use Rattle.std.specs.Prelude.{Option, None, Some, IfSome, option_map}
use mathlib.Core.List.{List, [], ◌∷◌, map, map-map}
use native.Mathlib.Omega.{arith}
use lib.Dec.{eqb, ltb}
use borrow.Author.Tests.{ne_eqb}
use lib.ListN.{length, get_or, take}
use Rattle.std.specs.List.{list_any}
use Rattle.laws.specs.Lists.{is_empty}
use Rattle.laws.specs.Optional.{when_some}
use Rattle.laws.specs.Means.{Means}
use Rattle.laws.specs.Texts.{Text}
use Rattle.laws.proofs.Tests.{not_yes, not-no, and_no, and-next, or_yes, or-next, value_or-some}
use Rattle.laws.proofs.Slices.{length-modify, seen-nth}
use Rattle.model.specs.Config.{Machine}
use Rattle.model.specs.Op.{Op, with_hazard}
use Rattle.model.specs.Registers.{release_held, release, release_all}
use Rattle.model.specs.Units.{FunctionalUnit, idle_unit, is_busy, unit_at}
use Rattle.model.specs.State.{Marks, Offer, offer_of, Front, Log as ModelLog, state}
use Rattle.model.specs.Write.{offered_op, offered_branch}
use Rattle.model.specs.Scoreboard.{idle, may_fetch}
use Rattle.registers.specs.declared.Claims.{Claims}
use Rattle.registers.specs.View.{view_claims, ClaimsOk, view_operands}
use Rattle.registers.specs.Look.{Queued as Along}
use Rattle.registers.proofs.Owing.{claims-length}
use Rattle.flight.specs.declared.Queued.{Queued}
use Rattle.flight.specs.declared.Queue.{Queue}
use Rattle.flight.specs.View.{Legend, op_with, view_queue, entries}
use Rattle.flight.proofs.Entries.{queue-length}
use Rattle.flight.specs.Promises.{hazardous, Queues}
use Rattle.stalls.specs.declared.Log.{Log}
use Rattle.stalls.specs.View.{Frame as LogFrame, view_log}
use Rattle.units.specs.declared.Unit.{Unit as Slot}
use Rattle.units.specs.View.{view_unit}
use Rattle.bank.specs.declared.Units.{Units}
use Rattle.bank.specs.View.{view_units, places, UnitsOk, UnitsAre}
use Rattle.bank.proofs.Steps.{places-length, units-next}
use Rattle.board.specs.declared.Offer.{Offer as Offered}
use Rattle.board.specs.declared.Board.{Board}
use Rattle.board.specs.View.{Frame, known_names, view_board, BoardOk}
use Rattle.board.specs.Promises.{no_offer, Looks}

-- ── The model's state ───────────────────────────────────────────────────────

pub state-by : {m : Machine} {us vs : List FunctionalUnit} {q p : List Op} {ns ms : List Text} {cs ds : List (Option ℕ)} {k j : Marks}
    {o n : Offer} {f h : Front} {l w : ModelLog}
    → us ≡ vs → q ≡ p → ns ≡ ms → cs ≡ ds → k ≡ j → o ≡ n → f ≡ h → l ≡ w
    → state m us q ns cs k o f l ≡ state m vs p ms ds j n h w
state-by {m} {us} {vs} {q} {p} {ns} {ms} {cs} {ds} {k} {j} {o} {n} {f} {h} {l} {w} a b c d e g i t =
    ap₂ (λ x y. state m x y ns cs k o f l) a b ∙ ap₂ (λ x y. state m vs p x y k o f l) c d ∙ ap₂ (λ x y. state m vs p ms ds x y f l) e g
    ∙ ap₂ (λ x y. state m vs p ms ds j n x y) i t

-- ── A unit ──────────────────────────────────────────────────────────────────

-- The model's unit at a place.
pub unit-seen : {us : Units} → UnitsOk us → (g : Legend) (d : Slot) {i : ℕ} → i < us.len → unit_at (view_units g us) i ≡ view_unit g (get_or us.items i d)
unfolding unit_at
unit-seen ok g d h = value_or-some (idle_unit 0 0) (seen-nth (units-next ok g d h))

-- Its place in the pool.
pub place_inside : {us : Units} → UnitsOk us → {i : ℕ} → i < us.len → i < length (places us)
place_inside ok h = omega (arith, places-length ok)

-- ── The offer ───────────────────────────────────────────────────────────────

-- What is on offer is a unit's.
pub offer_inside : {b : Board} → BoardOk b → {at : ℕ} → b.offer.writing ≡ Some at → at < b.units.len
offer_inside {b} ok e = subst (λ w. IfSome w (λ (i : ℕ). i < b.units.len)) e ok.offer

-- And so is its branch.
pub offer_branch : {b : Board} → BoardOk b → (x : Frame) (d : Slot) {at : ℕ} → b.offer.writing ≡ Some at
    → offered_branch (view_board x b) ≡ (get_or b.units.items at d).redirects
unfolding view_board view_unit op_with offered_op offered_branch
offer_branch {b} ok x d w =
    ap (λ o. when_some (option_map (λ (i : ℕ). (unit_at (view_units x.legend b.units) i).op) o) false (λ (o : Op). o.core.decoded.branch)) w
    ∙ ap (λ (u : FunctionalUnit). u.op.core.decoded.branch) (unit-seen ok.units x.legend d (offer_inside ok w))

-- It stays inside where a method hands back as many units.
pub offer_kept : {us r : Units} {m : Legend → List FunctionalUnit} {ps : List ℕ} (w : Option ℕ) → UnitsOk us → UnitsAre r m ps
    → length ps ≡ length (places us) → IfSome w (λ (i : ℕ). i < us.len) → IfSome w (λ (i : ℕ). i < r.len)
offer_kept w ok e q = subst (λ n. IfSome w (λ (i : ℕ). i < n)) (sym (places-length ok) ∙ sym q ∙ sym (ap length e.places) ∙ places-length e.ok)

module _ {o : Offered} (e : o ≡ no_offer) where
  pub none_inside : (n : ℕ) → IfSome o.writing (λ (i : ℕ). i < n)
  none_inside n = subst (λ (o : Offered). IfSome o.writing (λ (i : ℕ). i < n)) (sym e) tt

  pub none_offered : offer_of o.writing o.retired ≡ offer_of None false
  none_offered = ap (λ (o : Offered). offer_of o.writing o.retired) e

-- ── The names known ─────────────────────────────────────────────────────────

pub names-kept : (x : Frame) (b r : Board) → r.claims.len ≡ b.claims.len → known_names x r ≡ known_names x b
unfolding known_names
names-kept x b r e = ap (λ n. take n x.legend.names) e

-- As many claims as there were.
pub claims-kept : {c d : Claims} {ps : List (Option ℕ)} → ClaimsOk c → Means view_claims ClaimsOk d ps → length ps ≡ length (view_claims c) → d.len ≡ c.len
claims-kept ok m e = sym (claims-length m.ok) ∙ ap length m.is ∙ e ∙ claims-length ok

pub released-length : (u : ℕ) (ps : List (Option ℕ)) (rs : List ℕ) → length (release_all u ps rs) ≡ length ps
unfolding release_all release
released-length u ps [] = refl
released-length u ps (r ∷ rs) = released-length u (release u ps r) rs ∙ length-modify r (release_held u) ps

-- The waits read the names known.
abbrev pub frame-with : Frame → List Text → Option Text → LogFrame
frame-with x ns m = record { legend = x.legend; kinds = x.machine.specs; names = ns; rows = x.rows; status = m }

pub log-names : (x : Frame) (m : Option Text) (l : Log) {ns ms : List Text} → ns ≡ ms → view_log (frame-with x ns m) l ≡ view_log (frame-with x ms m) l
log-names x m l e = ap (λ ns. view_log (frame-with x ns m) l) e

-- ── A flag by the branch that set it ────────────────────────────────────────

pub and-joined : {t m r : Bool} → ((t ≡ false) × (r ≡ m)) ⊎ ((t ≡ true) × (r ≡ not t)) → r ≡ (not t && m)
and-joined {m = m} (inl w) = w.1 ∙ sym (and-next m (not_yes w.0))
and-joined {m = m} (inr w) = w.1 ∙ not-no w.0 ∙ sym (and_no m (not-no w.0))

pub or-joined : {t m r : Bool} → ((t ≡ true) × (r ≡ t)) ⊎ ((t ≡ false) × (r ≡ m)) → r ≡ (t || m)
or-joined {m = m} (inl w) = w.1 ∙ w.0 ∙ sym (or_yes m w.0)
or-joined {m = m} (inr w) = w.1 ∙ sym (or-next m w.0)

-- ── Idle ────────────────────────────────────────────────────────────────────

empty-count : {A : Type 0} (l : List A) → is_empty l ≡ eqb (length l) 0
unfolding is_empty
empty-count [] = refl
empty-count (x ∷ l) = sym (ne_eqb (length (x ∷ l)) 0 (omega arith))

module _ {b : Board} (ok : BoardOk b) (x : Frame) where
  pub idle_so : idle (view_board x b) ≡ (eqb b.queue.len 0 && not (list_any is_busy (view_units x.legend b.units)))
  unfolding view_board idle
  idle_so = ap (λ e. e && not (list_any is_busy (view_units x.legend b.units))) (empty-count (view_queue x.legend b.queue) ∙ ap (λ n. eqb n 0) (queue-length ok.queue x.legend))

  pub fetch_so : may_fetch (view_board x b) ≡ (ltb b.queue.len x.machine.depth && (b.front.enabled || idle (view_board x b)))
  unfolding view_board may_fetch
  fetch_so = ap (λ n. ltb n x.machine.depth && (b.front.enabled || idle (view_board x b))) (queue-length ok.queue x.legend)

-- ── The look at the queue ───────────────────────────────────────────────────

-- Names and numbers of the queued operations are the same.
pub record Alike (q r : Queue) : Type 0 where
  pub names : (g : Legend) → map (λ (o : Op). o.info) (view_queue g r) ≡ map (λ (o : Op). o.info) (view_queue g q)
  pub numbers : map (λ (x : Queued). view_operands x.operands) (entries r) ≡ map (λ (x : Queued). view_operands x.operands) (entries q)

pub alike_self : (q : Queue) → Alike q q
alike_self q = record { names = λ g. refl; numbers = refl }

pub alike-hazards : (q : Queue) {r : Queue} → Queues r (map (hazardous None) (entries q)) (λ g. map (with_hazard None) (view_queue g q)) → Alike q r
alike-hazards q e =
    record {
      names = λ g. ap (map (λ (o : Op). o.info)) (e.is g) ∙ map-map (λ (o : Op). o.info) (with_hazard None) (view_queue g q);
      numbers =
          ap (map (λ (x : Queued). view_operands x.operands)) e.entries
          ∙ map-map (λ (x : Queued). view_operands x.operands) (hazardous None) (entries q);
    }

pub looks-kept : (x : Frame) (b r : Board) → r.claims.len ≡ b.claims.len → Alike b.queue r.queue → Looks x b → Looks x r
looks-kept x b r e a l =
    record {
      most = omega (arith, l.most, e);
      queued =
          subst (λ ks. Along (known_names x r) x.legend.names (map (λ (o : Op). o.info) (view_queue x.legend r.queue)) ks)
          (sym a.numbers)
          (subst
          (λ is. Along (known_names x r) x.legend.names is (map (λ (q : Queued). view_operands q.operands) (entries b.queue)))
          (sym (a.names x.legend))
          (subst
          (λ ns. Along ns x.legend.names (map (λ (o : Op). o.info) (view_queue x.legend b.queue))
          (map (λ (q : Queued). view_operands q.operands) (entries b.queue)))
          (sym (names-kept x b r e)) l.queued));
    }

pub looks_same : (x : Frame) (b r : Board) → r.claims ≡ b.claims → r.queue ≡ b.queue → Looks x b → Looks x r
looks_same x b r e q = looks-kept x b r (ap (λ (c : Claims). c.len) e) (subst (Alike b.queue) (sym q) (alike_self b.queue))
