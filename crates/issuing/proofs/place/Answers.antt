use Prim.Native.Nat.{ℕ, ◌<◌}
use mathlib.Core.Path.{◌≡◌, refl, sym, subst, ap, ap₂, ◌∙◌}
use mathlib.Core.Bool.{◌||◌}
use mathlib.Core.Logic.{inl, inr}
use mathlib.Core.List.{List}
use lib.ListN.{length, set, length-set}
use Rattle.laws.specs.Lists.{All, modify}
use Rattle.model.specs.Units.{FunctionalUnit, occupy}
use Rattle.model.specs.State.{marks}
use Rattle.model.specs.Issue.{place}
use Rattle.registers.specs.View.{view_claims, view_waits, read, written}
use Rattle.op.specs.Chars.{view_text}
use Rattle.std.specs.Prelude.{option_map, IfSome}
use Rattle.flight.specs.View.{Legend, view_queued, op_with}
use Rattle.stalls.specs.View.{listed}
use Rattle.stalls.specs.Promises.{Known}
use Rattle.bank.specs.declared.Units.{Units}
use Rattle.bank.specs.View.{view_units, slots, places, UnitsOk, UnitsAre, UnitKnows}
use Rattle.bank.proofs.Steps.{places-length}
use Rattle.board.specs.View.{view_board}
use Rattle.board.proofs.Parts.{state-by, claims-kept, names-kept, log-names, or-joined}
use Rattle.board.proofs.Knowing.{knows-kept, knows-modify}
use Rattle.issuing.proofs.Looking.{All-first, All-second, waits-known, claimed-length}
use Rattle.issuing.proofs.place.Goals as goal
use Rattle.issuing.proofs.place.Goals.{then-front, else-front, then-is_system, else-is_system}

-- As many units as there were.
as_many : {us r : Units} (i p : ℕ) {m : Legend → List FunctionalUnit} → UnitsOk us → UnitsAre r m (set (places us) i p) → r.len ≡ us.len
as_many {us} i p ok e = sym (places-length e.ok) ∙ ap length e.places ∙ length-set (places us) i p ∙ places-length ok

pub returns : goal.returns
unfolding view_board view_queued op_with occupy place
returns c = let b = c.args.board.now in
    let q = c.args.front.now in
    let at = c.args.at in
    let ok = c.requires.board_ok in
    let n = b.claims.len in
    let e = c.occupy.ensures in
    let f = rw c.writes.ensures at c.claim_all.ensures in
    let g = c.pop_front.ensures in
    let h = rw c.reads.ensures at c.waits_on-pending.ensures in
    let k = claims-kept ok.claims f (claimed-length at (view_claims b.claims) _) in
    let first = All-first (λ (r : ℕ). r < n) (read q.operands) (written q.operands) c.requires.all in
    let second = All-second (λ (r : ℕ). r < n) (read q.operands) (written q.operands) c.requires.all in
    record {
      is =
          λ x. state-by
          (e.is x.legend
          ∙ ap (λ ws. modify at (occupy (view_queued x.legend q) (read q.operands) (written q.operands) ws) (view_units x.legend b.units)) h.is)
          (g.is x.legend) (names-kept x b _ k) f.is
          (ap₂ marks
          (or-joined (elim c.if-front.branch [ then-front w ↦ inl (w.if-front.true, w.board-is) | else-front w ↦ inr (w.if-front.false, w.board-is) ]))
          (or-joined
          (elim c.if-is_system.branch [
            | then-is_system w ↦ inl (w.if-is_system.true, w.board-is)
            | else-is_system w ↦ inr (w.if-is_system.false, w.board-is)
          ])
          ∙ ap (λ t. t || b.marks.system) c.is_system.ensures))
          refl refl
          (log-names x (option_map view_text b.status) b.log (names-kept x b _ k));
      ok =
          record {
            units = e.ok;
            queue = g.ok;
            claims = f.ok;
            log = ok.log;
            offer = subst (λ n. IfSome b.offer.writing (λ (i : ℕ). i < n)) (sym (as_many at q.place ok.units e)) ok.offer;
            status = ok.status;
            gone = ok.gone;
            knows =
                subst (λ d. All (UnitKnows d) (slots c.occupy.new.self)) (sym k)
                (knows-kept n b.units e
                (λ g. knows-modify n at
                (occupy (view_queued g q) (read q.operands) (written q.operands) (view_waits c.waits_on-pending.result))
                (λ v d.
                record {
                  sources = first;
                  destinations = second;
                  pending = subst (All (λ (p : ℕ × ℕ). p.0 < n)) (sym h.is) (waits-known n (view_claims b.claims) (read q.operands) first);
                })
                (view_units g b.units))
                ok.knows);
            known = subst (λ d. All (Known d) (listed b.log.traces)) (sym k) ok.known;
          };
      log = refl;
      units =
          λ l.
          e.is l ∙ ap (λ ws. modify at (occupy (view_queued l q) (read q.operands) (written q.operands) ws) (view_units l b.units)) h.is;
      places = e.places;
      queue = g.entries;
      offer = refl;
      gone = refl;
      known = k;
    }
