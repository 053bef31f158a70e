-- An engine with another board: its parts, where nothing has moved, and where a cycle has opened.
use mathlib.Core.Path.{◌≡◌, refl, sym, subst, ap, ◌∙◌}
use mathlib.Core.Bool.{false, cond, ◌||◌}
use Rattle.std.specs.Prelude.{Option, None, Some}
use Prim.Native.Nat.{ℕ}
use native.Mathlib.Omega.{arith}
use lib.Dec.{eqb, T}
use lib.ListN.{length}
use Rattle.laws.proofs.Choices.{false-T}
use Rattle.laws.specs.Lists.{All, count}
use Rattle.laws.proofs.Tests.{cond-ne}
use Rattle.model.specs.State.{Front, State}
use Rattle.stalls.specs.View.{listed}
use Rattle.stalls.specs.Promises.{NoRedirect}
use Rattle.stalls.proofs.Logged.{listed-length}
use Rattle.bank.specs.View.{places}
use Rattle.board.specs.declared.Board.{Board}
use Rattle.board.specs.View.{view_board, BoardOk}
use Rattle.board.specs.Promises.{taken_places, Names, Open, Still, Starts}
use Rattle.board.proofs.Counting.{names_more, taken-count, apart-kept, same_taken, same-apart}
use Rattle.engine.specs.Engine.{Engine, with_board}
use Rattle.engine.specs.View.{frame_of, view_engine}
use Rattle.engine.specs.Valid.{Parts, Valid}

pub same-open : {b r : Board} → BoardOk b → BoardOk r → Still b r → Open b → Open r
same-open {b} {r} ok k s o =
    record {
      few = omega (arith, listed-length k.log, ap length s.waits, listed-length ok.log, o.few);
      none = subst (All NoRedirect) (sym s.waits) o.none;
      named =
          subst (λ ps. All (Names ps) (listed r.log.traces)) (sym s.places) (subst (All (Names (places b.units))) (sym s.waits) o.named);
      gone = s.gone ∙ o.gone;
    }

-- Nothing has moved.
pub still-parts
    : (e : Engine) (r : Board) → Parts e → BoardOk r → Still e.board r
    → (view_board (frame_of e) r).front ≡ (view_board (frame_of e) e.board).front → Parts (with_board r e)
unfolding view_board
still-parts e r p k s same =
    record {
      board = k;
      window = p.window;
      tracks = p.tracks;
      rows = p.rows;
      machine = p.machine;
      table = p.table;
      decoded = p.decoded;
      texts = p.texts;
      history = p.history;
      known = p.known ∙ sym s.known;
      looks = s.looks (frame_of e) p.looks;
      apart = same-apart e.board r s.places s.queue s.gone p.apart;
      vacant = s.vacant p.vacant;
      begun =
          λ h o.
          same-open p.board k s
          (p.begun (sym (ap (λ (f : Front). f.in_cycle) same) ∙ h) (sym (ap (λ (f : Front). f.halted || f.faulted) same) ∙ o));
      named =
          λ h.
          subst (λ ps. All (Names ps) (listed r.log.traces)) (sym (same_taken e.board r s.places s.queue s.gone))
          (subst (All (Names (taken_places e.board))) (sym s.waits)
          (p.named (sym (ap (λ (f : Front). f.halted || f.faulted) same) ∙ h)));
    }

-- A cycle has opened.
pub started-parts
    : {f : State → State} (e : Engine) (r : Board) → Parts e → e.board.offer.writing ≡ None → Starts e.board r f
    → Parts (with_board r e)
started-parts e r p free s =
    record {
      board = s.ok;
      window = p.window;
      tracks = p.tracks;
      rows = p.rows;
      machine = p.machine;
      table = p.table;
      decoded = p.decoded;
      texts = p.texts;
      history = p.history;
      known = p.known ∙ sym s.known;
      looks = s.looks (frame_of e) p.looks;
      apart =
          apart-kept e.board r
          (λ q h.
          omega (
            arith,
            taken-count q e.board,
            taken-count q r,
            ap (count (eqb q)) s.places,
            ap (count (eqb q)) s.queue,
            ap {B = ℕ} (λ k. cond (eqb q k) 1 0) s.begun.gone ∙ cond-ne {A = ℕ} 1 0 {m = q} {n = 80} (λ w. omega arith),
          ))
          p.apart;
      vacant = s.vacant free p.vacant;
      begun = λ h o. s.begun;
      named =
          λ h.
          names_more (places r.units) (taken_places r) (λ q n. omega (arith, taken-count q r)) (listed r.log.traces) s.begun.named;
    }

-- Outside a cycle nothing is on offer.
pub no_offer-outside : {e : Engine} → Valid e → e.board.front.in_cycle ≡ false → e.board.offer.writing ≡ None
unfolding view_engine view_board
no_offer-outside {e} v h = go e.board.offer.writing refl
  where
    go : (o : Option ℕ) → e.board.offer.writing ≡ o → e.board.offer.writing ≡ None
    go None q = q
    go (Some i) q = false-T e.board.front.in_cycle h (subst T (sym (v.invariant.offer_unit i q).0) tt)
