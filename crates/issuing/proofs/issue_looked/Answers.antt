use Prim.Native.Nat.{ℕ, ◌+◌, ◌≤◌, ◌<◌}
use mathlib.Core.Path.{◌≡◌, sym, subst, ap, ◌∙◌}
use mathlib.Core.Bool.{true}
use mathlib.Core.Logic.{◌⊎◌, inl, inr, ⊎_elim}
use Rattle.std.specs.Prelude.{None}
use native.Mathlib.Omega.{arith}
use lib.ListN.{get_or}
use Rattle.laws.specs.Lists.{All, rest}
use Rattle.laws.proofs.Choices.{none-some}
use Rattle.registers.specs.View.{view_claims, read, written, view_operands}
use Rattle.config.specs.declared.Machine.{Machine}
use Rattle.flight.specs.declared.Queued.{Queued}
use Rattle.flight.specs.View.{view_queued, entries}
use Rattle.timeline.specs.declared.WaitForm.{WaitForm}
use Rattle.stalls.specs.Promises.{names_register}
use Rattle.bank.specs.View.{places}
use Rattle.board.specs.declared.Offer.{Offer}
use Rattle.board.specs.declared.Board.{Board}
use Rattle.board.specs.View.{view_board}
use Rattle.board.specs.Promises.{Vacant}
use Rattle.board.proofs.Knowing.{blank}
use Rattle.board.proofs.Vacancy.{vacant-same}
use Rattle.issuing.specs.Steps.{numbers, Learns, StillWritten, Full, Free}
use Rattle.issuing.proofs.Looking.{below-through, All-second, taken-known, look, learned, looks-stays, looks-issued}
use Rattle.issuing.proofs.Moving.{
  front-ok,
  free-inside,
  free-busy,
  learns-apart,
  learns-named,
  learns-fronts,
  blocks-apart,
  blocks-named,
  blocks-looks,
  places-apart,
  places-named,
  places-vacant,
}
use Rattle.issuing.proofs.Choosing.{looked-goes, still-goes, full-goes, free-goes}
use Rattle.issuing.proofs.issue_looked.Goals as goal

module _ {b r : Board} (q : Queued) (e : Learns b q.operands r) where
  -- The front's registers are known.
  all_known : All (λ (k : ℕ). k < r.claims.len) (numbers q.operands)
  all_known = below-through r.claims.len (numbers q.operands) (omega (arith, e.known))

  named-known : {m : Machine} {f : WaitForm} {n : ℕ} → StillWritten r q f n ⊎ Full r q m f n → names_register f ≡ true → n < r.claims.len
  unfolding names_register
  named-known (inl w) t =
      taken-known r.claims.len (view_claims r.claims) (written q.operands) w.taken
      (All-second (λ (k : ℕ). k < r.claims.len) (read q.operands) (written q.operands) all_known)
  named-known (inr w) t = absurd (let y = sym t ∙ ap names_register w.form in let z : ◌≡◌ {A = ℕ} 0 1 = cc in omega arith)

  -- The unit that takes the front had no place.
  vacated : {m : Machine} {i : ℕ} → Free r q m i → b.offer.writing ≡ None → Vacant r → get_or (places r.units) i 80 ≡ 80
  vacated {m} {i} w o v =
      ⊎_elim (λ t. none-some i (sym (ap (λ (p : Offer). p.writing) e.offer ∙ o) ∙ t)) (λ t. t)
      (v blank i (free-busy e.ok.units blank _ (w.free blank)))

pub look-requires-clause-operands_ok : goal.look-requires-clause-operands_ok
look-requires-clause-operands_ok c = (front-ok c.requires.board_ok.queue c.requires.fronts).operands

pub choose-requires-clause-queued_ok : goal.choose-requires-clause-queued_ok
choose-requires-clause-queued_ok c = front-ok c.requires.board_ok.queue c.requires.fronts

pub place-requires : goal.place-requires
place-requires c =
    let ok = c.look.ensures.ok in
    let w = c.choose.ensures.into _ c.in-Ok.is in
    record {
      board_ok = ok;
      queued_ok = front-ok c.requires.board_ok.queue c.requires.fronts;
      at_lt_len = free-inside ok.units blank _ (w.free blank);
      all = all_known c.args.front.now c.look.ensures;
    }

pub block-requires-clause-number_lt_len : goal.block-requires-clause-number_lt_len
block-requires-clause-number_lt_len c = named-known c.args.front.now c.look.ensures (c.choose.ensures.blocked _ c.in-Err.is)

pub returns-in-Err : goal.returns-in-Err
unfolding view_board
returns-in-Err c = let b = c.args.board.now in
    let q = c.args.front.now in
    let r = c.look.new.board in
    let ok = c.requires.board_ok.claims in
    let f = c.requires.fronts in
    let e = c.look.ensures in
    let h = c.block.ensures in
    let g = learns-fronts b r e q f in
    record {
      is =
          λ x m l.
          h.is q g x ∙ ⊎_elim (still-goes x r q) (full-goes x r q m) (c.choose.ensures.blocked _ c.in-Err.is)
          ∙ looked-goes (view_queued x.legend q) (view_operands q.operands) (view_board x b) (look x b r q ok e f l) (learned x b r q ok e f l);
      ok = h.ok;
      few = subst (λ l. c.block.new.board.log.traces.len ≤ l.traces.len + 1) e.log h.few;
      apart = λ a. blocks-apart h (learns-apart b r e a);
      named = λ o u a. blocks-named h g (learns-named b r e a);
      vacant = λ u. vacant-same r c.block.new.board h.units h.offer (vacant-same b r e.units e.offer u);
      looks = λ x l. blocks-looks h x (looks-stays x b r q ok e f l);
    }

pub returns-in-Ok : goal.returns-in-Ok
unfolding view_board
returns-in-Ok c = let b = c.args.board.now in
    let q = c.args.front.now in
    let r = c.look.new.board in
    let ok = c.requires.board_ok.claims in
    let f = c.requires.fronts in
    let e = c.look.ensures in
    let p = c.place.ensures in
    let g = learns-fronts b r e q f in
    let w = c.choose.ensures.into _ c.in-Ok.is in
    let i = free-inside e.ok.units blank _ (w.free blank) in
    record {
      is =
          λ x m l.
          p.is x ∙ free-goes x r q m w
          ∙ looked-goes (view_queued x.legend q) (view_operands q.operands) (view_board x b) (look x b r q ok e f l) (learned x b r q ok e f l);
      ok = p.ok;
      few = subst (λ l. l.traces.len ≤ b.log.traces.len + 1) (sym (p.log ∙ e.log)) (omega arith);
      apart = λ a. places-apart e.ok i p g (learns-apart b r e a);
      named = λ o u a. places-named e.ok i p g (vacated q e w o (vacant-same b r e.units e.offer u)) (learns-named b r e a);
      vacant = λ u. places-vacant e.ok i p g (vacant-same b r e.units e.offer u);
      looks = λ x l. looks-issued x b r q ok e f l _ p.known (p.queue ∙ ap (λ t. rest (entries t)) e.queue);
    }
