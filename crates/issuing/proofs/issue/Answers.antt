use Prim.Native.Nat.{ℕ, ◌<◌}
use mathlib.Core.Path.{◌≡◌, ◌∙◌}
use mathlib.Core.Bool.{false}
use Rattle.std.specs.Prelude.{None}
use native.Mathlib.Omega.{arith}
use lib.ListN.{get_or}
use mathlib.Core.List.{[]}
use Rattle.capability.specs.declared.PipelineInstructionClass.TheVariants.{Unknown}
use Rattle.model.specs.Issue.{issue}
use Rattle.config.specs.declared.Machine.{Machine}
use Rattle.flight.specs.declared.Queued.{Queued}
use Rattle.timeline.specs.declared.WaitForm.{WaitForm}
use Rattle.stalls.specs.View.{listed}
use Rattle.board.specs.declared.Board.{Board}
use Rattle.board.specs.View.{Frame, view_board, BoardOk}
use Rattle.board.specs.Promises.{taken_places, unit_places}
use Rattle.board.proofs.Counting.{names_more}
use Rattle.board.proofs.Vacancy.{vacant-same}
use Rattle.issuing.specs.Issues.{Issues}
use Rattle.issuing.specs.Steps.{Fronts, Blocks}
use Rattle.issuing.proofs.Moving.{front-first, units-taken, blocks-apart, blocks-named, blocks-looks}
use Rattle.issuing.proofs.Choosing.{blocks, issue-none, issue-branch, issue-system, issue-looks}
use Rattle.issuing.proofs.issue.Goals as goal

some-queued : {b : Board} → BoardOk b → (b.queue.len ≡ 0 → ⊥) → 0 < b.queue.len
some-queued ok n = omega (arith, n)

spare : Queued
spare =
    record {
      seq = 0;
      operands = record { sources = []; destinations = []; sources_len = 0; destinations_len = 0 };
      class = Unknown;
      branch = false;
      hazard = None;
      latency = 0;
      place = 80;
    }

front : Board → Queued
front b = get_or b.queue.items 0 spare

fronts : {b : Board} → BoardOk b → (b.queue.len ≡ 0 → ⊥) → Fronts (front b) b
unfolding front
fronts ok n = front-first ok.queue spare (some-queued ok n)

-- The front stays, as the model has it.
stays : {b r : Board} {m : Machine} {f : WaitForm} {n : ℕ} {q : Queued} → Blocks b f n r → Fronts q b
    → ((x : Frame) → blocks x b q f n ≡ issue (view_board x b))
    → Issues b m r
stays {b} {r} {q = q} h f e =
    record {
      is = λ x m l. h.is q f x ∙ e x;
      ok = h.ok;
      few = h.few;
      apart = blocks-apart h;
      named = λ o v. blocks-named h f;
      vacant = vacant-same b r h.units h.offer;
      looks = blocks-looks h;
    }

pub returns-then-board-eq0 : goal.returns-then-board-eq0
returns-then-board-eq0 c = let b = c.args.board.now in
    let ok = c.requires.board_ok in
    record {
      is = λ x m l. issue-none x b ok.queue c.if-board-eq0.true;
      ok = ok;
      few = omega arith;
      apart = λ a. a;
      named = λ o v a. names_more (unit_places b) (taken_places b) (units-taken b) (listed b.log.traces) a;
      vacant = λ v. v;
      looks = λ x l. l;
    }

pub returns-then-board : goal.returns-then-board
returns-then-board c = let b = c.args.board.now in
    let f = fronts c.requires.board_ok c.if-board-eq0.false in
    stays (rw c.behind.ensures at c.block.ensures) f (λ x. issue-branch x b (front b) f c.if-board.true)

pub returns-then-board-2 : goal.returns-then-board-2
returns-then-board-2 c = let b = c.args.board.now in
    let f = fronts c.requires.board_ok c.if-board-eq0.false in
    stays (rw c.behind-then-board-2.ensures at c.block-then-board-2.ensures) f (λ x. issue-system x b (front b) f c.if-board.false c.if-board-2.true)

pub issue_looked-requires-clause-fronts : goal.issue_looked-requires-clause-fronts
issue_looked-requires-clause-fronts c = let ok = c.requires.board_ok in front-first ok.queue _ (some-queued ok c.if-board-eq0.false)

pub returns : goal.returns
returns c = let b = c.args.board.now in
    let ok = c.requires.board_ok in
    let e = c.issue_looked.ensures in
    record {
      is = λ x m l. e.is x m l ∙ issue-looks x b _ (front-first ok.queue _ (some-queued ok c.if-board-eq0.false)) c.if-board.false c.if-board-2.false;
      ok = e.ok;
      few = e.few;
      apart = e.apart;
      named = e.named;
      vacant = e.vacant;
      looks = e.looks;
    }
