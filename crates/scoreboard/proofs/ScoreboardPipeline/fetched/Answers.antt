use mathlib.Core.Path.{◌≡◌, sym, subst, ap, ◌∙◌}
use mathlib.Core.List.{List}
use lib.ListN.{length, set}
use Rattle.std.proofs.Common.{rules}
use Rattle.std.specs.Prelude.{Result, Err}
use Rattle.capability.specs.declared.Refusal.{Refusal}
use Rattle.model.specs.Calls.{fetch, done}
use Rattle.op.specs.View.{view_op}
use Rattle.flight.specs.declared.pool.Decoded.{Decoded}
use Rattle.flight.specs.declared.pool.Texts.{Texts}
use Rattle.timeline.specs.declared.RowText.{RowText}
use Rattle.timeline.specs.declared.Window.{Window}
use Rattle.engine.specs.View.{done_answer, answer_by}
use Rattle.engine.specs.Calls.{Does}
use Rattle.fetching.specs.Taking.{engine_by}
use Rattle.scoreboard.specs.View.{parts}
use Rattle.scoreboard.proofs.ScoreboardPipeline.fetched.Goals as goal

four
    : (P : Window → Decoded → Texts → List RowText → Type 0) {w w' : Window} {d d' : Decoded} {t t' : Texts} {xs xs' : List RowText}
    → w ≡ w' → d ≡ d' → t ≡ t' → xs ≡ xs' → P w' d' t' xs' → P w d t xs
four P {w} {w'} {d} {d'} {t} {t'} {xs} {xs'} p q m i z =
    subst (λ k. P k d t xs) (sym p) (subst (λ k. P w' k t xs) (sym q) (subst (λ k. P w' d' k xs) (sym m) (subst (P w' d' t') (sym i) z)))

pub fetch-requires : goal.fetch-requires
fetch-requires c = record { engine = parts c.args.self.now; valid = c.requires }

pub returns-in_err-place-clause-done : goal.returns-in_err-place-clause-done
unfolding answer_by
returns-in_err-place-clause-done c =
    let e = parts c.args.self.now in
    let x = c.fetch.new in
    let q : c.from_residual.result ≡ Err c.in_err-place.field-0.0 = search rules in
    subst
    (λ (y : Result (Unit {0}) Refusal).
    Does e (fetch (view_op c.args.op.now) (length c.args.cells.now)) (done_answer y) (engine_by x.board e.window x.tracks e.machine x.table e))
    (sym q)
    (c.fetch.ensures.done.refuses c.in_err-place.field-0.0 c.in_err-place.was e c.requires)

pub returns-in_err-place-clause-memory : goal.returns-in_err-place-clause-memory
returns-in_err-place-clause-memory c = c.fetch.ensures.memory (parts c.args.self.now) c.requires

-- What stands at its place and the row are those of the operation, the row stands in the slot of its number, and the window is opened.
pub returns-clause-done : goal.returns-clause-done
unfolding answer_by
returns-clause-done c =
    let e = parts c.args.self.now in
    let x = c.fetch.new in
    let p = c.in_ok-place.place in
    four
    (λ w d t xs.
    Does e (fetch (view_op c.args.op.now) (length c.args.cells.now)) done
    (record {
      board = x.board;
      window = w;
      tracks = x.tracks;
      decoded = record { items = set e.decoded.items p d };
      machine = e.machine;
      table = x.table;
      texts = record { items = set e.texts.items p t };
      rows = record { items = xs };
    }))
    c.open-2.ensures.is c.of.ensures c.of-2.ensures
    (c.open.ensures.is ∙ ap (set e.rows.items _) c.row_of.ensures.is)
    ((c.fetch.ensures.done.admitted p c.in_ok-place.was).admits e c.requires)

pub returns-clause-memory : goal.returns-clause-memory
returns-clause-memory c = c.fetch.ensures.memory (parts c.args.self.now) c.requires
