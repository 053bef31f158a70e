-- The calls about a result, by parts: each is that of every engine with these parts.
use Rattle.std.specs.Prelude.{ℕ}
use Rattle.laws.specs.Texts.{Text}
use Rattle.model.specs.Calls.{Answer, start, retire, retry, resolve}
use Rattle.flight.specs.declared.pool.DecodedPool.{DecodedPool}
use Rattle.board.specs.declared.Board.{Board}
use Rattle.engine.specs.Engine.{Engine, with_board}
use Rattle.engine.specs.Valid.{Valid}
use Rattle.engine.specs.Calls.{Does}

-- The engine with this board and this pool, else as it is.
abbrev pub with_pool : Board → DecodedPool → Engine → Engine
with_pool b ds e =
    record {
      board = b;
      window = e.window;
      tracks = e.tracks;
      decoded = ds;
      machine = e.machine;
      table = e.table;
      texts = e.texts;
      rows = e.rows;
    }

abbrev pub StartsCycle : Board → DecodedPool → Answer → Board → Type 0
StartsCycle b ds a r = (e : Engine) → Valid (with_pool b ds e) → Does (with_pool b ds e) start a (with_pool r ds e)

abbrev pub Retires : Board → Answer → Board → Type 0
Retires b a r = (e : Engine) → Valid (with_board b e) → Does (with_board b e) retire a (with_board r e)

abbrev pub Retries : Board → Text → Answer → Board → Type 0
Retries b reason a r = (e : Engine) → Valid (with_board b e) → Does (with_board b e) (retry reason) a (with_board r e)

abbrev pub Resolves : Board → DecodedPool → ℕ → Answer → Type 0
Resolves b ds actual a = (e : Engine) → Valid (with_pool b ds e) → Does (with_pool b ds e) (resolve actual) a (with_pool b ds e)
