use mathlib.Core.Path.{◌≡◌}
use Rattle.std.specs.Prelude.{Err}
use native.Mathlib.Omega.{arith}
use Rattle.places.specs.Places.{queue_places}
use Rattle.board.specs.Promises.{placing}
use Rattle.fetching.proofs.Fetches.{operation_fine}
use Rattle.fetching.proofs.Taking.{refused_first, kept_first, refused_last, kept_last, room_left, few_left, room_there, admits, row_opened}
use Rattle.std.proofs.Common.{rules}
use Rattle.fetching.proofs.fetch.Goals as goal

pub returns-in_err-fetch : goal.returns-in_err-fetch
returns-in_err-fetch c =
    let f : c.from_residual.result ≡ Err c.in_err-fetch.field-0.0 = search rules in
    record { done = refused_first c.args.op.now f c.in_err-fetch.ensures; memory = kept_first c.args.op.now c.args.cells.now c.in_err-fetch.ensures }

pub resolve-requires-clause-op_value : goal.resolve-requires-clause-op_value
resolve-requires-clause-op_value c = (operation_fine c.args.board.now c.args.window.next c.args.op.now c.in_ok-fetch.ensures).0

pub resolve-requires-clause-op_value_2 : goal.resolve-requires-clause-op_value_2
resolve-requires-clause-op_value_2 c = (operation_fine c.args.board.now c.args.window.next c.args.op.now c.in_ok-fetch.ensures).1

pub returns-in_err-operands : goal.returns-in_err-operands
returns-in_err-operands c =
    let f : c.from_residual-in_err-operands.result ≡ Err c.in_err-operands.field-0.0 = search rules in
    record {
      done = refused_last c.args.op.now c.in_ok-fetch.ensures c.resolve.ensures f c.in_err-operands.was;
      memory = kept_last c.args.op.now c.args.cells.now c.in_ok-fetch.ensures c.resolve.ensures c.in_err-operands.was;
    }

pub free_place-place-requires-clause-len_bound : goal.free_place-place-requires-clause-len_bound
free_place-place-requires-clause-len_bound c = few_left c.args.op.now c.in_ok-fetch.ensures c.resolve.ensures c.in_ok-operands.was c.requires

pub push_back-requires-clause-len_bound : goal.push_back-requires-clause-len_bound
push_back-requires-clause-len_bound c = omega (arith, room_left c.args.op.now c.in_ok-fetch.ensures c.resolve.ensures c.in_ok-operands.was c.requires)

pub open-requires-clause-history_in_bounds : goal.open-requires-clause-history_in_bounds
open-requires-clause-history_in_bounds c = room_there c.args.op.now c.in_ok-fetch.ensures c.resolve.ensures c.in_ok-operands.was c.requires

pub returns : goal.returns
unfolding placing queue_places
returns c =
    let o = c.args.op.now in
    let h = c.in_ok-fetch.ensures in
    let k = c.resolve.ensures in
    let i = c.in_ok-operands.was in
    record {
      done =
          admits o h k i c.requires c.free_place-place.ensures c.latency-latency.ensures c.queued.ensures c.push_back.ensures
          c.open.ensures.tracks c.sequential_address-board.ensures c.has_64_bytes.ensures;
      memory = row_opened o c.args.cells.now h k i c.open.ensures.memory;
    }
