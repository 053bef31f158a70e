use mathlib.Core.List.{[], ◌∷◌, ◌++◌}
use native.Mathlib.Omega.{arith}
use lib.ListN.{length-append}
use Rattle.bank.specs.View.{places}
use Rattle.bank.proofs.Steps.{places-length}
use Rattle.places.specs.Places.{queue_places}
use Rattle.places.proofs.Marks.{marked_more, queue_places-length}
use Rattle.places.proofs.free_place.Goals as goal

pub returns : goal.returns
returns c =
    let units = c.args.units.now in
    let list = places units ++ queue_places c.args.queue.now in
    c.first_free.ensures (list ++ c.args.gone ∷ [])
    (marked_more (c.and_queue-places.ensures (places units) c.of_units.ensures) c.requires.gone_bound)
    (omega (
      arith,
      places-length c.requires.units_ok,
      queue_places-length c.requires.queue_ok,
      length-append (places units) (queue_places c.args.queue.now),
      length-append list (c.args.gone ∷ []),
      c.requires.len_bound,
    ))
