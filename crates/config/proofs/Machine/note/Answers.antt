-- One kind has another capacity; a change that is not refused fits.
use Rattle.std.proofs.Common.{get_or, arith, ◌≡◌, max}
use Rattle.config.proofs.Specs.{changed}
use Rattle.config.proofs.Machines.{spare, specs-read, change_there, change_most, noted-means}
use Rattle.config.proofs.Machine.note.Goals as goal

pub returns : goal.returns
returns c =
    let i = c.args.kind in
    let n = c.args.instances in
    let ok = c.requires.machine_ok in
    let e = c.requires.self_value in
    let m : c.max.result ≡ max 1 n = omega arith in
    noted-means ok i n e (changed (get_or c.args.self.now.specs i spare) n (specs-read ok (change_there ok i n e)) m (change_most ok i n e))
