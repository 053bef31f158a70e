-- Making, the header, and then the calls or a refusal of each.
use native.Mathlib.Omega.{arith}
use lib.Seq.{length-take-le}
use Rattle.decoding.specs.Machine.{making_lent, entry_at}
use Rattle.calls.proofs.Scripts.{roomy, header-room, making, refused-cells, refused-out, done-valid, done-playable, done-cells, done-out}
use Rattle.calls.proofs.play_script.Goals as goal

pub shape_at-shape-requires : goal.shape_at-shape-requires
shape_at-shape-requires c =
    let q = c.requires in
    let r = roomy q.list_value q.t_value q.lent_in_bounds q.bytes_in_bounds in
    r.long

pub number_at-entry-requires : goal.number_at-entry-requires
number_at-entry-requires c =
    let q = c.requires in
    let r = roomy q.list_value q.t_value q.lent_in_bounds q.bytes_in_bounds in
    omega (arith, r.long)

pub number_at-n-requires : goal.number_at-n-requires
number_at-n-requires c =
    let q = c.requires in
    let r = roomy q.list_value q.t_value q.lent_in_bounds q.bytes_in_bounds in
    omega (arith, r.long)

pub slice_bounds-new-end : goal.slice_bounds-new-end
unfolding making_lent
slice_bounds-new-end c =
    let q = c.requires in
    let r = roomy q.list_value q.t_value q.lent_in_bounds q.bytes_in_bounds in
    omega (arith, c.number_at-n.ensures, r.making)

pub slice_bounds-new-end-2 : goal.slice_bounds-new-end-2
unfolding making_lent
slice_bounds-new-end-2 c =
    let q = c.requires in
    let r = roomy q.list_value q.t_value q.lent_in_bounds q.bytes_in_bounds in
    omega (arith, length-take-le c.number_at-n.result c.args.cells.now (omega (arith, c.number_at-n.ensures, r.making)))

pub put_header-requires : goal.put_header-requires
put_header-requires c =
    let q = c.requires in
    let r = roomy q.list_value q.t_value q.lent_in_bounds q.bytes_in_bounds in
    omega (arith, r.room)

pub refuse_calls-requires : goal.refuse_calls-requires
refuse_calls-requires c =
    let q = c.requires in
    let r = roomy q.list_value q.t_value q.lent_in_bounds q.bytes_in_bounds in
    record { list_value = r.formed; list_in_bounds = header-room r _ c.put_header.ensures }

pub put_header-requires-in-Ok : goal.put_header-requires-in-Ok
put_header-requires-in-Ok c =
    let q = c.requires in
    let r = roomy q.list_value q.t_value q.lent_in_bounds q.bytes_in_bounds in
    omega (arith, r.room)

pub play_calls-requires : goal.play_calls-requires
unfolding making_lent entry_at
play_calls-requires c =
    let q = c.requires in
    let r = roomy q.list_value q.t_value q.lent_in_bounds q.bytes_in_bounds in
    let m = making r c.shape_at-shape.ensures c.number_at-entry.ensures c.number_at-n.ensures c.new.ensures.made c.new.ensures.memory in
    record { valid = done-valid r m c.in-Ok.is; all_playable = done-playable r m c.put_header-in-Ok.ensures }

pub returns-in-Err : goal.returns-in-Err
unfolding making_lent entry_at
returns-in-Err c =
    let q = c.requires in
    let r = roomy q.list_value q.t_value q.lent_in_bounds q.bytes_in_bounds in
    let m = making r c.shape_at-shape.ensures c.number_at-entry.ensures c.number_at-n.ensures c.new.ensures.made c.new.ensures.memory in
    let k = c.in-Err.is in
    record { memory = refused-cells r m k; answers = refused-out r m k c.put_header.ensures c.refuse_calls.ensures }

pub returns-in-Ok : goal.returns-in-Ok
unfolding making_lent entry_at
returns-in-Ok c =
    let q = c.requires in
    let r = roomy q.list_value q.t_value q.lent_in_bounds q.bytes_in_bounds in
    let m = making r c.shape_at-shape.ensures c.number_at-entry.ensures c.number_at-n.ensures c.new.ensures.made c.new.ensures.memory in
    let k = c.in-Ok.is in
    record {
      memory = done-cells r m k c.play_calls.ensures.memory;
      answers = done-out r m k c.put_header-in-Ok.ensures c.play_calls.ensures.answers;
    }
