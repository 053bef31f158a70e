-- A line of fewer than five words is not of the form; of the others the words decide in order.
use Rattle.std.proofs.Common.{rules, ◌≡◌, None, Some, ap, sym, refl, ◌∙◌}
use Rattle.std.specs.Prelude.{option_map}
use Rattle.op.specs.View.{view_op}
use Rattle.lines.specs.Held.{read_list}
use Rattle.lines.proofs.Parsed.{unparsed, parsed}
use Rattle.lines.proofs.read_op.Goals as goal

pub returns-then-three-end : goal.returns-then-three-end
returns-then-three-end c =
    sym (unparsed _ c.beyond-one.ensures c.beyond-two.ensures c.beyond-three.ensures c.place_of-end.ensures _ c.if-three-end.true)

pub returns-in_err-started : goal.returns-in_err-started
unfolding read_list
returns-in_err-started c =
    let f : c.from_residual.result ≡ None = search rules in
    let u : None ≡ option_map view_op c.start.result = sym (ap (option_map view_op) c.in_err-started.was) in
    ap (option_map view_op) f
    ∙ parsed _ c.beyond-one.ensures c.beyond-two.ensures c.beyond-three.ensures c.place_of-end.ensures _ c.if-three-end.false
    c.before-class.ensures c.before-size.ensures c.beyond-text.ensures refl (u ∙ c.start.ensures) refl refl

pub returns-in_err-op : goal.returns-in_err-op
unfolding read_list
returns-in_err-op c =
    let f : c.from_residual-in_err-op.result ≡ None = search rules in
    let u : Some (view_op c.in_ok-started.started) ≡ option_map view_op c.start.result = sym (ap (option_map view_op) c.in_ok-started.was) in
    let v : None ≡ option_map view_op c.with_list.result = sym (ap (option_map view_op) c.in_err-op.was) in
    ap (option_map view_op) f
    ∙ parsed _ c.beyond-one.ensures c.beyond-two.ensures c.beyond-three.ensures c.place_of-end.ensures _ c.if-three-end.false
    c.before-class.ensures c.before-size.ensures c.beyond-text.ensures c.before-reads.ensures
    (u ∙ c.start.ensures) (v ∙ c.with_list.ensures) refl

pub returns : goal.returns
returns c =
    let u : Some (view_op c.in_ok-started.started) ≡ option_map view_op c.start.result = sym (ap (option_map view_op) c.in_ok-started.was) in
    let v : Some (view_op c.in_ok-op.op) ≡ option_map view_op c.with_list.result = sym (ap (option_map view_op) c.in_ok-op.was) in
    parsed _ c.beyond-one.ensures c.beyond-two.ensures c.beyond-three.ensures c.place_of-end.ensures _ c.if-three-end.false
    c.before-class.ensures c.before-size.ensures c.beyond-text.ensures c.before-reads.ensures
    (u ∙ c.start.ensures) (v ∙ c.with_list.ensures) c.with_list-2.ensures
