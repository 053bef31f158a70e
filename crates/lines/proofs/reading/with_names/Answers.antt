-- Name by name; one that is empty ends it.
use Rattle.std.proofs.Common.{rules, ◌≡◌, None, Some, ap, sym, ◌∙◌}
use Rattle.std.specs.Prelude.{option_map}
use Rattle.op.specs.View.{view_op}
use Rattle.lines.proofs.Names.{naming-last, naming-next, naming-none}
use Rattle.lines.proofs.reading.with_names.Goals as goal

pub returns-in_err-op : goal.returns-in_err-op
returns-in_err-op c =
    let f : c.from_residual.result ≡ None = search rules in
    ap (option_map view_op) f
    ∙ naming-none c.loop-op.invariant c.place_of-n.ensures c.with_name.ensures (ap (option_map view_op) c.in_err-op.was)

pub returns-then-rest-n : goal.returns-then-rest-n
returns-then-rest-n c =
    naming-last c.loop-op.invariant c.place_of-n.ensures (sym (ap (option_map view_op) c.in_ok-op.was) ∙ c.with_name.ensures) c.if-rest-n.true

pub loop-op-preserved : goal.loop-op-preserved
loop-op-preserved c =
    naming-next c.loop-op.invariant c.place_of-n.ensures (sym (ap (option_map view_op) c.in_ok-op.was) ∙ c.with_name.ensures) c.if-rest-n.false
