use Rattle.registers.specs.View.{read, written, view_waits}
use Rattle.flight.specs.View.{view_queued}
use Rattle.model.specs.Units.{occupy}
use Rattle.bank.proofs.Steps.{unit_ok, units-set}
use Rattle.bank.proofs.Units.occupy.Goals as goal

pub occupy-requires : goal.occupy-requires
occupy-requires c =
    record {
      unit_ok = unit_ok c.requires.units_ok _ c.requires.at_lt_len;
      queued_ok = c.requires.queued_ok;
      waits_ok = c.requires.waits_ok;
    }

pub returns : goal.returns
returns c =
    let op = c.args.op.now in
    units-set c.requires.units_ok (λ g. occupy (view_queued g op) (read op.operands) (written op.operands) (view_waits c.args.pending)) _
    c.requires.at_lt_len c.occupy.ensures
