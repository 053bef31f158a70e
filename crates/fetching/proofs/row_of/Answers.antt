use Rattle.std.proofs.Common.{refl, ap, sym, ◌∙◌, length}
use Rattle.op.specs.declared.chars.Chars.{Chars}
use Rattle.engine.proofs.Fits.{good-text}
use Rattle.fetching.proofs.row_of.Goals as goal

pub returns : goal.returns
returns c =
    rw c.whole.ensures.is
    record {
      is = refl;
      ok =
          record {
            size = ap (λ (t : Chars 64). length t.bytes) (sym c.whole.ensures.is) ∙ c.whole.ensures.size;
            fits = good-text c.args.op.now c.requires;
          };
    }
