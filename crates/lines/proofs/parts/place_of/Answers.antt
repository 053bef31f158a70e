-- The place that is found, or the end.
use Rattle.std.proofs.Common.{◌≡◌, ℕ, ◌==◌, length, sym, subst}
use Rattle.std.specs.Prelude.{unwrap_or}
use Rattle.std.specs.List.{position_from}
use Rattle.lines.specs.Cut.{Cut}
use Rattle.lines.proofs.Cut.{cut_found}
use Rattle.lines.proofs.parts.place_of.Goals as goal

pub returns : goal.returns
returns c =
    let b = c.args.b in
    let s = c.args.s.now in
    let e : c.unwrap_or.result ≡ unwrap_or (position_from (λ (x : ℕ). x == b) 0 s) (length s) = cc in
    subst (λ (i : ℕ). Cut b s i) (sym e) (cut_found b s)
