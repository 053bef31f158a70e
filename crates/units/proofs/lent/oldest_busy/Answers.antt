use Rattle.std.proofs.Common.{rules, ◌≡◌, ◌∙◌, ap, sym, option_map, Option, List, drop, ◌+◌}
use Rattle.units.specs.declared.lent.Best.{Best}
use Rattle.units.specs.Lent.{best_from, oldest_busy}
use Rattle.units.proofs.OldestIs.{best-end, best-took, best-stays}
use Rattle.laws.proofs.Tests.{and_no, and-next}
use Rattle.units.specs.declared.Unit.{Unit}
use Rattle.units.proofs.lent.oldest_busy.Goals.{then-unit+then-is_none_or, else-unit, else-unit-via-then-unit+else-is_none_or, else-unit-via-else-unit}
use Rattle.units.proofs.lent.oldest_busy.Goals as goal

pub loop-at-preserved : goal.loop-at-preserved
loop-at-preserved c =
    let us : List Unit = c.args.units.now in
    elim c.if-unit.branch [
      | then-unit+then-is_none_or w ↦
          ap (λ (b : Option Best). best_from (c.loop-at.at + 1) b (drop (c.loop-at.at + 1) us)) w.best-is
          ∙ best-took us c.loop-at.best _ c.loop-at-test.true w.if-unit.true (search rules)
          ∙ c.loop-at.invariant
      | else-unit w ↦
          ap (λ (b : Option Best). best_from (c.loop-at.at + 1) b (drop (c.loop-at.at + 1) us)) w.best-is
          ∙ elim w.else-unit.branch [
            | else-unit-via-then-unit+else-is_none_or v ↦ best-stays us c.loop-at.best _ c.loop-at-test.true (and-next _ v.if-unit.true ∙ search rules)
            | else-unit-via-else-unit v ↦ best-stays us c.loop-at.best _ c.loop-at-test.true (and_no _ v.if-unit.false)
          ]
          ∙ c.loop-at.invariant
    ]

pub returns : goal.returns
unfolding oldest_busy
returns c =
    let e : c.map.result ≡ option_map (λ (x : Best). x.at) c.loop-at.best = search rules in
    e ∙ ap (option_map (λ (x : Best). x.at)) (sym (best-end _ _ c.loop-at-test.false) ∙ c.loop-at.invariant)
