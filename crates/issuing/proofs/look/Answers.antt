use Prim.Native.Nat.{ℕ, ◌≤◌, ◌<◌, max}
use mathlib.Core.Path.{refl, sym, ap, ap₂, ◌∙◌}
use mathlib.Core.List.{[]}
use native.Mathlib.Omega.{arith}
use lib.ListN.{length, replicate}
use Rattle.laws.proofs.Slices.{All-take, All-append}
use Rattle.model.specs.Registers.{pad}
use Rattle.registers.specs.View.{read, written, view_claims}
use Rattle.issuing.specs.Steps.{numbers}
use Rattle.registers.proofs.Owing.{claims-length}
use Rattle.op.specs.Chars.{view_text}
use Rattle.std.specs.Prelude.{option_map}
use Rattle.stalls.specs.View.{listed}
use Rattle.bank.specs.View.{slots}
use Rattle.board.specs.View.{boards}
use Rattle.board.proofs.Parts.{state-by}
use Rattle.issuing.proofs.Looking.{pad-count, all-below, through-most, knows_more, known_more, log-more}
use mir.Syntax.{w8}
use borrow.Author.Rules.{elem_Fits}
use Rattle.issuing.proofs.look.Goals as goal

pub pad-requires-clause-len_bound : goal.pad-requires-clause-len_bound
pad-requires-clause-len_bound c =
    let x = c.args.operands in
    let f = c.well_formed.1.0.1.1 in
    let r = all-below 256 x.sources (λ i. (elem_Fits w8 w8 x.sources _ i f.0.1.1 tt).fits) in
    let w = all-below 256 x.destinations (λ i. (elem_Fits w8 w8 x.destinations _ i f.1.0.1.1 tt).fits) in
    let m =
    through-most 256 (numbers x)
    (All-append (λ (k : ℕ). k < 256) (read x) (written x) (All-take (λ (k : ℕ). k < 256) x.sources_len x.sources r)
    (All-take (λ (k : ℕ). k < 256) x.destinations_len x.destinations w))
    in
    omega (arith, m, c.through.ensures)

pub returns : goal.returns
unfolding boards
returns c =
    let b = c.args.board.now in
    let ok = c.requires.board_ok in
    let h = c.pad.ensures in
    let t = c.through.ensures in
    let k =
    sym (claims-length h.ok) ∙ ap length h.is ∙ pad-count (view_claims b.claims) c.through.result [] ∙ ap₂ max (claims-length ok.claims) t
    in
    let more : b.claims.len ≤ c.pad.new.self.len = omega (arith, k) in
    record {
      claims = h.is ∙ ap (λ n. pad (view_claims b.claims) (replicate n [])) t;
      known = k;
      is = λ f. state-by refl refl refl refl refl refl refl (log-more f (option_map view_text b.status) b.log more ok.known);
      ok =
          record {
            units = ok.units;
            queue = ok.queue;
            claims = h.ok;
            log = ok.log;
            offer = ok.offer;
            status = ok.status;
            gone = ok.gone;
            knows = knows_more more (slots b.units) ok.knows;
            known = known_more more (listed b.log.traces) ok.known;
          };
      units = refl;
      queue = refl;
      log = refl;
      offer = refl;
      gone = refl;
    }
