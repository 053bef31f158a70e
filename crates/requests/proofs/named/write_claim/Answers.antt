-- The register of a claim is known.
use Rattle.words.proofs.Shown.{wrote-is, wrote_nothing}
use Rattle.requests.proofs.Known.{claim-there, claim-past}
use Rattle.requests.proofs.named.write_claim.Goals as goal

pub returns-in-Some : goal.returns-in-Some
returns-in-Some c = wrote-is (claim-there c.requires.claims_ok c.args.table.now c.args.index c.outstanding.ensures c.in-Some.is) c.write_register.ensures

pub returns-in-None : goal.returns-in-None
returns-in-None c = wrote_nothing _ (claim-past c.requires.claims_ok c.args.table.now c.args.index c.outstanding.ensures c.in-None.is)
