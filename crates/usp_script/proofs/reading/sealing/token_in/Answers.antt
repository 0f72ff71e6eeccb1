use Rattle.usp_rules.specs.Tokens.{SpellsClaims}
use Rattle.usp_script.proofs.Forms.{claims_short}
use Rattle.usp_script.proofs.reading.sealing.token_in.Goals as goal

pub seal_claims-requires : goal.seal_claims-requires
seal_claims-requires c =
    let spells : SpellsClaims c.in-Some.claims.now c.in-Some-2.claims = rw c.in-Some-2.is at c.in_ok-claims.ensures in
    claims_short c.in-Some.claims.now c.in-Some-2.claims spells
