use Rattle.std.proofs.Common.{refl}
use Rattle.usp_claims.proofs.Decimals.{text_set, either_set, number_set}
use Rattle.usp_claims.specs.declared.table.ClaimName.TheVariants.{Exp, Iat, Iss, Uc}
use Rattle.usp_claims.proofs.laws.stays_a_claim_set.Goals as goal

pub returns-clause-iss : goal.returns-clause-iss
returns-clause-iss c bytes m set = text_set 0 Iss bytes m refl set

pub returns-clause-aud : goal.returns-clause-aud
returns-clause-aud c bytes m set = either_set bytes m set

pub returns-clause-uc : goal.returns-clause-uc
returns-clause-uc c bytes m set = text_set 10 Uc bytes m refl set

pub returns-clause-exp : goal.returns-clause-exp
returns-clause-exp c n m le set = number_set 3 Exp n m refl le set

pub returns-clause-iat : goal.returns-clause-iat
returns-clause-iat c n m le set = number_set 5 Iat n m refl le set
