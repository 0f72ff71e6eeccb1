use Rattle.usp_issue.proofs.Replacing as replacing
use Rattle.usp_issue.proofs.laws.changes_few_claims.Goals as goal

pub returns-clause-period : goal.returns-clause-period
returns-clause-period c = replacing.renewed_exp

pub returns-clause-renewed_issuer : goal.returns-clause-renewed_issuer
returns-clause-renewed_issuer c = replacing.renewed_iss

pub returns-clause-renewed_moment : goal.returns-clause-renewed_moment
returns-clause-renewed_moment c = replacing.renewed_iat

pub returns-clause-others : goal.returns-clause-others
returns-clause-others c = replacing.renewed_other

pub returns-clause-audience : goal.returns-clause-audience
returns-clause-audience c m content moment route claims h = (replacing.resigns_says m content moment route claims h).aud

pub returns-clause-issuer : goal.returns-clause-issuer
returns-clause-issuer c m content moment route claims h = (replacing.resigns_says m content moment route claims h).iss

pub returns-clause-moment : goal.returns-clause-moment
returns-clause-moment c = replacing.resigned_iat

pub returns-clause-container : goal.returns-clause-container
returns-clause-container c m content moment route claims h = (replacing.resigns_says m content moment route claims h).container

pub returns-clause-rest : goal.returns-clause-rest
returns-clause-rest c m content moment route claims name h aud iss iat uc = (replacing.resigns_says m content moment route claims h).others name aud iss iat uc
