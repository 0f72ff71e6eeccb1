use Rattle.usp_trace.proofs.Origins as origins
use Rattle.usp_trace.proofs.laws.follows_the_links.Goals as goal

pub returns-clause-granted : goal.returns-clause-granted
returns-clause-granted c = origins.granted_origin

pub returns-clause-renewed : goal.returns-clause-renewed
returns-clause-renewed c = origins.renewed_origin

pub returns-clause-kept : goal.returns-clause-kept
returns-clause-kept c = origins.kept_origin

pub returns-clause-narrowed : goal.returns-clause-narrowed
returns-clause-narrowed c = origins.narrowed_origin
