use Rattle.usp_conf.proofs.Sound.{attribute, apart, named, found}
use Rattle.usp_conf.proofs.laws.configures_what_signing_needs.Goals as goal

pub returns-clause-attribute : goal.returns-clause-attribute
returns-clause-attribute c = attribute

pub returns-clause-apart : goal.returns-clause-apart
returns-clause-apart c = apart

pub returns-clause-named : goal.returns-clause-named
returns-clause-named c = named

pub returns-clause-found : goal.returns-clause-found
returns-clause-found c = found
