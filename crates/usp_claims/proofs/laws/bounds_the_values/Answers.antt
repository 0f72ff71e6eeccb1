use Rattle.usp_claims.proofs.Lengths.{number_size, text_size}
use Rattle.usp_claims.proofs.laws.bounds_the_values.Goals as goal

pub returns-clause-number : goal.returns-clause-number
returns-clause-number c n le = number_size n le

pub returns-clause-text : goal.returns-clause-text
returns-clause-text c bytes = text_size bytes
