use Rattle.usp_jws.proofs.TokenLetters.{token_some, token_letters}
use Rattle.usp_jws.proofs.laws.tokens_have_letters.Goals as goal

pub returns-clause-some : goal.returns-clause-some
returns-clause-some c = token_some

pub returns-clause-letters : goal.returns-clause-letters
returns-clause-letters c = token_letters
