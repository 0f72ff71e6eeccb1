use Rattle.usp_json.proofs.PlainLaws.{plain_text, plain_length}
use Rattle.usp_json.proofs.laws.keeps_unescaped_texts.Goals as goal

pub returns-clause-text : goal.returns-clause-text
returns-clause-text c bytes e = plain_text bytes e

pub returns-clause-length : goal.returns-clause-length
returns-clause-length c bytes e = plain_length bytes e
