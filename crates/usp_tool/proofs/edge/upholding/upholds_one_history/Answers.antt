use Rattle.usp_nonce.proofs.Legal.{no_nonce_twice}
use Rattle.usp_tool.proofs.Serving.Overall.{upholds}
use Rattle.usp_tool.proofs.edge.upholding.upholds_one_history.Goals as goal

pub returns-clause-upholds : goal.returns-clause-upholds
returns-clause-upholds c = upholds

pub returns-clause-once : goal.returns-clause-once
returns-clause-once c = λ conf n notes all. no_nonce_twice conf.room all.history all.legal
