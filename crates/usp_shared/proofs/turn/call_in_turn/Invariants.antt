use Rattle.usp_nonce.specs.Stands.{call_of}
use Rattle.usp_shared.proofs.turn.call_in_turn.Given as goal

abbrev pub ghosts-commit : goal.ghosts-commit
ghosts-commit g a = record { call = call_of g.A.Asked.nonce a.now a.until a.turned }
