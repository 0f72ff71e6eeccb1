use Rattle.usp_shared.proofs.shared.SharedNonces.take.Given as goal

abbrev pub ghosts-take : goal.ghosts-take
ghosts-take g a = record { nonce = a.ask.key }
