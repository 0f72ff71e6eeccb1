use Rattle.usp_shared.proofs.shared.SharedNonces.split.Given as goal

abbrev pub ghosts-split : goal.ghosts-split
ghosts-split a = record { part = a.share }
