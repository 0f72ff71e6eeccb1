use Rattle.usp_rules.proofs.container.finds.Given as goal

abbrev pub ghosts-finds_by : goal.ghosts-finds_by
ghosts-finds_by a = record { name = a.blank.name; parts = a.blank.parts }
