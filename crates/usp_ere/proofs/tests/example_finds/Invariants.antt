use Rattle.usp_ere.proofs.tests.example_finds.Given as goal

abbrev pub ghosts-example : goal.ghosts-example
ghosts-example a = record { name = a.blank.name; parts = a.blank.parts }
