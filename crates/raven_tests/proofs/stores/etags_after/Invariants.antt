use Rattle.raven_tests.proofs.stores.etags_after.Given as goal

abbrev pub ghosts-first_rows : goal.ghosts-first_rows
ghosts-first_rows a = record { name = a.blank.name; parts = a.blank.parts }
