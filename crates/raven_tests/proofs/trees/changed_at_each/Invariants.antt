use Rattle.raven_tests.proofs.trees.changed_at_each.Given as goal

abbrev pub ghosts-changed : goal.ghosts-changed
ghosts-changed a = record { name = a.blank.name; parts = a.blank.parts }
