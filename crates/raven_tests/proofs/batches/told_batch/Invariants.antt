use Rattle.raven_tests.proofs.batches.told_batch.Given as goal

abbrev pub ghosts-brought : goal.ghosts-brought
ghosts-brought g a = record { name = a.blank.name; parts = a.blank.parts }
