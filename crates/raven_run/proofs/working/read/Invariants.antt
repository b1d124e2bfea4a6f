use Rattle.raven_run.proofs.working.read.Given as goal

abbrev pub ghosts-batch_of : goal.ghosts-batch_of
ghosts-batch_of g a = record { name = a.blank.name; parts = a.blank.parts }
