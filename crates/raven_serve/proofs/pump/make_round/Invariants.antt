use Rattle.raven_serve.proofs.pump.make_round.Given as goal

abbrev pub ghosts-batches : goal.ghosts-batches
ghosts-batches g a = record { name = a.blank.name; parts = a.blank.parts }
