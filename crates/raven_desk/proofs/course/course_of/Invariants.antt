use Rattle.raven_desk.proofs.course.course_of.Given as goal

abbrev pub ghosts-pumped : goal.ghosts-pumped
ghosts-pumped g a = record { name = a.blank.name; parts = a.blank.parts }

abbrev pub ghosts-found : goal.ghosts-found
ghosts-found g a = record { name = a.blank.name; parts = a.blank.parts }
