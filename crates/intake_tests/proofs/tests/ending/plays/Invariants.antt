use Rattle.intake_tests.proofs.tests.ending.plays.Given as goal

-- the store that was just opened
abbrev pub ghosts-round : goal.ghosts-round
ghosts-round g a = record { book = a.name.log.book; limits = a.limits }
