use Rattle.intake_tests.proofs.tests.rows.plays.Given as goal

-- the store that was just opened
abbrev pub ghosts-played : goal.ghosts-played
ghosts-played g a = record { book = a.name.log.book; limits = a.limits }
