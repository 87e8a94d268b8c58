use Rattle.program_tests.proofs.tests.over_live.is_same.Given as goal

-- the store that is opened here
abbrev pub ghosts-live_bytes : goal.ghosts-live_bytes
ghosts-live_bytes g a = record { book = a.history.log.book; limits = a.limits }
