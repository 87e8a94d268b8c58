use Rattle.trace_server.proofs.serving.serve_with.Given as goal

-- the store that is opened here
abbrev pub ghosts-serve_named : goal.ghosts-serve_named
ghosts-serve_named g a = record { book = a.history.log.book; limits = a.limits }
