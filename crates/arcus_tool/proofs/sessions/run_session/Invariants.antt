use Rattle.arcus_tool.proofs.sessions.run_session.Given as goal

-- the borrows that are passed
abbrev pub ghosts-serve_pair : goal.ghosts-serve_pair
ghosts-serve_pair g a = record { source = a.pair.source.ghost_name; sink = a.pair.sink.ghost_name }
