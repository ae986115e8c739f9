use Rattle.pw_program.proofs.running.run_asked.Given as goal

-- the period that the words name
abbrev pub ghosts-run_nth : goal.ghosts-run_nth
ghosts-run_nth g a = record { period = a.n }
