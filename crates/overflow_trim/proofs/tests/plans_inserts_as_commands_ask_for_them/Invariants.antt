use Rattle.overflow_trim.proofs.tests.plans_inserts_as_commands_ask_for_them.Given as goal

abbrev pub ghosts-check_row : goal.ghosts-check_row
ghosts-check_row g a = record { name = a.blank.name; parts = a.blank.parts }
