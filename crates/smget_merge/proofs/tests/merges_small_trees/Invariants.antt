use Rattle.smget_merge.proofs.tests.merges_small_trees.Given as goal

abbrev pub ghosts-check_read : goal.ghosts-check_read
ghosts-check_read g a = record { name = a.blank.name; parts = a.blank.parts }
