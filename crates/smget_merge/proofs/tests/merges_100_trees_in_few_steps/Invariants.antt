use Rattle.smget_merge.proofs.tests.merges_100_trees_in_few_steps.Given as goal

abbrev pub ghosts-check_hundred : goal.ghosts-check_hundred
ghosts-check_hundred g a = record { name = a.blank.name; parts = a.blank.parts }
