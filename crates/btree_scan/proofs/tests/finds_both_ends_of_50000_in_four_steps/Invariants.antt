use Rattle.btree_scan.proofs.tests.finds_both_ends_of_50000_in_four_steps.Given as goal

abbrev pub ghosts-check_mixed : goal.ghosts-check_mixed
ghosts-check_mixed g a = record { name = a.blank.name; parts = a.blank.parts }
