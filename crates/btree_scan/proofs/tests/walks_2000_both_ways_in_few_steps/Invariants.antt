use Rattle.btree_scan.proofs.tests.walks_2000_both_ways_in_few_steps.Given as goal

abbrev pub ghosts-check_walks : goal.ghosts-check_walks
ghosts-check_walks g a = record { name = a.blank.name; parts = a.blank.parts }
