use Rattle.btree_scan.proofs.tests.reads_each_kind_of_range.Given as goal

abbrev pub ghosts-check_ranges : goal.ghosts-check_ranges
ghosts-check_ranges g a = record { name = a.blank.name; parts = a.blank.parts }
