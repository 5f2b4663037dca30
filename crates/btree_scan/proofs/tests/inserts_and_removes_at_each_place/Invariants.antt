use Rattle.btree_scan.proofs.tests.inserts_and_removes_at_each_place.Given as goal

abbrev pub ghosts-check_places : goal.ghosts-check_places
ghosts-check_places g a = record { name = a.blank.name; parts = a.blank.parts }
