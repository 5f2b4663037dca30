use Rattle.overflow_trim.proofs.plans.plan.Given as goal

abbrev pub ghosts-plan_in : goal.ghosts-plan_in
ghosts-plan_in a = record { name = a.blank.name; parts = a.blank.parts }
