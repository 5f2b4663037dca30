use Rattle.map_coll.proofs.ChosenLemmas.{HasChosen}
use Rattle.map_coll.proofs.pairs.MapColl.chosen.Given as goal

-- the places of the names so far are chosen
abbrev pub invariant-loop-field : goal.invariant-loop-field
invariant-loop-field l = HasChosen l.yielded l.self.pairs l.places l.seen.items
