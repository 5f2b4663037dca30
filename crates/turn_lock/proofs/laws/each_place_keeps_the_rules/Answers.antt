use Rattle.turn_lock.proofs.Histories.{each_place}
use Rattle.turn_lock.proofs.laws.each_place_keeps_the_rules.Goals as goal

pub returns : goal.returns
returns c = each_place
