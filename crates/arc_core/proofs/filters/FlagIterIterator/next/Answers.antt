use Rattle.arc_core.proofs.FilterValueLemmas.{AreFlags-left}
use Rattle.arc_core.proofs.filters.FlagIterIterator.next.Goals as goal

pub invariant_of-self-2 : goal.invariant_of-self-2
invariant_of-self-2 c = AreFlags-left c.self.inside.parts c.next.new.self c.next.result c.next.ensures.steps c.self.invariant
