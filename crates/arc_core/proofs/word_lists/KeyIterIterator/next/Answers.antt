use Rattle.arc_core.proofs.KeyWordLemmas.{AreKeys-left, AreKeys-first}
use Rattle.arc_core.proofs.word_lists.KeyIterIterator.next.Goals as goal

pub invariant_of-self : goal.invariant_of-self
invariant_of-self c = AreKeys-first c.self.inside.first c.take.new.self c.self.inside.words c.take.ensures.after c.self.invariant

pub invariant_of-self-in-None : goal.invariant_of-self-in-None
invariant_of-self-in-None c =
    AreKeys-left c.self.inside.first c.take.new.self c.self.inside.words c.next.new.self c.next.result (c.in-None.ensures.value) c.take.ensures.after c.next.ensures.steps c.self.invariant
