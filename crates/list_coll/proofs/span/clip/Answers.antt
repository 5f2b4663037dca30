use Rattle.std.proofs.Common.{arith}
use Rattle.std.proofs.lemmas.Int.{ints, clamps}
use Rattle.list_coll.proofs.span.clip.Goals as goal

pub returns-else-first-last-clause-part : goal.returns-else-first-last-clause-part
returns-else-first-last-clause-part c = grind (arith, ints, clamps, c.if-first-last.false, c.max-first.ensures.value, c.min-last.ensures.value)
