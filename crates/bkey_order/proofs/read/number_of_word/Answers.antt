use Rattle.std.proofs.Common.{sym}
use Rattle.bkey_order.proofs.NumberLemmas.{no_fault}
use Rattle.bkey_order.proofs.read.number_of_word.Goals as goal

pub returns-in-Some-clause-fault : goal.returns-in-Some-clause-fault
returns-in-Some-clause-fault c = no_fault c.in-Some.number c.args.word.now (sym c.in-Some.ensures.value)
