use Rattle.coll_grammar.proofs.HeadLemmas.{head_is_well_formed}
use Rattle.coll_grammar.proofs.lines.head_is_no_fault.Goals as goal

pub returns-clause-well_formed : goal.returns-clause-well_formed
returns-clause-well_formed c = λ line head. head_is_well_formed line head (c.head_is_no_fault.ensures.well_formed line)
