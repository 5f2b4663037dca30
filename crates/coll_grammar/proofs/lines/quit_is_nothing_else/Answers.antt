use Rattle.coll_grammar.proofs.HeadLemmas.{same_end}
use Rattle.coll_grammar.proofs.RequestLemmas.{quit_is_no_request}
use Rattle.coll_grammar.proofs.lines.quit_is_nothing_else.Goals as goal

pub returns-clause-heads : goal.returns-clause-heads
returns-clause-heads c = λ line head quit. same_end line quit.0 head (c.line_spells_one_head.ensures line) quit.1 quit.2

pub returns-clause-requests : goal.returns-clause-requests
returns-clause-requests c = λ line block request. quit_is_no_request line block request (c.line_spells_one_head.ensures line)

pub returns-clause-known : goal.returns-clause-known
returns-clause-known c = λ line quit. c.head_is_no_fault.ensures.known line quit.0 quit.1

pub returns-clause-well_formed : goal.returns-clause-well_formed
returns-clause-well_formed c = λ line quit. c.head_is_no_fault.ensures.well_formed line quit.0 quit.1
