use Rattle.coll_grammar.proofs.HeadLemmas.{one_head}
use Rattle.coll_grammar.proofs.RequestLemmas.{one_request}
use Rattle.coll_grammar.proofs.lines.line_spells_one_head.Goals as goal

pub returns-clause-heads : goal.returns-clause-heads
returns-clause-heads c = λ line one other. one_head line one other (c.line_spells_one_head.ensures line)

pub returns-clause-requests : goal.returns-clause-requests
returns-clause-requests c = λ line block one other. one_request line block one other (c.line_spells_one_head.ensures line)
