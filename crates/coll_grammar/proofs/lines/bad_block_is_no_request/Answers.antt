use Rattle.coll_grammar.proofs.RequestLemmas.{bad_block_is_no_request}
use Rattle.coll_grammar.proofs.lines.bad_block_is_no_request.Goals as goal

pub returns : goal.returns
returns c = λ line block request. bad_block_is_no_request line block request (c.line_spells_one_head.ensures line)
