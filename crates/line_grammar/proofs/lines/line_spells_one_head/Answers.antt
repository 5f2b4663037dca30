use Rattle.line_grammar.proofs.LineLemmas.{one_head}
use Rattle.line_grammar.proofs.lines.line_spells_one_head.Goals as goal

pub returns : goal.returns
returns c = one_head
