use Rattle.line_grammar.proofs.LineLemmas.{head_is_known, head_is_well_formed}
use Rattle.line_grammar.proofs.lines.head_is_no_fault.Goals as goal

pub returns-clause-known : goal.returns-clause-known
returns-clause-known c = head_is_known

pub returns-clause-well_formed : goal.returns-clause-well_formed
returns-clause-well_formed c = head_is_well_formed
