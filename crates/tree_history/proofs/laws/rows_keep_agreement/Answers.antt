use Rattle.tree_history.proofs.Histories.{misses_nothing}
use Rattle.tree_history.proofs.RowLemmas.{row_keeps}
use Rattle.tree_history.proofs.laws.rows_keep_agreement.Goals as goal

pub returns-clause-row : goal.returns-clause-row
returns-clause-row c row old new agrees never is = row_keeps row old new agrees never is

pub returns-clause-read : goal.returns-clause-read
returns-clause-read c ledger agrees = misses_nothing ledger agrees
