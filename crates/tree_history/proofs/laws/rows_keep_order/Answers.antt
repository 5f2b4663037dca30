use Rattle.tree_history.proofs.KindLemmas.{empty_order}
use Rattle.tree_history.proofs.KindRows.{keeps_order}
use Rattle.tree_history.proofs.laws.rows_keep_order.Goals as goal

pub returns-clause-made : goal.returns-clause-made
returns-clause-made c = empty_order

pub returns-clause-row : goal.returns-clause-row
returns-clause-row c row attrs tree new answer order is = keeps_order row attrs tree new answer order is
