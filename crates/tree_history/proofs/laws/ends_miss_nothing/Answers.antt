use Rattle.tree_history.proofs.Histories.{law}
use Rattle.tree_history.proofs.laws.ends_miss_nothing.Goals as goal

pub returns : goal.returns
returns c entries ledger is never = law entries ledger is never
