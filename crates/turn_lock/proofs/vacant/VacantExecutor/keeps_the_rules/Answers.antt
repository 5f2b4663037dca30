use Rattle.std.proofs.Common.{arith}
use Rattle.turn_lock.proofs.Trials.{vacant_rules}
use Rattle.turn_lock.proofs.vacant.VacantExecutor.keeps_the_rules.Goals as goal

pub returns : goal.returns
returns c = vacant_rules c.args.self.now.latest (omega arith)
