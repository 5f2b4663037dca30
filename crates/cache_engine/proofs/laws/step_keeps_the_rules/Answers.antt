use Rattle.cache_engine.proofs.RulesKept.{step_keeps}
use Rattle.cache_engine.proofs.laws.step_keeps_the_rules.Goals as goal

pub returns : goal.returns
returns c = step_keeps
