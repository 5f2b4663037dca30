use Rattle.arc_core.proofs.SpelledLimits.{keeps_limits}
use Rattle.arc_core.proofs.laws.spelled_requests_keep_limits.Goals as goal

pub returns : goal.returns
returns c = keeps_limits
