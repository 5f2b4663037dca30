use Rattle.arcus_tool.proofs.Ending.{never_began}
use Rattle.arcus_tool.proofs.sessions.run_session.Goals as goal

pub returns-in_default : goal.returns-in_default
returns-in_default g c = never_began _ _ c.keeps_the_rules.ensures
