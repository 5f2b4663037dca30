use Rattle.arcus_tool.proofs.Completeness.{is_complete}
use Rattle.arcus_tool.proofs.Ending.{never_began}
use Rattle.arcus_tool.proofs.Opening.{opening_keeps_the_rules}
use Rattle.arcus_tool.proofs.sessions.session.Goals as goal

pub returns-in-Ok-clause-complete : goal.returns-in-Ok-clause-complete
returns-in-Ok-clause-complete g c = is_complete c.beginnings_agree.ensures c.rest_begins_with_no_unit.ensures c.units_stay.ensures _ _ _ _ c.run_session.ensures

pub returns-in-Err-clause-session : goal.returns-in-Err-clause-session
returns-in-Err-clause-session g c = never_began _ _ (opening_keeps_the_rules _ _)
