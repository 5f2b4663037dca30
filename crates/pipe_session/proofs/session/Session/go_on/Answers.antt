use Rattle.pipe_session.proofs.session.Session.go_on.Goals as goal

pub returns-in-Ended : goal.returns-in-Ended
returns-in-Ended g c = λ began desk coming deeds so. c.over_at_end.ensures began desk _ _ coming _ _ deeds so
