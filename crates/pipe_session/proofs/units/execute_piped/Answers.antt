use Rattle.std.proofs.Common.{refl}
use Rattle.arc_core.specs.PlainRequest.{plain}
use Rattle.pipe_session.specs.Handling.{stand}
use Rattle.pipe_session.proofs.Behind.{goes_on_by, goes_on_badly}
use Rattle.pipe_session.proofs.Piped.{piped_is_a_change}
use Rattle.pipe_session.proofs.units.execute_piped.Goals as goal

pub take_request-requires-clause-piped : goal.take_request-requires-clause-piped
take_request-requires-clause-piped g c = piped_is_a_change c.args.head c.args.block.now (plain c.in-Ok.request) c.requires.piped c.in-Ok.ensures

pub returns-in-Ok : goal.returns-in-Ok
returns-in-Ok g c =
    goes_on_by c.args.head c.args.block.now g.D.Desk.answers (stand c.args.desk.now (g.C.Clock.coming c.args.clock.now) c.args.owed.now.text c.args.owed.now.run) (stand c.take_request.new.desk (g.C.Clock.coming c.take_request.new.clock) c.take_request.new.owed.text c.take_request.new.owed.run) (plain c.in-Ok.request) c.in-Ok.ensures c.take_request.ensures.goes_on

pub returns-in-Err : goal.returns-in-Err
returns-in-Err g c =
    goes_on_badly c.args.head c.args.block.now g.D.Desk.answers (stand c.args.desk.now (g.C.Clock.coming c.args.clock.now) c.args.owed.now.text c.args.owed.now.run) (stand c.args.desk.now (g.C.Clock.coming c.args.clock.now) c.take_word.new.owed.text c.take_word.new.owed.run) c.in-Err.ensures c.take_word.ensures.takes refl refl c.take_word.ensures.text
