use Rattle.arc_core.specs.PlainRequest.{plain}
use Rattle.turn_lock.specs.Seats.{entry_by}
use Rattle.turn_lock.proofs.lock.TurnLock.execute.Given as goal

abbrev pub ghosts-pass : goal.ghosts-pass
ghosts-pass g a = record { entry = entry_by a.place.now.me.0 a._session a._now (plain a._request.now) a._reply.now }
