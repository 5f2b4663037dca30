use Rattle.std.proofs.Common.{◌∙◌}
use Rattle.worker_server.proofs.Running.{begins, goes_on, at_limit, closed, failed, refused, lock_stays}
use Rattle.worker_server.proofs.worker.run_worker.Goals as goal

pub loop-worker-init : goal.loop-worker-init
loop-worker-init g c = begins _ _

pub serve_session-end-requires : goal.serve_session-end-requires
serve_session-end-requires g c = lock_stays _ _ _ c.loop-worker.invariant ∙ c.requires

pub loop-worker-preserved : goal.loop-worker-preserved
loop-worker-preserved g c =
    goes_on _ _ _ _ _ c.in-Link.link c.serve_session-end.new.link c.serve_session-end.new.seat _ c.serve_session-end.result c.loop-worker.invariant c.in-Link.ensures.offers c.serve_session-end.ensures
    c.done.ensures c.loop-worker-test.true

pub returns-in-Closed : goal.returns-in-Closed
returns-in-Closed g c = closed _ _ _ _ c.loop-worker.invariant c.in-Closed.ensures.offers

pub returns-in-Failed : goal.returns-in-Failed
returns-in-Failed g c = failed _ _ _ _ c.loop-worker.invariant c.in-Failed.ensures.offers

pub returns-in-NoMemory : goal.returns-in-NoMemory
returns-in-NoMemory g c = refused _ _ _ _ c.loop-worker.invariant c.in-NoMemory.ensures.offers

pub returns : goal.returns
returns g c = at_limit _ _ _ c.loop-worker.invariant c.loop-worker-test.false
