use Rattle.std.proofs.Common.{refl}
use Rattle.arcus_tool.proofs.Running.{as_asked, ran_on_pollers, ran_on_ports}
use Rattle.arcus_tool.proofs.serving.serve.Goals as goal

pub returns-then-job : goal.returns-then-job
returns-then-job g c = λ incoming.
    ran_on_pollers _ _ _ _ _ c.args.job.now _ _ _ _ c.if-job.true c.serve_status.ensures refl refl
    (as_asked _ _ _ _ _ _ _ _ _ _ _ _ _ _ _ c.in-Ok.ensures c.serving-serving.ensures.workers c.serving-serving.ensures.sessions c.requires.4 c.serve_pollers.ensures)

pub returns : goal.returns
returns g c = λ incoming.
    ran_on_ports _ _ _ _ _ c.args.job.now _ _ _ _ c.if-job.false c.serve_status-2.ensures refl refl
    (as_asked _ _ _ _ _ _ _ _ _ _ _ _ _ _ _ c.in-Ok.ensures c.serving-serving.ensures.workers c.serving-serving.ensures.sessions c.requires.4 c.serve_ports.ensures)
