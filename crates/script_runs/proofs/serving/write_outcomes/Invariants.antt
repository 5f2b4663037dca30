use Rattle.std.proofs.Common.{◌≡◌, List, length, map, take}
use Rattle.arc_core.specs.contracts.links.SteadyLink.{the_row}
use Rattle.arc_core.specs.contracts.links.SteadyLinkLink.TheImpl as link
use Rattle.arc_core.specs.Outside.{outgoing, sent_more}
use Rattle.worker_server.specs.contracts.memory.SteadyPortPort.TheImpl.{ghosts}
use Rattle.script_runs.specs.Output.{Outcome, output_of}
use Rattle.script_runs.specs.Serving.{AllStand}
use Rattle.script_runs.proofs.serving.write_outcomes.Given as goal

-- the records of these sessions were written so far
abbrev pub invariant-loop-session : goal.invariant-loop-session
invariant-loop-session g l =
    let port = ghosts the_row link.ghosts link.dict in
    (outcomes : List Outcome) → length outcomes ≡ l.fn.number → AllStand link.ghosts.sent port.returned (length l.fn.members) (map (λ m. m.port) l.fn.members) 0 outcomes
    → outgoing (g.K.Sink.sent l.sink) (g.K.Sink.write_faults l.sink) (g.K.Sink.refusals l.sink)
    ≡ sent_more (outgoing (g.K.Sink.sent l.fn.sink) (g.K.Sink.write_faults l.fn.sink) (g.K.Sink.refusals l.fn.sink)) (output_of (take l.session outcomes))
