use Rattle.std.proofs.Common.{map, string_bytes, None}
use Rattle.arc_core.specs.Outside.{incoming}
use Rattle.arcus_tool.proofs.Running.{runs_server, not_refused}
use Rattle.arcus_tool.proofs.top.run.Goals as goal

pub returns-in-Serve-clause-runs : goal.returns-in-Serve-clause-runs
returns-in-Serve-clause-runs g c =
    runs_server _ _ _ _ _ (map string_bytes c.args.words.now) _ _ _ _ _ c.in-Serve.is c.in-Ok.ensures.answer
    (c.serve.ensures (incoming (g.S.Source.left c.args.world.now.source) (g.S.Source.read_faults c.args.world.now.source)))

pub returns-in-Serve-clause-refused : goal.returns-in-Serve-clause-refused
returns-in-Serve-clause-refused g c = not_refused _ _ _ (c.serve.ensures (incoming None 0)).is_its_status
