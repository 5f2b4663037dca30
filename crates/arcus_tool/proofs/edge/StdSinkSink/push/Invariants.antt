use Rattle.std.proofs.Common.{◌≡◌}
use Rattle.arcus_tool.proofs.edge.StdSinkSink.push.Given as goal

-- no fault and no refusal was counted so far
abbrev pub invariant-loop : goal.invariant-loop
invariant-loop g l = (l.self.faults ≡ l.initial.self.faults) × (l.self.refusals ≡ l.initial.self.refusals)
