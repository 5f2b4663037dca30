use Rattle.std.proofs.Common.{◌≡◌}
use Rattle.tcp_port.proofs.link.TcpLinkLink.push.Given as goal

abbrev pub invariant-loop : goal.invariant-loop
invariant-loop g l =
    (l.self.read_faults ≡ l.fn.self.read_faults) × (l.self.write_faults ≡ l.fn.self.write_faults) × (l.self.refusals ≡ l.fn.self.refusals) × (l.self.agains ≡ l.fn.self.agains)
