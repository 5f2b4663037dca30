-- What the trait of pollers promises of a call: as of a port, and how many links are out.
use Rattle.std.specs.Prelude.{◌≡◌, ℕ, ◌+◌, [], ◌∷◌, IfSome}
use Rattle.arc_core.specs.declared.ends.End.{End}
use Rattle.arc_core.specs.Outside.{Rose}
use Rattle.event_port.specs.declared.pollers.Wake.{Wake}
use Rattle.event_port.specs.declared.pollers.Wake.TheVariants as wake
use Rattle.worker_server.specs.Ports.{PortState, links_then, TakesBack}

-- A snapshot of a poller: what a port tells, and how many links it gave out that have not come back.
pub record PollerState (L : Type 0) : Type 0 where
  pub port : PortState L
  pub held : ℕ

abbrev pub poller_state : {L : Type 0} → PortState L → ℕ → PollerState L
poller_state port held = record { port = port; held = held }

-- One more fault was counted, and all else is as it was.
pub record FailsOnce {L : Type 0} (before after : PollerState L) : Type 0 where
  pub same : after ≡ record before { port = record before.port { faults = after.port.faults } }
  pub rose : Rose before.port.faults after.port.faults

-- One more refusal was counted, and all else is as it was.
pub record RefusedOnce {L : Type 0} (before after : PollerState L) : Type 0 where
  pub same : after ≡ record before { port = record before.port { refusals = after.port.refusals } }
  pub rose : Rose before.port.refusals after.port.refusals

-- The link was the first of those to come, and is out now.
pub record GivesOut {L : Type 0} (before : PollerState L) (link : L) (after : PollerState L) : Type 0 where
  pub port : before.port ≡ record after.port { links = links_then (link ∷ []) after.port.links }
  pub held : after.held ≡ before.held + 1

-- What `wait` leaves of a poller, by its answer. That a link is ready is a hint, which says nothing and changes nothing.
abbrev pub Wakes : {L : Type 0} → (before after : PollerState L) → Wake L → Type 0
Wakes before after (wake.Fresh link) = GivesOut before link after
Wakes before after (wake.Ready token) = after ≡ before
Wakes before after wake.Closed = IfSome before.port.links (λ links. links ≡ []) × (after ≡ before)
Wakes before after wake.Failed = FailsOnce before after
Wakes before after wake.NoMemory = RefusedOnce before after

-- The link came back, last of all, with the end of its session.
pub record TakesIn {L : Type 0} (before : PollerState L) (link : L) (ended : End) (after : PollerState L) : Type 0 where
  pub port : TakesBack before.port link ended after.port
  pub held : before.held ≡ after.held + 1
