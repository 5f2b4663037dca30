-- What the trait of all ports promises of a call: which ports are to be handed out, which were taken back, how many are out,
-- and which count rose.
use Rattle.std.specs.Prelude.{◌≡◌, ◌⊎◌, ℕ, ◌+◌, ◌<◌, List, [], ◌∷◌, ◌++◌, Option, IfSome, Result, Ok, Err}
use Rattle.std.specs.Option.{option_map}
use Rattle.arc_core.specs.declared.faults.Failed.{Failed}
use Rattle.arc_core.specs.Outside.{Rose}
use Rattle.worker_ports.specs.declared.ports.Handed.{Handed}
use Rattle.worker_ports.specs.declared.ports.Handed.TheVariants as handed
use Rattle.worker_server.specs.Ports.{PortState}

-- A snapshot of all ports: those that are to be handed out and those that were taken back, where these are told; how many are
-- out; how often a call has failed, and how often memory was refused.
pub record PortsState (P : Type 0) : Type 0 where
  pub waiting : Option (List P)
  pub taken_back : Option (List P)
  pub out : ℕ
  pub faults : ℕ
  pub refusals : ℕ

abbrev pub ports_state : {P : Type 0} → Option (List P) → Option (List P) → ℕ → ℕ → ℕ → PortsState P
ports_state waiting taken_back out faults refusals =
    record { waiting = waiting; taken_back = taken_back; out = out; faults = faults; refusals = refusals }

-- One more fault was counted, and all else is as it was.
pub record FailsOnce {P : Type 0} (before after : PortsState P) : Type 0 where
  pub same : after ≡ record before { faults = after.faults }
  pub rose : Rose before.faults after.faults

-- One more refusal was counted, and all else is as it was.
pub record RefusedOnce {P : Type 0} (before after : PortsState P) : Type 0 where
  pub same : after ≡ record before { refusals = after.refusals }
  pub rose : Rose before.refusals after.refusals

-- What `bind` leaves, by its answer.
abbrev pub Binds : {P : Type 0} → (before after : PortsState P) → Result Prim.Unit Failed → Type 0
Binds before after (Ok _) = after ≡ before
Binds before after (Err _) = FailsOnce before after

-- this port, and then those, where they are told
abbrev pub port_then : {P : Type 0} → P → Option (List P) → Option (List P)
port_then port rest = option_map (λ ports. port ∷ ports) rest

-- those that were taken back, and this port behind them, where they are told
abbrev pub then_port : {P : Type 0} → Option (List P) → P → Option (List P)
then_port taken_back port = option_map (λ ports. ports ++ port ∷ []) taken_back

-- None is left to hand out, where that is told, and the port that came all the same has no links.
pub record CameEmpty {P L : Type 0} (before : Option (List P)) (own : PortState L) (after : Option (List P)) : Type 0 where
  pub none_left : IfSome before (λ ports. ports ≡ [])
  pub same : after ≡ before
  pub no_links : IfSome own.links (λ links. links ≡ [])

-- The port, which tells this of itself, is the first of those to hand out, or an empty one where none is left. It has not
-- failed yet, and is out now.
pub record HandsOut {P L : Type 0} (before : PortsState P) (port : P) (own : PortState L) (after : PortsState P) : Type 0 where
  pub came : (before.waiting ≡ port_then port after.waiting) ⊎ CameEmpty before.waiting own after.waiting
  pub no_fault : own.faults ≡ 0
  pub out : after.out ≡ before.out + 1
  pub same : after ≡ record before { waiting = after.waiting; out = after.out }

-- What `hand` leaves, by its answer; `own` is what a port tells of itself.
abbrev pub Hands : {P L : Type 0} → (own : P → PortState L) → (before after : PortsState P) → Handed P → Type 0
Hands own before after (handed.Port port) = HandsOut before port (own port) after
Hands own before after handed.Failed = FailsOnce before after
Hands own before after handed.NoMemory = RefusedOnce before after

-- The port came back, last of all. Where it has failed while it was out, one more fault is counted.
pub record TakesPort {P L : Type 0} (before : PortsState P) (port : P) (own : PortState L) (after : PortsState P) : Type 0 where
  pub taken_back : after.taken_back ≡ then_port before.taken_back port
  pub out : before.out ≡ after.out + 1
  pub counts : ((own.faults ≡ 0) × (after.faults ≡ before.faults)) ⊎ ((0 < own.faults) × Rose before.faults after.faults)
  pub same : after ≡ record before { taken_back = after.taken_back; out = after.out; faults = after.faults }
