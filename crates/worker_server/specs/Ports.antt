-- What the traits of ports promise of a call: which links are to come, which came back, and which count rose.
use Rattle.std.specs.Prelude.{◌≡◌, ℕ, List, [], ◌∷◌, ◌++◌, Option, IfSome}
use Rattle.std.specs.Option.{option_map}
use Rattle.arc_core.specs.declared.ends.End.{End}
use Rattle.arc_core.specs.Outside.{Rose}
use Rattle.worker_server.specs.declared.ports.Next.{Next}
use Rattle.worker_server.specs.declared.ports.Next.TheVariants as next

-- A snapshot of a port: the links that are to come, and those that came back, each with the end of its session, where these
-- are told; how often the port has failed, and how often it was refused memory.
pub record PortState (L : Type 0) : Type 0 where
  pub links : Option (List L)
  pub returned : Option (List (L × End))
  pub faults : ℕ
  pub refusals : ℕ

abbrev pub port_state : {L : Type 0} → Option (List L) → Option (List (L × End)) → ℕ → ℕ → PortState L
port_state links returned faults refusals = record { links = links; returned = returned; faults = faults; refusals = refusals }

-- these links, and then the others, where they are told
abbrev pub links_then : {L : Type 0} → List L → Option (List L) → Option (List L)
links_then front rest = option_map (λ links. front ++ links) rest

-- those that came back, and behind them these, where they are told
abbrev pub then_returned : {L : Type 0} → Option (List (L × End)) → List (L × End) → Option (List (L × End))
then_returned returned more = option_map (λ pairs. pairs ++ more) returned

-- What `next` leaves of a port, by its answer: the link was the first of those to come; or none is left; or a count rose.
abbrev pub Offers : {L : Type 0} → (before after : PortState L) → Next L → Type 0
Offers before after (next.Link link) = before ≡ record after { links = links_then (link ∷ []) after.links }
Offers before after next.Closed = IfSome before.links (λ links. links ≡ []) × (after ≡ before)
Offers before after next.Failed = (after ≡ record before { faults = after.faults }) × Rose before.faults after.faults
Offers before after next.NoMemory = (after ≡ record before { refusals = after.refusals }) × Rose before.refusals after.refusals

-- The answer is a link, and this holds.
abbrev pub IfLink : {L : Type 0} → Next L → Type 0 → Type 0
IfLink (next.Link link) P = P
IfLink next.Closed P = Unit {0}
IfLink next.Failed P = Unit {0}
IfLink next.NoMemory P = Unit {0}

-- The link came back, last of all, with the end of its session.
abbrev pub TakesBack : {L : Type 0} → (before : PortState L) → L → End → (after : PortState L) → Type 0
TakesBack before link ended after = after ≡ record before { returned = then_returned before.returned ((link, ended) ∷ []) }
