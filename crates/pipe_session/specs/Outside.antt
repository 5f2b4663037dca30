-- Snapshots of what is outside of a session.
use Rattle.std.specs.Prelude.{ℕ, List, Option}
use Rattle.arc_core.specs.Outside.{Incoming, Outgoing}

-- A snapshot. What the outside of a session tells at one moment: of where its bytes come from and go to, and the clock's
-- seconds to come, where they are told.
pub record Outside : Type 0 where
  pub incoming : Incoming
  pub out : Outgoing
  pub coming : Option (List ℕ)

abbrev pub outside : Incoming → Outgoing → Option (List ℕ) → Outside
outside incoming out coming = record { incoming = incoming; out = out; coming = coming }

-- A snapshot with the desk's state.
pub record Moment (D : Type 0) : Type 0 where
  pub desk : D
  pub outside : Outside

abbrev pub moment : {D : Type 0} → D → Outside → Moment D
moment desk outside = record { desk = desk; outside = outside }
