-- What is kept of ports that were handed out.
use Rattle.std.specs.Prelude.{ℕ, List}

-- Those that came back, in their order, and how many are out.
pub record Kept (P : Type 0) : Type 0 where
  pub returned : List P
  pub out : ℕ

abbrev pub kept : {P : Type 0} → List P → ℕ → Kept P
kept returned out = record { returned = returned; out = out }
