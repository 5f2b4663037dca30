-- What the table of a map holds.
use Rattle.std.specs.Prelude.{◌≡◌, ℕ, false, List, All, map, Vec}
use Rattle.std.specs.declared.alloc.Global.{Global}
use Rattle.arc_core.specs.Key.{IsKey}
use Rattle.map_coll.specs.declared.pairs.Held.{Held}

-- the pairs that the entries of the table hold
abbrev pub held_pairs : List (Vec ℕ Global × Held) → List (List ℕ × List ℕ)
held_pairs entries = map (λ e. (e.0.items, e.1.value)) entries

-- each field keeps the rule on keys, and no pair is marked to go
abbrev pub AreAtRest : List (Vec ℕ Global × Held) → Type 0
AreAtRest entries = All (λ e. IsKey e.0.items × (e.1.marked ≡ false)) entries
