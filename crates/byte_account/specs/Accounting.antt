-- What accounting keeps true.
use Rattle.std.specs.Prelude.{◌≡◌, ℕ, ◌+◌, ◌≤◌, Bool, true, false, List}
use Rattle.arc_core.specs.Places.{Places, HasEachKeyOnce, total_of, sticky_total_of}

-- The total is the sum of all weights and within the limit, and no key has two places.
pub record IsAccounted {X : Type 0} (weigh : List ℕ → X → ℕ) (places : Places X) (total : ℕ) : Type 0 where
  pub sum : total ≡ total_of weigh places
  pub within : total ≤ places.limit
  pub once : HasEachKeyOnce places

-- The sticky total is the sum of the sticky places' weights, and within the share.
pub record IsWithinShare {X : Type 0} (weigh : List ℕ → X → ℕ) (places : Places X) (sticky_total : ℕ) : Type 0 where
  pub sum : sticky_total ≡ sticky_total_of weigh places
  pub within : sticky_total ≤ places.share

-- So many bytes more in a place are within the share: all are where the place is not sticky.
abbrev pub HasShareFor : {X : Type 0} → (sticky : Bool) → (List ℕ → X → ℕ) → Places X → ℕ → Type 0
HasShareFor true weigh places more = sticky_total_of weigh places + more ≤ places.share
HasShareFor false weigh places more = Unit {0}
