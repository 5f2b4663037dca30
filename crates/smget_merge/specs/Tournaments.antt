-- A tournament of walks by their next elements. Its nodes are numbered from 1 on, those below node n are 2 n and 2 n + 1. Where
-- there are so many walks, the nodes from that number on are the walks themselves in their order, and each node before them
-- has the walk that wins over all those below it.
use Rattle.std.specs.Prelude.{◌≡◌, ℕ, zero, suc, ◌+◌, ◌-◌, ◌*◌, ◌/◌, ◌<◌, ◌≤◌, nat_lt, Bool, true, false, List, slice_index, slice_index_or, if◌then◌else◌, Option, None, Some}
use Rattle.std.specs.Ordering.{nat_cmp, is_lt, ordering_then}
use Rattle.arc_core.specs.declared.trees.Elem.{Elem}
use Rattle.smget_merge.specs.MergedRows.{bkey_order}

-- whether one walk's next element goes before another's: by the bkeys in the direction, and else by the walks' places. A walk
-- without one goes before none.
abbrev pub goes_before : Bool → ℕ → Option Elem → ℕ → Option Elem → Bool
goes_before down one None other y = false
goes_before down one (Some x) other None = true
goes_before down one (Some x) other (Some y) = is_lt (ordering_then (bkey_order down x.bkey y.bkey) (nat_cmp one other))

-- the same, by the walks' places
abbrev pub wins : Bool → List (Option Elem) → ℕ → ℕ → Bool
wins down heads one other = goes_before down one (slice_index_or heads one None) other (slice_index_or heads other None)

-- the place of the walk at a node
abbrev pub entrant : ℕ → List ℕ → ℕ → ℕ
entrant count winners node = if nat_lt node count then slice_index winners node else node - count

-- the winner of the two walks below a node
abbrev pub winner_below : Bool → List (Option Elem) → ℕ → List ℕ → ℕ → ℕ
winner_below down heads count winners node =
    if wins down heads (entrant count winners (2 * node + 1)) (entrant count winners (2 * node)) then entrant count winners (2 * node + 1) else entrant count winners (2 * node)

-- the node so many levels above
abbrev pub climbed : ℕ → ℕ → ℕ
climbed zero node = node
climbed (suc levels) node = climbed levels (node / 2)

-- A node is another one or above it.
abbrev pub IsAbove : ℕ → ℕ → Type 0
IsAbove node below = (levels : ℕ) × (climbed levels below ≡ node)

-- At a node is a walk from below it.
pub record IsEntered (count : ℕ) (winners : List ℕ) (node : ℕ) : Type 0 where
  pub within : entrant count winners node < count
  pub above : IsAbove node (count + entrant count winners node)

-- At a node is a walk from below it over which neither of those at the two nodes below wins.
pub record IsPlayed (down : Bool) (heads : List (Option Elem)) (count : ℕ) (winners : List ℕ) (node : ℕ) : Type 0 where
  pub entered : IsEntered count winners node
  pub left : wins down heads (entrant count winners (2 * node)) (entrant count winners node) ≡ false
  pub right : wins down heads (entrant count winners (2 * node + 1)) (entrant count winners node) ≡ false

abbrev pub IsRanked : Bool → List (Option Elem) → ℕ → List ℕ → Type 0
IsRanked down heads count winners = (node : ℕ) → 1 ≤ node → node < count → IsPlayed down heads count winners node

-- No walk wins over the one in this place.
pub record IsFirst (down : Bool) (heads : List (Option Elem)) (count place : ℕ) : Type 0 where
  pub within : place < count
  pub first : (other : ℕ) → other < count → wins down heads other place ≡ false
