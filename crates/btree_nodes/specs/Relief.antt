-- A full node that hands some of what it has on to its left neighbour.
use Rattle.std.specs.Prelude.{◌≡◌, ℕ, ◌+◌, ◌≤◌, ◌<◌, List, length, take, slice_index_or, Option, Some, None}
use Rattle.btree_nodes.specs.Subtree.{Subtree}

-- Of two neighbours the left one has free places, and the right one is full.
pub record IsUneven (left right : ℕ) : Type 0 where
  pub left_least : 16 ≤ left
  pub left_most : left ≤ 24
  pub right_full : right ≡ 32

-- Two neighbours are so, the left one of which stands in this place.
abbrev pub IsUnevenAt : List Subtree → ℕ → Type 0
IsUnevenAt children place = (d : Subtree) → IsUneven (slice_index_or children place d).width (slice_index_or children (place + 1) d).width

-- There are two, and each has a free place.
abbrev pub HaveFree : Subtree → Option Subtree → Type 0
HaveFree first None = ⊥
HaveFree first (Some second) = (first.width < 32) × (second.width < 32)

-- Each of two neighbours has a free place now. Together they have the elements that they had.
pub record IsRelieved (old : List Subtree) (place : ℕ) (new : List Subtree) : Type 0 where
  pub length_is : length new ≡ length old
  pub front : take place new ≡ take place old
  pub both : (d : Subtree) → length (slice_index_or new place d).elements + length (slice_index_or new (place + 1) d).elements ≡ length (slice_index_or old place d).elements + length (slice_index_or old (place + 1) d).elements
  pub first : (d : Subtree) → (slice_index_or new place d).width < 32
  pub second : (d : Subtree) → (slice_index_or new (place + 1) d).width < 32
