-- What an insert of a new bkey leaves of a tree that is full or whose bkeys are bounded. (Overflow actions and maxbkeyrange
-- are ARCUS's; which of them trim and which refuse a bkey beyond maxbkeyrange, and that this comes first, is this server's
-- own.)
use Rattle.std.specs.Prelude.{ℕ, ◌+◌, ◌-◌, nat_lt, ◌==◌, Bool, true, false, not, ◌&&◌, if◌then◌else◌, List, [], ◌∷◌, length, map, filter, fold, slice_index_or, Option, Some}
use Rattle.std.specs.Option.{option_map_or}
use Rattle.std.specs.Ordering.{is_lt, is_gt, is_eq}
use Rattle.arc_core.specs.declared.bkeys.Bkey.{Bkey}
use Rattle.arc_core.specs.declared.bkeys.Bkey.TheVariants.{Number}
use Rattle.arc_core.specs.declared.collections.Action.{Action}
use Rattle.arc_core.specs.declared.collections.Action.TheVariants as action
use Rattle.arc_core.specs.declared.collections.Side.{Side}
use Rattle.arc_core.specs.declared.collections.Side.TheVariants.{Low, High}
use Rattle.arc_core.specs.declared.trees.Elem.{Elem}
use Rattle.arc_core.specs.declared.trees.Edges.{Edges}
use Rattle.arc_core.specs.BkeyOrder.{bkey_cmp}
use Rattle.arc_core.specs.TreeContents.{with_element}

-- What an insert comes to.
pub data Settled : Type 0 where
  -- the element is stored: what stays of the elements with it, and what of them is trimmed
  stored : (kept trimmed : List Elem) → Settled
  -- it is refused, since it would lie beyond this end
  out_of_range : Side → Settled
  -- it is refused, since the tree is full
  overflowed : Settled

-- an action of trees
abbrev pub IsTreeAction : Action → Type 0
IsTreeAction action.HeadTrim = ⊥
IsTreeAction action.TailTrim = ⊥
IsTreeAction _ = Unit {0}

-- whether an action trims the smallest elements
abbrev pub trims_smallest : Action → Bool
trims_smallest action.SmallestTrim = true
trims_smallest action.SmallestSilentTrim = true
trims_smallest _ = false

-- whether an action trims the greatest elements
abbrev pub trims_greatest : Action → Bool
trims_greatest action.LargestTrim = true
trims_greatest action.LargestSilentTrim = true
trims_greatest _ = false

-- the least bkey of a tree's elements, in a list that is not empty
abbrev pub least : Elem → List Elem → Bkey
least other elements = (slice_index_or elements 0 other).bkey

-- the greatest bkey of a tree's elements, in a list that is not empty
abbrev pub greatest : Elem → List Elem → Bkey
greatest other elements = (slice_index_or elements (length elements - 1) other).bkey

-- how far a number is above another one. Byte bkeys have no distance: their trees have no maxbkeyrange.
abbrev pub distance : Bkey → Bkey → ℕ
distance (Number above) (Number below) = above - below
distance _ _ = 0

-- whether two bkeys are further apart than maxbkeyrange allows, where it is a bound
abbrev pub is_too_wide : ℕ → Bkey → Bkey → Bool
is_too_wide maxbkeyrange above below = nat_lt 0 maxbkeyrange && nat_lt maxbkeyrange (distance above below)

-- whether two bkeys are one
abbrev pub is_same : Bkey → Bkey → Bool
is_same x y = is_eq (bkey_cmp x y)

-- the number so much below another, and the one so much above it
abbrev pub lowered : ℕ → Bkey → Bkey
lowered n (Number above) = Number (above - n)
lowered n bkey = bkey

abbrev pub raised : ℕ → Bkey → Bkey
raised n (Number below) = Number (below + n)
raised n bkey = bkey

-- the elements whose bkeys pass stay, and the others are trimmed
abbrev pub parted : (Bkey → Bool) → List Elem → Settled
parted stays elements = stored (filter (λ element. stays element.bkey) elements) (filter (λ element. not (stays element.bkey)) elements)

-- the new element is further above the least than maxbkeyrange allows: what is too far below it goes, or it is refused
abbrev pub settled_above : ℕ → Action → Bkey → List Elem → Settled
settled_above maxbkeyrange action bkey all =
    if trims_smallest action then parted (λ other. not (is_lt (bkey_cmp other (lowered maxbkeyrange bkey)))) all
    else out_of_range High

-- the new element is further below the greatest than maxbkeyrange allows
abbrev pub settled_below : ℕ → Action → Bkey → List Elem → Settled
settled_below maxbkeyrange action bkey all =
    if trims_greatest action then parted (λ other. not (is_gt (bkey_cmp other (raised maxbkeyrange bkey)))) all
    else out_of_range Low

-- the tree has maxcount elements: the smallest or the greatest goes, and where that is the new one it is refused
abbrev pub settled_full : Action → Elem → List Elem → Settled
settled_full action element all =
    if trims_smallest action
    then (if is_same element.bkey (least element all) then out_of_range Low else parted (λ other. is_gt (bkey_cmp other (least element all))) all)
    else (if trims_greatest action
    then (if is_same element.bkey (greatest element all) then out_of_range High else parted (λ other. is_lt (bkey_cmp other (greatest element all))) all)
    else overflowed)

-- what an insert of an element whose bkey is new comes to
abbrev pub settled : (maxcount maxbkeyrange : ℕ) → Action → Elem → List Elem → Settled
settled maxcount maxbkeyrange action element elements =
    let all = with_element element elements in
    if is_same element.bkey (greatest element all) && is_too_wide maxbkeyrange element.bkey (least element all)
    then settled_above maxbkeyrange action element.bkey all
    else (if is_same element.bkey (least element all) && is_too_wide maxbkeyrange (greatest element all) element.bkey
    then settled_below maxbkeyrange action element.bkey all
    else (if length elements == maxcount then settled_full action element all else stored all []))

-- EDGES

-- the bkeys that an insert leaves beyond an end: those trimmed, or its own where it was refused at that end
abbrev pub left_out : Side → Bkey → Settled → List Bkey
left_out side bkey (stored kept trimmed) = map (λ element. element.bkey) trimmed
left_out Low bkey (out_of_range Low) = bkey ∷ []
left_out High bkey (out_of_range High) = bkey ∷ []
left_out side bkey _ = []

-- the greater of an edge and a bkey
abbrev pub edge_above : Option Bkey → Bkey → Option Bkey
edge_above edge bkey = option_map_or (λ old. if is_lt (bkey_cmp old bkey) then Some bkey else edge) edge (Some bkey)

-- the lesser of an edge and a bkey
abbrev pub edge_below : Option Bkey → Bkey → Option Bkey
edge_below edge bkey = option_map_or (λ old. if is_gt (bkey_cmp old bkey) then Some bkey else edge) edge (Some bkey)

-- the edges after an insert: an action that announces its trims moves its edge over all that it leaves out
abbrev pub settled_edges : Action → Bkey → Settled → Edges → Edges
settled_edges action.SmallestTrim bkey outcome edges = record { low = fold edge_above edges.low (left_out Low bkey outcome); high = edges.high }
settled_edges action.LargestTrim bkey outcome edges = record { low = edges.low; high = fold edge_below edges.high (left_out High bkey outcome) }
settled_edges _ bkey outcome edges = edges
