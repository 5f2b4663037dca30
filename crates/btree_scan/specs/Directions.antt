-- The direction of a walk, and the far end of its range.
use Rattle.std.specs.Prelude.{◌≡◌, ℕ, ◌+◌, Bool, true, false, not, List, [], ◌++◌, take, drop, reverse}
use Rattle.std.specs.Ordering.{is_gt}
use Rattle.arc_core.specs.declared.bkeys.Bkey.{Bkey}
use Rattle.arc_core.specs.declared.trees.Elem.{Elem}
use Rattle.arc_core.specs.BkeyOrder.{bkey_cmp}

-- what is near and what is farther on, in the tree's order
abbrev pub joined : {X : Type 0} → Bool → List X → List X → List X
joined true near farther = farther ++ near
joined false near farther = near ++ farther

-- a list in the walk's order
abbrev pub facing : {X : Type 0} → Bool → List X → List X
facing true list = reverse list
facing false list = list

-- what a walk comes to behind the item in this place
abbrev pub beyond : {X : Type 0} → Bool → ℕ → List X → List X
beyond true place list = take place list
beyond false place list = drop (place + 1) list

-- whether a walk comes to an element no later than to a bkey
abbrev pub is_within : Bool → Bkey → Elem → Bool
is_within true end element = not (is_gt (bkey_cmp end element.bkey))
is_within false end element = not (is_gt (bkey_cmp element.bkey end))

-- The elements at hand stand on the side of the walk's direction, and none on the other side.
abbrev pub AreSides : Bool → (elements rising falling : List Elem) → Type 0
AreSides true elements rising falling = (rising ≡ []) × (falling ≡ elements)
AreSides false elements rising falling = (rising ≡ elements) × (falling ≡ [])
