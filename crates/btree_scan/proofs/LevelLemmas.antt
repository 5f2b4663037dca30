-- Levels of a way, and the children on them.
use Rattle.std.proofs.Common.{◌≡◌, ℕ, Bool, true, false, Some, ◌+◌, List, [], ◌∷◌, ◌++◌, length, refl, ap, sym, ◌∙◌, subst, arith}
use Rattle.std.specs.List.{All}
use Rattle.std.specs.Borrow.{Bor}
use Rattle.std.proofs.lemmas.List.{length-append}
use Rattle.std.proofs.lemmas.List.Elements.{All-head, All-tail, All-pop}
use Rattle.btree_nodes.specs.Subtree.{Subtree, all_elements, IsChildAt}
use Rattle.btree_nodes.proofs.ChildrenLemmas.{all_one}
use Rattle.btree_scan.specs.Directions.{joined}
use Rattle.btree_scan.specs.Ways.{ahead, beside, AreLevels}
use Rattle.btree_scan.proofs.DirectionLemmas.{joined_assoc, joined_none, none_joined, all_joined}

-- one level more
pub ahead_push : (down : Bool) (way : List (Bor (List Subtree))) (children : Bor (List Subtree)) → ahead down (way ++ children ∷ []) ≡ joined down (all_elements children.now) (ahead down way)
ahead_push down [] children = none_joined down (all_elements children.now) ∙ sym (joined_none down (all_elements children.now))
ahead_push down (top ∷ lower) children =
    ap (λ xs. joined down xs (all_elements top.now)) (ahead_push down lower children) ∙ joined_assoc down (all_elements children.now) (ahead down lower) (all_elements top.now)

pub beside_push : (way : List (Bor (List Subtree))) (children : Bor (List Subtree)) → beside (way ++ children ∷ []) ≡ all_elements children.now
beside_push [] children = refl
beside_push (top ∷ []) children = refl
beside_push (top ∷ next ∷ lower) children = beside_push (next ∷ lower) children

pub length_push : (way : List (Bor (List Subtree))) (children : Bor (List Subtree)) → length (way ++ children ∷ []) ≡ length way + 1
length_push way children = length-append way (children ∷ [])

pub levels_push : (low : ℕ) (way : List (Bor (List Subtree))) (children : Bor (List Subtree)) → AreLevels (low + 1) way → All (IsChildAt (low + 1)) children.now → AreLevels low (way ++ children ∷ [])
levels_push low [] children levels all =
    let same : low + 1 ≡ low + 1 + 0 = omega arith in
    (subst (λ h. All (IsChildAt h) children.now) same all, tt)
levels_push low (top ∷ lower) children levels all =
    let same : low + 1 + 1 + length lower ≡ low + 1 + length (lower ++ children ∷ []) = omega (arith, length_push lower children) in
    (subst (λ h. All (IsChildAt h) top.now) same levels.0, levels_push low lower children levels.1 all)

pub levels_pop : (low : ℕ) (way : List (Bor (List Subtree))) (children : Bor (List Subtree)) → AreLevels low (way ++ children ∷ []) → AreLevels (low + 1) way × All (IsChildAt (low + 1)) children.now
levels_pop low [] children levels =
    let same : low + 1 + 0 ≡ low + 1 = omega arith in
    (tt, subst (λ h. All (IsChildAt h) children.now) same levels.0)
levels_pop low (top ∷ lower) children levels =
    let same : low + 1 + length (lower ++ children ∷ []) ≡ low + 1 + 1 + length lower = omega (arith, length_push lower children) in
    let below = levels_pop low lower children levels.1 in
    ((subst (λ h. All (IsChildAt h) top.now) same levels.0, below.0), below.1)

-- the nearest of some children and the others
pub near_elements : (down : Bool) (children : List Subtree) (child : Subtree) (others : List Subtree) → children ≡ joined down (child ∷ []) others → all_elements children ≡ joined down child.elements (all_elements others)
near_elements down children child others split =
    ap all_elements split ∙ (all_joined down (child ∷ []) others ∙ ap (λ xs. joined down xs (all_elements others)) (all_one child))

all_near_at : (P : Subtree → Type 0) (down : Bool) (child : Subtree) (others : List Subtree) → All P (joined down (child ∷ []) others) → P child × All P others
all_near_at P true child others all = let both = All-pop P (others ++ child ∷ []) others (Some child) refl all in (both.1, both.0)
all_near_at P false child others all = (All-head P child others all, All-tail P child others all)

pub all_near : (P : Subtree → Type 0) (down : Bool) (children : List Subtree) (child : Subtree) (others : List Subtree) → children ≡ joined down (child ∷ []) others → All P children → P child × All P others
all_near P down children child others split all = all_near_at P down child others (subst (λ xs. All P xs) split all)
