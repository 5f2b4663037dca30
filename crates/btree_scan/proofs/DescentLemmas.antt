-- A walk on its way from leaf to leaf.
use Rattle.std.proofs.Common.{◌≡◌, ℕ, Bool, true, false, not, if◌then◌else◌, ◌+◌, ◌-◌, ◌^◌, ◌<◌, ◌≤◌, List, [], ◌∷◌, ◌++◌, length, get_or, take, drop, refl, ap, sym, ◌∙◌, subst, inl, inr, arith}
use Rattle.std.specs.List.{All, filter}
use Rattle.std.specs.Borrow.{Bor}
use Rattle.std.proofs.lemmas.Bool.{cases_lt}
use Rattle.std.proofs.lemmas.List.Elements.{All-head, All-take, All-drop}
use Rattle.arc_core.specs.declared.bkeys.Bkey.{Bkey}
use Rattle.arc_core.specs.declared.trees.Elem.{Elem}
use Rattle.arc_core.specs.TreeContents.{IsRising}
use Rattle.btree_nodes.specs.Subtree.{Subtree, all_elements, height_over, IsChildAt}
use Rattle.btree_nodes.specs.PartRules.{AreChildren}
use Rattle.btree_nodes.specs.Ways.{IsWayTo}
use Rattle.btree_nodes.proofs.BalanceLemmas.{child_fill}
use Rattle.btree_nodes.proofs.ChildrenLemmas.{all_split}
use Rattle.btree_nodes.proofs.WayLemmas.{rising_behind, rising_front}
use Rattle.btree_scan.specs.Descents.{IsNearest}
use Rattle.btree_scan.specs.Directions.{beyond, joined, is_within}
use Rattle.btree_scan.specs.Ways.{ahead, beside, AreLevels}
use Rattle.btree_scan.proofs.DirectionLemmas.{joined_assoc, none_joined, length_joined, rising_near}
use Rattle.btree_scan.proofs.LevelLemmas.{ahead_push, beside_push, length_push, levels_push, levels_pop, near_elements, all_near}
use Rattle.btree_scan.proofs.EndLemmas.{turning, turns, begun, begun_rising}

-- UP TO THE NEAREST CHILD

-- Levels on which nothing is left were taken from a way.
pub record IsPassed (down : Bool) (first way : List (Bor (List Subtree))) : Type 0 where
  pub elements : ahead down way ≡ ahead down first
  pub popped : length way ≤ length first
  pub levels : AreLevels (length first + 1 - length way) way
  pub same : length way ≡ length first → beside way ≡ beside first
  pub passed : length way < length first → beside first ≡ []

popped_levels : (first way rest : List (Bor (List Subtree))) (children : Bor (List Subtree)) → length way ≤ length first → AreLevels (length first + 1 - length way) way → way ≡ rest ++ children ∷ []
    → AreLevels (length first + 1 - length rest) rest × All (IsChildAt (length first + 1 - length rest)) children.now
popped_levels first way rest children fits levels is =
    let low = length first + 1 - length way in
    let pop = levels_pop low rest children (subst (λ w. AreLevels low w) is levels) in
    let same : low + 1 ≡ length first + 1 - length rest = omega (arith, ap length is, length_push rest children) in
    (subst (λ h. AreLevels h rest) same pop.0, subst (λ h. All (IsChildAt h) children.now) same pop.1)

pub passed_more : (down : Bool) (first way rest : List (Bor (List Subtree))) (children : Bor (List Subtree)) → IsPassed down first way → way ≡ rest ++ children ∷ [] → children.now ≡ [] → IsPassed down first rest
passed_more down first way rest children p is none =
    let counts = ap length is in
    let count = length_push rest children in
    record {
      elements = sym (none_joined down (ahead down rest)) ∙ (ap (λ xs. joined down (all_elements xs) (ahead down rest)) (sym none) ∙ (sym (ahead_push down rest children) ∙ (ap (ahead down) (sym is) ∙ p.elements)));
      popped = omega (arith, p.popped);
      levels = (popped_levels first way rest children p.popped p.levels is).0;
      same = λ same. absurd (omega (arith, p.popped));
      passed = λ less. elim (cases_lt (length way) (length first)) [
        | inl before ↦ p.passed before
        | inr all ↦ sym (p.same (omega (arith, p.popped))) ∙ (ap beside is ∙ (beside_push rest children ∙ ap all_elements none))
      ];
    }

pub nearest_found : (down : Bool) (first way rest : List (Bor (List Subtree))) (children : Bor (List Subtree)) (child : Subtree) (others : Bor (List Subtree)) → IsPassed down first way → way ≡ rest ++ children ∷ [] → children.now ≡ joined down (child ∷ []) others.now
    → IsNearest down first child (rest ++ others ∷ [])
nearest_found down first way rest children child others p is split =
    let counts = ap length is in
    let count = length_push rest children in
    let counted = length_push rest others in
    let high = length first + 1 - length rest in
    let both = popped_levels first way rest children p.popped p.levels is in
    let near = all_near (IsChildAt high) down children.now child others.now split both.1 in
    let level : high ≡ child.height + 1 = sym near.0.level in
    let below = near_elements down children.now child others.now split in
    let here = ap beside is ∙ (beside_push rest children ∙ below) in
    record {
      elements = sym p.elements ∙ (ap (ahead down) is ∙ (ahead_push down rest children ∙ (ap (λ xs. joined down xs (ahead down rest)) below
          ∙ (joined_assoc down child.elements (all_elements others.now) (ahead down rest) ∙ ap (λ xs. joined down child.elements xs) (sym (ahead_push down rest others))))));
      is_child = subst (λ h. IsChildAt h child) level near.0;
      levels = levels_push child.height rest others (subst (λ h. AreLevels h rest) level both.0) (subst (λ h. All (IsChildAt h) others.now) level near.1);
      depth = omega (arith, p.popped);
      sibling = λ one. omega (arith, ap length (p.same (omega (arith, p.popped))), ap length here, length_joined down child.elements (all_elements others.now), ap length (beside_push rest others));
      passed = λ two. p.passed (omega arith);
    }

-- DOWN TO A LEAF

-- A walk entered a child, and is at a node below it or at the child itself.
pub record IsOnWay (down : Bool) (first : List (Bor (List Subtree))) (child : Subtree) (way : List (Bor (List Subtree))) (elements : List Elem) (height : ℕ) : Type 0 where
  pub elements_are : joined down elements (ahead down way) ≡ joined down child.elements (ahead down first)
  pub levels : AreLevels height way
  pub depth : length way + height ≡ length first + child.height
  pub dense : 16 ^ height ≤ length elements
  pub same : height ≡ child.height → (elements ≡ child.elements) × (way ≡ first)
  pub below : height ≤ child.height
  pub fresh : height < child.height → 16 ^ (height + 1) ≤ length elements + length (beside way)

pub on_way : (down : Bool) (first : List (Bor (List Subtree))) (child : Subtree) (elements : List Elem) (height : ℕ) → IsChildAt (child.height + 1) child → AreLevels child.height first → elements ≡ child.elements → height ≡ child.height
    → IsOnWay down first child first elements height
on_way down first child elements height is levels all level = record {
  elements_are = ap (λ xs. joined down xs (ahead down first)) all;
  levels = subst (λ h. AreLevels h first) (sym level) levels;
  depth = omega arith;
  dense = omega (arith, ap (λ n. 16 ^ n) level, child_fill (child.height + 1) child is, ap length all);
  same = λ same. (all, refl);
  below = omega arith;
  fresh = λ less. absurd (omega arith);
}

pub on_way_more : (down : Bool) (first : List (Bor (List Subtree))) (child : Subtree) (way : List (Bor (List Subtree))) (elements : List Elem) (height : ℕ) (children : List Subtree) (below : Subtree) (others : Bor (List Subtree))
    → IsOnWay down first child way elements height → AreChildren children → elements ≡ all_elements children → height ≡ height_over children → children ≡ joined down (below ∷ []) others.now
    → IsOnWay down first child (way ++ others ∷ []) below.elements below.height
on_way_more down first child way elements height children below others p are all high split =
    let near = all_near (IsChildAt (height_over children)) down children below others.now split are.balanced in
    let up : height_over children ≡ below.height + 1 = sym near.0.level in
    let level : height ≡ below.height + 1 = high ∙ up in
    let parts = near_elements down children below others.now split in
    record {
      elements_are = ap (λ xs. joined down below.elements xs) (ahead_push down way others) ∙ (sym (joined_assoc down below.elements (all_elements others.now) (ahead down way))
          ∙ (ap (λ xs. joined down xs (ahead down way)) (sym parts ∙ sym all) ∙ p.elements_are));
      levels = levels_push below.height way others (subst (λ h. AreLevels h way) level p.levels) (subst (λ h. All (IsChildAt h) others.now) up near.1);
      depth = omega (arith, p.depth, length_push way others);
      dense = child_fill (height_over children) below near.0;
      same = λ same. absurd (omega (arith, p.below));
      below = omega (arith, p.below);
      fresh = λ less. omega (arith, ap (λ n. 16 ^ n) level, p.dense, ap length all, ap length parts, length_joined down below.elements (all_elements others.now), ap length (beside_push way others));
    }

-- DOWN FROM THE ROOT

-- a branch is no leaf
pub branch_high : (children : List Subtree) → AreChildren children → 2 ≤ height_over children
branch_high [] are = absurd (omega (arith, are.some))
branch_high (child ∷ others) are = omega (arith, (All-head (IsChildAt (child.height + 1)) child others are.balanced).high)

-- A walk of a tree of this height began at a bkey, and is at a node on the way to it.
pub record IsBegun (down : Bool) (near : Bkey) (all : List Elem) (top : ℕ) (way : List (Bor (List Subtree))) (elements : List Elem) (height : ℕ) : Type 0 where
  pub begun_is : filter (is_within (not down) near) all ≡ joined down (filter (is_within (not down) near) elements) (ahead down way)
  pub rising : IsRising (joined down elements (ahead down way))
  pub levels : AreLevels height way
  pub depth : length way + height ≡ top

turning_child : (late : Bool) (near : Bkey) (children : List Subtree) (index : ℕ) (d : Subtree) → IsWayTo near children index
    → turning late near (all_elements children) ≡ length (all_elements (take index children)) + turning late near (get_or children index d).elements
turning_child true near children index d way = way.place d
turning_child false near children index d way = omega (arith, way.place d, ap {B = ℕ} (λ b. if b then 1 else 0) (way.found d))

beyond_elements : (down : Bool) (index : ℕ) (children : List Subtree) → all_elements (beyond down index children) ≡ (if down then all_elements (take index children) else all_elements (drop (index + 1) children))
beyond_elements true index children = refl
beyond_elements false index children = refl

all_beyond : (P : Subtree → Type 0) (down : Bool) (index : ℕ) (children : List Subtree) → All P children → All P (beyond down index children)
all_beyond P true index children all = All-take P index children all
all_beyond P false index children all = All-drop P (index + 1) children all

pub begun_more : (down : Bool) (near : Bkey) (all : List Elem) (top : ℕ) (way : List (Bor (List Subtree))) (elements : List Elem) (height : ℕ) (children : List Subtree) (index : ℕ) (child : Subtree) (others : Bor (List Subtree))
    → IsBegun down near all top way elements height → AreChildren children → elements ≡ all_elements children → height ≡ height_over children → IsWayTo near children index → others.now ≡ beyond down index children → child ≡ get_or children index child
    → IsBegun down near all top (way ++ others ∷ []) child.elements child.height
begun_more down near all top way elements height children index child others p are whole high to beyond_is there =
    let q = is_within (not down) near in
    let A = all_elements (take index children) in
    let M = child.elements in
    let R = all_elements (drop (index + 1) children) in
    let far = if down then A else R in
    let W = ahead down way in
    let split : elements ≡ A ++ (M ++ R) = whole ∙ (all_split children index child to.within ∙ ap (λ (x : Subtree). A ++ (x.elements ++ R)) (sym there)) in
    let rising : IsRising (joined down (A ++ (M ++ R)) W) = subst (λ xs. IsRising (joined down xs W)) split p.rising in
    let rise : IsRising (A ++ (M ++ R)) = rising_near down (A ++ (M ++ R)) W rising in
    let inner : IsRising M = rising_front M R (rising_behind A (M ++ R) rise) in
    let place : turning (not down) near (A ++ (M ++ R)) ≡ length A + turning (not down) near M =
    ap (turning (not down) near) (sym split ∙ whole) ∙ (turning_child (not down) near children index child to ∙ ap (λ (x : Subtree). length A + turning (not down) near x.elements) (sym there)) in
    let at = turns (not down) near (A ++ (M ++ R)) rise in
    let begins = begun down near A M R (turning (not down) near (A ++ (M ++ R))) at (omega arith) (omega (arith, (turns (not down) near M inner).within)) in
    let pushed : ahead down (way ++ others ∷ []) ≡ joined down far W = ahead_push down way others ∙ ap (λ xs. joined down xs W) (ap all_elements beyond_is ∙ beyond_elements down index children) in
    let there_at : IsChildAt (height_over children) child = subst (λ (x : Subtree). IsChildAt (height_over children) x) (sym there) (are.balanced index child to.within) in
    let up : height_over children ≡ child.height + 1 = sym there_at.level in
    let level : height ≡ child.height + 1 = high ∙ up in
    record {
      begun_is = p.begun_is ∙ (ap (λ xs. joined down (filter q xs) W) split ∙ (ap (λ xs. joined down xs W) begins ∙ (joined_assoc down (filter q M) far W ∙ ap (λ xs. joined down (filter q M) xs) (sym pushed))));
      rising = subst (λ xs. IsRising (joined down M xs)) (sym pushed) (begun_rising down A M R W rising);
      levels = levels_push child.height way others (subst (λ h. AreLevels h way) level p.levels)
          (subst (λ h. All (IsChildAt h) others.now) up (subst (λ xs. All (IsChildAt (height_over children)) xs) (sym beyond_is) (all_beyond (IsChildAt (height_over children)) down index children are.balanced)));
      depth = omega (arith, p.depth, length_push way others);
    }
