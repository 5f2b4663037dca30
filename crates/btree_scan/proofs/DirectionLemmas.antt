-- Lists in the direction of a walk.
use Rattle.std.proofs.Common.{◌≡◌, Bool, true, false, if◌then◌else◌, ◌+◌, List, [], ◌∷◌, ◌++◌, length, reverse, refl, ap, sym, ◌∙◌, arith}
use Rattle.std.specs.List.{filter}
use Rattle.std.proofs.lemmas.List.{length-append, append_assoc, append-nil, reverse-append, length-reverse}
use Rattle.std.proofs.lemmas.List.Elements.{filter-append}
use Rattle.arc_core.specs.declared.trees.Elem.{Elem}
use Rattle.arc_core.specs.TreeContents.{IsRising}
use Rattle.btree_nodes.specs.Subtree.{Subtree, all_elements}
use Rattle.btree_nodes.proofs.ChildrenLemmas.{all_append}
use Rattle.btree_nodes.proofs.WayLemmas.{rising_behind, rising_front}
use Rattle.btree_scan.specs.Directions.{joined, facing, AreSides}

-- a range's elements in either direction
pub as_many : (down : Bool) (xs : List Elem) → length (if down then reverse xs else xs) ≡ length xs
as_many true xs = length-reverse xs
as_many false xs = refl

module _ {X : Type 0} where
  pub joined_assoc : (down : Bool) (a b c : List X) → joined down (joined down a b) c ≡ joined down a (joined down b c)
  joined_assoc true a b c = sym (append_assoc c b a)
  joined_assoc false a b c = append_assoc a b c

  pub joined_none : (down : Bool) (a : List X) → joined down a [] ≡ a
  joined_none true a = refl
  joined_none false a = append-nil a

  pub none_joined : (down : Bool) (a : List X) → joined down [] a ≡ a
  none_joined true a = append-nil a
  none_joined false a = refl

  pub length_joined : (down : Bool) (a b : List X) → length (joined down a b) ≡ length a + length b
  length_joined true a b = omega (arith, length-append b a)
  length_joined false a b = length-append a b

  pub facing_joined : (down : Bool) (a b : List X) → facing down (joined down a b) ≡ facing down a ++ facing down b
  facing_joined true a b = reverse-append b a
  facing_joined false a b = refl

  pub length_facing : (down : Bool) (a : List X) → length (facing down a) ≡ length a
  length_facing true a = length-reverse a
  length_facing false a = refl

  pub filter_joined : (p : X → Bool) (down : Bool) (a b : List X) → filter p (joined down a b) ≡ joined down (filter p a) (filter p b)
  filter_joined p true a b = filter-append p b a
  filter_joined p false a b = filter-append p a b

-- the elements below children in the direction of a walk
pub all_joined : (down : Bool) (a b : List Subtree) → all_elements (joined down a b) ≡ joined down (all_elements a) (all_elements b)
all_joined true a b = all_append b a
all_joined false a b = all_append a b

pub rising_near : (down : Bool) (a b : List Elem) → IsRising (joined down a b) → IsRising a
rising_near true a b rising = rising_behind b a rising
rising_near false a b rising = rising_front a b rising

pub rising_farther : (down : Bool) (a b : List Elem) → IsRising (joined down a b) → IsRising b
rising_farther true a b rising = rising_front b a rising
rising_farther false a b rising = rising_behind a b rising

-- the nearest element is handed out
pub handed : (down : Bool) (xs : List Elem) (x : Elem) (others more : List Elem) → xs ≡ joined down (x ∷ []) others → facing down (joined down xs more) ≡ x ∷ facing down (joined down others more)
handed true xs x others more is = ap (λ ys. reverse (more ++ ys)) is ∙ (ap reverse (sym (append_assoc more others (x ∷ []))) ∙ reverse-append (more ++ others) (x ∷ []))
handed false xs x others more is = ap (λ ys. ys ++ more) is

-- where both sides are empty nothing is at hand
pub none_at_hand : (down : Bool) (rising falling : List Elem) → rising ≡ [] → falling ≡ [] → (if down then falling else rising) ≡ []
none_at_hand true rising falling none nothing = nothing
none_at_hand false rising falling none nothing = none

pub side_at_hand : (down : Bool) (elements rising falling : List Elem) → AreSides down elements rising falling → (if down then falling else rising) ≡ elements
side_at_hand true elements rising falling sides = sides.1
side_at_hand false elements rising falling sides = sides.0
