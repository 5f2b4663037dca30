-- What stands ahead of a walk in its next leaf.
use Rattle.std.proofs.Common.{◌≡◌, Bool, ◌+◌, ◌*◌, ◌≤◌, List, [], length, ap, sym, ◌∙◌, subst, inl, inr, arith}
use Rattle.std.specs.Borrow.{Bor}
use Rattle.arc_core.specs.declared.trees.Elem.{Elem}
use Rattle.arc_core.specs.TreeContents.{IsRising}
use Rattle.btree_nodes.specs.Subtree.{Subtree}
use Rattle.btree_scan.specs.Descents.{IsCut, IsNearest, IsNearLeaf}
use Rattle.btree_scan.specs.Directions.{joined}
use Rattle.btree_scan.specs.Ways.{ahead, credit_of, AreLevels, IsWay}
use Rattle.btree_scan.proofs.DirectionLemmas.{rising_farther}
use Rattle.btree_scan.proofs.CreditLemmas.{credit_most, credit_none, credit_spent}

-- nothing ahead is a way
pub no_way : (down : Bool) → IsWay down []
no_way down = record { rising = λ i j d before within. absurd (omega arith); levels = tt; fits = omega arith }

pub cut_way : (down : Bool) (low new : List (Bor (List Subtree))) (leaf elements : List Elem) → IsRising (joined down leaf (ahead down low)) → AreLevels 1 low → length low ≤ 7 → IsCut leaf elements low new → IsWay down new
cut_way down low new leaf elements rising levels fits (inl none) = subst (λ way. IsWay down way) (sym none) (no_way down)
cut_way down low new leaf elements rising levels fits (inr same) =
    subst (λ way. IsWay down way) (sym same.0) (record { rising = rising_farther down leaf (ahead down low) rising; levels = levels; fits = fits })

pub next_way : (down : Bool) (old mid low new : List (Bor (List Subtree))) (child : Subtree) (leaf elements : List Elem) → IsWay down old → IsNearest down old child mid → IsNearLeaf down mid child leaf low → IsCut leaf elements low new → IsWay down new
next_way down old mid low new child leaf elements is nearest near cut =
    cut_way down low new leaf elements (subst IsRising (nearest.elements ∙ sym near.elements) is.rising) near.levels (omega (arith, near.depth, nearest.depth, is.fits)) cut

pub next_some : (down : Bool) (mid low new : List (Bor (List Subtree))) (child : Subtree) (leaf elements : List Elem) → IsNearLeaf down mid child leaf low → IsCut leaf elements low new → elements ≡ [] → ahead down new ≡ []
next_some down mid low new child leaf elements near (inl none) empty = ap (ahead down) none
next_some down mid low new child leaf elements near (inr same) empty = absurd (omega (arith, near.least, ap length (sym same.1 ∙ empty)))

pub next_spent : (down : Bool) (old mid low new : List (Bor (List Subtree))) (child : Subtree) (leaf elements : List Elem) → IsWay down old → IsNearest down old child mid → IsNearLeaf down mid child leaf low → IsCut leaf elements low new
    → 8 * child.height + credit_of down (length elements) new ≤ credit_of down 0 old
next_spent down old mid low new child leaf elements is nearest near (inl none) =
    omega (arith, credit_spent down old mid low child leaf is.fits nearest near, credit_none down (length elements) new (ap (ahead down) none))
next_spent down old mid low new child leaf elements is nearest near (inr same) =
    omega (arith, credit_spent down old mid low child leaf is.fits nearest near, credit_most down (length leaf) low, ap (λ way. credit_of down (length elements) way) same.0, ap (λ xs. credit_of down (length xs) low) same.1)
